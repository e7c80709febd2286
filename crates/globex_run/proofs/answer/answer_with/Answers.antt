use Rattle.std.proofs.Common.{◌<◌, sym, ap, subst}
use Rattle.gx_base.specs.declared.order.Desk.{Desk}
use Rattle.journal_print.specs.declared.unprinted.Unprinted.TheVariants as unprinted
use Rattle.globex_run.specs.Outside.{source_at}
use Rattle.globex_run.proofs.AnswerMessages.{counts-below, can-resend, never, stops, answers}
use Rattle.globex_run.proofs.answer.answer_with.Goals as goal

pub answer_input-answered-requires-clause-counted : goal.answer_input-answered-requires-clause-counted
answer_input-answered-requires-clause-counted g c =
    counts-below c.desk-desk.result.now c.desk-desk.ensures.counters (subst (λ (d : Desk). d.messages < 16777216) (sym c.desk-desk.ensures.desk) c.in-Ok.ensures.few)

pub answer_input-answered-requires-clause-can : goal.answer_input-answered-requires-clause-can
answer_input-answered-requires-clause-can g c =
    can-resend g.S.Station.meanings c.args.taken.now.product.now c.note_kept-noted.new.reader c.note_kept-noted.new.station c.in-Ok.ensures.idle c.in-Ok.kept c.in-Ok.ensures.again

pub returns-in-Err : goal.returns-in-Err
returns-in-Err g c =
    let e = c.in-Err.ensures in
    stops g.S.Station.meanings c.args.taken.now.product.now c.args.taken.now.text.now (source_at g.I.Source.meanings c.args.input.now) c.args.station.now c.note_kept-noted.new.station c.note_kept-noted.ensures.reads c.outcome_printed.result c.in-Err.why c.new-sessions.result c.note_kept-noted.new.sessions c.note_kept-noted.new.reader.core c.outcome_printed.ensures e.send e.store e.no_store e.notes

pub returns : goal.returns
returns g c =
    let e = c.in-Ok.ensures in
    answers g.S.Station.meanings c.args.taken.now.product.now c.args.taken.now.text.now (source_at g.I.Source.meanings c.args.input.now) c.args.station.now c.note_kept-noted.new.station c.note_kept-noted.ensures.reads
    (source_at g.I.Source.meanings c.answer_input-answered.new.input) c.answer_input-answered.new.station (e.no_store (never c.in-Ok.kept unprinted.Store)) c.outcome.result c.answer_input-answered.result.ending c.answer_input-answered.result.messages c.new-sessions.result c.note_kept-noted.new.sessions c.note_kept-noted.new.reader.core c.desk-desk.result.now.lines c.in-Ok.kept
    c.outcome.ensures c.new-sessions.ensures (ap (λ (d : Desk). d.lines) c.desk-desk.ensures.desk) e.again e.notes c.answer_input-answered.ensures
