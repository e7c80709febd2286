use Rattle.std.proofs.Common.{◌-◌, ap, ◌∙◌, arith}
use Rattle.journal_print.specs.declared.unprinted.Unprinted.TheVariants as unprinted
use Rattle.globex_run.specs.Outside.{source_at}
use Rattle.globex_run.specs.Outcomes.{outcome_of}
use Rattle.globex_run.specs.declared.ending.Ending.{Ending}
use Rattle.globex_run.proofs.AnswerMessages.{never}
use Rattle.globex_run.proofs.Collected.{not-recovered, not-sent, sent-openings}
use Rattle.globex_run.proofs.session.Session.show_openings.Goals as goal

pub returns-in-Err : goal.returns-in-Err
returns-in-Err g c =
    let e = c.in-Err.ensures in
    not-recovered g.S.Station.meanings c.args.self.now.product.now c.args.self.now.text.now (source_at g.I.Source.meanings c.args.input.now) c.args.station.now c.recover_kept-recovered.new.station c.recover_kept-recovered.ensures.reads c.outcome.result c.in-Err.why
    (c.outcome.ensures ∙ ap (λ (x : Ending). outcome_of x 0) c.ending_unread.ensures) e.no_send e.memory e.store e.none (λ image known. (c.recover_kept-recovered.new.core, e.recovers image known))

pub returns-in-Done : goal.returns-in-Done
returns-in-Done g c =
    let k = c.messages.result - c.messages-earlier.result in
    sent-openings g.S.Station.meanings c.args.self.now.product.now c.args.self.now.text.now (source_at g.I.Source.meanings c.args.input.now) c.args.station.now c.recover_kept-recovered.new.station c.recover_kept-recovered.ensures.reads
    (c.in_default.ensures.none (never c.in_default.field-0 unprinted.Store)) c.in_default.field-0 c.recover_kept-recovered.new.core c.collect_input-ending.new.self.engine.core c.in_default.ensures.recovers
    (source_at g.I.Source.meanings c.collect_input-ending.new.input) c.collect_input-ending.result c.collect_input-ending.ensures.collects
    c.in-Done.is c.outcome-in-Done.result c.print_opening-sent.new.station c.print_opening-sent.result c.print_opening-sent.ensures.sends
    k (c.outcome-in-Done.ensures ∙ ap (λ (x : Ending). outcome_of x k) c.of_sent.ensures) (omega (arith, c.messages.ensures.count, c.messages-earlier.ensures.count))

pub returns-in_default-ending : goal.returns-in_default-ending
returns-in_default-ending g c =
    let k = c.messages.result - c.messages-earlier.result in
    not-sent g.S.Station.meanings c.args.self.now.product.now c.args.self.now.text.now (source_at g.I.Source.meanings c.args.input.now) c.args.station.now c.recover_kept-recovered.new.station c.recover_kept-recovered.ensures.reads
    (c.in_default.ensures.none (never c.in_default.field-0 unprinted.Store)) c.in_default.field-0 c.recover_kept-recovered.new.core c.collect_input-ending.new.self.engine.core c.in_default.ensures.recovers
    (source_at g.I.Source.meanings c.collect_input-ending.new.input) c.collect_input-ending.result c.collect_input-ending.ensures.collects
    c.outcome-in_default-ending.result k c.outcome-in_default-ending.ensures (omega (arith, c.messages.ensures.count, c.messages-earlier.ensures.count)) c.in_default-ending.not-Done
