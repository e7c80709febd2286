use Rattle.std.proofs.Common.{IfOk, sym, subst}
use Rattle.command_words.specs.declared.command.Command.{Command}
use Rattle.command_words.specs.declared.command.Command.TheVariants.{Replay, Fills, Ledger, Levels}
use Rattle.book_print.specs.declared.ledger.Totals.{Totals}
use Rattle.journal_print.specs.declared.work.Lines.{Lines}
use Rattle.feed_print.proofs.WholeFeeds.{levels_printed}
use Rattle.journal_print.proofs.WholeTexts.{reports_printed, fills_printed, ledger_printed}
use Rattle.globex_run.specs.Outside.{source_at, streams_at}
use Rattle.globex_run.specs.Inner.Executing.{IsExecuted}
use Rattle.globex_run.specs.declared.outcome.Outcome.{Outcome}
use Rattle.globex_run.proofs.AmendExecuted.{amend-executed}
use Rattle.globex_run.proofs.Executed.{if-ok, steps-executed, book-executed, each-executed, session-executed}
use Rattle.globex_run.proofs.Rebuilt.{rebuild-executed}
use Rattle.globex_run.proofs.execute.executed.Goals as goal

pub returns-in-Run-clause-did : goal.returns-in-Run-clause-did
returns-in-Run-clause-did g c =
    let m = g.S.Station.meanings in
    let before = streams_at g.I.Source.meanings m c.args.input.now c.args.station.now in
    let after = streams_at g.I.Source.meanings m c.in_session.new.input c.in_session.new.station in
    subst (λ (x : Command). IfOk c.in_session.result (λ (outcome : Outcome). IsExecuted m c.args.taken.now.product.now c.args.taken.now.text.now before after outcome x)) (sym c.in-Run.is)
    c.in_session.ensures.did

pub returns-in-Drill-clause-did : goal.returns-in-Drill-clause-did
returns-in-Drill-clause-did g c =
    let m = g.S.Station.meanings in
    let before = streams_at g.I.Source.meanings m c.args.input.now c.args.station.now in
    let after = streams_at g.I.Source.meanings m c.in_session-in-Drill.new.input c.in_session-in-Drill.new.station in
    subst (λ (x : Command). IfOk c.in_session-in-Drill.result (λ (outcome : Outcome). IsExecuted m c.args.taken.now.product.now c.args.taken.now.text.now before after outcome x)) (sym c.in-Drill.is)
    c.in_session-in-Drill.ensures.did

pub returns-in-Checkpoint-clause-did : goal.returns-in-Checkpoint-clause-did
returns-in-Checkpoint-clause-did g c =
    let m = g.S.Station.meanings in
    let before = streams_at g.I.Source.meanings m c.args.input.now c.args.station.now in
    let after = streams_at g.I.Source.meanings m c.in_session-in-Checkpoint.new.input c.in_session-in-Checkpoint.new.station in
    subst (λ (x : Command). IfOk c.in_session-in-Checkpoint.result (λ (outcome : Outcome). IsExecuted m c.args.taken.now.product.now c.args.taken.now.text.now before after outcome x)) (sym c.in-Checkpoint.is)
    c.in_session-in-Checkpoint.ensures.did

pub returns-in-Steps-clause-did : goal.returns-in-Steps-clause-did
returns-in-Steps-clause-did g c =
    let m = g.S.Station.meanings in
    let before = streams_at g.I.Source.meanings m c.args.input.now c.args.station.now in
    let after = streams_at g.I.Source.meanings m c.args.input.now c.list_steps.new.station in
    subst (λ (x : Command). IfOk c.list_steps.result (λ (outcome : Outcome). IsExecuted m c.args.taken.now.product.now c.args.taken.now.text.now before after outcome x)) (sym c.in-Steps.is)
    (if-ok c.list_steps.result _ _ (λ outcome printed. steps-executed m c.args.taken.now.product.now c.args.taken.now.text.now (source_at g.I.Source.meanings c.args.input.now) c.args.station.now c.list_steps.new.station outcome c.limits.ensures printed) c.list_steps.ensures.steps)

pub returns-in-Book-clause-did : goal.returns-in-Book-clause-did
returns-in-Book-clause-did g c =
    let m = g.S.Station.meanings in
    let before = streams_at g.I.Source.meanings m c.args.input.now c.args.station.now in
    let after = streams_at g.I.Source.meanings m c.args.input.now c.print_last_book.new.station in
    subst (λ (x : Command). IfOk c.print_last_book.result (λ (outcome : Outcome). IsExecuted m c.args.taken.now.product.now c.args.taken.now.text.now before after outcome x)) (sym c.in-Book.is)
    (if-ok c.print_last_book.result _ _ (λ outcome printed. book-executed m c.args.taken.now.product.now c.args.taken.now.text.now (source_at g.I.Source.meanings c.args.input.now) c.args.station.now c.print_last_book.new.station outcome c.limits.ensures printed) c.print_last_book.ensures.prints)

pub returns-in-Replay-clause-did : goal.returns-in-Replay-clause-did
returns-in-Replay-clause-did g c =
    let m = g.S.Station.meanings in
    let before = streams_at g.I.Source.meanings m c.args.input.now c.args.station.now in
    let after = streams_at g.I.Source.meanings m c.args.input.now c.print_each_record.new.station in
    subst (λ (x : Command). IfOk c.print_each_record.result (λ (outcome : Outcome). IsExecuted m c.args.taken.now.product.now c.args.taken.now.text.now before after outcome x)) (sym c.in-Replay.is)
    (if-ok c.print_each_record.result _ _ (λ outcome printed. each-executed m c.args.taken.now.product.now c.args.taken.now.text.now (source_at g.I.Source.meanings c.args.input.now) c.args.station.now c.print_each_record.new.station outcome c.limits.ensures Replay (λ never. never) _ printed tt (λ image told. told.0) (λ prints. prints)
    (λ form. record { answer = form.answer; outcome_is = form.outcome_is; prints = λ image read. reports_printed m c.args.taken.now.product.now c.args.taken.now.text.now image c.args.station.now c.print_each_record.new.station _ form.answer (form.prints image read) })) c.print_each_record.ensures.prints)

pub returns-in-Fills-clause-did : goal.returns-in-Fills-clause-did
returns-in-Fills-clause-did g c =
    let m = g.S.Station.meanings in
    let before = streams_at g.I.Source.meanings m c.args.input.now c.args.station.now in
    let after = streams_at g.I.Source.meanings m c.args.input.now c.print_each_record-in-Fills.new.station in
    subst (λ (x : Command). IfOk c.print_each_record-in-Fills.result (λ (outcome : Outcome). IsExecuted m c.args.taken.now.product.now c.args.taken.now.text.now before after outcome x)) (sym c.in-Fills.is)
    (if-ok c.print_each_record-in-Fills.result _ _ (λ outcome printed. each-executed m c.args.taken.now.product.now c.args.taken.now.text.now (source_at g.I.Source.meanings c.args.input.now) c.args.station.now c.print_each_record-in-Fills.new.station outcome c.limits.ensures Fills (λ never. never) _ printed tt (λ image told. told.0) (λ prints. prints)
    (λ form. record { answer = form.answer; outcome_is = form.outcome_is; prints = λ image read. fills_printed m c.args.taken.now.product.now c.args.taken.now.text.now image c.args.station.now c.print_each_record-in-Fills.new.station _ form.answer (form.prints image read) })) c.print_each_record-in-Fills.ensures.prints)

pub returns-in-Ledger-clause-did : goal.returns-in-Ledger-clause-did
returns-in-Ledger-clause-did g c =
    let m = g.S.Station.meanings in
    let before = streams_at g.I.Source.meanings m c.args.input.now c.args.station.now in
    let after = streams_at g.I.Source.meanings m c.args.input.now c.print_each_record-in-Ledger.new.station in
    subst (λ (x : Command). IfOk c.print_each_record-in-Ledger.result (λ (outcome : Outcome). IsExecuted m c.args.taken.now.product.now c.args.taken.now.text.now before after outcome x)) (sym c.in-Ledger.is)
    (if-ok c.print_each_record-in-Ledger.result _ _ (λ outcome printed. each-executed m c.args.taken.now.product.now c.args.taken.now.text.now (source_at g.I.Source.meanings c.args.input.now) c.args.station.now c.print_each_record-in-Ledger.new.station outcome c.limits.ensures Ledger (λ never. never) _ printed tt (λ image told. told.0) (λ prints. prints)
    (λ form. record { answer = form.answer; outcome_is = form.outcome_is; prints = λ image read. let lines : Lines Totals = record { form = c.new.result } in ledger_printed m c.args.taken.now.product.now c.args.taken.now.text.now image c.args.station.now c.print_each_record-in-Ledger.new.station c.limits.ensures lines c.new.ensures form.answer (form.prints image read) })) c.print_each_record-in-Ledger.ensures.prints)

pub returns-in-Amend-clause-did : goal.returns-in-Amend-clause-did
returns-in-Amend-clause-did g c =
    let m = g.S.Station.meanings in
    let before = streams_at g.I.Source.meanings m c.args.input.now c.args.station.now in
    let after = streams_at g.I.Source.meanings m c.args.input.now c.amend.new.station in
    subst (λ (x : Command). IfOk c.amend.result (λ (outcome : Outcome). IsExecuted m c.args.taken.now.product.now c.args.taken.now.text.now before after outcome x)) (sym c.in-Amend.is)
    (if-ok c.amend.result _ _ (λ outcome did. amend-executed m c.args.taken.now.product.now c.args.taken.now.text.now (source_at g.I.Source.meanings c.args.input.now) c.args.station.now c.amend.new.station outcome did) c.amend.ensures.did)

pub returns-in-Session-clause-did : goal.returns-in-Session-clause-did
returns-in-Session-clause-did g c =
    let m = g.S.Station.meanings in
    let before = streams_at g.I.Source.meanings m c.args.input.now c.args.station.now in
    let after = streams_at g.I.Source.meanings m c.answer_messages.new.input c.answer_messages.new.station in
    subst (λ (x : Command). IfOk c.answer_messages.result (λ (outcome : Outcome). IsExecuted m c.args.taken.now.product.now c.args.taken.now.text.now before after outcome x)) (sym c.in-Session.is)
    (if-ok c.answer_messages.result _ _ (λ outcome answered. session-executed m c.args.taken.now.product.now c.args.taken.now.text.now (source_at g.I.Source.meanings c.args.input.now) (source_at g.I.Source.meanings c.answer_messages.new.input) c.args.station.now c.answer_messages.new.station outcome c.limits.ensures answered) c.answer_messages.ensures.answers)

pub returns-in-Opening-clause-did : goal.returns-in-Opening-clause-did
returns-in-Opening-clause-did g c =
    let m = g.S.Station.meanings in
    let before = streams_at g.I.Source.meanings m c.args.input.now c.args.station.now in
    let after = streams_at g.I.Source.meanings m c.in_session-in-Opening.new.input c.in_session-in-Opening.new.station in
    subst (λ (x : Command). IfOk c.in_session-in-Opening.result (λ (outcome : Outcome). IsExecuted m c.args.taken.now.product.now c.args.taken.now.text.now before after outcome x)) (sym c.in-Opening.is)
    c.in_session-in-Opening.ensures.did

pub returns-in-Rebuild-clause-did : goal.returns-in-Rebuild-clause-did
returns-in-Rebuild-clause-did g c =
    let m = g.S.Station.meanings in
    let before = streams_at g.I.Source.meanings m c.args.input.now c.args.station.now in
    let after = streams_at g.I.Source.meanings m c.rebuild.new.input c.rebuild.new.station in
    subst (λ (x : Command). IfOk c.rebuild.result (λ (outcome : Outcome). IsExecuted m c.args.taken.now.product.now c.args.taken.now.text.now before after outcome x)) (sym c.in-Rebuild.is)
    (if-ok c.rebuild.result _ _ (λ outcome did. rebuild-executed m c.args.taken.now.product.now c.args.taken.now.text.now before after outcome c.limits.ensures did) c.rebuild.ensures.rebuilds)

pub returns-in-Levels-clause-did : goal.returns-in-Levels-clause-did
returns-in-Levels-clause-did g c =
    let m = g.S.Station.meanings in
    let before = streams_at g.I.Source.meanings m c.args.input.now c.args.station.now in
    let after = streams_at g.I.Source.meanings m c.args.input.now c.levels.new.station in
    subst (λ (x : Command). IfOk c.levels.result (λ (outcome : Outcome). IsExecuted m c.args.taken.now.product.now c.args.taken.now.text.now before after outcome x)) (sym c.in-Levels.is)
    (if-ok c.levels.result _ _ (λ outcome printed. each-executed m c.args.taken.now.product.now c.args.taken.now.text.now (source_at g.I.Source.meanings c.args.input.now) c.args.station.now c.levels.new.station outcome c.limits.ensures Levels (λ never. never) _ printed tt (λ image told. told.0) (λ prints. prints)
    (λ form. record { answer = form.answer; outcome_is = form.outcome_is; prints = λ image read. levels_printed m c.args.taken.now.product.now c.args.taken.now.text.now image c.args.station.now c.levels.new.station c.limits.ensures form.answer (form.prints image read) })) c.levels.ensures.prints)
