use Rattle.std.proofs.Common.{◌≡◌, IfOk, List, ℕ, subst}
use Rattle.match_journal.specs.Causes.{ReadsOnly}
use Rattle.journal_print.specs.Printed.{PrintsMessages}
use Rattle.journal_print.specs.Works.{work_text, work_whole}
use Rattle.feed_print.specs.FeedPlaces.{FeedPlace, feed_start}
use Rattle.feed_print.specs.FeedWorks.{feed_work}
use Rattle.globex_run.specs.declared.outcome.Outcome.{Outcome}
use Rattle.globex_run.specs.Inner.Printing.{PrintsKept}
use Rattle.globex_run.proofs.execute.levels.Goals as goal

pub returns-clause-prints : goal.returns-clause-prints
returns-clause-prints g c =
    let m = g.S.Station.meanings in
    let old = c.args.station.now in
    let new = c.print_each_record.new.station in
    let is_new : c.in_ok-work.work ≡ feed_start = c.in_ok-work.ensures in
    subst (λ (work : FeedPlace). IfOk c.print_each_record.result (λ (outcome : Outcome). PrintsKept m old new outcome (ReadsOnly m old new)
    (λ (image : List ℕ). PrintsMessages m c.args.taken.now.product.now c.args.taken.now.text.now image old new (work_text feed_work work) (work_whole feed_work work))))
    is_new c.print_each_record.ensures.prints
