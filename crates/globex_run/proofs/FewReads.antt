-- How much of the journal is read, where no call on the store failed.
use Rattle.globex_run.specs.Inner.Keeping.{KeepsEvents}
use Rattle.std.proofs.Common.{◌≡◌, inl, inr, ℕ, List, Option, Some, sym, ap, subst}
use Rattle.std.proofs.lemmas.Bool.Decides.{eqb_tells}
use Rattle.gx_base.specs.declared.event.Event.{Event}
use Rattle.gx_station.specs.Stations.{StationMeanings}
use Rattle.match_journal.specs.Causes.{ReadsAtMost}
use Rattle.product_file.specs.Products.{ProductLists}
use Rattle.order_kinds.specs.State.{State}
use Rattle.order_maker.specs.Stream.{MadeStream, generator_meanings}
use Rattle.book_recovery.specs.Kept.{IsStartable}
use Rattle.exec_report.specs.Forms.{LineText}
use Rattle.book_print.specs.TallyText.{no_tally}
use Rattle.book_print.specs.Printing.{tally_form}
use Rattle.globex_run.specs.Outside.{Streams, streams_at}
use Rattle.globex_run.specs.Journals.{most_read}
use Rattle.globex_run.specs.Inner.Sessions.{SessionResult}
use Rattle.globex_run.specs.Inner.Drilling.{DrillResult}
use Rattle.globex_run.specs.declared.outcome.Outcome.{Outcome}
use Rattle.order_kinds.specs.Histories.{History}

-- how a session read its journal
pub session-reads : {I S : Type 0} (m : StationMeanings S) (line : LineText) (product : ProductLists) (text : List ℕ) (before after : Streams I S) (Published : List Event → Type 0) (then : State) (outcome : Outcome) → SessionResult m line product text before after Published then outcome
    → (image : List ℕ) (kept : History) → m.is_honest before.station.object → before.station.image ≡ Some image → (startable : IsStartable product text kept image)
    → ReadsAtMost (most_read startable.records) (m.bytes_read before.station.object) (m.bytes_read after.station.object)
session-reads m line product text before after Published then outcome session image kept honest read startable = (session.from image kept honest read startable).bytes

-- the summary of a drill is sent, and nothing is read for it
pub drill-reads : {S : Type 0} (m : StationMeanings S) (product : ProductLists) (text : List ℕ) (made rest : MadeStream) (old new : S) (outcome : Outcome) → DrillResult m product text made rest old new outcome
    → (image : List ℕ) (kept : History) → m.is_honest old → m.holds old ≡ Some image → (startable : IsStartable product text kept image)
    → ReadsAtMost (most_read startable.records) (m.bytes_read old) (m.bytes_read new)
drill-reads m product text made rest old new outcome did image kept honest read startable =
    let Counted = λ (events : List Event). KeepsEvents tally_form no_tally did.tally events in
    let first = session-reads m (tally_form.text no_tally) product text (streams_at generator_meanings m made old) (streams_at generator_meanings m rest did.mid) Counted did.then did.served did.session image kept honest read startable in
    let then = λ (same : m.bytes_read new ≡ m.bytes_read did.mid). subst (λ (count : Option ℕ). ReadsAtMost (most_read startable.records) (m.bytes_read old) count) (sym same) first in
    elim (eqb_tells did.served.status 0) [
      | inl none ↦ then (did.sums_up none.1).sends.quiet.bytes_read
      | inr some ↦ then (ap m.bytes_read (did.otherwise some.1).0)
    ]
