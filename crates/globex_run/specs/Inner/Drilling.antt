-- A drill: the made messages are served, nothing is sent of them, and where all of them are kept their summary is sent.
use Rattle.globex_run.specs.Inner.Keeping.{KeepsEvents}
use Rattle.std.specs.Prelude.{◌≡◌, ◌≢◌, ℕ, List, [], length, Result}
use Rattle.gx_station.specs.Stations.{StationMeanings}
use Rattle.gx_station.specs.Quiet.{Sends}
use Rattle.fix_frame.specs.Stream.{rest_of}
use Rattle.product_file.specs.Products.{ProductLists}
use Rattle.plain_book.specs.Book.{live_orders}
use Rattle.order_kinds.specs.State.{State}
use Rattle.order_maker.specs.Stream.{MadeStream, generator_meanings, made_stream}
use Rattle.exec_report.specs.declared.texts.SendFault.{SendFault}
use Rattle.book_print.specs.TallyText.{no_tally, tally_line}
use Rattle.book_print.specs.Printing.{tally_form}
use Rattle.book_print.specs.declared.tally.Tally.{Tally}
use Rattle.globex_run.specs.Outside.{streams_at}
use Rattle.globex_run.specs.Prints.{outcome_sent}
use Rattle.globex_run.specs.Inner.Sessions.{SessionResult}
use Rattle.globex_run.specs.declared.outcome.Outcome.{Outcome}

-- the summary of so many messages was sent, or a part of it
pub record SumsUp {S : Type 0} (m : StationMeanings S) (old new : S) (tally : Tally) (then : State) (count : ℕ) (outcome : Outcome) : Type 0 where
  pub result : Result (Unit {0}) SendFault
  pub sends : Sends m old new (tally_line count tally (length (live_orders then.book))) result
  pub outcome_is : outcome ≡ outcome_sent count result

module _ {S : Type 0} (m : StationMeanings S) (product : ProductLists) (text : List ℕ) (made rest : MadeStream) (old new : S) where
  pub record DrillResult (outcome : Outcome) : Type 0 where
    pub mid : S
    pub tally : Tally
    pub then : State
    pub served : Outcome
    pub session : SessionResult m (tally_form.text no_tally) product text (streams_at generator_meanings m made old) (streams_at generator_meanings m rest mid) (λ events. KeepsEvents tally_form no_tally tally events) then served
    pub silent : served.status ≢ 6
    pub otherwise : served.status ≢ 0 → (new ≡ mid) × (outcome ≡ served)
    pub sums_up : served.status ≡ 0 → SumsUp m mid new tally then served.messages outcome

module _ {S : Type 0} (m : StationMeanings S) (product : ProductLists) (text : List ℕ) (first count : ℕ) (old new : S) (outcome : Outcome) where
  -- the messages of these numbers were made, whole, and served
  pub record DrillsMade : Type 0 where
    pub whole : rest_of (made_stream product first count) ≡ []
    pub end : MadeStream
    pub did : DrillResult m product text (record { left = made_stream product first count; reads = 0 }) end old new outcome
