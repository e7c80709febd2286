-- What answering the messages of an input comes to, with the causes of its faults.
use Rattle.std.specs.Prelude.{◌≡◌, ◌⊎◌, ℕ, List}
use Rattle.gx_station.specs.Counts.{Rose}
use Rattle.gx_station.specs.Stations.{StationMeanings}
use Rattle.product_file.specs.Products.{ProductLists}
use Rattle.match_journal.specs.Causes.{ReadsOnly}
use Rattle.journal_print.specs.Reading.{ReadsAndSends}
use Rattle.journal_print.specs.declared.unprinted.Unprinted.TheVariants as unprinted
use Rattle.globex_run.specs.Outside.{Streams}
use Rattle.globex_run.specs.Answering.{StopsUnread, AnswersMessages}
use Rattle.globex_run.specs.Inner.Serving.{CausedBy}
use Rattle.globex_run.specs.declared.outcome.Outcome.{Outcome}

module _ {I S : Type 0} (m : StationMeanings S) (product : ProductLists) (text : List ℕ) (before after : Streams I S) (outcome : Outcome) where
  -- the journal was not read to its end: the station was only read
  pub record StopsWithCause : Type 0 where
    pub stops : StopsUnread m product text before after outcome
    pub reads : ReadsOnly m before.station.object after.station.object
    pub store : stops.why ≡ unprinted.Store → Rose before.station.store_faults after.station.store_faults
    pub no_store : (stops.why ≡ unprinted.Store → ⊥) → after.station.store_faults ≡ before.station.store_faults
    pub send_faults : after.station.send_faults ≡ before.station.send_faults

  -- messages were answered
  pub record AnswersWithCause : Type 0 where
    pub did : AnswersMessages m product text before after outcome
    pub reads : ReadsAndSends m before.station.object after.station.object
    pub cause : CausedBy did.ending before after

  abbrev pub AnswersWithCauses : Type 0
  AnswersWithCauses = StopsWithCause ⊎ AnswersWithCause
