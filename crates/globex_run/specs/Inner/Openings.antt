-- What opening the journal of a product does, whatever its image.
use Rattle.std.specs.Prelude.{◌≡◌, ℕ, List, Some, Result, IfOk}
use Rattle.gx_station.specs.Stations.{StationMeanings}
use Rattle.match_journal.specs.Journal.{Header, Record}
use Rattle.match_journal.specs.Classes.{Keeps}
use Rattle.match_journal.specs.declared.standing.Standing.{Standing}
use Rattle.match_journal.specs.Texts.{HasLastText}
use Rattle.book_recovery.specs.Kept.{IsStartableWithin}
use Rattle.order_kinds.specs.Histories.{History}
use Rattle.product_file.specs.Products.{ProductLists}
use Rattle.order_kinds.specs.State.{State}
use Rattle.globex_run.specs.Inner.Sessions.{AnswersOpening, Opens, RestsBehind}
use Rattle.globex_run.specs.declared.open.Unopened.{Unopened}

module _ {S : Type 0} (m : StationMeanings S) (product : ProductLists) (limit : ℕ) (text : List ℕ) where
  -- what the image is, by the answer
  abbrev pub AnswersAny : S → Result Standing Unopened → Type 0
  AnswersAny old result = (image : List ℕ) → m.holds old ≡ Some image → AnswersOpening product limit text image result

module _ {S : Type 0} (m : StationMeanings S) (limit : ℕ) (text : List ℕ) where
  -- from an image that keeps good and true records
  abbrev pub OpensAny : S → S → State → Result Standing Unopened → Type 0
  OpensAny old new state result =
      (image : List ℕ) (kept : History) → m.is_honest old → m.holds old ≡ Some image → (startable : IsStartableWithin limit text kept image)
      → Opens m limit startable.head old new image startable.records kept state result

  -- from an image that keeps records, good or true or not
  abbrev pub RestsAny : S → S → State → Result Standing Unopened → Type 0
  RestsAny old new state result =
      (image : List ℕ) (head : Header) (records : List Record) → m.is_honest old → m.holds old ≡ Some image → HasLastText head records text
      → Keeps head limit records image → IfOk result (λ journal. RestsBehind m limit head new image records state journal)
