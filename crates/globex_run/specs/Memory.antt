-- What want of memory leaves.
use Rattle.std.specs.Prelude.{◌≡◌, ◌⊎◌, List, ℕ, Some}
use Rattle.gx_station.specs.Stations.{StationMeanings}
use Rattle.product_file.specs.Products.{ProductLists}
use Rattle.match_journal.specs.Causes.{ReadsOnly}
use Rattle.match_journal.specs.Opening.{IsOpenedOf}
use Rattle.book_recovery.specs.BadPlaces.{HasAmendment}
use Rattle.command_words.specs.declared.command.Command.{Command}
use Rattle.command_words.specs.declared.command.Command.TheVariants.{Amend}
use Rattle.globex_run.specs.Outside.{Streams}
use Rattle.globex_run.specs.Words.{TakesKeptProducts}
use Rattle.globex_run.specs.Amends.{KeepsOtherText}

-- Why products of the journal take memory: `amend` takes that of another text; the others take those before the last, if there is an
-- amendment.
abbrev pub HasKeptProducts : Command → ProductLists → List ℕ → List ℕ → Type 0
HasKeptProducts Amend product text image = KeepsOtherText text image
HasKeptProducts command product text image = (opened : IsOpenedOf text product.journal_limit image) × HasAmendment opened.head product.journal_limit image

module _ {I S : Type 0} (m : StationMeanings S) (before after : Streams I S) where
  -- the journal was only read, which has such products, and the input was not touched
  pub record StopsAtProducts (command : Command) (product : ProductLists) (text : List ℕ) : Type 0 where
    pub input : after.input ≡ before.input
    pub reads : ReadsOnly m before.station.object after.station.object
    pub has : (image : List ℕ) → before.station.image ≡ Some image → HasKeptProducts command product text image

  -- nothing was touched; or products of the journal take memory after their texts were read
  abbrev pub LeavesAtNoMemory : ProductLists → List ℕ → Command → Type 0
  LeavesAtNoMemory product text command = (after ≡ before) ⊎ (TakesKeptProducts command × StopsAtProducts command product text)
