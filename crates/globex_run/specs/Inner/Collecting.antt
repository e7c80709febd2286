-- What collecting the messages of an input comes to, with the causes of its faults.
use Rattle.std.specs.Prelude.{◌≡◌, ℕ, ◌+◌, ◌≤◌, List, length, None}
use Rattle.gx_station.specs.Sources.{and_left}
use Rattle.gx_station.specs.Stations.{StationMeanings}
use Rattle.fix_frame.specs.Stream.{messages_of}
use Rattle.product_file.specs.Products.{ProductLists}
use Rattle.order_kinds.specs.State.{State, state_numbered}
use Rattle.order_kinds.specs.Cores.{AreNumbered}
use Rattle.order_kinds.specs.Collecting.{collected}
use Rattle.journal_print.specs.Reading.{ReadsAndSends}
use Rattle.journal_print.specs.declared.unprinted.Unprinted.{Unprinted}
use Rattle.journal_print.specs.declared.unprinted.Unprinted.TheVariants as unprinted
use Rattle.globex_run.specs.Outside.{SourceAt, Streams}
use Rattle.globex_run.specs.OpeningPrices.{IsCounted, ShowsOpenings}
use Rattle.globex_run.specs.RunResult.{EndsAs, first_messages}
use Rattle.globex_run.specs.Inner.Serving.{CausedBy}
use Rattle.globex_run.specs.declared.outcome.Outcome.{Outcome}
use Rattle.globex_run.specs.declared.ending.Ending.{Ending}
use Rattle.globex_run.specs.declared.ending.Ending.TheVariants.{Done, ReadFault, StoreFault, BadFrame, Truncated, NotAJournal, JournalBad, ProductDiffers, Full}

-- how a command ends whose journal was not recovered, for a reason that recovery has
abbrev pub ending_unread : Unprinted → Ending
ending_unread unprinted.Store = StoreFault
ending_unread unprinted.NoMemory = StoreFault
ending_unread unprinted.Send = StoreFault
ending_unread (unprinted.NotAJournal at) = NotAJournal at
ending_unread (unprinted.Bad at) = JournalBad at
ending_unread (unprinted.ProductDiffers at) = ProductDiffers at

-- some frames were collected, one after the other
pub record CollectsFrames (product : ProductLists) (old new : State) (frames : List (List ℕ)) : Type 0 where
  pub count : new.desk.messages ≡ old.desk.messages + length frames
  pub numbered : AreNumbered old → AreNumbered new
  pub state : AreNumbered old → state_numbered new ≡ collected product (state_numbered old) frames

-- an ending of the input, and not of the journal or of sending
abbrev pub IsOfInput : Ending → Type 0
IsOfInput Done = Unit {0}
IsOfInput (ReadFault place) = Unit {0}
IsOfInput (BadFrame place) = Unit {0}
IsOfInput (Truncated place) = Unit {0}
IsOfInput (Full place) = Unit {0}
IsOfInput ending = ⊥

-- the input alone, beside a station of which nothing is said
abbrev pub input_alone : {I : Type 0} → SourceAt I → Streams I (Unit {0})
input_alone input = record { input = input; station = record { object = tt; image = None; sent = None; store_faults = 0; send_faults = 0 } }

-- The messages of the input were collected until an ending.
pub record CollectsInput {I : Type 0} (product : ProductLists) (before after : SourceAt I) (old new : State) (ending : Ending) : Type 0 where
  pub of_input : IsOfInput ending
  pub count : ℕ
  pub taken : List ℕ
  pub took : before.left ≡ and_left taken after.left
  pub some : count ≤ length (messages_of taken)
  pub ends : EndsAs (input_alone before) (input_alone after) ending count taken
  pub collects : CollectsFrames product old new (first_messages count taken)
  pub counted : IsCounted ending new.desk.messages
  pub cause : CausedBy ending (input_alone before) (input_alone after)

-- The openings were shown, or not, with the cause of a fault; the journal was only read.
pub record ShowsWithCause {I S : Type 0} (m : StationMeanings S) (product : ProductLists) (text : List ℕ) (before after : Streams I S) (outcome : Outcome) : Type 0 where
  pub shows : ShowsOpenings product text before after outcome
  pub reads : ReadsAndSends m before.station.object after.station.object
  pub cause : CausedBy shows.ending before after
