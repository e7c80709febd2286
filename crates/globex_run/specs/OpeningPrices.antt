-- What `opening` sends: at which price each instrument would open, with the orders of the input collected on the book that the journal keeps.
use Rattle.std.specs.Prelude.{◌≡◌, ◌⊎◌, ℕ, ◌+◌, ◌<◌, ◌≤◌, List, length, Some}
use Rattle.gx_base.specs.KnownBytes.{IsKnownPrefix}
use Rattle.gx_station.specs.Sources.{and_left}
use Rattle.gx_station.specs.Stations.{sent_and}
use Rattle.fix_frame.specs.Stream.{messages_of}
use Rattle.product_file.specs.Products.{ProductLists}
use Rattle.plain_book.specs.Book.{AllDiffer}
use Rattle.plain_book.specs.Numbers.{numbered}
use Rattle.order_kinds.specs.State.{State}
use Rattle.order_kinds.specs.Collecting.{collected}
use Rattle.order_kinds.specs.Histories.{History, length_kept, state_kept}
use Rattle.order_kinds.specs.declared.core_state.TheConstants.{MOST_MESSAGES}
use Rattle.open_auction.specs.OpeningText.{opening_text}
use Rattle.open_auction.specs.Laws.{NoPriceOpensMore, TiesFallByTheRules, CandidatesAreThePrices, PairsAddUp}
use Rattle.book_recovery.specs.Kept.{IsTrueImage, CanBeRecovered}
use Rattle.journal_print.specs.KeptStates.{count_recovered}
use Rattle.globex_run.specs.Outside.{Streams}
use Rattle.globex_run.specs.Outcomes.{outcome_of}
use Rattle.globex_run.specs.Journals.{AnswersImage}
use Rattle.globex_run.specs.RunResult.{IsUnread, EndsAs}
use Rattle.globex_run.specs.Headline.{IsServed}
use Rattle.globex_run.specs.declared.outcome.Outcome.{Outcome}
use Rattle.globex_run.specs.declared.ending.Ending.{Ending}
use Rattle.globex_run.specs.declared.ending.Ending.TheVariants.{Done, StoreFault, SendFault, NotAJournal, JournalBad, ProductDiffers, Full}

-- the state after these messages were collected on the book of this history
abbrev pub collected_on : ProductLists → History → List (List ℕ) → State
collected_on product kept messages = collected product (state_kept kept) messages

-- Why collecting ended, by the bytes taken and how many messages were collected: as serving ends, but that the journal is opened before the
-- input is read, and the openings are sent after all of it.
abbrev pub EndsCollecting : {I S : Type 0} → Streams I S → Streams I S → Ending → ℕ → List ℕ → Type 0
EndsCollecting before after StoreFault count taken = IsUnread before after count taken
EndsCollecting before after SendFault count taken = EndsAs before after Done count taken
EndsCollecting before after ending count taken = EndsAs before after ending count taken

-- So many messages are counted at this ending, the kept ones too: 12 comes exactly at a message that is one more than a core counts.
abbrev pub IsCounted : Ending → ℕ → Type 0
IsCounted StoreFault count = Unit {0}
IsCounted (NotAJournal place) count = Unit {0}
IsCounted (JournalBad place) count = Unit {0}
IsCounted (ProductDiffers place) count = Unit {0}
IsCounted (Full place) count = count + 1 ≡ MOST_MESSAGES
IsCounted ending count = count < MOST_MESSAGES

module _ (product : ProductLists) (text image : List ℕ) where
  -- A state was recovered from the image, by which so many messages are counted now.
  abbrev pub CountsRecovered : Ending → ℕ → Type 0
  CountsRecovered ending count = (recovered : CanBeRecovered product text product.journal_limit image) × IsCounted ending (count_recovered recovered + count)

  -- what the image of entry is, by how collecting ended
  abbrev pub FitsOpening : Ending → ℕ → Type 0
  FitsOpening StoreFault count = Unit {0}
  FitsOpening (NotAJournal place) count = AnswersImage product text image (NotAJournal place)
  FitsOpening (JournalBad place) count = AnswersImage product text image (JournalBad place)
  FitsOpening (ProductDiffers place) count = AnswersImage product text image (ProductDiffers place)
  FitsOpening ending count = CountsRecovered ending count

-- the openings of this state were sent, and no two of its resting orders have one number
pub record SentOpenings {I S : Type 0} (product : ProductLists) (before after : Streams I S) (state : State) : Type 0 where
  pub sent : after.station.sent ≡ sent_and before.station.sent (opening_text product state)
  pub differ : AllDiffer (numbered state.book.resting)

module _ {I S : Type 0} (product : ProductLists) (text : List ℕ) (before after : Streams I S) where
  -- what holds of the history that the image of entry keeps, if each book image in it is that of the state there
  abbrev pub OfKept : (History → Type 0) → Type 0
  OfKept Holds = (image : List ℕ) → before.station.image ≡ Some image → (kept : History) → IsTrueImage product text kept image → Holds kept

  -- What was sent, by how collecting ended: the openings after all messages, a part of them, or nothing.
  abbrev pub SendsOpenings : Ending → List ℕ → Type 0
  SendsOpenings Done taken = OfKept (λ kept. SentOpenings product before after (collected_on product kept (messages_of taken)))
  SendsOpenings SendFault taken =
      OfKept (λ kept. IsKnownPrefix after.station.sent (sent_and before.station.sent (opening_text product (collected_on product kept (messages_of taken)))))
  SendsOpenings ending taken = after.station.sent ≡ before.station.sent

  -- The messages of the input were collected until an ending, and the openings sent after all of them. The outcome counts the messages
  -- collected.
  pub record ShowsOpenings (outcome : Outcome) : Type 0 where
    pub ending : Ending
    pub is : outcome ≡ outcome_of ending outcome.messages
    pub taken : List ℕ
    pub took : before.input.left ≡ and_left taken after.input.left
    pub some : outcome.messages ≤ length (messages_of taken)
    pub ends : EndsCollecting before after ending outcome.messages taken
    pub image : (image : List ℕ) → before.station.image ≡ Some image → FitsOpening product text image ending outcome.messages
    pub counted : OfKept (λ kept. IsCounted ending (length_kept kept + outcome.messages))
    pub sends : SendsOpenings ending taken

-- How collecting ends if no fault comes, where so many messages are kept: with the input, by what comes after its messages; or at the first
-- message that is one more than a core counts.
abbrev pub IsCollected : ℕ → List ℕ → ℕ → Type 0
IsCollected kept bytes status =
    ((kept + length (messages_of bytes) < MOST_MESSAGES) × IsServed bytes status) ⊎ ((MOST_MESSAGES ≤ kept + length (messages_of bytes)) × (status ≡ 12))

-- Each opening is at the best price, whatever the orders are: no price at all opens more, ties fall by the rules, the candidates are the
-- prices of the instrument's orders, and its pairs add up to the volume, within what is open of each order and within its price.
pub record OpensAtBestPrices : Type 0 where
  pub greatest : NoPriceOpensMore
  pub ties : TiesFallByTheRules
  pub candidates : CandidatesAreThePrices
  pub pairs : PairsAddUp
