-- What recovery does and answers.
use Rattle.std.specs.Prelude.{◌≡◌, ℕ, ◌+◌, ◌*◌, ◌≤◌, List, [], length, flat_map, Option, Some, None, Result, Ok, Err, vec_capacity}
use Rattle.product_file.specs.Products.{ProductLists}
use Rattle.product_file.specs.ProductTexts.{product_of}
use Rattle.order_kinds.specs.State.{State, state_numbered}
use Rattle.order_kinds.specs.Cores.{AreNumbered}
use Rattle.order_kinds.specs.Histories.{History, of_product, length_kept, state_kept}
use Rattle.book_image.specs.Image.{image_len}
use Rattle.match_journal.specs.Journal.{Header, IsJournal, Record, open_record}
use Rattle.match_journal.specs.BadRecords.{HasBadHeadAt}
use Rattle.match_journal.specs.Appending.{IsJournalTo}
use Rattle.match_journal.specs.declared.limits.TheConstants.{MOST_TEXT}
use Rattle.book_recovery.specs.Records.{from_last_image, image_gate, count_behind_all, AreGoodRecords}
use Rattle.book_recovery.specs.Histories.{AreGoodFrom, AreTrueFrom, history_behind}
use Rattle.book_recovery.specs.BadPlaces.{IsBadPlace}
use Rattle.book_recovery.specs.declared.recovery.Recovered.{Recovered}
use Rattle.book_recovery.specs.declared.recovery.RecoverFault.{RecoverFault}
use Rattle.book_recovery.specs.declared.recovery.RecoverFault.TheVariants as fault
use Rattle.book_recovery.specs.declared.scratch.Scratch.{Scratch}

-- there is room for the payload of an amendment: the longest text, its length, and each right book image of a product
abbrev pub HasRoomFor : ProductLists → Scratch → Type 0
HasRoomFor product scratch = 4 + MOST_TEXT + image_len (length product.names.instruments) product.max_orders ≤ vec_capacity scratch.payload

-- the state is that of the engine after a history, but for the slots of the orders, and order numbers differ
pub record IsStateAfter (history : History) (state : State) : Type 0 where
  pub state_is : state_numbered state ≡ state_kept history
  pub numbered : AreNumbered state
  pub count_is : state.desk.messages ≡ length_kept history

-- the place from which on all is read: the gate of the last book image, or the first gate
abbrev pub first_read : Option ℕ → ℕ → ℕ
first_read None first = first
first_read (Some image_at) first = image_at

-- How many bytes of a journal with these records are read at most to recover from it: six for each gate after the header, also
-- the closed one, and once the records from the last book image on.
abbrev pub most_to_recover : List Record → ℕ
most_to_recover records = 6 * (length records + 1) + length (flat_map open_record (from_last_image records))

-- if these records are good and true from the header's product on, this is the state after their history
abbrev pub KeptFrom : Header → List Record → State → Type 0
KeptFrom head records state =
    (first : ProductLists) → product_of head.text ≡ Ok first → AreGoodFrom first 0 records → AreTrueFrom (of_product first []) records
    → IsStateAfter (history_behind (of_product first []) records) state

-- The image is a journal up to this gate, no record of which is bad from the last book image on, and these were replayed. If no record
-- before it is bad either, and each book image in it is that of the state there, this is the state after the whole history.
pub record IsRecovered (product : ProductLists) (head : Header) (limit : ℕ) (image : List ℕ) (gate : ℕ) (state : State) (recovered : Recovered) : Type 0 where
  pub records : List Record
  pub journal : IsJournalTo head limit records gate image
  pub good : AreGoodRecords product 0 (from_last_image records)
  pub messages : recovered.messages ≡ count_behind_all 0 (from_last_image records)
  pub entries : recovered.entries ≡ length records
  pub image_at : recovered.image_at ≡ image_gate head records
  pub kept : KeptFrom head records state

-- what is answered to one who goes over the heads alone
abbrev pub ChecksHeads : Header → ℕ → List ℕ → Result (Unit {0}) RecoverFault → Type 0
ChecksHeads head limit image (Ok t) = (records : List Record) × IsJournal head limit records image
ChecksHeads head limit image (Err fault.Store) = Unit {0}
ChecksHeads head limit image (Err (fault.Bad at)) = HasBadHeadAt head limit image at

-- What is answered over an image whose first gate and header are good. Ok and Bad do not hold together, nor does Bad at two
-- places (`an_image_is_recovered_one_way`), so each comes exactly where it holds.
abbrev pub Recovers : ProductLists → Header → ℕ → List ℕ → ℕ → State → Result Recovered RecoverFault → Type 0
Recovers product head limit image gate state (Ok recovered) = IsRecovered product head limit image gate state recovered
Recovers product head limit image gate state (Err fault.Store) = Unit {0}
Recovers product head limit image gate state (Err (fault.Bad at)) = IsBadPlace product head limit image at
