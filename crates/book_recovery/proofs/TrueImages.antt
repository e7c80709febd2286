-- Records whose images are true: what stands after them, and that they are good.
use Rattle.std.proofs.Common.{◌≡◌, ℕ, ◌+◌, ◌<◌, Bool, true, false, ◌||◌, List, [], ◌∷◌, length, Ok, refl, sym, subst, ◌∙◌, ap, arith, length-append}
use Rattle.gx_base.proofs.Tests.{not-both}
use Rattle.fix_frame.specs.Stream.{messages_of, rest_of}
use Rattle.product_file.specs.Products.{ProductLists}
use Rattle.product_file.specs.ProductTexts.{product_of}
use Rattle.order_kinds.specs.Histories.{History, of_product, last_product, length_kept, state_kept}
use Rattle.order_kinds.specs.declared.core_state.TheConstants.{MOST_MESSAGES}
use Rattle.order_kinds.specs.State.{State, empty_state}
use Rattle.order_kinds.specs.Step.{state_after}
use Rattle.match_journal.specs.Journal.{Record}
use Rattle.match_journal.specs.Texts.{HasText}
use Rattle.match_journal.specs.declared.entry.EntryKind.{EntryKind}
use Rattle.match_journal.specs.declared.entry.EntryKind.TheVariants.{Frames, OldImage, Image, Amendment}
use Rattle.book_recovery.specs.Records.{is_image_kind, is_image, has_image, from_last_image, record_messages, messages_in, count_as, count_behind, count_behind_all, IsGoodAs, HaveWholeFrames, state_as, state_behind, state_behind_all}
use Rattle.book_recovery.specs.Histories.{IsProductBehind, AreGoodFrom, HaveProducts, IsTrueAs, AreTrueFrom, history_as, history_behind}
use Rattle.book_recovery.proofs.LastImages.{or-none, last-behind, last-here}
use Rattle.book_recovery.proofs.Histories.{AreAmended, IsUnder, with-count, as-count, behind-count, last-frames, under-first, under-as}
use Rattle.book_recovery.proofs.ImageKinds.{image-count, image-state}
use Rattle.book_recovery.proofs.StatesBehind.{kept-counted, true-right, true-read, frames-after}

-- the state and the count are those of this history
record StandsBehind (h : History) (state : State) (count : ℕ) : Type 0 where
  pub state_is : state ≡ state_kept h
  pub count_is : count ≡ length_kept h

-- with the messages of these records they are fewer than a core takes
abbrev AreFew : History → List Record → Type 0
AreFew h records = length_kept h + length (messages_in records) < MOST_MESSAGES

module _ (h : History) (r : Record) (records : List Record) (few : AreFew h (r ∷ records)) where
  few-behind : AreFew (history_as h r.kind r.payload) records
  few-behind = omega (arith, few, as-count h r.kind r.payload, length-append (record_messages r) (messages_in records))

  few-then : length_kept (history_as h r.kind r.payload) < MOST_MESSAGES
  few-then = omega (arith, few-behind)

-- ---- one record

-- An image says its count itself, as the history after it has it, and stands for the state of that.
module _ (product : ProductLists) (h : History) (under : IsUnder product h) (few : length_kept h < MOST_MESSAGES) (kind : EntryKind) (payload : List ℕ) (image : is_image_kind kind ≡ true) (is_true : IsTrueAs h kind payload) where
  image-counted : (count : ℕ) → count_as count kind payload ≡ length_kept h
  image-counted count =
      image-count product count kind payload image (true-right product h under kind payload image few is_true)
      ∙ ap (λ (s : State). s.desk.messages) (true-read product h under kind payload image few is_true)
      ∙ kept-counted product h under

  image-stands : (state : State) (count : ℕ) → StandsBehind h (state_as product state kind payload) (count_as count kind payload)
  image-stands state count = record {
    state_is = image-state product state kind payload image ∙ true-read product h under kind payload image few is_true;
    count_is = image-counted count;
  }

module _ (product : ProductLists) (h : History) where
  count-as : (kind : EntryKind) (payload : List ℕ) (count : ℕ) → IsUnder product (history_as h kind payload) → length_kept (history_as h kind payload) < MOST_MESSAGES
      → count ≡ length_kept h → IsTrueAs (history_as h kind payload) kind payload → count_as count kind payload ≡ length_kept (history_as h kind payload)
  count-as Frames payload count under few counted is_true = omega (arith, counted, with-count h (messages_of payload))
  count-as OldImage payload count under few counted is_true = image-counted product h under few OldImage payload refl is_true count
  count-as Image payload count under few counted is_true = image-counted product h under few Image payload refl is_true count
  count-as Amendment payload count under few counted is_true = image-counted product (history_as h Amendment payload) under few Amendment payload refl is_true count

  stands-as : (kind : EntryKind) (payload : List ℕ) (state : State) (count : ℕ) → IsUnder product (history_as h kind payload) → length_kept (history_as h kind payload) < MOST_MESSAGES
      → (is_image_kind kind ≡ false → StandsBehind h state count) → IsTrueAs (history_as h kind payload) kind payload
      → StandsBehind (history_as h kind payload) (state_as product state kind payload) (count_as count kind payload)
  stands-as Frames payload state count under few stands is_true =
      let before = stands refl in
      record {
        state_is = ap (λ (s : State). state_after product s (messages_of payload)) before.state_is ∙ frames-after product h payload under;
        count_is = omega (arith, before.count_is, with-count h (messages_of payload));
      }
  stands-as OldImage payload state count under few stands is_true = image-stands product h under few OldImage payload refl is_true state count
  stands-as Image payload state count under few stands is_true = image-stands product h under few Image payload refl is_true state count
  stands-as Amendment payload state count under few stands is_true = image-stands product (history_as h Amendment payload) under few Amendment payload refl is_true state count

-- ---- frames, which leave the last product

under-frames : (last : ProductLists) (h : History) (kind : EntryKind) (payload : List ℕ) → is_image_kind kind ≡ false → IsUnder last h → IsUnder last (history_as h kind payload)
under-frames last h Frames payload frames under = under-as last last h Frames payload under refl
under-frames last h OldImage payload frames under = absurd (cc frames)
under-frames last h Image payload frames under = absurd (cc frames)
under-frames last h Amendment payload frames under = absurd (cc frames)

frames-stand : (last : ProductLists) (h : History) (records : List Record) (state : State) (count : ℕ) → has_image records ≡ false → IsUnder last h → AreFew h records → StandsBehind h state count
    → AreTrueFrom h records → StandsBehind (history_behind h records) (state_behind_all last state records) (count_behind_all count records)
frames-stand last h [] state count none under few stands are_true = stands
frames-stand last h (r ∷ records) state count none under few stands are_true =
    let split = or-none (is_image r) (has_image records) none in
    let next = under-frames last h r.kind r.payload split.0 under in
    frames-stand last (history_as h r.kind r.payload) records (state_behind last state r) (count_behind count r) split.1 next (few-behind h r records few)
    (stands-as last h r.kind r.payload state count next (few-then h r records few) (λ frames. stands) are_true.0) are_true.1

-- ---- from the last image on, under the last product alone

-- Where there is an image, any state and count may stand before.
last-stands : (product last : ProductLists) (h : History) (records : List Record) (state : State) (count : ℕ) → IsUnder product h → AreAmended product records → last_product (history_behind h records) ≡ last
    → AreFew h records → (has_image records ≡ false → StandsBehind h state count) → AreTrueFrom h records
    → StandsBehind (history_behind h records) (state_behind_all last state (from_last_image records)) (count_behind_all count (from_last_image records))
last-stands product last h [] state count under are is few stands are_true = stands refl
last-stands product last h (r ∷ records) state count under are is few stands are_true =
    let then = history_as h r.kind r.payload in
    let next = under-as product are.0 h r.kind r.payload under are.1 in
    let goal : List Record → Type 0 = λ from. StandsBehind (history_behind then records) (state_behind_all last state from) (count_behind_all count from) in
    let go : (b : Bool) → has_image records ≡ b → goal (from_last_image (r ∷ records)) = elim [
      | true ↦ λ some. subst goal (sym (last-behind r records some))
          (last-stands are.0 last then records state count next are.2 is (few-behind h r records few) (λ none. not-both (has_image records) some none) are_true.1)
      | false ↦ λ none.
          let same : IsUnder last then = record { last = sym (last-frames then records none) ∙ is; follow = next.follow; right = next.right } in
          let first = stands-as last h r.kind r.payload state count same (few-then h r records few) (λ frames. stands (ap (λ (b : Bool). b || has_image records) frames ∙ none)) are_true.0 in
          subst goal (sym (last-here r records none))
          (frames-stand last then records (state_behind last state r) (count_behind count r) none same (few-behind h r records few) first are_true.1)
    ] in go (has_image records) refl

-- ---- good records

good-as : (product behind : ProductLists) (h : History) (kind : EntryKind) (payload : List ℕ) (count : ℕ) → IsProductBehind product kind payload behind → IsUnder behind (history_as h kind payload)
    → count ≡ length_kept h → IsTrueAs (history_as h kind payload) kind payload → (kind ≡ Amendment → HasText payload) → (kind ≡ Frames → rest_of payload ≡ [])
    → length_kept (history_as h kind payload) < MOST_MESSAGES → IsGoodAs behind count kind payload
good-as product behind h Frames payload count is under counted is_true has whole few = record { no_rest = whole refl; few = omega (arith, counted, few, with-count h (messages_of payload)) }
good-as product behind h OldImage payload count is under counted is_true has whole few = true-right behind h under OldImage payload refl few is_true
good-as product behind h Image payload count is under counted is_true has whole few = true-right behind h under Image payload refl few is_true
good-as product behind h Amendment payload count is under counted is_true has whole few = record {
  text = has refl;
  gives = is.0;
  image = true-right behind (history_as h Amendment payload) under Amendment payload refl few is_true;
}

all-good : (product : ProductLists) (h : History) (records : List Record) (count : ℕ) → IsUnder product h → HaveProducts product records → count ≡ length_kept h → AreTrueFrom h records
    → HaveWholeFrames records → AreFew h records → AreGoodFrom product count records
all-good product h [] count under products counted are_true whole few = tt
all-good product h (r ∷ records) count under products counted are_true whole few =
    let then = history_as h r.kind r.payload in
    let behind = products.0 in
    let next = under-as product behind h r.kind r.payload under products.1 in
    let first = good-as product behind h r.kind r.payload count products.1 next counted are_true.0 products.2 whole.0 (few-then h r records few) in
    let counts = count-as behind h r.kind r.payload count next (few-then h r records few) counted are_true.0 in
    let others = all-good behind then records (count_behind count r) next products.3 counts are_true.1 whole.1 (few-behind h r records few) in
    (behind, products.1, first, others)

-- ---- the laws

module _ (text : List ℕ) (first : ProductLists) (records : List Record) (gives : product_of text ≡ Ok first) (are_true : AreTrueFrom (of_product first []) records)
    (few : length_kept (history_behind (of_product first []) records) < MOST_MESSAGES) where
  abbrev pub whole_history : History
  whole_history = history_behind (of_product first []) records

  few-all : AreFew (of_product first []) records
  few-all = omega (arith, few, behind-count (of_product first []) records)

  module _ (are : AreAmended first records) where
    from-last : StandsBehind whole_history (state_behind_all (last_product whole_history) (empty_state (last_product whole_history)) (from_last_image records)) (count_behind_all 0 (from_last_image records))
    from-last =
        last-stands first (last_product whole_history) (of_product first []) records (empty_state (last_product whole_history)) 0 (under-first text first [] gives) are refl few-all
        (λ none. record { state_is = ap empty_state (last-frames (of_product first []) records none); count_is = refl }) are_true

    pub full-state : state_behind_all (last_product whole_history) (empty_state (last_product whole_history)) (from_last_image records) ≡ state_kept whole_history
    full-state = from-last.state_is

    pub full-count : count_behind_all 0 (from_last_image records) ≡ length_kept whole_history
    full-count = from-last.count_is

  pub true-are-good : HaveProducts first records → HaveWholeFrames records → AreGoodFrom first 0 records
  true-are-good products whole = all-good first (of_product first []) records 0 (under-first text first [] gives) products refl are_true whole few-all
