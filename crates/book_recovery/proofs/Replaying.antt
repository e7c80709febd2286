-- Replaying the records from the last image on, one after the other.
use Rattle.std.proofs.Common.{◌≡◌, ℕ, ◌+◌, ◌<◌, ◌≤◌, false, ◌||◌, Bool, List, [], ◌∷◌, ◌++◌, length, take, drop, Option, Some, None, Ok, Err, refl, sym, subst, ◌∙◌, ap, arith, append_assoc, append-nil}
use Rattle.product_file.specs.Products.{ProductLists}
use Rattle.product_file.specs.ProductTexts.{product_of}
use Rattle.order_kinds.specs.Histories.{History, of_product, last_product, length_kept}
use Rattle.order_kinds.specs.State.{State, empty_state}
use Rattle.order_kinds.specs.declared.core_state.TheConstants.{MOST_MESSAGES}
use Rattle.order_kinds.proofs.EmptyStates.{numbered-empty}
use Rattle.match_journal.specs.Journal.{IsJournal, Record, journal_front, Header}
use Rattle.match_journal.specs.Texts.{last_text}
use Rattle.match_journal.specs.Walking.{IsNext, InOrder}
use Rattle.match_journal.specs.declared.entry.Entry.{Entry}
use Rattle.match_journal.specs.declared.faults.WalkFault.{WalkFault}
use Rattle.match_journal.specs.declared.faults.WalkFault.TheVariants as walk
use Rattle.match_journal.specs.declared.limits.TheConstants.{MOST_LIMIT}
use Rattle.book_recovery.specs.Records.{is_image, has_image, from_last_image, before_last_image, count_behind, count_behind_all, IsGoodRecord, AreGoodRecords, GivesAs}
use Rattle.book_recovery.specs.Histories.{AreGoodFrom, AreTrueFrom, history_as, history_behind}
use Rattle.book_recovery.specs.BadPlaces.{HasBadPayloadAt}
use Rattle.book_recovery.specs.Recovering.{IsStateAfter}
use Rattle.book_recovery.specs.Inner.Replays.{payload_at, record_at, IsReplayed, AreReplayed}
use Rattle.book_recovery.proofs.LastImages.{last_split, none-before, none-from-none, none-left}
use Rattle.book_recovery.proofs.GoodRecords.{count_push, good_push, true_at, journal-messages}
use Rattle.book_recovery.proofs.Histories.{AreAmended, IsUnder, behind-append, behind-count, good-amended, amended-front, under-first, under-behind, last-frames, last-gives, one-product, image-gives}
use Rattle.book_recovery.proofs.StatesBehind.{state-behind}

-- the record of an entry is the next one
pub record_next : (head : Header) (image : List ℕ) (before after : List Record) (next : ℕ) (entry : Entry) (one : IsNext head image before after next entry) → record_at image entry ≡ one.found
record_next head image before after next entry one =
    let payload : payload_at image entry ≡ one.found.payload = ap (λ n. take n (drop (entry.at + 6) image)) one.count ∙ one.stands in
    λ i. record { kind = one.kind i; payload = payload i }

-- ---- the place

-- Some records from the last image on were passed, and the others are left.
pub record IsPassing (head : Header) (records : List Record) (gate : ℕ) : Type 0 where
  pub done : List Record
  pub left : List Record
  pub are : from_last_image records ≡ done ++ left
  pub place : gate ≡ length (journal_front head (before_last_image records ++ done))

abbrev pub passing_first : (head : Header) (records : List Record) (gate : ℕ) → gate ≡ length (journal_front head (before_last_image records)) → IsPassing head records gate
passing_first head records gate place = record {
  done = [];
  left = from_last_image records;
  are = refl;
  place = place ∙ ap (λ (l : List Record). length (journal_front head l)) (sym (append-nil (before_last_image records)));
}

module _ (head : Header) (records : List Record) (gate : ℕ) (at : IsPassing head records gate) where
  -- all before the gate
  abbrev pub before : List Record
  before = before_last_image records ++ at.done

  pub all-are : records ≡ before ++ at.left
  all-are =
      sym (last_split records)
      ∙ ap (λ (l : List Record). before_last_image records ++ l) at.are
      ∙ sym (append_assoc (before_last_image records) at.done at.left)

  -- the last gate is that after all of them
  pub last_left : (last : ℕ) → last ≡ length (journal_front head records) → last ≡ length (journal_front head (before ++ at.left))
  last_left last is = is ∙ ap (λ (l : List Record). length (journal_front head l)) all-are

  pub journal_left : (image : List ℕ) (limit : ℕ) → IsJournal head limit records image → IsJournal head limit (before ++ at.left) image
  journal_left image limit journal = subst (λ (l : List Record). IsJournal head limit l image) all-are journal

  module _ (image : List ℕ) (next : ℕ) (entry : Entry) (one : IsNext head image before at.left next entry) where
    all-with-next : records ≡ before ++ one.found ∷ one.more
    all-with-next = all-are ∙ ap (λ (l : List Record). before ++ l) one.is

    pub one-more-done : before ++ one.found ∷ [] ≡ before_last_image records ++ (at.done ++ one.found ∷ [])
    one-more-done = append_assoc (before_last_image records) at.done (one.found ∷ [])

    abbrev pub passing_more : IsPassing head records next
    passing_more = record {
      done = at.done ++ one.found ∷ [];
      left = one.more;
      are = at.are ∙ ap (λ (l : List Record). at.done ++ l) one.is ∙ sym (append_assoc at.done (one.found ∷ []) one.more);
      place = one.gate_is ∙ ap (λ (l : List Record). length (journal_front head l)) one-more-done;
    }

    -- frames alone come after it
    none-more : has_image one.more ≡ false
    none-more = none-left records at.done one.found one.more (at.are ∙ ap (λ (l : List Record). at.done ++ l) one.is)

    -- if it is an amendment, it has the last text
    pub next_gives : (product : ProductLists) → product_of (last_text head records).bytes ≡ Ok product → GivesAs product entry.kind (payload_at image entry)
    next_gives product gives =
        subst (λ (r : Record). GivesAs product r.kind r.payload) (sym (record_next head image before at.left next entry one))
        (image-gives head product before one.found one.more none-more (subst (λ (l : List Record). product_of (last_text head l).bytes ≡ Ok product) all-with-next gives))

-- ---- the state

-- The records that were passed are good, and were replayed. The state is known where no image is left: what is before an image, it takes
-- the place of.
pub record IsReplaying (product : ProductLists) (head : Header) (records : List Record) (gate : ℕ) (s : State) : Type 0 where
  pub passing : IsPassing head records gate
  pub good : AreGoodRecords product 0 passing.done
  pub count : s.desk.messages ≡ count_behind_all 0 passing.done
  pub kept : (first : ProductLists) → product_of head.text ≡ Ok first → AreGoodFrom first 0 records → AreTrueFrom (of_product first []) records → has_image passing.left ≡ false
      → IsStateAfter (history_behind (of_product first []) (before_last_image records ++ passing.done)) s

-- the last product of a history is that of the last text
kept-last : (product first : ProductLists) (head : Header) (records : List Record) → product_of (last_text head records).bytes ≡ Ok product → product_of head.text ≡ Ok first → AreGoodFrom first 0 records
    → last_product (history_behind (of_product first []) records) ≡ product
kept-last product first head records gives gives_first good =
    one-product _ product (last_text head records).bytes (last-gives head first records gives_first (good-amended first 0 records good)) gives

pub state_first : (product first : ProductLists) (head : Header) (records : List Record) (s : State) → product_of (last_text head records).bytes ≡ Ok product → s ≡ empty_state product → product_of head.text ≡ Ok first
    → AreGoodFrom first 0 records → has_image (from_last_image records) ≡ false → IsStateAfter (history_behind (of_product first []) (before_last_image records ++ [])) s
state_first product first head records s gives new gives_first good none =
    let never = none-from-none records none in
    let same : product ≡ first = sym (kept-last product first head records gives gives_first good) ∙ last-frames (of_product first []) records never in
    subst (λ (l : List Record). IsStateAfter (history_behind (of_product first []) (l ++ [])) s) (sym (none-before records never))
    (subst (IsStateAfter (of_product first [])) (sym (new ∙ ap empty_state same)) (record { state_is = refl; numbered = numbered-empty first; count_is = refl }))

abbrev pub replaying_first : (product : ProductLists) (head : Header) (records : List Record) (gate : ℕ) (s : State) → gate ≡ length (journal_front head (before_last_image records))
    → s ≡ empty_state product → product_of (last_text head records).bytes ≡ Ok product → IsReplaying product head records gate s
replaying_first product head records gate s place new gives = record {
  passing = passing_first head records gate place;
  good = tt;
  count = ap (λ (s : State). s.desk.messages) new;
  kept = λ first gives_first good are_true none. state_first product first head records s gives new gives_first good none;
}

module _ (product : ProductLists) (head : Header) (image : List ℕ) (limit : ℕ) (records : List Record) (gate : ℕ) (s : State) (at : IsReplaying product head records gate s) where
  module _ (next : ℕ) (entry : Entry) (one : IsNext head image (before head records gate at.passing) at.passing.left next entry) where
    abbrev front : List Record
    front = before head records gate at.passing

    all : records ≡ front ++ one.found ∷ one.more
    all = all-with-next head records gate at.passing image next entry one

    -- the record of the entry is the next one
    did_next : (then : State) → IsReplayed product s then (record_at image entry) → IsReplayed product s then one.found
    did_next then did = subst (IsReplayed product s then) (record_next head image front at.passing.left next entry one) did

    module _ (journal : IsJournal head limit records image) (few : limit ≤ MOST_LIMIT) (gives : product_of (last_text head records).bytes ≡ Ok product) (first : ProductLists) (gives_first : product_of head.text ≡ Ok first)
        (good : AreGoodFrom first 0 records) (are_true : AreTrueFrom (of_product first []) records) where
      abbrev told : History
      told = history_behind (of_product first []) front

      abbrev then_told : History
      then_told = history_as told one.found.kind one.found.payload

      then_is : history_behind (of_product first []) (front ++ one.found ∷ []) ≡ then_told
      then_is = behind-append (of_product first []) front (one.found ∷ [])

      whole_is : history_behind (of_product first []) records ≡ history_behind then_told one.more
      whole_is = ap (history_behind (of_product first [])) all ∙ behind-append (of_product first []) front (one.found ∷ one.more)

      few-told : length_kept then_told < MOST_MESSAGES
      few-told = omega (arith, ap length_kept whole_is, behind-count then_told one.more, behind-count (of_product first []) records, journal-messages head limit records image journal few)

      -- it is under the last product, since no amendment comes after
      under : IsUnder product then_told
      under =
          let are = amended-front first (front ++ one.found ∷ []) one.more
          (subst (AreAmended first) (all ∙ sym (append_assoc front (one.found ∷ []) one.more)) (good-amended first 0 records good)) in
          let here = subst (λ (h : History). IsUnder (last_product h) h) then_is (under-behind first (of_product first []) (front ++ one.found ∷ []) (under-first head.text first [] gives_first) are) in
          record {
            last = sym (last-frames then_told one.more (none-more head records gate at.passing image next entry one)) ∙ sym (ap last_product whole_is) ∙ kept-last product first head records gives gives_first good;
            follow = here.follow;
            right = here.right;
          }

      kept_next : (then : State) → IsReplayed product s then one.found → IsStateAfter (history_behind (of_product first []) (front ++ one.found ∷ [])) then
      kept_next then did =
          let none = none-more head records gate at.passing image next entry one in
          let is_true = true_at (of_product first []) front one.found one.more (subst (AreTrueFrom (of_product first [])) all are_true) in
          let frames : is_image one.found ≡ false → has_image at.passing.left ≡ false = λ no. ap has_image one.is ∙ ap (λ (b : Bool). b || has_image one.more) no ∙ none in
          subst (λ (h : History). IsStateAfter h then) (sym then_is)
          (state-behind product told s then one.found.kind one.found.payload under few-told did is_true (λ no. at.kept first gives_first good are_true (frames no)))

    pub replaying_more : IsJournal head limit records image → limit ≤ MOST_LIMIT → product_of (last_text head records).bytes ≡ Ok product → (then : State) → IsReplayed product s then (record_at image entry)
        → IsReplaying product head records next then
    replaying_more journal few gives then seen =
        let did = did_next then seen in
        record {
          passing = passing_more head records gate at.passing image next entry one;
          good = good_push product 0 at.passing.done one.found at.good (subst (λ n. IsGoodRecord product n one.found) at.count did.good);
          count = did.messages ∙ ap (λ n. count_behind n one.found) at.count ∙ sym (count_push 0 at.passing.done one.found);
          kept = λ first gives_first good are_true none.
              subst (λ (l : List Record). IsStateAfter (history_behind (of_product first []) l) then) (one-more-done head records gate at.passing image next entry one)
              (kept_next journal few gives first gives_first good are_true then did);
        }

    pub replaying_bad : (place : ℕ) → IsJournal head limit records image → (IsGoodRecord product s.desk.messages (record_at image entry) → ⊥) → place ≡ entry.at
        → HasBadPayloadAt product head limit image place
    replaying_bad place journal not_good is = record {
      records = records;
      heads = journal;
      before = at.passing.done;
      first = record {
        bad = one.found;
        behind = one.more;
        are = at.passing.are ∙ ap (λ (l : List Record). at.passing.done ++ l) one.is;
        good = at.good;
        not_good = subst (λ (r : Record). IsGoodRecord product (count_behind_all 0 at.passing.done) r → ⊥) (record_next head image front at.passing.left next entry one)
            (subst (λ n. IsGoodRecord product n (record_at image entry) → ⊥) at.count not_good);
      };
      place = is ∙ one.at_is;
    }

  pub replaying_done : IsJournal head limit records image → at.passing.left ≡ [] → AreReplayed product head limit image records gate s
  replaying_done journal none =
      let done : at.passing.done ≡ from_last_image records = sym (append-nil at.passing.done) ∙ ap (λ (l : List Record). at.passing.done ++ l) (sym none) ∙ sym at.passing.are in
      let all : before head records gate at.passing ≡ records = ap (λ (l : List Record). before_last_image records ++ l) done ∙ last_split records in
      record {
        journal = record { journal = journal; gate_is = at.passing.place ∙ ap (λ (l : List Record). length (journal_front head l)) all };
        good = subst (AreGoodRecords product 0) done at.good;
        messages = at.count ∙ ap (count_behind_all 0) done;
        kept = λ first gives_first good are_true.
            subst (λ (l : List Record). IsStateAfter (history_behind (of_product first []) l) s) all (at.kept first gives_first good are_true (ap has_image none));
      }

-- ---- what is answered

pub next_found : (head : Header) (image : List ℕ) (before after : List Record) (next : ℕ) (found : Option Entry) (entry : Entry) → found ≡ Some entry → InOrder head image before after next (Ok found) → IsNext head image before after next entry
next_found head image before after next found entry is told = subst (λ (o : Option Entry). InOrder head image before after next (Ok o)) is told

pub none_found : (head : Header) (image : List ℕ) (before after : List Record) (next : ℕ) (found : Option Entry) → found ≡ None → InOrder head image before after next (Ok found) → after ≡ []
none_found head image before after next found is told = subst (λ (o : Option Entry). InOrder head image before after next (Ok o)) is told

-- a journal has no bad head
pub none_bad : (product : ProductLists) (head : Header) (image : List ℕ) (limit : ℕ) (before after : List Record) (next : ℕ) (why : WalkFault) (place : ℕ) → why ≡ walk.Bad place → InOrder head image before after next (Err why)
    → HasBadPayloadAt product head limit image place
none_bad product head image limit before after next why place is told = absurd (subst (λ (e : WalkFault). InOrder head image before after next (Err e)) is told)
