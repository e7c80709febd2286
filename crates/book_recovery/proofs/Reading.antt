-- Reading one record more of an image.
use Rattle.std.proofs.Common.{◌≡◌, ℕ, ◌+◌, ◌<◌, ◌≤◌, true, false, List, [], ◌∷◌, ◌++◌, length, get_or, take, drop, Option, Some, None, Ok, Err, refl, sym, subst, ◌∙◌, ap, arith, append_assoc, append-nil, length-append, length-drop}
use Rattle.std.specs.List.{concat}
use Rattle.fix_frame.specs.Stream.{messages_of, rest_of}
use Rattle.fix_frame.specs.StreamLaws.{concat-messages_of-whole}
use Rattle.product_file.specs.Products.{ProductLists}
use Rattle.order_kinds.specs.State.{State}
use Rattle.order_kinds.specs.Histories.{History, of_product, last_product}
use Rattle.match_journal.specs.Journal.{IsJournal, Record, Header}
use Rattle.match_journal.specs.Walking.{IsNext, InOrder}
use Rattle.match_journal.specs.declared.entry.Entry.{Entry}
use Rattle.match_journal.specs.declared.entry.EntryKind.{EntryKind}
use Rattle.match_journal.specs.declared.entry.EntryKind.TheVariants.{Frames, OldImage, Image, Amendment}
use Rattle.match_journal.specs.declared.faults.WalkFault.{WalkFault}
use Rattle.match_journal.specs.declared.faults.WalkFault.TheVariants as walk
use Rattle.book_recovery.specs.Records.{count_behind_all, IsGoodAs, GivesAs}
use Rattle.book_recovery.specs.Histories.{IsProductBehind, HaveProducts, products_as, products_in, history_behind, is_amendment}
use Rattle.book_recovery.specs.Products.{product_behind, IsReadTo, IsOneMore, ReadsRecord}
use Rattle.book_recovery.specs.Inner.Replays.{payload_at}
use Rattle.book_recovery.specs.Inner.Contents.{IsContent, ReadsContent}
use Rattle.book_recovery.specs.declared.records.Passed.{Passed}
use Rattle.book_recovery.specs.declared.recovery.RecoverFault.{RecoverFault}
use Rattle.book_recovery.specs.declared.recovery.RecoverFault.TheVariants as fault
use Rattle.book_recovery.proofs.GoodRecords.{count_push, payload-messages}
use Rattle.book_recovery.proofs.GoodHistories.{good-more, good-last}
use Rattle.book_recovery.proofs.Histories.{behind-append, as-last}
use Rattle.book_recovery.proofs.ProductLists.{get-drop, drop-next}

-- ---- the frames of a payload

-- there are no more of them than bytes
pub few_messages : (payload : List ℕ) → length (messages_of payload) ≤ length payload
few_messages payload = omega (arith, payload-messages Frames payload)

-- all frames of a whole payload were given
module _ (payload : List ℕ) (given behind : List (List ℕ)) (none_before : given ≡ []) (are : behind ≡ given ++ messages_of payload) where
  pub messages_given : behind ≡ messages_of payload
  messages_given = are ∙ ap (λ (l : List (List ℕ)). l ++ messages_of payload) none_before

  pub payload_given : rest_of payload ≡ [] → concat behind ≡ payload
  payload_given whole = ap concat messages_given ∙ concat-messages_of-whole payload whole

  pub given_are_all : rest_of payload ≡ [] → behind ≡ messages_of (concat behind)
  given_are_all whole = messages_given ∙ ap messages_of (sym (payload_given whole))

-- ---- which product holds after a record

-- its text gives it, if the record has one
gives-behind : (product behind : ProductLists) (kind : EntryKind) (payload : List ℕ) → IsProductBehind product kind payload behind → GivesAs behind kind payload
gives-behind product behind Frames payload is = tt
gives-behind product behind OldImage payload is = tt
gives-behind product behind Image payload is = tt
gives-behind product behind Amendment payload is = is.0

-- the products from it on
left-behind : (products later : List ProductLists) (number : ℕ) (now behind : ProductLists) (kind : EntryKind) (payload : List ℕ) → drop number products ≡ now ∷ products_as kind behind later
    → IsProductBehind now kind payload behind → drop (product_behind number kind) products ≡ behind ∷ later
left-behind products later number now behind Frames payload left is = left ∙ ap (λ (p : ProductLists). p ∷ later) (sym is)
left-behind products later number now behind OldImage payload left is = left ∙ ap (λ (p : ProductLists). p ∷ later) (sym is)
left-behind products later number now behind Image payload left is = left ∙ ap (λ (p : ProductLists). p ∷ later) (sym is)
left-behind products later number now behind Amendment payload left is = drop-next products number now (behind ∷ later) left

-- the number of the product after an amendment, of those of which the last is known, is one that there is
few-before : (earlier : List ProductLists) (last now next : ProductLists) (later : List ProductLists) (number : ℕ) → drop number (earlier ++ last ∷ []) ≡ now ∷ next ∷ later → number < length earlier
few-before earlier last now next later number left =
    omega (arith, ap length left, length-drop number (earlier ++ last ∷ []), length-append earlier (last ∷ []))

-- what is answered to one who asks for the number after this one
pub number-behind : (earlier : List ProductLists) (last now behind : ProductLists) (later : List ProductLists) (number after : ℕ) (kind : EntryKind) (payload : List ℕ)
    → drop number (earlier ++ last ∷ []) ≡ now ∷ products_as kind behind later → (is_amendment kind ≡ true → number < length earlier → after ≡ number + 1) → (is_amendment kind ≡ false → after ≡ number)
    → after ≡ product_behind number kind
number-behind earlier last now behind later number after Frames payload left amends stays = stays refl
number-behind earlier last now behind later number after OldImage payload left amends stays = stays refl
number-behind earlier last now behind later number after Image payload left amends stays = stays refl
number-behind earlier last now behind later number after Amendment payload left amends stays = amends refl (few-before earlier last now behind later number left)

-- ---- the record after some good ones

module _ (head : Header) (limit : ℕ) (image : List ℕ) (products : List ProductLists) (records before : List Record) (passed : Passed) (read : IsReadTo head limit image products records before passed) where
  -- they are followed by those that are left
  pub journal_on : IsJournal head limit (before ++ read.rest) image
  journal_on = subst (λ (l : List Record). IsJournal head limit l image) read.are read.heads

  -- none is left
  pub none_left : (gate : ℕ) (found : Option Entry) → found ≡ None → InOrder head image before read.rest gate (Ok found) → records ≡ before
  none_left gate found is order =
      let none : read.rest ≡ [] = subst (λ (o : Option Entry). InOrder head image before read.rest gate (Ok o)) is order in
      read.are ∙ ap (λ (l : List Record). before ++ l) none ∙ append-nil before

  -- no head is bad
  pub none_bad : (gate at : ℕ) (why : WalkFault) → why ≡ walk.Bad at → InOrder head image before read.rest gate (Err why) → ⊥
  none_bad gate at why is order = subst (λ (e : WalkFault). InOrder head image before read.rest gate (Err e)) is order

  -- one is
  pub one_left : (gate : ℕ) (found : Option Entry) (entry : Entry) → found ≡ Some entry → InOrder head image before read.rest gate (Ok found) → IsNext head image before read.rest gate entry
  one_left gate found entry is order = subst (λ (o : Option Entry). InOrder head image before read.rest gate (Ok o)) is order

  module _ (entry : Entry) (gate : ℕ) (next : IsNext head image before read.rest gate entry) where
    abbrev found : Record
    found = next.found

    abbrev HasLeft : List Record → Type 0
    HasLeft rest = (have : HaveProducts read.now rest) × (drop passed.product products ≡ read.now ∷ products_in read.now rest have)

    abbrev there : HasLeft (found ∷ next.more)
    there = subst HasLeft next.is (read.have, read.left)

    abbrev pub behind : ProductLists
    behind = there.0.0

    behind_is : IsProductBehind read.now found.kind found.payload behind
    behind_is = there.0.1

    abbrev later : List ProductLists
    later = products_in behind next.more there.0.3

    left_there : drop passed.product products ≡ read.now ∷ products_as found.kind behind later
    left_there = there.1

    left_more : drop (product_behind passed.product found.kind) products ≡ behind ∷ later
    left_more = left-behind products later passed.product read.now behind found.kind found.payload left_there behind_is

    payload_is : payload_at image entry ≡ found.payload
    payload_is = ap (λ (n : ℕ). take n (drop (entry.at + 6) image)) next.count ∙ next.stands

    abbrev pub kept : History
    kept = history_behind (of_product read.all.first []) before

    behind_kept : IsProductBehind (last_product kept) found.kind found.payload behind
    behind_kept = subst (λ (p : ProductLists). IsProductBehind p found.kind found.payload behind) read.now_is behind_is

    are_more : records ≡ before ++ found ∷ next.more
    are_more = read.are ∙ ap (λ (l : List Record). before ++ l) next.is

    -- so many messages come before it
    abbrev count : ℕ
    count = count_behind_all 0 before

    now_more : behind ≡ last_product (history_behind (of_product read.all.first []) (before ++ found ∷ []))
    now_more =
        sym (as-last (last_product kept) behind kept found.kind found.payload refl behind_kept)
        ∙ ap last_product (sym (behind-append (of_product read.all.first []) before (found ∷ [])))

    -- the number that is answered for it is that of the product after it
    pub number_there : (earlier : List ProductLists) (last : ProductLists) → products ≡ earlier ++ last ∷ [] → (number : ℕ) → (is_amendment entry.kind ≡ true → passed.product < length earlier → number ≡ passed.product + 1)
        → (is_amendment entry.kind ≡ false → number ≡ passed.product) → number ≡ product_behind passed.product found.kind
    number_there earlier last are number amends stays =
        number-behind earlier last read.now behind later passed.product number found.kind found.payload
        (subst (λ (l : List ProductLists). drop passed.product l ≡ read.now ∷ products_as found.kind behind later) are left_there)
        (λ is. amends (ap is_amendment next.kind ∙ is)) (λ is. stays (ap is_amendment next.kind ∙ is))

    -- and this product has that number
    pub product_there : (number : ℕ) (last product : ProductLists) → number ≡ product_behind passed.product found.kind → product ≡ get_or products number last → product ≡ behind
    product_there number last product number_is product_is =
        product_is ∙ ap (λ (k : ℕ). get_or products k last) number_is ∙ get-drop products (product_behind passed.product found.kind) behind later left_more last

    -- ---- what it holds was read under the product after it

    module _ (product : ProductLists) (same : product ≡ behind) where
      -- an amendment gives this product
      pub gives_there : GivesAs product entry.kind (payload_at image entry)
      gives_there =
          subst (λ (p : ProductLists). GivesAs p entry.kind (payload_at image entry)) (sym same)
          (subst (λ (k : EntryKind). GivesAs behind k (payload_at image entry)) (sym next.kind)
          (subst (GivesAs behind found.kind) (sym payload_is) (gives-behind read.now behind found.kind found.payload behind_is)))

      -- it is good as that of the entry is
      good_as : IsGoodAs behind count found.kind found.payload → IsGoodAs product passed.messages entry.kind (payload_at image entry)
      good_as good =
          subst (λ (p : ProductLists). IsGoodAs p passed.messages entry.kind (payload_at image entry)) (sym same)
          (subst (λ (n : ℕ). IsGoodAs behind n entry.kind (payload_at image entry)) (sym read.messages)
          (subst (λ (k : EntryKind). IsGoodAs behind count k (payload_at image entry)) (sym next.kind)
          (subst (IsGoodAs behind count found.kind) (sym payload_is) good)))

      module _ (given : List (List ℕ)) (core : State) where
        content_as : (messages : ℕ) → IsContent product passed.messages entry.kind (payload_at image entry) given core messages → IsContent behind count found.kind found.payload given core messages
        content_as messages content =
            subst (λ (p : ProductLists). IsContent p count found.kind found.payload given core messages) same
            (subst (λ (n : ℕ). IsContent product n found.kind found.payload given core messages) read.messages
            (subst (λ (k : EntryKind). IsContent product passed.messages k found.payload given core messages) next.kind
            (subst (λ (l : List ℕ). IsContent product passed.messages entry.kind l given core messages) payload_is content)))

        pub content_more : (last : ℕ) (more : Passed) → last ≡ gate → more.product ≡ product_behind passed.product found.kind → IsContent product passed.messages entry.kind (payload_at image entry) given core more.messages
            → IsOneMore head limit image products records before passed.product last given more
        content_more last more last_is number content =
            let holds = content_as more.messages content in
            record {
              found = found;
              read = record {
                heads = read.heads;
                all = read.all;
                rest = next.more;
                are = are_more ∙ sym (append_assoc before (found ∷ []) next.more);
                good = good-more found behind read.all.first 0 (of_product read.all.first []) before refl read.good behind_kept holds.good;
                messages = holds.behind_is ∙ sym (count_push 0 before found);
                now = behind;
                now_is = now_more;
                have = there.0.3;
                left = subst (λ (k : ℕ). drop k products ≡ behind ∷ later) (sym number) left_more;
              };
              gate_is = last_is ∙ next.gate_is;
              messages_are = holds.given_are;
              product_is = number;
            }

        pub content_unread : (last : ℕ) (why : RecoverFault) → ReadsContent product passed.messages entry.kind (payload_at image entry) entry.at given core (Err why)
            → ReadsRecord head limit image products records before passed.product last given (Err why)
        content_unread last fault.Store told = tt
        content_unread last (fault.Bad at) told = record {
          bad = record {
            records = records;
            heads = read.heads;
            first = read.all.first;
            gives = read.all.gives;
            have = read.all.have;
            before = before;
            bad = found;
            behind = next.more;
            are = are_more;
            good = read.good;
            not_good = λ good. told.0 (good_as (good-last found behind read.all.first 0 (of_product read.all.first []) before refl good behind_kept));
            place = told.1 ∙ next.at_is;
          };
          behind = refl;
        }
