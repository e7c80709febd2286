-- The products of all texts of a journal, from those of all but the last.
use Rattle.std.proofs.Common.{◌≡◌, inl, inr, ℕ, Bool, false, List, [], ◌∷◌, ◌++◌, option_map, Option, Some, None, Ok, Err, refl, sym, subst, ◌∙◌, ap, append_assoc}
use Rattle.product_file.specs.Products.{ProductLists}
use Rattle.product_file.specs.ProductTexts.{product_of}
use Rattle.match_journal.specs.Journal.{IsJournal, Header, Record}
use Rattle.match_journal.specs.Opening.{IsOpened}
use Rattle.match_journal.specs.Texts.{PlacedAmendment, PlacedText, HasText, HasTextIn, amended_text, last_amendment, last_text}
use Rattle.match_journal.specs.Standing.{moved}
use Rattle.match_journal.specs.declared.standing.Standing.{Standing}
use Rattle.match_journal.proofs.LastTexts.{one_last_text}
use Rattle.book_recovery.specs.BadPlaces.{HasBadTextAt, HasAmendment}
use Rattle.book_recovery.specs.Products.{AreProducts, HasProducts}
use Rattle.book_recovery.specs.Inner.Keeping.{FollowsLast, IsKept, KeepsProduct, KeepsAll, TakesEarlier}
use Rattle.book_recovery.specs.declared.products.NoProducts.{NoProducts}
use Rattle.book_recovery.specs.declared.products.NoProducts.TheVariants as none
use Rattle.book_recovery.proofs.ProductsTaken.{are-plain, are-amended, are-not-amended, one-given}
use Rattle.book_recovery.proofs.LastAmendments.{IsTextSplit, none-amended, split-last, first-text, amended-any}

-- the journal is before its first record again
pub rewound : (s x y : Standing) (gate : ℕ) (ends : Bool) → x ≡ moved s gate ends → y ≡ moved x x.first false → y ≡ moved s s.first false
rewound s x y gate ends is then = then ∙ ap (λ (t : Standing). moved t t.first false) is

-- no gate was answered
pub none-there : (r : Option ℕ) → ((gate : ℕ) → r ≡ Some gate → ⊥) → (told : Option ℕ) → r ≡ told → None ≡ told
none-there None none told is = is
none-there (Some gate) none told is = absurd (none gate refl)

-- the product of the header's text is the first
are-first : (head : Header) (product : ProductLists) (items : List ProductLists) → product_of head.text ≡ Ok product → items ≡ product ∷ [] → AreProducts head [] items
are-first head product items gives is = record { first = product; gives = gives; have = tt; are = is }

-- what was kept of the header's text
pub first-kept : (head : Header) (text : List ℕ) (old new : List ProductLists) → text ≡ head.text → old ≡ [] → IsKept text old new → AreProducts head [] new
first-kept head text old new same none kept =
    are-first head kept.product new (subst (λ (l : List ℕ). product_of l ≡ Ok kept.product) same kept.gives) (kept.is ∙ ap (λ (l : List ProductLists). l ++ kept.product ∷ []) none)

module _ (head : Header) (limit : ℕ) (image : List ℕ) (records : List Record) (journal : IsJournal head limit records image) (text : PlacedText) (opened : IsOpened head limit text image) (product : ProductLists) (gives : product_of text.bytes ≡ Ok product) where
  abbrev pub gate_of : Option PlacedAmendment → Option ℕ
  gate_of last = option_map (λ (a : PlacedAmendment). a.gate) last

  last_is : (last_text head records ≡ text) × HasTextIn (last_amendment head records)
  last_is = one_last_text head image limit records text opened journal

  last_gives : product_of (last_text head records).bytes ≡ Ok product
  last_gives = ap (λ (t : PlacedText). product_of t.bytes) last_is.0 ∙ gives

  -- there is no amendment, and the product of the last text is that of the header's
  pub takes-none : (items : List ProductLists) → items ≡ [] → None ≡ gate_of (last_amendment head records) → HasProducts head limit image (items ++ product ∷ [])
  takes-none items is none =
      let first = are-first head product (items ++ product ∷ []) (ap product_of (sym (first-text head records none)) ∙ last_gives) (ap (λ (l : List ProductLists). l ++ product ∷ []) is) in
      record { records = records; heads = journal; all = are-plain head [] (items ++ product ∷ []) first records (none-amended head records none) }

  module _ (last_at : ℕ) (told : Some last_at ≡ gate_of (last_amendment head records)) where
    abbrev pub found : IsTextSplit head records last_at
    found = split-last head records last_at told

    pub has-amendment : HasAmendment head limit image
    has-amendment = record {
      records = records;
      heads = journal;
      amended = amended-any records found.split.front found.split.last found.split.more found.split.are found.split.amends;
    }

    whole : HasText found.split.last.payload
    whole = found.inside last_is.1

    text-gives : product_of (amended_text found.split.last.payload) ≡ Ok product
    text-gives = ap product_of (sym found.text) ∙ last_gives

    -- the product may follow those before
    pub takes-all : (items : List ProductLists) → AreProducts head found.split.front items → FollowsLast items product → HasProducts head limit image (items ++ product ∷ [])
    takes-all items kept follows =
        let split = found.split in
        let amended = are-amended head split.front items kept split.last split.amends product whole text-gives follows in
        let all = are-plain head (split.front ++ split.last ∷ []) (items ++ product ∷ []) amended split.more split.none in
        record {
          records = records;
          heads = journal;
          all = subst (λ (l : List Record). AreProducts head l (items ++ product ∷ [])) (append_assoc split.front (split.last ∷ []) split.more ∙ sym split.are) all;
        }

    -- it may not
    pub takes-bad : (items : List ProductLists) → AreProducts head found.split.front items → (FollowsLast items product → ⊥) → HasBadTextAt head limit image last_at
    takes-bad items kept not =
        let split = found.split in
        record {
          records = records;
          heads = journal;
          bad = inr (
            kept.first,
            kept.gives,
            record {
              before = split.front;
              bad = split.last;
              behind = split.more;
              are = split.are;
              have = kept.have;
              have_no_more = are-not-amended head split.front items kept split.last split.amends
                  (λ has p p_gives p_follows. not (subst (FollowsLast items) (one-given (amended_text split.last.payload) p product p_gives text-gives) p_follows));
              place = split.gate_is;
            },
          );
        }

    -- the header's text was not kept
    pub first-failed : (head_text : List ℕ) (old new products : List ProductLists) → head_text ≡ head.text → old ≡ [] → (why : NoProducts) → KeepsProduct head_text 9 old new (Err why) → TakesEarlier head limit image products (Err why)
    first-failed head_text old new products same is none.Store kept = tt
    first-failed head_text old new products same is none.NoMemory kept = has-amendment
    first-failed head_text old new products same is (none.Bad at) kept = inr (record {
      records = records;
      heads = journal;
      bad = inl (
        (λ p p_gives. kept.1 p (subst (λ (l : List ℕ). product_of l ≡ Ok p) (sym same) p_gives) (subst (λ (l : List ProductLists). FollowsLast l p) (sym is) tt)),
        kept.0,
      );
    })

    -- nor was an amendment
    pub all-failed : (front : List Record) (new products : List ProductLists) (why : NoProducts) → KeepsAll head limit image front new (Err why) → TakesEarlier head limit image products (Err why)
    all-failed front new products none.Store kept = tt
    all-failed front new products none.NoMemory kept = has-amendment
    all-failed front new products (none.Bad at) kept = inr kept
