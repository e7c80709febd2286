-- An amendment that was added to an image from which a command can go on; and what an opening of that image has found.
use Rattle.std.proofs.Common.{◌≡◌, ◌≢◌, ⊎_elim, inl, ℕ, ◌<◌, ◌≤◌, List, [], ◌∷◌, ◌++◌, length, Result, Ok, refl, sym, subst, ap, ◌∙◌, arith}
use Rattle.product_file.specs.Products.{ProductLists}
use Rattle.product_file.specs.ProductTexts.{product_of}
use Rattle.product_file.specs.Amendments.{may_follow}
use Rattle.product_file.specs.declared.faults.ProductFault.{ProductFault}
use Rattle.product_file.proofs.RightTexts.{product_of_text_is_right}
use Rattle.order_kinds.specs.declared.core_state.TheConstants.{MOST_MESSAGES}
use Rattle.order_kinds.specs.Histories.{History, of_product, amended, last_product, length_kept, state_kept}
use Rattle.book_image.specs.Image.{image_of}
use Rattle.match_journal.specs.Journal.{IsJournal, Record, Header}
use Rattle.match_journal.specs.Opening.{IsOpened}
use Rattle.match_journal.specs.Texts.{PlacedText, HasText, HasLastText, amended_text, last_text}
use Rattle.match_journal.specs.declared.entry.EntryKind.TheVariants.{Amendment}
use Rattle.match_journal.specs.declared.limits.TheConstants.{MOST_LIMIT, MOST_TEXT}
use Rattle.match_journal.specs.declared.version.Version.TheVariants.{Second}
use Rattle.match_journal.proofs.LastTexts.{text_amended, last_opened, one_opened}
use Rattle.book_recovery.specs.Records.{amendment_of, AmendsTo}
use Rattle.book_recovery.specs.Histories.{IsProductBehind, AreTrueFrom, IsTrueAs, amended_by, history_as, history_behind}
use Rattle.book_recovery.specs.Kept.{IsStartable, IsStartableWithin}
use Rattle.book_recovery.proofs.AmendmentPayloads.{amendment-has-text, amendment-text, amendment-image}
use Rattle.book_recovery.proofs.GoodHistories.{good-more}
use Rattle.book_recovery.proofs.Histories.{IsUnder, one-product, behind-append, good-amended, under-first, under-behind, under-as}
use Rattle.book_recovery.proofs.KeptHistories.{last-is}
use Rattle.book_recovery.proofs.StatesBehind.{true-right}
use Rattle.globex_run.specs.Amends.{amendment_record, CanFollow}
use Rattle.globex_run.proofs.KeptMore.{few-kept, length-from-first, true-append}
use Rattle.globex_run.proofs.Openings.{unfinished_closed}
use Rattle.globex_run.proofs.ProductReads.{short-text}

module _ (text : List ℕ) (product : ProductLists) (gives : product_of text ≡ Ok product) (kept : History) where
  abbrev then : History
  then = amended kept product []

  abbrev added : Record
  added = amendment_record text then

  abbrev payload : List ℕ
  payload = amendment_of text (image_of (state_kept then))

  few_text : length text ≤ MOST_TEXT
  few_text = short-text text product gives

  text-there : amended_text payload ≡ text
  text-there = amendment-text text (image_of (state_kept then)) few_text

  product-there : product_of (amended_text payload) ≡ Ok product
  product-there = ap product_of text-there ∙ gives

  -- after the amendment stands its product, without a message
  pub amended-there : history_as kept Amendment payload ≡ then
  amended-there = ap (λ (r : Result ProductLists ProductFault). amended_by kept r) product-there

  true-there : IsTrueAs then Amendment payload
  true-there = amendment-image text (image_of (state_kept then)) few_text

  has-text : HasText payload
  has-text = amendment-has-text text (image_of (state_kept then)) few_text

  -- its text is the last one
  pub last-added : (head : Header) (records : List Record) → HasLastText head (records ++ added ∷ []) text
  last-added head records = subst (λ (l : List ℕ). HasLastText head (records ++ added ∷ []) l) text-there (text_amended head records payload has-text)

  module _ {limit : ℕ} (kept_product : ProductLists) (kept_text : List ℕ) (kept_gives : product_of kept_text ≡ Ok kept_product) (may : may_follow kept_product product ≡ Ok tt)
      (image : List ℕ) (start : IsStartableWithin limit kept_text kept image) where
    abbrev first-history : History
    first-history = of_product start.first []

    is-last : last_product (history_behind first-history start.records) ≡ kept_product
    is-last = ap last_product (sym start.are) ∙ last-is kept_product kept_text kept image kept_gives start

    -- the product may follow that of the last text
    follows : IsProductBehind kept_product Amendment payload product
    follows = (product-there, may)

    under : IsUnder product then
    under =
        let before : IsUnder (last_product (history_behind first-history start.records)) (history_behind first-history start.records) =
        under-behind start.first first-history start.records (under-first start.head.text start.first [] start.gives) (good-amended start.first 0 start.records start.good) in
        let kept_under : IsUnder kept_product kept = subst (λ (h : History). IsUnder kept_product h) (sym start.are) (subst (λ (p : ProductLists). IsUnder p (history_behind first-history start.records)) is-last before) in
        subst (λ (h : History). IsUnder product h) amended-there (under-as kept_product product kept Amendment payload kept_under follows)

    are-then : then ≡ history_behind first-history (start.records ++ added ∷ [])
    are-then =
        sym amended-there
        ∙ ap (λ (h : History). history_as h Amendment payload) start.are
        ∙ sym (behind-append first-history start.records (added ∷ []))

    all-true : AreTrueFrom first-history (start.records ++ added ∷ [])
    all-true =
        true-append first-history start.records (added ∷ []) start.are_true
        (subst (λ (h : History). AreTrueFrom h (added ∷ [])) start.are (subst (λ (h : History). IsTrueAs h Amendment payload) (sym amended-there) true-there, tt))

    -- A journal of the records from before and this amendment is one from which a run of its text can start: it keeps the history of before, and
    -- then the amendment's product.
    pub keeps-amendment : (left : List ℕ) → IsJournal start.head product.journal_limit (start.records ++ added ∷ []) left → IsStartable product text then left
    keeps-amendment left journal =
        let right = product_of_text_is_right text product gives in
        let few : length_kept then < MOST_MESSAGES =
        omega (arith, ap length_kept are-then, length-from-first start.first (start.records ++ added ∷ []), few-kept product right start.head (start.records ++ added ∷ []) left (inl journal)) in
        let amends : AmendsTo product payload = record {
          text = has-text;
          gives = product-there;
          image = true-right product then under Amendment payload refl few true-there;
        } in
        record {
          head = start.head;
          records = start.records ++ added ∷ [];
          keeps = inl journal;
          last = last-added start.head start.records;
          first = start.first;
          gives = start.gives;
          good =
              good-more added product start.first 0 first-history start.records refl start.good
              (subst (λ (p : ProductLists). IsProductBehind p Amendment payload product) (sym is-last) follows) amends;
          are_true = all-true;
          are = are-then;
        }

-- ---- what an opening has found

module _ (limit : ℕ) (kept_text : List ℕ) (kept : History) (image : List ℕ) (start : IsStartableWithin limit kept_text kept image) where
  -- the header and the text of an image are those from which it goes on
  pub opened-kept : (head : Header) (placed : PlacedText) → IsOpened head limit placed image → (head ≡ start.head) × (placed.bytes ≡ kept_text)
  opened-kept head placed opened =
      let journal : IsJournal start.head limit start.records image = ⊎_elim (λ journal. journal) (λ unfinished. absurd (unfinished_closed start.head image unfinished.1 opened.gate)) start.keeps in
      let found = last_opened start.head limit image start.records (short-text start.head.text start.first start.gives) start.last.inside journal in
      let same = one_opened limit image head start.head placed (last_text start.head start.records) opened found in
      (same.0, ap (λ (t : PlacedText). t.bytes) same.1 ∙ start.last.is)

-- The product that may follow that of the last text may follow the last one of the history, and the journal takes amendments.
pub follows-kept : (product : ProductLists) (text : List ℕ) (kept_product : ProductLists) (kept_text : List ℕ) (kept : History) (image : List ℕ) → product_of kept_text ≡ Ok kept_product
    → (start : IsStartableWithin MOST_LIMIT kept_text kept image) → CanFollow product text image
    → (may_follow kept_product product ≡ Ok tt) × (start.head.version ≡ Second) × (kept_text ≢ text)
follows-kept product text kept_product kept_text kept image kept_gives start can =
    let found = can.kept.found in
    let same = opened-kept MOST_LIMIT kept_text kept image start found.head found.placed found.opened in
    let product_is : can.kept.product ≡ kept_product = one-product can.kept.product kept_product kept_text (ap product_of (sym same.1) ∙ can.kept.gives) kept_gives in (
      subst (λ (p : ProductLists). may_follow p product ≡ Ok tt) product_is can.may,
      ap (λ (h : Header). h.version) (sym same.0) ∙ can.second,
      λ is. found.other (same.1 ∙ is),
    )
