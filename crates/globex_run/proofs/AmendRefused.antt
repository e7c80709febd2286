-- An image is refused by `amend` in one way, and not at all where its journal can be amended.
use Rattle.std.proofs.Common.{◌≡◌, ◌≢◌, ◌⊎◌, inl, inr, ⊎_elim, ℕ, ◌+◌, ◌≤◌, List, [], length, Option, Some, None, Result, Ok, Err, refl, sym, ap, subst, ◌∙◌}
use Rattle.std.proofs.lemmas.Bool.{cases_Bool}
use Rattle.std.proofs.lemmas.Bool.Decides.{not_from_Decides}
use Rattle.std.proofs.lemmas.Slice.Eq.{bytes_eq-Decides}
use Rattle.std.specs.Prelude.{bytes_eq}
use Rattle.gx_station.specs.Stations.{StationMeanings}
use Rattle.product_file.specs.Products.{ProductLists}
use Rattle.product_file.specs.ProductTexts.{product_of}
use Rattle.product_file.specs.Amendments.{may_follow, amend_fault_number}
use Rattle.product_file.specs.declared.amendments.AmendFault.{AmendFault}
use Rattle.product_file.proofs.RightTexts.{product_of_text_is_right}
use Rattle.match_journal.specs.Classes.{HasOpenGate, IsBlank, IsSealed, IsSealedOf, IsForeignAt, IsUnfinished, Keeps, first_difference}
use Rattle.match_journal.specs.Opening.{IsOpened, IsOpenedOf, IsBadAt, HasOtherText, LooksAny, opened_at}
use Rattle.match_journal.specs.Journal.{Header, IsJournal, Record, in_version}
use Rattle.match_journal.specs.BadRecords.{HasBadHeadAt}
use Rattle.match_journal.specs.HeaderLaws.{one_header}
use Rattle.match_journal.specs.Texts.{PlacedText, header_text, last_amendment, last_text}
use Rattle.match_journal.specs.declared.limits.TheConstants.{MOST_LIMIT, MOST_TEXT}
use Rattle.match_journal.specs.declared.standing.Standing.{Standing}
use Rattle.match_journal.specs.declared.version.Version.TheVariants.{First, Second}
use Rattle.match_journal.specs.declared.faults.StartFault.{StartFault}
use Rattle.match_journal.specs.declared.faults.StartFault.TheVariants as start
use Rattle.match_journal.proofs.Unique.{one_answer, one_answer_any, one_bad}
use Rattle.match_journal.proofs.Heads.{one_bad_head, no_bad_head, one_journal}
use Rattle.match_journal.proofs.LastTexts.{one_opened, last_opened}
use Rattle.order_kinds.specs.Histories.{History}
use Rattle.book_recovery.specs.Kept.{IsStartable, IsStartableWithin, IsGoodFromLastImage, CanBeRecovered}
use Rattle.book_recovery.specs.BadPlaces.{GivesNoProduct, IsBadPlace}
use Rattle.book_recovery.proofs.OneWay.{one_place, no_bad_place}
use Rattle.book_recovery.proofs.Histories.{one-product}
use Rattle.globex_run.specs.Outside.{Outside}
use Rattle.globex_run.specs.Amends.{KeepsOtherText, CanFollow, IsSealedOfOther, IsBadForAmend, IsRefusedForAmend, RefusesToAmend, AmendStart, CanBeAmended, text_gate}
use Rattle.globex_run.specs.Inner.Amending.{AnswersAmend, AmendResult, outcome_amended}
use Rattle.globex_run.specs.declared.outcome.Outcome.{Outcome}
use Rattle.globex_run.specs.declared.unamended.Unamended.{Unamended}
use Rattle.globex_run.specs.declared.unamended.Unamended.TheVariants as unamended
use Rattle.globex_run.proofs.Limits.{keeps-wider, startable-wider}
use Rattle.globex_run.proofs.ProductReads.{short-text}
use Rattle.globex_run.proofs.KeptMore.{good-startable}
use Rattle.globex_run.proofs.Refused.{unfinished-of}

-- two texts are the same, or they are not
pub same-or-other : (xs ys : List ℕ) → (xs ≡ ys) ⊎ (xs ≢ ys)
same-or-other xs ys = elim (cases_Bool (bytes_eq xs ys)) [
  | inl same ↦ inl ((bytes_eq-Decides xs ys).0 same)
  | inr other ↦ inr (not_from_Decides (bytes_eq xs ys) (bytes_eq-Decides xs ys) other)
]

module _ (product : ProductLists) (text image : List ℕ) where
  -- ---- what is refused of a journal that was opened

  abbrev AreSame : ℕ → ℕ → ℕ → ℕ → Type 0
  AreSame s a s' a' = (s ≡ s') × (a ≡ a')

  -- of another text, by its product: the journal takes no amendment, the product may not follow, or a record is bad
  abbrev OfProduct : Header → ProductLists → ℕ → ℕ → Type 0
  OfProduct head kept status at =
      ((status ≡ 13) × (head.version ≡ First) × (at ≡ 1))
      ⊎ (((status ≡ 13) × (head.version ≡ Second) × ((fault : AmendFault) × (may_follow kept product ≡ Err fault) × (at ≡ amend_fault_number fault)))
      ⊎ ((status ≡ 10) × (head.version ≡ Second) × (may_follow kept product ≡ Ok tt) × IsBadPlace kept head MOST_LIMIT image at))

  -- by its text: that gives no product, or one
  abbrev OfText : Header → PlacedText → List Record → ℕ → ℕ → Type 0
  OfText head placed records status at =
      ((status ≡ 10) × GivesNoProduct placed.bytes × (at ≡ text_gate (last_amendment head records)))
      ⊎ ((kept : ProductLists) × (product_of placed.bytes ≡ Ok kept) × OfProduct head kept status at)

  -- by its heads: one is bad, or none
  abbrev OfHeads : Header → PlacedText → ℕ → ℕ → Type 0
  OfHeads head placed status at =
      ((status ≡ 10) × HasBadHeadAt head MOST_LIMIT image at)
      ⊎ ((records : List Record) × IsJournal head MOST_LIMIT records image × OfText head placed records status at)

  -- of the text handed in, or of another
  abbrev OfOpened : Header → PlacedText → ℕ → ℕ → Type 0
  OfOpened head placed status at =
      ((status ≡ 10) × (placed.bytes ≡ text) × IsBadPlace product head MOST_LIMIT image at)
      ⊎ ((placed.bytes ≢ text) × OfHeads head placed status at)

  one-of-product : (head : Header) (kept : ProductLists) (s a s' a' : ℕ) → OfProduct head kept s a → OfProduct head kept s' a' → AreSame s a s' a'
  one-of-product head kept s a s' a' (inl x) (inl y) = (x.0 ∙ sym y.0, x.2 ∙ sym y.2)
  one-of-product head kept s a s' a' (inl x) (inr (inl y)) = let e : First ≡ Second = sym x.1 ∙ y.1 in cc e
  one-of-product head kept s a s' a' (inl x) (inr (inr y)) = let e : First ≡ Second = sym x.1 ∙ y.1 in cc e
  one-of-product head kept s a s' a' (inr (inl x)) (inl y) = let e : First ≡ Second = sym y.1 ∙ x.1 in cc e
  one-of-product head kept s a s' a' (inr (inl x)) (inr (inl y)) =
      let faults : Err x.2.0 ≡ Err y.2.0 = sym x.2.1 ∙ y.2.1 in
      let same : x.2.0 ≡ y.2.0 = cc faults in
      (x.0 ∙ sym y.0, x.2.2 ∙ ap amend_fault_number same ∙ sym y.2.2)
  one-of-product head kept s a s' a' (inr (inl x)) (inr (inr y)) = let e : Err x.2.0 ≡ Ok tt = sym x.2.1 ∙ y.2 in cc e
  one-of-product head kept s a s' a' (inr (inr x)) (inl y) = let e : First ≡ Second = sym y.1 ∙ x.1 in cc e
  one-of-product head kept s a s' a' (inr (inr x)) (inr (inl y)) = let e : Err y.2.0 ≡ Ok tt = sym y.2.1 ∙ x.2 in cc e
  one-of-product head kept s a s' a' (inr (inr x)) (inr (inr y)) = (x.0 ∙ sym y.0, one_place kept head MOST_LIMIT image a a' x.3 y.3)

  one-of-text : (head : Header) (placed : PlacedText) (records : List Record) (s a s' a' : ℕ) → OfText head placed records s a → OfText head placed records s' a' → AreSame s a s' a'
  one-of-text head placed records s a s' a' (inl x) (inl y) = (x.0 ∙ sym y.0, x.2 ∙ sym y.2)
  one-of-text head placed records s a s' a' (inl x) (inr y) = absurd (x.1 y.0 y.1)
  one-of-text head placed records s a s' a' (inr x) (inl y) = absurd (y.1 x.0 x.1)
  one-of-text head placed records s a s' a' (inr x) (inr y) =
      one-of-product head x.0 s a s' a' x.2 (subst (λ (p : ProductLists). OfProduct head p s' a') (one-product y.0 x.0 placed.bytes y.1 x.1) y.2)

  one-of-heads : (head : Header) (placed : PlacedText) (s a s' a' : ℕ) → OfHeads head placed s a → OfHeads head placed s' a' → AreSame s a s' a'
  one-of-heads head placed s a s' a' (inl x) (inl y) = (x.0 ∙ sym y.0, one_bad_head head MOST_LIMIT image a a' x.1 y.1)
  one-of-heads head placed s a s' a' (inl x) (inr y) = absurd (no_bad_head head MOST_LIMIT y.0 image a y.1 x.1)
  one-of-heads head placed s a s' a' (inr x) (inl y) = absurd (no_bad_head head MOST_LIMIT x.0 image a' x.1 y.1)
  one-of-heads head placed s a s' a' (inr x) (inr y) =
      one-of-text head placed x.0 s a s' a' x.2 (subst (λ (l : List Record). OfText head placed l s' a') (one_journal head MOST_LIMIT image y.0 x.0 y.1 x.1) y.2)

  one-of-opened : (head : Header) (placed : PlacedText) (s a s' a' : ℕ) → OfOpened head placed s a → OfOpened head placed s' a' → AreSame s a s' a'
  one-of-opened head placed s a s' a' (inl x) (inl y) = (x.0 ∙ sym y.0, one_place product head MOST_LIMIT image a a' x.2 y.2)
  one-of-opened head placed s a s' a' (inl x) (inr y) = absurd (y.0 x.1)
  one-of-opened head placed s a s' a' (inr x) (inl y) = absurd (x.0 y.1)
  one-of-opened head placed s a s' a' (inr x) (inr y) = one-of-heads head placed s a s' a' x.1 y.1

  -- ---- what is refused, by what is answered to one who only looks

  abbrev Answer : Type 0
  Answer = Result (Option Standing) StartFault

  abbrev answered : StartFault → Answer
  answered fault = Err fault

  abbrev standing : Header → PlacedText → Answer
  standing head placed = Ok (Some (opened_at head placed (length image) MOST_LIMIT))

  abbrev AtLook : ℕ → ℕ → Type 0
  AtLook status at = ((status ≡ 9) × IsForeignAt image at) ⊎ ((status ≡ 10) × IsBadAt MOST_LIMIT image at)

  abbrev AtSeal : ℕ → ℕ → Type 0
  AtSeal status at = (status ≡ 11) × IsSealedOfOther product text image at

  abbrev AtOpened : ℕ → ℕ → Type 0
  AtOpened status at = (head : Header) × (placed : PlacedText) × IsOpened head MOST_LIMIT placed image × OfOpened head placed status at

  -- the text is another one, and no head is bad
  of-found : (found : KeepsOtherText text image) (s a : ℕ) → OfText found.head found.placed found.records s a → AtOpened s a
  of-found found s a of = (found.head, found.placed, found.opened, inr (found.other, inr (found.records, found.heads, of)))

  refused-at : (s a : ℕ) → IsRefusedForAmend product text image s a → AtLook s a ⊎ (AtSeal s a ⊎ AtOpened s a)
  refused-at s a (inl foreign) = inl (inl foreign)
  refused-at s a (inr (inr (inl sealed))) = inr (inl sealed)
  refused-at s a (inr (inr (inr not))) =
      let kept = not.1.kept in
      inr (inr (of-found kept.found s a (inr (kept.product, kept.gives, why not.1.why))))
    where
      why : ((not.1.kept.found.head.version ≡ First) × (a ≡ 1))
          ⊎ ((not.1.kept.found.head.version ≡ Second) × ((fault : AmendFault) × (may_follow not.1.kept.product product ≡ Err fault) × (a ≡ amend_fault_number fault)))
          → OfProduct not.1.kept.found.head not.1.kept.product s a
      why (inl x) = inl (not.0, x.0, x.1)
      why (inr x) = inr (inl (not.0, x.0, x.1))
  refused-at s a (inr (inl bad)) = by bad.1
    where
      by : IsBadForAmend product text image a → AtLook s a ⊎ (AtSeal s a ⊎ AtOpened s a)
      by (inl front) = inl (inr (bad.0, front))
      by (inr (inl own)) = inr (inr (own.0.head, own.0.placed, own.0.opened, inl (bad.0, own.0.is, own.1)))
      by (inr (inr (inl head))) = inr (inr (head.0, head.1, head.2, inr (head.3, inl (bad.0, head.4))))
      by (inr (inr (inr (inl none)))) = inr (inr (of-found none.0 s a (inl (bad.0, none.1, none.2))))
      by (inr (inr (inr (inr can)))) =
          let kept = can.0.kept in
          inr (inr (of-found kept.found s a (inr (kept.product, kept.gives, inr (inr (bad.0, can.0.second, can.0.may, can.1))))))

  -- a look answers one thing
  one-look : (a b : Answer) → LooksAny MOST_LIMIT image a → LooksAny MOST_LIMIT image b → (a ≡ answered start.Store → ⊥) → (b ≡ answered start.Store → ⊥) → a ≡ b
  one-look a b x y told told' = one_answer_any MOST_LIMIT image a b x y told told'

  look-not : (s a : ℕ) → AtLook s a → (o : Option Standing) → LooksAny MOST_LIMIT image (Ok o) → ⊥
  look-not s a (inl x) o ok = let e : answered (start.NotAJournal a) ≡ Ok o = one-look (Err (start.NotAJournal a)) (Ok o) x.1 ok (λ e. cc e) (λ e. cc e) in cc e
  look-not s a (inr x) o ok = let e : answered (start.Bad a) ≡ Ok o = one-look (Err (start.Bad a)) (Ok o) x.1 ok (λ e. cc e) (λ e. cc e) in cc e

  look-not-opened : (s a : ℕ) → AtLook s a → (head : Header) (placed : PlacedText) → IsOpened head MOST_LIMIT placed image → ⊥
  look-not-opened s a x head placed opened = look-not s a x (Some (opened_at head placed (length image) MOST_LIMIT)) (head, placed, opened, refl)

  look-not-sealed : (s a : ℕ) → AtLook s a → (head : Header) → IsSealed head image → ⊥
  look-not-sealed s a x head sealed = look-not s a x None (inr (head, sealed))

  one-at-look : (s a s' a' : ℕ) → AtLook s a → AtLook s' a' → AreSame s a s' a'
  one-at-look s a s' a' (inl x) (inl y) =
      let e : answered (start.NotAJournal a) ≡ answered (start.NotAJournal a') = one-look (Err (start.NotAJournal a)) (Err (start.NotAJournal a')) x.1 y.1 (λ e. cc e) (λ e. cc e) in
      let same : a ≡ a' = cc e in
      (x.0 ∙ sym y.0, same)
  one-at-look s a s' a' (inl x) (inr y) =
      let e : answered (start.NotAJournal a) ≡ answered (start.Bad a') = one-look (Err (start.NotAJournal a)) (Err (start.Bad a')) x.1 y.1 (λ e. cc e) (λ e. cc e) in cc e
  one-at-look s a s' a' (inr x) (inl y) =
      let e : answered (start.Bad a) ≡ answered (start.NotAJournal a') = one-look (Err (start.Bad a)) (Err (start.NotAJournal a')) x.1 y.1 (λ e. cc e) (λ e. cc e) in cc e
  one-at-look s a s' a' (inr x) (inr y) = (x.0 ∙ sym y.0, one_bad MOST_LIMIT image a a' x.1 y.1)

  sealed-not-opened : (other head : Header) (placed : PlacedText) → IsSealed other image → IsOpened head MOST_LIMIT placed image → ⊥
  sealed-not-opened other head placed sealed opened = sealed.not_open opened.gate.opened

  one-at-seal : (s a s' a' : ℕ) → AtSeal s a → AtSeal s' a' → AreSame s a s' a'
  one-at-seal s a s' a' x y =
      let same = one_header image x.1.head y.1.head x.1.sealed.header y.1.sealed.header in
      (x.0 ∙ sym y.0, x.1.place ∙ ap (λ (h : Header). 13 + first_difference h.text text) same ∙ sym y.1.place)

  -- an image is opened with one header and one text
  opened-as : (head other : Header) (placed there : PlacedText) → IsOpened head MOST_LIMIT placed image → IsOpened other MOST_LIMIT there image
      → (s a : ℕ) → OfOpened other there s a → OfOpened head placed s a
  opened-as head other placed there opened again s a of =
      let same = one_opened MOST_LIMIT image other head there placed again opened in
      subst (λ (t : PlacedText). OfOpened head t s a) same.1 (subst (λ (h : Header). OfOpened h there s a) same.0 of)

  -- one status and one place fit an image
  one-refusal : (s a s' a' : ℕ) → IsRefusedForAmend product text image s a → IsRefusedForAmend product text image s' a' → AreSame s a s' a'
  one-refusal s a s' a' x y = both (refused-at s a x) (refused-at s' a' y)
    where
      both : AtLook s a ⊎ (AtSeal s a ⊎ AtOpened s a) → AtLook s' a' ⊎ (AtSeal s' a' ⊎ AtOpened s' a') → AreSame s a s' a'
      both (inl p) (inl q) = one-at-look s a s' a' p q
      both (inl p) (inr (inl q)) = absurd (look-not-sealed s a p q.1.head q.1.sealed)
      both (inl p) (inr (inr q)) = absurd (look-not-opened s a p q.0 q.1 q.2)
      both (inr (inl p)) (inl q) = absurd (look-not-sealed s' a' q p.1.head p.1.sealed)
      both (inr (inl p)) (inr (inl q)) = one-at-seal s a s' a' p q
      both (inr (inl p)) (inr (inr q)) = absurd (sealed-not-opened p.1.head q.0 q.1 p.1.sealed q.2)
      both (inr (inr p)) (inl q) = absurd (look-not-opened s' a' q p.0 p.1 p.2)
      both (inr (inr p)) (inr (inl q)) = absurd (sealed-not-opened q.1.head p.0 p.1 q.1.sealed p.2)
      both (inr (inr p)) (inr (inr q)) = one-of-opened p.0 p.1 s a s' a' p.3 (opened-as p.0 q.0 p.1 q.1 p.2 q.2 s' a' q.3)

  -- ---- what is not refused

  -- the image keeps the text and a state can be recovered from it, or that of another text whose product may be followed
  abbrev pub Fits : Type 0
  Fits = CanBeRecovered product text MOST_LIMIT image ⊎ ((can : CanFollow product text image) × CanBeRecovered can.kept.product can.kept.found.placed.bytes MOST_LIMIT image)

  abbrev opened-of : (p : ProductLists) (t : List ℕ) → IsGoodFromLastImage p t MOST_LIMIT image → IsOpenedOf t MOST_LIMIT image
  opened-of p t good = record {
    head = good.head;
    placed = last_text good.head good.records;
    opened = last_opened good.head MOST_LIMIT image good.records good.few good.last.inside good.journal;
    is = good.last.is;
  }

  -- no place is bad in a journal that is good from the last image on
  good-not-bad : (p : ProductLists) (t : List ℕ) (good : IsGoodFromLastImage p t MOST_LIMIT image) (head : Header) (placed : PlacedText) → IsOpened head MOST_LIMIT placed image
      → (a : ℕ) → IsBadPlace p head MOST_LIMIT image a → ⊥
  good-not-bad p t good head placed opened a bad =
      let same = one_opened MOST_LIMIT image good.head head (opened-of p t good).placed placed (opened-of p t good).opened opened in
      no_bad_place p head MOST_LIMIT good.records image a (subst (λ (h : Header). IsJournal h MOST_LIMIT good.records image) same.0 good.journal) good.good bad

  any-unfinished : IsBlank image ⊎ IsSealedOf text image → IsBlank image ⊎ ((head : Header) × IsSealed head image)
  any-unfinished (inl blank) = inl blank
  any-unfinished (inr sealed) = inr (in_version sealed.0 text, sealed.1)

  unfinished-not-opened : IsBlank image ⊎ ((head : Header) × IsSealed head image) → (head : Header) (placed : PlacedText) → IsOpened head MOST_LIMIT placed image → ⊥
  unfinished-not-opened none head placed opened =
      let nothing : Answer = Ok None in
      let e : nothing ≡ standing head placed = one-look nothing (standing head placed) none (head, placed, opened, refl) (λ e. cc e) (λ e. cc e) in
      cc e

  -- nothing is refused of an unfinished creation of the text
  unfinished-fits : IsBlank image ⊎ IsSealedOf text image → (s a : ℕ) → AtLook s a ⊎ (AtSeal s a ⊎ AtOpened s a) → ⊥
  unfinished-fits none s a (inl look) = look-not s a look None (any-unfinished none)
  unfinished-fits none s a (inr (inl sealed)) =
      let other : HasOtherText text MOST_LIMIT image a = record {
        head = sealed.1.head;
        text = header_text sealed.1.head;
        found = inr (sealed.1.sealed, refl);
        other = sealed.1.other;
        place = sealed.1.place;
      } in
      let nothing : Answer = Ok None in
      let e : answered (start.ProductDiffers a) ≡ nothing = one_answer text MOST_LIMIT image (answered (start.ProductDiffers a)) nothing other none (λ e. cc e) (λ e. cc e) in
      cc e
  unfinished-fits none s a (inr (inr opened)) = unfinished-not-opened (any-unfinished none) opened.0 opened.1 opened.2

  -- nor of a journal of the text that is good from the last image on
  good-fits : IsGoodFromLastImage product text MOST_LIMIT image → (s a : ℕ) → AtLook s a ⊎ (AtSeal s a ⊎ AtOpened s a) → ⊥
  good-fits good s a (inl look) = let opened = opened-of product text good in look-not-opened s a look opened.head opened.placed opened.opened
  good-fits good s a (inr (inl sealed)) = let opened = opened-of product text good in sealed-not-opened sealed.1.head opened.head opened.placed sealed.1.sealed opened.opened
  good-fits good s a (inr (inr found)) = elim found.3 [
    | inl own ↦ good-not-bad product text good found.0 found.1 found.2 a own.2
    | inr other ↦
        let opened = opened-of product text good in
        other.0 (ap (λ (t : PlacedText). t.bytes) (one_opened MOST_LIMIT image found.0 opened.head found.1 opened.placed found.2 opened.opened).1 ∙ opened.is)
  ]

  -- nor of a journal that can be amended
  module _ (can : CanFollow product text image) (recovered : CanBeRecovered can.kept.product can.kept.found.placed.bytes MOST_LIMIT image) where
    abbrev found : KeepsOtherText text image
    found = can.kept.found

    good-kept : IsGoodFromLastImage can.kept.product found.placed.bytes MOST_LIMIT image
    good-kept = elim recovered [
      | inl none ↦ absurd (unfinished-not-opened (any none) found.head found.placed found.opened)
      | inr good ↦ good
    ]
      where
        any : IsBlank image ⊎ IsSealedOf found.placed.bytes image → IsBlank image ⊎ ((head : Header) × IsSealed head image)
        any (inl blank) = inl blank
        any (inr sealed) = inr (in_version sealed.0 found.placed.bytes, sealed.1)

    product-fits : (s a : ℕ) → OfProduct found.head can.kept.product s a → ⊥
    product-fits s a (inl x) = let e : First ≡ Second = sym x.1 ∙ can.second in cc e
    product-fits s a (inr (inl x)) = let e : Err x.2.0 ≡ Ok tt = sym x.2.1 ∙ can.may in cc e
    product-fits s a (inr (inr x)) = good-not-bad can.kept.product found.placed.bytes good-kept found.head found.placed found.opened a x.3

    text-fits : (records : List Record) (s a : ℕ) → OfText found.head found.placed records s a → ⊥
    text-fits records s a (inl x) = x.1 can.kept.product can.kept.gives
    text-fits records s a (inr x) =
        product-fits s a (subst (λ (p : ProductLists). OfProduct found.head p s a) (one-product x.0 can.kept.product found.placed.bytes x.1 can.kept.gives) x.2)

    heads-fit : (s a : ℕ) → OfHeads found.head found.placed s a → ⊥
    heads-fit s a (inl x) = no_bad_head found.head MOST_LIMIT found.records image a found.heads x.1
    heads-fit s a (inr x) = text-fits x.0 s a x.2

    other-fits : (s a : ℕ) → AtLook s a ⊎ (AtSeal s a ⊎ AtOpened s a) → ⊥
    other-fits s a (inl look) = look-not-opened s a look found.head found.placed found.opened
    other-fits s a (inr (inl sealed)) = sealed-not-opened sealed.1.head found.head found.placed sealed.1.sealed found.opened
    other-fits s a (inr (inr opened)) = elim (opened-as found.head opened.0 found.placed opened.1 found.opened opened.2 s a opened.3) [
      | inl own ↦ found.other own.1
      | inr other ↦ heads-fit s a other.1
    ]

  pub fits-not-refused : Fits → (s a : ℕ) → IsRefusedForAmend product text image s a → ⊥
  fits-not-refused (inl (inl none)) s a refused = unfinished-fits none s a (refused-at s a refused)
  fits-not-refused (inl (inr good)) s a refused = good-fits good s a (refused-at s a refused)
  fits-not-refused (inr can) s a refused = other-fits can.0 can.1 s a (refused-at s a refused)

  -- ---- what is answered

  module _ (outcome : Outcome) where
    abbrev IsRefused : Type 0
    IsRefused = (outcome.status ≡ 9) ⊎ ((outcome.status ≡ 10) ⊎ ((outcome.status ≡ 11) ⊎ (outcome.status ≡ 13)))

    not-refused : (s : ℕ) → outcome.status ≡ s → (s ≡ 9 → ⊥) → (s ≡ 10 → ⊥) → (s ≡ 11 → ⊥) → (s ≡ 13 → ⊥) → IsRefused → ⊥
    not-refused s is nine ten eleven thirteen refused = ⊎_elim
        (λ e. nine (sym is ∙ e))
        (λ more. ⊎_elim (λ e. ten (sym is ∙ e)) (λ more. ⊎_elim (λ e. eleven (sym is ∙ e)) (λ e. thirteen (sym is ∙ e)) more) more)
        refused

    refuses-as : (s a : ℕ) → outcome ≡ record { status = s; at = a; messages = 0 } → IsRefusedForAmend product text image s a → RefusesToAmend product text image outcome
    refuses-as s a is fact =
        let status : outcome.status ≡ s = ap (λ (o : Outcome). o.status) is in
        let place : outcome.at ≡ a = ap (λ (o : Outcome). o.at) is in
        record {
          answered = λ refused. (
            subst (λ (k : ℕ). IsRefusedForAmend product text image k outcome.at) (sym status) (subst (λ (k : ℕ). IsRefusedForAmend product text image s k) (sym place) fact),
            ap (λ (o : Outcome). o.messages) is,
          );
          refused = λ s' a' x. let same = one-refusal s a s' a' fact x in inl (status ∙ same.0, place ∙ same.1);
        }

    refuses-none : (s : ℕ) → outcome.status ≡ s → (IsRefused → ⊥) → Fits → RefusesToAmend product text image outcome
    refuses-none s status not fits = record { answered = λ refused. absurd (not refused); refused = λ s' a' x. absurd (fits-not-refused fits s' a' x) }

    by-answer : (answer : Result ℕ Unamended) → outcome ≡ outcome_amended answer → AnswersAmend product text image answer → outcome.status ≢ 1 → RefusesToAmend product text image outcome
    by-answer (Ok count) is was there =
        let status : outcome.status ≡ 0 = ap (λ (o : Outcome). o.status) is in
        refuses-none 0 status (not-refused 0 status (λ e. cc e) (λ e. cc e) (λ e. cc e) (λ e. cc e)) was
    by-answer (Err unamended.NoMemory) is was there = absurd (there (ap (λ (o : Outcome). o.status) is))
    by-answer (Err unamended.Store) is was there =
        let status : outcome.status ≡ 5 = ap (λ (o : Outcome). o.status) is in
        record { answered = λ refused. absurd (not-refused 5 status (λ e. cc e) (λ e. cc e) (λ e. cc e) (λ e. cc e) refused); refused = λ s a x. inr status }
    by-answer (Err (unamended.NotAJournal at)) is was there = refuses-as 9 at is (inl (refl, was))
    by-answer (Err (unamended.Bad at)) is was there = refuses-as 10 at is (inr (inl (refl, was)))
    by-answer (Err (unamended.ProductDiffers at)) is was there = refuses-as 11 at is (inr (inr (inl (refl, was))))
    by-answer (Err (unamended.Full at)) is was there =
        let status : outcome.status ≡ 12 = ap (λ (o : Outcome). o.status) is in
        refuses-none 12 status (not-refused 12 status (λ e. cc e) (λ e. cc e) (λ e. cc e) (λ e. cc e)) (inr was)
    by-answer (Err (unamended.NotAmendable at)) is was there = refuses-as 13 at is (inr (inr (inr (refl, was))))

-- 9, 10, 11 and 13 come exactly where the image is such
pub amend-refuses : {S : Type 0} (m : StationMeanings S) (product : ProductLists) (text : List ℕ) (old new : S) (outcome : Outcome) → AmendResult m product text old new outcome → outcome.status ≢ 1
    → (image : List ℕ) → m.holds old ≡ Some image → RefusesToAmend product text image outcome
amend-refuses m product text old new outcome did there image known = by-answer product text image outcome did.answer did.is (did.did.answers image known) there

-- ---- an image from which a run can start

module _ (image text : List ℕ) (product : ProductLists) (gives : product_of text ≡ Ok product) (kept : History) (start : IsStartable product text kept image) where
  few : product.journal_limit ≤ MOST_LIMIT
  few = (product_of_text_is_right text product gives).most_limit

  short : length start.head.text ≤ MOST_TEXT
  short = short-text start.head.text start.first start.gives

  pub wide : Keeps start.head MOST_LIMIT start.records image
  wide = keeps-wider product.journal_limit MOST_LIMIT few start.head start.records image start.keeps

  pub startable-widely : IsStartableWithin MOST_LIMIT text kept image
  startable-widely = startable-wider product.journal_limit MOST_LIMIT few text kept image start

  -- its journal is good from the last image on
  pub good-kept-journal : IsJournal start.head MOST_LIMIT start.records image → IsGoodFromLastImage product text MOST_LIMIT image
  good-kept-journal journal = record {
    head = start.head;
    few = short;
    records = start.records;
    journal = journal;
    last = start.last;
    good = good-startable product text kept image start gives;
  }

-- An image of which all is given that an amendment takes is none that is refused.
module _ {P I S : Type 0} (m : StationMeanings S) (before : Outside P I S) (can : CanBeAmended m before) where
  abbrev from : AmendStart m before
  from = can.start

  good-from : IsJournal from.startable.head MOST_LIMIT from.startable.records from.image → IsGoodFromLastImage from.kept_product from.kept_text MOST_LIMIT from.image
  good-from = good-kept-journal from.image from.kept_text from.kept_product from.kept_gives from.kept from.startable

  same-text : from.kept_text ≡ from.text → CanBeRecovered from.kept_product from.kept_text MOST_LIMIT from.image → CanBeRecovered from.product from.text MOST_LIMIT from.image
  same-text same recovered =
      subst (λ (p : ProductLists). CanBeRecovered p from.text MOST_LIMIT from.image) (one-product from.kept_product from.product from.text (ap product_of (sym same) ∙ from.kept_gives) from.gives)
      (subst (λ (t : List ℕ). CanBeRecovered from.kept_product t MOST_LIMIT from.image) same recovered)

  unfinished-not-open : HasOpenGate from.image → (from.startable.records ≡ []) × IsUnfinished from.startable.head from.image → from.kept_text ≢ from.text → ⊥
  unfinished-not-open gate unfinished other = ⊎_elim
      (λ blank. other (from.blank blank.0))
      (λ sealed. sealed.not_open gate.opened)
      unfinished.1.unfinished

  other-text : from.kept_text ≢ from.text → Fits from.product from.text from.image
  other-text other = elim (wide from.image from.kept_text from.kept_product from.kept_gives from.kept from.startable) [
    | inl journal ↦
        let start = from.startable in
        let placed = last_text start.head start.records in
        let follow : CanFollow from.product from.text from.image = record {
          kept = record {
            found = record {
              head = start.head;
              placed = placed;
              opened = last_opened start.head MOST_LIMIT from.image start.records (short-text start.head.text start.first start.gives) start.last.inside journal;
              other = λ same. other (sym start.last.is ∙ same);
              records = start.records;
              heads = journal;
            };
            product = from.kept_product;
            gives = ap product_of start.last.is ∙ from.kept_gives;
          };
          second = (can.journal other).1;
          may = can.may other;
        } in
        inr (follow, inr (subst (λ (t : List ℕ). IsGoodFromLastImage from.kept_product t MOST_LIMIT from.image) (sym start.last.is) (good-from journal)))
    | inr unfinished ↦ absurd (unfinished-not-open (can.journal other).0 unfinished other)
  ]

  pub can-fits : Fits from.product from.text from.image
  can-fits = elim (same-or-other from.kept_text from.text) [
    | inl same ↦ inl (same-text same (⊎_elim
        (λ journal. inr (good-from journal))
        (λ unfinished. inl (unfinished-of from.kept_text from.image from.startable.head from.startable.records from.startable.last unfinished))
        (wide from.image from.kept_text from.kept_product from.kept_gives from.kept from.startable)))
    | inr other ↦ other-text other
  ]
