-- The products of the texts of a journal, taken one after the other.
use Rattle.std.proofs.Common.{◌≡◌, ℕ, ◌-◌, true, false, true≢false, List, [], ◌∷◌, ◌++◌, length, Bor, Option, Some, None, Result, Ok, Err, refl, sym, subst, ◌∙◌, ap, arith, append-nil}
use Rattle.std.specs.List.{slice_get}
use Rattle.std.specs.Option.{option_copied}
use Rattle.std.specs.Result.{is_err}
use Rattle.product_file.specs.Products.{ProductLists}
use Rattle.product_file.specs.ProductTexts.{product_of}
use Rattle.product_file.specs.Amendments.{may_follow}
use Rattle.product_file.specs.declared.amendments.AmendFault.{AmendFault}
use Rattle.match_journal.specs.Journal.{Header, Record}
use Rattle.match_journal.specs.Texts.{HasText, amended_text}
use Rattle.match_journal.specs.declared.entry.EntryKind.{EntryKind}
use Rattle.match_journal.specs.declared.entry.EntryKind.TheVariants.{Frames, OldImage, Image, Amendment}
use Rattle.book_recovery.specs.Histories.{IsProductBehind, HaveProducts, products_as, products_in, FollowFrom, FollowEachOther, is_amendment, HaveNoAmendment}
use Rattle.book_recovery.specs.Products.{AreProducts}
use Rattle.book_recovery.specs.Inner.Keeping.{last_of, FollowsLast, CannotBeKept}

-- ---- lists of products

from-push : (first : ProductLists) (later : List ProductLists) (p : ProductLists) → FollowFrom first later → may_follow (last_of first later) p ≡ Ok tt → FollowFrom first (later ++ p ∷ [])
from-push first [] p follow may = (may, tt)
from-push first (next ∷ later) p follow may = (follow.0, from-push next later p follow.1 may)

pub follow-push : (items : List ProductLists) (p : ProductLists) → FollowEachOther items → FollowsLast items p → FollowEachOther (items ++ p ∷ [])
follow-push [] p follow may = tt
follow-push (first ∷ later) p follow may = from-push first later p follow may

last-at : (first : ProductLists) (later : List ProductLists) → slice_get (first ∷ later) (length later) ≡ Some (last_of first later)
last-at first [] = refl
last-at first (next ∷ later) = last-at next later

last-got : (first : ProductLists) (later : List ProductLists) (before : ProductLists) → slice_get (first ∷ later) (length (first ∷ later) - 1) ≡ Some before → last_of first later ≡ before
last-got first later before got =
    let count : length (first ∷ later) - 1 ≡ length later = omega arith in
    cc (sym (last-at first later) ∙ ap (slice_get (first ∷ later)) (sym count) ∙ got)

-- by the last element
pub follows-last : (items : List ProductLists) (before p : ProductLists) → slice_get items (length items - 1) ≡ Some before → may_follow before p ≡ Ok tt → FollowsLast items p
follows-last [] before p got may = tt
follows-last (first ∷ later) before p got may = subst (λ (q : ProductLists). may_follow q p ≡ Ok tt) (sym (last-got first later before got)) may

pub last-followed : (items : List ProductLists) (before p : ProductLists) → slice_get items (length items - 1) ≡ Some before → FollowsLast items p → may_follow before p ≡ Ok tt
last-followed [] before p got may = absurd (cc got)
last-followed (first ∷ later) before p got may = subst (λ (q : ProductLists). may_follow q p ≡ Ok tt) (last-got first later before got) may

-- there is none before the first
pub follows-none : (items : List ProductLists) (p : ProductLists) → slice_get items (length items - 1) ≡ None → FollowsLast items p
follows-none [] p got = tt
follows-none (first ∷ later) p got =
    let count : length (first ∷ later) - 1 ≡ length later = omega arith in
    absurd (cc (sym (last-at first later) ∙ ap (slice_get (first ∷ later)) (sym count) ∙ got))

-- what was answered of the last element
pub none-got : {T : Type 0} (r : Option (Bor T)) → ((b : Bor T) → r ≡ Some b → ⊥) → (o : Option T) → option_copied r ≡ o → o ≡ None
none-got None none o is = sym is
none-got (Some b) none o is = absurd (none b refl)

-- and of whether one may follow it
pub may-be : (r told : Result (Unit {0}) AmendFault) → r ≡ told → is_err r ≡ false → told ≡ Ok tt
may-be (Ok t) told is fine = sym is
may-be (Err e) told is fine = absurd (cc fine)

pub may-not : (r told : Result (Unit {0}) AmendFault) → r ≡ told → is_err r ≡ true → told ≡ Ok tt → ⊥
may-not r told is wrong may = true≢false (sym wrong ∙ ap is_err (is ∙ may))

-- a text gives one product
pub one-given : (text : List ℕ) (a b : ProductLists) → product_of text ≡ Ok a → product_of text ≡ Ok b → a ≡ b
one-given text a b x y = cc (sym x ∙ y)

-- ---- the products of records

-- the product after several records
abbrev pub product_after : (product : ProductLists) (records : List Record) → HaveProducts product records → ProductLists
product_after product [] have = product
product_after product (r ∷ records) have = product_after have.0 records have.3

last-as : (product behind : ProductLists) (kind : EntryKind) (payload : List ℕ) (later : List ProductLists) → IsProductBehind product kind payload behind → last_of product (products_as kind behind later) ≡ last_of behind later
last-as product behind Frames payload later is = ap (λ (p : ProductLists). last_of p later) (sym is)
last-as product behind OldImage payload later is = ap (λ (p : ProductLists). last_of p later) (sym is)
last-as product behind Image payload later is = ap (λ (p : ProductLists). last_of p later) (sym is)
last-as product behind Amendment payload later is = refl

last-after : (product : ProductLists) (records : List Record) (have : HaveProducts product records) → last_of product (products_in product records have) ≡ product_after product records have
last-after product [] have = refl
last-after product (r ∷ records) have = last-as product have.0 r.kind r.payload (products_in have.0 records have.3) have.1 ∙ last-after have.0 records have.3

have-append : (product : ProductLists) (before more : List Record) (have : HaveProducts product before) → HaveProducts (product_after product before have) more → HaveProducts product (before ++ more)
have-append product [] more have then = then
have-append product (r ∷ before) more have then = (have.0, have.1, have.2, have-append have.0 before more have.3 then)

as-append : (kind : EntryKind) (behind : ProductLists) (xs ys : List ProductLists) → products_as kind behind (xs ++ ys) ≡ products_as kind behind xs ++ ys
as-append Frames behind xs ys = refl
as-append OldImage behind xs ys = refl
as-append Image behind xs ys = refl
as-append Amendment behind xs ys = refl

products-append : (product : ProductLists) (before more : List Record) (have : HaveProducts product before) (then : HaveProducts (product_after product before have) more)
    → products_in product (before ++ more) (have-append product before more have then) ≡ products_in product before have ++ products_in (product_after product before have) more then
unfolding have-append
products-append product [] more have then = refl
products-append product (r ∷ before) more have then =
    ap (products_as r.kind have.0) (products-append have.0 before more have.3 then) ∙ as-append r.kind have.0 (products_in have.0 before have.3) (products_in (product_after have.0 before have.3) more then)

-- one record more was given its product
one-behind : (product a b : ProductLists) (kind : EntryKind) (payload : List ℕ) → IsProductBehind product kind payload a → IsProductBehind product kind payload b → a ≡ b
one-behind product a b Frames payload x y = x ∙ sym y
one-behind product a b OldImage payload x y = x ∙ sym y
one-behind product a b Image payload x y = x ∙ sym y
one-behind product a b Amendment payload x y = cc (sym x.0 ∙ y.0)

-- what a record has, after those before
pub record IsGiven (product : ProductLists) (r : Record) : Type 0 where
  pub behind : ProductLists
  pub is : IsProductBehind product r.kind r.payload behind
  pub text : r.kind ≡ Amendment → HasText r.payload

have-last : (product : ProductLists) (before : List Record) (r : Record) → HaveProducts product (before ++ r ∷ []) → (have : HaveProducts product before) → IsGiven (product_after product before have) r
have-last product [] r all have = record { behind = all.0; is = all.1; text = all.2 }
have-last product (x ∷ before) r all have =
    have-last have.0 before r (subst (λ (p : ProductLists). HaveProducts p (before ++ r ∷ [])) (one-behind product all.0 have.0 x.kind x.payload all.1 have.1) all.3) have.3

-- records without amendments give none
behind-plain : (product : ProductLists) (kind : EntryKind) (payload : List ℕ) → is_amendment kind ≡ false → IsProductBehind product kind payload product
behind-plain product Frames payload none = refl
behind-plain product OldImage payload none = refl
behind-plain product Image payload none = refl
behind-plain product Amendment payload none = absurd (cc none)

products-plain-as : (kind : EntryKind) (behind : ProductLists) (later : List ProductLists) → is_amendment kind ≡ false → products_as kind behind later ≡ later
products-plain-as Frames behind later none = refl
products-plain-as OldImage behind later none = refl
products-plain-as Image behind later none = refl
products-plain-as Amendment behind later none = absurd (cc none)

plain-not : (kind : EntryKind) → is_amendment kind ≡ false → kind ≡ Amendment → ⊥
plain-not kind none is = cc (sym none ∙ ap is_amendment is)

pub have-plain : (product : ProductLists) (records : List Record) → HaveNoAmendment records → HaveProducts product records
have-plain product [] none = tt
have-plain product (r ∷ records) none = (product, behind-plain product r.kind r.payload none.0, (λ is. absurd (plain-not r.kind none.0 is)), have-plain product records none.1)

pub products-plain : (product : ProductLists) (records : List Record) (none : HaveNoAmendment records) → products_in product records (have-plain product records none) ≡ []
unfolding have-plain
products-plain product [] none = refl
products-plain product (r ∷ records) none = products-plain-as r.kind product (products_in product records (have-plain product records none.1)) none.0 ∙ products-plain product records none.1

-- ---- the products of the header's text and of records

module _ (head : Header) (before : List Record) (items : List ProductLists) (at : AreProducts head before items) where
  abbrev now : ProductLists
  now = product_after at.first before at.have

  are-append : (more : List Record) (then : HaveProducts now more) → AreProducts head (before ++ more) (items ++ products_in now more then)
  are-append more then = record {
    first = at.first;
    gives = at.gives;
    have = have-append at.first before more at.have then;
    are = ap (λ (l : List ProductLists). l ++ products_in now more then) at.are ∙ ap (λ (l : List ProductLists). at.first ∷ l) (sym (products-append at.first before more at.have then));
  }

  pub are-plain : (more : List Record) → HaveNoAmendment more → AreProducts head (before ++ more) items
  are-plain more none =
      subst (AreProducts head (before ++ more)) (ap (λ (l : List ProductLists). items ++ l) (products-plain now more none) ∙ append-nil items) (are-append more (have-plain now more none))

  -- the last one is that of now
  now-follows : (p : ProductLists) → FollowsLast items p → may_follow now p ≡ Ok tt
  now-follows p may =
      subst (λ (q : ProductLists). may_follow q p ≡ Ok tt) (last-after at.first before at.have) (subst (λ (l : List ProductLists). FollowsLast l p) at.are may)

  follows-now : (p : ProductLists) → may_follow now p ≡ Ok tt → FollowsLast items p
  follows-now p may =
      subst (λ (l : List ProductLists). FollowsLast l p) (sym at.are) (subst (λ (q : ProductLists). may_follow q p ≡ Ok tt) (sym (last-after at.first before at.have)) may)

  module _ (r : Record) (amends : r.kind ≡ Amendment) where
    pub are-amended : (p : ProductLists) → HasText r.payload → product_of (amended_text r.payload) ≡ Ok p → FollowsLast items p → AreProducts head (before ++ r ∷ []) (items ++ p ∷ [])
    are-amended p text gives may =
        let is : IsProductBehind now r.kind r.payload p = subst (λ (k : EntryKind). IsProductBehind now k r.payload p) (sym amends) (gives, now-follows p may) in
        let then : HaveProducts now (r ∷ []) = (p, is, (λ _. text), tt) in
        subst (AreProducts head (before ++ r ∷ [])) (ap (λ (k : EntryKind). items ++ products_as k p []) amends) (are-append (r ∷ []) then)

    pub are-not-amended : (HasText r.payload → CannotBeKept (amended_text r.payload) items) → HaveProducts at.first (before ++ r ∷ []) → ⊥
    are-not-amended not all =
        let given = have-last at.first before r all at.have in
        let is : IsProductBehind now Amendment r.payload given.behind = subst (λ (k : EntryKind). IsProductBehind now k r.payload given.behind) amends given.is in
        not (given.text amends) given.behind is.0 (follows-now given.behind is.1)
