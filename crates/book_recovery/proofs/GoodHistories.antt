-- Records that are good under the products of their times: some of them, one more, and the products that they have.
use Rattle.std.proofs.Common.{◌≡◌, ℕ, List, [], ◌∷◌, ◌++◌, sym, subst, ◌∙◌}
use Rattle.product_file.specs.Products.{ProductLists}
use Rattle.order_kinds.specs.Histories.{History, last_product}
use Rattle.match_journal.specs.Journal.{Record}
use Rattle.match_journal.specs.Texts.{HasText, amended_text}
use Rattle.match_journal.specs.declared.entry.EntryKind.{EntryKind}
use Rattle.match_journal.specs.declared.entry.EntryKind.TheVariants.{Frames, OldImage, Image, Amendment}
use Rattle.book_recovery.specs.Records.{count_as, count_behind_all, IsGoodAs}
use Rattle.book_recovery.specs.Histories.{IsProductBehind, AreGoodFrom, HaveProducts, history_as, history_behind}
use Rattle.book_recovery.proofs.Histories.{as-last, one-product}

-- ---- the product after a record

-- there is one
pub one-behind : (product a b : ProductLists) (kind : EntryKind) (payload : List ℕ) → IsProductBehind product kind payload a → IsProductBehind product kind payload b → a ≡ b
one-behind product a b Frames payload is is' = is ∙ sym is'
one-behind product a b OldImage payload is is' = is ∙ sym is'
one-behind product a b Image payload is is' = is ∙ sym is'
one-behind product a b Amendment payload is is' = one-product a b (amended_text payload) is.0 is'.0

-- ---- some of the records

pub have-front : (product : ProductLists) (xs ys : List Record) → HaveProducts product (xs ++ ys) → HaveProducts product xs
have-front product [] ys have = tt
have-front product (x ∷ xs) ys have = (have.0, have.1, have.2, have-front have.0 xs ys have.3)

pub good-front : (product : ProductLists) (count : ℕ) (xs ys : List Record) → AreGoodFrom product count (xs ++ ys) → AreGoodFrom product count xs
good-front product count [] ys good = tt
good-front product count (x ∷ xs) ys good = (good.0, good.1, good.2, good-front good.0 (count_as count x.kind x.payload) xs ys good.3)

-- ---- good records have products

as-text : (product : ProductLists) (count : ℕ) (kind : EntryKind) (payload : List ℕ) → IsGoodAs product count kind payload → kind ≡ Amendment → HasText payload
as-text product count Frames payload good is = absurd (cc is)
as-text product count OldImage payload good is = absurd (cc is)
as-text product count Image payload good is = absurd (cc is)
as-text product count Amendment payload good is = good.text

pub good-have : (product : ProductLists) (count : ℕ) (records : List Record) → AreGoodFrom product count records → HaveProducts product records
good-have product count [] good = tt
good-have product count (r ∷ records) good =
    (good.0, good.1, as-text good.0 count r.kind r.payload good.2, good-have good.0 (count_as count r.kind r.payload) records good.3)

-- ---- one record more

module _ (r : Record) (behind : ProductLists) where
  -- it is good under the product after it
  pub good-more : (product : ProductLists) (count : ℕ) (h : History) (before : List Record) → last_product h ≡ product → AreGoodFrom product count before
      → IsProductBehind (last_product (history_behind h before)) r.kind r.payload behind → IsGoodAs behind (count_behind_all count before) r.kind r.payload → AreGoodFrom product count (before ++ r ∷ [])
  good-more product count h [] last good is own = (behind, subst (λ (p : ProductLists). IsProductBehind p r.kind r.payload behind) last is, own, tt)
  good-more product count h (x ∷ before) last good is own = (
    good.0,
    good.1,
    good.2,
    good-more good.0 (count_as count x.kind x.payload) (history_as h x.kind x.payload) before (as-last product good.0 h x.kind x.payload last good.1) good.3 is own,
  )

  pub good-last : (product : ProductLists) (count : ℕ) (h : History) (before : List Record) → last_product h ≡ product → AreGoodFrom product count (before ++ r ∷ [])
      → IsProductBehind (last_product (history_behind h before)) r.kind r.payload behind → IsGoodAs behind (count_behind_all count before) r.kind r.payload
  good-last product count h [] last good is =
      subst (λ (p : ProductLists). IsGoodAs p count r.kind r.payload)
      (one-behind product good.0 behind r.kind r.payload good.1 (subst (λ (p : ProductLists). IsProductBehind p r.kind r.payload behind) last is)) good.2
  good-last product count h (x ∷ before) last good is =
      good-last good.0 (count_as count x.kind x.payload) (history_as h x.kind x.payload) before (as-last product good.0 h x.kind x.payload last good.1) good.3 is
