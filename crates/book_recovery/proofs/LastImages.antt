-- The records before the last image, and those from it on: what becomes of both where one record more comes.
use Rattle.std.proofs.Common.{◌≡◌, Bool, true, false, cond, ◌||◌, List, [], ◌∷◌, ◌++◌, length, Some, None, refl, sym, ◌∙◌, ap, ap₂}
use Rattle.gx_base.proofs.Tests.{not-both}
use Rattle.match_journal.specs.Journal.{Record, journal_front, Header}
use Rattle.book_recovery.specs.Records.{is_image, has_image, from_last_image, before_last_image, image_gate}

-- ---- the first record

or-true : (a : Bool) → (a || true) ≡ true
or-true true = refl
or-true false = refl

pub or-none : (a b : Bool) → (a || b) ≡ false → (a ≡ false) × (b ≡ false)
or-none true b neither = absurd (let differ : true ≡ false = neither in cc differ)
or-none false b neither = (refl, neither)

module _ (r : Record) (records : List Record) where
  pub last-behind : has_image records ≡ true → from_last_image (r ∷ records) ≡ from_last_image records
  last-behind some = ap (λ (b : Bool). cond b (from_last_image records) (r ∷ records)) some

  pub last-here : has_image records ≡ false → from_last_image (r ∷ records) ≡ r ∷ records
  last-here none = ap (λ (b : Bool). cond b (from_last_image records) (r ∷ records)) none

  pub front-behind : has_image records ≡ true → before_last_image (r ∷ records) ≡ r ∷ before_last_image records
  front-behind some = ap (λ (b : Bool). cond b (r ∷ before_last_image records) []) some

  pub front-here : has_image records ≡ false → before_last_image (r ∷ records) ≡ []
  front-here none = ap (λ (b : Bool). cond b (r ∷ before_last_image records) []) none

-- ---- both are all

split-by : (b : Bool) (r : Record) (before from records : List Record) → before ++ from ≡ records → cond b (r ∷ before) [] ++ cond b from (r ∷ records) ≡ r ∷ records
split-by true r before from records is = ap (λ (l : List Record). r ∷ l) is
split-by false r before from records is = refl

pub last_split : (records : List Record) → before_last_image records ++ from_last_image records ≡ records
last_split [] = refl
last_split (r ∷ records) = split-by (has_image records) r (before_last_image records) (from_last_image records) records (last_split records)

-- ---- an image more

module _ (r : Record) (is : is_image r ≡ true) where
  pub has-image-more : (xs : List Record) → has_image (xs ++ r ∷ []) ≡ true
  has-image-more [] = ap (λ (b : Bool). b || false) is
  has-image-more (x ∷ xs) = ap (λ (b : Bool). is_image x || b) (has-image-more xs) ∙ or-true (is_image x)

  pub before-image-more : (xs : List Record) → before_last_image (xs ++ r ∷ []) ≡ xs
  before-image-more [] = refl
  before-image-more (x ∷ xs) = front-behind x (xs ++ r ∷ []) (has-image-more xs) ∙ ap (λ (l : List Record). x ∷ l) (before-image-more xs)

  pub from-image-more : (xs : List Record) → from_last_image (xs ++ r ∷ []) ≡ r ∷ []
  from-image-more [] = refl
  from-image-more (x ∷ xs) = last-behind x (xs ++ r ∷ []) (has-image-more xs) ∙ from-image-more xs

  pub gate-image-more : (head : Header) (xs : List Record) → image_gate head (xs ++ r ∷ []) ≡ Some (length (journal_front head xs))
  gate-image-more head xs =
      ap₂ (λ (b : Bool) (l : List Record). cond b (Some (length (journal_front head l))) None) (has-image-more xs) (before-image-more xs)

-- ---- frames more

module _ (r : Record) (is : is_image r ≡ false) where
  pub has-frames-more : (xs : List Record) → has_image (xs ++ r ∷ []) ≡ has_image xs
  has-frames-more [] = ap (λ (b : Bool). b || false) is
  has-frames-more (x ∷ xs) = ap (λ (b : Bool). is_image x || b) (has-frames-more xs)

  pub before-frames-more : (xs : List Record) → before_last_image (xs ++ r ∷ []) ≡ before_last_image xs
  before-frames-more [] = refl
  before-frames-more (x ∷ xs) = ap₂ (λ (b : Bool) (l : List Record). cond b (x ∷ l) []) (has-frames-more xs) (before-frames-more xs)

  push-by : (b : Bool) (xs ys : List Record) → cond b (xs ++ r ∷ []) (ys ++ r ∷ []) ≡ cond b xs ys ++ r ∷ []
  push-by true xs ys = refl
  push-by false xs ys = refl

  pub from-frames-more : (xs : List Record) → from_last_image (xs ++ r ∷ []) ≡ from_last_image xs ++ r ∷ []
  from-frames-more [] = refl
  from-frames-more (x ∷ xs) =
      ap₂ (λ (b : Bool) (l : List Record). cond b l (x ∷ (xs ++ r ∷ []))) (has-frames-more xs) (from-frames-more xs)
      ∙ push-by (has_image xs) (from_last_image xs) (x ∷ xs)

  pub gate-frames-more : (head : Header) (xs : List Record) → image_gate head (xs ++ r ∷ []) ≡ image_gate head xs
  gate-frames-more head xs =
      ap₂ (λ (b : Bool) (l : List Record). cond b (Some (length (journal_front head l))) None) (has-frames-more xs) (before-frames-more xs)

-- ---- no image

pub none-before : (records : List Record) → has_image records ≡ false → before_last_image records ≡ []
none-before [] none = refl
none-before (r ∷ records) none = front-here r records (or-none (is_image r) (has_image records) none).1

-- ---- none from the last image on

pub none-kept : (records : List Record) → from_last_image records ≡ [] → records ≡ []
none-kept [] is = refl
none-kept (x ∷ records) is =
    let go : (b : Bool) → has_image records ≡ b → x ∷ records ≡ [] = elim [
      | true ↦ λ some. not-both (has_image records) some (ap has_image (none-kept records (sym (last-behind x records some) ∙ is)))
      | false ↦ λ none. sym (last-here x records none) ∙ is
    ] in go (has_image records) refl

-- where no image is among them, there is none
pub none-from-none : (records : List Record) → has_image (from_last_image records) ≡ false → has_image records ≡ false
none-from-none [] none = refl
none-from-none (x ∷ records) is =
    let go : (b : Bool) → has_image records ≡ b → has_image (x ∷ records) ≡ false = elim [
      | true ↦ λ some. not-both (has_image records) some (none-from-none records (ap has_image (sym (last-behind x records some)) ∙ is))
      | false ↦ λ none. ap has_image (sym (last-here x records none)) ∙ is
    ] in go (has_image records) refl

-- ---- no image comes after the first of the records from the last image on

none-behind : (xs : List Record) (r : Record) (more : List Record) → has_image (xs ++ r ∷ more) ≡ false → has_image more ≡ false
none-behind [] r more none = (or-none (is_image r) (has_image more) none).1
none-behind (x ∷ xs) r more none = none-behind xs r more (or-none (is_image x) (has_image (xs ++ r ∷ more)) none).1

none-within : (x : Record) (records done : List Record) (r : Record) (more : List Record) → has_image records ≡ false → x ∷ records ≡ done ++ r ∷ more → has_image more ≡ false
none-within x records [] r more none is = let same : records ≡ more = cc is in ap has_image (sym same) ∙ none
none-within x records (d ∷ done) r more none is = let same : records ≡ done ++ r ∷ more = cc is in none-behind done r more (ap has_image (sym same) ∙ none)

pub none-left : (records done : List Record) (r : Record) (more : List Record) → from_last_image records ≡ done ++ r ∷ more → has_image more ≡ false
none-left [] [] r more is = absurd (cc is)
none-left [] (d ∷ done) r more is = absurd (cc is)
none-left (x ∷ records) done r more is =
    let go : (b : Bool) → has_image records ≡ b → has_image more ≡ false = elim [
      | true ↦ λ some. none-left records done r more (sym (last-behind x records some) ∙ is)
      | false ↦ λ none. none-within x records done r more none (sym (last-here x records none) ∙ is)
    ] in go (has_image records) refl
