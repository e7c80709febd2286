-- A text up to its first SOH, and what comes after that.
use Rattle.std.proofs.Common.{◌≡◌, ℕ, suc, ◌+◌, ◌≤◌, Bool, true, false, not, ◌==◌, List, [], ◌∷◌, ◌++◌, length, take, drop, refl, sym, ap, ◌∙◌, arith, eqb-true}
use Rattle.std.proofs.lemmas.Bool.{cond-true, cond-false, and_parts, and_from, true≢false}
use Rattle.std.proofs.lemmas.Str.Parse.{digit_at}
use Rattle.std.specs.Str.Parse.{AllDigits}
use Rattle.std.specs.List.{position_or_len, before_first, after_first, list_all}
use Rattle.fix_request.specs.Fields.{is_soh}

at_soh : (c : ℕ) (bytes : List ℕ) → is_soh c ≡ true → position_or_len is_soh (c ∷ bytes) ≡ 0
at_soh c bytes is = cond-false (not (is_soh c)) (1 + position_or_len is_soh bytes) 0 (ap not is)

not_at_soh : (c : ℕ) (bytes : List ℕ) → is_soh c ≡ false → position_or_len is_soh (c ∷ bytes) ≡ suc (position_or_len is_soh bytes)
not_at_soh c bytes other =
    let here : position_or_len is_soh (c ∷ bytes) ≡ 1 + position_or_len is_soh bytes = cond-true (not (is_soh c)) (1 + position_or_len is_soh bytes) 0 (ap not other) in
    omega arith

pub before-more : (c : ℕ) (bytes : List ℕ) → is_soh c ≡ false → before_first is_soh (c ∷ bytes) ≡ c ∷ before_first is_soh bytes
before-more c bytes other = ap (λ n. take n (c ∷ bytes)) (not_at_soh c bytes other)

pub after-more : (c : ℕ) (bytes : List ℕ) → is_soh c ≡ false → after_first is_soh (c ∷ bytes) ≡ after_first is_soh bytes
after-more c bytes other =
    let n = position_or_len is_soh bytes in
    let here = not_at_soh c bytes other in
    let more : position_or_len is_soh (c ∷ bytes) + 1 ≡ suc (n + 1) = omega arith in
    ap (λ k. drop k (c ∷ bytes)) more

pub before-at : (c : ℕ) (bytes : List ℕ) → is_soh c ≡ true → before_first is_soh (c ∷ bytes) ≡ []
before-at c bytes is = ap (λ n. take n (c ∷ bytes)) (at_soh c bytes is)

pub after-at : (c : ℕ) (bytes : List ℕ) → is_soh c ≡ true → after_first is_soh (c ∷ bytes) ≡ bytes
after-at c bytes is = ap (λ (n : ℕ). drop (n + 1) (c ∷ bytes)) (at_soh c bytes is)

pub not-eqb : (a b : ℕ) → (a ≡ b → ⊥) → (a == b) ≡ false
not-eqb a b differ = by_test (a == b) refl
  where
    by_test : (t : Bool) → (a == b) ≡ t → t ≡ false
    by_test true is = absurd (differ (eqb-true a b is))
    by_test false is = refl

-- ---- texts without SOH

abbrev pub is_other : ℕ → Bool
is_other c = not (is_soh c)

pub other_is : (c : ℕ) (b : Bool) → is_soh c ≡ b → not b ≡ true → is_soh c ≡ false
other_is c true is e = absurd (true≢false (sym e))
other_is c false is e = is

-- what comes after a text without SOH and the SOH that ends it
pub after-text : (xs rest : List ℕ) → list_all is_other xs ≡ true → after_first is_soh (xs ++ 1 ∷ rest) ≡ rest
after-text [] rest all = after-at 1 rest refl
after-text (c ∷ xs) rest all =
    let both = and_parts (is_other c) (list_all is_other xs) all in
    after-more c (xs ++ 1 ∷ rest) (other_is c (is_soh c) refl both.0) ∙ after-text xs rest both.1

digit_other : (c : ℕ) → 48 ≤ c → is_other c ≡ true
digit_other c le = ap not (not-eqb c 1 (λ is. absurd (omega (arith, le, is))))

pub digits_other : (ds : List ℕ) → AllDigits 10 ds → list_all is_other ds ≡ true
digits_other [] all = refl
digits_other (c ∷ ds) all =
    let some : 1 ≤ length (c ∷ ds) = omega arith in
    and_from (is_other c) (list_all is_other ds) (digit_other c (digit_at (c ∷ ds) 0 all some).0) (digits_other ds all.1)

pub before-text : (xs rest : List ℕ) → list_all is_other xs ≡ true → before_first is_soh (xs ++ 1 ∷ rest) ≡ xs
before-text [] rest all = before-at 1 rest refl
before-text (c ∷ xs) rest all =
    let both = and_parts (is_other c) (list_all is_other xs) all in
    before-more c (xs ++ 1 ∷ rest) (other_is c (is_soh c) refl both.0) ∙ ap (λ (l : List ℕ). c ∷ l) (before-text xs rest both.1)
