-- Prices as reports write them: their bytes, and that they are read as the same prices.
use Rattle.std.proofs.Common.{◌≡◌, ℕ, ◌+◌, ◌*◌, ◌/◌, ◌%◌, ◌^◌, ◌<◌, ◌≤◌, Bool, true, false, cond, not, nat_lt, nat_le, List, [], ◌∷◌, ◌++◌, length, take, drop, replicate, decimal, ℤ, pos, Ok, Err, refl, sym, ap, ap₂, subst, ◌∙◌, arith, length-append, append_assoc}
use Prim.Native.Nat.{zero, suc}
use Rattle.std.specs.Prelude.{codes, negsuc, neg_ℤ, unsigned_abs, int_lt}
use Rattle.std.specs.Int.{is_negative}
use Rattle.std.specs.List.{position_or_len, before_first, after_first}
use Rattle.std.specs.Char.{digit_value, is_ascii_digit}
use Rattle.std.specs.Str.Parse.{digits_value}
use Rattle.std.proofs.lemmas.Bool.{and_from, cond-false, le-leb, le-ltb, ne_eqb, and_parts}
use Rattle.std.proofs.lemmas.Bool.Decides.{nat_tests}
use Rattle.std.proofs.lemmas.Int.Digits.{digits_value_push}
use Rattle.std.proofs.lemmas.Fmt.{decimal_nonempty, length-decimal-le}
use Rattle.std.proofs.lemmas.List.{take_at, drop_at, take_all, drop_all, append-nil, length_push}
use Rattle.std.proofs.lemmas.List.Folds.{list_all-append}
use Rattle.std.proofs.Math.Nat.{div-le_self, div-div-eq-div-mul, pow-succ'}
use Rattle.gx_base.specs.Numbers.{are_digits, are_zeros, is_point, fixed_digits, has_minus, unsigned_text, whole_digits, fraction_digits, is_price_text, units_of, signed_units, price_limit, price_of, fraction_text, price_text}
use Rattle.gx_base.specs.declared.limits.TheConstants.{MOST_PRICE_UNITS, MOST_DECIMALS}
use Rattle.gx_base.specs.declared.price.Price.{Price}
use Rattle.gx_base.specs.declared.price.PriceFault.TheVariants.{Format, Scale, Range}
use Rattle.gx_base.proofs.NumberTexts.{Lacks, lacks-append, decimal-lacks, decimal-digits, decimal-value}

-- ---- the digits after the point

pub length-fixed_digits : (width n : ℕ) → length (fixed_digits width n) ≡ width
length-fixed_digits zero n = refl
length-fixed_digits (suc width) n = length_push (fixed_digits width (n / 10)) _ ∙ omega (arith, length-fixed_digits width (n / 10))

one-digit : (n : ℕ) → (is_ascii_digit (48 + n % 10) ≡ true) × (digit_value (48 + n % 10) ≡ n % 10)
one-digit n =
    let low : n % 10 < 10 = omega arith in
    (and_from (nat_le 48 (48 + n % 10)) (nat_le (48 + n % 10) 57) (le-leb 48 (48 + n % 10) (omega arith)) (le-leb (48 + n % 10) 57 (omega arith)), grind (arith, nat_tests))

pub fixed-are-digits : (width n : ℕ) → are_digits (fixed_digits width n) ≡ true
fixed-are-digits zero n = refl
fixed-are-digits (suc width) n =
    list_all-append is_ascii_digit (fixed_digits width (n / 10)) ((48 + n % 10) ∷ [])
    ∙ and_from _ _ (fixed-are-digits width (n / 10)) (and_from _ true (one-digit n).0 refl)

-- the digits of n / 10 ^ width, and then the last `width` digits of n
pub fixed-value : (width n : ℕ) (whole : List ℕ) → digits_value 10 whole ≡ n / 10 ^ width → digits_value 10 (whole ++ fixed_digits width n) ≡ n
fixed-value zero n whole e = ap (digits_value 10) (append-nil whole) ∙ e ∙ omega arith
fixed-value (suc width) n whole e =
    let front = fixed_digits width (n / 10) in
    let tenth : n / 10 ^ suc width ≡ n / 10 / 10 ^ width = ap (λ (m : ℕ). n / m) (pow-succ' 10 width) ∙ sym (div-div-eq-div-mul n 10 (10 ^ width)) in
    let before : digits_value 10 (whole ++ front) ≡ n / 10 = fixed-value width (n / 10) whole (e ∙ tenth) in
    let last = (one-digit n).1 in
    ap (digits_value 10) (sym (append_assoc whole front ((48 + n % 10) ∷ [])))
    ∙ digits_value_push 10 (whole ++ front) (48 + n % 10)
    ∙ ap₂ (λ (a : ℕ) (b : ℕ). a * 10 + b) before last
    ∙ omega arith

-- ---- before and after the point

no-point : (c : ℕ) → is_ascii_digit c ≡ true → is_point c ≡ false
no-point c d = grind (arith, nat_tests)

pub at-end : (ds : List ℕ) → are_digits ds ≡ true → position_or_len is_point ds ≡ length ds
at-end [] h = refl
at-end (c ∷ ds) h =
    let both = and_parts (is_ascii_digit c) (are_digits ds) h in
    ap (λ (b : Bool). cond (not b) (1 + position_or_len is_point ds) 0) (no-point c both.0) ∙ omega (arith, at-end ds both.1)

pub at-point : (ds es : List ℕ) → are_digits ds ≡ true → position_or_len is_point (ds ++ 46 ∷ es) ≡ length ds
at-point [] es h = refl
at-point (c ∷ ds) es h =
    let both = and_parts (is_ascii_digit c) (are_digits ds) h in
    ap (λ (b : Bool). cond (not b) (1 + position_or_len is_point (ds ++ 46 ∷ es)) 0) (no-point c both.0) ∙ omega (arith, at-point ds es both.1)

-- digits, and the digits after the point
whole-is : (decimals n : ℕ) (ds : List ℕ) → are_digits ds ≡ true → before_first is_point (ds ++ fraction_text decimals n) ≡ ds
whole-is zero n ds h =
    ap (before_first is_point) (append-nil ds) ∙ ap (λ (k : ℕ). take k ds) (at-end ds h) ∙ take_all (length ds) ds (omega arith)
whole-is (suc k) n ds h =
    let es = fixed_digits (suc k) n in
    ap (λ (j : ℕ). take j (ds ++ 46 ∷ es)) (at-point ds es h) ∙ take_at ds (46 ∷ es) (length ds) refl

fraction-is : (decimals n : ℕ) (ds : List ℕ) → are_digits ds ≡ true → after_first is_point (ds ++ fraction_text decimals n) ≡ fixed_digits decimals n
fraction-is zero n ds h =
    ap (after_first is_point) (append-nil ds) ∙ ap (λ (k : ℕ). drop (k + 1) ds) (at-end ds h) ∙ drop_all (length ds + 1) ds (omega arith)
fraction-is (suc k) n ds h =
    let es = fixed_digits (suc k) n in
    ap (λ (j : ℕ). drop (j + 1) (ds ++ 46 ∷ es)) (at-point ds es h)
    ∙ ap (drop (length ds + 1)) (sym (append_assoc ds (46 ∷ []) es))
    ∙ drop_at (ds ++ 46 ∷ []) es (length ds + 1) (length_push ds 46)

-- ---- the whole text

-- the text without its sign
abbrev plain : ℕ → ℕ → List ℕ
plain decimals n = decimal (n / 10 ^ decimals) ++ fraction_text decimals n

text-is : (price : Price) (decimals : ℕ) → price_text price decimals ≡ cond (is_negative price.0) (codes "-") [] ++ plain decimals (unsigned_abs price.0)
text-is price decimals = append_assoc (cond (is_negative price.0) (codes "-") []) (decimal (unsigned_abs price.0 / 10 ^ decimals)) (fraction_text decimals (unsigned_abs price.0))

pub no-sign : (ds es : List ℕ) → 0 < length ds → are_digits ds ≡ true → has_minus (ds ++ es) ≡ false
no-sign [] es some h = absurd (omega arith)
no-sign (c ∷ ds) es some h = let digit = (and_parts (is_ascii_digit c) (are_digits ds) h).0 in grind (arith, nat_tests)

pub record IsRead (text : List ℕ) (negative : Bool) (decimals n : ℕ) : Type 0 where
  pub minus : has_minus text ≡ negative
  pub unsigned : unsigned_text text ≡ plain decimals n

sign-read : (negative : Bool) (decimals n : ℕ) → n / 10 ^ decimals < 2 ^ 64 → IsRead (cond negative (codes "-") [] ++ plain decimals n) negative decimals n
sign-read true decimals n low = record { minus = refl; unsigned = refl }
sign-read false decimals n low =
    let m = n / 10 ^ decimals in
    let none = no-sign (decimal m) (fraction_text decimals n) (decimal_nonempty m low) (decimal-digits m low) in
    record { minus = none; unsigned = cond-false (has_minus (plain decimals n)) (drop 1 (plain decimals n)) (plain decimals n) none }

pub length-fraction_text : (decimals n : ℕ) → length (fraction_text decimals n) ≤ decimals + 1
length-fraction_text zero n = omega arith
length-fraction_text (suc k) n = omega (arith, length-fixed_digits (suc k) n)

length-sign : (b : Bool) → length (cond b (codes "-") []) ≤ 1
length-sign true = omega arith
length-sign false = omega arith

pub price-length : (price : Price) (decimals : ℕ) → unsigned_abs price.0 ≤ MOST_PRICE_UNITS → decimals ≤ MOST_DECIMALS → length (price_text price decimals) ≤ 22
price-length price decimals low few =
    let n = unsigned_abs price.0 in
    let m = n / 10 ^ decimals in
    let small : m ≤ n = div-le_self n (10 ^ decimals) in
    let sign = cond (is_negative price.0) (codes "-") [] in
    omega (arith, ap length (text-is price decimals), length-append sign (plain decimals n), length-append (decimal m) (fraction_text decimals n), length-sign (is_negative price.0), length-decimal-le 12 m (omega arith) (omega arith) (omega arith), length-fraction_text decimals n)

fixed-lacks : (b width n : ℕ) → b < 48 → Lacks b (fixed_digits width n)
fixed-lacks b zero n low = tt
fixed-lacks b (suc width) n low = lacks-append b (fixed_digits width (n / 10)) ((48 + n % 10) ∷ []) (fixed-lacks b width (n / 10) low) (ne_eqb (48 + n % 10) b (λ e. absurd (omega arith)), tt)

fraction-lacks : (b decimals n : ℕ) → b < 45 → Lacks b (fraction_text decimals n)
fraction-lacks b zero n low = tt
fraction-lacks b (suc k) n low = (ne_eqb 46 b (λ e. absurd (omega arith)), fixed-lacks b (suc k) n (omega arith))

sign-lacks : (b : ℕ) (negative : Bool) → b < 45 → Lacks b (cond negative (codes "-") [])
sign-lacks b true low = (ne_eqb 45 b (λ e. absurd (omega arith)), tt)
sign-lacks b false low = tt

pub price-lacks : (b : ℕ) (price : Price) (decimals : ℕ) → b < 45 → unsigned_abs price.0 ≤ MOST_PRICE_UNITS → Lacks b (price_text price decimals)
price-lacks b price decimals low small =
    let n = unsigned_abs price.0 in
    let m = n / 10 ^ decimals in
    let below : m ≤ n = div-le_self n (10 ^ decimals) in
    let sign = cond (is_negative price.0) (codes "-") [] in
    lacks-append b (sign ++ decimal m) (fraction_text decimals n) (lacks-append b sign (decimal m) (sign-lacks b (is_negative price.0) low) (decimal-lacks b m (omega arith) (omega arith))) (fraction-lacks b decimals n low)

signed-again : (z : ℤ) → signed_units (is_negative z) (unsigned_abs z) ≡ z
signed-again (pos n) = cond-false (int_lt (pos n) (pos 0)) (neg_ℤ (pos n)) (pos n) (le-ltb n 0 (omega arith))
signed-again (negsuc n) = refl

pub price-read : (price : Price) (decimals : ℕ) → unsigned_abs price.0 ≤ MOST_PRICE_UNITS → decimals ≤ MOST_DECIMALS → price_of (price_text price decimals) decimals ≡ Ok price
price-read price decimals small few =
    let n = unsigned_abs price.0 in
    let m = n / 10 ^ decimals in
    let text = price_text price decimals in
    let below : m ≤ n = div-le_self n (10 ^ decimals) in
    let low : m < 2 ^ 64 = omega arith in
    let read = subst (λ (t : List ℕ). IsRead t (is_negative price.0) decimals n) (sym (text-is price decimals)) (sign-read (is_negative price.0) decimals n low) in
    let digits = decimal-digits m low in
    let whole : whole_digits text ≡ decimal m = ap (before_first is_point) read.unsigned ∙ whole-is decimals n (decimal m) digits in
    let fraction : fraction_digits text ≡ fixed_digits decimals n = ap (after_first is_point) read.unsigned ∙ fraction-is decimals n (decimal m) digits in
    let size = length-fixed_digits decimals n in
    let kept : take decimals (fixed_digits decimals n ++ replicate decimals 48) ≡ fixed_digits decimals n = take_at (fixed_digits decimals n) (replicate decimals 48) decimals size in
    let units : units_of text decimals ≡ n =
    ap₂ (λ (a : List ℕ) (b : List ℕ). digits_value 10 (a ++ take decimals (b ++ replicate decimals 48))) whole fraction
    ∙ ap (λ (b : List ℕ). digits_value 10 (decimal m ++ b)) kept
    ∙ fixed-value decimals n (decimal m) (decimal-value m low)
    in
    let form : is_price_text text ≡ true =
    and_from _ _ (and_from _ _ (and_from _ _
    (le-leb (length text) 32 (omega (arith, price-length price decimals small few)))
    (le-leb 1 (length (whole_digits text) + length (fraction_digits text)) (omega (arith, ap length whole, decimal_nonempty m low))))
    (ap are_digits whole ∙ digits))
    (ap are_digits fraction ∙ fixed-are-digits decimals n)
    in
    let rest : drop decimals (fraction_digits text) ≡ [] = ap (drop decimals) fraction ∙ drop_all decimals (fixed_digits decimals n) (omega arith) in
    cond-false (not (is_price_text text)) (Err Format) _ (ap not form)
    ∙ cond-false (not (are_zeros (drop decimals (fraction_digits text)))) (Err Scale) _ (ap (λ (q : List ℕ). not (are_zeros q)) rest)
    ∙ cond-false (nat_lt price_limit (units_of text decimals)) (Err Range) (Ok (record { 0 = signed_units (has_minus text) (units_of text decimals) })) (le-ltb price_limit (units_of text decimals) (omega (arith, units)))
    ∙ ap₂ (λ (b : Bool) (u : ℕ). Ok (record { 0 = signed_units b u })) read.minus units
    ∙ ap (λ (z : ℤ). Ok (record { 0 = z })) (signed-again price.0)
