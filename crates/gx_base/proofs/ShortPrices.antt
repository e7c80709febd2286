-- Prices of few bytes that are read.
use Rattle.std.proofs.Common.{◌≡◌, ℕ, suc, ◌+◌, ◌-◌, ◌*◌, ◌^◌, ◌<◌, ◌≤◌, ◌&&◌, true, List, [], ◌∷◌, ◌++◌, length, length-append, take, drop, drop-cons, take-append-drop, append_assoc, replicate, get_or, mul_assoc, refl, sym, ap, ap₂, subst, ◌∙◌, arith}
use Rattle.std.proofs.lemmas.List.{take_at, drop_at, take_all, drop_all, length-drop, length-replicate, length-take-le, length_push, append-nil}
use Rattle.std.proofs.lemmas.List.Folds.{list_all_more}
use Rattle.std.proofs.lemmas.Nat.{pow-add}
use Rattle.std.proofs.Math.Nat.{mul-le-mul_left, mul-le-mul_right, pow-le-pow_right}
use Rattle.std.specs.Char.{is_ascii_digit}
use Rattle.std.specs.Str.Parse.{digits_value, digits_value_after}
use Rattle.gx_base.specs.Numbers.{are_digits, is_point, has_minus}
use Rattle.gx_base.proofs.Capped.{digit_is, value_more, value_append, value_zeros}
use Rattle.gx_base.proofs.PriceTexts.{filled_up, slice_behind}
use Rattle.gx_base.proofs.PricesAgain.{at-end, at-point, no-sign}
use Rattle.gx_base.specs.Inner.ShortPrices.{HasUnits}
use Rattle.std.specs.List.{before_first, after_first}

-- digits that are read so far
pub record IsRun (front : ℕ) (text : List ℕ) (k number : ℕ) : Type 0 where
  pub is : number ≡ digits_value_after 10 front (take k text)
  pub digits : are_digits (take k text) ≡ true
  pub low : number + 1 ≤ (front + 1) * 10 ^ k

ten_times : (n k : ℕ) → n * 10 ^ (k + 1) ≡ n * 10 ^ k * 10
ten_times n k = ap (λ p. n * p) (pow-add 10 k 1) ∙ sym (mul_assoc n (10 ^ k) 10)

pub run_more : (front : ℕ) (text : List ℕ) (k number : ℕ) → k < length text → is_ascii_digit (get_or text k 0) ≡ true → IsRun front text k number → IsRun front text (k + 1) (number * 10 + (get_or text k 0 - 48))
run_more front text k number inside digit so_far =
    let c = get_or text k 0 in
    let d = digit_is c digit in
    let more = value_more front text k inside in
    let power = ten_times (front + 1) k in
    let m : ℕ = (front + 1) * 10 ^ k in
    record {
      is = omega (arith, so_far.is, more, d);
      digits = list_all_more is_ascii_digit text k 0 inside ∙ ap (λ b. b && is_ascii_digit c) so_far.digits ∙ digit;
      low = omega (arith, so_far.low, power, d);
    }

-- a run stays below the bound of the whole text
pub run_fits : (front number k long : ℕ) → number + 1 ≤ (front + 1) * 10 ^ k → k < long → (front + 1) * 10 ^ long ≤ 10 ^ 11 → number * 10 + 10 ≤ 10 ^ 11
run_fits front number k long low inside fits =
    let power = ten_times (front + 1) k in
    let m : ℕ = (front + 1) * 10 ^ k in
    let longer : (front + 1) * 10 ^ (k + 1) ≤ (front + 1) * 10 ^ long = mul-le-mul_left (front + 1) (pow-le-pow_right (omega arith) (omega arith)) in
    omega (arith, power, longer)

pub below_all : (n count long : ℕ) → n + 1 ≤ 10 ^ count → count ≤ long → long ≤ 11 → n < 10 ^ 11
below_all n count long low within short =
    let few : count ≤ 11 = omega arith in
    let power : 10 ^ count ≤ 10 ^ 11 = pow-le-pow_right (omega arith) few in
    omega arith

pub product_fits : (n p : ℕ) → n < 10 ^ 11 → p ≤ 10 ^ 8 → n * p < 2 ^ 64
product_fits n p low power =
    let most : n * p ≤ n * 10 ^ 8 = mul-le-mul_left n power in
    omega arith

pub room_left : (front count rest : ℕ) → front + 1 ≤ 10 ^ count → count + rest ≤ 11 → (front + 1) * 10 ^ rest ≤ 10 ^ 11
room_left front count rest low short =
    let most : (front + 1) * 10 ^ rest ≤ 10 ^ count * 10 ^ rest = mul-le-mul_right (10 ^ rest) low in
    let sum = pow-add 10 count rest in
    let power : 10 ^ (count + rest) ≤ 10 ^ 11 = pow-le-pow_right (omega arith) short in
    omega arith

-- digits, and zeros after them
value_filled : (n k : ℕ) (ds : List ℕ) → n ≡ digits_value 10 ds → n * 10 ^ k ≡ digits_value 10 (ds ++ replicate k 48)
value_filled n k ds e = ap (λ m. m * 10 ^ k) e ∙ sym (value_append 0 ds (replicate k 48) ∙ value_zeros (digits_value 10 ds) k)

pub without_point : (text : List ℕ) (decimals n p : ℕ) → length text ≤ 11 → 1 ≤ length text → are_digits text ≡ true → n ≡ digits_value 10 text → p ≡ 10 ^ decimals → HasUnits text decimals (n * p)
without_point text decimals n p short some digits value power =
    let before : before_first is_point text ≡ text = ap (λ k. take k text) (at-end text digits) ∙ take_all (length text) text (omega arith) in
    let after : after_first is_point text ≡ [] = ap (λ k. drop (k + 1) text) (at-end text digits) ∙ drop_all (length text + 1) text (omega arith) in
    let zeros : List ℕ = replicate decimals 48 in
    record {
      unsigned = ap has_minus (sym (append-nil text)) ∙ no-sign text [] some digits;
      short = short;
      some = omega (arith, ap length before);
      whole = ap are_digits before ∙ digits;
      fraction = ap are_digits after;
      few = omega (arith, ap length after);
      is = ap (λ m. n * m) power ∙ value_filled n decimals text value
          ∙ ap (λ l. digits_value 10 (text ++ l)) (sym (take_all decimals zeros (omega (arith, length-replicate {A = ℕ} decimals 48))))
          ∙ sym (ap₂ (λ (a : List ℕ) (b : List ℕ). digits_value 10 (a ++ take decimals (b ++ zeros))) before after);
    }

with_point : (ds es : List ℕ) (decimals n p : ℕ) → length ds + 1 + length es ≤ 11 → 1 ≤ length ds → are_digits ds ≡ true → are_digits es ≡ true → length es ≤ decimals
    → n ≡ digits_value_after 10 (digits_value 10 ds) es → p ≡ 10 ^ (decimals - length es) → HasUnits (ds ++ 46 ∷ es) decimals (n * p)
with_point ds es decimals n p short some whole fraction few value power =
    let text = ds ++ 46 ∷ es in
    let k = decimals - length es in
    let before : before_first is_point text ≡ ds = ap (λ j. take j text) (at-point ds es whole) ∙ take_at ds (46 ∷ es) (length ds) refl in
    let after : after_first is_point text ≡ es =
    ap (λ j. drop (j + 1) text) (at-point ds es whole)
    ∙ ap (drop (length ds + 1)) (sym (append_assoc ds (46 ∷ []) es))
    ∙ drop_at (ds ++ 46 ∷ []) es (length ds + 1) (length_push ds 46)
    in
    let kept : take decimals (es ++ replicate decimals 48) ≡ es ++ replicate k 48 =
    filled_up decimals (length es) es (omega arith) ∙ ap (λ l. l ++ replicate k 48) (take_all (length es) es (omega arith))
    in
    record {
      unsigned = no-sign ds (46 ∷ es) some whole;
      short = omega (arith, length-append ds (46 ∷ es));
      some = omega (arith, ap length before);
      whole = ap are_digits before ∙ whole;
      fraction = ap are_digits after ∙ fraction;
      few = omega (arith, ap length after);
      is = ap (λ m. n * m) power
          ∙ value_filled n k (ds ++ es) (value ∙ sym (value_append 0 ds es))
          ∙ ap (digits_value 10) (append_assoc ds es (replicate k 48))
          ∙ ap (λ l. digits_value 10 (ds ++ l)) (sym kept)
          ∙ sym (ap₂ (λ (a : List ℕ) (b : List ℕ). digits_value 10 (a ++ take decimals (b ++ replicate decimals 48))) before after);
    }

-- what the code knows of a text with a point at `at`, after which `count` digits were read
pub point_read : (text : List ℕ) (at count decimals front n p : ℕ) → length text ≤ 11 → 1 ≤ at → at < length text → get_or text at 0 ≡ 46
    → are_digits (take at text) ≡ true → front ≡ digits_value 10 (take at text)
    → (let es = take (length text - (at + 1)) (drop (at + 1) text) in
    length es ≤ count → count ≤ length es → are_digits (take count es) ≡ true → n ≡ digits_value_after 10 front (take count es)
    → length es ≤ decimals → p ≡ 10 ^ (decimals - length es) → HasUnits text decimals (n * p))
point_read text at count decimals front n p short some inside point whole front_is all within fraction value few power =
    let ds = take at text in
    let es = drop (at + 1) text in
    let behind : take (length text - (at + 1)) es ≡ es = slice_behind (at + 1) text in
    let read : take count (take (length text - (at + 1)) es) ≡ es = take_all count (take (length text - (at + 1)) es) all ∙ behind in
    let long = ap length behind in
    let one : at + 1 ≡ suc at = omega arith in
    let split : ds ++ 46 ∷ es ≡ text =
    ap (λ c. ds ++ c ∷ es) (sym point) ∙ ap (λ k. ds ++ get_or text at 0 ∷ drop k text) one ∙ ap (λ l. ds ++ l) (sym (drop-cons text at 0 inside)) ∙ take-append-drop at text
    in
    subst (λ t. HasUnits t decimals (n * p)) split
    (with_point ds es decimals n p (omega (arith, length-drop (at + 1) text, length-take-le at text (omega arith))) (omega (arith, length-take-le at text (omega arith))) whole
    (ap are_digits (sym read) ∙ fraction) (omega (arith, long))
    (value ∙ ap (digits_value_after 10 front) read ∙ ap (λ m. digits_value_after 10 m es) front_is)
    (power ∙ ap (λ j. 10 ^ (decimals - j)) long))
