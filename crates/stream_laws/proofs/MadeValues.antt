-- How many bytes a value has: a number, a price, a name.
use Rattle.std.proofs.Common.{◌≡◌, ℕ, zero, suc, ◌+◌, ◌/◌, ◌^◌, ◌<◌, ◌≤◌, ◌≤ℤ◌, ℤ, pos, List, [], ◌∷◌, ◌++◌, length, option_map, unwrap_or, slice_get, codes, decimal, unsigned_abs, int_lt, false, rules, IsTrue, arith, refl, ap, ◌∙◌, length-append, leb-true}
use Rattle.std.proofs.lemmas.Bool.{and_parts, cond-false, le-ltb}
use Rattle.std.proofs.lemmas.Fmt.{length-decimal-le}
use Rattle.std.proofs.lemmas.Int.{ints}
use Rattle.std.proofs.lemmas.List.{length_push}
use Rattle.std.proofs.lemmas.List.Elements.{recursion_from_All}
use Rattle.std.proofs.Math.Nat.{div-le_self}
use Rattle.std.specs.List.{AllByRecursion, list_all}
use Rattle.gx_base.specs.Line.{firm_name, instrument_name, decimals_of}
use Rattle.gx_base.specs.NameLists.{NameLists}
use Rattle.gx_base.specs.Numbers.{fixed_digits, fraction_text, price_text}
use Rattle.gx_base.specs.Texts.{is_name, is_name_byte}
use Rattle.gx_base.specs.declared.names.Listed.{Listed}
use Rattle.product_file.specs.Products.{ProductLists, IsRightProduct, IsRightInstrument}
use Rattle.product_file.specs.declared.product.InstrumentRule.{InstrumentRule}
use Rattle.order_maker.specs.Stream.{tick_at}
use Rattle.order_maker.specs.Messages.{instrument_at}
use Rattle.stream_laws.specs.Names.{AreNames, IsListed}

-- ---- numbers and prices

pub short-decimal : (n : ℕ) → n < 10 ^ 19 → length (decimal n) ≤ 19
short-decimal n small = length-decimal-le 19 n (omega arith) small (omega arith)

length-fixed : (width n : ℕ) → length (fixed_digits width n) ≡ width
length-fixed zero n = refl
length-fixed (suc width) n = length_push (fixed_digits width (n / 10)) _ ∙ omega (arith, length-fixed width (n / 10))

pub length-fraction : (decimals n : ℕ) → length (fraction_text decimals n) ≤ decimals + 1
length-fraction zero n = omega arith
length-fraction (suc k) n = omega (arith, length-fixed (suc k) n)

-- a price of at most eleven digits, with at most eight decimals
pub short-price : (n decimals : ℕ) → n < 10 ^ 11 → decimals ≤ 8 → length (price_text (record { 0 = pos n }) decimals) ≤ 24
short-price n decimals small few =
    let whole = decimal (n / 10 ^ decimals) in
    let low : n / 10 ^ decimals < 10 ^ 11 = omega (arith, div-le_self n (10 ^ decimals)) in
    let sign : int_lt (pos n) (pos 0) ≡ false = le-ltb n 0 (omega arith) in
    let text : price_text (record { 0 = pos n }) decimals ≡ whole ++ fraction_text decimals n = ap (λ (s : List ℕ). s ++ whole ++ fraction_text decimals n) (cond-false (int_lt (pos n) (pos 0)) (codes "-") [] sign) in
    omega (arith, ap length text, length-append whole (fraction_text decimals n), length-decimal-le 11 (n / 10 ^ decimals) (omega arith) low (omega arith), length-fraction decimals n)

-- ---- what is listed under a number, or stands in its place

-- what holds of each in a list and of the usual value holds of what is found
found : {X Y : Type 0} (P : X → Type 0) (Q : Y → Type 0) (f : X → Y) (usual : Y) (xs : List X) (i : ℕ) → ((x : X) → P x → Q (f x)) → Q usual → AllByRecursion P xs → Q (unwrap_or (option_map f (slice_get xs i)) usual)
found P Q f usual [] i each else all = else
found P Q f usual (x ∷ xs) zero each else all = each x all.0
found P Q f usual (x ∷ xs) (suc i) each else all = found P Q f usual xs i each else all.1

pub short-name : (name : List ℕ) → IsTrue (is_name name) → length name ≤ 24
short-name name is = leb-true (length name) 24 (and_parts _ _ (and_parts _ (list_all is_name_byte name) is).0).1

short-firm : (firms : List (List ℕ)) (i : ℕ) → AllByRecursion (λ (firm : List ℕ). IsTrue (is_name firm)) firms → length (unwrap_or (slice_get firms i) (codes "UNKNOWN")) ≤ 24
short-firm [] i all = omega arith
short-firm (firm ∷ firms) zero all = short-name firm all.0
short-firm (firm ∷ firms) (suc i) all = short-firm firms i all.1

module _ (names : NameLists) (are : AreNames names) where
  pub short-firm_name : (i : ℕ) → length (firm_name names i) ≤ 24
  short-firm_name i = short-firm names.firms i (recursion_from_All (λ (firm : List ℕ). IsTrue (is_name firm)) names.firms are.firms)

  pub short-instrument_name : (i : ℕ) → length (instrument_name names i) ≤ 24
  short-instrument_name i =
      found IsListed (λ (name : List ℕ). length name ≤ 24) (λ (l : Listed). l.name) (codes "UNKNOWN") names.instruments i (λ l is. short-name l.name is.0) (omega arith) (recursion_from_All IsListed names.instruments are.instruments)

  pub few-decimals : (i : ℕ) → decimals_of names i ≤ 8
  few-decimals i =
      found IsListed (λ (n : ℕ). n ≤ 8) (λ (l : Listed). l.decimals) 0 names.instruments i (λ l is. is.1) (omega arith) (recursion_from_All IsListed names.instruments are.instruments)

low-abs : (z : ℤ) → pos 1 ≤ℤ z → z ≤ℤ pos 1000000 → unsigned_abs z ≤ 1000000
low-abs z least most = search (rules, ints)

pub low-tick : (p : ProductLists) (j : ℕ) → IsRightProduct p → tick_at p j ≤ 1000000
low-tick p j right =
    found (IsRightInstrument (length p.names.firms)) (λ (n : ℕ). n ≤ 1000000) (λ (rule : InstrumentRule). unsigned_abs rule.tick) 0 p.rules (instrument_at p j)
    (λ rule is. low-abs rule.tick is.least_tick is.most_tick) (omega arith) right.each
