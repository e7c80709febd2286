-- Texts that may be the value of a field: short ones, of which no byte ends a field.
use Rattle.std.proofs.Common.{◌≡◌, ℕ, zero, suc, ◌+◌, ◌/◌, ◌%◌, ◌^◌, ◌≤◌, Bool, true, false, cond, ◌||◌, nat_lt, nat_le, List, [], ◌∷◌, ◌++◌, length, Option, Some, None, option_map, unwrap_or, slice_get, codes, decimal, unsigned_abs, IsTrue, refl, ap, ◌∙◌, inl, inr, arith, length-append, leb-true}
use Rattle.std.specs.Prelude.{◌==◌}
use Rattle.std.specs.Int.{is_negative}
use Rattle.std.proofs.lemmas.Bool.{and_parts}
use Rattle.std.proofs.lemmas.Bool.Decides.{eqb_tells}
use Rattle.std.proofs.lemmas.List.Elements.{recursion_from_All}
use Rattle.std.specs.Fmt.{digits, digits_onto, digit_glyph}
use Rattle.std.specs.List.{list_any, list_all, AllByRecursion}
use Rattle.gx_base.specs.Line.{firm_name, addressee, instrument_name, decimals_of}
use Rattle.gx_base.specs.NameLists.{NameLists}
use Rattle.gx_base.specs.Numbers.{fixed_digits, fraction_text, price_text}
use Rattle.gx_base.specs.Texts.{is_name, is_name_byte}
use Rattle.gx_base.specs.declared.names.Listed.{Listed}
use Rattle.gx_base.specs.declared.price.Price.{Price}
use Rattle.fix_request.specs.Fields.{is_soh}
use Rattle.stream_laws.specs.Names.{AreNames, IsListed}
use Rattle.stream_laws.proofs.MadeValues.{length-fraction}
use Rattle.stream_laws.specs.Texts.{IsText}

-- a value of a field in a report
pub record IsValue (text : List ℕ) : Type 0 where
  pub few : length text ≤ 74
  pub plain : list_any is_soh text ≡ false

pub value-text : (text : List ℕ) → IsText text → IsValue text
value-text text is = record { few = omega (arith, is.short); plain = is.plain }

-- ---- no byte ends a field

pub not-soh : (c : ℕ) → 2 ≤ c → is_soh c ≡ false
not-soh c above = elim (eqb_tells c 1) [ inl t ↦ absurd (omega (arith, above, t.1)) | inr t ↦ t.0 ]

pub any-append : (xs ys : List ℕ) → list_any is_soh xs ≡ false → list_any is_soh ys ≡ false → list_any is_soh (xs ++ ys) ≡ false
any-append [] ys a b = b
any-append (x ∷ xs) ys a b = any-both (is_soh x) (list_any is_soh xs) (list_any is_soh (xs ++ ys)) a (λ h. any-append xs ys h b)
  where
    any-both : (p q r : Bool) → (p || q) ≡ false → (q ≡ false → r ≡ false) → (p || r) ≡ false
    any-both true q r h k = h
    any-both false q r h k = k h

any-cons : (c : ℕ) (xs : List ℕ) → 2 ≤ c → list_any is_soh xs ≡ false → list_any is_soh (c ∷ xs) ≡ false
any-cons c xs above h = ap (λ (b : Bool). b || list_any is_soh xs) (not-soh c above) ∙ h

-- ---- names

name-plain : (text : List ℕ) → list_all is_name_byte text ≡ true → list_any is_soh text ≡ false
name-plain [] h = refl
name-plain (c ∷ text) h =
    let parts = and_parts (is_name_byte c) (list_all is_name_byte text) h in
    any-cons c text (omega (arith, leb-true 32 c (and_parts _ _ parts.0).0)) (name-plain text parts.1)

pub text-name : (text : List ℕ) → is_name text ≡ true → IsText text
text-name text is =
    let parts = and_parts _ (list_all is_name_byte text) is in
    record { short = leb-true (length text) 24 (and_parts _ _ parts.0).1; plain = name-plain text parts.1 }

text-unknown : IsText (codes "UNKNOWN")
text-unknown = record { short = omega arith; plain = refl }

-- what holds of each in a list and of the usual value holds of what is found
found : {X Y : Type 0} (P : X → Type 0) (Q : Y → Type 0) (f : X → Y) (usual : Y) (xs : List X) (i : ℕ) → ((x : X) → P x → Q (f x)) → Q usual → AllByRecursion P xs → Q (unwrap_or (option_map f (slice_get xs i)) usual)
found P Q f usual [] i each else all = else
found P Q f usual (x ∷ xs) zero each else all = each x all.0
found P Q f usual (x ∷ xs) (suc i) each else all = found P Q f usual xs i each else all.1

text-firm : (firms : List (List ℕ)) (i : ℕ) → AllByRecursion (λ (firm : List ℕ). IsTrue (is_name firm)) firms → IsText (unwrap_or (slice_get firms i) (codes "UNKNOWN"))
text-firm [] i all = text-unknown
text-firm (firm ∷ firms) zero all = text-name firm all.0
text-firm (firm ∷ firms) (suc i) all = text-firm firms i all.1

module _ (names : NameLists) (are : AreNames names) where
  pub text-firm_name : (i : ℕ) → IsText (firm_name names i)
  text-firm_name i = text-firm names.firms i (recursion_from_All _ names.firms are.firms)

  pub text-addressee : (firm : Option ℕ) → IsText (addressee names firm)
  text-addressee None = text-unknown
  text-addressee (Some firm) = text-firm_name firm

  pub text-instrument_name : (i : ℕ) → IsText (instrument_name names i)
  text-instrument_name i =
      found IsListed IsText (λ (l : Listed). l.name) (codes "UNKNOWN") names.instruments i (λ l is. text-name l.name is.0) text-unknown (recursion_from_All IsListed names.instruments are.instruments)

  pub few-decimals : (i : ℕ) → decimals_of names i ≤ 8
  few-decimals i =
      found IsListed (λ (n : ℕ). n ≤ 8) (λ (l : Listed). l.decimals) 0 names.instruments i (λ l is. is.1) (omega arith) (recursion_from_All IsListed names.instruments are.instruments)

-- ---- numbers: whatever they are, they are written with at most 64 digits

glyph-above : (upper : Bool) (d : ℕ) → 2 ≤ digit_glyph upper d
glyph-above upper d =
    let go : (a b : Bool) → 2 ≤ cond a (48 + d) (cond b (55 + d) (87 + d)) = elim [ true ↦ λ b. omega arith | false ↦ elim [ true ↦ omega arith | false ↦ omega arith ] ] in
    go (nat_lt d 10) upper

record IsWritten (k : ℕ) (text acc : List ℕ) : Type 0 where
  few : length text ≤ k + length acc
  plain : list_any is_soh text ≡ false

written : (k n : ℕ) (acc : List ℕ) → list_any is_soh acc ≡ false → IsWritten k (digits_onto k 10 false n acc) acc
written zero n acc h = record { few = omega arith; plain = h }
written (suc k) n acc h =
    let c = digit_glyph false (n % 10) in
    let plain = any-cons c acc (glyph-above false (n % 10)) h in
    let more = written k (n / 10) (c ∷ acc) plain in
    let long : length (c ∷ acc) ≡ 1 + length acc = omega arith in
    let go : (b : Bool) → IsWritten (suc k) (cond b (c ∷ acc) (digits_onto k 10 false (n / 10) (c ∷ acc))) acc = elim [
      | true ↦ record { few = omega (arith, long); plain = plain }
      | false ↦ record { few = omega (arith, long, more.few); plain = more.plain }
    ] in go (n / 10 == 0)

record IsNumberText (text : List ℕ) : Type 0 where
  few : length text ≤ 64
  plain : list_any is_soh text ≡ false

number-text : (n : ℕ) → IsNumberText (decimal n)
unfolding digits
number-text n = let is = written 64 n [] refl in record { few = omega (arith, is.few); plain = is.plain }

pub value-decimal : (n : ℕ) → IsValue (decimal n)
value-decimal n = let is = number-text n in record { few = omega (arith, is.few); plain = is.plain }

-- ---- prices

plain-fixed : (width n : ℕ) → list_any is_soh (fixed_digits width n) ≡ false
plain-fixed zero n = refl
plain-fixed (suc width) n = any-append (fixed_digits width (n / 10)) ((48 + n % 10) ∷ []) (plain-fixed width (n / 10)) (any-cons (48 + n % 10) [] (omega arith) refl)

plain-fraction : (decimals n : ℕ) → list_any is_soh (fraction_text decimals n) ≡ false
plain-fraction zero n = refl
plain-fraction (suc k) n = any-cons 46 (fixed_digits (suc k) n) (omega arith) (plain-fixed (suc k) n)

pub value-price : (price : Price) (decimals : ℕ) → decimals ≤ 8 → IsValue (price_text price decimals)
value-price price decimals few =
    let n = unsigned_abs price.0 in
    let whole = number-text (n / 10 ^ decimals) in
    let text = decimal (n / 10 ^ decimals) ++ fraction_text decimals n in
    let short : length text ≤ 73 = omega (arith, few, whole.few, length-append (decimal (n / 10 ^ decimals)) (fraction_text decimals n), length-fraction decimals n) in
    let plain = any-append (decimal (n / 10 ^ decimals)) (fraction_text decimals n) whole.plain (plain-fraction decimals n) in
    let go : (b : Bool) → IsValue (cond b (codes "-") [] ++ decimal (n / 10 ^ decimals) ++ fraction_text decimals n) = elim [
      | true ↦ record { few = omega (arith, short); plain = any-cons 45 text (omega arith) plain }
      | false ↦ record { few = omega (arith, short); plain = plain }
    ] in go (is_negative price.0)

-- ---- codes and words

pub short : (text : List ℕ) → nat_le (length text) 74 ≡ true → list_any is_soh text ≡ false → IsValue text
short text few plain = record { few = leb-true (length text) 74 few; plain = plain }
