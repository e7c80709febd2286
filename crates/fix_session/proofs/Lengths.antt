-- How long a body is in a line, and again.
use Rattle.std.proofs.Common.{◌≡◌, ℕ, zero, suc, ◌+◌, ◌^◌, ◌<◌, ◌≤◌, Bool, true, false, nat_le, List, [], ◌∷◌, ◌++◌, length, decimal, refl, ap, arith, length-append, leb-true}
use Rattle.std.specs.Prelude.{codes, IsTrue}
use Rattle.std.proofs.lemmas.Bool.Decides.{nat_tests}
use Rattle.std.proofs.lemmas.Fmt.{decimal_is_IsNumeral, length-decimal-le}
use Rattle.std.proofs.lemmas.Int.Digits.{digits_value-lt}
use Rattle.std.specs.Str.Parse.{digits_value}
use Rattle.gx_base.specs.Frames.{field, head_of, trailer_of, frame_of}
use Rattle.gx_base.specs.NameLists.{NameLists}
use Rattle.gx_base.specs.Texts.{is_name, is_stamp}
use Rattle.gx_base.specs.Line.{body_of, line_of}
use Rattle.gx_base.specs.declared.event.Event.{Event}
use Rattle.fix_session.specs.Again.{again_body, head_in, IsAgain}
use Rattle.fix_session.proofs.SessionLaws.{lines-again}
use Rattle.fix_session.proofs.Whole.{stamp_whole}

-- ---- the digits of a length

pub few_digits : (n : ℕ) → n ≤ 1009 → length (decimal n) ≤ 4
few_digits n few =
    let fits : n < 2 ^ 64 = omega arith in
    let below : n < 10000 = omega arith in
    length-decimal-le 4 n (omega arith) below fits

power_small : (k : ℕ) → k ≤ 3 → 10 ^ k ≤ 1000
power_small zero few = omega arith
power_small (suc zero) few = omega arith
power_small (suc (suc zero)) few = omega arith
power_small (suc (suc (suc zero))) few = omega arith
power_small (suc (suc (suc (suc k)))) few = absurd (omega (arith, few))

many_digits : (n : ℕ) → n < 2 ^ 64 → 1000 ≤ n → 4 ≤ length (decimal n)
many_digits n fits many = by_test (nat_le 4 (length (decimal n))) refl
  where
    by_test : (b : Bool) → nat_le 4 (length (decimal n)) ≡ b → 4 ≤ length (decimal n)
    by_test true is = leb-true 4 (length (decimal n)) is
    by_test false is =
        let few : length (decimal n) ≤ 3 = grind (arith, nat_tests, is) in
        let numeral = decimal_is_IsNumeral n fits in
        let less : digits_value 10 (decimal n) < 10 ^ length (decimal n) = digits_value-lt 10 (decimal n) numeral.0.1 in
        absurd (omega (arith, less, numeral.1, power_small (length (decimal n)) few, many))

-- ---- the body in a line

frame_length : (body : List ℕ) → length (frame_of (decimal (length body)) body) ≡ 20 + length (decimal (length body)) + length body
frame_length body =
    let digits = decimal (length body) in
    let tail : length (trailer_of (head_of digits ++ body)) ≡ 7 = refl in
    let begin : length (field "8" (codes "FIX.4.2")) ≡ 10 = refl in
    let count : length (field "9" digits) ≡ 3 + length digits = omega (arith, length-append (57 ∷ 61 ∷ digits) (1 ∷ [])) in
    omega (arith, tail, begin, count, length-append (head_of digits ++ body) (trailer_of (head_of digits ++ body)), length-append (head_of digits) body, length-append (field "8" (codes "FIX.4.2")) (field "9" digits))

body_short : (body : List ℕ) → length (frame_of (decimal (length body)) body) ≤ 1024 → length body ≤ 1000
body_short body short = by_test (nat_le (length body) 1000) refl
  where
    by_test : (b : Bool) → nat_le (length body) 1000 ≡ b → length body ≤ 1000
    by_test true is = leb-true (length body) 1000 is
    by_test false is =
        let many : 1000 ≤ length body = grind (arith, nat_tests, is) in
        let fits : length body < 2 ^ 64 = omega (arith, short, frame_length body) in
        omega (arith, short, frame_length body, many_digits (length body) fits many)

-- ---- the body again

field_length : (time : List ℕ) → length (field "52" time) ≡ 4 + length time
field_length time = omega (arith, length-append (53 ∷ 50 ∷ 61 ∷ time) (1 ∷ []))

parts_length : (a b c d e : List ℕ) → length (a ++ b ++ c ++ d ++ e) ≡ length a + length b + length c + length d + length e
parts_length a b c d e = omega (arith, length-append (a ++ b ++ c ++ d) e, length-append (a ++ b ++ c) d, length-append (a ++ b) c, length-append a b)

again_length : (time body again : List ℕ) (p : IsAgain time body again) → 17 ≤ length p.first_time → length time ≤ 21 → length again ≤ length body + 9
again_length time body again p least most =
    let type = field "35" p.type in
    let line = field "34" p.line in
    let exchange = field "49" p.exchange in
    let copy : length (field "43" (codes "Y")) ≡ 5 = refl in
    omega (
      arith,
      least,
      most,
      copy,
      field_length time,
      field_length p.first_time,
      ap length p.body_is,
      parts_length type line exchange (field "52" p.first_time) p.rest,
      ap length p.again_is,
      length-append (type ++ line ++ field "43" (codes "Y") ++ exchange ++ field "52" time) p.rest,
      parts_length type line (field "43" (codes "Y")) exchange (field "52" time),
    )

pub again_short : (names : NameLists) (time : List ℕ) (event : Event) → IsTrue (is_name names.exchange) → IsTrue (is_stamp (head_in event).time)
    → (head_in event).line < 2 ^ 64 → IsTrue (is_stamp time) → length (line_of names event) ≤ 1024 → length (again_body time (body_of names event)) ≤ 1009
again_short names time event named timed small new short =
    let p = lines-again names time event named timed small in
    let first = stamp_whole (head_in event).time timed in
    let longer = again_length time (body_of names event) (again_body time (body_of names event)) p.differ (omega (arith, first.1, ap length p.first_time)) (stamp_whole time new).2 in
    omega (arith, body_short (body_of names event) short, longer)
