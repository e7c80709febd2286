-- Names and times have no SOH, and a time is 17 to 21 bytes long.
use Rattle.std.proofs.Common.{◌≡◌, ℕ, ◌+◌, ◌<◌, ◌≤◌, Bool, true, false, not, ◌&&◌, ◌||◌, ◌==◌, nat_le, List, [], ◌∷◌, length, drop, get_or, bytes_eq, refl, sym, ap, subst, ◌∙◌, arith, leb-true, eqb-true, true≢false}
use Rattle.std.specs.Prelude.{IsTrue, codes}
use Rattle.std.specs.Char.{is_ascii_digit}
use Rattle.std.specs.List.{list_all}
use Rattle.std.proofs.lemmas.Bool.{and_parts, and_from}
use Rattle.std.proofs.lemmas.List.{take-append-drop, drop_more, drop-drop, drop_all}
use Rattle.std.proofs.lemmas.List.Folds.{list_all-append}
use Rattle.std.proofs.lemmas.Slice.Eq.{bytes_eq-Decides}
use Rattle.gx_base.specs.Texts.{is_name, is_name_byte, is_stamp, is_time_text, is_time_of_seconds, has_digits, has_byte, has_two_digits, part_of}
use Rattle.fix_session.proofs.Cuts.{is_other, not-eqb}

all_implies : (p q : ℕ → Bool) → ((c : ℕ) → p c ≡ true → q c ≡ true) → (xs : List ℕ) → list_all p xs ≡ true → list_all q xs ≡ true
all_implies p q each [] all = refl
all_implies p q each (c ∷ xs) all =
    let both = and_parts (p c) (list_all p xs) all in
    and_from (q c) (list_all q xs) (each c both.0) (all_implies p q each xs both.1)

other_above : (c : ℕ) → 32 ≤ c → is_other c ≡ true
other_above c le = ap not (not-eqb c 1 (λ is. absurd (omega (arith, le, is))))

-- ---- names

name_byte_other : (c : ℕ) → is_name_byte c ≡ true → is_other c ≡ true
name_byte_other c is = other_above c (leb-true 32 c (and_parts (nat_le 32 c) (nat_le c 126) is).0)

pub name_whole : (text : List ℕ) → IsTrue (is_name text) → list_all is_other text ≡ true
name_whole text is = all_implies is_name_byte is_other name_byte_other text (and_parts _ (list_all is_name_byte text) is).1

-- ---- times

digit_other : (c : ℕ) → is_ascii_digit c ≡ true → is_other c ≡ true
digit_other c is =
    let least : 48 ≤ c = leb-true 48 c (and_parts (nat_le 48 c) (nat_le c 57) is).0 in
    other_above c (omega (arith, least))

-- what stands at a place and after it has no SOH
abbrev IsWholeFrom : List ℕ → ℕ → Type 0
IsWholeFrom text at = list_all is_other (drop at text) ≡ true

digits_then : (text : List ℕ) (start width : ℕ) → has_digits text start width ≡ true → IsWholeFrom text (start + width) → IsWholeFrom text start
digits_then text start width digits behind =
    let here = all_implies is_ascii_digit is_other digit_other (part_of text start width) digits in
    let there : list_all is_other (drop width (drop start text)) ≡ true = ap (list_all is_other) (drop-drop width start text) ∙ behind in
    ap (list_all is_other) (sym (take-append-drop width (drop start text)))
    ∙ list_all-append is_other (part_of text start width) (drop width (drop start text))
    ∙ and_from (list_all is_other (part_of text start width)) (list_all is_other (drop width (drop start text))) here there

two_then : (text : List ℕ) (start low high : ℕ) → has_two_digits text start low high ≡ true → IsWholeFrom text (start + 2) → IsWholeFrom text start
two_then text start low high two behind = digits_then text start 2 (and_parts _ _ (and_parts _ _ two).0).0 behind

byte_then : (text : List ℕ) (at c : ℕ) → at < length text → 32 ≤ c → has_byte text at c ≡ true → IsWholeFrom text (at + 1) → IsWholeFrom text at
byte_then text at c within above has behind =
    let is : get_or text at 0 ≡ c = eqb-true (get_or text at 0) c has in
    ap (list_all is_other) (drop_more text at 0 within)
    ∙ and_from (is_other (get_or text at 0)) (list_all is_other (drop (at + 1) text)) (ap is_other is ∙ other_above c above) behind

seconds_whole : (text : List ℕ) → 17 ≤ length text → is_time_of_seconds text ≡ true → IsWholeFrom text 17 → IsWholeFrom text 0
seconds_whole text long is behind =
    let h15 = and_parts _ (has_two_digits text 15 0 60) is in
    let h14 = and_parts _ (has_byte text 14 58) h15.0 in
    let h12 = and_parts _ (has_two_digits text 12 0 59) h14.0 in
    let h11 = and_parts _ (has_byte text 11 58) h12.0 in
    let h9 = and_parts _ (has_two_digits text 9 0 23) h11.0 in
    let h8 = and_parts _ (has_byte text 8 45) h9.0 in
    let h6 = and_parts _ (has_two_digits text 6 1 31) h8.0 in
    let h4 = and_parts (has_digits text 0 4) (has_two_digits text 4 1 12) h6.0 in
    digits_then text 0 4 h4.0
    (two_then text 4 1 12 h4.1
    (two_then text 6 1 31 h6.1
    (byte_then text 8 45 (omega (arith, long)) (omega arith) h8.1
    (two_then text 9 0 23 h9.1
    (byte_then text 11 58 (omega (arith, long)) (omega arith) h11.1
    (two_then text 12 0 59 h12.1
    (byte_then text 14 58 (omega (arith, long)) (omega arith) h14.1
    (two_then text 15 0 60 h15.1 behind))))))))

end_whole : (text : List ℕ) (n : ℕ) → length text ≡ n → IsWholeFrom text n
end_whole text n is = ap (list_all is_other) (drop_all n text (omega (arith, is)))

abbrev pub IsShortAndWhole : List ℕ → Type 0
IsShortAndWhole text = (list_all is_other text ≡ true) × (17 ≤ length text) × (length text ≤ 21)

by_length : (text : List ℕ) (a b : Bool) → (length text == 17) ≡ a → ((length text == 21) && has_byte text 17 46 && has_digits text 18 3) ≡ b → (a || b) ≡ true → is_time_of_seconds text ≡ true → IsShortAndWhole text
by_length text true b is other either seconds =
    let n : length text ≡ 17 = eqb-true (length text) 17 is in
    (seconds_whole text (omega (arith, n)) seconds (end_whole text 17 n), omega (arith, n), omega (arith, n))
by_length text false true is other either seconds =
    let parts = and_parts ((length text == 21) && has_byte text 17 46) (has_digits text 18 3) other in
    let front = and_parts (length text == 21) (has_byte text 17 46) parts.0 in
    let n : length text ≡ 21 = eqb-true (length text) 21 front.0 in (
      seconds_whole text (omega (arith, n)) seconds
          (byte_then text 17 46 (omega (arith, n)) (omega arith) front.1 (digits_then text 18 3 parts.1 (end_whole text 21 n))),
      omega (arith, n),
      omega (arith, n),
    )
by_length text false false is other either seconds = absurd (true≢false (sym either))

time_whole : (text : List ℕ) → is_time_text text ≡ true → IsShortAndWhole text
time_whole text is =
    let parts = and_parts ((length text == 17) || ((length text == 21) && has_byte text 17 46 && has_digits text 18 3)) (is_time_of_seconds text) is in
    by_length text _ _ refl refl parts.0 parts.1

none_whole : (text : List ℕ) → text ≡ codes "00000000-00:00:00" → IsShortAndWhole text
none_whole text is = subst IsShortAndWhole (sym is) (refl, omega arith, omega arith)

by_kind : (text : List ℕ) (a b : Bool) → is_time_text text ≡ a → bytes_eq text (codes "00000000-00:00:00") ≡ b → (a || b) ≡ true → IsShortAndWhole text
by_kind text true b is other either = time_whole text is
by_kind text false true is other either = none_whole text ((bytes_eq-Decides text (codes "00000000-00:00:00")).0 other)
by_kind text false false is other either = absurd (true≢false (sym either))

pub stamp_whole : (text : List ℕ) → IsTrue (is_stamp text) → IsShortAndWhole text
stamp_whole text is = by_kind text _ _ refl refl is
