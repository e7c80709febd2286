-- Times that are tried by blocks.
use Rattle.std.proofs.Common.{◌≡◌, ℕ, ◌≤◌, ◌&&◌, Bool, true, nat_le, List, [], ◌∷◌, length, refl, ◌∙◌, arith}
use Rattle.std.proofs.lemmas.Bool.Decides.{nat_tests}
use Rattle.std.specs.Prelude.{◌==◌, slice_index, codes}
use Rattle.std.specs.Char.{is_ascii_digit}
use Rattle.gx_base.specs.Texts.{is_time_of_seconds, has_two_digits}
use Rattle.gx_base.specs.Inner.Times.{has_form, has_ranges, is_between}

-- a byte lies between two others
abbrev lies : ℕ → ℕ → ℕ → Bool
lies low c high = nat_le low c && nat_le c high

abbrev two : ℕ → ℕ → List ℕ
two a b = a ∷ b ∷ []

months : (a b : ℕ) → has_two_digits (two a b) 0 1 12 ≡ ((lies 48 a 49 && lies 48 b 57) && is_between (two a b) (codes "01") (codes "12"))
months a b = grind (arith, nat_tests)

days : (a b : ℕ) → has_two_digits (two a b) 0 1 31 ≡ ((lies 48 a 51 && lies 48 b 57) && is_between (two a b) (codes "01") (codes "31"))
days a b = grind (arith, nat_tests)

hours : (a b : ℕ) → has_two_digits (two a b) 0 0 23 ≡ ((lies 48 a 50 && lies 48 b 57) && is_between (two a b) (codes "00") (codes "23"))
hours a b = grind (arith, nat_tests)

seconds : (a b : ℕ) → has_two_digits (two a b) 0 0 60 ≡ ((lies 48 a 54 && lies 48 b 57) && is_between (two a b) (codes "00") (codes "60"))
seconds a b = grind (arith, nat_tests)

one_byte : (low c : ℕ) → (c == low) ≡ lies low c low
one_byte low c = grind (arith, nat_tests)

minutes : (a b : ℕ) → has_two_digits (two a b) 0 0 59 ≡ (lies 48 a 53 && lies 48 b 57)
minutes a b = grind (arith, nat_tests)

ap₈ : (f : Bool → Bool → Bool → Bool → Bool → Bool → Bool → Bool → Bool) {a a' b b' c c' d d' e e' g g' h h' i i' : Bool}
    → a ≡ a' → b ≡ b' → c ≡ c' → d ≡ d' → e ≡ e' → g ≡ g' → h ≡ h' → i ≡ i' → f a b c d e g h i ≡ f a' b' c' d' e' g' h' i'
ap₈ f p q r s t u v w = rw (p, q, r, s, t, u, v, w) refl

-- the tests in another order
reorder : (a b c d e f g h i j k l m n o p q r s t u : Bool)
    → ((a && (b && (c && (d && true)))) && ((e && f) && r) && ((g && h) && s) && i && ((j && k) && t) && l && (m && n) && o && ((p && q) && u))
    ≡ (((a && (b && (c && (d && (e && (f && (g && (h && (i && (j && (k && (l && (m && (n && (o && (p && true)))))))))))))))) && q) && (r && s && t && u))
reorder a b c d e f g h i j k l m n o p q r s t u = grind arith

-- what is tried, in the order of the code
other_way : (form digit ranges : Bool) → ((form && digit) && ranges) ≡ (ranges && digit && form)
other_way form digit ranges = grind arith

abbrev tried : List ℕ → Bool
tried text = has_ranges text && is_ascii_digit (slice_index text 16) && has_form text

module _ (a b c d e f g h i j k l m n o p q : ℕ) (rest : List ℕ) where
  abbrev bytes : List ℕ
  bytes = a ∷ b ∷ c ∷ d ∷ e ∷ f ∷ g ∷ h ∷ i ∷ j ∷ k ∷ l ∷ m ∷ n ∷ o ∷ p ∷ q ∷ rest

  abbrev of_parts : Bool → Bool → Bool → Bool → Bool → Bool → Bool → Bool → Bool
  of_parts month day dash hour colon minute second_colon second =
      (is_ascii_digit a && (is_ascii_digit b && (is_ascii_digit c && (is_ascii_digit d && true))))
      && month && day && dash && hour && colon && minute && second_colon && second

  of_bytes : is_time_of_seconds bytes ≡ tried bytes
  of_bytes =
      ap₈ of_parts
      (months e f)
      (days g h)
      (one_byte 45 i)
      (hours j k)
      (one_byte 58 l)
      (minutes m n)
      (one_byte 58 o)
      (seconds p q)
      ∙ reorder (is_ascii_digit a) (is_ascii_digit b) (is_ascii_digit c) (is_ascii_digit d)
      (lies 48 e 49) (lies 48 f 57) (lies 48 g 51) (lies 48 h 57) (lies 45 i 45) (lies 48 j 50) (lies 48 k 57) (lies 58 l 58)
      (lies 48 m 53) (lies 48 n 57) (lies 58 o 58) (lies 48 p 54) (is_ascii_digit q)
      (is_between (two e f) (codes "01") (codes "12")) (is_between (two g h) (codes "01") (codes "31"))
      (is_between (two j k) (codes "00") (codes "23")) (is_between (two p q) (codes "00") (codes "60"))
      ∙ other_way (has_form bytes) (is_ascii_digit q) (has_ranges bytes)

-- a text of seventeen bytes and more, byte by byte
pub spread : (text : List ℕ) → 17 ≤ length text → is_time_of_seconds text ≡ tried text
spread (a ∷ b ∷ c ∷ d ∷ e ∷ f ∷ g ∷ h ∷ i ∷ j ∷ k ∷ l ∷ m ∷ n ∷ o ∷ p ∷ q ∷ rest) long = of_bytes a b c d e f g h i j k l m n o p q rest
spread text long = absurd (omega arith)
