use Rattle.std.proofs.Common.{◌≡◌, ℕ, ◌<◌, ◌≤◌, false, List, ◌∷◌, ◌++◌, length, get_or, sym, ap, subst, ◌∙◌, arith, get_or-take}
use Rattle.std.specs.Prelude.{◌==◌}
use Rattle.std.specs.List.{position_or_len, before_first, after_first}
use Rattle.std.proofs.lemmas.Bool.{eqb-true}
use Rattle.std.proofs.lemmas.List.{length-take, take_all}
use Rattle.std.proofs.lemmas.List.Elements.{recursion_from_All}
use Rattle.std.proofs.lemmas.List.Sums.{split_at_first, fails_before_first, passes_at_first}
use Rattle.feed_reader.specs.Inner.{HasNoEnd}
use Rattle.feed_reader.proofs.line.split_line.Goals as goal

abbrev place : List ℕ → ℕ
place bytes = position_or_len (λ c. c == 10) bytes

abbrev first : List ℕ → List ℕ
first bytes = before_first (λ c. c == 10) bytes

abbrev others : List ℕ → List ℕ
others bytes = after_first (λ c. c == 10) bytes

inside : (bytes : List ℕ) → length (first bytes) < length bytes → place bytes < length bytes
inside bytes low = omega (arith, length-take (place bytes) bytes)

first-whole : (bytes line behind : List ℕ) → line ≡ first bytes → behind ≡ others bytes → length line < length bytes → bytes ≡ line ++ 10 ∷ behind
first-whole bytes line behind e f low =
    let within : place bytes < length bytes = inside bytes (omega (arith, ap (λ (l : List ℕ). length l) e)) in
    split_at_first (λ c. c == 10) bytes 0 within
    ∙ ap (λ (c : ℕ). first bytes ++ c ∷ others bytes) (eqb-true (get_or bytes (place bytes) 0) 10 (passes_at_first (λ c. c == 10) bytes 0 within))
    ∙ ap (λ (l : List ℕ). l ++ 10 ∷ others bytes) (sym e)
    ∙ ap (λ (l : List ℕ). line ++ 10 ∷ l) (sym f)

first-no-end : (bytes line : List ℕ) → line ≡ first bytes → HasNoEnd line
first-no-end bytes line e =
    subst HasNoEnd (sym e)
    (recursion_from_All (λ (c : ℕ). (c == 10) ≡ false) (first bytes) (λ k d low.
    let below : k < place bytes = omega (arith, length-take (place bytes) bytes) in
    subst (λ (c : ℕ). (c == 10) ≡ false) (sym (get_or-take (place bytes) bytes k d below)) (fails_before_first (λ c. c == 10) bytes k d below)))

all-no-end : (bytes line : List ℕ) → line ≡ first bytes → length bytes ≤ length line → HasNoEnd bytes
all-no-end bytes line e high =
    let whole : first bytes ≡ bytes = take_all (place bytes) bytes (omega (arith, length-take (place bytes) bytes, ap (λ (l : List ℕ). length l) e)) in
    subst HasNoEnd whole (first-no-end bytes (first bytes) (λ i. first bytes))

pub returns-then-line-bytes-clause-whole : goal.returns-then-line-bytes-clause-whole
returns-then-line-bytes-clause-whole c =
    first-whole c.args.bytes.now c.split_at_byte.result.0.now c.split_at_byte.result.1.now c.split_at_byte.ensures.before c.split_at_byte.ensures.behind c.if-line-bytes.true

pub returns-then-line-bytes-clause-first : goal.returns-then-line-bytes-clause-first
returns-then-line-bytes-clause-first c = first-no-end c.args.bytes.now c.split_at_byte.result.0.now c.split_at_byte.ensures.before

pub returns-else-line-bytes-clause-first : goal.returns-else-line-bytes-clause-first
returns-else-line-bytes-clause-first c = all-no-end c.args.bytes.now c.split_at_byte.result.0.now c.split_at_byte.ensures.before c.if-line-bytes.false
