-- The text of an amendment, by the bytes of its length.
use Rattle.std.proofs.Common.{◌≡◌, ℕ, ◌+◌, ◌-◌, ◌≤◌, List, length, take, drop, sym, ◌∙◌, ap, arith, length-drop}
use Rattle.std.specs.Int.{w32, from_be_bytes}
use Rattle.std.proofs.lemmas.List.{take-take, drop-take, drop-drop, length-take-le}
use Rattle.match_journal.specs.Texts.{HasText, text_size, amended_text}
use Rattle.match_journal.specs.Inner.Fronts.{IsAmendedPlace}
use Rattle.match_journal.specs.declared.limits.TheConstants.{MOST_TEXT}

module _ (image payload bytes : List ℕ) (gate count size : ℕ) (long : count ≡ length payload) (is : take count (drop (gate + 6) image) ≡ payload) (four : 4 ≤ count) (read : bytes ≡ take 4 (drop (gate + 6) image)) (size_is : size ≡ from_be_bytes w32 bytes) where
  behind : List ℕ
  behind = drop (gate + 6) image

  pub size_read : text_size payload ≡ size
  size_read = ap (λ (l : List ℕ). from_be_bytes w32 (take 4 l)) (sym is) ∙ ap (from_be_bytes w32) (take-take 4 count (drop (gate + 6) image) four ∙ sym read) ∙ sym size_is

  text_is : size ≤ count - 4 → take size (drop (gate + 6 + 4) image) ≡ amended_text payload
  text_is inside =
      ap (take size) (sym (drop-drop 4 (gate + 6) image))
      ∙ sym (take-take size (count - 4) (drop 4 (drop (gate + 6) image)) inside)
      ∙ ap (take size) (sym (drop-take 4 (count - 4) (drop (gate + 6) image)) ∙ ap (drop 4) (ap (λ k. take k (drop (gate + 6) image)) (omega (arith, four)) ∙ is))
      ∙ ap (λ k. take k (drop 4 payload)) (sym size_read)

  pub text_whole : size ≤ MOST_TEXT → size ≤ count - 4 → IsAmendedPlace image gate payload (record { at = gate + 6 + 4; len = size })
  text_whole few inside = record {
    whole = record { few = omega (arith, size_read, few); inside = omega (arith, size_read, inside, long, four) };
    stands = record {
      at = omega arith;
      len = sym size_read ∙ sym (length-take-le (text_size payload) (drop 4 payload) (omega (arith, size_read, inside, long, length-drop 4 payload)));
      stands = text_is inside;
    };
  }

  -- it is too long
  pub text_long : (size ≤ MOST_TEXT → ⊥) → HasText payload → ⊥
  text_long many whole = many (omega (arith, size_read, whole.few))

  -- it ends after the payload
  pub text_outside : (size ≤ count - 4 → ⊥) → HasText payload → ⊥
  text_outside outside whole = outside (omega (arith, size_read, whole.inside, long, four))
