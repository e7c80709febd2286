-- Fields in a row: how many bytes they have, and that they end in SOH.
use Rattle.std.proofs.Common.{◌≡◌, ℕ, ◌+◌, ◌-◌, ◌*◌, ◌<◌, ◌≤◌, List, [], ◌∷◌, ◌++◌, length, get_or, codes, refl, sym, ap, ◌∙◌, arith, append_assoc, length-append}
use Rattle.std.proofs.lemmas.List.{get_or_at, length_push}
use Prim.Native.String.{String}
use Rattle.gx_base.specs.Frames.{field}

-- so many fields: a tag has at most two digits, and a value at most 24 bytes
pub record AreFields (count : ℕ) (bytes : List ℕ) : Type 0 where
  pub short : length bytes ≤ count * 28
  pub front : List ℕ
  pub ends : bytes ≡ front ++ 1 ∷ []

pub one-field : (tag : String) (value : List ℕ) → length (codes tag) ≤ 2 → length value ≤ 24 → AreFields 1 (field tag value)
one-field tag value tag_short value_short =
    let front = codes tag ++ 61 ∷ value in
    let ends : field tag value ≡ front ++ 1 ∷ [] = refl in
    record {
      short = omega (arith, ap length ends, length_push front 1, length-append (codes tag) (61 ∷ value));
      front = front;
      ends = ends;
    }

pub more-fields : (m n : ℕ) (a b : List ℕ) → AreFields m a → AreFields n b → AreFields (m + n) (a ++ b)
more-fields m n a b first rest = record {
  short = omega (arith, first.short, rest.short, length-append a b);
  front = a ++ rest.front;
  ends = ap (λ (x : List ℕ). a ++ x) rest.ends ∙ sym (append_assoc a rest.front (1 ∷ []));
}

pub fewer-fields : (m n : ℕ) (a : List ℕ) → m ≤ n → AreFields m a → AreFields n a
fewer-fields m n a few are = record { short = omega (arith, are.short); front = are.front; ends = are.ends }

-- the last byte is SOH
pub last-field : (count : ℕ) (bytes : List ℕ) → AreFields count bytes → (0 < length bytes) × (get_or bytes (length bytes - 1) 0 ≡ 1)
last-field count bytes are =
    let long : length bytes ≡ length are.front + 1 = ap length are.ends ∙ length_push are.front 1 in
    let at : length are.front ≡ length bytes - 1 = omega arith in
    (omega arith, ap (λ (x : List ℕ). get_or x (length bytes - 1) 0) are.ends ∙ get_or_at are.front 1 [] 0 (length bytes - 1) at)
