-- What one write after the other makes of the bytes that a writer holds.
use Rattle.std.proofs.Common.{◌≡◌, ℕ, ◌+◌, ◌≤◌, List, ◌++◌, length, take, drop, Option, sym, ◌∙◌, ap, subst, arith, length-drop}
use Rattle.std.proofs.Math.Seq.{take-add}
use Rattle.std.proofs.KnownBytes.{Appends-trans}
use Rattle.std.specs.Io.KnownBytes.{Appends}

-- the first `count` of the bytes were written
pub record IsWritten (old new : Option (List ℕ)) (bytes : List ℕ) (count : ℕ) : Type 0 where
  pub within : count ≤ length bytes
  pub appends : Appends old new (take count bytes)

-- so many more were written, of those after them
pub written_more : (old mid new : Option (List ℕ)) (bytes behind : List ℕ) (count more : ℕ) → behind ≡ drop count bytes → IsWritten old mid bytes count → more ≤ length behind → Appends mid new (take more behind) → IsWritten old new bytes (count + more)
written_more old mid new bytes behind count more is first fits then = record {
  within = omega (arith, first.within, fits, ap length is, length-drop count bytes);
  appends = subst (λ (l : List ℕ). Appends old new l) (sym (take-add count more bytes ∙ ap (λ (l : List ℕ). take count bytes ++ take more l) (sym is))) (Appends-trans old mid new (take count bytes) (take more behind) first.appends then);
}
