use Rattle.std.proofs.Common.{◌≡◌, ℕ, ◌-◌, ◌≤◌, ◌++◌, List, length, take, drop, replicate, sym, ◌∙◌, ap, arith, length-append, length-drop}
use Rattle.std.proofs.lemmas.List.{drop-replicate, length-replicate}
use Rattle.std.proofs.Math.Seq.{take-append_seam}
use Rattle.gx_base.proofs.text.Text.new.Goals as goal

-- the bytes, filled up with zeros
filled : (xs : List ℕ) (n : ℕ) → length xs ≤ n
    → (length xs ≤ n)
    × (xs ++ drop (length xs) (replicate n 0) ≡ take (length xs) (xs ++ drop (length xs) (replicate n 0)) ++ replicate (n - length xs) 0)
    × (length (xs ++ drop (length xs) (replicate n 0)) ≡ n)
filled xs n fits = (
  fits,
  ap (λ (l : List ℕ). l ++ drop (length xs) (replicate n 0)) (sym (take-append_seam xs (drop (length xs) (replicate n 0))))
      ∙ ap (λ (l : List ℕ). take (length xs) (xs ++ drop (length xs) (replicate n 0)) ++ l) (drop-replicate (length xs) n 0),
  let zeros : List ℕ = replicate n 0 in omega (arith, length-append xs (drop (length xs) zeros), length-drop (length xs) zeros, length-replicate {A = ℕ} n 0),
)

pub invariant_of-result : goal.invariant_of-result
invariant_of-result g c = rw c.copy_from_slice.ensures.after (filled c.args.bytes.now g.row.N c.requires.short)
