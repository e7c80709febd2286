-- The levels of a chunk in its array, of which the first places have them.
use Rattle.std.proofs.Common.{◌≡◌, ℕ, ◌+◌, ◌-◌, ◌%◌, ◌<◌, ◌≤◌, List, [], ◌∷◌, ◌++◌, length, get_or, set, take, drop, refl, sym, ap, subst, ◌∙◌, arith, append_assoc, add-one, length-take-le, length-drop, take-take}
use Prim.Native.Nat.{suc}
use Rattle.std.specs.List.{insert, remove, copy_within}
use Rattle.std.proofs.Math.Seq.{take-set-lt, set-append_seam}
use Rattle.std.proofs.lemmas.List.{get_or-take, take_more, take_more_set, drop-take, length-set}
use Rattle.std.proofs.lemmas.List.Edits.{take-paste, length-paste}
use Rattle.std.proofs.lemmas.List.Sums.{sum_by-insert, sum_by-remove, sum_by-set, sum_by-append, sum_by-cons, sum_by-take-drop, get_or-le-sum_by}
use Rattle.price_chunks.specs.declared.place.Step.{Step}
use Rattle.price_chunks.specs.Steps.{no_step, step_at, open_at}
use Rattle.price_chunks.specs.Inner.Chunks.{room, half}
use Rattle.price_chunks.specs.Inner.Sums.{IsMod, IsChunk}
use Rattle.price_chunks.proofs.Sums.{exact, mod_add, mod_sub}

module _ (xs : List Step) (n lots : ℕ) (h : IsChunk xs n lots) where
  row_length : length (take n xs) ≡ n
  row_length = length-take-le n xs (omega (arith, h.fits, h.long))

  -- ---- a level comes

  module _ (p : ℕ) (y : Step) (le : p ≤ length (take n xs)) (lt : length (take n xs) < room) where
    pub insert_row : take (n + 1) (set (copy_within xs p n (p + 1)) p y) ≡ insert (take n xs) p y
    insert_row =
        let m = n - p in
        let long = h.long in
        let r = row_length in
        let A = take p xs in
        let x = step_at xs p in
        let B = take m (drop p xs) in
        let a : length A ≡ p = length-take-le p xs (omega arith) in
        let i : p + 1 + m ≡ n + 1 = omega arith in
        let j : p + m ≡ n = omega arith in
        take-set-lt (n + 1) (copy_within xs p n (p + 1)) p y (omega arith)
        ∙ ap (λ (l : List Step). set l p y) (
        ap (λ (k : ℕ). take k (copy_within xs p n (p + 1))) (sym i)
        ∙ take-paste xs (p + 1) (drop p xs) m (omega arith) (omega (arith, length-drop p xs))
        ∙ ap (λ (l : List Step). l ++ B) (take_more xs p no_step (omega arith))
        ∙ append_assoc A (x ∷ []) B
        )
        ∙ ap (λ (k : ℕ). set (A ++ x ∷ B) k y) (sym a)
        ∙ set-append_seam A x B y
        ∙ (λ t. sym (take-take p n xs (omega arith)) t ++ y ∷ (sym (drop-take p m xs) ∙ ap (λ (k : ℕ). drop p (take k xs)) j) t)

    pub insert_chunk : IsChunk (set (copy_within xs p n (p + 1)) p y) (n + 1) ((lots + y.leaves) % 18446744073709551616)
    insert_chunk =
        let r = row_length in
        let f : Step → ℕ = λ s. s.leaves in
        let e : open_at (take (n + 1) (set (copy_within xs p n (p + 1)) p y)) ≡ open_at (take n xs) + y.leaves = ap open_at insert_row ∙ sum_by-insert f (take n xs) p y in
        record {
          long = omega (arith, h.long, length-set (copy_within xs p n (p + 1)) p y, length-paste xs (p + 1) (drop p xs) (n - p) (omega (arith, h.long)) (omega (arith, h.long, length-drop p xs)));
          fits = omega arith;
          sum = subst (IsMod ((lots + y.leaves) % 18446744073709551616)) (sym e) (mod_add lots y.leaves ((lots + y.leaves) % 18446744073709551616) (open_at (take n xs)) y.leaves h.sum (exact y.leaves) refl);
        }

  pub push_chunk : (y : Step) → length (take n xs) < room → IsChunk (set xs n y) (n + 1) ((lots + y.leaves) % 18446744073709551616)
  push_chunk y lt =
      let r = row_length in
      let f : Step → ℕ = λ s. s.leaves in
      let e : open_at (take (n + 1) (set xs n y)) ≡ open_at (take n xs) + y.leaves = omega (arith, ap {B = ℕ} open_at (take_more_set xs n y (omega (arith, h.long))), sum_by-append f (take n xs) (y ∷ []), sum_by-cons f y []) in
      record {
        long = omega (arith, h.long, length-set xs n y);
        fits = omega arith;
        sum = subst (IsMod ((lots + y.leaves) % 18446744073709551616)) (sym e) (mod_add lots y.leaves ((lots + y.leaves) % 18446744073709551616) (open_at (take n xs)) y.leaves h.sum (exact y.leaves) refl);
      }

  -- ---- one goes or changes

  module _ (p : ℕ) (lt : p < length (take n xs)) where
    pub row_at : (d : Step) → get_or (take n xs) p d ≡ get_or xs p d
    row_at d = get_or-take n xs p d (omega (arith, row_length))

    pub remove_row : take (n - 1) (copy_within xs (p + 1) n p) ≡ remove (take n xs) p
    remove_row =
        let m = n - (p + 1) in
        let long = h.long in
        let fits = h.fits in
        let r = row_length in
        let i : p + m ≡ n - 1 = omega arith in
        let j : suc p + m ≡ n = omega arith in
        ap (λ (k : ℕ). take k (copy_within xs (p + 1) n p)) (sym i)
        ∙ take-paste xs p (drop (p + 1) xs) m (omega arith) (omega (arith, length-drop (p + 1) xs))
        ∙ (λ t. sym (take-take p n xs (omega arith)) t ++ (ap (λ (k : ℕ). take m (drop k xs)) (add-one p) ∙ sym (drop-take (suc p) m xs) ∙ ap (λ (k : ℕ). drop (suc p) (take k xs)) j) t)

    pub remove_chunk : (b : ℕ) → b ≡ (step_at (take n xs) p).leaves → b < 18446744073709551616 → IsChunk (copy_within xs (p + 1) n p) (n - 1) ((lots + (18446744073709551616 - b)) % 18446744073709551616)
    remove_chunk b is small =
        let f : Step → ℕ = λ s. s.leaves in
        let r = row_length in
        let t = ap {B = ℕ} open_at remove_row in
        let s = sum_by-remove f (take n xs) p no_step lt in
        record {
          long = omega (arith, h.long, h.fits, length-paste xs p (drop (p + 1) xs) (n - (p + 1)) (omega (arith, h.long, h.fits)) (omega (arith, h.long, h.fits, length-drop (p + 1) xs)));
          fits = omega (arith, h.fits);
          sum = mod_sub lots b ((lots + (18446744073709551616 - b)) % 18446744073709551616) (open_at (take n xs)) b (open_at (take (n - 1) (copy_within xs (p + 1) n p))) small h.sum (exact b) (omega arith) refl;
        }

    pub set_row : (y : Step) → take n (set xs p y) ≡ set (take n xs) p y
    set_row y = take-set-lt n xs p y (omega (arith, row_length))

    pub set_chunk : (y : Step) (b : ℕ) → b ≡ (step_at (take n xs) p).leaves → b < 18446744073709551616 → IsChunk (set xs p y) n (((lots + (18446744073709551616 - b)) % 18446744073709551616 + y.leaves) % 18446744073709551616)
    set_chunk y b is small =
        let f : Step → ℕ = λ s. s.leaves in
        let S = open_at (take n xs) in
        let a = (lots + (18446744073709551616 - b)) % 18446744073709551616 in
        let le = get_or-le-sum_by f (take n xs) p no_step lt in
        let s = sum_by-set f (take n xs) p y no_step lt in
        let u = ap {B = ℕ} open_at (set_row y) in
        let k = mod_sub lots b a S b (S - b) small h.sum (exact b) (omega arith) refl in
        let t : S - b + y.leaves ≡ open_at (take n (set xs p y)) = omega arith in
        record {
          long = omega (arith, h.long, length-set xs p y);
          fits = h.fits;
          sum = subst (IsMod ((a + y.leaves) % 18446744073709551616)) t (mod_add a y.leaves ((a + y.leaves) % 18446744073709551616) (S - b) y.leaves k (exact y.leaves) refl);
        }

  -- ---- the back half goes

  pub half_row : half ≤ length (take n xs) → take half xs ≡ take half (take n xs)
  half_row le = sym (take-take half n xs (omega (arith, row_length)))

  pub half_chunk : (moved : ℕ) → half ≤ length (take n xs) → moved < 18446744073709551616 → IsMod moved (open_at (drop half (take n xs))) → IsChunk xs half ((lots + (18446744073709551616 - moved)) % 18446744073709551616)
  half_chunk moved le small is =
      let r = row_length in
      let s = sum_by-take-drop (λ (s : Step). s.leaves) (take n xs) half in
      let t = ap {B = ℕ} open_at (take-take half n xs (omega arith)) in
      record {
        long = h.long;
        fits = omega arith;
        sum = mod_sub lots moved ((lots + (18446744073709551616 - moved)) % 18446744073709551616) (open_at (take n xs)) (open_at (drop half (take n xs))) (open_at (take half xs)) small h.sum is (omega arith) refl;
      }
