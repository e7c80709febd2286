-- How many orders a walk by slots has still to meet.
use Rattle.std.proofs.Common.{◌≡◌, ℕ, Bool, cond, List, [], ◌∷◌, ◌++◌, length, Option, Some, None, refl, ap, ◌∙◌}
use Prim.Native.Nat.{suc}
use Rattle.std.specs.Prelude.{◌==◌}
use Rattle.plain_book.specs.declared.entry.Entry.{Entry}
use Rattle.plain_book.specs.Orders.{slot_of}
use Rattle.plain_book.specs.Book.{AllDiffer}
use Rattle.plain_book.proofs.Levels.{same, other}

count_from : ℕ → List Entry → ℕ
count_from slot [] = 0
count_from slot (e ∷ es) = cond (e.slot == slot) (suc (length es)) (count_from slot es)

-- the orders from one of them on, or none
pub left_from : Option ℕ → List Entry → ℕ
left_from None es = 0
left_from (Some slot) es = count_from slot es

count-middle : (xs ys : List Entry) (e : Entry) → AllDiffer (xs ++ e ∷ ys) → count_from e.slot (xs ++ e ∷ ys) ≡ suc (length ys)
unfolding count_from
count-middle [] ys e d = ap (λ (b : Bool). cond b (suc (length ys)) (count_from e.slot ys)) (same e.slot)
count-middle (x ∷ xs) ys e d =
    ap (λ (b : Bool). cond b (suc (length (xs ++ e ∷ ys))) (count_from e.slot (xs ++ e ∷ ys))) (other x e xs ys d) ∙ count-middle xs ys e d.1

pub left-is : (xs ys : List Entry) → AllDiffer (xs ++ ys) → left_from (slot_of ys) (xs ++ ys) ≡ length ys
unfolding left_from
left-is xs [] d = refl
left-is xs (e ∷ ys) d = count-middle xs ys e d
