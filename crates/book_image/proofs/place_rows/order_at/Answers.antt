use Rattle.std.proofs.Common.{◌≡◌, true, take, drop, sym, ap, subst, ◌∙◌, arith, ◌+◌, ◌*◌, ◌-◌, ℕ, List}
use Rattle.book_image.specs.Rows.{has_forms, order_of_row, row_at}
use Rattle.book_image.proofs.place_rows.order_at.Goals as goal

-- the row is cut out of the payload
cut : (payload : List ℕ) (first k : ℕ) → take (first + 82 * k + 82 - (first + 82 * k)) (drop (first + 82 * k) payload) ≡ row_at payload first k
cut payload first k =
    let width : first + 82 * k + 82 - (first + 82 * k) ≡ 82 = omega arith in
    ap (λ (n : ℕ). take n (drop (first + 82 * k) payload)) width

pub order_of_row-requires-clause-forms : goal.order_of_row-requires-clause-forms
order_of_row-requires-clause-forms c = subst (λ (row : List ℕ). has_forms row ≡ true) (sym (cut c.args.payload.now c.args.first c.args.k)) c.requires.forms

pub returns : goal.returns
returns c = c.order_of_row.ensures ∙ ap order_of_row (cut c.args.payload.now c.args.first c.args.k)
