-- The walk to the order of a number at the best price of a side.
use Rattle.std.proofs.Common.{◌≡◌, ℕ, suc, ◌+◌, ◌-◌, ◌*◌, ◌<◌, Bool, true, false, cond, ◌||◌, List, ◌∷◌, Option, Some, None, refl, ap, sym, ◌∙◌, arith}
use Rattle.gx_base.specs.declared.price.Price.{Price}
use Rattle.gx_base.specs.declared.order.Side.{Side}
use Rattle.gx_base.specs.declared.order.Order.{Order}
use Rattle.book_image.specs.declared.format.TheConstants.{ROW_BYTES}
use Rattle.book_image.specs.Rows.{order_of_row, row_at}
use Rattle.book_image.specs.Faults.{orders_at, is_order_on, is_at_best}
use Rattle.book_image.specs.Inner.Checking.{is_at_best_from, best_with, is_named_at}

one-less : (n k : ℕ) → k < n → n - k ≡ suc (n - (k + 1))
one-less n k h = omega arith

row-next : (first k : ℕ) → first + ROW_BYTES * k + ROW_BYTES ≡ first + ROW_BYTES * (k + 1)
row-next first k = omega arith

module _ (i : ℕ) (side : Side) (number : ℕ) where
  -- at one order more
  best-step : (best : Option Price) (o : Order) (os : List Order)
      → is_at_best_from best i side number (o ∷ os) ≡ (is_named_at (best_with best i side o) i side number o || is_at_best_from (best_with best i side o) i side number os)
  best-step (Some best) o os = refl
  best-step None o os =
      let go : (b : Bool) → is_order_on i side o ≡ b → is_at_best_from None i side number (o ∷ os) ≡ (is_named_at (cond b (Some o.price) None) i side number o || is_at_best_from (cond b (Some o.price) None) i side number os) = elim [
        | true ↦ λ e. ap (λ (b : Bool). cond b (is_at_best_from (Some o.price) i side number (o ∷ os)) (is_at_best i side number os)) e
        | false ↦ λ e. ap (λ (b : Bool). cond b (is_at_best_from (Some o.price) i side number (o ∷ os)) (is_at_best i side number os)) e
      ] in go (is_order_on i side o) refl

  -- at the next row
  pub best-next : (payload : List ℕ) (first n k : ℕ) (best : Option Price) → k < n
      → is_at_best_from best i side number (orders_at payload (first + ROW_BYTES * k) (n - k))
      ≡ (is_named_at (best_with best i side (order_of_row (row_at payload first k))) i side number (order_of_row (row_at payload first k))
      || is_at_best_from (best_with best i side (order_of_row (row_at payload first k))) i side number (orders_at payload (first + ROW_BYTES * (k + 1)) (n - (k + 1))))
  best-next payload first n k best h =
      let o = order_of_row (row_at payload first k) in
      ap (λ (m : ℕ). is_at_best_from best i side number (orders_at payload (first + ROW_BYTES * k) m)) (one-less n k h)
      ∙ best-step best o (orders_at payload (first + ROW_BYTES * k + ROW_BYTES) (n - (k + 1)))
      ∙ ap (λ (at : ℕ). is_named_at (best_with best i side o) i side number o || is_at_best_from (best_with best i side o) i side number (orders_at payload at (n - (k + 1)))) (row-next first k)

  -- the same, as the walk has it
  walk-next : (payload : List ℕ) (first n k : ℕ) (best next : Option Price) (row : List ℕ) (hit : Bool) → k < n
      → row ≡ row_at payload first k
      → next ≡ best_with best i side (order_of_row row) → hit ≡ is_named_at next i side number (order_of_row row)
      → is_at_best_from best i side number (orders_at payload (first + ROW_BYTES * k) (n - k)) ≡ (hit || is_at_best_from next i side number (orders_at payload (first + ROW_BYTES * (k + 1)) (n - (k + 1))))
  walk-next payload first n k best next row hit h row-is next-is hit-is =
      let o = order_of_row (row_at payload first k) in
      let rest = orders_at payload (first + ROW_BYTES * (k + 1)) (n - (k + 1)) in
      let known : next ≡ best_with best i side o = next-is ∙ ap (λ (r : List ℕ). best_with best i side (order_of_row r)) row-is in
      best-next payload first n k best h
      ∙ ap (λ (p : Option Price). is_named_at p i side number o || is_at_best_from p i side number rest) (sym known)
      ∙ ap (λ (r : List ℕ). is_named_at next i side number (order_of_row r) || is_at_best_from next i side number rest) (sym row-is)
      ∙ ap (λ (b : Bool). b || is_at_best_from next i side number rest) (sym hit-is)

  -- the walk, where the row is the one that is looked for, and where it is not
  pub walk-as : (payload : List ℕ) (first n k : ℕ) (best next : Option Price) (row : List ℕ) (hit told : Bool) → k < n → row ≡ row_at payload first k
      → next ≡ best_with best i side (order_of_row row) → hit ≡ is_named_at next i side number (order_of_row row) → hit ≡ told
      → is_at_best_from best i side number (orders_at payload (first + ROW_BYTES * k) (n - k)) ≡ (told || is_at_best_from next i side number (orders_at payload (first + ROW_BYTES * (k + 1)) (n - (k + 1))))
  walk-as payload first n k best next row hit told h row-is next-is hit-is is =
      walk-next payload first n k best next row hit h row-is next-is hit-is
      ∙ ap (λ (b : Bool). b || is_at_best_from next i side number (orders_at payload (first + ROW_BYTES * (k + 1)) (n - (k + 1)))) is
