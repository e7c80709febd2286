-- What a noted share makes of a resting order.
use Rattle.std.proofs.Common.{◌≡◌, ℕ, List, map, refl, sym, ap, subst, ◌∙◌}
use Rattle.gx_base.specs.declared.order.Order.{Order}
use Rattle.plain_book.specs.Orders as orders
use Rattle.plain_book.specs.Book.{Book, IsRight, book_with_order}
use Rattle.order_pool.specs.Queues as pool
use Rattle.order_pool.specs.Queues.{IsIn, SlotsDiffer, with_entry, with_share}
use Rattle.id_table.specs.Ids.{Ids}
use Rattle.price_level.specs.declared.row.LevelRow.{LevelRow}
use Rattle.price_level.specs.Rows.{Rows, AreRows, row_of}
use Rattle.book_side.specs.declared.tops.SideTops.{SideTops}
use Rattle.book_side.specs.Inner.Content.{book_of}
use Rattle.book_side.specs.Inner.Linked.{IsLinked}
use Rattle.book_side.proofs.Given as given
use Rattle.book_side.proofs.Flat.{only-row, same-sums}
use Rattle.book_side.proofs.Resting.{is-order}
use Rattle.book_side.proofs.Seen.{IsHeldAs}
use Rattle.book_side.proofs.Became.{AreParts, changed}

module _ {c n : ℕ} {p : pool.Queues} {ids : Ids} {lv : Rows} {tops : List SideTops} (k : IsLinked c n p ids lv tops) {b : Book} (seen : book_of c n tops p.queues lv.rows ≡ b)
    (s q : ℕ) (has : orders.HasSlot s b.resting) (differ : SlotsDiffer p) (rules : AreRows lv) (at : IsIn p s q) where
  abbrev now : Order
  now = orders.order_of s b.resting

  -- the pool has the order that rests
  held : IsHeldAs k seen s now
  held t there =
      let rests = subst (λ (y : Book). orders.HasSlot s y.resting) (sym seen) has in
      ap (λ (y : Book). orders.order_of s y.resting) (sym seen) ∙ is-order c n p ids lv tops k s rests differ t there

  -- the sums of its level stay
  pub noted : {p' : pool.Queues} (share : ℕ)
      → ((t : ℕ) → IsIn p s t → p' ≡ record p { queues = map (with_entry s (with_share share (pool.order_of s (pool.entries_at p.queues t)))) p.queues })
      → AreParts c n p' ids lv tops (book_with_order s (with_share share now) b)
  noted {p'} share set =
      let r : LevelRow = row_of q lv.rows in
      let fit = given.prorated b (subst IsRight seen k.right) s has now refl share in
      let set' : p' ≡ record p { queues = map (with_entry s (with_share share now)) p.queues } =
      set q at ∙ ap (λ (y : Order). (let z : pool.Queues = record p { queues = map (with_entry s (with_share share y)) p.queues } in z)) (sym (held q at)) in
      changed k seen s q now (with_share share now) has differ rules at held (record { level = refl; firm = refl; id = refl; fit = fit }) r r.shown r.leaves set'
      (record {
        row = refl;
        shown_is = refl;
        leaves_is = refl;
        rows = ap (λ (l : List LevelRow). (let z : Rows = record lv { rows = l } in z)) (sym (same-sums q r lv.rows (only-row q lv.rows rules.apart)));
      })
