-- An order that rests, its level and its sums.
use Rattle.std.proofs.Common.{◌≡◌, ℕ, ◌<◌, ◌≤◌, ◌^◌, List, length, ap, arith}
use Rattle.std.specs.Prelude.{sum_by}
use Rattle.gx_base.specs.declared.order.Order.{Order}
use Rattle.plain_book.specs.Orders as orders
use Rattle.plain_book.specs.Book.{Book, live_orders}
use Rattle.plain_book.proofs.Levels.{AllDiffer-front}
use Rattle.plain_book.proofs.Live.{fit_of}
use Rattle.plain_book.proofs.Right.{length-front}
use Rattle.order_pool.specs.Queues as pool
use Rattle.order_pool.specs.Queues.{IsIn, IsLive, SlotsDiffer}
use Rattle.price_level.specs.declared.row.LevelRow.{LevelRow}
use Rattle.book_side.specs.declared.tops.SideTops.{SideTops}
use Rattle.id_table.specs.Ids.{Ids}
use Rattle.price_level.specs.Rows.{Rows, HasQueue, row_of}
use Rattle.book_side.specs.Inner.Content.{Held, book_of, top_at}
use Rattle.book_side.specs.Inner.Linked.{IsSummed, IsLinked}
use Rattle.book_side.proofs.Flat.{at-row, row_of-queue}
use Rattle.book_side.proofs.Bounds.{row-small}
use Rattle.book_side.proofs.Slots.{Rests, rests-live, rests-in, rests-order, sum-without_slot}

-- what a call needs of the level of an order
pub record IsHeld (r : LevelRow) (o : Order) : Type 0 where
  pub some : 1 ≤ r.count
  pub shown : o.shown ≤ r.shown
  pub leaves : o.leaves ≤ r.leaves
  pub small_shown : r.shown < 2 ^ 63
  pub small_leaves : r.leaves < 2 ^ 63

module _ (c n : ℕ) (p : pool.Queues) (ids : Ids) (lv : Rows) (tops : List SideTops) (k : IsLinked c n p ids lv tops) (s : ℕ) (has : orders.HasSlot s (book_of c n tops p.queues lv.rows).resting) where
  abbrev book : Book
  book = book_of c n tops p.queues lv.rows

  pub is-live : IsLive p s
  is-live = rests-live p (top_at tops) lv.rows s has

  pub is-listed : (orders.order_of s book.resting).instrument < length tops
  is-listed = let f = fit_of n s book.resting k.right.rest has in omega (arith, f.fit.listed, k.sides)

  module _ (differ : SlotsDiffer p) (q : ℕ) (at : IsIn p s q) where
    rests : Rests p lv.rows s q
    rests = rests-in p (top_at tops) lv.rows s differ has q at

    pub is-row : HasQueue q lv.rows
    is-row = rests.is_row

    pub is-order : orders.order_of s book.resting ≡ pool.order_of s (pool.entries_at p.queues q)
    is-order = rests-order p (top_at tops) lv.rows s q rests (AllDiffer-front book.resting book.waiting k.right.differ)

    pub is-held : IsHeld (row_of q lv.rows) (pool.order_of s (pool.entries_at p.queues q))
    is-held =
        let P = pool.entries_at p.queues in
        let R = row_of q lv.rows in
        let r : IsSummed P R = at-row (IsSummed P) q lv.rows rests.is_row k.summed in
        let there : P R.queue ≡ P q = ap P (row_of-queue q lv.rows rests.is_row) in
        let small = row-small (top_at tops) P n q lv.rows k.summed rests.is_row k.right.rest in
        let few : length book.resting ≤ length (live_orders book) = length-front book.resting book.waiting in
        let norep = differ.within q at.0 in
        record {
          some = at-row (λ (x : LevelRow). 1 ≤ x.count) q lv.rows rests.is_row k.some;
          shown = omega (arith, r.shown, ap (λ (l : List Held). sum_by (λ (y : Held). y.1.shown) l) there, sum-without_slot (λ (y : Order). y.shown) s (P q) at.1 norep);
          leaves = omega (arith, r.leaves, ap (λ (l : List Held). sum_by (λ (y : Held). y.1.leaves) l) there, sum-without_slot (λ (y : Order). y.leaves) s (P q) at.1 norep);
          small_shown = omega (arith, small.0, small.1, few, k.right.few, k.right.small);
          small_leaves = omega (arith, small.0, small.2, few, k.right.few, k.right.small);
        }
