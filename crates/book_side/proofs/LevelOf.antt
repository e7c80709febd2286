-- What the proofs of the calls share: what the pool holds, and the level of an order that rests.
use Rattle.std.proofs.Common.{◌≡◌, ℕ, ◌<◌, List, length, sym, ap, subst, ◌∙◌, arith}
use Rattle.std.specs.Prelude.{sum_by}
use Rattle.std.specs.List.{AllByRecursion}
use Rattle.plain_book.specs.declared.entry.Entry.{Entry}
use Rattle.plain_book.specs.Orders as orders
use Rattle.plain_book.specs.Orders.{level_of}
use Rattle.plain_book.specs.Book.{Book}
use Rattle.plain_book.proofs.Levels.{AllDiffer-front}
use Rattle.order_pool.specs.Queues as pool
use Rattle.order_pool.specs.Queues.{IsIn, SlotsDiffer}
use Rattle.price_level.specs.declared.row.LevelRow.{LevelRow}
use Rattle.book_side.specs.declared.tops.SideTops.{SideTops}
use Rattle.id_table.specs.Ids.{Ids}
use Rattle.price_level.specs.Rows.{Rows, AreRows, level_of_row, row_of}
use Rattle.book_side.specs.Inner.Content.{Held, resting_of, book_of, top_at}
use Rattle.book_side.specs.Inner.Linked.{IsSummed, IsLinked}
use Rattle.book_side.proofs.Flat.{at-row, row_of-queue}
use Rattle.book_side.proofs.Slots.{Rests, rests-in, rests-order}

-- what a pool holds in each queue
abbrev pub held : pool.Queues → ℕ → List Held
held p = pool.entries_at p.queues

-- a book by its lists
pub same-lists : (c n : ℕ) {xs ys ws vs : List Entry} → xs ≡ ys → ws ≡ vs → let one : Book = record { capacity = c; instruments = n; resting = xs; waiting = ws } in
    let other : Book = record { capacity = c; instruments = n; resting = ys; waiting = vs } in
    one ≡ other
same-lists c n {ys = ys} {ws = ws} rest wait =
    ap (λ (l : List Entry). (let x : Book = record { capacity = c; instruments = n; resting = l; waiting = ws } in x)) rest
    ∙ ap (λ (l : List Entry). (let x : Book = record { capacity = c; instruments = n; resting = ys; waiting = l } in x)) wait

-- the sums of a level whose queue stays
pub summed-as : (P P' : ℕ → List Held) (r : LevelRow) → P' r.queue ≡ P r.queue → IsSummed P r → IsSummed P' r
summed-as P P' r same h = record {
  at = subst (AllByRecursion (λ (x : Held). level_of x.1 ≡ level_of_row r)) (sym same) h.at;
  count = h.count ∙ ap (λ (l : List Held). length l) (sym same);
  shown = h.shown ∙ ap (λ (l : List Held). sum_by (λ (y : Held). y.1.shown) l) (sym same);
  leaves = h.leaves ∙ ap (λ (l : List Held). sum_by (λ (y : Held). y.1.leaves) l) (sym same);
}

-- the order of slot s rests, in the queue q
pub record IsHere (c : ℕ) (p : pool.Queues) (lv : Rows) (tops : List SideTops) (s q : ℕ) : Type 0 where
  pub rests : Rests p lv.rows s q
  pub below : q < c
  pub summed : IsSummed (held p) (row_of q lv.rows)
  pub queue : held p (row_of q lv.rows).queue ≡ held p q
  pub order : orders.order_of s (resting_of (top_at tops) (held p) lv.rows) ≡ pool.order_of s (held p q)

pub is-here : {c n : ℕ} {p : pool.Queues} {ids : Ids} {lv : Rows} {tops : List SideTops} → IsLinked c n p ids lv tops → (s q : ℕ) → orders.HasSlot s (resting_of (top_at tops) (held p) lv.rows) → SlotsDiffer p → IsIn p s q → AreRows lv
    → IsHere c p lv tops s q
is-here {c} {n} {p} {ids} {lv} {tops} k s q has differ at rules =
    let book = book_of c n tops p.queues lv.rows in
    let R = row_of q lv.rows in
    let rests : Rests p lv.rows s q = rests-in p (top_at tops) lv.rows s differ has q at in
    let under : R.queue < lv.capacity = (at-row (λ (r : LevelRow). (r.queue < lv.capacity) × (r.instrument < lv.instruments)) q lv.rows rests.is_row rules.below).0 in
    record {
      rests = rests;
      below = omega (arith, under, row_of-queue q lv.rows rests.is_row, k.level_room);
      summed = at-row (IsSummed (held p)) q lv.rows rests.is_row k.summed;
      queue = ap (held p) (row_of-queue q lv.rows rests.is_row);
      order = rests-order p (top_at tops) lv.rows s q rests (AllDiffer-front book.resting book.waiting k.right.differ);
    }
