-- The levels of a book of which only stops change.
use Rattle.std.proofs.Common.{◌≡◌, ℕ, ◌<◌, List, [], map, sym, ap, subst, ◌∙◌, arith}
use Rattle.std.specs.Prelude.{Option}
use Rattle.std.specs.List.{AllByRecursion}
use Rattle.gx_base.specs.declared.order.Side.{Side}
use Rattle.plain_book.specs.declared.entry.Entry.{Entry}
use Rattle.plain_book.specs.Orders.{side_of}
use Rattle.plain_book.proofs.Pairs.{all-with, all-both}
use Rattle.order_pool.specs.Queues as pool
use Rattle.id_table.specs.Ids.{Ids}
use Rattle.price_level.specs.declared.row.LevelRow.{LevelRow}
use Rattle.price_level.specs.Rows.{Rows, AreRows, HasQueue}
use Rattle.book_side.specs.declared.tops.SideTops.{SideTops}
use Rattle.book_side.specs.Inner.Content.{Held, marked, resting_of, top_at}
use Rattle.book_side.specs.Inner.Linked.{IsSummed, IsTopOf, IsLinked}
use Rattle.book_side.proofs.LevelOf.{held, summed-as}
use Rattle.book_side.proofs.Flat.{flat-rows}

module _ (c n : ℕ) (p p' : pool.Queues) (ids : Ids) (lv : Rows) (tops : List SideTops) (k : IsLinked c n p ids lv tops) (rules : AreRows lv)
    (same : (q : ℕ) → q < c → pool.entries_at p'.queues q ≡ pool.entries_at p.queues q) where
  abbrev T : ℕ → Side → Option ℕ
  T = top_at tops

  rows-same : AllByRecursion (λ (r : LevelRow). held p' r.queue ≡ held p r.queue) lv.rows
  rows-same =
      all-with (λ (r : LevelRow). (r.queue < lv.capacity) × (r.instrument < lv.instruments)) (λ (r : LevelRow). held p' r.queue ≡ held p r.queue)
      (λ r b. same r.queue (omega (arith, b.0, k.level_room))) lv.rows rules.below

  pub resting-same : resting_of T (held p') lv.rows ≡ resting_of T (held p) lv.rows
  resting-same =
      flat-rows (λ q. map (marked T) (held p' q)) (λ q. map (marked T) (held p q)) lv.rows
      (all-with (λ (r : LevelRow). held p' r.queue ≡ held p r.queue) (λ (r : LevelRow). map (marked T) (held p' r.queue) ≡ map (marked T) (held p r.queue)) (λ r e. ap (λ (l : List Held). map (marked T) l) e) lv.rows rows-same)

  pub summed-same : AllByRecursion (IsSummed (held p')) lv.rows
  summed-same =
      all-with (λ (r : LevelRow). IsSummed (held p) r × (held p' r.queue ≡ held p r.queue)) (IsSummed (held p'))
      (λ r h. summed-as (held p) (held p') r h.1 h.0) lv.rows (all-both (IsSummed (held p)) (λ (r : LevelRow). held p' r.queue ≡ held p r.queue) lv.rows k.summed rows-same)

  pub unused-same : (q : ℕ) → q < c → (HasQueue q lv.rows → ⊥) → held p' q ≡ []
  unused-same q lt h = same q lt ∙ k.unused q lt h

  pub top-same : (i : ℕ) (d : Side) → IsTopOf (T i d) (side_of i d (resting_of T (held p') lv.rows))
  top-same i d = subst (λ (l : List Entry). IsTopOf (T i d) (side_of i d l)) (sym resting-same) (k.top i d)
