-- Where the orders stand: a trade and a mark keep the book's order.
use Rattle.std.proofs.Common.{◌≡◌, ℕ, Bool, true, false, cond, not, List, refl}
use Rattle.std.specs.Prelude.{◌==◌}
use Rattle.gx_base.specs.declared.order.Order.{Order}
use Rattle.plain_book.specs.declared.entry.Entry.{Entry}
use Rattle.plain_book.specs.Orders.{level_of, is_at_earlier_level, HasSlot, order_of, without, with_order, placed, settled, traded, refreshed, filled_by}
use Rattle.plain_book.specs.Book.{Book, IsRight, AllDiffer, EachPair, AreInBookOrder}
use Rattle.plain_book.proofs.Levels.{AllDiffer-filter, AllDiffer-front}
use Rattle.plain_book.proofs.Walks.{AllDiffer-with_order}
use Rattle.plain_book.proofs.Pairs.{pairs-filter}
use Rattle.plain_book.proofs.Sorted.{book-order, put-in, ordered-put, IsInserted, inserted-differ}
use Rattle.plain_book.proofs.Right.{without-gone, levels-kept, ordered-changed}

-- slots differ, and the orders are in book order
pub record IsInOrder (es : List Entry) : Type 0 where
  pub differ : AllDiffer es
  pub ordered : EachPair AreInBookOrder es

in-order-without : (s : ℕ) (es : List Entry) → IsInOrder es → IsInOrder (without s es)
in-order-without s es r = record {
  differ = AllDiffer-filter (λ e. not (e.slot == s)) es r.differ;
  ordered = pairs-filter AreInBookOrder (λ e. not (e.slot == s)) es r.ordered;
}

in-order-placed : (n : Entry) (es : List Entry) → (HasSlot n.slot es → ⊥) → IsInOrder es → IsInOrder (placed n es)
in-order-placed n es gone r =
    let p = put-in is_at_earlier_level book-order n es r.ordered in
    let ins : IsInserted n es (placed n es) = record { front = p.front; back = p.back; whole = p.whole; is = p.place } in
    record {
      differ = inserted-differ ins r.differ gone;
      ordered = ordered-put is_at_earlier_level book-order n es r.ordered;
    }

in-order-with : (s : ℕ) (o : Order) (es : List Entry) → level_of o ≡ level_of (order_of s es) → IsInOrder es → IsInOrder (with_order s o es)
in-order-with s o es l r = record {
  differ = AllDiffer-with_order s o es r.differ;
  ordered = ordered-changed s o es (levels-kept s o es r.differ (λ _. l)) r.ordered;
}

in-order-settled : (s : ℕ) (o : Order) (es : List Entry) → level_of o ≡ level_of (order_of s es) → IsInOrder es → IsInOrder (settled s o es)
in-order-settled s o es l r =
    let n : Entry = record { slot = s; order = refreshed o; is_top = false } in
    let left = without s es in
    let gone : IsInOrder left = in-order-without s es r in
    let go : (x y : Bool) → IsInOrder (cond x left (cond y (placed n left) (with_order s o es))) = elim [
      | true ↦ λ y. gone
      | false ↦ elim [ true ↦ in-order-placed n left (without-gone s es) gone | false ↦ in-order-with s o es l r ]
    ] in go (o.leaves == 0) (o.shown == 0)

pub in-order-traded : (s n : ℕ) (es : List Entry) → IsInOrder es → IsInOrder (traded s n es)
in-order-traded s n es r = in-order-settled s (filled_by n (order_of s es)) es refl r

pub in-order-marked : (s n : ℕ) (es : List Entry) → IsInOrder es → IsInOrder (with_order s (record (order_of s es) { prorated = n }) es)
in-order-marked s n es r = in-order-with s (record (order_of s es) { prorated = n }) es refl r

-- a right book
pub right-in-order : (b : Book) → IsRight b → IsInOrder b.resting
right-in-order b r = record { differ = AllDiffer-front b.resting b.waiting r.differ; ordered = r.ordered }
