-- Each resting order shows some of its lots, and any trade keeps that.
use Rattle.std.proofs.Common.{◌≡◌, ◌≢◌, ℕ, ◌-◌, ◌≤◌, List, ap, arith}
use Rattle.gx_base.specs.declared.order.Order.{Order}
use Rattle.plain_book.specs.declared.entry.Entry.{Entry}
use Rattle.plain_book.specs.Orders.{refreshed, filled_by}
use Rattle.plain_book.specs.Book.{Book, IsRight, IsResting}
use Rattle.plain_book.proofs.Pairs.{all-with}
use Rattle.plain_book.proofs.Live.{AllOrders}
use Rattle.level_sweep.proofs.EachTrade.{Relation, IsKept, RestingStays, resting-kept}
use Rattle.level_sweep.proofs.EachOrder.{StaysTrue, all-traded, all-marked}
use Rattle.level_sweep.proofs.Standing.{IsInOrder, in-order-traded, in-order-marked, right-in-order}

-- an order shows at least one lot, and all that is open where it shows no part
abbrev pub IsShowing : Order → Type 0
IsShowing o = (1 ≤ o.shown) × (o.show ≡ 0 → o.shown ≡ o.leaves)

abbrev EntryShows : Entry → Type 0
EntryShows e = IsShowing e.order

-- each order shows some of its lots, and the orders are in book order
pub record AreShowing (es : List Entry) : Type 0 where
  pub each : AllOrders IsShowing es
  pub in_order : IsInOrder es

show-back : (n : ℕ) (o : Order) → IsShowing o → o.leaves - n ≢ 0 → o.shown - n ≡ 0 → IsShowing (refreshed (filled_by n o))
show-back n o h a b =
    let hidden : o.show ≢ 0 = λ e. (let u = h.1 e in omega (arith, u, a, b)) in
    (omega (arith, hidden, a), λ e. absurd (hidden e))

show-stays : (n : ℕ) (o : Order) → IsShowing o → o.shown - n ≢ 0 → IsShowing (filled_by n o)
show-stays n o h b = (omega (arith, b), λ e. ap (λ (k : ℕ). k - n) (h.1 e))

shows : StaysTrue EntryShows
shows = record {
  fills = λ n e x p q is some. show-stays n e.order p some;
  refreshes = λ n e p some none. show-back n e.order p some none;
  marks = λ n e x p q is. p;
}

abbrev pub ShowingStays : Relation
ShowingStays = RestingStays AreShowing

pub showing-kept : IsKept ShowingStays
showing-kept = resting-kept AreShowing
    (λ s n es a. record { each = all-traded EntryShows shows s n es a.each; in_order = in-order-traded s n es a.in_order })
    (λ s n es a. record { each = all-marked EntryShows shows s n es a.each; in_order = in-order-marked s n es a.in_order })

-- a right book
pub showing-right : (b : Book) → IsRight b → AreShowing b.resting
showing-right b r = record {
  each = all-with (λ (e : Entry). IsResting b.instruments e.order) EntryShows (λ e h. (h.showing, h.unhidden)) b.resting r.rest;
  in_order = right-in-order b r;
}
