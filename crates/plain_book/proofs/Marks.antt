-- The mark of a step leaves the order where it is, and what it shows.
use Rattle.std.proofs.Common.{◌≡◌, ℕ, Bool, true, false, cond, refl, ap}
use Rattle.gx_base.specs.declared.order.Order.{Order}
use Rattle.gx_base.specs.declared.order.Desk.{Desk}
use Rattle.gx_base.specs.declared.order.Taker.{Taker}
use Rattle.gx_base.specs.declared.event.StepName.{StepName}
use Rattle.plain_book.specs.Orders.{HasSlot, order_of}
use Rattle.plain_book.specs.Book.{Book}
use Rattle.plain_book.specs.Match.{is_prorata, book_share_noted}
use Rattle.plain_book.specs.Matches.{CanTrade}
use Rattle.plain_book.proofs.Walks.{HasSlot-with_order, order_of-with_order}
use Rattle.plain_book.proofs.Trading.{can-marked}
use Rattle.plain_book.proofs.TradedShares.{marked_in}

module _ (step : StepName) (slot lots : ℕ) (b : Book) (has : HasSlot slot b.resting) where
  o : Order
  o = record (order_of slot b.resting) { prorated = lots }

  pub marked-has : HasSlot slot (marked_in step slot lots b).resting
  unfolding o
  marked-has =
      let go : (c : Bool) → HasSlot slot (cond c (book_share_noted slot lots b) b).resting = elim [ true ↦ HasSlot-with_order slot slot o b.resting has | false ↦ has ] in
      go (is_prorata step)

  pub marked-shows : (order_of slot (marked_in step slot lots b).resting).shown ≡ (order_of slot b.resting).shown
  unfolding o
  marked-shows =
      let go : (c : Bool) → (order_of slot (cond c (book_share_noted slot lots b) b).resting).shown ≡ (order_of slot b.resting).shown = elim [
        | true ↦ ap (λ (x : Order). x.shown) (order_of-with_order slot o b.resting has)
        | false ↦ refl
      ] in go (is_prorata step)

  pub marked-can : (d : Desk) (t : Taker) → CanTrade b d t → CanTrade (marked_in step slot lots b) d t
  marked-can d t can =
      let go : (c : Bool) → CanTrade (cond c (book_share_noted slot lots b) b) d t = elim [ true ↦ can-marked slot lots b d t has can | false ↦ can ] in
      go (is_prorata step)
