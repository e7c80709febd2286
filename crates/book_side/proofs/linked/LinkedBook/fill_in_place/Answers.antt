use Rattle.std.proofs.Common.{◌+◌, ◌-◌, arith}
use Rattle.plain_book.specs.Orders as orders
use Rattle.order_pool.specs.Queues.{entries_at, opened, order_of}
use Rattle.plain_book.specs.Book.{book_with_order}
use Rattle.book_side.proofs.Seen.{IsAtRow, rests-live, at-row}
use Rattle.book_side.proofs.Became.{AreParts}
use Rattle.book_side.proofs.Filling.{IsEnough, enough, stays}
use Rattle.book_side.proofs.Reached.{rests-below, stand-set}
use Rattle.book_side.proofs.linked.LinkedBook.fill_in_place.Goals as goal
use Rattle.book_side.proofs.linked.LinkedBook.fill_in_place.Goals.{After-order-order, After-row-row, After-set_sums}

pub queue_of-queue-requires : goal.queue_of-queue-requires
queue_of-queue-requires c = rests-live c.self.invariant.0 c.self.view_is c.args.slot.0 c.requires.rests

-- the order has so many lots
lots : (c : After-order-order) → IsEnough c.self.invariant.0 c.self.view_is c.args.slot.0 c.order-order.result.now c.requires.rests c.order-order.ensures c.args.lots
lots c = enough c.self.invariant.0 c.self.view_is c.args.slot.0 c.order-order.result.now c.requires.rests c.order-order.ensures c.args.lots (omega (arith, c.requires.shown))

-- the order and its level
row : (c : After-order-order) → IsAtRow c.self.invariant.0 c.self.view_is c.args.slot.0 c.queue_of-queue.result c.order-order.result.now
row c = at-row c.self.invariant.0 c.self.view_is c.args.slot.0 c.requires.rests c.rules.ensures c.queue_of-queue.ensures c.order-order.ensures

pub overflow_add-filled : goal.overflow_add-filled
overflow_add-filled c = omega (arith, (lots c).filled)

pub overflow_sub-leaves : goal.overflow_sub-leaves
overflow_sub-leaves c = (lots c).leaves

pub overflow_sub-shown : goal.overflow_sub-shown
overflow_sub-shown c = (lots c).shown

pub row-row-requires : goal.row-row-requires
row-row-requires c = (row (goal.at.row-row-requires c).After-order-order).is_row

pub overflow_sub-row : goal.overflow_sub-row
overflow_sub-row c =
    let d = (goal.at.overflow_sub-row c).After-order-order in
    let held = (row d).held c.row-row.result c.row-row.ensures in
    omega (arith, c.from-less.ensures, (lots d).shown, held.shown)

pub overflow_sub-row-2 : goal.overflow_sub-row-2
overflow_sub-row-2 c =
    let d = (goal.at.overflow_sub-row-2 c).After-order-order in
    let held = (row d).held c.row-row.result c.row-row.ensures in
    omega (arith, c.from-less.ensures, (lots d).leaves, held.leaves)

pub set_sums-requires : goal.set_sums-requires
set_sums-requires c = (row (goal.at.set_sums-requires c).After-order-order).is_row

became : (c : After-set_sums) → AreParts c.self.inside.capacity c.self.inside.instruments c.set_open.new.self c.self.inside.ids c.set_sums.new.self c.self.inside.tops.items (book_with_order c.args.slot.0 (orders.filled_by c.args.lots (orders.order_of c.args.slot.0 c.args.self.now.resting)) c.args.self.now)
became c =
    stays c.self.invariant.0 c.self.view_is c.args.slot.0 c.order-order.result.now c.requires.rests c.order-order.ensures c.args.lots c.queue_of-queue.result c.rules.ensures c.rules-2.ensures c.queue_of-queue.ensures
    c.row-row.result c.row-row.ensures c.from-less.result c.from-less.ensures c.requires.shown c.set_open.ensures.queues c.set_sums.ensures

pub invariant_of-self : goal.invariant_of-self
invariant_of-self c =
    let x = c.order-order.result.now in
    let n = c.args.lots in
    let s = c.args.slot.0 in
    let q = c.queue_of-queue.result in
    let o = opened (x.filled + n) (x.leaves - n) (x.shown - n) (order_of s (entries_at c.self.inside.pool.queues q)) in
    let low = rests-below c.self.invariant.0 c.self.view_is c.self.invariant.2 c.args.slot.0 c.queue_of-queue.result c.requires.rests c.rules.ensures c.queue_of-queue.ensures c.rules-2.ensures in (
      (became (goal.at.invariant_of-self c).After-set_sums).linked,
      c.self.invariant.1,
      stand-set c.self.invariant.2 s q c.rules.ensures c.queue_of-queue.ensures o c.self.invariant.0.many (λ le. absurd (let z : ⊥ = omega (arith, le, low) in z)) (c.set_open.ensures.queues q c.queue_of-queue.ensures),
    )

pub returns : goal.returns
returns c = (became (goal.at.returns c).After-set_sums).view
