use Rattle.std.proofs.Common.{◌+◌, ◌-◌, ◌∙◌, arith, false}
use Rattle.plain_book.specs.Orders as orders
use Rattle.order_pool.specs.Queues.{entries_at, opened, order_of}
use Rattle.book_side.specs.Inner.Steps.{resting_as}
use Rattle.book_side.proofs.Seen.{IsAtRow, rests-live, at-row, back-at}
use Rattle.book_side.proofs.Became.{AreParts}
use Rattle.book_side.proofs.Filling.{IsEnough, enough, sent}
use Rattle.book_side.proofs.Reached.{rests-below, stand-back}
use Rattle.book_side.proofs.linked.LinkedBook.send_back.Goals as goal
use Rattle.book_side.proofs.linked.LinkedBook.send_back.Goals.{After-order-old, After-set_sums}

pub queue_of-queue-requires : goal.queue_of-queue-requires
queue_of-queue-requires c = rests-live c.self.invariant.0 c.self.view_is c.args.slot.0 c.requires.rests

-- the order has so many lots
lots : (c : After-order-old) → IsEnough c.self.invariant.0 c.self.view_is c.args.slot.0 c.order-old.result.now c.requires.rests c.order-old.ensures c.args.lots
lots c = enough c.self.invariant.0 c.self.view_is c.args.slot.0 c.order-old.result.now c.requires.rests c.order-old.ensures c.args.lots (omega (arith, c.requires.shown))

-- the order and its level
row : (c : After-order-old) → IsAtRow c.self.invariant.0 c.self.view_is c.args.slot.0 c.queue_of-queue.result c.order-old.result.now
row c = at-row c.self.invariant.0 c.self.view_is c.args.slot.0 c.requires.rests c.rules.ensures c.queue_of-queue.ensures c.order-old.ensures

pub overflow_add-filled : goal.overflow_add-filled
overflow_add-filled c = omega (arith, (lots c).filled)

pub overflow_sub-leaves : goal.overflow_sub-leaves
overflow_sub-leaves c = (lots c).leaves

pub row-row-requires : goal.row-row-requires
row-row-requires c = (row (goal.at.row-row-requires c).After-order-old).is_row

pub set_sums-requires : goal.set_sums-requires
set_sums-requires c = (row (goal.at.set_sums-requires c).After-order-old).is_row

pub exchanged-shown_sum-requires : goal.exchanged-shown_sum-requires
exchanged-shown_sum-requires c =
    let d = (goal.at.exchanged-shown_sum-requires c).After-order-old in
    let held = (row d).held c.row-row.result c.row-row.ensures in
    record { part = omega (arith, (lots d).shown, held.shown); small = held.small_shown }

pub drop_top-requires : goal.drop_top-requires
drop_top-requires c = (row (goal.at.drop_top-requires c).After-order-old).listed

pub to_back-requires : goal.to_back-requires
to_back-requires c = rests-live c.self.invariant.0 c.self.view_is c.args.slot.0 c.requires.rests

pub set_open-requires : goal.set_open-requires
set_open-requires c = let q = c.queue_of-queue.result in (q, back-at c.self.inside.pool c.args.slot.0 q c.queue_of-queue.ensures c.to_back.new.self c.to_back.ensures.queues)

pub overflow_sub-row : goal.overflow_sub-row
overflow_sub-row c =
    let d = (goal.at.overflow_sub-row c).After-order-old in
    let held = (row d).held c.row-row.result c.row-row.ensures in
    omega (arith, c.from.ensures, (lots d).leaves, held.leaves)

became : (c : After-set_sums)
    → AreParts c.self.inside.capacity c.self.inside.instruments c.set_open.new.self c.self.inside.ids c.set_sums.new.self c.drop_top.new.tops.items (resting_as c.args.self.now (orders.placed (record { slot = c.args.slot.0; order = orders.refreshed (orders.filled_by c.args.lots (orders.order_of c.args.slot.0 c.args.self.now.resting)); is_top = false }) (orders.without c.args.slot.0 c.args.self.now.resting)))
became c =
    sent c.self.invariant.0 c.self.view_is c.args.slot.0 c.order-old.result.now c.requires.rests c.order-old.ensures c.args.lots c.queue_of-queue.result c.rules.ensures c.rules-2.ensures c.queue_of-queue.ensures
    c.row-row.result c.row-row.ensures c.from.result c.from.ensures c.min-shown.result c.exchanged-shown_sum.result c.requires.shown c.requires.open c.min-shown.ensures
    c.to_back.ensures.queues c.to_back.ensures.live c.set_open.ensures.queues c.set_open.ensures.live c.exchanged-shown_sum.ensures c.set_sums.ensures c.drop_top.ensures.length c.drop_top.ensures.tops

pub invariant_of-self : goal.invariant_of-self
invariant_of-self c =
    let x = c.order-old.result.now in
    let n = c.args.lots in
    let s = c.args.slot.0 in
    let q = c.queue_of-queue.result in
    let at = c.queue_of-queue.ensures in
    let o = opened (x.filled + n) (x.leaves - n) c.min-shown.result (order_of s (entries_at c.to_back.new.self.queues q)) in
    let low = rests-below c.self.invariant.0 c.self.view_is c.self.invariant.2 s q c.requires.rests c.rules.ensures at c.rules-2.ensures in
    let set = c.set_open.ensures.queues q (back-at c.self.inside.pool s q at c.to_back.new.self c.to_back.ensures.queues) in (
      (became (goal.at.invariant_of-self c).After-set_sums).linked,
      c.drop_top.ensures.room ∙ c.self.invariant.1,
      stand-back c.self.invariant.2 s q c.rules.ensures at o low (c.to_back.ensures.queues q at) set,
    )

pub returns : goal.returns
returns c = (became (goal.at.returns c).After-set_sums).view
