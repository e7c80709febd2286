use Rattle.std.proofs.Common.{arith}
use Rattle.plain_book.specs.Book.{book_with_order}
use Rattle.book_side.proofs.Seen.{IsAtRow, rests-live, at-row}
use Rattle.book_side.proofs.Became.{AreParts, changed}
use Rattle.book_side.proofs.Reached.{rests-below, stand-set}
use Rattle.book_side.proofs.linked.LinkedBook.set_order.Goals as goal
use Rattle.book_side.proofs.linked.LinkedBook.set_order.Goals.{After-queue_of-queue, After-set_sums}

pub order-old-requires : goal.order-old-requires
order-old-requires c = rests-live c.self.invariant.0 c.self.view_is c.args.slot.0 c.requires.rests

pub queue_of-queue-requires : goal.queue_of-queue-requires
queue_of-queue-requires c = rests-live c.self.invariant.0 c.self.view_is c.args.slot.0 c.requires.rests

-- the order and its level
row : (c : After-queue_of-queue) → IsAtRow c.self.invariant.0 c.self.view_is c.args.slot.0 c.queue_of-queue.result c.order-old.result.now
row c = at-row c.self.invariant.0 c.self.view_is c.args.slot.0 c.requires.rests c.rules.ensures c.queue_of-queue.ensures c.order-old.ensures

pub row-row-requires : goal.row-row-requires
row-row-requires c = (row (goal.at.row-row-requires c).After-queue_of-queue).is_row

pub set_sums-requires : goal.set_sums-requires
set_sums-requires c = (row (goal.at.set_sums-requires c).After-queue_of-queue).is_row

pub exchanged-shown-requires : goal.exchanged-shown-requires
exchanged-shown-requires c =
    let held = (row (goal.at.exchanged-shown-requires c).After-queue_of-queue).held c.row-row.result c.row-row.ensures in
    record { part = held.shown; small = held.small_shown }

pub exchanged-leaves-requires : goal.exchanged-leaves-requires
exchanged-leaves-requires c =
    let held = (row (goal.at.exchanged-leaves-requires c).After-queue_of-queue).held c.row-row.result c.row-row.ensures in
    record { part = held.leaves; small = held.small_leaves }

became : (c : After-set_sums) → AreParts c.self.inside.capacity c.self.inside.instruments c.set.new.self c.self.inside.ids c.set_sums.new.self c.self.inside.tops.items (book_with_order c.args.slot.0 c.args.order.now c.args.self.now)
became c =
    let r = c.requires in
    changed c.self.invariant.0 c.self.view_is c.args.slot.0 c.queue_of-queue.result c.order-old.result.now c.args.order.now r.rests c.rules.ensures c.rules-2.ensures c.queue_of-queue.ensures c.order-old.ensures (record { level = r.level; firm = r.firm; id = r.id; fit = r.fit })
    c.row-row.result c.exchanged-shown.result c.exchanged-leaves.result c.set.ensures.queues (record { row = c.row-row.ensures; shown_is = c.exchanged-shown.ensures; leaves_is = c.exchanged-leaves.ensures; rows = c.set_sums.ensures })

pub invariant_of-self : goal.invariant_of-self
invariant_of-self c =
    let low = rests-below c.self.invariant.0 c.self.view_is c.self.invariant.2 c.args.slot.0 c.queue_of-queue.result c.requires.rests c.rules.ensures c.queue_of-queue.ensures c.rules-2.ensures in (
      (became (goal.at.invariant_of-self c).After-set_sums).linked,
      c.self.invariant.1,
      stand-set c.self.invariant.2 c.args.slot.0 c.queue_of-queue.result c.rules.ensures c.queue_of-queue.ensures c.args.order.now c.self.invariant.0.many (λ le. absurd (let z : ⊥ = omega (arith, le, low) in z)) c.set.ensures.queues,
    )

pub returns : goal.returns
returns c = (became (goal.at.returns c).After-set_sums).view
