use Rattle.std.proofs.Common.{◌∙◌, ℕ, ◌+◌, ◌<◌, ◌≤◌, ◌^◌, arith}
use Rattle.plain_book.specs.Orders.{HasSlot}
use Rattle.plain_book.specs.Book.{live_orders, as_limit, book_placed}
use Rattle.book_side.proofs.Seen.{id-absent}
use Rattle.book_side.proofs.Bounds.{first-small}
use Rattle.book_side.proofs.Became.{AreParts, rows-room, queue-below, queue-there, sums-fit, came}
use Rattle.book_side.proofs.Reached.{stand-placed}
use Rattle.book_side.proofs.linked.LinkedBookBook.rest.Goals as goal
use Rattle.book_side.proofs.linked.LinkedBookBook.rest.Goals.{After-row-row, After-place_top}

pub enter_level-queue-requires-clause-room : goal.enter_level-queue-requires-clause-room
enter_level-queue-requires-clause-room c = rows-room c.self.invariant.0 c.self.view_is c.requires.room

pub push_rested-slot-requires-clause-queue_in : goal.push_rested-slot-requires-clause-queue_in
push_rested-slot-requires-clause-queue_in c = queue-there c.self.invariant.0 c.self.view_is c.enter_level-queue.result (as_limit c.args.order.now) c.enter_level-queue.new.levels c.enter_level-queue.ensures c.rules.ensures c.requires.room c.requires.fit

-- one order more, and m of its lots, fit into the sums
more : (c : After-row-row) → (m : ℕ) → m ≤ c.args.order.now.leaves → (c.row-row.result.count + 1 < 2 ^ 32) × (c.row-row.result.shown + m < 2 ^ 64) × (c.row-row.result.leaves + m < 2 ^ 64)
more c = sums-fit c.self.invariant.0 c.self.view_is c.enter_level-queue.result (as_limit c.args.order.now) c.enter_level-queue.new.levels c.enter_level-queue.ensures c.rules.ensures c.requires.room c.requires.fit c.row-row.result c.row-row.ensures

pub overflow_add-row : goal.overflow_add-row
overflow_add-row c = omega (arith, (more (goal.at.overflow_add-row c).After-row-row 0 (omega arith)).0)

pub overflow_add-row-2 : goal.overflow_add-row-2
overflow_add-row-2 c = omega (arith, (more (goal.at.overflow_add-row-2 c).After-row-row c.from.result (omega (arith, c.from.ensures, c.first_shown-shown.ensures, first-small (as_limit c.args.order.now)))).1)

pub overflow_add-row-3 : goal.overflow_add-row-3
overflow_add-row-3 c = omega (arith, (more (goal.at.overflow_add-row-3 c).After-row-row c.from-2.result (omega (arith, c.from-2.ensures))).2)

pub insert-requires-clause-absent : goal.insert-requires-clause-absent
insert-requires-clause-absent c = id-absent c.self.invariant.0 c.self.view_is c.args.order.now.firm c.args.order.now.id c.requires.unnamed

placed : (c : After-place_top) → (HasSlot c.push_rested-slot.result.0 (live_orders c.args.self.now) → ⊥)
    × AreParts c.self.inside.capacity c.self.inside.instruments c.push_rested-slot.new.self c.insert.new.self c.set_sums.new.self c.place_top.new.tops.items (book_placed c.push_rested-slot.result.0 (as_limit c.args.order.now) c.args.top_min c.args.self.now)
placed c =
    let pushed = c.push_rested-slot.ensures in
    let new = came c.self.invariant.0 c.self.view_is c.enter_level-queue.result (as_limit c.args.order.now) c.enter_level-queue.new.levels c.enter_level-queue.ensures c.rules.ensures c.requires.room c.requires.fit
    c.push_rested-slot.new.self c.insert.new.self c.set_sums.new.self c.place_top.new.tops.items c.push_rested-slot.result c.args.top_min c.first_shown-shown.result c.from.result c.from-2.result c.row-row.result c.is_new_best-best.result c.makes_top.result
    (record {
      first = c.first_shown-shown.ensures;
      queues = pushed.queues;
      fresh = pushed.fresh;
      live = pushed.live;
      row = c.row-row.ensures;
      shown_is = c.from.ensures;
      leaves_is = c.from-2.ensures;
      rows = c.set_sums.ensures;
      given = c.insert.ensures;
      best_is = c.is_new_best-best.ensures;
      enough_is = c.makes_top.ensures;
      long = c.place_top.ensures.length;
      top = c.place_top.ensures.tops;
    }) c.requires.unnamed in
    (new.fresh, new.now)

pub invariant_of-self : goal.invariant_of-self
invariant_of-self c =
    let low = queue-below c.self.invariant.0 c.self.view_is c.enter_level-queue.result (as_limit c.args.order.now) c.enter_level-queue.new.levels c.enter_level-queue.ensures c.rules.ensures c.requires.room c.requires.fit in
    ((placed (goal.at.invariant_of-self c).After-place_top).1.linked, c.place_top.ensures.room ∙ c.self.invariant.1, stand-placed c.self.invariant.2 c.enter_level-queue.result _ low c.push_rested-slot.ensures.queues)

pub returns : goal.returns
returns c =
    let new = placed (goal.at.returns c).After-place_top in
    record { fresh = new.0; placed = new.1.view }
