use Rattle.std.proofs.Common.{ℕ, sym, ap, subst, ◌∙◌, option_map, arith}
use Rattle.plain_book.specs.declared.entry.Entry.{Entry}
use Rattle.plain_book.specs.Book.{slot_number}
use Rattle.plain_book.specs.Matches.{match_at}
use Rattle.order_kinds.specs.declared.trades.Trades.{Trades}
use Rattle.order_kinds.specs.Stops.{first_reached}
use Rattle.order_kinds.proofs.FirstReached.{IsFirstReached, found-some, found-none, found-waits}
use Rattle.order_kinds.proofs.Triggering.{HasTriggered, triggered-none, triggered-more, triggered-all, triggered-rose, triggered-room, fewer-wait}
use Rattle.order_kinds.proofs.stops.enter_with_stops.Given.{Over}
use Rattle.order_kinds.proofs.stops.enter_with_stops.Goals as goal
use Rattle.order_kinds.proofs.stops.enter_with_stops.Goals.{After-of-trades, In-Some, After-add}

-- the order was entered
first : (g : Over) (c : After-of-trades g) → let before = match_at (g.B.Book.book c.args.book.now) c.args.desk.now c.args.taker.now c.args.out.now in
    let now = match_at (g.B.Book.book c.enter.new.book) c.enter.new.desk c.enter.new.taker c.enter.new.out in
    HasTriggered g.E.Emit.meanings c.args.steps.now before c.of-trades.result.range c.of-trades.result.last now
first g c =
    let m = g.E.Emit.meanings in
    let before = match_at (g.B.Book.book c.args.book.now) c.args.desk.now c.args.taker.now c.args.out.now in
    let now = match_at (g.B.Book.book c.enter.new.book) c.enter.new.desk c.enter.new.taker c.enter.new.out in
    subst (λ (t : Trades). HasTriggered m c.args.steps.now before t.range t.last now) (sym c.of-trades.ensures)
    (triggered-none m c.args.steps.now before now c.rules.ensures c.rules-2.ensures c.list.ensures.right c.requires.no_range c.enter.ensures.takes c.enter.ensures.rose)

pub loop-slot-init : goal.loop-slot-init
loop-slot-init g c =
    let has = first g (goal.at.loop-slot-init g c).After-of-trades in
    record { has = has; right = c.rules-2.ensures; same = has.same_instrument }

pub next_stop-requires : goal.next_stop-requires
next_stop-requires g c = omega (arith, c.loop-slot.invariant.has.listed, c.loop-slot.invariant.same, c.requires.can.listed)

-- the stop that is triggered
found : (g : Over) (c : In-Some g) → IsFirstReached c.args.taker.now.order.instrument c.loop-slot.trades.range (g.B.Book.book c.loop-slot.book).waiting c.in-Some.slot.0
found g c =
    let l = c.loop-slot in
    let waiting = (g.B.Book.book l.book).waiting in
    found-some c.args.taker.now.order.instrument l.trades.range waiting c.in-Some.slot.0
    (sym (ap (option_map slot_number) c.in-Some.is) ∙ c.next_stop.ensures ∙ ap (λ (n : ℕ). option_map (λ (e : Entry). e.slot) (first_reached n l.trades.range waiting)) l.invariant.same)

pub trigger-requires-clause-waits : goal.trigger-requires-clause-waits
trigger-requires-clause-waits g c =
    let l = c.loop-slot in
    found-waits c.args.taker.now.order.instrument l.trades.range (g.B.Book.book l.book) l.invariant.right c.in-Some.slot.0 (found g (goal.at.trigger-requires-clause-waits g c).In-Some)

pub trigger-requires-clause-room : goal.trigger-requires-clause-room
trigger-requires-clause-room g c =
    let before = match_at (g.B.Book.book c.args.book.now) c.args.desk.now c.args.taker.now c.args.out.now in
    let l = c.loop-slot in
    let now = match_at (g.B.Book.book l.book) l.desk l.taker l.out in
    triggered-room g.E.Emit.meanings c.args.steps.now before l.trades.range l.trades.last now l.invariant.has c.requires.can c.requires.room

-- a stop fewer waits
pub loop-slot-smaller : goal.loop-slot-smaller
loop-slot-smaller g c =
    let before = match_at (g.B.Book.book c.args.book.now) c.args.desk.now c.args.taker.now c.args.out.now in
    let l = c.loop-slot in
    let now = match_at (g.B.Book.book l.book) l.desk l.taker l.out in
    let after = match_at (g.B.Book.book c.trigger.new.book) c.trigger.new.desk c.trigger.new.taker c.trigger.new.out in
    omega (
      arith,
      fewer-wait g.E.Emit.meanings c.args.steps.now before l.trades.range l.trades.last now l.invariant.has l.invariant.right c.in-Some.slot.0
          (found g (goal.at.loop-slot-smaller g c).In-Some) after c.trigger.ensures.takes,
    )

-- it was triggered, and its trades were added
pub loop-slot-preserved : goal.loop-slot-preserved
loop-slot-preserved g c =
    let before = match_at (g.B.Book.book c.args.book.now) c.args.desk.now c.args.taker.now c.args.out.now in
    let l = c.loop-slot in
    let now = match_at (g.B.Book.book l.book) l.desk l.taker l.out in
    let after = match_at (g.B.Book.book c.trigger.new.book) c.trigger.new.desk c.trigger.new.taker c.trigger.new.out in
    record {
      has = triggered-more g.E.Emit.meanings c.args.steps.now before l.trades.range l.trades.last now l.invariant.has l.invariant.right c.in-Some.slot.0
          (found g (goal.at.loop-slot-preserved g c).In-Some) after c.trigger.ensures.takes c.rules-in-Some.ensures c.list.ensures.right c.trigger.ensures.rose
          c.add.new.self.range c.add.new.self.last c.add.ensures.range c.add.ensures.last;
      right = c.rules-in-Some.ensures;
      same = l.invariant.same;
    }

pub returns-clause-comes : goal.returns-clause-comes
returns-clause-comes g c =
    let before = match_at (g.B.Book.book c.args.book.now) c.args.desk.now c.args.taker.now c.args.out.now in
    let l = c.loop-slot in
    let now = match_at (g.B.Book.book l.book) l.desk l.taker l.out in
    let i = c.args.taker.now.order.instrument in
    triggered-all g.E.Emit.meanings c.args.steps.now before l.trades.range l.trades.last now l.invariant.has
    (found-none i l.trades.range now.book.waiting
    (sym (ap (option_map slot_number) c.in_default.is) ∙ c.next_stop.ensures ∙ ap (λ (n : ℕ). option_map (λ (e : Entry). e.slot) (first_reached n l.trades.range now.book.waiting)) l.invariant.same))

pub returns-clause-rose : goal.returns-clause-rose
returns-clause-rose g c =
    let before = match_at (g.B.Book.book c.args.book.now) c.args.desk.now c.args.taker.now c.args.out.now in
    let l = c.loop-slot in
    triggered-rose g.E.Emit.meanings c.args.steps.now before l.trades.range l.trades.last (match_at (g.B.Book.book l.book) l.desk l.taker l.out) l.invariant.has
