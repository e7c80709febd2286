use Rattle.std.proofs.Common.{◌≡◌, ℕ, List, length, set, vec_len, vec_capacity, sym, ap, subst, ◌∙◌, arith}
use Rattle.price_chunks.specs.declared.place.Step.{Step}
use Rattle.price_chunks.specs.Steps.{SideLists, list_at, with_step}
use Rattle.price_level.specs.declared.levels.Levels.TheInside.{Inside}
use Rattle.price_level.specs.declared.row.LevelRow.{LevelRow}
use Rattle.price_level.specs.Inner.Table.{rows_held, Takes}
use Rattle.price_level.specs.Inner.Kept.{rows_seen, IsKept}
use Rattle.price_level.proofs.Seen.{ordered, not_full}
use Rattle.price_level.proofs.Table.{held-count}
use Rattle.price_level.proofs.Added.{IsAdded, is_added, is_below, is_within, kept_added}
use Rattle.price_level.proofs.levels.Levels.add_level.Goals as goal

taken : (l : Inside) (len q : ℕ) (left : List ℕ) → len ≡ vec_len l.held → Takes len l.free.items left q → Takes (length (rows_held l.held.items)) l.free.items left q
taken l len q left is takes = subst (λ (n : ℕ). Takes n l.free.items left q) (is ∙ l.held.ok.0 ∙ sym (held-count l.held.items)) takes

pub put-spot-requires-clause-ordered : goal.put-spot-requires-clause-ordered
put-spot-requires-clause-ordered c =
    ordered c.self.invariant.0 c.args.self.now c.self.view_is c.args.instrument c.args.side c.requires.listed (list_at c.self.inside.sides.lists c.side_number.result) (ap (list_at c.self.inside.sides.lists) c.side_number.ensures)

pub put-spot-requires-clause-room : goal.put-spot-requires-clause-room
put-spot-requires-clause-room c = not_full c.self.invariant.0 c.args.self.now c.self.view_is c.requires.room

pub hold-requires-clause-used : goal.hold-requires-clause-used
hold-requires-clause-used c =
    let l = c.self.inside in
    let q = c.take_queue-queue.result in
    let left = c.take_queue-queue.new.free.items in
    let at = is_within c.self.invariant.0 c.args.self.now c.self.view_is c.args.instrument c.args.side c.args.price q left c.requires.listed c.requires.absent c.requires.room (taken l c.len.result q left c.len.ensures c.take_queue-queue.ensures.takes) in
    omega (arith, at, held-count l.held.items, l.held.ok.0)

pub hold-requires-clause-room : goal.hold-requires-clause-room
hold-requires-clause-room c =
    let l = c.self.inside in
    let q = c.take_queue-queue.result in
    let left = c.take_queue-queue.new.free.items in
    let at = is_below c.self.invariant.0 c.args.self.now c.self.view_is c.args.instrument c.args.side c.args.price q left c.requires.listed c.requires.absent c.requires.room (taken l c.len.result q left c.len.ensures c.take_queue-queue.ensures.takes) in
    omega (arith, at, c.self.invariant.1)

pub invariant_of-self : goal.invariant_of-self
invariant_of-self c =
    let l = c.self.inside in
    let q = c.take_queue-queue.result in
    let free = c.take_queue-queue.new.free in
    let step : Step = record { price = c.args.price; leaves = 0; queue = q } in
    let put = c.put-spot.ensures ∙ ap (λ (n : ℕ). record l.sides { lists = set l.sides.lists n (with_step c.args.side step (list_at l.sides.lists n)) }) c.side_number.ensures in (
      subst (λ (p : List LevelRow × SideLists). IsKept l.capacity l.instruments p.0 p.1.lists p.1.capacity free.items (vec_capacity free)) (λ i. (sym c.hold.ensures.rows i, sym put i))
          (kept_added c.self.invariant.0 c.args.self.now c.self.view_is c.args.instrument c.args.side c.args.price q free.items c.requires.listed c.requires.absent c.requires.room (taken l c.len.result q free.items c.len.ensures c.take_queue-queue.ensures.takes)
          (vec_capacity free) (c.take_queue-queue.ensures.capacity ∙ c.self.invariant.0.free_room)),
      c.hold.ensures.capacity ∙ c.self.invariant.1,
    )

pub returns : goal.returns
returns c =
    let l = c.self.inside in
    let q = c.take_queue-queue.result in
    let free = c.take_queue-queue.new.free in
    let step : Step = record { price = c.args.price; leaves = 0; queue = q } in
    let put = c.put-spot.ensures ∙ ap (λ (n : ℕ). record l.sides { lists = set l.sides.lists n (with_step c.args.side step (list_at l.sides.lists n)) }) c.side_number.ensures in
    let takes = taken l c.len.result q free.items c.len.ensures c.take_queue-queue.ensures.takes in
    let a = subst (λ (p : List LevelRow × SideLists). IsAdded c.self.invariant.0 c.args.self.now c.self.view_is c.args.instrument c.args.side c.args.price q free.items c.requires.listed c.requires.absent c.requires.room takes (rows_seen l.capacity l.instruments p.0 p.1.lists)) (λ i. (sym c.hold.ensures.rows i, sym put i))
    (is_added c.self.invariant.0 c.args.self.now c.self.view_is c.args.instrument c.args.side c.args.price q free.items c.requires.listed c.requires.absent c.requires.room takes) in
    record { fresh = a.fresh; below = a.below; placed = a.placed; rest = a.rest; has = a.has; row = a.row; count = a.count }
