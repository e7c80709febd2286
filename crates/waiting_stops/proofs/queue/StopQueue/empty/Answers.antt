use Rattle.std.proofs.Common.{◌≡◌, ◌-◌, ◌<◌, ℕ, List, length, Option, Some, None, sym, ap, subst, ◌∙◌, arith}
use Rattle.std.specs.Vec.{with_item}
use Rattle.std.proofs.lemmas.List.{length-map}
use Rattle.waiting_stops.specs.declared.place.Place.{Place}
use Rattle.waiting_stops.specs.declared.queue.StopQueue.{StopQueue}
use Rattle.waiting_stops.specs.declared.queue.Wait.{Wait}
use Rattle.waiting_stops.specs.Inner.Kept.{wait_at, stops_at, waits_in, place_at, AreBlocks, IsBoundOf, IsQueue}
use Rattle.waiting_stops.proofs.Places.{stop-is, stops-freed, none-at, one-less}
use Rattle.waiting_stops.proofs.Blocks.{blocks-emptied, bound-emptied}
use Rattle.waiting_stops.proofs.queue.StopQueue.empty.Goals as goal

-- a queue that a stop has left, before its bounds are made anew
less : (q : StopQueue) (place : ℕ) (w : Wait) (p : Place) → IsQueue q → place < length (stops_at q.places.items) → place_at (stops_at q.places.items) place ≡ Some w → wait_at p ≡ None
    → IsQueue (record { places = with_item q.places place p; blocks = q.blocks; whole = q.whole; waiting = q.waiting - 1 })
less q place w p h lt is e =
    let ps = stops_at q.places.items in
    let freed = sym (stops-freed q.places.items place p e) in
    let n = one-less ps place w lt is in
    let m = ap {B = ℕ} (λ (l : List (Option Wait)). length (waits_in l)) freed in
    let count = h.count in
    record {
      blocks = subst (AreBlocks q.blocks.items) freed (blocks-emptied q.blocks.items ps place h.blocks);
      whole = subst (IsBoundOf q.whole) freed (bound-emptied q.whole ps place h.whole);
      count = omega arith;
      roomy = h.roomy;
      blocks_roomy = h.blocks_roomy;
    }

pub overflow_sub-self : goal.overflow_sub-self
overflow_sub-self c =
    let ps = c.args.self.now.places in
    let n = length-map ps.items wait_at in
    let lt : c.args.place < length ps.items = omega (arith, ps.ok.0, c.requires.within) in
    let is = stop-is ps.items c.args.place c.index.result.now lt c.index.ensures ∙ sym c.wait.ensures ∙ c.in-Some.is in
    omega (arith, one-less (stops_at ps.items) c.args.place c.in-Some.wait (omega arith) is, c.requires.queue.count)

pub clear-requires-clause-queue : goal.clear-requires-clause-queue
clear-requires-clause-queue c =
    let ps = c.args.self.now.places in
    let n = length-map ps.items wait_at in
    let lt : c.args.place < length ps.items = omega (arith, ps.ok.0, c.requires.within) in
    let is = stop-is ps.items c.args.place c.index.result.now lt c.index.ensures ∙ sym c.wait.ensures ∙ c.in-Some.is in
    less c.args.self.now c.args.place c.in-Some.wait c.free.result c.requires.queue (omega arith) is c.free.ensures

pub narrow-requires-clause-queue : goal.narrow-requires-clause-queue
narrow-requires-clause-queue c =
    let ps = c.args.self.now.places in
    let n = length-map ps.items wait_at in
    let lt : c.args.place < length ps.items = omega (arith, ps.ok.0, c.requires.within) in
    let is = stop-is ps.items c.args.place c.index.result.now lt c.index.ensures ∙ sym c.wait.ensures ∙ c.in-Some.is in
    less c.args.self.now c.args.place c.in-Some.wait c.free.result c.requires.queue (omega arith) is c.free.ensures

pub returns-in_default-clause-waits : goal.returns-in_default-clause-waits
returns-in_default-clause-waits c =
    let ps = c.args.self.now.places in
    let lt : c.args.place < length ps.items = omega (arith, ps.ok.0, c.requires.within) in
    let is = stop-is ps.items c.args.place c.index.result.now lt c.index.ensures ∙ sym c.wait.ensures ∙ c.in_default.is in
    sym (none-at (stops_at ps.items) c.args.place is)

pub returns-then-self-eq0-clause-waits : goal.returns-then-self-eq0-clause-waits
returns-then-self-eq0-clause-waits c = c.clear.ensures.waits ∙ ap waits_in (stops-freed c.args.self.now.places.items c.args.place c.free.result c.free.ensures)

pub returns-else-self-eq0-clause-waits : goal.returns-else-self-eq0-clause-waits
returns-else-self-eq0-clause-waits c = c.narrow.ensures.waits ∙ ap waits_in (stops-freed c.args.self.now.places.items c.args.place c.free.result c.free.ensures)
