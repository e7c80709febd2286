use Rattle.std.proofs.Common.{◌≡◌, ◌/◌, List, length, slice_index_or, sym, subst, arith}
use Rattle.std.proofs.lemmas.List.{length-map}
use Rattle.waiting_stops.specs.declared.bound.Bound.{Bound}
use Rattle.waiting_stops.specs.Inner.Bounds.{IsPlaceCovered}
use Rattle.waiting_stops.specs.Inner.Kept.{wait_at, stops_at, place_at, IsBoundOf}
use Rattle.waiting_stops.proofs.Blocks.{blocks-next, block-count}
use Rattle.waiting_stops.proofs.queue.fill_blocks.Goals as goal

pub loop-k-preserved : goal.loop-k-preserved
loop-k-preserved c =
    let ps = stops_at c.args.places.now in
    let n = length-map c.args.places.now wait_at in
    let bs = c.loop-k.blocks in
    let b = c.bound_of.result in
    let long : length bs.items ≡ c.loop-k.k = omega (arith, bs.ok.0, c.loop-k.invariant.count) in
    let next = subst (IsBoundOf b) c.block_of.ensures c.bound_of.ensures in
    record {
      count = omega (arith, c.push_reserved.ensures.len, c.loop-k.invariant.count);
      room = omega (arith, c.push_reserved.ensures.capacity, c.loop-k.invariant.room);
      covered = λ j d lt within. subst (λ (x : List Bound). IsPlaceCovered (slice_index_or x (j / 512) d) (place_at ps j)) (sym c.push_reserved.ensures.items) (blocks-next bs.items ps c.loop-k.k b long c.loop-k.invariant.covered next j d lt within);
    }

pub returns-clause-blocks : goal.returns-clause-blocks
returns-clause-blocks c =
    let ps = stops_at c.args.places.now in
    let n = length-map c.args.places.now wait_at in
    let long : length c.loop-k.blocks.items ≡ c.loop-k.k = omega (arith, c.loop-k.blocks.ok.0, c.loop-k.invariant.count) in
    let all = block-count (length c.args.places.now) c.div_ceil-k-end.result c.div_ceil-k-end.ensures in
    let is : c.loop-k.k ≡ c.div_ceil-k-end.result = omega (arith, c.loop-k.auto.k-end, c.loop-k-test.false) in
    record {
      enough = omega arith;
      few = omega arith;
      covered = λ k d lt. c.loop-k.invariant.covered k d (omega arith) lt;
    }
