use Rattle.std.proofs.Common.{◌≡◌, ◌+◌, ◌-◌, ◌/◌, true, false, sym, arith}
use Rattle.price_chunks.proofs.Steps.{place_up, place_down}
use Rattle.price_chunks.proofs.place.place_by_halves.Goals as goal
use Rattle.price_chunks.specs.Steps.{step_at, is_worse_step}

pub loop-low-preserved-then-is_better_price : goal.loop-low-preserved-then-is_better_price
loop-low-preserved-then-is_better_price c =
    let v = c.loop-low.invariant in
    let n = c.loop-low.low + (c.loop-low.high - c.loop-low.low) / 2 in
    let h : is_worse_step c.args.side c.args.price (step_at c.args.steps.now n) ≡ true = sym c.if-is_better_price.ensures in
    record { apart = omega arith; within = v.within; worse = place_up c.args.side c.args.price c.args.steps.now n c.requires (omega arith) h; rest = v.rest }

pub loop-low-preserved : goal.loop-low-preserved
loop-low-preserved c =
    let v = c.loop-low.invariant in
    let n = c.loop-low.low + (c.loop-low.high - c.loop-low.low) / 2 in
    let h : is_worse_step c.args.side c.args.price (step_at c.args.steps.now n) ≡ false = sym c.if-is_better_price.ensures in
    record { apart = omega arith; within = omega arith; worse = v.worse; rest = place_down c.args.side c.args.price c.args.steps.now n c.requires h }
