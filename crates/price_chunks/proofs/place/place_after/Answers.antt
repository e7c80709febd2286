use Rattle.std.proofs.Common.{◌<◌, ◌≡◌, false, length, sym, arith}
use Rattle.price_chunks.proofs.Better.{better_after, better_from}
use Rattle.price_chunks.proofs.place.place_after.Goals as goal
use Rattle.price_chunks.proofs.place.place_after.Goals.{else-place-steps-via-then-place-steps+else-is_same_price, else-place-steps-via-else-place-steps}
use Rattle.price_chunks.specs.Steps.{step_at, is_step_at}

pub returns-then-is_same_price : goal.returns-then-is_same_price
returns-then-is_same_price c = better_after c.args.side c.args.price c.args.steps.now c.place_of-place.result c.requires c.place_of-place.ensures c.if-place-steps.true (sym c.if-is_same_price.ensures)

pub returns : goal.returns
returns c =
    let no : c.place_of-place.result < length c.args.steps.now → is_step_at c.args.price (step_at c.args.steps.now c.place_of-place.result) ≡ false = λ lt. elim c.else-place-steps.branch [
      | else-place-steps-via-then-place-steps+else-is_same_price w ↦ sym w.if-is_same_price.ensures
      | else-place-steps-via-else-place-steps w ↦ absurd (omega arith)
    ] in
    better_from c.args.side c.args.price c.args.steps.now c.place_of-place.result c.requires c.place_of-place.ensures no
