use Rattle.std.proofs.Common.{vec_capacity, ap}
use Rattle.price_chunks.specs.Steps.{SideLists}
use Rattle.price_level.specs.Inner.Table.{rows_held}
use Rattle.price_level.proofs.Kept.{kept_new, seen_new}
use Rattle.price_level.proofs.levels.Levels.new.Goals as goal

pub invariant_of-result : goal.invariant_of-result
invariant_of-result c =
    let held = c.in_ok-with_capacity.field-0 in
    let sides = c.in_ok-new.field-0 in
    let free = c.in_ok-with_capacity-2.field-0 in (
      kept_new c.args.capacity c.args.instruments (rows_held held.items) sides.lists sides.capacity free.items (vec_capacity free)
          (ap rows_held c.in_ok-with_capacity.ensures.items) (ap (λ (s : SideLists). s.lists) c.in_ok-new.ensures) (ap (λ (s : SideLists). s.capacity) c.in_ok-new.ensures) c.in_ok-with_capacity-2.ensures.items c.in_ok-with_capacity-2.ensures.exact,
      c.in_ok-with_capacity.ensures.exact,
    )

pub returns : goal.returns
returns c =
    let held = c.in_ok-with_capacity.field-0 in
    let sides = c.in_ok-new.field-0 in
    let free = c.in_ok-with_capacity-2.field-0 in
    seen_new c.args.capacity c.args.instruments (rows_held held.items) sides.lists sides.capacity free.items (vec_capacity free)
    (ap rows_held c.in_ok-with_capacity.ensures.items) (ap (λ (s : SideLists). s.lists) c.in_ok-new.ensures) (ap (λ (s : SideLists). s.capacity) c.in_ok-new.ensures) c.in_ok-with_capacity-2.ensures.items c.in_ok-with_capacity-2.ensures.exact
