use Rattle.std.proofs.Common.{vec_capacity, List, subst, sym, ap, ◌∙◌}
use Rattle.price_chunks.specs.declared.place.Step.{Step}
use Rattle.price_chunks.proofs.Enough.{fresh, seen_none}
use Rattle.price_chunks.proofs.Prices.{fresh_best}
use Rattle.price_chunks.proofs.sides.Sides.new.Goals as goal
use Rattle.price_chunks.specs.Inner.Pool.{SideChunks, IsKept, AreBest, lists_of}

pub invariant_of-result : goal.invariant_of-result
invariant_of-result c =
    let best = c.in_ok-no_prices.field-0 in
    subst (λ (p : SideChunks). IsKept c.args.capacity p × AreBest p best.items (vec_capacity best)) (sym c.in_ok-new.ensures) (
      fresh c.args.capacity c.args.count c.pool_size.result c.pool_size.ensures,
      fresh_best c.args.count c.pool_size.result best.items (vec_capacity best) c.in_ok-no_prices.ensures.items c.in_ok-no_prices.ensures.room,
    )

pub returns : goal.returns
returns c =
    ap (λ (p : SideChunks). record { capacity = c.args.capacity; lists = lists_of p.sides }) c.in_ok-new.ensures
    ∙ ap (λ (l : List (List Step)). record { capacity = c.args.capacity; lists = l }) (seen_none c.args.count)
