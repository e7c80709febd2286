use Rattle.std.proofs.Common.{◌+◌, ◌<◌, ◌^◌, [], sym, ap, subst, ◌∙◌, arith}
use Rattle.order_pool.specs.Inner.Block.{Cells}
use Rattle.order_pool.specs.Inner.Rings.{IsPool, queues_in}
use Rattle.order_pool.proofs.Starts.{IsPool-new, view-new}
use Rattle.order_pool.proofs.pool.Pool.new.Goals as goal

pub invariant_of-result : goal.invariant_of-result
invariant_of-result c =
    let fits : c.args.nodes + c.args.queues < 2 ^ 32 = omega (arith, c.if-nodes.false, c.if-queues.false) in
    ([], subst (λ (b : Cells). IsPool b []) (sym c.in_ok-new.ensures) (IsPool-new c.args.nodes c.args.queues fits))

pub returns : goal.returns
returns c = ap queues_in c.in_ok-new.ensures ∙ view-new c.args.nodes c.args.queues
