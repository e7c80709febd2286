use Rattle.std.proofs.Common.{ap}
use Rattle.std.specs.Vec.{with_item}
use Rattle.order_pool.specs.declared.node.Ends.{Ends}
use Rattle.order_pool.proofs.Nodes.{ends_read}
use Rattle.order_pool.proofs.node.set_last.Goals as goal

pub returns : goal.returns
returns c =
    let a = c.args in
    let u = a.ends.now in
    ap (λ (e : Ends). with_item u a.queue (record e { last = a.last })) (ends_read u a.queue c.index_mut.result.now c.requires c.index_mut.ensures.value)
