use Rattle.std.proofs.Common.{ap}
use Rattle.std.specs.Vec.{with_item}
use Rattle.order_pool.specs.declared.node.Node.{Node}
use Rattle.order_pool.proofs.Nodes.{node_read}
use Rattle.order_pool.proofs.node.relink.Goals as goal

pub returns : goal.returns
returns c =
    let a = c.args in
    let v = a.nodes.now in
    ap (λ (n : Node). with_item v a.slot (record n { prev = a.prev; next = a.next; queue = a.queue })) (node_read v a.slot c.index_mut-node.result.now c.requires c.index_mut-node.ensures.value)
