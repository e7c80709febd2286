use Rattle.order_pool.proofs.Nodes.{when-same, when-other, leads-in, first-stored, next-stored}
use Rattle.order_pool.proofs.node.set_next.Goals as goal

pub returns-then-is_same-clause-ends : goal.returns-then-is_same-clause-ends
returns-then-is_same-clause-ends c =
    let a = c.args in
    first-stored a.nodes.now a.ends.now a.past a.at a.next a.queue c.index_mut.result.now c.requires.past (when-same c.is_same.result a.at a.past c.if-is_same.true c.is_same.ensures) c.requires.queue_in c.index_mut.ensures.value

pub returns-else-is_same-clause-nodes : goal.returns-else-is_same-clause-nodes
returns-else-is_same-clause-nodes c =
    let a = c.args in
    let v = a.nodes.now in
    next-stored v a.ends.now a.at a.next c.follow_mut.result.now (leads-in v.ptr v.cap a.past c.requires.past v.len a.at c.requires.link (when-other c.is_same.result a.at a.past c.if-is_same.false c.is_same.ensures)) c.follow_mut.ensures.value
