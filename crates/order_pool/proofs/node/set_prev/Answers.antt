use Rattle.order_pool.proofs.Nodes.{when-same, when-other, leads-in, last-stored, prev-stored}
use Rattle.order_pool.proofs.node.set_prev.Goals as goal

pub returns-then-is_same-clause-ends : goal.returns-then-is_same-clause-ends
returns-then-is_same-clause-ends c =
    let a = c.args in
    last-stored a.nodes.now a.ends.now a.past a.at a.prev a.queue c.index_mut.result.now c.requires.past (when-same c.is_same.result a.at a.past c.if-is_same.true c.is_same.ensures) c.requires.queue_in c.index_mut.ensures.value

pub returns-else-is_same-clause-nodes : goal.returns-else-is_same-clause-nodes
returns-else-is_same-clause-nodes c =
    let a = c.args in
    let v = a.nodes.now in
    prev-stored v a.ends.now a.at a.prev c.follow_mut.result.now (leads-in v.ptr v.cap a.past c.requires.past v.len a.at c.requires.link (when-other c.is_same.result a.at a.past c.if-is_same.false c.is_same.ensures)) c.follow_mut.ensures.value
