use Rattle.order_pool.proofs.pool.Pool.push_back.Goals as goal

pub returns-clause-fresh : goal.returns-clause-fresh
returns-clause-fresh c = c.push.ensures.fresh

pub returns-clause-queues : goal.returns-clause-queues
returns-clause-queues c = c.push.ensures.queues

pub returns-clause-placed : goal.returns-clause-placed
returns-clause-placed c = c.push.ensures.placed
