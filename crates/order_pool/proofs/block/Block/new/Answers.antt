use Rattle.std.proofs.Common.{◌*◌, ◌<◌, ◌^◌, ℕ, ◌∙◌, subst}
use Rattle.order_pool.specs.Inner.Block.{node_size, cells_with}
use Rattle.order_pool.proofs.Cells.{fresh, IsBlock-new}
use Rattle.order_pool.proofs.block.Block.new.Goals as goal

pub returns : goal.returns
returns c =
    let a = c.args in
    let v = c.in_ok-nodes.nodes in
    let p = c.pointer_to-past.ensures in
    (λ j. cells_with a.slots a.queues v.ptr c.pointer_to-past.result 0 (c.in_ok-nodes.ensures.items j) (c.in_ok-with_capacity.ensures.items j))
    ∙ fresh a.slots a.queues v.ptr c.pointer_to-past.result (record { in_block = p.in_block; is = p.value; small = subst (λ (n : ℕ). n * node_size < 2 ^ 63) c.in_ok-nodes.ensures.exact p.small })

pub invariant_of-result : goal.invariant_of-result
invariant_of-result c =
    let a = c.args in
    let v = c.in_ok-nodes.nodes in
    let p = c.pointer_to-past.ensures in
    IsBlock-new a.slots a.queues c.pointer_to-past.result v c.in_ok-with_capacity.field-0 c.requires.slots c.requires.queues c.in_ok-nodes.ensures.exact c.in_ok-with_capacity.ensures.exact
    (record { in_block = p.in_block; is = p.value; small = subst (λ (n : ℕ). n * node_size < 2 ^ 63) c.in_ok-nodes.ensures.exact p.small }) c.in_ok-nodes.ensures.items c.in_ok-with_capacity.ensures.items
