use Rattle.std.proofs.Common.{ℕ, ap, refl, arith}
use Rattle.order_pool.specs.Inner.Block.{Cells}
use Rattle.order_pool.proofs.Cells.{lent-is, IsBlock-lent}
use Rattle.order_pool.proofs.block.Block.lend.Goals as goal

pub invariant_of-self : goal.invariant_of-self
invariant_of-self c =
    let b = c.self.inside in
    let e = ap {B = ℕ} (λ (x : Cells). x.lent) c.self.view_is in
    let s = ap {B = ℕ} (λ (x : Cells). x.slots) c.self.view_is in
    let w = c.push_reserved.new.self in
    IsBlock-lent b.slots b.queues b.past b.free b.freed b.nodes b.ends c.self.invariant c.self.view_is w _ c.push_reserved.ensures.items c.push_reserved.ensures.in_place (omega (arith, c.requires)) c.push_reserved.ensures.capacity (omega (arith, c.lent-slot.ensures, e)) refl refl

pub returns-clause-block : goal.returns-clause-block
returns-clause-block c =
    let b = c.self.inside in
    let e = ap {B = ℕ} (λ (x : Cells). x.lent) c.self.view_is in
    let s = ap {B = ℕ} (λ (x : Cells). x.slots) c.self.view_is in
    lent-is b.slots b.queues b.past b.free b.freed b.nodes b.ends c.self.invariant c.self.view_is c.push_reserved.new.self _ c.push_reserved.ensures.items c.push_reserved.ensures.in_place (omega (arith, c.requires)) refl refl refl
