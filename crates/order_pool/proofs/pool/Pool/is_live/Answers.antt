use Rattle.std.proofs.Common.{ℕ, sym, subst, arith, nat_lt}
use Rattle.std.specs.Prelude.{IsTrue}
use Rattle.order_pool.specs.Queues.{IsLive}
use Rattle.order_pool.proofs.Shown.{is_live_tested, not_lent}
use Rattle.order_pool.proofs.pool.Pool.is_live.Goals as goal

pub returns-then-slot-lent : goal.returns-then-slot-lent
returns-then-slot-lent c =
    let b = c.self.inside.block in
    let now = c.args.self.now in
    let i = c.args.slot.0 in
    subst (λ (n : ℕ). (IsTrue (nat_lt c.queue.result n) → IsLive now i) × (IsLive now i → IsTrue (nat_lt c.queue.result n))) (sym c.queues.ensures)
    (is_live_tested b.cells b.slots b.queues _ c.self.invariant.1.whole now c.self.view_is i c.queue.result c.queue.ensures (omega (arith, c.lent.ensures, c.if-slot-lent.true)))

pub returns-else-slot-lent : goal.returns-else-slot-lent
returns-else-slot-lent c =
    let b = c.self.inside.block in
    let i = c.args.slot.0 in
    let now = c.args.self.now in
    subst (λ (n : ℕ). (IsTrue (nat_lt i n) → IsLive now i) × (IsLive now i → IsTrue (nat_lt i n))) (sym c.lent.ensures)
    (not_lent b.cells b.slots b.queues _ c.self.invariant.1.whole now c.self.view_is i (omega (arith, c.lent.ensures, c.if-slot-lent.false)))
