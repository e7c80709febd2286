-- The counters of a core: at the start, when a message is counted, and after it is applied.
use Rattle.std.proofs.Common.{◌≡◌, sym, subst, arith}
use Rattle.gx_base.specs.declared.limits.TheConstants.{ADDRESSEES}
use Rattle.gx_base.specs.declared.order.Desk.{Desk}
use Rattle.plain_book.proofs.Found.{all-zero}
use Rattle.order_kinds.specs.State.{empty_desk}
use Rattle.order_kinds.specs.Cores.{AreCounters}

-- counters that have counted nothing
pub counters-empty : (desk : Desk) → desk ≡ empty_desk → AreCounters desk
counters-empty desk is = subst AreCounters (sym is) (record {
  orders = omega arith;
  messages = omega arith;
  counts = record { trades = omega arith; reports = omega arith; lines = λ place. omega (arith, all-zero ADDRESSEES place) };
})
