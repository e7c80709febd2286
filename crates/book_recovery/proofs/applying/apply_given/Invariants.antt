use Rattle.std.proofs.Common.{◌≡◌, ◌+◌, take}
use Rattle.gx_base.specs.Emits.{Emits}
use Rattle.order_kinds.specs.State.{state_numbered}
use Rattle.order_kinds.specs.Step.{state_after, events_from}
use Rattle.order_kinds.specs.Cores.{FitsProduct, AreNumbered, PutsEvents}
use Rattle.book_recovery.specs.Passed.{ArePassed}
use Rattle.book_recovery.proofs.applying.apply_given.Given as goal

abbrev pub invariant-loop-number : goal.invariant-loop-number
invariant-loop-number g l = record {
  count : l.core.desk.messages ≡ l.fn.core.desk.messages + l.number;
  fits : FitsProduct l.product l.core;
  puts : PutsEvents g.E.Emit.meanings l.fn.out l.out;
  silent : ArePassed l.product (take l.number l.framer.given) → l.out ≡ l.fn.out;
  numbered : AreNumbered l.fn.core → AreNumbered l.core;
  state : AreNumbered l.fn.core → state_numbered l.core ≡ state_after l.product (state_numbered l.fn.core) (take l.number l.framer.given);
  emits : AreNumbered l.fn.core → Emits g.E.Emit.meanings l.fn.out l.out (events_from l.product (state_numbered l.fn.core) (take l.number l.framer.given));
}
