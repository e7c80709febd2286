use Rattle.gx_base.proofs.Capped.{IsReadTo}
use Rattle.gx_base.proofs.digits.read_if_digits.Given as goal

abbrev pub invariant-loop-c : goal.invariant-loop-c
invariant-loop-c l = IsReadTo l.front l.text l.c-index l.number
