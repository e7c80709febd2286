use Rattle.gx_base.proofs.ShortPrices.{IsRun}
use Rattle.gx_base.proofs.short_price.read_run.Given as goal

abbrev pub invariant-loop-k : goal.invariant-loop-k
invariant-loop-k l = IsRun l.front l.text l.k l.number
