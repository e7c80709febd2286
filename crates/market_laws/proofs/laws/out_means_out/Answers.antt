use Rattle.market_laws.proofs.Lasting.{closed-out, never-again}
use Rattle.market_laws.proofs.laws.out_means_out.Goals as goal

pub returns-clause-closed : goal.returns-clause-closed
returns-clause-closed c = closed-out

pub returns-clause-never : goal.returns-clause-never
returns-clause-never c = never-again
