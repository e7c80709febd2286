use Rattle.market_laws.specs.Trades.{IsFit}
use Rattle.market_laws.proofs.Lifted.{of-each}
use Rattle.market_laws.proofs.laws.trades_are_fit.Goals as goal

pub returns : goal.returns
returns c = of-each IsFit (λ t h. h.fit)
