use Rattle.market_laws.specs.Trades.{IsAtBest}
use Rattle.market_laws.proofs.Lifted.{of-each}
use Rattle.market_laws.proofs.laws.nobody_is_traded_through.Goals as goal

pub returns : goal.returns
returns c = of-each IsAtBest (λ t h. h.best)
