use Rattle.market_laws.specs.Trades.{IsFirst}
use Rattle.market_laws.proofs.Lifted.{of-each}
use Rattle.market_laws.proofs.Lasting.{line-kept}
use Rattle.market_laws.proofs.laws.the_first_in_line_trades_first.Goals as goal

pub returns-clause-trades : goal.returns-clause-trades
returns-clause-trades c = of-each IsFirst (λ t h. h.first)

pub returns-clause-line : goal.returns-clause-line
returns-clause-line c = line-kept
