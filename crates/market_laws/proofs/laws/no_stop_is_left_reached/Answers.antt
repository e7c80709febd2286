use Rattle.market_laws.specs.Trades.{IsNoStop}
use Rattle.market_laws.proofs.Lifted.{of-each}
use Rattle.market_laws.proofs.Lasting.{leaves-none-reached, no-stop-reached}
use Rattle.market_laws.proofs.laws.no_stop_is_left_reached.Goals as goal

pub returns-clause-trades : goal.returns-clause-trades
returns-clause-trades c = of-each IsNoStop (λ t h. h.kinds)

pub returns-clause-fills : goal.returns-clause-fills
returns-clause-fills c = leaves-none-reached

pub returns-clause-waits : goal.returns-clause-waits
returns-clause-waits c = no-stop-reached
