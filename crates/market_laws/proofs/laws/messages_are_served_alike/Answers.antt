use Rattle.market_laws.proofs.FirmsMessages.{new-orders-served}
use Rattle.market_laws.proofs.FirmsChanges.{cancels-served, replaces-served}
use Rattle.market_laws.proofs.FirmsClosing.{sessions-served}
use Rattle.market_laws.proofs.laws.messages_are_served_alike.Goals as goal

pub returns : goal.returns
returns c = record { new = new-orders-served; cancel = cancels-served; replace = replaces-served; session = sessions-served }
