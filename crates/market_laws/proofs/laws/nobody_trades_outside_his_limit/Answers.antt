use Rattle.plain_book.proofs.Pairs.{all-with}
use Rattle.order_kinds.specs.Histories.{events_kept}
use Rattle.market_laws.specs.Trades.{IsWithinLimits, KeepsLimit}
use Rattle.market_laws.proofs.Reports.{KeepsRules}
use Rattle.market_laws.proofs.Messages.{reports-right}
use Rattle.market_laws.proofs.Lifted.{of-each, protected}
use Rattle.market_laws.proofs.laws.nobody_trades_outside_his_limit.Goals as goal

pub returns-clause-limit : goal.returns-clause-limit
returns-clause-limit c = of-each IsWithinLimits (λ t h. h.limit)

pub returns-clause-reports : goal.returns-clause-reports
returns-clause-reports c = λ history right is. all-with KeepsRules KeepsLimit (λ event h. h.0) (events_kept history) (reports-right history right is)

pub returns-clause-market : goal.returns-clause-market
returns-clause-market c = protected
