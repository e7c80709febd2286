use Rattle.plain_book.proofs.Pairs.{all-with}
use Rattle.order_kinds.specs.Histories.{events_kept}
use Rattle.market_laws.specs.RightActs.{KeepsMinimum}
use Rattle.market_laws.proofs.Reports.{KeepsRules}
use Rattle.market_laws.proofs.Messages.{reports-right}
use Rattle.market_laws.proofs.Lasting.{resting-free}
use Rattle.market_laws.proofs.laws.minimums_are_all_or_nothing.Goals as goal

pub returns-clause-reports : goal.returns-clause-reports
returns-clause-reports c = λ history right is. all-with KeepsRules KeepsMinimum (λ event h. h.1) (events_kept history) (reports-right history right is)

pub returns-clause-rests : goal.returns-clause-rests
returns-clause-rests c = resting-free
