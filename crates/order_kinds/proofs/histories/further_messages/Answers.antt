use Rattle.order_kinds.proofs.FurtherMessages.{state-further, events-further, reports-further, new_reports-further}
use Rattle.order_kinds.proofs.histories.further_messages.Goals as goal

pub returns-clause-state : goal.returns-clause-state
returns-clause-state c = λ history messages. state-further history messages

pub returns-clause-events : goal.returns-clause-events
returns-clause-events c = λ history messages. events-further history messages

pub returns-clause-reports : goal.returns-clause-reports
returns-clause-reports c = λ history messages. reports-further history messages

pub returns-clause-fresh : goal.returns-clause-fresh
returns-clause-fresh c = λ history messages. new_reports-further history messages
