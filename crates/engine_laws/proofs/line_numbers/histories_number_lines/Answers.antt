use Rattle.engine_laws.proofs.NumberedHistories.{history-from-one, history-up-to, history-in-order, history-goes-on, rest-above}
use Rattle.engine_laws.proofs.line_numbers.histories_number_lines.Goals as goal

pub returns-clause-from_one : goal.returns-clause-from_one
returns-clause-from_one c = λ history. history-from-one history

pub returns-clause-up_to : goal.returns-clause-up_to
returns-clause-up_to c = λ history place within. history-up-to place history within

pub returns-clause-in_order : goal.returns-clause-in_order
returns-clause-in_order c = λ history place within. history-in-order place history within

pub returns-clause-never_fall : goal.returns-clause-never_fall
returns-clause-never_fall c = λ history messages pairs place. (history-goes-on place history messages pairs).rises

pub returns-clause-rest : goal.returns-clause-rest
returns-clause-rest c = λ history messages pairs more place is. rest-above place history messages pairs more is
