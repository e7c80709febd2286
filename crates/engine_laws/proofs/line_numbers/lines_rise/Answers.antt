use Rattle.engine_laws.proofs.NumberedSteps.{counts-never-fall, lines-above, lines-up-to, lines-in-order}
use Rattle.engine_laws.proofs.line_numbers.lines_rise.Goals as goal

pub returns-clause-never_fall : goal.returns-clause-never_fall
returns-clause-never_fall c = λ product state messages place. counts-never-fall product state messages place

pub returns-clause-above : goal.returns-clause-above
returns-clause-above c = λ product state messages place. lines-above product state messages place

pub returns-clause-up_to : goal.returns-clause-up_to
returns-clause-up_to c = λ product state messages place within. lines-up-to product state messages place within

pub returns-clause-in_order : goal.returns-clause-in_order
returns-clause-in_order c = λ product state messages place within. lines-in-order product state messages place within
