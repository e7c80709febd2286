use Rattle.engine_laws.proofs.Tops.{top-swept, top-left, top-closed}
use Rattle.engine_laws.proofs.matches.nobody_inherits_top.Goals as goal

pub returns-clause-swept : goal.returns-clause-swept
returns-clause-swept c = λ steps limit m i d s r h. top-swept steps limit m i d s r h

pub returns-clause-left : goal.returns-clause-left
returns-clause-left c = λ b gone i d s r h. top-left b gone i d s r h

pub returns-clause-closed : goal.returns-clause-closed
returns-clause-closed c = λ b i d s r h. top-closed b i d s r h
