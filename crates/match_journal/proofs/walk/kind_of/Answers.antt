use Rattle.match_journal.proofs.walk.kind_of.Goals as goal

pub returns-in-77-clause-none : goal.returns-in-77-clause-none
returns-in-77-clause-none c = λ none. absurd (cc none)

pub returns-in-67-clause-none : goal.returns-in-67-clause-none
returns-in-67-clause-none c = λ none. absurd (cc none)

pub returns-in-68-clause-none : goal.returns-in-68-clause-none
returns-in-68-clause-none c = λ none. absurd (cc none)
