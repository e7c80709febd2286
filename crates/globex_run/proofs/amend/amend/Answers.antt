use Rattle.globex_run.proofs.amend.amend.Goals as goal

pub returns-clause-did : goal.returns-clause-did
returns-clause-did g c = record { right = c.limits.ensures; answer = c.amend_journal-amended.result; is = c.outcome_amended.ensures; did = c.amend_journal-amended.ensures.did }
