use Rattle.fix_session.proofs.SessionLaws.{out-append, after-append}
use Rattle.fix_session.proofs.laws.sessions_go_on.Goals as goal

pub returns-clause-out : goal.returns-clause-out
returns-clause-out c = λ names lines again sessions first others. out-append names lines again sessions first others

pub returns-clause-sessions : goal.returns-clause-sessions
returns-clause-sessions c = λ names lines sessions first others. after-append names lines sessions first others
