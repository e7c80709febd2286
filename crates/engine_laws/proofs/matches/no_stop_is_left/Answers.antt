use Rattle.engine_laws.proofs.StopsLeft.{no-stop-left, new-left, replaced-left, session-left, closed-left}
use Rattle.engine_laws.proofs.matches.no_stop_is_left.Goals as goal

pub returns-clause-entered : goal.returns-clause-entered
returns-clause-entered c = λ naming steps m. no-stop-left steps naming m

pub returns-clause-accepted : goal.returns-clause-accepted
returns-clause-accepted c = λ naming product new state terms is. new-left naming product new state terms is

pub returns-clause-replaced : goal.returns-clause-replaced
returns-clause-replaced c = λ naming product request state slot is. replaced-left naming product request state slot is

pub returns-clause-session : goal.returns-clause-session
returns-clause-session c = λ change state instrument. session-left change state instrument

pub returns-clause-closed : goal.returns-clause-closed
returns-clause-closed c = λ naming product request state instrument. closed-left naming product request state instrument
