use Rattle.engine_laws.proofs.StopRounds.{stops-stay, stops-go-on}
use Rattle.engine_laws.proofs.matches.stops_go_on.Goals as goal

pub returns-clause-none : goal.returns-clause-none
returns-clause-none c = λ naming steps m none. stops-stay steps naming m none

pub returns-clause-next : goal.returns-clause-next
returns-clause-next c = λ naming steps m stop is. stops-go-on steps naming m stop is
