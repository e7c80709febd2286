use Rattle.engine_laws.proofs.StopRounds.{stops-end}
use Rattle.engine_laws.proofs.matches.stops_end.Goals as goal

pub returns : goal.returns
returns c naming steps m = stops-end steps naming m
