use Rattle.stream_laws.proofs.Repeats.{histories-repeat}
use Rattle.stream_laws.proofs.resends.resends_repeat_reports.Goals as goal

pub returns : goal.returns
returns c = histories-repeat
