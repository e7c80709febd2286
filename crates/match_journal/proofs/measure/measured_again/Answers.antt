use Rattle.std.proofs.Common.{rules}
use Rattle.match_journal.proofs.measure.measured_again.Goals as goal

pub returns-in-Ok-clause-grows : goal.returns-in-Ok-clause-grows
returns-in-Ok-clause-grows g c = search rules
