use Rattle.std.proofs.Common.{rules}
use Rattle.match_journal.proofs.walk.head_in.Goals as goal

pub returns-in-Some-clause-walks : goal.returns-in-Some-clause-walks
returns-in-Some-clause-walks c = search rules
