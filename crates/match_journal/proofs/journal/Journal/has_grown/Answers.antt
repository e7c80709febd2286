use Rattle.std.proofs.Common.{rules}
use Rattle.match_journal.proofs.journal.Journal.has_grown.Goals as goal

pub returns-in-Ok-clause-value : goal.returns-in-Ok-clause-value
returns-in-Ok-clause-value g c = search rules
