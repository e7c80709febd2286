use Rattle.std.proofs.Common.{rules}
use Rattle.id_table.specs.Inner.Ways.{home_of}
use Rattle.id_table.proofs.hash.home_of.Goals as goal

pub returns-clause-value : goal.returns-clause-value
unfolding home_of
returns-clause-value c = search rules
