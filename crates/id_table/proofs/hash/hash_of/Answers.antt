use Rattle.std.proofs.Common.{rules}
use Rattle.id_table.specs.Inner.Ways.{hash_of}
use Rattle.id_table.proofs.hash.hash_of.Goals as goal

pub returns : goal.returns
unfolding hash_of
returns c = search rules
