use Rattle.id_table.proofs.Frees.{popped}
use Rattle.id_table.proofs.free.take_free.Goals as goal

pub returns-in-Some-clause-freed : goal.returns-in-Some-clause-freed
returns-in-Some-clause-freed c = popped c.in-Some.at c.args.free.now.items c.pop.new.self.items c.args.nodes.now.items c.in-Some.ensures.items c.requires.free
