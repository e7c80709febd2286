use Rattle.std.proofs.Common.{ap, ◌∙◌}
use Rattle.price_chunks.specs.Steps.{list_at}
use Rattle.price_level.proofs.Seen.{ordered, queue}
use Rattle.price_level.proofs.levels.Levels.find.Goals as goal

pub find-requires-clause-ordered : goal.find-requires-clause-ordered
find-requires-clause-ordered c = ordered c.self.invariant.0 c.args.self.now c.self.view_is c.args.instrument c.args.side c.requires (list_at c.self.inside.sides.lists c.side_number.result) (ap (list_at c.self.inside.sides.lists) c.side_number.ensures)

pub returns : goal.returns
returns c =
    c.find.ensures ∙ queue c.self.invariant.0 c.args.self.now c.self.view_is c.args.instrument c.args.side c.requires (list_at c.self.inside.sides.lists c.side_number.result) (ap (list_at c.self.inside.sides.lists) c.side_number.ensures) c.args.price
