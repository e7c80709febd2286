use Rattle.std.proofs.Common.{ap, ◌∙◌}
use Rattle.price_chunks.specs.Steps.{list_at}
use Rattle.price_level.proofs.Seen.{ordered, better}
use Rattle.price_level.proofs.levels.Levels.better.Goals as goal

pub better-requires-clause-ordered : goal.better-requires-clause-ordered
better-requires-clause-ordered c = ordered c.self.invariant.0 c.args.self.now c.self.view_is c.args.instrument c.args.side c.requires (list_at c.self.inside.sides.lists c.side_number.result) (ap (list_at c.self.inside.sides.lists) c.side_number.ensures)

pub returns : goal.returns
returns c =
    c.better.ensures ∙ better c.self.invariant.0 c.args.self.now c.self.view_is c.args.instrument c.args.side c.requires (list_at c.self.inside.sides.lists c.side_number.result) (ap (list_at c.self.inside.sides.lists) c.side_number.ensures) c.args.price
