use Rattle.std.proofs.Common.{ap, ◌∙◌}
use Rattle.price_chunks.specs.Steps.{list_at}
use Rattle.price_level.proofs.Seen.{worst}
use Rattle.price_level.proofs.levels.Levels.worst.Goals as goal

pub returns : goal.returns
returns c =
    c.worst.ensures ∙ worst c.self.invariant.0 c.args.self.now c.self.view_is c.args.instrument c.args.side c.requires (list_at c.self.inside.sides.lists c.side_number.result) (ap (list_at c.self.inside.sides.lists) c.side_number.ensures)
