use Rattle.std.proofs.Common.{ap, ◌∙◌}
use Rattle.price_chunks.specs.Steps.{list_at}
use Rattle.price_level.proofs.Seen.{ordered, fits, available}
use Rattle.price_level.proofs.levels.Levels.available.Goals as goal

pub available-requires-clause-ordered : goal.available-requires-clause-ordered
available-requires-clause-ordered c =
    ordered c.self.invariant.0 c.args.self.now c.self.view_is c.args.instrument c.args.side c.requires.listed (list_at c.self.inside.sides.lists c.side_number.result) (ap (list_at c.self.inside.sides.lists) c.side_number.ensures)

pub available-requires-clause-fits : goal.available-requires-clause-fits
available-requires-clause-fits c =
    fits c.self.invariant.0 c.args.self.now c.self.view_is c.args.instrument c.args.side c.requires.listed (list_at c.self.inside.sides.lists c.side_number.result) (ap (list_at c.self.inside.sides.lists) c.side_number.ensures) c.requires.fits

pub returns : goal.returns
returns c =
    c.available.ensures
    ∙ available c.self.invariant.0 c.args.self.now c.self.view_is c.args.instrument c.args.side c.requires.listed (list_at c.self.inside.sides.lists c.side_number.result) (ap (list_at c.self.inside.sides.lists) c.side_number.ensures) c.args.limit
