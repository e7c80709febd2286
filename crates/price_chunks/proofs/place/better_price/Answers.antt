use Rattle.std.proofs.Common.{ap, ◌∙◌}
use Rattle.price_chunks.proofs.place.better_price.Goals as goal
use Rattle.price_chunks.specs.Steps.{price_of_first}

pub returns : goal.returns
returns c = c.price_at.ensures ∙ ap price_of_first c.place_after.ensures
