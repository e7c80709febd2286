use Rattle.std.proofs.Common.{sym, ap, ◌∙◌}
use Rattle.price_chunks.proofs.Steps.{worse_front}
use Rattle.price_chunks.proofs.place.worse_price.Goals as goal
use Rattle.price_chunks.specs.Steps.{price_of_last}

pub returns : goal.returns
returns c = c.price_before.ensures ∙ ap price_of_last (sym (worse_front c.args.side c.args.price c.args.steps.now c.place_of.result c.requires c.place_of.ensures))
