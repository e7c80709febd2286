use Rattle.std.proofs.Common.{length, ap, ◌∙◌, arith}
use Rattle.std.proofs.lemmas.List.{take_all}
use Rattle.price_chunks.proofs.place.best_price.Goals as goal
use Rattle.price_chunks.specs.Steps.{price_of_last}

pub returns : goal.returns
returns c = c.price_before.ensures ∙ ap price_of_last (take_all (length c.args.steps.now) c.args.steps.now (omega arith))
