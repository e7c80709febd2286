use Rattle.std.proofs.Common.{ℕ, take, sym, ap}
use Rattle.price_chunks.proofs.Steps.{price_before}
use Rattle.price_chunks.proofs.place.price_before.Goals as goal
use Rattle.price_chunks.specs.Steps.{price_of_last}

pub returns-then-place-eq0 : goal.returns-then-place-eq0
returns-then-place-eq0 c = sym (ap (λ (n : ℕ). price_of_last (take n c.args.steps.now)) c.if-place-eq0.true)

pub returns : goal.returns
returns c = sym (price_before c.args.steps.now c.args.place c.if-place-eq0.false c.requires)
