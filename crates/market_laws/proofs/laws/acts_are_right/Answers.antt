use Rattle.market_laws.specs.Acts.{EachAct}
use Rattle.market_laws.specs.RightActs.{IsRightAct}
use Rattle.market_laws.proofs.Lifted.{in-each}
use Rattle.market_laws.proofs.laws.acts_are_right.Goals as goal

pub returns : goal.returns
returns c = in-each (λ product acts start. EachAct IsRightAct acts start) (λ product acts m h. h)
