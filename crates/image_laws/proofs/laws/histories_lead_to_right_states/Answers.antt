use Rattle.image_laws.proofs.Histories.{histories-right}
use Rattle.image_laws.proofs.laws.histories_lead_to_right_states.Goals as goal

pub returns : goal.returns
returns c history right is few = histories-right history right is few
