use Rattle.image_laws.proofs.Histories.{history-reached}
use Rattle.market_laws.proofs.laws.no_order_is_left_crossed.Goals as goal

pub returns : goal.returns
returns c history right is = (history-reached history right is).uncrossed
