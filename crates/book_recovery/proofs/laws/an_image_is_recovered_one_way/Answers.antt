use Rattle.book_recovery.proofs.OneWay.{one_recovery}
use Rattle.book_recovery.proofs.laws.an_image_is_recovered_one_way.Goals as goal

pub returns : goal.returns
returns c = λ product head image limit gate gate' state state' first second a b told told'. one_recovery product head image limit gate gate' state state' first second a b told told'
