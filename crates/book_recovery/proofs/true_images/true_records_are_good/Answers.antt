use Rattle.book_recovery.proofs.TrueImages.{true-are-good}
use Rattle.book_recovery.proofs.true_images.true_records_are_good.Goals as goal

pub returns : goal.returns
returns c = λ text first records gives products are_true whole few. true-are-good text first records gives are_true few products whole
