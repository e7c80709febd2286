use Rattle.book_recovery.proofs.FromLastImage.{good-from-first}
use Rattle.book_recovery.proofs.Histories.{good-amended, last-gives}
use Rattle.book_recovery.proofs.true_images.good_records_are_good_from_the_last_image.Goals as goal

pub returns-clause-last : goal.returns-clause-last
returns-clause-last c = λ head first records gives good. last-gives head first records gives (good-amended first 0 records good)

pub returns-clause-good : goal.returns-clause-good
returns-clause-good c = λ first records good. good-from-first first records good
