use Rattle.book_recovery.proofs.Histories.{good-amended}
use Rattle.book_recovery.proofs.TrueImages.{full-state, full-count}
use Rattle.book_recovery.proofs.true_images.recovery_from_an_image_is_a_full_replay.Goals as goal

pub returns-clause-state : goal.returns-clause-state
returns-clause-state c = λ text first records gives good are_true few. full-state text first records gives are_true few (good-amended first 0 records good)

pub returns-clause-count : goal.returns-clause-count
returns-clause-count c = λ text first records gives good are_true few. full-count text first records gives are_true few (good-amended first 0 records good)
