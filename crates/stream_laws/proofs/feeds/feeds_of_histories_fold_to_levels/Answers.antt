use Rattle.stream_laws.proofs.Folds.{folds-at, folds-between, folds-whole}
use Rattle.stream_laws.proofs.feeds.feeds_of_histories_fold_to_levels.Goals as goal

pub returns-clause-at_blocks : goal.returns-clause-at_blocks
returns-clause-at_blocks c = folds-at

pub returns-clause-between_blocks : goal.returns-clause-between_blocks
returns-clause-between_blocks c = folds-between

pub returns-clause-whole : goal.returns-clause-whole
returns-clause-whole c = folds-whole
