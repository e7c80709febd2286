use Rattle.std.proofs.Common.{◌∙◌}
use Rattle.book_recovery.proofs.NewCores.{cleared_new}
use Rattle.book_recovery.proofs.records.clear_spare.Goals as goal

pub returns-in-OldImage : goal.returns-in-OldImage
returns-in-OldImage g c = c.clear.ensures ∙ cleared_new c.args._product.now c.args.spare.now c.requires.fits
