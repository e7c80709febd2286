use Rattle.std.proofs.Common.{refl, sym, ◌∙◌}
use Rattle.book_recovery.proofs.RightImages.{few-read, image-read, image-wrong, none-found}
use Rattle.book_recovery.proofs.ImageKinds.{own-not-frames, own-not-amendment}
use Rattle.book_recovery.proofs.contents.read_image_record.Goals as goal

-- the text of an amendment does not end in the payload
pub returns-in_default-clause-reads : goal.returns-in_default-clause-reads
returns-in_default-clause-reads g c = (none-found c.args.entry.now.kind c.args.product.now c.args.payload.now c.args.payload.now refl c.in_default.ensures, refl)

pub read_image-requires-clause-image : goal.read_image-requires-clause-image
read_image-requires-clause-image g c = λ same. own-not-frames c.args.entry.now.kind c.requires.image (sym c.image_kind.ensures ∙ same)

pub read_image-requires-clause-alone : goal.read_image-requires-clause-alone
read_image-requires-clause-alone g c = λ same. own-not-amendment c.args.entry.now.kind (sym c.image_kind.ensures ∙ same)

pub returns-in-Ok-clause-few : goal.returns-in-Ok-clause-few
returns-in-Ok-clause-few g c = few-read _ c.image_kind.result c.args.product.now c.in-Some.image.now c.read_image.new.core c.in-Ok.ensures.reads c.in-Ok.ensures.state

pub returns-in-Ok-clause-reads : goal.returns-in-Ok-clause-reads
returns-in-Ok-clause-reads g c =
    image-read _ c.image_kind.result c.args.product.now c.in-Some.image.now c.args.entry.now.kind c.image_kind.ensures c.args.payload.now c.args.payload.now refl c.in-Some.ensures c.read_image.new.core c.in-Ok.ensures.reads c.in-Ok.ensures.state

pub returns-in-Err-clause-reads : goal.returns-in-Err-clause-reads
returns-in-Err-clause-reads g c =
    (image-wrong _ c.image_kind.result c.args.product.now c.in-Some.image.now c.args.entry.now.kind c.image_kind.ensures c.args.payload.now c.args.payload.now refl c.in-Some.ensures c.in-Err.field-0 c.in-Err.ensures.reads, refl)
