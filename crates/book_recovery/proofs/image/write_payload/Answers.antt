use Rattle.std.proofs.Common.{arith}
use Rattle.order_kinds.specs.State.{state_numbered}
use Rattle.book_image.specs.Image.{image_of}
use Rattle.book_recovery.proofs.AmendmentPayloads.{written-amendment}
use Rattle.book_recovery.proofs.image.write_payload.Goals as goal

pub returns-clause-payload : goal.returns-clause-payload
returns-clause-payload g c =
    written-amendment c.write_text-front.result c.write_image-count.result c.write_text-front.new.into c.write_image-count.new.into c.args.text.now (image_of (state_numbered c.args.core.now))
    (omega (arith, c.write_text-front.ensures.count, c.write_text-front.ensures.size, c.requires.room, c.requires.short)) c.write_text-front.ensures.text c.write_image-count.ensures.image
