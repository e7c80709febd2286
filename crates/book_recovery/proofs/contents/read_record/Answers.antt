use Rattle.std.proofs.Common.{refl, sym, ◌∙◌, arith}
use Rattle.gx_station.specs.AnswerLaws.{on_ok}
use Rattle.book_recovery.specs.Inner.Replays.{payload_at}
use Rattle.book_recovery.proofs.Payloads.{payload-length}
use Rattle.book_recovery.proofs.RecordContents.{longer_bad, content_of}
use Rattle.book_recovery.proofs.contents.read_record.Goals as goal

pub returns-then-length-capacity-clause-reads : goal.returns-then-length-capacity-clause-reads
returns-then-length-capacity-clause-reads g c = λ image read known gives.
    let entry = c.args.met.entry in
    let size = payload-length image c.args.journal.now.known c.args.journal.now.limit entry c.requires.entry known.known in
    (λ good. longer_bad c.args.product.now c.args.met.count entry.kind (payload_at image entry) c.capacity.result (omega (arith, size, c.requires.entry.few)) (omega (arith, c.capacity.ensures)) (omega (arith, c.requires.room, c.capacity.ensures)) (omega (arith, size, c.if-length-capacity.true, c.capacity.ensures)) good, refl)

pub returns-clause-reads : goal.returns-clause-reads
returns-clause-reads g c = λ image read known gives.
    let entry = c.args.met.entry in
    let bytes = on_ok c.read_entry.result (sym c.is_err.ensures.value ∙ c.if-is_err.false) c.read_entry.ensures.bytes image read in
    content_of c.args.product.now c.args.met.count entry.kind entry.at c.read_content.new.framer.given c.read_content.new.core _ (payload_at image entry) bytes c.read_content.result c.read_content.ensures.reads gives
