use Rattle.std.proofs.Common.{◌≡◌, ◌+◌, length, take, drop, refl, sym, ◌∙◌, ap, arith}
use Rattle.std.proofs.lemmas.Grind.{common_steps}
use Rattle.gx_station.specs.AnswerLaws.{on_ok}
use Rattle.book_recovery.specs.Inner.Replays.{payload_at}
use Rattle.book_recovery.proofs.Payloads.{payload-inside}
use Rattle.book_recovery.proofs.RecordContents.{longer_bad, content_of}
use Rattle.book_recovery.proofs.Ahead.{goes_none}
use Rattle.book_recovery.proofs.contents.read_record_ahead.Goals as goal

pub returns-then-length-capacity-clause-goes : goal.returns-then-length-capacity-clause-goes
returns-then-length-capacity-clause-goes g c = goes_none g.S.Station.meanings c.args.station.now c.args.scratch.now.ahead c.args.end c.requires.ahead.ends

pub returns-then-length-capacity-clause-reads : goal.returns-then-length-capacity-clause-reads
returns-then-length-capacity-clause-reads g c = λ image read long gives.
    let entry = c.args.met.entry in
    let size = payload-inside image entry c.args.end c.requires.inside long in
    (λ good. longer_bad c.args.product.now c.args.met.count entry.kind (payload_at image entry) c.capacity.result (omega (arith, size, c.requires.length)) (omega (arith, c.capacity.ensures)) (omega (arith, c.requires.room, c.capacity.ensures)) (omega (arith, size, c.if-length-capacity.true, c.capacity.ensures)) good, refl)

pub returns-clause-reads : goal.returns-clause-reads
returns-clause-reads g c = λ image read long gives.
    let entry = c.args.met.entry in
    let bytes = on_ok c.take.result (sym c.is_err.ensures.value ∙ c.if-is_err.false) c.take.ensures.bytes image read in
    let size : length c.take.new.into ≡ entry.length = grind (arith, common_steps) in
    let are = bytes ∙ ap (λ n. take n (drop (entry.at + 6) image)) (sym c.take.ensures.size ∙ size) in
    content_of c.args.product.now c.args.met.count entry.kind entry.at c.read_content.new.framer.given c.read_content.new.core _ (payload_at image entry) are c.read_content.result c.read_content.ensures.reads gives
