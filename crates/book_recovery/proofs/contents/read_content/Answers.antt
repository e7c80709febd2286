use Rattle.std.proofs.Common.{◌≡◌, ◌≤◌, List, ℕ, [], length, refl, sym, subst, arith}
use Rattle.std.specs.List.{concat}
use Rattle.fix_frame.specs.Stream.{messages_of}
use Rattle.book_recovery.proofs.RecordContents.{counts_frames, reads_frames, reads_image, reads_no_image}
use Rattle.book_recovery.proofs.ImageKinds.{either-image, counts-image}
use Rattle.book_recovery.proofs.contents.read_content.Goals as goal

pub returns-in-Frames-clause-counts : goal.returns-in-Frames-clause-counts
returns-in-Frames-clause-counts g c =
    let entry = c.args.met.entry in
    counts_frames c.args.product.now c.args.met.count [] entry.at c.read_frame_record.new.framer.given c.args.core.now entry.kind c.in-Frames.is c.read_frame_record.result c.read_frame_record.ensures.counts

pub returns-in-Frames-clause-reads : goal.returns-in-Frames-clause-reads
returns-in-Frames-clause-reads g c = λ gives.
    let entry = c.args.met.entry in
    reads_frames c.args.product.now c.args.met.count c.args.payload.now entry.at c.read_frame_record.new.framer.given c.args.core.now entry.kind c.in-Frames.is c.read_frame_record.result c.read_frame_record.ensures.counts c.read_frame_record.ensures.reads

pub read_image_record-requires-clause-image : goal.read_image_record-requires-clause-image
read_image_record-requires-clause-image g c = either-image c.args.met.entry.kind c.in-OldImage.is

pub read_image_record-requires-clause-new : goal.read_image_record-requires-clause-new
read_image_record-requires-clause-new g c = c.requires.new (either-image c.args.met.entry.kind c.in-OldImage.is)

pub returns-in-Ok-clause-counts : goal.returns-in-Ok-clause-counts
returns-in-Ok-clause-counts g c =
    let entry = c.args.met.entry in
    counts-image c.args.met.count entry.kind c.clear.new.self.given c.read_image_record.new.core c.messages.result (either-image entry.kind c.in-OldImage.is) c.clear.ensures.0 c.messages.ensures.count

pub returns-in-Ok-clause-reads : goal.returns-in-Ok-clause-reads
returns-in-Ok-clause-reads g c = λ gives.
    let entry = c.args.met.entry in
    reads_image c.args.product.now c.args.met.count c.args.payload.now entry.at c.clear.new.self.given c.read_image_record.new.core entry.kind (either-image entry.kind c.in-OldImage.is) c.messages.result c.clear.ensures.0 c.messages.ensures.count
    c.in-Ok.ensures.reads gives

pub returns-in-Err-clause-reads : goal.returns-in-Err-clause-reads
returns-in-Err-clause-reads g c = λ gives.
    let entry = c.args.met.entry in
    reads_no_image c.args.product.now c.args.met.count c.args.payload.now entry.at c.clear.new.self.given c.read_image_record.new.core entry.kind (either-image entry.kind c.in-OldImage.is) c.in-Err.why c.in-Err.ensures.reads

pub returns-in-Ok-clause-given : goal.returns-in-Ok-clause-given
returns-in-Ok-clause-given g c = subst (λ (l : List (List ℕ)). l ≡ messages_of (concat l)) (sym c.clear.ensures.0) refl

pub returns-in-Ok-clause-size : goal.returns-in-Ok-clause-size
returns-in-Ok-clause-size g c = subst (λ (l : List (List ℕ)). length (concat l) ≤ length c.args.payload.now) (sym c.clear.ensures.0) (omega arith)
