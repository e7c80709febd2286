use Rattle.std.proofs.Common.{sym, ◌∙◌, ap, subst, arith}
use Rattle.order_kinds.specs.State.{State}
use Rattle.order_kinds.specs.Cores.{FitsProduct}
use Rattle.order_kinds.proofs.EmptyStates.{fits-empty}
use Rattle.book_recovery.specs.Inner.Replays.{payload_at}
use Rattle.book_recovery.proofs.NewCores.{cleared_new}
use Rattle.book_recovery.proofs.RecordContents.{frames_counted}
use Rattle.book_recovery.proofs.ReplayedOne.{image_replayed, image_not_replayed, frames_replayed, frames_not_replayed}
use Rattle.book_recovery.proofs.ImageKinds.{either-image, not-frames}
use Rattle.book_recovery.proofs.replay.replay_entry.Goals as goal

-- ---- an image

pub read_record_ahead-requires-clause-new : goal.read_record_ahead-requires-clause-new
read_record_ahead-requires-clause-new g c = λ image. c.clear.ensures ∙ cleared_new c.args.product.now c.args.core.now c.requires.fits

pub read_record_ahead-requires-clause-fits : goal.read_record_ahead-requires-clause-fits
read_record_ahead-requires-clause-fits g c =
    subst (λ (s : State). FitsProduct c.args.product.now s) (sym (c.clear.ensures ∙ cleared_new c.args.product.now c.args.core.now c.requires.fits)) (fits-empty c.args.product.now)

pub returns-in-Ok-clause-replays : goal.returns-in-Ok-clause-replays
returns-in-Ok-clause-replays g c = λ image read known gives.
    let entry = c.args.entry.now in
    image_replayed c.args.product.now c.args.core.now 0 (payload_at image entry) c.read_record_ahead.new.scratch.framer.given entry.kind (either-image entry.kind c.in-OldImage.is) c.read_record_ahead.new.core c.in-Ok.field-0 c.in-Ok.ensures.counts (c.in-Ok.ensures.reads image read known gives)

pub returns-in-Err-clause-replays : goal.returns-in-Err-clause-replays
returns-in-Err-clause-replays g c = λ image read known gives.
    let entry = c.args.entry.now in
    image_not_replayed c.args.product.now c.args.core.now 0 (payload_at image entry) c.read_record_ahead.new.scratch.framer.given entry.kind (either-image entry.kind c.in-OldImage.is) c.read_record_ahead.new.core c.read_record_ahead.new.core entry.at c.in-Err.why (c.in-Err.ensures.reads image read known gives)

-- ---- frames

pub read_record_ahead-requires-2-clause-new : goal.read_record_ahead-requires-2-clause-new
read_record_ahead-requires-2-clause-new g c = λ image. absurd (not-frames c.args.entry.now.kind image c.in-Frames.is)

pub apply_given-requires-clause-few : goal.apply_given-requires-clause-few
apply_given-requires-clause-few g c =
    let counts = frames_counted c.messages-count.result c.args.entry.now.kind c.read_record_ahead-2.new.scratch.framer.given c.read_record_ahead-2.new.core c.in-Ok-read_record_ahead.field-0 c.in-Frames.is c.in-Ok-read_record_ahead.ensures.counts in
    let same = ap (λ (s : State). s.desk.messages) (c.read_record_ahead-2.ensures.frames c.in-Frames.is) in
    omega (arith, counts, same, c.messages-count.ensures.count, c.in-Ok-read_record_ahead.ensures.few)

pub returns-in-Ok-read_record_ahead-clause-few : goal.returns-in-Ok-read_record_ahead-clause-few
returns-in-Ok-read_record_ahead-clause-few g c =
    let counts = frames_counted c.messages-count.result c.args.entry.now.kind c.read_record_ahead-2.new.scratch.framer.given c.read_record_ahead-2.new.core c.in-Ok-read_record_ahead.field-0 c.in-Frames.is c.in-Ok-read_record_ahead.ensures.counts in
    let same = ap (λ (s : State). s.desk.messages) (c.read_record_ahead-2.ensures.frames c.in-Frames.is) in
    omega (arith, counts, same, c.messages-count.ensures.count, c.in-Ok-read_record_ahead.ensures.few, c.apply_given.ensures.count)

pub returns-in-Ok-read_record_ahead-clause-replays : goal.returns-in-Ok-read_record_ahead-clause-replays
returns-in-Ok-read_record_ahead-clause-replays g c = λ image read known gives.
    let entry = c.args.entry.now in
    frames_replayed c.args.product.now c.args.core.now c.messages-count.result (payload_at image entry) c.read_record_ahead-2.new.scratch.framer.given c.messages-count.ensures.count entry.kind c.in-Frames.is c.read_record_ahead-2.new.core c.apply_given.new.core c.in-Ok-read_record_ahead.field-0
    (c.read_record_ahead-2.ensures.frames c.in-Frames.is)
    (c.in-Ok-read_record_ahead.ensures.reads image read known gives)
    c.apply_given.ensures.state
    c.apply_given.ensures.count
    c.apply_given.ensures.numbered

pub returns-in-Err-read_record_ahead-clause-replays : goal.returns-in-Err-read_record_ahead-clause-replays
returns-in-Err-read_record_ahead-clause-replays g c = λ image read known gives.
    let entry = c.args.entry.now in
    frames_not_replayed c.args.product.now c.args.core.now c.messages-count.result (payload_at image entry) c.read_record_ahead-2.new.scratch.framer.given c.messages-count.ensures.count entry.kind c.in-Frames.is c.read_record_ahead-2.new.core c.read_record_ahead-2.new.core entry.at c.in-Err-read_record_ahead.why
    (c.in-Err-read_record_ahead.ensures.reads image read known gives)
