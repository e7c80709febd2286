use Rattle.std.proofs.Common.{◌≤◌, inr, subst, ◌∙◌, arith}
use Rattle.gx_base.specs.KnownBytes.{IsKnownPrefix}
use Rattle.order_kinds.specs.Histories.{length_kept}
use Rattle.order_kinds.specs.declared.core_state.TheConstants.{MOST_MESSAGES}
use Rattle.journal_print.proofs.Printing.{with_ending}
use Rattle.journal_print.specs.ReadingLaws.{reading_then, sending_only}
use Rattle.journal_print.proofs.events.print_events.Goals as goal

pub returns-in-Ok-finish-clause-prints : goal.returns-in-Ok-finish-clause-prints
returns-in-Ok-finish-clause-prints g c = λ image read.
    let m = g.S.Station.meanings in
    let kept = c.in-Ok.ensures.publishes image read in
    let few : length_kept kept.kept ≤ MOST_MESSAGES = omega (arith, kept.published.count_is, c.messages-count.ensures.count, c.messages-count.ensures.few) in
    let whole =
    with_ending m g.W.RecordWork.meanings c.args.product.now c.args.text.now image c.args.station.now c.publish_kept.new.station c.args.work.now c.publish_kept.new.work c.publish_kept.new.reader.core kept.kept kept.published c.open_lots-live.result c.open_lots-live.ensures in
    record {
      kept = kept.kept;
      has = kept.has;
      few = few;
      sent = c.in-Ok-finish.ensures.all ∙ whole;
      count_is = c.messages-count.ensures.count ∙ kept.published.count_is;
    }

pub returns-in-Err-finish-clause-prints : goal.returns-in-Err-finish-clause-prints
returns-in-Err-finish-clause-prints g c = λ image read.
    let m = g.S.Station.meanings in
    let kept = c.in-Ok.ensures.publishes image read in
    let few : length_kept kept.kept ≤ MOST_MESSAGES = omega (arith, kept.published.count_is, c.messages-count.ensures.count, c.messages-count.ensures.few) in
    let whole =
    with_ending m g.W.RecordWork.meanings c.args.product.now c.args.text.now image c.args.station.now c.publish_kept.new.station c.args.work.now c.publish_kept.new.work c.publish_kept.new.reader.core kept.kept kept.published c.open_lots-live.result c.open_lots-live.ensures in
    inr record {
      kept = kept.kept;
      has = kept.has;
      few = few;
      sent = subst (λ s. IsKnownPrefix (m.sent c.finish.new.station) s) whole c.in-Err-finish.ensures.part;
    }

pub returns-in-Ok-finish-clause-reads : goal.returns-in-Ok-finish-clause-reads
returns-in-Ok-finish-clause-reads g c =
    let m = g.S.Station.meanings in
    reading_then m _ _ _ c.publish_kept.ensures.reads (sending_only m _ _ c.finish.ensures.quiet)

pub returns-in-Err-finish-clause-reads : goal.returns-in-Err-finish-clause-reads
returns-in-Err-finish-clause-reads g c =
    let m = g.S.Station.meanings in
    reading_then m _ _ _ c.publish_kept.ensures.reads (sending_only m _ _ c.finish.ensures.quiet)
