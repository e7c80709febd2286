use Rattle.std.proofs.Common.{rules}
use Rattle.journal_print.proofs.NotedMessages.{notes}
use Rattle.journal_print.proofs.noting.note_kept.Goals as goal

pub returns-clause-notes : goal.returns-clause-notes
returns-clause-notes g c = λ image read.
    notes g.S.Station.meanings c.args.product.now c.args.text.now image c.args.station.now c.publish_kept.new.station c.args.sessions.now c.publish_kept.new.work c.publish_kept.new.reader.core c.publish_kept.result c.publish_kept.ensures.few (λ e. c.publish_kept.ensures.never_sends (search rules) e) (c.publish_kept.ensures.publishes image read)
