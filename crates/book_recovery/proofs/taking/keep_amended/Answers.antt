use Rattle.std.proofs.Common.{sym, ◌∙◌}
use Rattle.gx_station.specs.AnswerLaws.{on_ok}
use Rattle.book_recovery.specs.Inner.Replays.{payload_at}
use Rattle.book_recovery.proofs.AmendmentFronts.{front-read, front-kept, front-not-kept}
use Rattle.book_recovery.proofs.taking.keep_amended.Goals as goal

pub returns-in-Some-clause-keeps : goal.returns-in-Some-clause-keeps
returns-in-Some-clause-keeps g c = λ image read known.
    let bytes = on_ok c.read_entry.result (sym c.is_err.ensures.value ∙ c.if-is_err.false) c.read_entry.ensures.bytes image read in
    let front = front-read image c.args.journal.now.known c.args.journal.now.limit c.args.entry.now c.requires.entry known c.min-length.result c.min-length.ensures c.read_entry.new.into _ bytes in
    front-kept (payload_at image c.args.entry.now) _ front c.args.entry.now.at c.args.earlier.now.items c.keep_product.new.earlier.items c.in-Some.text.now c.in-Some.ensures.0 c.in-Some.ensures.1 c.keep_product.result c.keep_product.ensures.keeps

pub returns-in-None-clause-keeps : goal.returns-in-None-clause-keeps
returns-in-None-clause-keeps g c = λ image read known.
    let bytes = on_ok c.read_entry.result (sym c.is_err.ensures.value ∙ c.if-is_err.false) c.read_entry.ensures.bytes image read in
    let front = front-read image c.args.journal.now.known c.args.journal.now.limit c.args.entry.now c.requires.entry known c.min-length.result c.min-length.ensures c.read_entry.new.into _ bytes in
    front-not-kept (payload_at image c.args.entry.now) _ front c.args.entry.now.at c.args.earlier.now.items c.args.earlier.now.items c.in-None.ensures
