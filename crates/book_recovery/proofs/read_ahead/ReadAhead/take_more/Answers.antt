use Rattle.std.proofs.Common.{◌≡◌, length, sym, arith}
use Rattle.std.specs.Box.{boxed_slice_items}
use Rattle.book_recovery.proofs.Ahead.{copied_bytes}
use Rattle.book_recovery.proofs.read_ahead.ReadAhead.take_more.Goals as goal

pub returns-in-Ok-clause-bytes : goal.returns-in-Ok-clause-bytes
returns-in-Ok-clause-bytes g c = λ image read.
    let ahead = c.read_block.new.self in
    let all : c.copy.result ≡ length c.args.into.now = omega (arith, c.copy.ensures.count, c.read_block.ensures.count, c.read_block.ensures.at, c.requires.ends, c.if-into-len.false, c.len.ensures) in
    copied_bytes c.copy.new.into (boxed_slice_items ahead.block) image ahead.count ahead.at ahead.at c.copy.result (length c.args.into.now) _ c.copy.ensures.bytes (c.in-Ok.ensures.bytes image read) (omega arith)
    (omega (arith, c.copy.ensures.count)) c.copy.ensures.size all (sym c.read_block.ensures.at)
