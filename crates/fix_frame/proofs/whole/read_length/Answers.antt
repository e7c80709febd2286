use Rattle.std.proofs.Common.{sym, ◌∙◌}
use Rattle.fix_frame.proofs.AtHand.{one_digit_more}
use Rattle.fix_frame.proofs.whole.read_length.Goals as goal

pub loop-byte-preserved : goal.loop-byte-preserved
loop-byte-preserved c = one_digit_more c.args.text.now c.loop-byte.byte-index c.loop-byte.number c.loop-byte.invariant c.requires c.loop-byte-test.true (sym c.is_ascii_digit.ensures.value ∙ c.if-not-is_ascii_digit.false)
