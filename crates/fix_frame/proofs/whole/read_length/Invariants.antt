use Rattle.fix_frame.proofs.Heads.{DigitsSoFar}
use Rattle.fix_frame.proofs.whole.read_length.Given as goal

abbrev pub invariant-loop-byte : goal.invariant-loop-byte
invariant-loop-byte l = DigitsSoFar l.text l.byte-index l.number
