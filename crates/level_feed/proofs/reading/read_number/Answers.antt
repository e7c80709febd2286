use Rattle.std.proofs.Common.{sym, arith}
use Rattle.level_feed.proofs.PlainNumbers.{plain-is, not-plain, plain-number, plain-above}
use Rattle.level_feed.proofs.reading.read_number.Goals as goal

pub returns-then-not-is_plain : goal.returns-then-not-is_plain
returns-then-not-is_plain c = not-plain c.args.text.now (sym c.if-not-is_plain.ensures)

pub returns-then-number-gt-GREATEST_NUMBER : goal.returns-then-number-gt-GREATEST_NUMBER
returns-then-number-gt-GREATEST_NUMBER c =
    plain-above c.args.text.now c.value_of-number.result (plain-is c.args.text.now (sym c.if-not-is_plain.ensures)) c.value_of-number.ensures (omega arith)

pub returns : goal.returns
returns c =
    plain-number c.args.text.now c.value_of-number.result (plain-is c.args.text.now (sym c.if-not-is_plain.ensures)) c.value_of-number.ensures (omega arith)
