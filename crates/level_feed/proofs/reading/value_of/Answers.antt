use Rattle.std.proofs.Common.{◌+◌, ◌*◌, ℕ, ap, ◌∙◌, arith}
use Rattle.level_feed.proofs.PlainNumbers.{plain-is, one-more}
use Rattle.level_feed.proofs.reading.value_of.Goals as goal

pub overflow_mul-number : goal.overflow_mul-number
overflow_mul-number c =
    let more = one-more c.args.digits.now c.loop-digit.digit-index c.loop-digit.number (plain-is c.args.digits.now c.requires) c.loop-digit-test.true c.loop-digit.invariant in
    omega (arith, more.below)

pub overflow_add-number : goal.overflow_add-number
overflow_add-number c =
    let more = one-more c.args.digits.now c.loop-digit.digit-index c.loop-digit.number (plain-is c.args.digits.now c.requires) c.loop-digit-test.true c.loop-digit.invariant in
    omega (arith, more.below, c.from.ensures)

pub loop-digit-preserved : goal.loop-digit-preserved
loop-digit-preserved c =
    let more = one-more c.args.digits.now c.loop-digit.digit-index c.loop-digit.number (plain-is c.args.digits.now c.requires) c.loop-digit-test.true c.loop-digit.invariant in
    ap (λ (n : ℕ). c.loop-digit.number * 10 + n) c.from.ensures ∙ more.value
