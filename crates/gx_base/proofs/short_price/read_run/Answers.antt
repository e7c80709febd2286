use Rattle.std.proofs.Common.{◌≡◌, ◌≤◌, ◌<◌, true, get_or, arith}
use Rattle.std.proofs.lemmas.Bool.Decides.{nat_tests}
use Rattle.std.specs.Char.{is_ascii_digit}
use Rattle.gx_base.proofs.ShortPrices.{run_more, run_fits}
use Rattle.gx_base.proofs.short_price.read_run.Goals as goal

pub overflow_mul-number : goal.overflow_mul-number
overflow_mul-number c = omega (arith, run_fits c.args.front c.loop-k.number c.loop-k.k _ c.loop-k.invariant.low c.loop-k-test.true c.requires)

pub overflow_add-number : goal.overflow_add-number
overflow_add-number c = omega (arith, run_fits c.args.front c.loop-k.number c.loop-k.k _ c.loop-k.invariant.low c.loop-k-test.true c.requires)

pub loop-k-preserved : goal.loop-k-preserved
loop-k-preserved c =
    let byte = get_or c.args.text.now c.loop-k.k 0 in
    let fits : byte < 256 = (c.type_inv.text c.loop-k.k).fits in
    let low : 48 ≤ byte = omega arith in
    let high : byte ≤ 57 = omega arith in
    let digit : is_ascii_digit byte ≡ true = grind (arith, nat_tests) in
    let next = run_more c.args.front c.args.text.now c.loop-k.k c.loop-k.number c.loop-k-test.true digit c.loop-k.invariant in
    record { is = omega (arith, next.is); digits = next.digits; low = omega (arith, next.low) }
