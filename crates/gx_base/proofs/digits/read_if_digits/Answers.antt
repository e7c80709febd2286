use Rattle.std.proofs.Common.{◌≡◌, ◌+◌, ◌-◌, ◌*◌, ◌≤◌, ◌<◌, true, get_or, min, arith}
use Rattle.std.proofs.lemmas.Bool.Decides.{nat_tests}
use Rattle.std.specs.Char.{is_ascii_digit}
use Rattle.gx_base.specs.declared.digits.TheConstants.{CEILING}
use Rattle.gx_base.proofs.Capped.{IsReadTo, one_more}
use Rattle.gx_base.proofs.digits.read_if_digits.Goals as goal

pub loop-c-preserved : goal.loop-c-preserved
loop-c-preserved c =
    let fits : get_or c.args.text.now c.loop-c.c-index 0 < 256 = (c.type_inv.text c.loop-c.c-index).fits in
    let low : 48 ≤ get_or c.args.text.now c.loop-c.c-index 0 = omega arith in
    let high : get_or c.args.text.now c.loop-c.c-index 0 ≤ 57 = omega arith in
    let digit : is_ascii_digit (get_or c.args.text.now c.loop-c.c-index 0) ≡ true = grind (arith, nat_tests) in
    let next : IsReadTo c.args.front c.args.text.now (c.loop-c.c-index + 1) (min CEILING (c.loop-c.number * 10 + (get_or c.args.text.now c.loop-c.c-index 0 - 48))) =
    one_more c.args.front c.args.text.now c.loop-c.c-index c.loop-c.number c.loop-c-test.true digit c.loop-c.invariant in
    let is = next.is in
    record { is = grind (arith, nat_tests); digits = next.digits }
