use Rattle.std.proofs.Common.{◌/◌, ◌^◌, ◌<◌, ◌≤◌, length, decimal, ap, arith}
use Rattle.std.proofs.Math.Nat.{one-le-pow}
use Rattle.gx_base.proofs.PricesAgain.{length-fraction_text}
use Rattle.line_parts.proofs.PriceTexts.{length-whole}
use Rattle.line_parts.proofs.price.append_any_price.Goals as goal
use Rattle.line_parts.proofs.price.append_any_price.Goals.{then-price-lt0, else-price-lt0}

pub nonzero_div-units : goal.nonzero_div-units
nonzero_div-units c = omega (arith, c.power_of_ten.ensures.value, one-le-pow c.args.decimals 10 (omega arith))

pub append_number-end-requires : goal.append_number-end-requires
append_number-end-requires c =
    let sign : length c.if-price-lt0.sign.now ≤ 1 = elim c.if-price-lt0.branch [ then-price-lt0 w ↦ rw w.sign-is (omega arith) | else-price-lt0 w ↦ rw w.sign-is (omega arith) ] in
    omega (arith, c.append-end.ensures.end)

pub append_fraction-requires-clause-room : goal.append_fraction-requires-clause-room
append_fraction-requires-clause-room c =
    let small : c.unsigned_abs-units.result < 10 ^ 19 = omega arith in
    let sign : length c.if-price-lt0.sign.now ≤ 1 = elim c.if-price-lt0.branch [ then-price-lt0 w ↦ rw w.sign-is (omega arith) | else-price-lt0 w ↦ rw w.sign-is (omega arith) ] in
    let text = ap (λ k. length (decimal (c.unsigned_abs-units.result / k))) c.power_of_ten.ensures.value in
    omega (arith, text, length-whole c.args.decimals c.unsigned_abs-units.result c.requires.few small)

pub returns-clause-short : goal.returns-clause-short
returns-clause-short c =
    let small : c.unsigned_abs-units.result < 10 ^ 19 = omega arith in
    let sign : length c.if-price-lt0.sign.now ≤ 1 = elim c.if-price-lt0.branch [ then-price-lt0 w ↦ rw w.sign-is (omega arith) | else-price-lt0 w ↦ rw w.sign-is (omega arith) ] in
    let text = ap (λ k. length (decimal (c.unsigned_abs-units.result / k))) c.power_of_ten.ensures.value in
    omega (arith, text, c.append_fraction.ensures.end, length-whole c.args.decimals c.unsigned_abs-units.result c.requires.few small, length-fraction_text c.args.decimals c.unsigned_abs-units.result)
