use Rattle.std.proofs.Common.{sym, ap, ◌∙◌, Some, arith}
use Rattle.std.proofs.lemmas.Bool.Decides.{nat_tests}
use Rattle.gx_base.specs.declared.digits.TheConstants.{CEILING}
use Rattle.gx_base.proofs.PriceTexts.{found_by, missing_by, no_number, nothing_there, a_number, digits_from_two, none_in_front, none_behind, units_are}
use Rattle.gx_base.proofs.price.read_units.Goals as goal
use Rattle.gx_base.proofs.price.read_units.Goals.{then-whole-fraction-eq0-via-then-whole-fraction-eq0, then-whole-fraction-eq0-via-else-whole-fraction-eq0+then-not-are_digits}

pub returns-then-whole-fraction-eq0 : goal.returns-then-whole-fraction-eq0
returns-then-whole-fraction-eq0 c =
    elim c.then-whole-fraction-eq0.branch [
      | then-whole-fraction-eq0-via-then-whole-fraction-eq0 w ↦ nothing_there c.args.whole.now c.args.fraction.now _ (omega (arith, w.if-whole-fraction-eq0.true))
      | then-whole-fraction-eq0-via-else-whole-fraction-eq0+then-not-are_digits w ↦ no_number c.args.whole.now c.args.fraction.now _ (none_behind c.min-kept.result c.args.fraction.now (sym w.if-not-are_digits.ensures))
    ]

pub returns-in_err-units : goal.returns-in_err-units
returns-in_err-units c =
    c.from_residual-in_err-units.ensures ∙ no_number c.args.whole.now c.args.fraction.now _ (none_in_front c.min-kept.result c.args.fraction.now (missing_by _ _ c.in_err-units.ensures))

pub returns : goal.returns
returns c =
    let before = found_by _ _ _ c.in_ok-read_if_digits.ensures in
    let kept = found_by _ _ _ c.in_ok-units.ensures in
    ap Some (units_are CEILING c.args.decimals c.min-kept.result c.in_ok-read_if_digits.field-0 c.in_ok-units.units c.with_zeros.result c.args.whole.now c.args.fraction.now (grind (arith, nat_tests)) before.1 kept.1 c.with_zeros.ensures)
    ∙ a_number c.args.whole.now c.args.fraction.now _ (grind (arith, nat_tests)) before.0 (digits_from_two c.min-kept.result c.args.fraction.now kept.0 (sym c.if-not-are_digits.ensures))
