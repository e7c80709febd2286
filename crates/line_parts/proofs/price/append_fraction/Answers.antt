use Rattle.std.proofs.Common.{◌≡◌, ℕ, List, ◌+◌, ◌-◌, ◌∷◌, ◌++◌, [], length, take, drop, sym, ap, ap₂, ◌∙◌, append_assoc, length-drop, arith}
use Rattle.std.proofs.lemmas.Slice.{take-put_mid}
use Rattle.std.proofs.lemmas.List.{length-take-le}
use Rattle.gx_base.specs.Numbers.{fixed_digits}
use Rattle.gx_base.proofs.PricesAgain.{length-fixed_digits}
use Rattle.line_parts.proofs.PriceTexts.{some_fraction}
use Rattle.line_parts.proofs.price.append_fraction.Goals as goal

pub returns-clause-text : goal.returns-clause-text
returns-clause-text c =
    let decimals = c.args.decimals in
    let start = c.append-start.result in
    let old = c.append-start.new.into in
    let digits = c.write_fixed_digits.new.into in
    let width = length-take-le (start + decimals - start) (drop start old) (omega (arith, length-drop start old)) in
    let same : start + decimals - start ≡ decimals = omega arith in
    let written : digits ≡ fixed_digits decimals c.args.units = c.write_fixed_digits.ensures ∙ ap (λ n. fixed_digits n c.args.units) (width ∙ same) in
    take-put_mid start (start + decimals - start) old digits (start + decimals) (omega (arith, ap length written, length-fixed_digits decimals c.args.units)) (omega arith)
    ∙ ap₂ (λ (xs ys : List ℕ). xs ++ ys) c.append-start.ensures.bytes written
    ∙ append_assoc (take c.args.end c.args.into.now) (46 ∷ []) (fixed_digits decimals c.args.units)
    ∙ ap (λ (xs : List ℕ). take c.args.end c.args.into.now ++ xs) (sym (some_fraction decimals c.args.units c.if-decimals-eq0.false))

pub returns-clause-end : goal.returns-clause-end
returns-clause-end c =
    omega (arith, c.append-start.ensures.end, ap length (some_fraction c.args.decimals c.args.units c.if-decimals-eq0.false), length-fixed_digits c.args.decimals c.args.units)
