use Rattle.std.proofs.Common.{◌++◌, ℕ, List, take, sym, ap, ◌∙◌, arith}
use Rattle.std.proofs.lemmas.Fmt.{decimal_digit}
use Rattle.itoa.proofs.Decimal.{decimal_two, length_one, length_two}
use Rattle.line_parts.proofs.decimal.append_first.Goals as goal

pub returns-then-n-lt10-clause-digits : goal.returns-then-n-lt10-clause-digits
returns-then-n-lt10-clause-digits c = rw (decimal_digit c.args.n (omega arith)) (c.append_few.ensures.bytes)

pub returns-then-n-lt10-clause-end : goal.returns-then-n-lt10-clause-end
returns-then-n-lt10-clause-end c = omega (arith, c.append_few.ensures.end, length_one c.args.n (omega arith))

pub returns-clause-digits : goal.returns-clause-digits
returns-clause-digits c =
    c.append_pair.ensures.digits ∙ ap (λ (xs : List ℕ). take c.args.at c.args.into.now ++ xs) (sym (decimal_two c.args.n (omega arith) (omega arith)))

pub returns-clause-end : goal.returns-clause-end
returns-clause-end c = omega (arith, c.append_pair.ensures.end, length_two c.args.n (omega arith) (omega arith))
