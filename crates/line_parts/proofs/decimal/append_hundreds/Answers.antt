use Rattle.std.proofs.Common.{◌≡◌, ◌/◌, ◌%◌, ◌-◌, ◌*◌, ◌+◌, ◌++◌, ℕ, List, decimal, length, take, sym, ap, ◌∙◌, append_assoc, arith}
use Rattle.itoa.proofs.Decimal.{pair, decimal_pair, length_pair}
use Rattle.gx_base.proofs.Written.{same_further}
use Rattle.line_parts.proofs.decimal.append_hundreds.Goals as goal

pub returns-clause-digits : goal.returns-clause-digits
returns-clause-digits c =
    let n = c.args.n in
    let before = take c.args.at c.args.into.now in
    let hundreds = c.hundredth-hundreds.result in
    let rest : n - hundreds * 100 ≡ n % 100 = omega arith in
    c.append_pair.ensures.digits
    ∙ ap (λ k. take c.append_first-end.result c.append_first-end.new.into ++ pair k) rest
    ∙ ap (λ (xs : List ℕ). xs ++ pair (n % 100)) (c.append_first-end.ensures.digits ∙ ap (λ k. before ++ decimal k) c.hundredth-hundreds.ensures)
    ∙ append_assoc before (decimal (n / 100)) (pair (n % 100))
    ∙ ap (λ (xs : List ℕ). before ++ xs) (sym (decimal_pair n (omega arith) (omega arith)))

pub returns-clause-behind : goal.returns-clause-behind
returns-clause-behind c =
    c.append_pair.ensures.behind
    ∙ same_further c.append_first-end.result c.append_pair.result c.append_first-end.new.into c.args.into.now (omega arith) c.append_first-end.ensures.behind

pub returns-clause-end : goal.returns-clause-end
returns-clause-end c =
    let first = c.append_first-end.ensures.end ∙ ap (λ k. c.args.at + length (decimal k)) c.hundredth-hundreds.ensures in
    omega (arith, c.append_pair.ensures.end, first, length_pair c.args.n (omega arith) (omega arith))
