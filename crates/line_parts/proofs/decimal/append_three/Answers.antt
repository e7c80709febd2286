use Rattle.std.proofs.Common.{◌≡◌, ◌/◌, ◌%◌, ◌-◌, ◌*◌, ◌++◌, ℕ, List, decimal, take, sym, ap, ◌∙◌, append_assoc, arith}
use Rattle.std.proofs.lemmas.Fmt.{decimal_digit}
use Rattle.itoa.proofs.Decimal.{pair, decimal_pair}
use Rattle.gx_base.proofs.Written.{same_further}
use Rattle.line_parts.proofs.decimal.append_three.Goals as goal

pub returns-clause-digits : goal.returns-clause-digits
returns-clause-digits c =
    let n = c.args.n in
    let before = take c.args.at c.args.into.now in
    let hundreds = c.hundredth-hundreds.result in
    let rest : n - hundreds * 100 ≡ n % 100 = omega arith in
    c.append_pair.ensures.digits
    ∙ ap (λ k. take c.append_few-end.result c.append_few-end.new.into ++ pair k) rest
    ∙ ap (λ (xs : List ℕ). xs ++ pair (n % 100)) (c.append_few-end.ensures.bytes ∙ ap (λ (xs : List ℕ). before ++ xs) (sym (decimal_digit hundreds (omega arith))) ∙ ap (λ k. before ++ decimal k) c.hundredth-hundreds.ensures)
    ∙ append_assoc before (decimal (n / 100)) (pair (n % 100))
    ∙ ap (λ (xs : List ℕ). before ++ xs) (sym (decimal_pair n (omega arith) (omega arith)))

pub returns-clause-behind : goal.returns-clause-behind
returns-clause-behind c =
    c.append_pair.ensures.behind
    ∙ same_further c.append_few-end.result c.append_pair.result c.append_few-end.new.into c.args.into.now (omega arith) c.append_few-end.ensures.behind
