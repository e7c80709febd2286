use Rattle.std.proofs.Common.{◌≡◌, ◌+◌, ◌/◌, ◌%◌, [], ◌∷◌, ◌++◌, ℕ, List, decimal, take, sym, ap, ◌∙◌, append_assoc, arith}
use Rattle.itoa.proofs.Decimal.{pair, decimal_four, length_four}
use Rattle.gx_base.proofs.Written.{same_further}
use Rattle.line_parts.proofs.decimal.append_any.Goals as goal

pub returns-then-n-lt100000000-clause-digits : goal.returns-then-n-lt100000000-clause-digits
returns-then-n-lt100000000-clause-digits c =
    let n = c.args.n in
    let before = take c.args.at c.args.into.now in
    let front = decimal (n / 10000) in
    let behind = pair (n % 10000 / 100) ++ (48 + n % 10000 % 100 / 10) ∷ (48 + n % 10000 % 10) ∷ [] in
    let rest : n % 10000 % 10 ≡ n % 10000 % 100 % 10 = omega arith in
    c.append_four.ensures.digits
    ∙ ap (λ (xs : List ℕ). xs ++ behind) c.append_short-end.ensures.digits
    ∙ append_assoc before front behind
    ∙ ap (λ k. before ++ (front ++ (pair (n % 10000 / 100) ++ (48 + n % 10000 % 100 / 10) ∷ (48 + k) ∷ []))) rest
    ∙ ap (λ (xs : List ℕ). before ++ xs) (sym (decimal_four n (omega arith) (omega arith)))

pub returns-then-n-lt100000000-clause-behind : goal.returns-then-n-lt100000000-clause-behind
returns-then-n-lt100000000-clause-behind c =
    c.append_four.ensures.behind
    ∙ same_further c.append_short-end.result c.append_four.result c.append_short-end.new.into c.args.into.now (omega arith) c.append_short-end.ensures.behind

pub returns-then-n-lt100000000-clause-end : goal.returns-then-n-lt100000000-clause-end
returns-then-n-lt100000000-clause-end c =
    omega (arith, c.append_four.ensures.end, c.append_short-end.ensures.end, length_four c.args.n (omega arith) (omega arith))
