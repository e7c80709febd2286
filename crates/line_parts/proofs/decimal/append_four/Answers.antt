use Rattle.std.proofs.Common.{◌≡◌, ◌+◌, ◌/◌, ◌%◌, ◌-◌, ◌*◌, ◌∷◌, ◌++◌, [], ℕ, List, take, ap, ap₂, ◌∙◌, append_assoc, arith}
use Rattle.gx_base.proofs.Written.{same_further}
use Rattle.line_parts.proofs.decimal.append_four.Goals as goal

pub returns-clause-digits : goal.returns-clause-digits
returns-clause-digits c =
    let n = c.args.n in
    let before = take c.args.at c.args.into.now in
    let hundreds = c.hundredth-hundreds.result in
    let third : 48 + (n - hundreds * 100) / 10 ≡ 48 + n % 100 / 10 = omega arith in
    let last : 48 + (n - hundreds * 100) % 10 ≡ 48 + n % 10 = omega arith in
    c.append_pair.ensures.digits
    ∙ ap₂ (λ (a b : ℕ). take c.append_pair-end.result c.append_pair-end.new.into ++ a ∷ b ∷ []) third last
    ∙ ap (λ (xs : List ℕ). xs ++ (48 + n % 100 / 10) ∷ (48 + n % 10) ∷ []) (c.append_pair-end.ensures.digits ∙ ap (λ k. before ++ (48 + k / 10) ∷ (48 + k % 10) ∷ []) c.hundredth-hundreds.ensures)
    ∙ append_assoc before ((48 + n / 100 / 10) ∷ (48 + n / 100 % 10) ∷ []) ((48 + n % 100 / 10) ∷ (48 + n % 10) ∷ [])

pub returns-clause-behind : goal.returns-clause-behind
returns-clause-behind c =
    c.append_pair.ensures.behind
    ∙ same_further c.append_pair-end.result c.append_pair.result c.append_pair-end.new.into c.args.into.now (omega arith) c.append_pair-end.ensures.behind
