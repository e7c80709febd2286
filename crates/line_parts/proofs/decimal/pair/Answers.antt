use Rattle.std.proofs.Common.{◌∷◌, [], ℕ, ap₂}
use Rattle.line_parts.proofs.Decimals.{digits_at}
use Rattle.line_parts.proofs.decimal.pair.Goals as goal

pub returns : goal.returns
returns c =
    let digits = digits_at c.args.n c.requires in
    ap₂ (λ (tens ones : ℕ). tens ∷ ones ∷ []) digits.0 digits.1
