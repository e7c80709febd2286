-- Lots that are spent over the orders of a level, as a rule of shares.
use Rattle.std.proofs.Common.{◌≡◌, ℕ, ◌-◌, ◌≤◌, min, List, [], ◌∷◌, refl, ap, arith}
use Rattle.plain_book.specs.declared.entry.Entry.{Entry}
use Rattle.plain_book.specs.Match.{Share}
use Rattle.plain_book.specs.Shares.{shares_by, AreWithin, AreNone}
use Rattle.plain_book.specs.Steps.{spent}
use Rattle.split_pass.specs.Spending.{spending}
use Rattle.split_pass.specs.declared.split.Spent.{Spent}

abbrev pub spent_of : ℕ → Spent
spent_of lots = record { left = lots }

pub shares-spent : (lots : ℕ) (es : List Entry) → shares_by spending (spent_of lots) es ≡ spent lots es
shares-spent lots [] = refl
shares-spent lots (e ∷ es) = ap (λ (xs : List Share). (e.slot, min lots e.order.shown) ∷ xs) (shares-spent (lots - min lots e.order.shown) es)

-- no more is spent than is wanted
pub spent-within : (wanted lots : ℕ) (es : List Entry) → lots ≤ wanted → AreWithin spending wanted (spent_of lots) es
spent-within wanted lots [] le = tt
spent-within wanted lots (e ∷ es) le =
    let n = min lots e.order.shown in (omega arith, omega arith, spent-within (wanted - n) (lots - n) es (omega arith))

-- once none is left, no order trades
pub spent-none : (lots : ℕ) (es : List Entry) → lots ≡ 0 → AreNone (shares_by spending (spent_of lots) es)
spent-none lots [] zero = tt
spent-none lots (e ∷ es) zero = (omega (arith, zero), spent-none (lots - min lots e.order.shown) es (omega (arith, zero)))
