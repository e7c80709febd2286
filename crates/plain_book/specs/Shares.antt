-- The shares of a level's orders by a rule that looks at one order after the other.
use Rattle.std.specs.Prelude.{◌≡◌, ℕ, ◌-◌, ◌≤◌, List, [], ◌∷◌}
use Rattle.gx_base.specs.declared.order.Order.{Order}
use Rattle.plain_book.specs.declared.entry.Entry.{Entry}
use Rattle.plain_book.specs.Match.{Share}

-- no share has any lots
abbrev pub AreNone : List Share → Type 0
AreNone [] = Unit {0}
AreNone (share ∷ shares) = (share.1 ≡ 0) × AreNone shares

-- what a rule says: the share of an order, and the rule for the orders after it
pub record ShareMeanings (R : Type 0) : Type 0 where
  pub share : R → Order → ℕ
  pub behind : R → Order → R

module _ {R : Type 0} (m : ShareMeanings R) where
  -- the shares of some orders
  abbrev pub shares_by : R → List Entry → List Share
  shares_by rule [] = []
  shares_by rule (e ∷ es) = (e.slot, m.share rule e.order) ∷ shares_by (m.behind rule e.order) es

  -- no order trades more than it shows, and all together trade no more than is wanted
  abbrev pub AreWithin : ℕ → R → List Entry → Type 0
  AreWithin wanted rule [] = Unit {0}
  AreWithin wanted rule (e ∷ es) =
      (m.share rule e.order ≤ e.order.shown) × (m.share rule e.order ≤ wanted) × AreWithin (wanted - m.share rule e.order) (m.behind rule e.order) es
