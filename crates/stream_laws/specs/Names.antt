-- What the law asks of the names that a product lists.
use Rattle.std.specs.Prelude.{ℕ, ◌≤◌, List, IsTrue}
use Rattle.std.specs.List.{All}
use Rattle.gx_base.specs.NameLists.{NameLists}
use Rattle.gx_base.specs.Texts.{is_name}
use Rattle.gx_base.specs.declared.limits.TheConstants.{MOST_DECIMALS}
use Rattle.gx_base.specs.declared.names.Listed.{Listed}

-- an instrument has a name, and few decimals
abbrev pub IsListed : Listed → Type 0
IsListed listed = IsTrue (is_name listed.name) × (listed.decimals ≤ MOST_DECIMALS)

-- the exchange and the firms have names, and so have the instruments
pub record AreNames (names : NameLists) : Type 0 where
  pub exchange : IsTrue (is_name names.exchange)
  pub firms : All (λ (firm : List ℕ). IsTrue (is_name firm)) names.firms
  pub instruments : All IsListed names.instruments
