-- The names that a product lists.
use Rattle.std.specs.Prelude.{ℕ, ◌≤◌, List, map, length, bytes_eq}
use Rattle.std.specs.List.{IsDistinct, AllByRecursion}
use Rattle.gx_base.specs.declared.limits.TheConstants.{MOST_FIRMS, MOST_INSTRUMENTS, MOST_DECIMALS}
use Rattle.gx_base.specs.declared.names.Listed.{Listed}

pub record NameLists : Type 0 where
  pub exchange : List ℕ
  pub firms : List (List ℕ)
  pub instruments : List Listed

abbrev pub instrument_names : List Listed → List (List ℕ)
instrument_names listed = map (λ (l : Listed). l.name) listed

pub record AreRight (names : NameLists) : Type 0 where
  pub few_firms : length names.firms ≤ MOST_FIRMS
  pub few_instruments : length names.instruments ≤ MOST_INSTRUMENTS
  pub firms_differ : IsDistinct bytes_eq names.firms
  pub instruments_differ : IsDistinct bytes_eq (instrument_names names.instruments)
  pub few_decimals : AllByRecursion (λ (l : Listed). l.decimals ≤ MOST_DECIMALS) names.instruments
