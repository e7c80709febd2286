-- The constant fronts of report lines: whole fields, which begin with the byte that ends the field before, and the tag of the next field.
use Rattle.std.specs.Prelude.{◌≡◌, ℕ, List, ◌∷◌, ◌++◌, map, codes}
use Rattle.gx_base.specs.Frames.{soh, field}
use Rattle.gx_base.specs.NameLists.{NameLists}
use Rattle.gx_base.specs.Line.{side_text}
use Rattle.gx_base.specs.declared.names.Listed.{Listed}
use Rattle.gx_base.specs.declared.order.Side.{Side}
use Rattle.gx_base.specs.declared.order.Side.TheVariants.{Buy, Sell}
use Rattle.gx_base.specs.declared.fronts.Fronts.{Fronts}
use Rattle.gx_base.specs.declared.fronts.SideFronts.{SideFronts}

-- the sender, before a time
abbrev pub exchange_front : List ℕ → List ℕ
exchange_front exchange = soh ∷ field "49" exchange ++ codes "52="

-- a firm as the addressee, before the number of an order
abbrev pub firm_front : List ℕ → List ℕ
firm_front firm = soh ∷ field "56" firm ++ codes "37="

-- an instrument and a side, before a quantity
abbrev pub instrument_front : List ℕ → Side → List ℕ
instrument_front instrument side = soh ∷ (field "55" instrument ++ field "54" (side_text side)) ++ codes "38="

-- those of both sides
abbrev pub side_fronts : Listed → SideFronts
side_fronts listed = record { buy = instrument_front listed.name Buy; sell = instrument_front listed.name Sell }

-- that of one side
abbrev pub side_front : SideFronts → Side → List ℕ
side_front fronts Buy = fronts.buy
side_front fronts Sell = fronts.sell

-- each name has its front
pub record AreFronts (names : NameLists) (fronts : Fronts) : Type 0 where
  pub exchange : fronts.exchange ≡ exchange_front names.exchange
  pub firms : fronts.firms.items ≡ map firm_front names.firms
  pub instruments : fronts.instruments.items ≡ map side_fronts names.instruments
