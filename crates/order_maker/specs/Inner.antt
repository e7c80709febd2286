-- What the inner functions keep. Nothing of this need be believed: `read` promises `frames_from`.
use Rattle.std.specs.Prelude.{◌≡◌, ℕ, ◌+◌, ◌^◌, ◌<◌, ◌≤◌, nat_lt, if◌then◌else◌, length}
use Rattle.gx_base.specs.declared.order.Side.{Side}
use Rattle.gx_base.specs.declared.order.Side.TheVariants.{Buy, Sell}
use Rattle.product_file.specs.Products.{ProductLists}
use Rattle.order_maker.specs.declared.turn.Turn.{Turn}
use Rattle.order_maker.specs.Messages.{firm_at, instrument_at, side_at}

-- whose a message is, and what it is about
pub record IsTurn (p : ProductLists) (t : Turn) : Type 0 where
  pub firm : t.firm ≡ firm_at p t.number
  pub listed_firm : t.firm < length p.names.firms
  pub instrument : t.instrument ≡ instrument_at p t.number
  pub listed_instrument : t.instrument < length p.names.instruments
  pub side : t.side ≡ side_at p t.number

abbrev pub other : Side → Side
other Buy = Sell
other Sell = Buy

-- the side of a message of this firm of so many, after one of that side
abbrev pub side_after : Side → ℕ → ℕ → Side
side_after side firm firms = if nat_lt (firm + 1) firms then side else other side

-- the turn of the next message, of which so many are left
pub record Stands (p : ProductLists) (t : Turn) (left : ℕ) : Type 0 where
  pub some : 1 ≤ t.number
  pub few : t.number + left ≤ 2 ^ 32
  pub turn : IsTurn p t
