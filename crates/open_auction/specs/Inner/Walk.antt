-- Where a walk over the candidates stands, and what is still to come.
use Rattle.std.specs.Prelude.{◌≡◌, ℕ, ◌<◌, Bool, int_lt, if◌then◌else◌, List, [], ◌∷◌, filter, map, sum_by, Option, Some, None}
use Rattle.gx_base.specs.declared.price.Price.{Price}
use Rattle.gx_base.specs.declared.order.Side.TheVariants.{Buy}
use Rattle.plain_book.specs.declared.entry.Entry.{Entry}
use Rattle.plain_book.specs.Orders.{side_of}
use Rattle.plain_book.specs.Book.{Book}
use Rattle.open_auction.specs.declared.quote.Opening.{Opening}
use Rattle.open_auction.specs.declared.walk.CandidateWalk.{CandidateWalk}
use Rattle.open_auction.specs.Curves.{supply}
use Rattle.open_auction.specs.Candidates.{candidates}
use Rattle.open_auction.specs.Openings.{opening_at, trades, chosen}

-- the higher of two prices, or the one that is there
abbrev pub higher : Option Price → Option Price → Option Price
higher None b = b
higher (Some p) None = Some p
higher (Some p) (Some q) = if int_lt p.0 q.0 then Some q else Some p

abbrev pub below : Price → Price → Bool
below p q = int_lt q.0 p.0

-- a price and those below it
abbrev pub from_price : Option Price → List Price → List Price
from_price None cs = []
from_price (Some p) cs = p ∷ filter (below p) cs

-- what is open of the buys above a price
abbrev pub demand_above : ℕ → List Entry → Price → ℕ
demand_above i es p = sum_by (λ e. e.order.leaves) (filter (λ e. int_lt p.0 e.order.price.0) (side_of i Buy es))

-- the sums of a walk that stands at a price
abbrev pub AreSums : ℕ → List Entry → Option Price → ℕ → ℕ → Type 0
AreSums i es None above within = Unit {0}
AreSums i es (Some p) above within = (above ≡ demand_above i es p) × (within ≡ supply i es p)

pub record IsWalk (b : Book) (w : CandidateWalk) : Type 0 where
  pub listed : w.instrument < b.instruments
  pub sums : AreSums w.instrument b.resting w.at w.above w.within

-- the openings that a walk has still to meet
abbrev pub to_come : List Entry → CandidateWalk → List Opening
to_come es w = map (opening_at w.instrument es) (from_price w.at (candidates w.instrument es))

abbrev pub first_of : List Opening → Option Opening
first_of [] = None
first_of (o ∷ os) = Some o

abbrev pub after_first : List Opening → List Opening
after_first [] = []
after_first (o ∷ os) = os

-- the best so far, and one more, if anything would trade at it
abbrev pub chosen_if : Option Price → Option Opening → Opening → Option Opening
chosen_if last best o = if trades o then chosen last best o else best
