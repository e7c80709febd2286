-- What a function that takes part in a match says of its arguments.
use Rattle.std.specs.Prelude.{◌≡◌, ℕ, ◌+◌, ◌*◌, ◌^◌, ◌<◌, ◌≤◌, slice_index, false}
use Rattle.gx_base.specs.declared.limits.TheConstants.{MOST_FIRMS, MOST_LOTS}
use Rattle.gx_base.specs.declared.order.Desk.{Desk}
use Rattle.gx_base.specs.declared.order.Taker.{Taker}
use Rattle.gx_base.specs.Emits.{EmitMeanings, Emits}
use Rattle.plain_book.specs.Orders.{is_live}
use Rattle.plain_book.specs.Book.{Book, live_orders}
use Rattle.plain_book.specs.Match.{MatchState, match_start}

-- what such a function is given, at one time: the book, the counters, the incoming order, and what takes the events
pub record MatchAt (E : Type 0) : Type 0 where
  pub book : Book
  pub desk : Desk
  pub taker : Taker
  pub out : E

abbrev pub match_at : {E : Type 0} → Book → Desk → Taker → E → MatchAt E
match_at book desk taker out = record { book = book; desk = desk; taker = taker; out = out }

-- the state of a match that starts with what it is given
abbrev pub start_at : {E : Type 0} → MatchAt E → MatchState
start_at given = match_start given.book given.desk given.taker

-- the book, the counters and the incoming order are those of a state
pub record IsNow (m : MatchState) (b : Book) (d : Desk) (t : Taker) : Type 0 where
  pub book : b ≡ m.book
  pub desk : d ≡ m.desk
  pub taker : t ≡ m.taker

-- the incoming order fits the book, its quantities add up, and each counter has room for what it can still trade
pub record CanTrade (b : Book) (d : Desk) (t : Taker) : Type 0 where
  pub listed : t.order.instrument < b.instruments
  pub firm : t.order.firm < MOST_FIRMS
  pub unnamed : is_live t.order.firm t.order.id (live_orders b) ≡ false
  pub whole : t.order.filled + t.order.leaves ≡ t.order.quantity
  pub small : t.order.quantity ≤ MOST_LOTS
  pub messages : d.messages + 2 * t.order.leaves < 2 ^ 63
  pub orders : d.orders + 2 * t.order.leaves < 2 ^ 63
  pub trades : d.trades + 2 * t.order.leaves < 2 ^ 63
  pub reports : d.reports + 2 * t.order.leaves < 2 ^ 63
  pub lines : (firm : ℕ) → slice_index d.lines firm + 2 * t.order.leaves < 2 ^ 63

-- no counter together with twice the lots that are still wanted is above what it was with those that were wanted before
pub record KeepsRoom (old : Desk) (wanted : ℕ) (new : Desk) (left : ℕ) : Type 0 where
  pub messages : new.messages ≡ old.messages
  pub orders : new.orders ≡ old.orders
  pub fewer : left ≤ wanted
  pub trades : new.trades + 2 * left ≤ old.trades + 2 * wanted
  pub reports : new.reports + 2 * left ≤ old.reports + 2 * wanted
  pub lines : (firm : ℕ) → slice_index new.lines firm + 2 * left ≤ slice_index old.lines firm + 2 * wanted

-- A part of a match was done: the book, the counters and the incoming order are as it leaves them, its events were put,
-- the match can go on, and no counter used up more room than the lots that were traded leave.
pub record Matches {E : Type 0} (m : EmitMeanings E) (part : MatchState → MatchState) (before after : MatchAt E) : Type 0 where
  pub now : IsNow (part (start_at before)) after.book after.desk after.taker
  pub emits : Emits m before.out after.out (part (start_at before)).events
  pub can : CanTrade after.book after.desk after.taker
  pub room : KeepsRoom before.desk before.taker.order.leaves after.desk after.taker.order.leaves
