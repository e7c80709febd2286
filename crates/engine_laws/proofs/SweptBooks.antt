-- What a whole match keeps of the resting orders: their levels, the book's order, and that each shows some of its lots.
use Rattle.std.proofs.Common.{List}
use Rattle.gx_base.specs.declared.price.Price.{Price}
use Rattle.gx_base.specs.declared.order.Order.{Order}
use Rattle.step_config.specs.declared.step.Step.{Step}
use Rattle.plain_book.specs.declared.entry.Entry.{Entry}
use Rattle.plain_book.specs.Orders.{Level, level_of}
use Rattle.plain_book.specs.Match.{MatchState}
use Rattle.plain_book.specs.Steps.{trade_head}
use Rattle.plain_book.proofs.Live.{AllOrders}
use Rattle.level_sweep.specs.Sweep.{wanted_step, level_match, sweep}
use Rattle.level_sweep.proofs.EachTrade.{RestingStays, resting-kept, each-head, each-wanted, each-match, each-sweep}
use Rattle.level_sweep.proofs.EachOrder.{StaysTrue, AllStay, all-kept}
use Rattle.level_sweep.proofs.Standing.{IsInOrder, in-order-traded, in-order-marked}
use Rattle.level_sweep.proofs.Showing.{AreShowing, ShowingStays, showing-kept}

-- P holds of the level of each order
abbrev pub Levels : (Level → Type 0) → List Entry → Type 0
Levels P es = AllOrders (λ (o : Order). P (level_of o)) es

-- ---- levels

module _ (P : Level → Type 0) where
  abbrev LevelHolds : Entry → Type 0
  LevelHolds e = P (level_of e.order)

  -- no trade gives an order another level
  levels : StaysTrue LevelHolds
  levels = record { fills = λ n e x p q is some. p; refreshes = λ n e p some none. p; marks = λ n e x p q is. p }

  -- what holds of the levels of all orders holds of them after a sweep
  pub sweep-levels : (steps : List Step) (limit : Price) (m : MatchState) → Levels P m.book.resting → Levels P (sweep steps limit m).book.resting
  sweep-levels steps limit m a = each-sweep (AllStay LevelHolds levels) (all-kept LevelHolds levels) steps limit m a

-- ---- the book's order

pub sweep-in-order : (steps : List Step) (limit : Price) (m : MatchState) → IsInOrder m.book.resting → IsInOrder (sweep steps limit m).book.resting
sweep-in-order steps limit m r = each-sweep (RestingStays IsInOrder) (resting-kept IsInOrder in-order-traded in-order-marked) steps limit m r

-- ---- what is shown

pub showing-head : (es : List Entry) (m : MatchState) → AreShowing m.book.resting → AreShowing (trade_head es m).book.resting
showing-head es m a = each-head ShowingStays showing-kept es m a

pub showing-wanted : (s : Step) (price : Price) (m : MatchState) → AreShowing m.book.resting → AreShowing (wanted_step s price m).book.resting
showing-wanted s price m a = each-wanted ShowingStays showing-kept s price m a

pub showing-match : (steps : List Step) (price : Price) (m : MatchState) → AreShowing m.book.resting → AreShowing (level_match steps price m).book.resting
showing-match steps price m a = each-match ShowingStays showing-kept steps price m a
