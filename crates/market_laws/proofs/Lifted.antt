-- The laws of messages and trades, from what is right of each act.
use Rattle.std.proofs.Common.{List, inl, inr}
use Rattle.std.specs.List.{AllByRecursion}
use Rattle.product_file.specs.Products.{ProductLists}
use Rattle.plain_book.specs.Match.{MatchState}
use Rattle.order_kinds.specs.Histories.{last_product}
use Rattle.market_laws.specs.Acts.{Act, Trade, trades_among, EachAct, InEachMessage, OfEachTrade}
use Rattle.market_laws.specs.Trades.{IsFair, IsProtectedMarket}
use Rattle.market_laws.specs.RightActs.{IsRightAct}
use Rattle.market_laws.proofs.Chains.{trades-hold, each-with}
use Rattle.market_laws.proofs.Sound.{IsSound}
use Rattle.market_laws.proofs.Messages.{next-right}

-- what follows of right acts holds in each message
pub in-each : (Law : ProductLists → List Act → MatchState → Type 0) → ((product : ProductLists) (acts : List Act) (m : MatchState) → EachAct IsRightAct acts m → Law product acts m) → InEachMessage Law
in-each Law f next history right is = elim ((next-right history right is next).does) [
  | inl none ↦ inl none
  | inr does ↦ inr (record { start = does.start; acts = does.acts; are = does.are; law = f (last_product history) does.acts does.start (each-with IsSound IsRightAct (λ act m h. h.is) does.acts does.start does.law.0) })
]

-- what follows of fair trades holds of each trade
pub of-each : (Law : Trade → Type 0) → ((t : Trade) → IsFair t → Law t) → OfEachTrade Law
of-each Law f = in-each (λ product acts start. AllByRecursion Law (trades_among acts start)) (λ product acts m h. trades-hold IsRightAct Law (λ step slot lots n k. f _ k) acts m h)

-- each market order comes in protected
pub protected : InEachMessage (λ product acts start. IsProtectedMarket product start)
protected next history right is = elim ((next-right history right is next).does) [
  | inl none ↦ inl none
  | inr does ↦ inr (record { start = does.start; acts = does.acts; are = does.are; law = does.law.1 })
]
