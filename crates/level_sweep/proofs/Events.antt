-- What is done does not depend on the events so far.
use Rattle.std.proofs.Common.{◌≡◌, ℕ, List, [], ◌∷◌, refl, ap, ◌∙◌, Option, Some, None}
use Prim.Native.Nat.{zero, suc}
use Rattle.std.specs.Prelude.{min}
use Rattle.gx_base.specs.declared.price.Price.{Price}
use Rattle.gx_base.specs.declared.event.StepName.TheVariants as name
use Rattle.step_config.specs.declared.step.Step.{Step}
use Rattle.plain_book.specs.declared.entry.Entry.{Entry}
use Rattle.plain_book.specs.Steps.{level_now, trade_head, fifo_rounds}
use Rattle.plain_book.proofs.TradedShares.{with_events, IgnoresEvents, share-ignores, shares-ignore}
use Rattle.level_sweep.specs.Sweep.{level_match, wanted_step, next_price, match_next, sweep_rounds, sweep}
use Rattle.level_sweep.proofs.EachTrade.{wanted-cases}

head-ignores : (xs : List Entry) → IgnoresEvents (trade_head xs)
head-ignores [] es m = refl
head-ignores (x ∷ xs) es m = share-ignores name.Fifo x.slot (min m.taker.order.leaves x.order.shown) es m

fifo-ignores : (price : Price) (n : ℕ) → IgnoresEvents (fifo_rounds n price)
fifo-ignores price zero es m = refl
fifo-ignores price (suc n) es m = ap (fifo_rounds n price) (head-ignores (level_now price m) es m) ∙ fifo-ignores price n es (trade_head (level_now price m) m)

pub wanted-ignores : (s : Step) (price : Price) → IgnoresEvents (wanted_step s price)
wanted-ignores s price es m = wanted-cases (λ a b. a ≡ with_events es b) price es m (λ step xs. shares-ignore step xs es m) (fifo-ignores price m.taker.order.leaves es m) refl s

pub match-ignores : (steps : List Step) (price : Price) → IgnoresEvents (level_match steps price)
match-ignores [] price es m = refl
match-ignores (s ∷ ss) price es m = ap (level_match ss price) (wanted-ignores s price es m) ∙ match-ignores ss price es (wanted_step s price m)

next-ignores : (steps : List Step) (next : Option Price) → IgnoresEvents (match_next steps next)
next-ignores steps None es m = refl
next-ignores steps (Some price) es m = match-ignores steps price es m

rounds-ignore : (n : ℕ) (steps : List Step) (limit : Price) → IgnoresEvents (sweep_rounds n steps limit)
rounds-ignore zero steps limit es m = refl
rounds-ignore (suc n) steps limit es m =
    let next = next_price limit m.book m.taker in
    ap (sweep_rounds n steps limit) (next-ignores steps next es m) ∙ rounds-ignore n steps limit es (match_next steps next m)

pub sweep-ignores : (steps : List Step) (limit : Price) → IgnoresEvents (sweep steps limit)
sweep-ignores steps limit es m = rounds-ignore m.taker.order.leaves steps limit es m
