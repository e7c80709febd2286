-- A whole sweep keeps what has been told of the open orders.
use Rattle.std.proofs.Common.{◌≤◌, List, arith}
use Rattle.std.specs.List.{AllByRecursion}
use Rattle.gx_base.specs.declared.price.Price.{Price}
use Rattle.gx_base.specs.declared.event.Event.{Event}
use Rattle.gx_base.specs.declared.event.StepName.TheVariants as name
use Rattle.step_config.specs.declared.step.Step.{Step}
use Rattle.step_config.specs.RightSteps.{IsRightStep}
use Rattle.plain_book.specs.declared.entry.Entry.{Entry}
use Rattle.plain_book.specs.Orders.{order_of}
use Rattle.plain_book.specs.Match.{MatchState}
use Rattle.plain_book.proofs.Pairs.{all-with}
use Rattle.plain_book.proofs.Live.{orders-at}
use Rattle.level_sweep.specs.Sweep.{sweep}
use Rattle.engine_laws.proofs.KeptByTrades.{IsKeptByTrades, kept-swept}
use Rattle.engine_laws.proofs.Trades.{Shows, Rests, InMatch, resting-differ, trade-kept, marks-kept}

module _ (before : List Event) where
  kept : IsKeptByTrades (InMatch before)
  kept = record {
    differ = resting-differ before;
    showing = λ m h. all-with Rests (λ (e : Entry). 1 ≤ e.order.shown) (λ e r. r.1.some) m.book.resting h.rest;
    trades = λ step s n m has fits meets wanted h.
        let es = m.book.resting in
        let shows : Shows (order_of s es) = orders-at Shows s es (all-with Rests (λ (e : Entry). Shows e.order) (λ e r. r.1) es h.rest) has in
        trade-kept before step s n m has (omega (arith, fits, shows.within)) meets.1 wanted h;
    marks = λ s n m has fits h. marks-kept before name.ProRata s n m has h;
  }

  pub sweep-kept : (steps : List Step) (limit : Price) → AllByRecursion IsRightStep steps → (m : MatchState) → InMatch before m → InMatch before (sweep steps limit m)
  sweep-kept steps limit right m h = kept-swept (InMatch before) kept steps limit right m h
