-- An order that is entered: it is matched, and what is left of it rests or is cancelled. A level stays as long as no event tells of it.
use Rattle.std.proofs.Common.{◌≡◌, ℕ, Bool, true, false, cond, List, sym, ap, ◌∙◌, arith}
use Rattle.std.specs.Prelude.{◌==◌, nat_lt}
use Rattle.gx_base.specs.declared.order.Order.{Order}
use Rattle.gx_base.specs.declared.event.Cause.{Cause}
use Rattle.gx_base.specs.declared.event.Cause.TheVariants as cause
use Rattle.step_config.specs.declared.step.Step.{Step}
use Rattle.plain_book.specs.Orders.{Level}
use Rattle.plain_book.specs.Book.{resting_placed}
use Rattle.plain_book.specs.Match.{MatchState}
use Rattle.level_sweep.specs.Sweep.{sweep}
use Rattle.level_sweep.proofs.Swept.{sweep-order}
use Rattle.order_kinds.specs.NewOrders.{may_rest}
use Rattle.order_kinds.specs.Entering.{cancel_event, taker_cancelled, top_min_of, as_limit, taker_rested, finished, open_for, entered}
use Rattle.engine_laws.proofs.Singles.{once_of, times-append, times-rested}
use Rattle.engine_laws.proofs.LevelSums.{WeighsLevel, weights-rested}
use Rattle.engine_laws.proofs.Matching.{report-before, with-single, IsMatching, IsAtRest, matching-ends, sweep-kept}

module _ (k : Level) (weight : Order → ℕ) (of : WeighsLevel k weight) (start : ℕ) where
  abbrev Matches : MatchState → Type 0
  Matches m = IsMatching k weight start m

  abbrev Rests : MatchState → Type 0
  Rests m = IsAtRest k weight start m

  -- what is open of it is cancelled
  cancelled-kept : (why : Cause) (m : MatchState) → Matches m → Rests (taker_cancelled why m)
  cancelled-kept why m h = record {
    single = with-single m.taker.order.number m.book h.single;
    waits = h.waits;
    same = λ none. (h.untold (report-before k (cancel_event why) m.taker.order m none)).same;
  }

  -- it comes to rest, at a level of which an event told when it came in
  rested-kept : (name : ℕ) (steps : List Step) (m : MatchState) → name ≡ m.taker.order.number → Matches m → Rests (taker_rested name steps m)
  rested-kept name steps m named h =
      let o = as_limit m.taker.order in
      let es = m.book.resting in
      let ws = m.book.waiting in
      let least = top_min_of steps in
      record {
        single = λ s. omega (arith, h.single s, times-append s es ws, times-append s (resting_placed name o least es) ws, times-rested s name o least es, ap (λ (n : ℕ). once_of n s) named);
        waits = h.waits;
        same = λ none. let was = h.untold none in weights-rested k weight of name o least es was.own ∙ was.same;
      }

  finished-kept : (name : ℕ) (steps : List Step) (m : MatchState) → name ≡ m.taker.order.number → Matches m → Rests (finished name steps m)
  finished-kept name steps m named h =
      let go : (a b : Bool) → Rests (cond a m (cond b (taker_rested name steps m) (taker_cancelled cause.Fak m))) = elim [
        | true ↦ λ b. matching-ends k weight start m h
        | false ↦ elim [ true ↦ rested-kept name steps m named h | false ↦ cancelled-kept cause.Fak m h ]
      ] in go (m.taker.order.leaves == 0) (may_rest m.taker.order.life)

  pub entered-kept : (name : ℕ) (steps : List Step) (m : MatchState) → name ≡ m.taker.order.number → Matches m → Rests (entered name steps m)
  entered-kept name steps m named h =
      let limit = m.taker.order.price in
      let swept = sweep steps limit m in
      let number : name ≡ swept.taker.order.number = named ∙ sym (ap (λ (o : Order). o.number) (sweep-order steps limit m)) in
      let go : (c : Bool) → Rests (cond c (taker_cancelled cause.MinQty m) (finished name steps swept)) = elim [
        | true ↦ cancelled-kept cause.MinQty m h
        | false ↦ finished-kept name steps swept number (sweep-kept k weight start of steps limit m h)
      ] in go (nat_lt (open_for m) m.taker.order.min)
