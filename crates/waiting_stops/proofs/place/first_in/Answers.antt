use Rattle.std.proofs.Common.{◌<◌, ℕ, sym, ap, ◌∙◌, arith}
use Rattle.std.proofs.lemmas.List.{length-map}
use Rattle.waiting_stops.proofs.Places.{is_place, stop-read, passes-none, passes-first}
use Rattle.waiting_stops.specs.Inner.Kept.{wait_at, stops_at}
use Rattle.waiting_stops.specs.Waits.{is_reached_wait, first_slot}
use Rattle.waiting_stops.proofs.place.first_in.Goals as goal

pub returns-then-is_in_reach : goal.returns-then-is_in_reach
returns-then-is_in_reach c =
    let ps = c.args.places.now in
    let q = is_reached_wait (c.args.least, c.args.greatest) in
    let i = c.loop-place.place-index in
    let n = length-map ps wait_at in
    let here = sym (stop-read ps i c.loop-place-test.true) ∙ sym c.wait.ensures ∙ c.in-Some.is in
    let before = λ (k : ℕ) (lt : k < i). ap (is_place q) (sym (stop-read ps k (omega arith))) ∙ c.loop-place.invariant k lt in
    sym (passes-first q (stops_at ps) i c.in-Some.wait (omega arith) here (sym c.if-is_in_reach.ensures) before)

pub returns : goal.returns
returns c =
    let ps = c.args.places.now in
    let q = is_reached_wait (c.args.least, c.args.greatest) in
    let n = length-map ps wait_at in
    sym (ap first_slot (passes-none q (stops_at ps) (λ k lt. ap (is_place q) (sym (stop-read ps k (omega arith))) ∙ c.loop-place.invariant k (omega arith))))
