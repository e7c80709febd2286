use Rattle.std.proofs.Common.{ℕ, sym, subst, arith, get_or, inl, inr}
use Rattle.std.proofs.lemmas.Bool.{cases_eq}
use Rattle.std.proofs.lemmas.List.{length-map}
use Rattle.waiting_stops.specs.declared.bound.Bound.{Bound}
use Rattle.waiting_stops.specs.declared.queue.Wait.{Wait}
use Rattle.waiting_stops.proofs.Blocks.{place-covered}
use Rattle.waiting_stops.proofs.Places.{stop-read}
use Rattle.waiting_stops.specs.Inner.Bounds.{IsCovered, IsPlaceCovered}
use Rattle.waiting_stops.specs.Inner.Kept.{wait_at, no_place}
use Rattle.waiting_stops.proofs.bound.bound_of.Goals as goal
use Rattle.waiting_stops.proofs.bound.bound_of.Goals.{in-Some, in_default}

pub loop-place-preserved : goal.loop-place-preserved
loop-place-preserved c = λ k lt.
    let ps = c.args.places.now in
    let i = c.loop-place.place-index in
    let new = c.match-wait.bound in
    let here : IsPlaceCovered new c.wait.result = elim c.match-wait.branch [
      | in-Some w ↦ subst (IsPlaceCovered new) (sym w.in-Some.is) (subst (λ (b : Bound). IsCovered b w.in-Some.wait) (sym w.bound-is) w.add.ensures.added)
      | in_default w ↦ subst (IsPlaceCovered new) (sym w.in_default.is) tt
    ] in
    let more : (v : Wait) → IsCovered c.loop-place.bound v → IsCovered new v = elim c.match-wait.branch [
      | in-Some w ↦ λ v h. subst (λ (b : Bound). IsCovered b v) (sym w.bound-is) (w.add.ensures.others v h)
      | in_default w ↦ λ v h. subst (λ (b : Bound). IsCovered b v) (sym w.bound-is) h
    ] in
    elim (cases_eq k i) [
      | inl e ↦ subst (λ (j : ℕ). IsPlaceCovered new (wait_at (get_or ps j no_place))) (sym e) (subst (IsPlaceCovered new) c.wait.ensures here)
      | inr ne ↦ place-covered c.loop-place.bound new more (wait_at (get_or ps k no_place)) (c.loop-place.invariant k (omega arith))
    ]

pub returns : goal.returns
returns c =
    let ps = c.args.places.now in
    let n = length-map ps wait_at in
    record { covered = λ k lt. subst (IsPlaceCovered c.loop-place.bound) (stop-read ps k (omega arith)) (c.loop-place.invariant k (omega arith)) }
