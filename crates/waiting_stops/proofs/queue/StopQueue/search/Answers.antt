use Rattle.std.proofs.Common.{◌≡◌, ◌+◌, ◌*◌, ℕ, List, [], filter, take, drop, Option, refl, sym, ap, subst, ◌∙◌, arith}
use Rattle.waiting_stops.specs.declared.bound.Bound.{Bound}
use Rattle.waiting_stops.specs.declared.place.Place.{Place}
use Rattle.waiting_stops.specs.declared.queue.Wait.{Wait}
use Rattle.waiting_stops.specs.Waits.{first_slot, is_reached_wait}
use Rattle.waiting_stops.specs.Inner.Bounds.{IsCovered}
use Rattle.waiting_stops.specs.Inner.Kept.{stops_at, waits_in}
use Rattle.waiting_stops.proofs.Blocks.{blocks-unreached, found-first, none-in, none-yet}
use Rattle.waiting_stops.proofs.queue.StopQueue.search.Goals as goal
use Rattle.waiting_stops.proofs.queue.StopQueue.search.Goals.{then-may_be_reached+else-is_some, else-may_be_reached}

pub returns-then-is_some : goal.returns-then-is_some
returns-then-is_some c =
    let q = is_reached_wait (c.args.least, c.args.greatest) in
    let ps = stops_at c.args.self.now.places.items in
    let k = c.loop-k.k in
    let part = c.block_of.ensures ∙ ap (λ (l : List Place). take 512 (drop (512 * k) (stops_at l))) c.deref.ensures.value in
    let found = c.first_in-found.ensures ∙ ap (λ (l : List (Option Wait)). first_slot (filter q (waits_in l))) part in
    found-first q 512 (512 * k) ps c.first_in-found.result (sym c.if-is_some.ensures) found c.loop-k.invariant

pub loop-k-preserved : goal.loop-k-preserved
loop-k-preserved c =
    let q = is_reached_wait (c.args.least, c.args.greatest) in
    let s = c.args.self.now in
    let ps = stops_at s.places.items in
    let k = c.loop-k.k in
    let here : filter q (waits_in (take 512 (drop (512 * k) ps))) ≡ [] = elim c.if-may_be_reached.branch [
      | then-may_be_reached+else-is_some w ↦
          let part = w.block_of.ensures ∙ ap (λ (l : List Place). take 512 (drop (512 * k) (stops_at l))) w.deref.ensures.value in
          let found = w.first_in-found.ensures ∙ ap (λ (l : List (Option Wait)). first_slot (filter q (waits_in l))) part in
          none-in q 512 (512 * k) ps w.first_in-found.result (sym w.if-is_some.ensures) found
      | else-may_be_reached w ↦
          let b = c.index.result.now in
          blocks-unreached k b q s.blocks.items ps c.requires.blocks (λ v h. w.if-may_be_reached.ensures refl v (subst (λ (x : Bound). IsCovered x v) (sym c.index.ensures) h))
    ] in
    let next : 512 * k + 512 ≡ 512 * (k + 1) = omega arith in
    subst (λ (n : ℕ). filter q (waits_in (take n ps)) ≡ []) next (none-yet q 512 (512 * k) ps c.loop-k.invariant here)
