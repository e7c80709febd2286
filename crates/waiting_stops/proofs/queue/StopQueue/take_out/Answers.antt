use Rattle.std.proofs.Common.{◌≡◌, ◌<◌, ℕ, false, List, length, slice_index_or, sym, ap, subst, ◌∙◌, arith}
use Rattle.std.proofs.lemmas.List.{length-map}
use Rattle.waiting_stops.specs.declared.place.Place.{Place}
use Rattle.waiting_stops.specs.Inner.Kept.{wait_at, no_place, stops_at, is_place_of, IsPlaceOf}
use Rattle.waiting_stops.proofs.Places.{stop-read, without-at, without-none}
use Rattle.waiting_stops.proofs.queue.StopQueue.take_out.Goals as goal

pub returns-in-Some-clause-waits : goal.returns-in-Some-clause-waits
returns-in-Some-clause-waits c =
    let ps = stops_at c.args.self.now.places.items in
    let at = subst (λ (l : List Place). IsPlaceOf c.args.slot.0 (stops_at l) c.in-Some.place) c.deref.ensures.value c.in-Some.ensures.found in
    c.empty.ensures.waits ∙ without-at c.args.slot.0 ps c.in-Some.place c.requires.differ at.within at.is

pub returns-in_default-clause-waits : goal.returns-in_default-clause-waits
returns-in_default-clause-waits c =
    let ps = c.args.self.now.places.items in
    let slot = c.args.slot.0 in
    let n = length-map ps wait_at in
    let nowhere = subst (λ (l : List Place). (k : ℕ) → k < length l → is_place_of slot (wait_at (slice_index_or l k no_place)) ≡ false) c.deref.ensures.value (c.place_of.ensures.none c.in_default.is) in
    without-none slot (stops_at ps) (λ k lt. ap (is_place_of slot) (sym (stop-read ps k (omega arith))) ∙ nowhere k (omega arith))
