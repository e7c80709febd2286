use Rattle.std.proofs.Common.{◌*◌, List, set, take, drop, ap, subst, ◌∙◌}
use Rattle.waiting_stops.specs.declared.place.Place.{Place}
use Rattle.waiting_stops.specs.Inner.Kept.{stops_at, IsBoundOf, IsJoined}
use Rattle.waiting_stops.proofs.Blocks.{blocks-anew, joined-all}
use Rattle.waiting_stops.proofs.queue.StopQueue.narrow.Goals as goal

pub returns-then-is_of-clause-queue : goal.returns-then-is_of-clause-queue
returns-then-is_of-clause-queue c =
    let q = c.args.self.now in
    let h = c.requires.queue in
    let at = c.args.at in
    let b = c.bound_of.result in
    let part = c.block_of.ensures ∙ ap (λ (l : List Place). take 512 (drop (512 * at) (stops_at l))) c.deref.ensures.value in
    let anew = blocks-anew q.blocks.items (stops_at q.places.items) at b h.blocks (subst (IsBoundOf b) part c.bound_of.ensures) in
    record {
      blocks = anew;
      whole = joined-all c.joined-self.result (set q.blocks.items at b) (stops_at q.places.items) anew (subst (IsJoined c.joined-self.result) c.deref-then-is_of.ensures.value c.joined-self.ensures);
      count = h.count;
      roomy = h.roomy;
      blocks_roomy = h.blocks_roomy;
    }

pub returns-else-is_of-clause-queue : goal.returns-else-is_of-clause-queue
returns-else-is_of-clause-queue c =
    let q = c.args.self.now in
    let h = c.requires.queue in
    let at = c.args.at in
    let b = c.bound_of.result in
    let part = c.block_of.ensures ∙ ap (λ (l : List Place). take 512 (drop (512 * at) (stops_at l))) c.deref.ensures.value in
    record {
      blocks = blocks-anew q.blocks.items (stops_at q.places.items) at b h.blocks (subst (IsBoundOf b) part c.bound_of.ensures);
      whole = h.whole;
      count = h.count;
      roomy = h.roomy;
      blocks_roomy = h.blocks_roomy;
    }
