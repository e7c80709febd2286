use Rattle.std.proofs.Common.{◌≡◌, List, filter, length, sym, ap, subst, ◌∙◌, arith, ℕ, rules}
use Rattle.std.proofs.lemmas.Fn.{filter_same}
use Rattle.std.proofs.lemmas.List.{length-map}
use Rattle.waiting_stops.specs.declared.place.Place.{Place}
use Rattle.waiting_stops.proofs.Places.{is_taken, stops-kept, taken-waits, taken-length}
use Rattle.waiting_stops.proofs.Blocks.{joined-all}
use Rattle.waiting_stops.specs.Inner.Kept.{wait_at, stops_at, waits_in, AreBlocks, IsJoined}
use Rattle.waiting_stops.proofs.queue.StopQueue.close_up.Goals as goal

pub returns-clause-queue : goal.returns-clause-queue
returns-clause-queue c =
    let old = c.args.self.now.places.items in
    let new = c.retain.new.self.items in
    let kept : new ≡ filter is_taken old = filter_same _ is_taken _ (λ x b f' k. search rules) old new c.retain.ensures.filtered in
    let h = c.requires.queue in
    let bs = c.fill_blocks.new.blocks.items in
    let blocks = subst (λ (l : List Place). AreBlocks bs (stops_at l)) c.deref-2.ensures.value c.fill_blocks.ensures.blocks in
    record {
      blocks = blocks;
      whole = joined-all c.joined-self.result bs (stops_at new) blocks (subst (IsJoined c.joined-self.result) c.deref-3.ensures.value c.joined-self.ensures);
      count = h.count ∙ sym (ap (λ (l : List Place). length (waits_in (stops_at l))) kept ∙ ap length (ap waits_in (stops-kept old) ∙ taken-waits (stops_at old)));
      roomy = omega (arith, h.roomy, c.retain.ensures.capacity);
      blocks_roomy = omega (arith, h.blocks_roomy, c.retain.ensures.capacity, c.fill_blocks.ensures.room);
    }

pub returns-clause-waits : goal.returns-clause-waits
returns-clause-waits c =
    let old = c.args.self.now.places.items in
    let kept : c.retain.new.self.items ≡ filter is_taken old = filter_same _ is_taken _ (λ x b f' k. search rules) old c.retain.new.self.items c.retain.ensures.filtered in
    ap (λ (l : List Place). waits_in (stops_at l)) kept ∙ ap waits_in (stops-kept old) ∙ taken-waits (stops_at old)

pub returns-clause-closed : goal.returns-clause-closed
returns-clause-closed c =
    let old = c.args.self.now.places.items in
    let new = c.retain.new.self.items in
    let kept : new ≡ filter is_taken old = filter_same _ is_taken _ (λ x b f' k. search rules) old new c.retain.ensures.filtered in
    let n = ap {B = ℕ} (λ (l : List Place). length (stops_at l)) kept in
    let m = ap {B = ℕ} length (stops-kept old) in
    omega (arith, taken-length (stops_at old), length-map new wait_at, c.retain.new.self.ok.0)
