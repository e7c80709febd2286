use Rattle.std.proofs.Common.{◌≡◌, List, [], ◌∷◌, length, Option, Some, sym, ap, subst, ◌∙◌, arith, length-append, ℕ}
use Rattle.std.proofs.lemmas.List.{length-map}
use Rattle.waiting_stops.specs.declared.place.Place.{Place}
use Rattle.waiting_stops.specs.declared.queue.Wait.{Wait}
use Rattle.waiting_stops.proofs.Places.{stops-more, waits-append, length-waits}
use Rattle.waiting_stops.proofs.Blocks.{blocks-more, bound-more}
use Rattle.waiting_stops.specs.Inner.Kept.{wait_at, stops_at, waits_in, AreBlocks, IsBoundOf, AreWidened}
use Rattle.waiting_stops.proofs.queue.StopQueue.push.Goals as goal

pub overflow_add-self : goal.overflow_add-self
overflow_add-self c =
    let q = c.args.self.now in
    let h = c.requires.queue in
    let n = length-waits (stops_at q.places.items) in
    let m = length-map q.places.items wait_at in
    let room = c.requires.room in
    omega (arith, q.places.ok.0, h.count, h.roomy)

pub returns-clause-queue : goal.returns-clause-queue
returns-clause-queue c =
    let q = c.args.self.now in
    let h = c.requires.queue in
    let ps = stops_at q.places.items in
    let w = c.args.wait in
    let is = ap stops_at c.push_reserved.ensures.items ∙ stops-more q.places.items c.taken.result w c.taken.ensures in
    let m = length-map q.places.items wait_at in
    let long : c.len.result ≡ length ps = omega (arith, q.places.ok.0) in
    let wide = subst (λ (n : ℕ). AreWidened q.blocks.items c.widen.new.blocks.items n w) long c.widen.ensures.widened in
    record {
      blocks = subst (AreBlocks c.widen.new.blocks.items) (sym is) (blocks-more ps w q.blocks.items c.widen.new.blocks.items h.blocks wide);
      whole = subst (IsBoundOf c.add.new.self) (sym is) (bound-more ps w q.whole c.add.new.self h.whole c.add.ensures.added c.add.ensures.others);
      count =
          let e = ap {B = ℕ} (λ (l : List (Option Wait)). length (waits_in l)) is in
          let a = ap {B = ℕ} length (waits-append ps (Some w ∷ [])) in
          let n = length-append (waits_in ps) (w ∷ []) in
          omega (arith, h.count);
      roomy = omega (arith, h.roomy, c.push_reserved.ensures.capacity);
      blocks_roomy = omega (arith, h.blocks_roomy, c.push_reserved.ensures.capacity, c.widen.ensures.room);
    }

pub returns-clause-waits : goal.returns-clause-waits
returns-clause-waits c =
    let ps = c.args.self.now.places.items in
    ap (λ (l : List Place). waits_in (stops_at l)) c.push_reserved.ensures.items ∙ ap waits_in (stops-more ps c.taken.result c.args.wait c.taken.ensures) ∙ waits-append (stops_at ps) (Some c.args.wait ∷ [])
