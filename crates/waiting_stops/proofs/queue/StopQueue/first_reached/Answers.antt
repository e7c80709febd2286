use Rattle.std.proofs.Common.{refl, sym, ap}
use Rattle.waiting_stops.specs.Waits.{first_slot, is_reached_wait}
use Rattle.waiting_stops.specs.Inner.Kept.{stops_at, place_at}
use Rattle.waiting_stops.proofs.Places.{passes-none}
use Rattle.waiting_stops.proofs.Blocks.{place-unreached}
use Rattle.waiting_stops.proofs.queue.StopQueue.first_reached.Goals as goal

pub returns-then-not-may_be_reached : goal.returns-then-not-may_be_reached
returns-then-not-may_be_reached c =
    let q = is_reached_wait (c.args.least, c.args.greatest) in
    let s = c.args.self.now in
    let ps = stops_at s.places.items in
    sym (ap first_slot (passes-none q ps (λ k lt. place-unreached s.whole q (c.if-not-may_be_reached.ensures refl) (place_at ps k) (c.requires.whole.covered k lt))))
