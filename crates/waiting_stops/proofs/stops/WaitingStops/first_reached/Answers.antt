use Rattle.std.proofs.Common.{List, filter, ap, ◌∙◌}
use Rattle.waiting_stops.specs.declared.queue.Wait.{Wait}
use Rattle.waiting_stops.proofs.Lists.{list-is}
use Rattle.waiting_stops.specs.Waits.{first_slot, is_reached_wait}
use Rattle.waiting_stops.proofs.stops.WaitingStops.first_reached.Goals as goal

pub returns : goal.returns
returns c =
    let s = c.self.inside in
    let e = list-is s.queues.items c.args.instrument s.capacity c.args.self.now c.self.view_is c.requires c.index.result.now c.index.ensures in
    c.first_reached.ensures ∙ ap (λ (l : List Wait). first_slot (filter (is_reached_wait (c.args.least, c.args.greatest)) l)) e
