use Rattle.std.proofs.Common.{ap, ◌∙◌}
use Rattle.waiting_stops.proofs.Lists.{list-is, seen-set}
use Rattle.waiting_stops.specs.Waits.{list_at, with_wait}
use Rattle.waiting_stops.proofs.stops.WaitingStops.put.Goals as goal

pub returns : goal.returns
returns c =
    let s = c.self.inside in
    let q = c.index_mut.result.now in
    let k = c.args.instrument in
    let now = c.args.self.now in
    let e = list-is s.queues.items k s.capacity now c.self.view_is c.requires.listed q c.index_mut.ensures.value in
    seen-set s.queues.items k s.capacity now c.self.view_is c.requires.listed q c.index_mut.ensures.value c.put.new.self (with_wait c.args.wait (list_at now.lists k)) (c.put.ensures.waits ∙ ap (with_wait c.args.wait) e)
