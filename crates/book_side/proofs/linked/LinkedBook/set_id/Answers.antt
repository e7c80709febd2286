use Rattle.std.proofs.Common.{◌≡◌, None, sym, subst}
use Rattle.std.specs.FinMap as map
use Rattle.gx_base.specs.declared.order.Order.{Order}
use Rattle.id_table.specs.Ids.{key}
use Rattle.book_side.proofs.Seen.{live, order-is, id-there, id-absent}
use Rattle.book_side.proofs.Became.{named}
use Rattle.book_side.proofs.Reached.{stand-named}
use Rattle.book_side.proofs.linked.LinkedBook.set_id.Goals as goal

pub order-requires : goal.order-requires
order-requires c = live c.self.invariant.0 c.self.view_is c.args.slot.0 c.requires.live

pub set-requires : goal.set-requires
set-requires c = live c.self.invariant.0 c.self.view_is c.args.slot.0 c.requires.live

pub rename-requires-clause-present : goal.rename-requires-clause-present
rename-requires-clause-present c = id-there c.self.invariant.0 c.self.view_is c.args.slot.0 c.order.result.now c.requires.live c.order.ensures

pub rename-requires-clause-absent : goal.rename-requires-clause-absent
rename-requires-clause-absent c =
    let is = order-is c.self.invariant.0 c.self.view_is c.args.slot.0 c.order.result.now c.requires.live c.order.ensures in
    subst (λ (o : Order). map.get c.self.inside.ids.slots (key o.firm c.args.id) ≡ None) (sym is) (id-absent c.self.invariant.0 c.self.view_is _ c.args.id c.requires.unnamed)

pub invariant_of-self : goal.invariant_of-self
invariant_of-self c =
    ((named c.self.invariant.0 c.self.view_is c.args.slot c.args.id c.order.result.now c.requires.live c.requires.unnamed c.order.ensures c.set.ensures.queues c.set.ensures.live c.rename.ensures).linked, c.self.invariant.1, stand-named c.self.invariant.0 c.self.view_is c.self.invariant.2 c.args.slot.0 c.args.id c.order.result.now c.rules.ensures (live c.self.invariant.0 c.self.view_is c.args.slot.0 c.requires.live) c.order.ensures c.set.ensures.queues)

pub returns : goal.returns
returns c =
    (named c.self.invariant.0 c.self.view_is c.args.slot c.args.id c.order.result.now c.requires.live c.requires.unnamed c.order.ensures c.set.ensures.queues c.set.ensures.live c.rename.ensures).view
