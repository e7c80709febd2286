use Rattle.std.proofs.Common.{◌≡◌, ◌≤◌, None, length, refl, ap, ◌∙◌, vec_capacity, arith}
use Rattle.std.specs.FinMap as map
use Rattle.id_table.specs.declared.forest.Forest.{Forest}
use Rattle.id_table.specs.Ids.{Ids, Slots, key, with_slots}
use Rattle.id_table.specs.Inner.Nodes.{nowhere, slots_of}
use Rattle.id_table.proofs.Frees.{same_slots}
use Rattle.id_table.proofs.Kept.{forest_same, kept_insert, room_same}
use Rattle.id_table.proofs.table.IdTable.insert.Goals as goal

pub put-requires-clause-forest : goal.put-requires-clause-forest
put-requires-clause-forest c =
    let f = c.self.inside.forest in
    let h : Forest = record { buckets = f.buckets; nodes = c.take_free-at.new.nodes; capacity = f.capacity } in
    let few : length h.nodes.items ≤ nowhere = omega (arith, h.nodes.ok, c.take_free-at.ensures.nodes_room, c.self.invariant.1.nodes, c.self.ranges) in
    forest_same f h c.self.invariant.0.forest refl refl few c.take_free-at.ensures.freed.same

pub put-requires-clause-absent : goal.put-requires-clause-absent
put-requires-clause-absent c =
    let k = key c.args.firm c.args.id in
    ap (λ (m : Slots). map.get m k) (same_slots c.self.inside.forest.nodes.items c.take_free-at.new.nodes.items c.self.invariant.0.forest.trees.apart c.take_free-at.ensures.freed.same)
    ∙ ap (λ (t : Ids). map.get t.slots k) c.self.view_is ∙ c.requires.absent

pub invariant_of-self : goal.invariant_of-self
invariant_of-self c =
    let f = c.self.inside.forest in
    let k = key c.args.firm c.args.id in
    let h : Forest = record { buckets = f.buckets; nodes = c.take_free-at.new.nodes; capacity = f.capacity } in
    let g = c.put.new.self in
    let put = c.put.ensures in
    let slots = same_slots f.nodes.items h.nodes.items c.self.invariant.0.forest.trees.apart c.take_free-at.ensures.freed.same in
    let absent : map.get (slots_of f.nodes.items) k ≡ None = ap (λ (t : Ids). map.get t.slots k) c.self.view_is ∙ c.requires.absent in (
      kept_insert f h g c.self.inside.free.items c.take_free-at.new.free.items c.self.inside.live c.take_free-at.result k c.args.slot c.self.invariant.0 c.take_free-at.ensures.freed slots
          put.forest put.slots put.others put.room.long absent,
      room_same h g (vec_capacity c.take_free-at.new.free) (vec_capacity c.take_free-at.new.free)
          (record { buckets = c.self.invariant.1.buckets; nodes = c.take_free-at.ensures.nodes_room ∙ c.self.invariant.1.nodes; free = c.take_free-at.ensures.free_room ∙ c.self.invariant.1.free })
          put.room refl,
    )

pub returns : goal.returns
returns c =
    let f = c.self.inside.forest in
    let k = key c.args.firm c.args.id in
    let slots = same_slots f.nodes.items c.take_free-at.new.nodes.items c.self.invariant.0.forest.trees.apart c.take_free-at.ensures.freed.same in
    (λ i. record { capacity = c.put.ensures.room.capacity i; slots = (c.put.ensures.slots ∙ ap (λ (m : Slots). map.insert m k c.args.slot) slots) i })
    ∙ ap (λ (t : Ids). with_slots (map.insert t.slots k c.args.slot) t) c.self.view_is
