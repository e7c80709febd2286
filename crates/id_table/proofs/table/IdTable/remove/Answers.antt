use Rattle.std.proofs.Common.{◌≢◌, ◌<◌, ◌-◌, List, ℕ, None, subst, sym, ap, ◌∙◌, vec_capacity, arith}
use Rattle.std.specs.FinMap as map
use Rattle.id_table.specs.Ids.{Ids, key}
use Rattle.id_table.specs.Inner.Nodes.{slots_of}
use Rattle.id_table.specs.Inner.Kept.{IsKept}
use Rattle.id_table.proofs.Kept.{kept_remove, room_same, some_live}
use Rattle.id_table.proofs.table.IdTable.remove.Goals as goal

pub push_reserved-requires : goal.push_reserved-requires
push_reserved-requires c =
    let inside = c.self.inside in
    let k = key c.args.firm c.args.id.now in
    let present : map.get (slots_of inside.forest.nodes.items) k ≢ None = λ e. c.requires (sym (ap (λ (t : Ids). map.get t.slots k) c.self.view_is) ∙ e) in
    let there : 0 < inside.live = some_live inside.forest inside.free.items inside.live k c.self.invariant.0 present in
    omega (arith, there, c.self.invariant.0.all, c.self.invariant.1.nodes, c.self.invariant.1.free, inside.forest.nodes.ok, inside.free.ok)

pub overflow_sub-self : goal.overflow_sub-self
overflow_sub-self c =
    let inside = c.self.inside in
    let k = key c.args.firm c.args.id.now in
    let present : map.get (slots_of inside.forest.nodes.items) k ≢ None = λ e. c.requires (sym (ap (λ (t : Ids). map.get t.slots k) c.self.view_is) ∙ e) in
    let there : 0 < inside.live = some_live inside.forest inside.free.items inside.live k c.self.invariant.0 present in
    omega (arith, there)

pub invariant_of-self : goal.invariant_of-self
invariant_of-self c =
    let inside = c.self.inside in
    let k = key c.args.firm c.args.id.now in
    let g = c.take.new.self in
    let taken = c.in-Some.ensures in
    let present : map.get (slots_of inside.forest.nodes.items) k ≢ None = λ e. c.requires (sym (ap (λ (t : Ids). map.get t.slots k) c.self.view_is) ∙ e) in (
      subst (λ (xs : List ℕ). IsKept g xs (inside.live - 1)) (sym c.push_reserved.ensures.items)
          (kept_remove inside.forest g inside.free.items inside.live k c.in-Some.taken c.self.invariant.0 c.take.ensures.forest c.take.ensures.slots taken.taken c.take.ensures.room.long present),
      room_same inside.forest g (vec_capacity inside.free) (vec_capacity c.push_reserved.new.self) c.self.invariant.1 c.take.ensures.room c.push_reserved.ensures.capacity,
    )
