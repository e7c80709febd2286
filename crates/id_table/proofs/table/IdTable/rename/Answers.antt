use Rattle.std.proofs.Common.{◌≡◌, ◌≢◌, None, refl, sym, ap, ◌∙◌, vec_capacity}
use Rattle.std.specs.FinMap as map
use Rattle.id_table.specs.Ids.{Ids, Slots, key}
use Rattle.id_table.specs.Inner.Nodes.{slots_of}
use Rattle.id_table.proofs.Kept.{kept_rename, room_same, absent_without}
use Rattle.id_table.proofs.table.IdTable.rename.Goals as goal

pub put-requires-clause-absent : goal.put-requires-clause-absent
put-requires-clause-absent c =
    let k = key c.args.firm c.args.old.now in
    let q = key c.args.firm c.args.new in
    let absent : map.get (slots_of c.self.inside.forest.nodes.items) q ≡ None = ap (λ (t : Ids). map.get t.slots q) c.self.view_is ∙ c.requires.absent in
    ap (λ (m : Slots). map.get m q) c.take.ensures.slots ∙ absent_without (slots_of c.self.inside.forest.nodes.items) k q absent

pub invariant_of-self : goal.invariant_of-self
invariant_of-self c =
    let inside = c.self.inside in
    let f = inside.forest in
    let h = c.take.new.self in
    let g = c.put.new.self in
    let k = key c.args.firm c.args.old.now in
    let q = key c.args.firm c.args.new in
    let present : map.get (slots_of f.nodes.items) k ≢ None = λ e. c.requires.present (sym (ap (λ (t : Ids). map.get t.slots k) c.self.view_is) ∙ e) in
    let absent : map.get (slots_of f.nodes.items) q ≡ None = ap (λ (t : Ids). map.get t.slots q) c.self.view_is ∙ c.requires.absent in (
      kept_rename f h g inside.free.items inside.live k q c.in-Some.taken.slot c.in-Some.taken c.self.invariant.0 c.take.ensures.slots c.in-Some.ensures.taken c.take.ensures.room.long
          c.put.ensures.forest c.put.ensures.slots c.put.ensures.others c.put.ensures.room.long present absent,
      room_same h g (vec_capacity inside.free) (vec_capacity inside.free) (room_same f h (vec_capacity inside.free) (vec_capacity inside.free) c.self.invariant.1 c.take.ensures.room refl) c.put.ensures.room refl,
    )
