use Rattle.std.proofs.Common.{◌<◌, refl, length, arith}
use Rattle.id_table.specs.declared.forest.Forest.{Forest}
use Rattle.id_table.proofs.Fields.{put_forest, put_slots, put_lives}
use Rattle.id_table.proofs.forest.Forest.put.Goals as goal

pub set_link-requires : goal.set_link-requires
set_link-requires c = c.spot_of-spot.ensures.on.within

pub returns-clause-forest : goal.returns-clause-forest
returns-clause-forest c =
    let within : c.args.at < length c.args.self.now.nodes.items = omega (arith, c.requires.within, c.args.self.now.nodes.ok) in
    put_forest c.args.self.now c.set_link.new.self _ c.requires.forest refl refl c.spot_of-spot.result c.args.at c.args.entry c.spot_of-spot.ensures within c.requires.free c.requires.live c.requires.absent
    c.set_link.ensures.linked c.set_entry.ensures.set

pub returns-clause-slots : goal.returns-clause-slots
returns-clause-slots c =
    let within : c.args.at < length c.args.self.now.nodes.items = omega (arith, c.requires.within, c.args.self.now.nodes.ok) in
    let h : Forest = record { buckets = c.set_link.new.self.buckets; nodes = c.set_entry.new.nodes; capacity = c.set_link.new.self.capacity } in
    put_slots c.args.self.now c.set_link.new.self h c.requires.forest refl refl c.spot_of-spot.result c.args.at c.args.entry c.spot_of-spot.ensures within c.requires.free c.requires.live c.requires.absent
    c.set_link.ensures.linked c.set_entry.ensures.set

pub returns-clause-others : goal.returns-clause-others
returns-clause-others c =
    let within : c.args.at < length c.args.self.now.nodes.items = omega (arith, c.requires.within, c.args.self.now.nodes.ok) in
    let h : Forest = record { buckets = c.set_link.new.self.buckets; nodes = c.set_entry.new.nodes; capacity = c.set_link.new.self.capacity } in
    put_lives c.args.self.now c.set_link.new.self h c.requires.forest refl refl c.spot_of-spot.result c.args.at c.args.entry c.spot_of-spot.ensures within c.requires.free c.requires.live c.requires.absent
    c.set_link.ensures.linked c.set_entry.ensures.set
