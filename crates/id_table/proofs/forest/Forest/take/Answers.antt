use Rattle.std.proofs.Common.{None, refl, ap}
use Rattle.std.proofs.lemmas.List.{get_or_read}
use Rattle.id_table.specs.declared.node.Node.{Node}
use Rattle.id_table.specs.Inner.Nodes.{blank}
use Rattle.id_table.specs.Ids.{key}
use Rattle.id_table.proofs.Fields.{take_forest, take_slots, taken_is, spot_within}
use Rattle.id_table.proofs.Shown.{get_none, removed, written}
use Rattle.id_table.proofs.forest.Forest.take.Goals as goal

pub returns-then-spot-clause-slots : goal.returns-then-spot-clause-slots
returns-then-spot-clause-slots c =
    let f = c.args.self.now in
    let k = key c.args.firm c.args.id.now in
    removed f.nodes.items f.nodes.items k (written f.nodes.items f.nodes.items k None (get_none f.nodes.items k (c.spot_of-spot.ensures.absent c.if-spot.true)) (λ q ne. refl))

pub returns-then-spot-clause-taken : goal.returns-then-spot-clause-taken
returns-then-spot-clause-taken c = get_none c.args.self.now.nodes.items (key c.args.firm c.args.id.now) (c.spot_of-spot.ensures.absent c.if-spot.true)

pub returns-clause-forest : goal.returns-clause-forest
returns-clause-forest c =
    take_forest c.args.self.now c.set_link.new.self _ c.requires refl refl (key c.args.firm c.args.id.now) c.spot_of-spot.result c.leaf_below-leaf.result c.spot_of-spot.ensures c.if-spot.false c.leaf_below-leaf.ensures
    c.set_link.ensures.linked c.move_entry.ensures.moved

pub returns-clause-slots : goal.returns-clause-slots
returns-clause-slots c =
    let g = c.set_link.new.self in
    take_slots c.args.self.now g (record { buckets = g.buckets; nodes = c.move_entry.new.nodes; capacity = g.capacity }) c.requires refl refl (key c.args.firm c.args.id.now) c.spot_of-spot.result c.leaf_below-leaf.result c.spot_of-spot.ensures c.if-spot.false c.leaf_below-leaf.ensures
    c.set_link.ensures.linked c.move_entry.ensures.moved

pub returns-clause-taken : goal.returns-clause-taken
returns-clause-taken c =
    taken_is c.args.self.now c.set_link.new.self _ c.requires refl refl (key c.args.firm c.args.id.now) c.spot_of-spot.result c.leaf_below-leaf.result c.spot_of-spot.ensures c.if-spot.false c.leaf_below-leaf.ensures
    c.set_link.ensures.linked c.move_entry.ensures.moved c.index.result.now.entry.slot
    (ap (λ (n : Node). n.entry.slot) (get_or_read c.args.self.now.nodes.items c.spot_of-spot.result.link c.index.result.now (spot_within c.args.self.now c.requires _ c.spot_of-spot.result c.spot_of-spot.ensures c.if-spot.false) c.index.ensures blank))
