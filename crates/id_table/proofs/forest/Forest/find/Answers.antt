use Rattle.std.proofs.Common.{Some, sym, ap, ◌∙◌}
use Rattle.std.proofs.lemmas.List.{get_or_read}
use Rattle.id_table.specs.declared.node.Node.{Node}
use Rattle.id_table.specs.Ids.{key}
use Rattle.id_table.specs.Inner.Nodes.{blank}
use Rattle.id_table.proofs.Fields.{leads_live, spot_within}
use Rattle.id_table.proofs.Shown.{get_none, get_some}
use Rattle.id_table.proofs.forest.Forest.find.Goals as goal

pub returns-then-spot : goal.returns-then-spot
returns-then-spot c = sym (get_none c.args.self.now.nodes.items (key c.args.firm c.args.id.now) (c.spot_of-spot.ensures.absent c.if-spot.true))

pub returns-else-spot : goal.returns-else-spot
returns-else-spot c =
    let f = c.args.self.now in
    let s = c.spot_of-spot.result in
    let spot = c.spot_of-spot.ensures in
    let leads = c.if-spot.false in
    ap (λ (n : Node). Some n.entry.slot) (get_or_read f.nodes.items s.link c.index.result.now (spot_within f c.requires _ s spot leads) c.index.ensures blank)
    ∙ sym (get_some f.nodes.items (key c.args.firm c.args.id.now) s.link c.requires.trees.apart (leads_live f c.requires s.place s.link spot.on.link leads) (spot.named leads))
