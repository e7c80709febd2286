use Rattle.std.proofs.Common.{◌∙◌, arith}
use Rattle.price_level.proofs.Seen.{queue_in, row_is}
use Rattle.price_level.proofs.Table.{held-count, read_held}
use Rattle.price_level.proofs.levels.Levels.row.Goals as goal

pub index-requires : goal.index-requires
index-requires c =
    let l = c.self.inside in
    omega (arith, queue_in c.self.invariant.0 c.args.self.now c.self.view_is c.args.queue c.requires, held-count l.held.items, l.held.ok.0)

pub returns : goal.returns
returns c =
    let lt = queue_in c.self.invariant.0 c.args.self.now c.self.view_is c.args.queue c.requires in
    read_held c.self.inside.held.items c.args.queue lt c.index.result.now c.index.ensures ∙ row_is c.self.invariant.0 c.args.self.now c.self.view_is c.args.queue c.requires
