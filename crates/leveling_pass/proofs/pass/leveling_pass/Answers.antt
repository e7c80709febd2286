use Rattle.gx_base.specs.declared.event.StepName.TheVariants.{Leveling}
use Rattle.plain_book.specs.Orders.{orders_at}
use Rattle.plain_book.specs.Match.{match_start, trade_shares}
use Rattle.plain_book.specs.Matches.{match_at}
use Rattle.plain_book.specs.Shares.{shares_by}
use Rattle.plain_book.specs.Steps.{facing, leveling}
use Rattle.plain_book.proofs.Matching.{matches-as}
use Rattle.leveling_pass.specs.OneEach.{one_each}
use Rattle.leveling_pass.proofs.Ones.{ones_of, trade-ones, ones-within}
use Rattle.leveling_pass.proofs.pass.leveling_pass.Goals as goal

pub trade_level-requires-clause-within : goal.trade_level-requires-clause-within
trade_level-requires-clause-within g c =
    let b = g.B.Book.book c.args.book.now in
    let t = c.args.taker.now in
    ones-within t.order.leaves b.instruments (facing c.args.price t) b.resting c.rules.ensures.rest

pub returns : goal.returns
returns g c =
    let b = g.B.Book.book c.args.book.now in
    let d = c.args.desk.now in
    let t = c.args.taker.now in
    let q = t.order.leaves in
    let es = orders_at (facing c.args.price t) b.resting in
    let r = c.trade_level.new in
    matches-as g.E.Emit.meanings (trade_shares Leveling (shares_by one_each (ones_of q) es)) (leveling c.args.price) (match_at b d t c.args.out.now) (match_at (g.B.Book.book r.book) r.desk r.taker r.out) (trade-ones q es (match_start b d t)) c.trade_level.ensures
