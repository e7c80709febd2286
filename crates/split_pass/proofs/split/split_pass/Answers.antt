use Rattle.std.proofs.Common.{ap, ◌≡◌, ◌∙◌, ℕ, List, ◌*◌, ◌/◌}
use Rattle.gx_base.specs.declared.event.StepName.TheVariants.{Split}
use Rattle.plain_book.specs.Orders.{orders_at}
use Rattle.plain_book.specs.Match.{Share, match_start, trade_shares}
use Rattle.plain_book.specs.Matches.{match_at}
use Rattle.plain_book.specs.Shares.{shares_by}
use Rattle.plain_book.specs.Steps.{facing, split, spent}
use Rattle.plain_book.proofs.Matching.{matches-as}
use Rattle.split_pass.specs.Spending.{spending}
use Rattle.split_pass.proofs.Spends.{spent_of, shares-spent, spent-within}
use Rattle.split_pass.proofs.split.split_pass.Goals as goal

pub trade_level-requires-clause-within : goal.trade_level-requires-clause-within
trade_level-requires-clause-within g c =
    let t = c.args.taker.now in
    spent-within t.order.leaves c.percent_of.result (orders_at (facing c.args.price t) (g.B.Book.book c.args.book.now).resting) c.percent_of.ensures.at_most

pub returns : goal.returns
returns g c =
    let b = g.B.Book.book c.args.book.now in
    let t = c.args.taker.now in
    let lots = c.percent_of.result in
    let es = orders_at (facing c.args.price t) b.resting in
    let r = c.trade_level in
    let same : shares_by spending (spent_of lots) es ≡ spent (t.order.leaves * c.args.percent / 100) es = shares-spent lots es ∙ ap (λ (n : ℕ). spent n es) c.percent_of.ensures.value in
    matches-as g.E.Emit.meanings (trade_shares Split (shares_by spending (spent_of lots) es)) (split c.args.percent c.args.price) (match_at b c.args.desk.now t c.args.out.now) (match_at (g.B.Book.book r.new.book) r.new.desk r.new.taker r.new.out)
    (ap (λ (xs : List Share). trade_shares Split xs (match_start b c.args.desk.now t)) same) r.ensures
