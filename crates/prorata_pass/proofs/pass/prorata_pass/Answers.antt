use Rattle.std.proofs.Common.{◌≡◌, ap, ◌∙◌, List, inl, inr, ◌⊎◌}
use Rattle.gx_base.specs.declared.event.StepName.TheVariants.{ProRata}
use Rattle.plain_book.specs.Orders.{orders_at}
use Rattle.plain_book.specs.Match.{Share, match_start, trade_shares}
use Rattle.plain_book.specs.Matches.{match_at}
use Rattle.plain_book.specs.Shares.{shares_by}
use Rattle.plain_book.specs.Steps.{facing, prorata}
use Rattle.plain_book.proofs.Matching.{matches-none, matches-as}
use Rattle.prorata_pass.specs.Parts.{parts}
use Rattle.prorata_pass.proofs.Parts.{IsRatioOf, ratio-of, shares-parts, parts-within, none-done, some-wanted}
use Rattle.prorata_pass.proofs.pass.prorata_pass.Goals as goal

pub returns-then-taker-eq0 : goal.returns-then-taker-eq0
returns-then-taker-eq0 g c =
    let b = g.B.Book.book c.args.book.now in
    let t = c.args.taker.now in
    let at = match_at b c.args.desk.now t c.args.out.now in
    let total = c.shown_facing-total in
    let none : (t.order.leaves ≡ 0) ⊎ (total.result ≡ 0) = elim c.then-taker-eq0.either [ inl wanted ↦ inl wanted | inr shown ↦ inr shown.1 ] in
    matches-as g.E.Emit.meanings (λ m. m) (prorata c.args.least c.args.price) at at
    (none-done c.args.least c.args.price (match_start b c.args.desk.now t) b.instruments total.result c.rules.ensures.rest total.ensures none) (matches-none g.E.Emit.meanings at c.requires.can)

pub trade_level-requires-clause-within : goal.trade_level-requires-clause-within
trade_level-requires-clause-within g c =
    let t = c.args.taker.now in
    let es = orders_at (facing c.args.price t) (g.B.Book.book c.args.book.now).resting in
    let r = c.new-ratio in
    let is : IsRatioOf r.result c.args.least t.order.leaves es = ratio-of r.result c.args.least t.order.leaves es _ c.shown_facing-total.ensures r.ensures.least r.ensures.pool r.ensures.total c.if-total-eq0.false in
    parts-within r.result c.args.least t.order.leaves es is

pub returns : goal.returns
returns g c =
    let b = g.B.Book.book c.args.book.now in
    let d = c.args.desk.now in
    let t = c.args.taker.now in
    let q = t.order.leaves in
    let es = orders_at (facing c.args.price t) b.resting in
    let r = c.new-ratio in
    let w = c.trade_level.new in
    let m = match_start b d t in
    let is : IsRatioOf r.result c.args.least q es = ratio-of r.result c.args.least q es _ c.shown_facing-total.ensures r.ensures.least r.ensures.pool r.ensures.total c.if-total-eq0.false in
    matches-as g.E.Emit.meanings (trade_shares ProRata (shares_by parts r.result es)) (prorata c.args.least c.args.price) (match_at b d t c.args.out.now) (match_at (g.B.Book.book w.book) w.desk w.taker w.out)
    (ap (λ (xs : List Share). trade_shares ProRata xs m) (shares-parts r.result c.args.least q es is) ∙ some-wanted c.args.least c.args.price m c.if-taker-eq0.false) c.trade_level.ensures
