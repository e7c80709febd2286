use Rattle.std.proofs.Common.{◌≡◌, false, sym, ◌∙◌}
use Rattle.plain_book.specs.Match.{is_prorata}
use Rattle.plain_book.specs.Shares.{shares_by}
use Rattle.plain_book.proofs.TradedShares.{shares-none}
use Rattle.plain_book.proofs.walk.is_over.Goals as goal

pub returns-then-not-is_prorata : goal.returns-then-not-is_prorata
returns-then-not-is_prorata g c =
    let unmarked : is_prorata c.args.step ≡ false = sym c.is_prorata.ensures ∙ c.if-not-is_prorata.true in
    λ spent orders m. shares-none c.args.step (shares_by g.R.ShareRule.meanings c.args.rule.now orders) unmarked (c.is_spent.ensures spent orders) m
