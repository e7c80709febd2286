use Rattle.std.proofs.Common.{◌≡◌, false, true, length, is_some, ap, ◌∙◌, arith}
use Rattle.gx_base.specs.NameLists.{NameLists}
use Rattle.step_config.specs.Rules.{top_rule_of}
use Rattle.book_walks.proofs.InstrumentWalks.{all-listed}
use Rattle.order_kinds.proofs.EndedTops.{tops-first, tops-next, tops-stay, tops-last}
use Rattle.order_kinds.proofs.amending.end_tops.Goals as goal
use Rattle.order_kinds.proofs.amending.end_tops.Goals.{then-not-stays, else-not-stays}

pub loop-instrument-init : goal.loop-instrument-init
loop-instrument-init g c = tops-first c.args.product.now (g.B.Book.book c.args.book.now)

pub loop-instrument-preserved : goal.loop-instrument-preserved
loop-instrument-preserved g c =
    let product = c.args.product.now in
    let rule = c.rule.result.now in
    let b = g.B.Book.book c.args.book.now in
    let now = g.B.Book.book c.loop-instrument.book in
    elim c.if-not-stays.branch [
      | then-not-stays w ↦
          let none : is_some (top_rule_of rule.steps) ≡ false = cc in
          ap g.B.Book.book w.book-is ∙ w.end_top.ensures ∙ tops-next product c.loop-instrument.instrument rule c.rule.ensures b now c.loop-instrument.invariant none
      | else-not-stays w ↦
          let some : is_some (top_rule_of rule.steps) ≡ true = cc in
          ap g.B.Book.book w.book-is ∙ tops-stay product c.loop-instrument.instrument rule c.rule.ensures b now c.loop-instrument.invariant some
    ]

pub returns : goal.returns
returns g c =
    let b = g.B.Book.book c.args.book.now in
    tops-last c.args.product.now b (g.B.Book.book c.loop-instrument.book) c.loop-instrument.instrument b.instruments c.loop-instrument.invariant
    (omega (arith, c.requires, ap (λ (names : NameLists). length names.instruments) c.names.ensures)) (all-listed b c.rules.ensures)
