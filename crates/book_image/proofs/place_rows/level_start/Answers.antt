use Rattle.std.proofs.Common.{◌≡◌, ◌-◌, ℕ, sym, ap, ◌∙◌, arith}
use Rattle.gx_base.specs.declared.order.Order.{Order}
use Rattle.plain_book.specs.Orders.{is_level, level_of}
use Rattle.plain_book.proofs.Levels.{is_level-same}
use Rattle.book_image.specs.Inner.Loading.{order_in}
use Rattle.book_image.proofs.LoadLevels.{level-more}
use Rattle.book_image.proofs.place_rows.level_start.Goals as goal

pub loop-start-init : goal.loop-start-init
loop-start-init c = record {
  before = omega (arith, c.requires.some);
  same = λ k a b. let e : k ≡ c.args.end - 1 = omega (arith, a, b) in ap (λ (n : ℕ). level_of (order_in c.args.payload.now c.args.first n)) e;
}

pub loop-start-preserved : goal.loop-start-preserved
loop-start-preserved c =
    let f = order_in c.args.payload.now c.args.first in
    let start = c.loop-start.start in
    let same : level_of c.order_at.result ≡ level_of c.order_at-last.result =
    is_level-same (level_of c.order_at.result) (level_of c.order_at-last.result) (sym c.is_same_level.ensures ∙ c.if-is_same_level.true) in
    let one : level_of (f (start - 1)) ≡ level_of (f (c.args.end - 1)) = ap level_of (sym c.order_at.ensures) ∙ same ∙ ap level_of c.order_at-last.ensures in
    record {
      before = omega (arith, c.loop-start.invariant.before);
      same = level-more f start c.args.end c.loop-start-test.true c.loop-start.invariant.same one;
    }

pub returns-after-loop-start : goal.returns-after-loop-start
returns-after-loop-start c = record {
  before = c.loop-start.invariant.before;
  same = c.loop-start.invariant.same;
  other = λ some. absurd (omega (arith, some, c.loop-start-test.false));
}

pub returns-else-is_same_level : goal.returns-else-is_same_level
returns-else-is_same_level c = record {
  before = c.loop-start.invariant.before;
  same = c.loop-start.invariant.same;
  other = λ some.
      let last = order_in c.args.payload.now c.args.first (c.args.end - 1) in
      ap (λ (o : Order). is_level (level_of o) (level_of last)) (sym c.order_at.ensures)
      ∙ ap (λ (o : Order). is_level (level_of c.order_at.result) (level_of o)) (sym c.order_at-last.ensures)
      ∙ sym c.is_same_level.ensures ∙ c.if-is_same_level.false;
}
