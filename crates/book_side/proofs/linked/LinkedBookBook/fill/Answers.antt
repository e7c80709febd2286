use Rattle.std.proofs.Common.{◌∙◌}
use Rattle.book_side.proofs.Filling.{traded-gone, traded-back, traded-stays}
use Rattle.book_side.proofs.linked.LinkedBookBook.fill.Goals as goal

pub returns-then-order-lots : goal.returns-then-order-lots
returns-then-order-lots c =
    let a = c.args in
    record { traded = c.take_out.ensures ∙ traded-gone a.self.now c.rules.ensures a.slot.0 c.requires.rests c.resting-order.result.now c.resting-order.ensures a.lots c.if-order-lots.true }

pub returns-then-order-lots-2 : goal.returns-then-order-lots-2
returns-then-order-lots-2 c =
    let a = c.args in
    record { traded = c.send_back.ensures ∙ traded-back a.self.now c.rules.ensures a.slot.0 c.requires.rests c.resting-order.result.now c.resting-order.ensures a.lots c.requires.shown c.if-order-lots.false c.if-order-lots-2.true }

pub returns-else-order-lots-2 : goal.returns-else-order-lots-2
returns-else-order-lots-2 c =
    let a = c.args in
    record { traded = c.fill_in_place.ensures ∙ traded-stays a.self.now c.rules.ensures a.slot.0 c.requires.rests c.resting-order.result.now c.resting-order.ensures a.lots c.requires.shown c.if-order-lots.false c.if-order-lots-2.false }
