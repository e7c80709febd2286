use Rattle.std.proofs.Common.{◌∙◌, sym, subst}
use Rattle.gx_base.specs.declared.order.Order.{Order}
use Rattle.plain_book.specs.Book.{IsResting}
use Rattle.plain_book.proofs.Levels.{HasSlot-left, order_of-left}
use Rattle.plain_book.proofs.Live.{fit_of}
use Rattle.plain_book.proofs.trade.resting_order.Goals as goal

pub order-requires : goal.order-requires
order-requires g c = HasSlot-left _ _ _ c.requires

pub returns-clause-order : goal.returns-clause-order
returns-clause-order g c = c.order.ensures ∙ order_of-left _ _ _ c.requires

pub returns-clause-rests : goal.returns-clause-rests
returns-clause-rests g c =
    let b = g.B.Book.book c.args.book.now in
    subst (λ (o : Order). IsResting b.instruments o) (sym (c.order.ensures ∙ order_of-left _ _ _ c.requires)) (fit_of b.instruments c.args.slot.0 b.resting c.rules.ensures.rest c.requires)
