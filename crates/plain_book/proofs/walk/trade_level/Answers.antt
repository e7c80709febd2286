use Rattle.std.proofs.Common.{◌≡◌, ◌∙◌, ap, arith, refl}
use Rattle.std.specs.Prelude.{option_map}
use Rattle.gx_base.specs.declared.order.Order.{Order}
use Rattle.plain_book.specs.Book.{slot_number}
use Rattle.plain_book.proofs.WalkLevel.{walk-start, walk-turn, walk-on, walk-shorter, walk-over}
use Rattle.plain_book.proofs.walk.trade_level.Goals as goal

pub loop-at-init : goal.loop-at-init
loop-at-init g c = walk-start (option_map slot_number c.first_facing-at.result) c.args.rule.now c.first_facing-at.ensures refl c.requires.within c.requires.can c.rules.ensures

pub next_before-at-requires : goal.next_before-at-requires
next_before-at-requires g c = (walk-turn c.loop-at.invariant c.in-Some.slot.0 (ap (option_map slot_number) c.in-Some.is)).has

pub order-order-requires : goal.order-order-requires
order-order-requires g c = (walk-turn c.loop-at.invariant c.in-Some.slot.0 (ap (option_map slot_number) c.in-Some.is)).live

pub trade_share-requires-clause-rests : goal.trade_share-requires-clause-rests
trade_share-requires-clause-rests g c = (walk-turn c.loop-at.invariant c.in-Some.slot.0 (ap (option_map slot_number) c.in-Some.is)).has

pub trade_share-requires-clause-shown : goal.trade_share-requires-clause-shown
trade_share-requires-clause-shown g c =
    let turn = walk-turn c.loop-at.invariant c.in-Some.slot.0 (ap (option_map slot_number) c.in-Some.is) in
    let r = g.R.ShareRule.meanings in
    let lots : c.share-lots.result ≡ r.share c.loop-at.rule turn.entry.order = c.share-lots.ensures.share ∙ ap (r.share c.loop-at.rule) (c.order-order.ensures ∙ turn.live_order) in
    omega (arith, lots, turn.showing.fits, ap (λ (o : Order). o.shown) turn.order)

pub trade_share-requires-clause-wanted : goal.trade_share-requires-clause-wanted
trade_share-requires-clause-wanted g c =
    let turn = walk-turn c.loop-at.invariant c.in-Some.slot.0 (ap (option_map slot_number) c.in-Some.is) in
    let r = g.R.ShareRule.meanings in
    let lots : c.share-lots.result ≡ r.share c.loop-at.rule turn.entry.order = c.share-lots.ensures.share ∙ ap (r.share c.loop-at.rule) (c.order-order.ensures ∙ turn.live_order) in
    omega (arith, lots, turn.wanted_of)

pub loop-at-smaller : goal.loop-at-smaller
loop-at-smaller g c =
    let turn = walk-turn c.loop-at.invariant c.in-Some.slot.0 (ap (option_map slot_number) c.in-Some.is) in
    walk-shorter c.loop-at.invariant turn (c.order-order.ensures ∙ turn.live_order) c.share-lots.ensures.share c.share-lots.ensures.behind c.next_before-at.ensures c.end_after-end.ensures c.rules-in-Some.ensures c.trade_share.ensures

pub loop-at-preserved : goal.loop-at-preserved
loop-at-preserved g c =
    let turn = walk-turn c.loop-at.invariant c.in-Some.slot.0 (ap (option_map slot_number) c.in-Some.is) in
    walk-on c.loop-at.invariant turn (c.order-order.ensures ∙ turn.live_order) c.share-lots.ensures.share c.share-lots.ensures.behind c.next_before-at.ensures c.end_after-end.ensures c.rules-in-Some.ensures c.trade_share.ensures

pub returns-then-is_over-2 : goal.returns-then-is_over-2
returns-then-is_over-2 g c =
    let turn = walk-turn c.loop-at.invariant c.in-Some.slot.0 (ap (option_map slot_number) c.in-Some.is) in
    walk-over (walk-on c.loop-at.invariant turn (c.order-order.ensures ∙ turn.live_order) c.share-lots.ensures.share c.share-lots.ensures.behind c.next_before-at.ensures c.end_after-end.ensures c.rules-in-Some.ensures c.trade_share.ensures) (c.is_over-in-Some.ensures c.if-is_over-2.true)
