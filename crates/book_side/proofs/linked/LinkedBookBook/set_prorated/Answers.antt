use Rattle.std.proofs.Common.{arith}
use Rattle.plain_book.specs.Orders as orders
use Rattle.plain_book.specs.Book.{book_with_order}
use Rattle.order_pool.specs.Queues.{entries_at, order_of, with_share}
use Rattle.book_side.proofs.Seen.{rests-live}
use Rattle.book_side.proofs.Became.{AreParts}
use Rattle.book_side.proofs.Noting.{noted}
use Rattle.book_side.proofs.Reached.{rests-below, stand-set}
use Rattle.book_side.proofs.linked.LinkedBookBook.set_prorated.Goals as goal
use Rattle.book_side.proofs.linked.LinkedBookBook.set_prorated.Goals.{After-set_prorated}

pub set_prorated-requires : goal.set_prorated-requires
set_prorated-requires c = rests-live c.self.invariant.0 c.self.view_is c.args.slot.0 c.requires

became : (c : After-set_prorated) → AreParts c.self.inside.capacity c.self.inside.instruments c.set_prorated.new.self c.self.inside.ids c.self.inside.levels c.self.inside.tops.items (book_with_order c.args.slot.0 (with_share c.args.share (orders.order_of c.args.slot.0 c.args.self.now.resting)) c.args.self.now)
became c =
    let at = rests-live c.self.invariant.0 c.self.view_is c.args.slot.0 c.requires in
    noted c.self.invariant.0 c.self.view_is c.args.slot.0 at.0 c.requires c.rules.ensures c.rules-2.ensures at.1 c.args.share c.set_prorated.ensures.queues

pub invariant_of-self : goal.invariant_of-self
invariant_of-self c =
    let s = c.args.slot.0 in
    let at = rests-live c.self.invariant.0 c.self.view_is s c.requires in
    let o = with_share c.args.share (order_of s (entries_at c.self.inside.pool.queues at.0)) in
    let low = rests-below c.self.invariant.0 c.self.view_is c.self.invariant.2 s at.0 c.requires c.rules.ensures at.1 c.rules-2.ensures in (
      (became (goal.at.invariant_of-self c).After-set_prorated).linked,
      c.self.invariant.1,
      stand-set c.self.invariant.2 s at.0 c.rules.ensures at.1 o c.self.invariant.0.many (λ le. absurd (let z : ⊥ = omega (arith, le, low) in z)) (c.set_prorated.ensures.queues at.0 at.1),
    )

pub returns : goal.returns
returns c = (became (goal.at.returns c).After-set_prorated).view
