use Rattle.book_side.proofs.Empty.{made}
use Rattle.book_side.proofs.Reached.{none-made}
use Rattle.book_side.proofs.linked.LinkedBook.new.Goals as goal

pub invariant_of-result : goal.invariant_of-result
invariant_of-result c =
    let some = c.in-Some.ensures in
    ((made c.args.capacity c.args.instruments c.in-Some.queues c.from.result some.1 some.0 c.from.ensures c.in_ok-new.ensures c.in_ok-new-2.ensures c.in_ok-new-3.ensures c.in_ok-no_tops.ensures.items).linked, c.in_ok-no_tops.ensures.room, none-made c.args.capacity c.args.instruments c.in-Some.queues c.in_ok-new.ensures c.in_ok-new-4.ensures)

pub returns : goal.returns
returns c =
    let some = c.in-Some.ensures in
    (made c.args.capacity c.args.instruments c.in-Some.queues c.from.result some.1 some.0 c.from.ensures c.in_ok-new.ensures c.in_ok-new-2.ensures c.in_ok-new-3.ensures c.in_ok-no_tops.ensures.items).view
