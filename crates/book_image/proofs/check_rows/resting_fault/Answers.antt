use Rattle.std.proofs.Common.{◌≡◌, ◌+◌, true, length, sym, subst, ◌∙◌, arith}
use Rattle.plain_book.specs.Book.{live_orders}
use Rattle.book_image.specs.declared.format.TheConstants.{ROW_BYTES}
use Rattle.book_image.specs.Rows.{row_at, order_of_row}
use Rattle.book_image.specs.Faults.{orders_at}
use Rattle.book_image.specs.Inner.Checking.{AreRightBelow, is_right_resting_at, is_resting_alone, fits_behind}
use Rattle.book_image.proofs.CheckWrong.{wrong-none, wrong-first, right-next}
use Rattle.book_image.proofs.CheckRows.{some-is, resting-none-wrong, resting-place-wrong, resting-id-wrong, resting-all-right, front-after, names-after, made-then}
use Rattle.book_image.proofs.check_rows.resting_fault.Goals as goal

pub returns-in_default-clause-fault : goal.returns-in_default-clause-fault
returns-in_default-clause-fault g c =
    let w = c.loop-k.invariant in
    sym (wrong-first (is_right_resting_at c.args.product.now c.args.asked c.args.payload.now c.args.first) c.args.first ROW_BYTES c.args.count c.loop-k.k w.right c.loop-k-test.true
    (resting-none-wrong c.args.product.now c.args.asked (orders_at c.args.payload.now c.args.first c.loop-k.k) (row_at c.args.payload.now c.args.first c.loop-k.k)
    c.loop-k.front (g.B.Book.book c.loop-k.book) w.front w.names c.row_at.result.now c.resting_order.result c.resting_order.ensures.order c.row_at.ensures.row c.in_default.is))

pub returns-then-not-fits_behind-clause-fault : goal.returns-then-not-fits_behind-clause-fault
returns-then-not-fits_behind-clause-fault g c =
    let w = c.loop-k.invariant in
    sym (wrong-first (is_right_resting_at c.args.product.now c.args.asked c.args.payload.now c.args.first) c.args.first ROW_BYTES c.args.count c.loop-k.k w.right c.loop-k-test.true
    (resting-place-wrong c.args.product.now c.args.asked (orders_at c.args.payload.now c.args.first c.loop-k.k) (row_at c.args.payload.now c.args.first c.loop-k.k)
    c.loop-k.front (g.B.Book.book c.loop-k.book) w.front w.names c.row_at.result.now c.resting_order.result c.resting_order.ensures.order c.row_at.ensures.row c.in-Some.order c.in-Some.is (sym c.fits_behind.ensures ∙ c.if-not-fits_behind.true)))

pub returns-then-not-take_name-clause-fault : goal.returns-then-not-take_name-clause-fault
returns-then-not-take_name-clause-fault g c =
    let w = c.loop-k.invariant in
    sym (wrong-first (is_right_resting_at c.args.product.now c.args.asked c.args.payload.now c.args.first) c.args.first ROW_BYTES c.args.count c.loop-k.k w.right c.loop-k-test.true
    (resting-id-wrong c.args.product.now c.args.asked (orders_at c.args.payload.now c.args.first c.loop-k.k) (row_at c.args.payload.now c.args.first c.loop-k.k)
    c.loop-k.front (g.B.Book.book c.loop-k.book) w.front w.names c.row_at.result.now c.resting_order.result c.resting_order.ensures.order c.row_at.ensures.row c.in-Some.order c.in-Some.is (sym c.take_name.ensures.new ∙ c.if-not-take_name.true)))

pub loop-k-preserved : goal.loop-k-preserved
loop-k-preserved g c =
    let payload = c.args.payload.now in
    let k = c.loop-k.k in
    let row = row_at payload c.args.first k in
    let fits : fits_behind c.loop-k.front c.in-Some.order ≡ true = sym c.fits_behind.ensures ∙ c.if-not-fits_behind.false in
    let is : c.in-Some.order ≡ order_of_row row = some-is (is_resting_alone c.args.product.now c.args.asked) c.row_at.result.now row c.resting_order.result c.resting_order.ensures.order c.row_at.ensures.row c.in-Some.order c.in-Some.is in
    let w = c.loop-k.invariant in
    let old = g.B.Book.book c.loop-k.book in
    let new = g.B.Book.book c.take_name.new.book in
    record {
      right = right-next (is_right_resting_at c.args.product.now c.args.asked payload c.args.first) k w.right
          (resting-all-right c.args.product.now c.args.asked (orders_at payload c.args.first k) row c.loop-k.front old w.front w.names
          c.row_at.result.now c.resting_order.result c.resting_order.ensures.order c.row_at.ensures.row c.in-Some.order c.in-Some.is fits (sym c.take_name.ensures.new ∙ c.if-not-take_name.false));
      front = front-after payload c.args.first k c.in-Some.order is c.loop-k.front c.front_with-front.result c.front_with-front.ensures w.front fits;
      names = names-after payload c.args.first k c.in-Some.order is old new w.names (c.take_name.ensures.takes c.if-not-take_name.false);
      count = let more : length (live_orders new) ≡ length (live_orders old) + 1 = (c.take_name.ensures.takes c.if-not-take_name.false).count in omega (arith, more, w.count);
      made = made-then (g.B.Book.book c.args.book.now) old new w.made c.take_name.ensures.made;
    }

pub returns-clause-fault : goal.returns-clause-fault
returns-clause-fault g c =
    sym (wrong-none (is_right_resting_at c.args.product.now c.args.asked c.args.payload.now c.args.first) c.args.first ROW_BYTES c.args.count
    (let at_end : c.loop-k.k ≡ c.args.count = let a = c.loop-k-test in omega arith in
    subst (AreRightBelow (is_right_resting_at c.args.product.now c.args.asked c.args.payload.now c.args.first)) at_end c.loop-k.invariant.right))
