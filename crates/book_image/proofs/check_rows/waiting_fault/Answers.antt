use Rattle.std.proofs.Common.{◌≡◌, ℕ, ◌+◌, ◌<◌, ◌≤◌, true, false, length, sym, subst, ◌∙◌, arith}
use Rattle.std.specs.Prelude.{nat_le}
use Rattle.std.proofs.lemmas.Bool.Decides.{nat_tests}
use Rattle.plain_book.specs.Book.{live_orders}
use Rattle.book_image.specs.declared.format.TheConstants.{ROW_BYTES}
use Rattle.book_image.specs.Rows.{row_at, order_of_row}
use Rattle.book_image.specs.Faults.{orders_at}
use Rattle.book_image.specs.Inner.Checking.{AreRightBelow, is_right_waiting_at, is_waiting_alone}
use Rattle.book_image.proofs.CheckWrong.{wrong-none, wrong-first, right-next}
use Rattle.book_image.proofs.CheckRows.{some-is, waiting-none-wrong, waiting-line-wrong, waiting-id-wrong, waiting-all-right, names-after-others, line-after, made-then}
use Rattle.book_image.proofs.check_rows.waiting_fault.Goals as goal

not-behind : (last i : ℕ) → i < last → nat_le last i ≡ false
not-behind last i h = grind (arith, nat_tests)

is-behind : (last i : ℕ) → last ≤ i → nat_le last i ≡ true
is-behind last i h = grind (arith, nat_tests)

pub returns-in_default-clause-fault : goal.returns-in_default-clause-fault
returns-in_default-clause-fault g c =
    let w = c.loop-k.invariant in
    sym (wrong-first (is_right_waiting_at c.args.product.now c.args.asked g.resting c.args.payload.now c.args.first) c.args.first ROW_BYTES c.args.count c.loop-k.k w.right c.loop-k-test.true
    (waiting-none-wrong c.args.product.now c.args.asked g.resting (orders_at c.args.payload.now c.args.first c.loop-k.k) (row_at c.args.payload.now c.args.first c.loop-k.k)
    c.loop-k.instrument (g.B.Book.book c.loop-k.book) w.line w.names c.row_at.result.now c.waiting_order.result c.waiting_order.ensures.order c.row_at.ensures.row c.in_default.is))

pub returns-then-order-instrument-clause-fault : goal.returns-then-order-instrument-clause-fault
returns-then-order-instrument-clause-fault g c =
    let w = c.loop-k.invariant in
    sym (wrong-first (is_right_waiting_at c.args.product.now c.args.asked g.resting c.args.payload.now c.args.first) c.args.first ROW_BYTES c.args.count c.loop-k.k w.right c.loop-k-test.true
    (waiting-line-wrong c.args.product.now c.args.asked g.resting (orders_at c.args.payload.now c.args.first c.loop-k.k) (row_at c.args.payload.now c.args.first c.loop-k.k)
    c.loop-k.instrument (g.B.Book.book c.loop-k.book) w.line w.names c.row_at.result.now c.waiting_order.result c.waiting_order.ensures.order c.row_at.ensures.row c.in-Some.order c.in-Some.is (not-behind c.loop-k.instrument c.in-Some.order.instrument c.if-order-instrument.true)))

pub returns-then-not-take_name-clause-fault : goal.returns-then-not-take_name-clause-fault
returns-then-not-take_name-clause-fault g c =
    let w = c.loop-k.invariant in
    sym (wrong-first (is_right_waiting_at c.args.product.now c.args.asked g.resting c.args.payload.now c.args.first) c.args.first ROW_BYTES c.args.count c.loop-k.k w.right c.loop-k-test.true
    (waiting-id-wrong c.args.product.now c.args.asked g.resting (orders_at c.args.payload.now c.args.first c.loop-k.k) (row_at c.args.payload.now c.args.first c.loop-k.k)
    c.loop-k.instrument (g.B.Book.book c.loop-k.book) w.line w.names c.row_at.result.now c.waiting_order.result c.waiting_order.ensures.order c.row_at.ensures.row c.in-Some.order c.in-Some.is (sym c.take_name.ensures.new ∙ c.if-not-take_name.true)))

pub loop-k-preserved : goal.loop-k-preserved
loop-k-preserved g c =
    let payload = c.args.payload.now in
    let k = c.loop-k.k in
    let row = row_at payload c.args.first k in
    let fits : nat_le c.loop-k.instrument c.in-Some.order.instrument ≡ true = is-behind c.loop-k.instrument c.in-Some.order.instrument c.if-order-instrument.false in
    let is : c.in-Some.order ≡ order_of_row row = some-is (is_waiting_alone c.args.product.now c.args.asked) c.row_at.result.now row c.waiting_order.result c.waiting_order.ensures.order c.row_at.ensures.row c.in-Some.order c.in-Some.is in
    let w = c.loop-k.invariant in
    let old = g.B.Book.book c.loop-k.book in
    let new = g.B.Book.book c.take_name.new.book in
    record {
      right = right-next (is_right_waiting_at c.args.product.now c.args.asked g.resting payload c.args.first) k w.right
          (waiting-all-right c.args.product.now c.args.asked g.resting (orders_at payload c.args.first k) row c.loop-k.instrument old w.line w.names
          c.row_at.result.now c.waiting_order.result c.waiting_order.ensures.order c.row_at.ensures.row c.in-Some.order c.in-Some.is fits (sym c.take_name.ensures.new ∙ c.if-not-take_name.false));
      line = line-after payload c.args.first k c.in-Some.order is c.loop-k.instrument w.line fits;
      names = names-after-others payload c.args.first k c.in-Some.order is g.resting old new w.names (c.take_name.ensures.takes c.if-not-take_name.false);
      count = let more : length (live_orders new) ≡ length (live_orders old) + 1 = (c.take_name.ensures.takes c.if-not-take_name.false).count in omega (arith, more, w.count);
      made = made-then (g.B.Book.book c.args.book.now) old new w.made c.take_name.ensures.made;
    }

pub returns-clause-fault : goal.returns-clause-fault
returns-clause-fault g c =
    sym (wrong-none (is_right_waiting_at c.args.product.now c.args.asked g.resting c.args.payload.now c.args.first) c.args.first ROW_BYTES c.args.count
    (let at_end : c.loop-k.k ≡ c.args.count = let a = c.loop-k-test in omega arith in
    subst (AreRightBelow (is_right_waiting_at c.args.product.now c.args.asked g.resting c.args.payload.now c.args.first)) at_end c.loop-k.invariant.right))
