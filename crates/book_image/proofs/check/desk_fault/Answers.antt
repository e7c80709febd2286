use Rattle.std.proofs.Common.{◌<◌, ◌≤◌, ap, sym, subst, ◌∙◌}
use Rattle.book_image.specs.Rows.{number_at}
use Rattle.book_image.specs.Inner.Checking.{counters_fault}
use Rattle.order_kinds.specs.declared.core_state.TheConstants.{MOST_MESSAGES}
use Rattle.book_image.proofs.CheckFaults.{desk-many, desk-orders, desk-rest}
use Rattle.book_image.proofs.check.desk_fault.Goals as goal

pub returns-then-messages-ge-MOST_MESSAGES : goal.returns-then-messages-ge-MOST_MESSAGES
returns-then-messages-ge-MOST_MESSAGES c =
    let payload = c.args.payload.now in
    let messages = number_at payload 0 in
    sym (desk-many MOST_MESSAGES messages (number_at payload 8) (counters_fault messages payload)
    (subst (λ n. MOST_MESSAGES ≤ n) c.number_at-messages.ensures c.if-messages-ge-MOST_MESSAGES.true))

pub returns-then-number_at-messages : goal.returns-then-number_at-messages
returns-then-number_at-messages c =
    let payload = c.args.payload.now in
    let messages = number_at payload 0 in
    sym (desk-orders MOST_MESSAGES messages (number_at payload 8) (counters_fault messages payload)
    (subst (λ n. n < MOST_MESSAGES) c.number_at-messages.ensures c.if-messages-ge-MOST_MESSAGES.false)
    (subst (λ n. n < number_at payload 8) c.number_at-messages.ensures (subst (λ n. c.number_at-messages.result < n) c.number_at.ensures c.if-number_at-messages.true)))

pub returns : goal.returns
returns c =
    let payload = c.args.payload.now in
    let messages = number_at payload 0 in
    c.counters_fault.ensures ∙ ap (λ n. counters_fault n payload) c.number_at-messages.ensures
    ∙ sym (desk-rest MOST_MESSAGES messages (number_at payload 8) (counters_fault messages payload)
    (subst (λ n. n < MOST_MESSAGES) c.number_at-messages.ensures c.if-messages-ge-MOST_MESSAGES.false)
    (subst (λ n. number_at payload 8 ≤ n) c.number_at-messages.ensures (subst (λ n. n ≤ c.number_at-messages.result) c.number_at.ensures c.if-number_at-messages.false)))
