-- Histories, whatever their messages are, lead to right states of their last product.
use Rattle.std.proofs.Common.{◌≡◌, ◌+◌, ◌<◌, ◌++◌, length, length-append, refl, sym}
use Rattle.order_kinds.specs.declared.core_state.TheConstants.{MOST_MESSAGES}
use Rattle.order_kinds.specs.Step.{events_from, state_after}
use Rattle.order_kinds.specs.Amendments.{amended_state}
use Rattle.order_kinds.specs.Histories.{History, of_product, amended, AreRightProducts, IsHistory, last_product, length_kept, state_kept, events_kept}
use Rattle.engine_laws.proofs.Bounds.{whole-history-within}
use Rattle.image_laws.specs.Right.{IsRightState}
use Rattle.image_laws.proofs.Reached.{IsReached}
use Rattle.image_laws.proofs.States.{reached-as, frames-reached, reached-right, messages-reached}
use Rattle.order_kinds.proofs.Amended.{follows}
use Rattle.image_laws.proofs.Amended.{reached-follows}

pub history-reached : (history : History) → AreRightProducts history → IsHistory history → IsReached (last_product history) (length_kept history) (length (events_kept history)) (state_kept history)
history-reached (of_product product messages) right is = messages-reached product right messages
history-reached (amended before product messages) right is =
    let last = last_product before in
    let sent = length_kept before in
    let bound = length (events_kept before) in
    let start = amended_state product (state_kept before) in
    let more = events_from product start messages in
    let from = reached-follows last product (follows last product is.1) sent bound (state_kept before) (history-reached before right.0 is.0) in
    reached-as product right.1 (sent + length messages) (bound + length more) (sent + length messages) (length (events_kept before ++ more)) (state_after product start messages) refl (sym (length-append (events_kept before) more))
    (frames-reached product right.1 sent bound start messages from)

pub histories-right : (history : History) → AreRightProducts history → IsHistory history → length_kept history < MOST_MESSAGES → IsRightState (last_product history) (state_kept history)
histories-right history right is few =
    reached-right (last_product history) (length_kept history) (length (events_kept history)) (state_kept history) few (whole-history-within history right).many
    (history-reached history right is)

-- each message counts
pub histories-counted : (history : History) → AreRightProducts history → IsHistory history → (state_kept history).desk.messages ≡ length_kept history
histories-counted history right is = (history-reached history right is).counted.messages
