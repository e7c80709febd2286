-- A made stream is whole messages, as many as were asked for.
use Rattle.std.proofs.Common.{◌≡◌, ℕ, zero, suc, ◌+◌, ◌^◌, ◌<◌, ◌≤◌, [], length, refl, ap, ◌∙◌, arith}
use Rattle.fix_frame.specs.Stream.{messages_of, rest_of}
use Rattle.fix_frame.specs.StreamLaws.{messages_of-frame-append, rest_of-frame-append}
use Rattle.product_file.specs.Products.{ProductLists, IsRightProduct}
use Rattle.order_maker.specs.Messages.{message_of}
use Rattle.order_maker.specs.Stream.{frame_at, frames_from, made_stream}
use Rattle.stream_laws.specs.Names.{AreNames}
use Rattle.stream_laws.proofs.Drawn.{small-message}
use Rattle.stream_laws.proofs.MadeFrames.{made-frame}

from-there : (p : ProductLists) → IsRightProduct p → AreNames p.names → (x j left : ℕ) → 1 ≤ j → j + left < 10 ^ 19
    → (rest_of (frames_from p x j left) ≡ []) × (length (messages_of (frames_from p x j left)) ≡ left)
unfolding frames_from
from-there p right names x j zero some few = (refl, refl)
from-there p right names x j (suc more) some few =
    let next = message_of p j x in
    let frame = frame_at p j next.0 in
    let behind = frames_from p next.1 (j + 1) more in
    let is = made-frame p right names j next.0 (omega arith) (small-message p j x some) in
    let others = from-there p right names next.1 (j + 1) more (omega arith) (omega arith) in
    (rest_of-frame-append frame behind is ∙ others.0, ap length (messages_of-frame-append frame behind is) ∙ ap suc others.1)

-- after the last message of a made stream stands nothing
pub made-rest : (product : ProductLists) (first count : ℕ) → IsRightProduct product → AreNames product.names → count < 2 ^ 32 → rest_of (made_stream product first count) ≡ []
made-rest product first count right names few = (from-there product right names first 1 count (omega arith) (omega arith)).0

-- it has as many messages as were asked for
pub made-count : (product : ProductLists) (first count : ℕ) → IsRightProduct product → AreNames product.names → count < 2 ^ 32 → length (messages_of (made_stream product first count)) ≡ count
made-count product first count right names few = (from-there product right names first 1 count (omega arith) (omega arith)).1
