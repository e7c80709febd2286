-- What is sent of messages, and how far the feed is sent then. Our own rules.
use Rattle.std.specs.Prelude.{◌≡◌, ℕ, true, if◌then◌else◌, ◌==◌, List, [], ◌∷◌, ◌++◌, map, refl}
use Rattle.std.proofs.Common.{sym, ◌∙◌, ap, append_assoc}
use Rattle.gx_base.specs.declared.order.Order.{Order}
use Rattle.product_file.specs.Products.{ProductLists}
use Rattle.plain_book.specs.declared.entry.Entry.{Entry}
use Rattle.plain_book.specs.Numbers.{entry_numbered, numbered}
use Rattle.order_kinds.specs.Amendments.{untopped}
use Rattle.order_kinds.specs.State.{State}
use Rattle.order_kinds.specs.Step.{step_of, state_after}
use Rattle.order_kinds.specs.Histories.{History, length_kept}
use Rattle.level_feed.specs.declared.row.Row.{Row}
use Rattle.level_feed.specs.Rows.{row_of, counted, levels_of}
use Rattle.level_feed.specs.Blocks.{Snapshot, last_number, blocks_of}
use Rattle.level_feed.specs.FeedText.{text_of_blocks}
use Rattle.level_feed.specs.Feeds.{levels_of_state, feed_text}
use Rattle.feed_print.specs.FeedPlaces.{FeedPlace}

-- how the feed begins: with a snapshot of no level
abbrev pub opening_text : List ℕ
opening_text = text_of_blocks [] (Snapshot 0 [] ∷ [])

-- it is sent before the first block
abbrev pub beginning : FeedPlace → List ℕ
beginning place = if place.begun then [] else opening_text

-- what is sent of a message with this number that leaves these levels
abbrev pub message_text : ProductLists → ℕ → List Row → FeedPlace → List ℕ
message_text product number levels place = beginning place ++ text_of_blocks product.names.instruments (blocks_of number place.last place.rows levels)

-- the feed is then sent so far
abbrev pub next_place : ℕ → List Row → FeedPlace → FeedPlace
next_place number levels place = record { begun = true; last = last_number place.last (blocks_of number place.last place.rows levels); rows = levels }

-- what is sent of some messages, each by the number that the engine counts it by
abbrev pub messages_text : FeedPlace → ProductLists → State → List (List ℕ) → List ℕ
messages_text place product state [] = []
messages_text place product state (frame ∷ frames) =
    let next = (step_of product state frame).0 in
    let levels = levels_of_state next in
    message_text product next.desk.messages levels place ++ messages_text (next_place next.desk.messages levels place) product next frames

abbrev pub place_after : FeedPlace → ProductLists → State → List (List ℕ) → FeedPlace
place_after place product state [] = place
place_after place product state (frame ∷ frames) =
    let next = (step_of product state frame).0 in
    place_after (next_place next.desk.messages (levels_of_state next) place) product next frames

-- ---- the levels of a state

counted-same : (e f : Entry) (rows : List Row) → e.order ≡ f.order → counted e rows ≡ counted f rows
counted-same e f [] same = ap (λ (o : Order). row_of (record e { order = o }) ∷ []) same
counted-same e f (r ∷ rows) same = ap (λ (o : Order). counted (record e { order = o }) (r ∷ rows)) same

-- they are the same, whether slots or numbers name the orders
pub levels-numbered : (es : List Entry) → levels_of (numbered es) ≡ levels_of es
levels-numbered [] = refl
levels-numbered (e ∷ es) = counted-same (entry_numbered e) e (levels_of (numbered es)) refl ∙ ap (counted e) (levels-numbered es)

-- and whether an order is TOP does not matter
pub levels-untopped : (product : ProductLists) (es : List Entry) → levels_of (map (untopped product) es) ≡ levels_of es
levels-untopped product [] = refl
levels-untopped product (e ∷ es) = counted-same (untopped product e) e (levels_of (map (untopped product) es)) refl ∙ ap (counted e) (levels-untopped product es)

-- ---- messages in two parts

pub text-then : (place : FeedPlace) (product : ProductLists) (state : State) (frames more : List (List ℕ))
    → messages_text place product state (frames ++ more) ≡ messages_text place product state frames ++ messages_text (place_after place product state frames) product (state_after product state frames) more
text-then place product state [] more = refl
text-then place product state (frame ∷ frames) more =
    let next = (step_of product state frame).0 in
    let levels = levels_of_state next in
    let first = message_text product next.desk.messages levels place in
    let behind = next_place next.desk.messages levels place in
    ap (λ (l : List ℕ). first ++ l) (text-then behind product next frames more)
    ∙ sym (append_assoc first (messages_text behind product next frames) (messages_text (place_after behind product next frames) product (state_after product next frames) more))

pub after-then : (place : FeedPlace) (product : ProductLists) (state : State) (frames more : List (List ℕ))
    → place_after place product state (frames ++ more) ≡ place_after (place_after place product state frames) product (state_after product state frames) more
after-then place product state [] more = refl
after-then place product state (frame ∷ frames) more =
    let next = (step_of product state frame).0 in
    after-then (next_place next.desk.messages (levels_of_state next) place) product next frames more

-- what is sent of a history before its end: nothing, as long as it has no message
abbrev pub feed_so_far : History → List ℕ
feed_so_far history = if length_kept history == 0 then [] else feed_text history
