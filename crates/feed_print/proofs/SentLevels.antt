-- What is sent of messages, by the levels that they leave: the blocks of these levels, after the beginning of the feed.
use Rattle.std.proofs.Common.{◌≡◌, ℕ, ◌+◌, Bool, true, false, List, [], ◌∷◌, ◌++◌, length, refl, sym, ap, ap₂, ◌∙◌, arith, append_assoc, append-nil}
use Prim.Native.Nat.{suc}
use Rattle.gx_base.specs.declared.names.Listed.{Listed}
use Rattle.product_file.specs.Products.{ProductLists}
use Rattle.order_kinds.specs.State.{State}
use Rattle.order_kinds.specs.Step.{step_of, state_after}
use Rattle.level_feed.specs.declared.row.Row.{Row}
use Rattle.level_feed.specs.Blocks.{Block, Snapshot, Increment, last_number, blocks_of, blocks_from, feed_blocks}
use Rattle.level_feed.specs.FeedText.{text_of_blocks}
use Rattle.level_feed.specs.Feeds.{levels_of_state, levels_from}
use Rattle.level_feed.proofs.GoingOn.{text-append}
use Rattle.feed_print.specs.FeedPlaces.{FeedPlace}
use Rattle.feed_print.specs.FeedTexts.{beginning, opening_text, next_place, messages_text, place_after}

-- each message from this state on counts, after so many before it
abbrev pub AreCounted : ProductLists → State → ℕ → Type 0
AreCounted product state number = (frames : List (List ℕ)) → (state_after product state frames).desk.messages ≡ number + length frames

-- the last of these levels, where those before them were these
abbrev pub last_levels : List Row → List (List Row) → List Row
last_levels old [] = old
last_levels old (new ∷ later) = last_levels new later

-- ---- blocks in two parts

last-append : (last : ℕ) (blocks more : List Block) → last_number last (blocks ++ more) ≡ last_number (last_number last blocks) more
last-append last [] more = refl
last-append last (Snapshot number rows ∷ blocks) more = last-append number blocks more
last-append last (Increment number before rows ∷ blocks) more = last-append number blocks more

levels-append : (old : List Row) (levels more : List (List Row)) → last_levels old (levels ++ more) ≡ last_levels (last_levels old levels) more
levels-append old [] more = refl
levels-append old (new ∷ later) more = levels-append new later more

blocks-append : (number last : ℕ) (old : List Row) (levels more : List (List Row))
    → blocks_from number last old (levels ++ more) ≡ blocks_from number last old levels ++ blocks_from (number + length levels) (last_number last (blocks_from number last old levels)) (last_levels old levels) more
blocks-append number last old [] more = let same : number ≡ number + 0 = omega arith in ap (λ (n : ℕ). blocks_from n last old more) same
blocks-append number last old (new ∷ later) more =
    let first = blocks_of number last old new in
    let then = last_number last first in
    let rest = blocks_from (number + 1) then new later in
    let count : number + 1 + length later ≡ number + suc (length later) = omega arith in
    ap (λ (q : List Block). first ++ q) (blocks-append (number + 1) then new later more)
    ∙ sym (append_assoc first rest (blocks_from (number + 1 + length later) (last_number then rest) (last_levels new later) more))
    ∙ ap₂ (λ (n l : ℕ). (first ++ rest) ++ blocks_from n l (last_levels new later) more) count (sym (last-append last first rest))

-- ---- the messages from a state on

-- a place at which the feed has begun
abbrev begun_at : ℕ → List Row → FeedPlace
begun_at last rows = record { begun = true; last = last; rows = rows }

module _ (product : ProductLists) where
  -- the text of blocks, with the names of the product
  abbrev text_of : List Block → List ℕ
  text_of blocks = text_of_blocks product.names.instruments blocks

  next-counted : (state : State) (number : ℕ) (frame : List ℕ) → AreCounted product state number → AreCounted product (step_of product state frame).0 (number + 1)
  next-counted state number frame counted frames = omega (arith, counted (frame ∷ frames))

  begun-text : (number last : ℕ) (rows : List Row) (state : State) (frames : List (List ℕ)) → AreCounted product state number
      → messages_text (begun_at last rows) product state frames ≡ text_of (blocks_from (number + 1) last rows (levels_from product state frames))
  begun-text number last rows state [] counted = refl
  begun-text number last rows state (frame ∷ frames) counted =
      let next = (step_of product state frame).0 in
      let new = levels_of_state next in
      let first = blocks_of (number + 1) last rows new in
      let count : next.desk.messages ≡ number + 1 = counted (frame ∷ []) in
      ap (λ (n : ℕ). text_of (blocks_of n last rows new) ++ messages_text (next_place n new (begun_at last rows)) product next frames) count
      ∙ ap (λ (l : List ℕ). text_of first ++ l) (begun-text (number + 1) (last_number last first) new next frames (next-counted state number frame counted))
      ∙ sym (text-append product.names.instruments first (blocks_from (number + 1 + 1) (last_number last first) new (levels_from product next frames)))

  begun-after : (number last : ℕ) (rows : List Row) (state : State) (frames : List (List ℕ)) → AreCounted product state number
      → place_after (begun_at last rows) product state frames
      ≡ begun_at (last_number last (blocks_from (number + 1) last rows (levels_from product state frames))) (last_levels rows (levels_from product state frames))
  begun-after number last rows state [] counted = refl
  begun-after number last rows state (frame ∷ frames) counted =
      let next = (step_of product state frame).0 in
      let new = levels_of_state next in
      let first = blocks_of (number + 1) last rows new in
      let later = levels_from product next frames in
      let rest = blocks_from (number + 1 + 1) (last_number last first) new later in
      let count : next.desk.messages ≡ number + 1 = counted (frame ∷ []) in
      ap (λ (n : ℕ). place_after (next_place n new (begun_at last rows)) product next frames) count
      ∙ begun-after (number + 1) (last_number last first) new next frames (next-counted state number frame counted)
      ∙ ap (λ (n : ℕ). begun_at n (last_levels new later)) (sym (last-append last first rest))

  -- What is sent of at least one message: the beginning of the feed, if it has not begun, and the blocks of the levels that the
  -- messages leave, by numbers that go on.
  pub work-text : (number : ℕ) (place : FeedPlace) (state : State) (frame : List ℕ) (frames : List (List ℕ)) → AreCounted product state number
      → messages_text place product state (frame ∷ frames) ≡ beginning place ++ text_of (blocks_from (number + 1) place.last place.rows (levels_from product state (frame ∷ frames)))
  work-text number place state frame frames counted =
      let next = (step_of product state frame).0 in
      let n = next.desk.messages in
      let new = levels_of_state next in
      append_assoc (beginning place) (text_of (blocks_of n place.last place.rows new)) (messages_text (next_place n new place) product next frames)
      ∙ ap (λ (l : List ℕ). beginning place ++ l) (begun-text number place.last place.rows state (frame ∷ frames) counted)

  -- the feed has then begun, and is sent up to the last of these blocks
  pub work-after : (number : ℕ) (place : FeedPlace) (state : State) (frame : List ℕ) (frames : List (List ℕ)) → AreCounted product state number
      → place_after place product state (frame ∷ frames)
      ≡ begun_at (last_number place.last (blocks_from (number + 1) place.last place.rows (levels_from product state (frame ∷ frames)))) (last_levels place.rows (levels_from product state (frame ∷ frames)))
  work-after number place state frame frames counted = begun-after number place.last place.rows state (frame ∷ frames) counted

-- ---- the levels after each message, from the first on

-- what is sent of them: nothing before the first message
abbrev pub sent_levels : List Listed → List (List Row) → List ℕ
sent_levels listed [] = []
sent_levels listed (new ∷ later) = text_of_blocks listed (feed_blocks (new ∷ later))

abbrev is_any : List (List Row) → Bool
is_any [] = false
is_any (new ∷ later) = true

-- how far the feed is sent then
abbrev pub place_of_levels : List (List Row) → FeedPlace
place_of_levels levels = record { begun = is_any levels; last = last_number 0 (blocks_from 1 0 [] levels); rows = last_levels [] levels }

-- the first snapshot names no instrument
behind-opening : (listed : List Listed) (blocks : List Block) → opening_text ++ text_of_blocks listed blocks ≡ text_of_blocks listed (Snapshot 0 [] ∷ blocks)
behind-opening listed blocks = sym (text-append listed (Snapshot 0 [] ∷ []) blocks)

module _ (product : ProductLists) (state : State) where
  abbrev names : List Listed
  names = product.names.instruments

  -- further messages send what their levels add, and lead to the place after them
  pub text-more : (levels : List (List Row)) (frames : List (List ℕ)) → AreCounted product state (length levels)
      → sent_levels names levels ++ messages_text (place_of_levels levels) product state frames ≡ sent_levels names (levels ++ levels_from product state frames)
  text-more levels [] counted = append-nil (sent_levels names levels) ∙ ap (sent_levels names) (sym (append-nil levels))
  text-more [] (frame ∷ frames) counted =
      work-text product 0 (place_of_levels []) state frame frames counted
      ∙ behind-opening names (blocks_from 1 0 [] (levels_from product state (frame ∷ frames)))
  text-more (new ∷ later) (frame ∷ frames) counted =
      let levels : List (List Row) = new ∷ later in
      let more = levels_from product state (frame ∷ frames) in
      let n = length levels in
      let count : n + 1 ≡ 1 + n = omega arith in
      let blocks = blocks_from 1 0 [] levels in
      let behind = blocks_from (1 + n) (last_number 0 blocks) (last_levels [] levels) more in
      ap (λ (l : List ℕ). text_of_blocks names (feed_blocks levels) ++ l) (work-text product n (place_of_levels levels) state frame frames counted)
      ∙ ap (λ (k : ℕ). text_of_blocks names (feed_blocks levels) ++ text_of_blocks names (blocks_from k (last_number 0 blocks) (last_levels [] levels) more)) count
      ∙ sym (text-append names (feed_blocks levels) behind)
      ∙ ap (λ (q : List Block). text_of_blocks names (Snapshot 0 [] ∷ q)) (sym (blocks-append 1 0 [] levels more))

  pub place-more : (levels : List (List Row)) (frames : List (List ℕ)) → AreCounted product state (length levels)
      → place_after (place_of_levels levels) product state frames ≡ place_of_levels (levels ++ levels_from product state frames)
  place-more levels [] counted = ap place_of_levels (sym (append-nil levels))
  place-more [] (frame ∷ frames) counted = work-after product 0 (place_of_levels []) state frame frames counted
  place-more (new ∷ later) (frame ∷ frames) counted =
      let levels : List (List Row) = new ∷ later in
      let more = levels_from product state (frame ∷ frames) in
      let n = length levels in
      let count : n + 1 ≡ 1 + n = omega arith in
      let blocks = blocks_from 1 0 [] levels in
      let last = last_number 0 blocks in
      let rows = last_levels [] levels in
      work-after product n (place_of_levels levels) state frame frames counted
      ∙ ap (λ (k : ℕ). begun_at (last_number last (blocks_from k last rows more)) (last_levels rows more)) count
      ∙ ap₂ (λ (l : ℕ) (r : List Row). begun_at l r)
      (sym (last-append 0 blocks (blocks_from (1 + n) last rows more)) ∙ ap (last_number 0) (sym (blocks-append 1 0 [] levels more)))
      (sym (levels-append [] levels more))
