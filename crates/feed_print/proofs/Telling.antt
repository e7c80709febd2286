-- What is sent of a message, part by part, and of one message more.
use Rattle.std.specs.Prelude.{if◌then◌else◌}
use Rattle.std.specs.Fmt.{digits}
use Rattle.std.proofs.Common.{◌≡◌, ℕ, ◌+◌, ◌<◌, Bool, true, false, List, [], ◌∷◌, ◌++◌, length, take, get_or, refl, sym, ap, ap₂, ◌∙◌, append-nil}
use Rattle.std.proofs.lemmas.List.{take_more}
use Rattle.product_file.specs.Products.{ProductLists}
use Rattle.fix_request.specs.Requests.{request_of}
use Rattle.fix_request.specs.declared.request.Request.{Request}
use Rattle.order_kinds.specs.State.{State, state_numbered}
use Rattle.order_kinds.specs.Step.{with_message, request_step, step_of, state_after}
use Rattle.level_feed.specs.declared.row.Row.{Row}
use Rattle.level_feed.specs.Rows.{difference}
use Rattle.level_feed.specs.Blocks.{Block, increment, due_snapshot}
use Rattle.level_feed.specs.FeedText.{text_of_blocks}
use Rattle.level_feed.specs.Feeds.{levels_of_state}
use Rattle.level_feed.proofs.GoingOn.{text-append}
use Rattle.feed_print.specs.FeedPlaces.{FeedPlace}
use Rattle.feed_print.specs.FeedTexts.{opening_text, beginning, message_text, next_place, messages_text, place_after, text-then, after-then, levels-numbered}

-- the first snapshot, of a feed that has not begun
opening-is : 83 ∷ 32 ∷ 48 ∷ 32 ∷ 48 ∷ 10 ∷ [] ≡ opening_text
unfolding digits
opening-is = refl

pub not-begun : (begun : Bool) → begun ≡ false → 83 ∷ 32 ∷ 48 ∷ 32 ∷ 48 ∷ 10 ∷ [] ≡ (if begun then [] else opening_text)
not-begun begun not = opening-is ∙ ap (λ (b : Bool). if b then [] else opening_text) (sym not)

-- ---- one message

module _ (product : ProductLists) (number : ℕ) (levels : List Row) (place : FeedPlace) where
  abbrev pub changes : List Block
  changes = increment number place.last (difference place.rows levels)

  pub message-parts : message_text product number levels place
      ≡ beginning place ++ (text_of_blocks product.names.instruments changes ++ text_of_blocks product.names.instruments (due_snapshot number levels))
  message-parts = ap (λ (l : List ℕ). beginning place ++ l) (text-append product.names.instruments changes (due_snapshot number levels))

  -- the feed has begun, and nothing else of it is changed
  pub changes-begun : (p : FeedPlace) → p ≡ record place { begun = true }
      → text_of_blocks product.names.instruments (increment number p.last (difference p.rows levels)) ≡ text_of_blocks product.names.instruments changes
  changes-begun p is = ap (λ (q : FeedPlace). text_of_blocks product.names.instruments (increment number q.last (difference q.rows levels))) is

-- the snapshot that is due has the levels of the book
pub due-after : (product : ProductLists) (given number last : ℕ) (levels : List Row) (p before : FeedPlace) → given ≡ number → p ≡ record before { last = last; rows = levels }
    → text_of_blocks product.names.instruments (due_snapshot given p.rows) ≡ text_of_blocks product.names.instruments (due_snapshot number levels)
due-after product given number last levels p before same is =
    ap₂ (λ (n : ℕ) (q : FeedPlace). text_of_blocks product.names.instruments (due_snapshot n q.rows)) same is

-- ---- one message more

module _ (product : ProductLists) (start : State) (place : FeedPlace) (frames : List (List ℕ)) (k : ℕ) (within : k < length frames) (frame : List ℕ) (is : frame ≡ get_or frames k []) where
  one-more : take (k + 1) frames ≡ take k frames ++ frame ∷ []
  one-more = take_more frames k [] within ∙ ap (λ (x : List ℕ). take k frames ++ x ∷ []) (sym is)

  module _ (before after : State) (request : Request) (s_is : state_numbered before ≡ state_after product start (take k frames)) (asked : request ≡ request_of product frame)
      (did : state_numbered after ≡ (request_step product request (with_message (state_numbered before))).0) where
    stepped : state_numbered after ≡ (step_of product (state_after product start (take k frames)) frame).0
    stepped =
        did
        ∙ ap (λ (r : Request). (request_step product r (with_message (state_numbered before))).0) asked
        ∙ ap (λ (t : State). (step_of product t frame).0) s_is

    same-levels : levels_of_state (step_of product (state_after product start (take k frames)) frame).0 ≡ levels_of_state after
    same-levels = ap levels_of_state (sym stepped) ∙ levels-numbered after.book.resting

    same-number : (step_of product (state_after product start (take k frames)) frame).0.desk.messages ≡ after.desk.messages
    same-number = ap (λ (s : State). s.desk.messages) (sym stepped)

    pub state-more : state_numbered after ≡ state_after product start (take (k + 1) frames)
    state-more = stepped ∙ sym (pushed start (take k frames)) ∙ ap (state_after product start) (sym one-more)
      where
        pushed : (s : State) (xs : List (List ℕ)) → state_after product s (xs ++ frame ∷ []) ≡ (step_of product (state_after product s xs) frame).0
        pushed s [] = refl
        pushed s (x ∷ xs) = pushed (step_of product s x).0 xs

    pub text-more : messages_text place product start (take (k + 1) frames)
        ≡ messages_text place product start (take k frames) ++ message_text product after.desk.messages (levels_of_state after) (place_after place product start (take k frames))
    text-more =
        let so_far = messages_text place product start (take k frames) in
        let at = place_after place product start (take k frames) in
        ap (messages_text place product start) one-more
        ∙ text-then place product start (take k frames) (frame ∷ [])
        ∙ ap (λ (l : List ℕ). so_far ++ l) (append-nil _)
        ∙ ap₂ (λ (n : ℕ) (levels : List Row). so_far ++ message_text product n levels at) same-number same-levels

    pub place-more : place_after place product start (take (k + 1) frames) ≡ next_place after.desk.messages (levels_of_state after) (place_after place product start (take k frames))
    place-more =
        let at = place_after place product start (take k frames) in
        ap (place_after place product start) one-more
        ∙ after-then place product start (take k frames) (frame ∷ [])
        ∙ ap₂ (λ (n : ℕ) (levels : List Row). next_place n levels at) same-number same-levels
