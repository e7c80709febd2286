-- The feed of a history: the levels after each of its messages, and the text. Our own rules.
use Rattle.std.specs.Prelude.{ℕ, List, [], ◌∷◌, ◌++◌}
use Rattle.product_file.specs.Products.{ProductLists}
use Rattle.order_kinds.specs.State.{State, empty_state}
use Rattle.order_kinds.specs.Step.{step_of}
use Rattle.order_kinds.specs.Amendments.{amended_state}
use Rattle.order_kinds.specs.Histories.{History, of_product, amended, last_product, state_kept}
use Rattle.level_feed.specs.declared.row.Row.{Row}
use Rattle.level_feed.specs.Rows.{levels_of}
use Rattle.level_feed.specs.Blocks.{feed_blocks}
use Rattle.level_feed.specs.FeedText.{text_of_blocks}

-- the levels of a state
abbrev pub levels_of_state : State → List Row
levels_of_state state = levels_of state.book.resting

-- the levels after each of these messages
abbrev pub levels_from : ProductLists → State → List (List ℕ) → List (List Row)
levels_from product state [] = []
levels_from product state (frame ∷ frames) =
    let next = (step_of product state frame).0 in
    levels_of_state next ∷ levels_from product next frames

-- the levels after each message of a history; an amendment changes no level
abbrev pub levels_kept : History → List (List Row)
levels_kept (of_product product messages) = levels_from product (empty_state product) messages
levels_kept (amended before product messages) = levels_kept before ++ levels_from product (amended_state product (state_kept before)) messages

-- The text of the feed of a history, with the names of its last product. The instruments of all its products have the same names and
-- decimals.
abbrev pub feed_text : History → List ℕ
feed_text history = text_of_blocks (last_product history).names.instruments (feed_blocks (levels_kept history))
