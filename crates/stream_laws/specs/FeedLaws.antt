-- The fold law over histories: the feed's text from a snapshot to the end of a block is the book's displayed levels at that time.
use Rattle.std.specs.Prelude.{◌≡◌, ℕ, ◌-◌, ◌<◌, ◌≤◌, nat_le, if◌then◌else◌, List, take, Ok}
use Rattle.product_file.specs.Products.{ProductLists}
use Rattle.order_kinds.specs.declared.core_state.TheConstants.{MOST_MESSAGES}
use Rattle.order_kinds.specs.State.{State, empty_state}
use Rattle.order_kinds.specs.Step.{state_after}
use Rattle.order_kinds.specs.Amendments.{amended_state}
use Rattle.order_kinds.specs.Histories.{History, of_product, amended, last_product, length_kept, state_kept, AreOfTexts, IsHistory}
use Rattle.level_feed.specs.Blocks.{Block}
use Rattle.level_feed.specs.FeedText.{text_of_blocks}
use Rattle.level_feed.specs.Lines.{Listing, listing_of}
use Rattle.level_feed.specs.Folds.{fold_of}
use Rattle.level_feed.specs.Laws.{IsPart, AreLater}
use Rattle.level_feed.specs.Feeds.{levels_of_state, levels_kept, feed_text}

-- the state after the first m messages of a history
abbrev pub state_at : History → ℕ → State
state_at (of_product product messages) m = state_after product (empty_state product) (take m messages)
state_at (amended before product messages) m =
    if nat_le m (length_kept before) then state_at before m
    else state_after product (amended_state product (state_kept before)) (take (m - length_kept before) messages)

-- ---- the fold

-- the fold of the text of a part is the levels of the state after the message of its last block
abbrev pub FoldsAtBlocks : Type 0
FoldsAtBlocks =
    (kept : History) (part back : List Block) (number : ℕ)
    → AreOfTexts kept
    → IsHistory kept
    → length_kept kept < MOST_MESSAGES
    → IsPart (levels_kept kept) part back number
    → fold_of (listing_of (last_product kept)) (text_of_blocks (last_product kept).names.instruments part) ≡ Ok (levels_of_state (state_at kept number))

-- and of each later state before the message of the next increment
abbrev pub FoldsBetweenBlocks : Type 0
FoldsBetweenBlocks =
    (kept : History) (part back : List Block) (number m : ℕ)
    → AreOfTexts kept
    → IsHistory kept
    → length_kept kept < MOST_MESSAGES
    → IsPart (levels_kept kept) part back number
    → number ≤ m
    → m ≤ length_kept kept
    → AreLater m back
    → fold_of (listing_of (last_product kept)) (text_of_blocks (last_product kept).names.instruments part) ≡ Ok (levels_of_state (state_at kept m))

-- the fold of the whole feed is the levels of the book after all messages
abbrev pub FoldsWhole : Type 0
FoldsWhole =
    (kept : History)
    → AreOfTexts kept
    → IsHistory kept
    → length_kept kept < MOST_MESSAGES
    → fold_of (listing_of (last_product kept)) (feed_text kept) ≡ Ok (levels_of_state (state_kept kept))

-- ---- amendments

-- each product of the history has this listing
abbrev pub HaveListing : Listing → History → Type 0
HaveListing listing (of_product product messages) = listing_of product ≡ listing
HaveListing listing (amended before product messages) = HaveListing listing before × (listing_of product ≡ listing)

-- the products of a history have one listing, so that the text of the feed has the same names and prices under each
abbrev pub SameListings : Type 0
SameListings = (kept : History) → IsHistory kept → HaveListing (listing_of (last_product kept)) kept

-- an amendment changes no level
abbrev pub AmendmentsKeepLevels : Type 0
AmendmentsKeepLevels = (product : ProductLists) (state : State) → levels_of_state (amended_state product state) ≡ levels_of_state state
