-- Histories: products one after the other, each with the messages that were taken under it.
use Rattle.std.specs.Prelude.{◌≡◌, ℕ, ◌+◌, List, ◌++◌, drop, length, flat_map, Ok}
use Rattle.gx_base.specs.Line.{line_of}
use Rattle.gx_base.specs.NameLists.{NameLists}
use Rattle.gx_base.specs.declared.event.Event.{Event}
use Rattle.product_file.specs.Products.{ProductLists, IsRightProduct}
use Rattle.product_file.specs.ProductTexts.{product_of}
use Rattle.product_file.specs.Amendments.{may_follow}
use Rattle.order_kinds.specs.State.{State, empty_state}
use Rattle.order_kinds.specs.Amendments.{amended_state}
use Rattle.order_kinds.specs.Step.{state_after, events_from}
use Rattle.order_kinds.specs.Balance.{AreBalanced}

-- A list of at least one pair of a product and its messages, read from its end: one product with its messages; or a history, the
-- product that amends it, and the messages after that.
pub data History : Type 0 where
  of_product : ProductLists → List (List ℕ) → History
  amended : History → ProductLists → List (List ℕ) → History

-- the product of the last pair
abbrev pub last_product : History → ProductLists
last_product (of_product product messages) = product
last_product (amended before product messages) = product

-- each product may follow the one before it
abbrev pub IsHistory : History → Type 0
IsHistory (of_product product messages) = Unit {0}
IsHistory (amended before product messages) = IsHistory before × (may_follow (last_product before) product ≡ Ok tt)

-- each product is right
abbrev pub AreRightProducts : History → Type 0
AreRightProducts (of_product product messages) = IsRightProduct product
AreRightProducts (amended before product messages) = AreRightProducts before × IsRightProduct product

-- a text gives the product
abbrev pub IsOfText : ProductLists → Type 0
IsOfText product = (text : List ℕ) × (product_of text ≡ Ok product)

-- a text gives each product
abbrev pub AreOfTexts : History → Type 0
AreOfTexts (of_product product messages) = IsOfText product
AreOfTexts (amended before product messages) = AreOfTexts before × IsOfText product

-- further messages in the last pair
abbrev pub with_messages : History → List (List ℕ) → History
with_messages (of_product product messages) more = of_product product (messages ++ more)
with_messages (amended before product messages) more = amended before product (messages ++ more)

-- how many messages there are
abbrev pub length_kept : History → ℕ
length_kept (of_product product messages) = length messages
length_kept (amended before product messages) = length_kept before + length messages

-- the state after all messages, each taken under its product
abbrev pub state_kept : History → State
state_kept (of_product product messages) = state_after product (empty_state product) messages
state_kept (amended before product messages) = state_after product (amended_state product (state_kept before)) messages

-- their events, one after the other
abbrev pub events_kept : History → List Event
events_kept (of_product product messages) = events_from product (empty_state product) messages
events_kept (amended before product messages) = events_kept before ++ events_from product (amended_state product (state_kept before)) messages

-- a line for each event, those of each pair with the names of its product
abbrev pub lines_kept : (NameLists → Event → List ℕ) → History → List ℕ
lines_kept line (of_product product messages) = flat_map (line product.names) (events_from product (empty_state product) messages)
lines_kept line (amended before product messages) =
    lines_kept line before ++ flat_map (line product.names) (events_from product (amended_state product (state_kept before)) messages)

-- their reports
abbrev pub reports_kept : History → List ℕ
reports_kept history = lines_kept line_of history

-- The reports of these messages, where the history was kept before: the reports of all, without those of the history.
abbrev pub new_reports : History → List (List ℕ) → List ℕ
new_reports history messages = drop (length (reports_kept history)) (reports_kept (with_messages history messages))

-- what a history reports adds up
abbrev pub IsBalanced : History → Type 0
IsBalanced history = AreBalanced (events_kept history) (state_kept history)
