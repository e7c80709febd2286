-- What the engine does without trading sessions: each message comes from a firm, and the market is open all the time.
use Rattle.std.specs.Prelude.{◌≡◌, false, nat_eq, ℕ, List, [], ◌∷◌, ◌++◌, codes}
use Rattle.std.specs.List.{starts_with, AllByRecursion}
use Rattle.gx_base.specs.Frames.{soh}
use Rattle.gx_base.specs.declared.event.Event.{Event}
use Rattle.fix_frame.specs.Grammar.{body_in}
use Rattle.product_file.specs.Products.{ProductLists}
use Rattle.fix_request.specs.SessionRules.{firm_rules}
use Rattle.fix_request.specs.Requests.{request_under}
use Rattle.order_kinds.specs.State.{State}
use Rattle.order_kinds.specs.Stops.{by_number}
use Rattle.order_kinds.specs.Step.{with_message, open_step_as}

-- the step of a message that is read by the rules of firms, in an open market
abbrev pub firm_step_of : ProductLists → State → List ℕ → State × List Event
firm_step_of product state frame = open_step_as by_number product (request_under firm_rules product.names (body_in frame)) (with_message state)

-- ---- the folds over messages

abbrev pub firm_state_after : ProductLists → State → List (List ℕ) → State
firm_state_after product state [] = state
firm_state_after product state (frame ∷ frames) = firm_state_after product (firm_step_of product state frame).0 frames

abbrev pub firm_events_from : ProductLists → State → List (List ℕ) → List Event
firm_events_from product state [] = []
firm_events_from product state (frame ∷ frames) = (firm_step_of product state frame).1 ++ firm_events_from product (firm_step_of product state frame).0 frames

-- ---- messages that do not change the trading session

-- the body does not begin with `35=h` and SOH
abbrev pub IsOfFirm : List ℕ → Type 0
IsOfFirm frame = starts_with nat_eq (body_in frame) (codes "35=h" ++ soh ∷ []) ≡ false

abbrev pub AreOfFirms : List (List ℕ) → Type 0
AreOfFirms frames = AllByRecursion IsOfFirm frames
