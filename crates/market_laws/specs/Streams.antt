-- What laws of the market are said of: every history, each of its states, reports and messages.
use Rattle.std.specs.Prelude.{ℕ, List}
use Rattle.std.specs.List.{AllByRecursion}
use Rattle.gx_base.specs.declared.event.Event.{Event}
use Rattle.order_kinds.specs.State.{State}
use Rattle.order_kinds.specs.Step.{step_of}
use Rattle.order_kinds.specs.Histories.{History, AreRightProducts, IsHistory, last_product, state_kept, events_kept}

-- a law holds of every history of right products that may follow each other, whatever its messages are
abbrev pub OfEachHistory : (History → Type 0) → Type 0
OfEachHistory Law = (history : History) → AreRightProducts history → IsHistory history → Law history

-- of the state that any history leads to
abbrev pub OfEachState : (State → Type 0) → Type 0
OfEachState Law = OfEachHistory (λ history. Law (state_kept history))

-- of each report of any history
abbrev pub OfEachReport : (Event → Type 0) → Type 0
OfEachReport Law = OfEachHistory (λ history. AllByRecursion Law (events_kept history))

-- of what any message does after any history: of the state before it, and of the state after it with its reports
abbrev pub OfEachMessage : (State → State × List Event → Type 0) → Type 0
OfEachMessage Law = (next : List ℕ) → OfEachHistory (λ history. (let state = state_kept history in Law state (step_of (last_product history) state next)))
