-- The balance of a history, said of the bytes that its reports have: as the balance of order_kinds says it of what the engine tells.
use Rattle.std.specs.Prelude.{◌≡◌, ℕ, ◌+◌, ◌^◌, ◌<◌, ◌≤◌, true, List, ◌++◌, flat_map}
use Rattle.std.specs.List.{AllByRecursion}
use Rattle.gx_base.specs.declared.event.Event.{Event}
use Rattle.fix_frame.specs.Stream.{messages_of}
use Rattle.order_kinds.specs.State.{State}
use Rattle.order_kinds.specs.Balance.{total_entered, total_filled, total_open, open_in, total_cancelled}
use Rattle.order_kinds.specs.Histories.{History, length_kept, state_kept, events_kept, reports_kept}
use Rattle.book_print.specs.LedgerText.{ledger_of, total_line}
use Rattle.stream_laws.specs.Reading.{last_open_read, is_execution, is_refusal, is_expiry, ReadsAsWhole, FillsReadUp, lots_read, cancelled_read}
use Rattle.stream_laws.specs.Told.{EndsWhole, LeavesNothing, ledger_line_read}

-- the reports of a history as the reader of a stream takes them from the bytes that are sent
abbrev pub reports_read : History → List (List ℕ)
reports_read history = messages_of (reports_kept history)

-- an execution report reads as whole, that of a refused order ends whole, and that of an order that expires leaves nothing
pub record IsReadRight (report : List ℕ) : Type 0 where
  pub whole : is_execution report ≡ true → ReadsAsWhole report
  pub refused : is_refusal report ≡ true → EndsWhole report
  pub expired : is_expiry report ≡ true → LeavesNothing report

-- What the bytes of the reports say adds up, where so many messages led to these events and this state.
pub record AreReadBalanced (messages : ℕ) (events : List Event) (state : State) (reports : List (List ℕ)) : Type 0 where
  -- each report by itself: 38 = 14 + 151 + 9003; of a refused order 14 and 151 are 0, and 9003 is 38; of one that expires 151 is 0
  pub each : AllByRecursion IsReadRight reports
  -- the sum of all 32 is what was filled
  pub filled : lots_read reports ≡ total_filled events
  -- the sum of 9003 of all orders that are cancelled or that expire is what was cancelled
  pub cancelled : cancelled_read reports ≡ total_cancelled events
  -- each order: 14 of each of its reports is the sum of all 32 up to it. A number below 2 ^ 64 is told apart by its text.
  pub fills : messages < 2 ^ 64 → FillsReadUp reports
  -- each order: 151 of its last report is what is open of it in the book
  pub leaves : messages < 2 ^ 64 → (number : ℕ) → 1 ≤ number → last_open_read number reports ≡ open_in state.book number
  -- in total: entered = filled + open + cancelled
  pub total : total_entered events ≡ lots_read reports + (total_open state.book + cancelled_read reports)
  -- the ledger writes what the reports do, line by line and in total
  pub ledger : ledger_of events state ≡ flat_map ledger_line_read reports ++ total_line (total_entered events) (lots_read reports) (total_open state.book) (cancelled_read reports)

-- the reports of a history, from its beginning on
abbrev pub IsReadBalanced : History → Type 0
IsReadBalanced history = AreReadBalanced (length_kept history) (events_kept history) (state_kept history) (reports_read history)
