-- What the functions of a close do: which orders leave, and what is reported of them.
use Rattle.std.specs.Prelude.{◌≡◌, ℕ, ◌+◌, ◌^◌, ◌≤◌, Bool, not, ◌&&◌, List, filter, length, slice_index}
use Rattle.gx_base.specs.declared.order.Desk.{Desk}
use Rattle.gx_base.specs.Emits.{EmitMeanings, Emits}
use Rattle.plain_book.specs.declared.entry.Entry.{Entry}
use Rattle.plain_book.specs.Book.{Book, live_orders}
use Rattle.order_kinds.specs.TradingSessions.{expires, expiry_reports}

-- ---- which orders leave

-- the list without those that pass a test and expire
abbrev pub ended : (Entry → Bool) → List Entry → List Entry
ended part es = filter (λ e. not (part e && expires e)) es

-- those of the resting orders leave
abbrev pub resting_ended : (Entry → Bool) → Book → Book
resting_ended part b = record b { resting = ended part b.resting }

-- those of the waiting stops leave
abbrev pub waiting_ended : (Entry → Bool) → Book → Book
waiting_ended part b = record b { waiting = ended part b.waiting }

-- ---- what is reported

-- of these orders those that expire were reported, one after the other
pub record ReportsExpiries {E : Type 0} (m : EmitMeanings E) (time : List ℕ) (orders : List Entry) (old new : Desk) (before after : E) : Type 0 where
  pub desk : new ≡ (expiry_reports time (filter expires orders) old).0
  pub emits : Emits m before after (expiry_reports time (filter expires orders) old).1

-- each counter has room for a report of each live order
pub record HasRoomFor (b : Book) (desk : Desk) : Type 0 where
  pub reports : desk.reports + length (live_orders b) ≤ 2 ^ 63
  pub lines : (place : ℕ) → slice_index desk.lines place + length (live_orders b) ≤ 2 ^ 63
