-- Report lines that are no execution reports, and how they are counted.
use Rattle.std.specs.Prelude.{ℕ, ◌+◌, Bool, List, [], ◌∷◌, slice_index, slice_set, Option, Some, None}
use Rattle.gx_base.specs.declared.limits.TheConstants.{MOST_FIRMS}
use Rattle.gx_base.specs.declared.order.Desk.{Desk}
use Rattle.gx_base.specs.declared.event.Head.{Head}
use Rattle.gx_base.specs.declared.event.ChangeFault.{ChangeFault}
use Rattle.gx_base.specs.declared.event.Event.{Event}
use Rattle.gx_base.specs.declared.event.Event.TheVariants.{RefusedChange}
use Rattle.fix_request.specs.declared.request.Sender.{Sender}
use Rattle.order_kinds.specs.State.{State}

-- the place of an addressee's count of lines; the last is that of `UNKNOWN`
abbrev pub line_place : Option ℕ → ℕ
line_place None = MOST_FIRMS
line_place (Some firm) = firm

-- the head of the next line to an addressee
abbrev pub next_line_head : Desk → Option ℕ → List ℕ → Head
next_line_head desk firm time = record { firm = firm; line = slice_index desk.lines (line_place firm) + 1; report = 0; time = time }

-- the counters after it
abbrev pub line_counted : Desk → Option ℕ → Desk
line_counted desk firm = record desk { lines = slice_set desk.lines (line_place firm) (slice_index desk.lines (line_place firm) + 1) }

-- A cancel or a replace is refused: what is said of it. Number and filled quantity are those of the order that it was to
-- change, or 0 where there is none.
abbrev pub change_refused : Sender → List ℕ → List ℕ → ℕ → ℕ → Bool → ChangeFault → Desk → Event
change_refused sender id old number filled replace fault desk =
    RefusedChange (next_line_head desk (Some sender.firm) sender.time) id old number filled replace fault

-- it is reported to its firm, and changes nothing
abbrev pub unchanged : Sender → List ℕ → List ℕ → ℕ → ℕ → Bool → ChangeFault → State → State × List Event
unchanged sender id old number filled replace fault state =
    (record state { desk = line_counted state.desk (Some sender.firm) }, change_refused sender id old number filled replace fault state.desk ∷ [])
