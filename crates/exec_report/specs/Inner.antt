-- What the inner functions write. Nothing of this need be believed: `write_line` promises `line_of`.
use Rattle.std.specs.Prelude.{ℕ, List, ◌++◌, decimal}
use Rattle.gx_base.specs.Frames.{field}
use Rattle.gx_base.specs.Line.{side_text, kind_text, life_text, price_fields}
use Rattle.gx_base.specs.Executions.{event_of}
use Rattle.gx_base.specs.NameLists.{NameLists}
use Rattle.gx_base.specs.declared.order.Order.{Order}
use Rattle.gx_base.specs.declared.event.Event.{Event}
use Rattle.gx_base.specs.declared.event.Head.{Head}
use Rattle.exec_report.specs.declared.reported.Reported.{Reported}
use Rattle.exec_report.specs.declared.reported.Reported.TheVariants as reported

-- message type, line, sender and time
abbrev pub timed_head : NameLists → List ℕ → Head → List ℕ
timed_head names type head = field "35" type ++ field "34" (decimal head.line) ++ field "49" names.exchange ++ field "52" head.time

-- what was ordered after the quantity, where prices have so many decimals
abbrev pub term_fields : Order → ℕ → List ℕ
term_fields order decimals =
    field "40" (kind_text order.kind)
    ++ price_fields order.kind order.price order.trigger decimals
    ++ field "59" (life_text order.life)

-- what was ordered of an instrument with this name, where prices have so many decimals
abbrev pub ordered_fields : List ℕ → Order → ℕ → List ℕ
ordered_fields instrument order decimals =
    field "55" instrument
    ++ field "54" (side_text order.side)
    ++ field "38" (decimal order.quantity)
    ++ field "40" (kind_text order.kind)
    ++ price_fields order.kind order.price order.trigger decimals
    ++ field "59" (life_text order.life)

-- the event that a line is of
abbrev pub reported_event : Reported → Event
reported_event (reported.Event event) = event.now
reported_event (reported.Execution execution) = event_of execution.now
