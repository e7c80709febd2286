-- The events that execution reports of lent orders stand for.
use Rattle.std.specs.Option.{option_copied}
use Rattle.gx_base.specs.declared.order.Order.{Order}
use Rattle.gx_base.specs.declared.event.Head.{Head}
use Rattle.gx_base.specs.declared.event.Event.{Event}
use Rattle.gx_base.specs.declared.event.Event.TheVariants as events
use Rattle.gx_base.specs.declared.execution.Execution.{Execution}
use Rattle.gx_base.specs.declared.execution.ExecType.{ExecType}
use Rattle.gx_base.specs.declared.execution.ExecType.TheVariants.{New, Triggered, Fill, Cancelled, Expired, Replaced}

-- the order as a report shows it
abbrev pub order_after : Execution → Order
order_after e = record e.order.now { filled = e.filled; leaves = e.leaves; shown = e.shown }

-- the event of an order to which this happened
abbrev pub event_with : Head → Order → ExecType → Event
event_with head order New = events.Accepted head order
event_with head order Triggered = events.Triggered head order
event_with head order (Fill lots price step trade) = events.Fill head order lots price step trade
event_with head order (Cancelled gone by cause) = events.Cancelled head order gone (option_copied by) cause
event_with head order (Expired gone) = events.Expired head order gone
event_with head order (Replaced old old_quantity) = events.Replaced head order old.now old_quantity

-- the event that a report stands for
abbrev pub event_of : Execution → Event
event_of e = event_with e.head.now (order_after e) e.exec_type
