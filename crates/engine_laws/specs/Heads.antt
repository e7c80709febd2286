-- The head of each event.
use Rattle.gx_base.specs.declared.event.Head.{Head}
use Rattle.gx_base.specs.declared.event.Event.{Event}
use Rattle.gx_base.specs.declared.event.Event.TheVariants.{Accepted, Triggered, Fill, Cancelled, Expired, Replaced, RefusedNew, RefusedChange, RefusedSession}

abbrev pub head_in : Event → Head
head_in (Accepted head o) = head
head_in (Triggered head o) = head
head_in (Fill head o lots price step trade) = head
head_in (Cancelled head o gone by cause) = head
head_in (Expired head o gone) = head
head_in (Replaced head o old before) = head
head_in (RefusedNew head new fault) = head
head_in (RefusedChange head id old number filled replace fault) = head
head_in (RefusedSession head seq tag reason rule) = head
