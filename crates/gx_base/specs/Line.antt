-- The bytes of a report after FIX 4.2: execution reports (35=8), refusals of a cancel or a replace (35=9), and rejects
-- of a message (35=3). Tags 9001 to 9003 are our own, and so are the words of 58.
use Rattle.std.specs.Prelude.{ℕ, Bool, List, [], ◌++◌, length, Option, Some, None, option_map, unwrap_or, slice_get, codes, decimal, if◌then◌else◌, ◌==◌}
use Prim.Native.String.{String}
use Rattle.gx_base.specs.Frames.{field, frame_of}
use Rattle.gx_base.specs.Numbers.{price_text}
use Rattle.gx_base.specs.NameLists.{NameLists}
use Rattle.gx_base.specs.declared.names.Listed.{Listed}
use Rattle.gx_base.specs.declared.price.Price.{Price}
use Rattle.gx_base.specs.declared.order.Order.{Order}
use Rattle.gx_base.specs.declared.order.Side.{Side}
use Rattle.gx_base.specs.declared.order.Side.TheVariants.{Buy, Sell}
use Rattle.gx_base.specs.declared.order.Kind.{Kind}
use Rattle.gx_base.specs.declared.order.Kind.TheVariants.{Limit, Market, StopLimit}
use Rattle.gx_base.specs.declared.order.Life.{Life}
use Rattle.gx_base.specs.declared.order.Life.TheVariants.{Day, Gtc, Fak, Fok}
use Rattle.gx_base.specs.declared.event.StepName.{StepName}
use Rattle.gx_base.specs.declared.event.StepName.TheVariants.{Top, Lmm, Split, ProRata, Leveling, Fifo}
use Rattle.gx_base.specs.declared.event.NewFault.{NewFault}
use Rattle.gx_base.specs.declared.event.NewFault.TheVariants as faults
use Rattle.gx_base.specs.declared.event.NewRefused.{NewRefused}
use Rattle.gx_base.specs.declared.event.Cause.{Cause}
use Rattle.gx_base.specs.declared.event.Cause.TheVariants as causes
use Rattle.gx_base.specs.declared.event.ChangeFault.{ChangeFault}
use Rattle.gx_base.specs.declared.event.ChangeFault.TheVariants as changes
use Rattle.gx_base.specs.declared.event.Head.{Head}
use Rattle.gx_base.specs.declared.event.Event.{Event}
use Rattle.gx_base.specs.declared.event.Event.TheVariants.{Accepted, Triggered, Fill, Cancelled, Expired, Replaced, RefusedNew, RefusedChange, RefusedSession}

-- ---- names, where a number that is not listed is written as UNKNOWN

abbrev pub firm_name : NameLists → ℕ → List ℕ
firm_name names firm = unwrap_or (slice_get names.firms firm) (codes "UNKNOWN")

abbrev pub addressee : NameLists → Option ℕ → List ℕ
addressee names None = codes "UNKNOWN"
addressee names (Some firm) = firm_name names firm

abbrev pub instrument_name : NameLists → ℕ → List ℕ
instrument_name names instrument = unwrap_or (option_map (λ (l : Listed). l.name) (slice_get names.instruments instrument)) (codes "UNKNOWN")

-- 0 where the instrument is not listed
abbrev pub decimals_of : NameLists → ℕ → ℕ
decimals_of names instrument = unwrap_or (option_map (λ (l : Listed). l.decimals) (slice_get names.instruments instrument)) 0

-- ---- values

abbrev pub side_text : Side → List ℕ
side_text Buy = codes "1"
side_text Sell = codes "2"

abbrev pub kind_text : Kind → List ℕ
kind_text Market = codes "1"
kind_text Limit = codes "2"
kind_text StopLimit = codes "4"

abbrev pub life_text : Life → List ℕ
life_text Day = codes "0"
life_text Gtc = codes "1"
life_text Fak = codes "3"
life_text Fok = codes "4"

abbrev pub step_text : StepName → List ℕ
step_text Top = codes "TOP"
step_text Lmm = codes "LMM"
step_text Split = codes "SPLIT"
step_text ProRata = codes "PRORATA"
step_text Leveling = codes "LEVELING"
step_text Fifo = codes "FIFO"

-- a fill that leaves something open, or nothing
abbrev pub fill_status : ℕ → List ℕ
fill_status leaves = if leaves == 0 then codes "2" else codes "1"

-- our own words for why a new order is refused (58)
abbrev pub fault_text : NewFault → List ℕ
fault_text faults.Closed = codes "CLOSED"
fault_text faults.Symbol = codes "SYMBOL"
fault_text faults.Duplicate = codes "DUPLICATE"
fault_text faults.Quantity = codes "QUANTITY"
fault_text faults.Tick = codes "TICK"
fault_text faults.StopLimit = codes "STOP LIMIT"
fault_text faults.StopReached = codes "STOP REACHED"
fault_text faults.MinQty = codes "MINQTY"
fault_text faults.Show = codes "SHOW"
fault_text faults.BookFull = codes "BOOK FULL"
fault_text faults.NoMarket = codes "NO MARKET"

-- the reason of a refusal (103) in FIX 4.2: 0 exchange option, 1 unknown symbol, 2 exchange closed, 3 order exceeds
-- limit, 6 duplicate order. Which fault has which of them is our own rule
abbrev pub reject_reason : NewFault → List ℕ
reject_reason faults.Closed = codes "2"
reject_reason faults.Symbol = codes "1"
reject_reason faults.Duplicate = codes "6"
reject_reason faults.Quantity = codes "3"
reject_reason faults.Tick = codes "0"
reject_reason faults.StopLimit = codes "0"
reject_reason faults.StopReached = codes "0"
reject_reason faults.MinQty = codes "0"
reject_reason faults.Show = codes "0"
reject_reason faults.BookFull = codes "3"
reject_reason faults.NoMarket = codes "0"

-- why an order is cancelled (58), where the client did not ask for it
abbrev pub cause_text : Cause → Option (List ℕ)
cause_text causes.Asked = None
cause_text causes.Fak = Some (codes "FAK")
cause_text causes.MinQty = Some (codes "MINQTY NOT MET")

-- our own words for why a cancel or a replace is refused (58)
abbrev pub change_text : ChangeFault → List ℕ
change_text changes.Closed = codes "CLOSED"
change_text changes.Unknown = codes "UNKNOWN"
change_text changes.Mismatch = codes "MISMATCH"
change_text changes.Duplicate = codes "DUPLICATE"
change_text changes.Quantity = codes "QUANTITY"
change_text changes.Filled = codes "FILLED"
change_text changes.Tick = codes "TICK"
change_text changes.StopLimit = codes "STOP LIMIT"
change_text changes.StopReached = codes "STOP REACHED"
change_text changes.Show = codes "SHOW"

-- the reason of such a refusal (102) in FIX 4.2: 0 too late, 1 unknown order, 2 broker option. Which fault has which of
-- them is our own rule
abbrev pub change_reason : ChangeFault → List ℕ
change_reason changes.Closed = codes "2"
change_reason changes.Unknown = codes "1"
change_reason changes.Mismatch = codes "2"
change_reason changes.Duplicate = codes "2"
change_reason changes.Quantity = codes "2"
change_reason changes.Filled = codes "0"
change_reason changes.Tick = codes "2"
change_reason changes.StopLimit = codes "2"
change_reason changes.StopReached = codes "2"
change_reason changes.Show = codes "2"

-- the status of the order that was to change (39): rejected if none is named, else new or partly filled
abbrev pub change_status : ChangeFault → ℕ → List ℕ
change_status changes.Closed filled = codes "8"
change_status changes.Unknown filled = codes "8"
change_status fault filled = if filled == 0 then codes "0" else codes "1"

-- what was refused (434): a cancel, or a replace
abbrev pub response_text : Bool → List ℕ
response_text replace = if replace then codes "2" else codes "1"

-- the number of an order, or NONE where there is none
abbrev pub number_text : ℕ → List ℕ
number_text number = if number == 0 then codes "NONE" else decimal number

-- our own words for the session rule that a message breaks (58)
abbrev pub rule_text : ℕ → List ℕ
rule_text rule =
    if rule == 1 then codes "FIRST TAG"
    else if rule == 2 then codes "BAD TAG"
    else if rule == 3 then codes "NO VALUE"
    else if rule == 4 then codes "SENDER"
    else if rule == 5 then codes "TARGET"
    else if rule == 6 then codes "HEADER"
    else if rule == 7 then codes "MSGTYPE"
    else if rule == 8 then codes "MISSING"
    else if rule == 9 then codes "FORMAT"
    else if rule == 10 then codes "VALUE"
    else codes "UNKNOWN"

-- ---- the parts of a body, in their order

-- message type, line, sender, time and addressee
abbrev pub line_head : NameLists → List ℕ → Head → List ℕ
line_head names type head =
    field "35" type
    ++ field "34" (decimal head.line)
    ++ field "49" names.exchange
    ++ field "52" head.time
    ++ field "56" (addressee names head.firm)

-- a field that is there only where it has a value
abbrev pub field_if : String → Option (List ℕ) → List ℕ
field_if tag None = []
field_if tag (Some value) = field tag value

-- which order, under which id, and in the place of which id
abbrev pub id_fields : ℕ → List ℕ → Option (List ℕ) → List ℕ
id_fields number id old = field "37" (decimal number) ++ field "11" id ++ field_if "41" old

-- which execution report, and what it tells: its kind (150) and the order's status (39) are the same in each of ours
abbrev pub report_fields : Head → List ℕ → List ℕ
report_fields head status =
    field "17" (decimal head.report)
    ++ field "20" (codes "0")
    ++ field "150" status
    ++ field "39" status

-- the price and the stop price, as far as the kind has them
abbrev pub price_fields : Kind → Price → Price → ℕ → List ℕ
price_fields Market price trigger decimals = []
price_fields Limit price trigger decimals = field "44" (price_text price decimals)
price_fields StopLimit price trigger decimals = field "44" (price_text price decimals) ++ field "99" (price_text trigger decimals)

-- what was ordered
abbrev pub order_fields : NameLists → Order → List ℕ
order_fields names order =
    field "55" (instrument_name names order.instrument)
    ++ field "54" (side_text order.side)
    ++ field "38" (decimal order.quantity)
    ++ field "40" (kind_text order.kind)
    ++ price_fields order.kind order.price order.trigger (decimals_of names order.instrument)
    ++ field "59" (life_text order.life)

-- an execution report of an order up to what was ordered, under this id, in the place of the old one, with this status
abbrev pub order_front : NameLists → Head → Order → List ℕ → Option (List ℕ) → List ℕ → List ℕ
order_front names head order id old status =
    line_head names (codes "8") head
    ++ id_fields order.number id old
    ++ report_fields head status
    ++ order_fields names order

-- what is open and filled of an order now
abbrev pub state_fields : Head → Order → List ℕ
state_fields head order =
    field "151" (decimal order.leaves)
    ++ field "14" (decimal order.filled)
    ++ field "6" (codes "0")
    ++ field "60" head.time

-- a trade: how much, and at which price
abbrev pub trade_fields : ℕ → Price → ℕ → List ℕ
trade_fields lots price decimals = field "32" (decimal lots) ++ field "31" (price_text price decimals)

-- the id of a cancelled order's report: that of the cancel, if one asked for it
abbrev pub cancel_id : Order → Option (List ℕ) → List ℕ
cancel_id order by = unwrap_or by order.id

-- the order's own id stands in 41 then
abbrev pub cancelled_id : Order → Option (List ℕ) → Option (List ℕ)
cancelled_id order by = option_map (λ _. order.id) by

-- a refused new order up to the reason: it has no number
abbrev pub refused_fields : Head → NewRefused → NewFault → List ℕ
refused_fields head order fault =
    id_fields 0 order.id None
    ++ report_fields head (codes "8")
    ++ field "103" (reject_reason fault)

-- what a refused new order wanted, without its prices
abbrev pub wanted_fields : NewRefused → List ℕ
wanted_fields order =
    field "55" order.symbol
    ++ field "54" (side_text order.side)
    ++ field "38" (decimal order.quantity)
    ++ field "40" (kind_text order.kind)
    ++ field "59" (life_text order.life)

-- nothing is open or filled
abbrev pub nothing_fields : Head → List ℕ
nothing_fields head =
    field "151" (codes "0")
    ++ field "14" (codes "0")
    ++ field "6" (codes "0")
    ++ field "60" head.time

-- why a new order is refused, and how much of it ends with that
abbrev pub fault_fields : NewRefused → NewFault → List ℕ
fault_fields order fault = field "58" (fault_text fault) ++ field "9003" (decimal order.quantity)

-- which order was to change, and by which request
abbrev pub request_fields : ℕ → List ℕ → List ℕ → List ℕ
request_fields number id old = field "37" (number_text number) ++ field "11" id ++ field "41" old

-- why a cancel or a replace is refused
abbrev pub change_fields : Head → ℕ → Bool → ChangeFault → List ℕ
change_fields head filled replace fault =
    field "39" (change_status fault filled)
    ++ field "434" (response_text replace)
    ++ field "102" (change_reason fault)
    ++ field "58" (change_text fault)
    ++ field "60" head.time

-- which message is rejected, at which tag where it is one, and why
abbrev pub session_fields : ℕ → ℕ → ℕ → ℕ → List ℕ
session_fields seq tag reason rule =
    field "45" (decimal seq)
    ++ field_if "371" (if tag == 0 then None else Some (decimal tag))
    ++ field "373" (decimal reason)
    ++ field "58" (rule_text rule)

-- the body of each event's line
abbrev pub body_of : NameLists → Event → List ℕ
body_of names (Accepted head order) =
    order_front names head order order.id None (codes "0")
    ++ state_fields head order
    ++ field "9003" (codes "0")
body_of names (Triggered head order) =
    order_front names head order order.id None (codes "0")
    ++ state_fields head order
    ++ field "58" (codes "TRIGGERED")
    ++ field "9003" (codes "0")
body_of names (Fill head order lots price step trade) =
    order_front names head order order.id None (fill_status order.leaves)
    ++ trade_fields lots price (decimals_of names order.instrument)
    ++ state_fields head order
    ++ field "9001" (step_text step)
    ++ field "9002" (decimal trade)
    ++ field "9003" (codes "0")
body_of names (Cancelled head order gone by cause) =
    order_front names head order (cancel_id order by) (cancelled_id order by) (codes "4")
    ++ state_fields head order
    ++ field_if "58" (cause_text cause)
    ++ field "9003" (decimal gone)
body_of names (Expired head order gone) =
    order_front names head order order.id None (codes "C")
    ++ state_fields head order
    ++ field "58" (codes "EXPIRED")
    ++ field "9003" (decimal gone)
body_of names (Replaced head order old old_quantity) =
    order_front names head order order.id (Some old) (codes "5")
    ++ state_fields head order
    ++ field "9003" (codes "0")
body_of names (RefusedNew head order fault) =
    line_head names (codes "8") head
    ++ refused_fields head order fault
    ++ wanted_fields order
    ++ nothing_fields head
    ++ fault_fields order fault
body_of names (RefusedChange head id old number filled replace fault) =
    line_head names (codes "9") head
    ++ request_fields number id old
    ++ change_fields head filled replace fault
body_of names (RefusedSession head seq tag reason rule) =
    line_head names (codes "3") head
    ++ session_fields seq tag reason rule

-- the line of an event: the frame of its body, whose length is written without leading zeros
abbrev pub line_of : NameLists → Event → List ℕ
line_of names event = let body = body_of names event in frame_of (decimal (length body)) body
