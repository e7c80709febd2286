-- The stream of made messages as bytes: FIX 4.2, one frame after the other.
use Rattle.std.specs.Prelude.{ℕ, zero, suc, ◌+◌, ◌*◌, List, [], ◌++◌, length, pos, Some, option_map, unwrap_or, slice_get, codes, decimal, unsigned_abs}
use Rattle.gx_base.specs.Frames.{field, frame_of}
use Rattle.gx_base.specs.Line.{firm_name, instrument_name, decimals_of, side_text}
use Rattle.gx_base.specs.Numbers.{price_text}
use Rattle.gx_station.specs.Sources.{SourceMeanings}
use Rattle.product_file.specs.Products.{ProductLists}
use Rattle.product_file.specs.declared.product.InstrumentRule.{InstrumentRule}
use Rattle.order_maker.specs.declared.made.Made.{Made}
use Rattle.order_maker.specs.declared.made.Made.TheVariants.{New, Cancel, Replace}
use Rattle.order_maker.specs.Messages.{firm_at, instrument_at, side_at, message_of}

-- ---- the parts of a body

-- the id of a message
abbrev pub id_of : ℕ → List ℕ
id_of j = codes "G" ++ decimal j

-- message j, sent by the firm of message k: type, sender, exchange, number and time
abbrev pub head_fields : ProductLists → List ℕ → ℕ → ℕ → List ℕ
head_fields p type j k =
    field "35" type
    ++ field "49" (firm_name p.names (firm_at p k))
    ++ field "56" p.names.exchange
    ++ field "34" (decimal j)
    ++ field "52" (codes "20240102-00:00:00")

-- the tick of message j's instrument, in price units
abbrev pub tick_at : ProductLists → ℕ → ℕ
tick_at p j = unwrap_or (option_map (λ (rule : InstrumentRule). unsigned_abs rule.tick) (slice_get p.rules (instrument_at p j))) 0

-- a price in ticks, as the text of message j's instrument
abbrev pub price_at : ProductLists → ℕ → ℕ → List ℕ
price_at p j ticks = price_text (record { 0 = pos (ticks * tick_at p j) }) (decimals_of p.names (instrument_at p j))

-- a limit order on message j's instrument and side: instrument, side, quantity, type and price
abbrev pub order_fields : ProductLists → ℕ → ℕ → ℕ → List ℕ
order_fields p j lots ticks =
    field "55" (instrument_name p.names (instrument_at p j))
    ++ field "54" (side_text (side_at p j))
    ++ field "38" (decimal lots)
    ++ field "40" (codes "2")
    ++ field "44" (price_at p j ticks)

-- ---- messages

-- the body of message j: a new order for the day, or the cancel or the replace of message k's order by its firm
abbrev pub body_of : ProductLists → ℕ → Made → List ℕ
body_of p j (New lots ticks) =
    head_fields p (codes "D") j j
    ++ field "11" (id_of j)
    ++ order_fields p j lots ticks
    ++ field "59" (codes "0")
body_of p j (Cancel k) =
    head_fields p (codes "F") j k
    ++ field "11" (id_of j)
    ++ field "41" (id_of k)
body_of p j (Replace k lots ticks) =
    head_fields p (codes "G") j k
    ++ field "11" (id_of j)
    ++ field "41" (id_of k)
    ++ order_fields p k lots ticks

-- the frame of a message
unfoldable pub frame_at : ProductLists → ℕ → Made → List ℕ
frame_at p j made = let body = body_of p j made in frame_of (decimal (length body)) body

-- the frames of so many messages from number j on, drawn from state x on
unfoldable pub frames_from : ProductLists → ℕ → ℕ → ℕ → List ℕ
frames_from p x j zero = []
frames_from p x j (suc more) = let next = message_of p j x in frame_at p j next.0 ++ frames_from p next.1 (j + 1) more

-- the stream of `count` messages of a product, with `first` as the first state
abbrev pub made_stream : ProductLists → ℕ → ℕ → List ℕ
made_stream p first count = frames_from p first 1 count

-- ---- as a source

-- what is left of a stream, and how many reads have placed bytes
pub record MadeStream : Type 0 where
  pub left : List ℕ
  pub reads : ℕ

-- it tells what is left, and no read fails
abbrev pub generator_meanings : SourceMeanings MadeStream
generator_meanings = record { left = λ s. Some s.left; faults = λ s. 0; reads = λ s. s.reads }
