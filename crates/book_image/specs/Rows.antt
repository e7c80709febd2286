-- An order as a row of 82 bytes, and the order that a row is read as: our own rule. Numbers have their highest byte first, and
-- prices are written in two's complement.
use Rattle.std.specs.Prelude.{ℕ, ◌+◌, ◌-◌, ◌*◌, Bool, ◌&&◌, ◌==◌, if◌then◌else◌, List, ◌∷◌, ◌++◌, length, take, drop, replicate, get_or, bytes_eq}
use Rattle.std.specs.Int.{w32, w64, to_be_bytes, from_be_bytes, cast_signed, cast_unsigned}
use Rattle.gx_base.specs.Texts.{is_name}
use Rattle.gx_base.specs.declared.limits.TheConstants.{LONGEST_NAME}
use Rattle.gx_base.specs.declared.price.Price.{Price}
use Rattle.gx_base.specs.declared.order.Side.{Side}
use Rattle.gx_base.specs.declared.order.Side.TheVariants.{Buy, Sell}
use Rattle.gx_base.specs.declared.order.Kind.{Kind}
use Rattle.gx_base.specs.declared.order.Kind.TheVariants.{Limit, Market, StopLimit}
use Rattle.gx_base.specs.declared.order.Life.{Life}
use Rattle.gx_base.specs.declared.order.Life.TheVariants.{Day, Gtc, Fak, Fok}
use Rattle.gx_base.specs.declared.order.Order.{Order}
use Rattle.book_image.specs.declared.format.TheConstants.{ROW_BYTES}

-- ---- what is written

-- the numbers that FIX 4.2 has for a side (54), an order type (40) and a time in force (59)
abbrev pub side_byte : Side → ℕ
side_byte Buy = 1
side_byte Sell = 2

abbrev pub order_kind_byte : Kind → ℕ
order_kind_byte Market = 1
order_kind_byte Limit = 2
order_kind_byte StopLimit = 4

abbrev pub life_byte : Life → ℕ
life_byte Day = 0
life_byte Gtc = 1
life_byte Fak = 3
life_byte Fok = 4

abbrev pub number_bytes : ℕ → List ℕ
number_bytes n = to_be_bytes w64 n

abbrev pub count_bytes : ℕ → List ℕ
count_bytes n = to_be_bytes w32 n

abbrev pub price_bytes : Price → List ℕ
price_bytes price = number_bytes (cast_unsigned w64 price.0)

-- filled up with zeros
abbrev pub padded : List ℕ → List ℕ
padded id = id ++ replicate (LONGEST_NAME - length id) 0

abbrev pub order_row : Order → List ℕ
order_row o =
    number_bytes o.number
    ++ (o.firm ∷ o.instrument ∷ side_byte o.side ∷ order_kind_byte o.kind ∷ life_byte o.life ∷ length o.id ∷ padded o.id)
    ++ price_bytes o.price
    ++ price_bytes o.trigger
    ++ count_bytes o.quantity
    ++ count_bytes o.filled
    ++ count_bytes o.leaves
    ++ count_bytes o.show
    ++ count_bytes o.shown
    ++ count_bytes o.min
    ++ count_bytes o.prorated

-- ---- what is read

-- so many bytes, from a place on
abbrev pub bytes_at : List ℕ → ℕ → ℕ → List ℕ
bytes_at bytes at count = take count (drop at bytes)

abbrev pub byte_at : List ℕ → ℕ → ℕ
byte_at bytes at = get_or bytes at 0

abbrev pub number_at : List ℕ → ℕ → ℕ
number_at bytes at = from_be_bytes w64 (bytes_at bytes at 8)

abbrev pub count_at : List ℕ → ℕ → ℕ
count_at bytes at = from_be_bytes w32 (bytes_at bytes at 4)

abbrev pub price_at : List ℕ → ℕ → Price
price_at bytes at = record { 0 = cast_signed w64 (number_at bytes at) }

abbrev pub side_of_byte : ℕ → Side
side_of_byte byte = if byte == 2 then Sell else Buy

abbrev pub kind_of_byte : ℕ → Kind
kind_of_byte byte = if byte == 1 then Market else if byte == 4 then StopLimit else Limit

abbrev pub life_of_byte : ℕ → Life
life_of_byte byte = if byte == 1 then Gtc else if byte == 3 then Fak else if byte == 4 then Fok else Day

abbrev pub id_of_row : List ℕ → List ℕ
id_of_row row = bytes_at row 14 (byte_at row 13)

-- the order that a row is read as, whether the row is right or not
abbrev pub order_of_row : List ℕ → Order
order_of_row row = record {
  number = number_at row 0;
  firm = byte_at row 8;
  instrument = byte_at row 9;
  side = side_of_byte (byte_at row 10);
  kind = kind_of_byte (byte_at row 11);
  life = life_of_byte (byte_at row 12);
  id = id_of_row row;
  price = price_at row 38;
  trigger = price_at row 46;
  quantity = count_at row 54;
  filled = count_at row 58;
  leaves = count_at row 62;
  show = count_at row 66;
  shown = count_at row 70;
  min = count_at row 74;
  prorated = count_at row 78;
}

-- the bytes of the side, the order type and the time in force are those of one, and the id is a name, filled up with zeros
abbrev pub has_forms : List ℕ → Bool
has_forms row =
    let o = order_of_row row in
    (byte_at row 10 == side_byte o.side)
    && (byte_at row 11 == order_kind_byte o.kind)
    && (byte_at row 12 == life_byte o.life)
    && is_name o.id
    && bytes_eq (bytes_at row 14 LONGEST_NAME) (padded o.id)

-- ---- several rows

-- the rows of some orders, one after the other
abbrev pub row_at : List ℕ → ℕ → ℕ → List ℕ
row_at payload first k = bytes_at payload (first + ROW_BYTES * k) ROW_BYTES
