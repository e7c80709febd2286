-- What a line of the level feed says (our own rules). A name may have spaces, so a line is taken apart from its end.
use Rattle.std.specs.Prelude.{ℕ, ◌%◌, ◌^◌, ◌&&◌, ◌==◌, nat_le, if◌then◌else◌, List, [], ◌∷◌, map, take, drop, slice_get, unsigned_abs, position, bytes_eq, codes, decimal, Option, Some, None, Result, Ok, Err}
use Rattle.std.specs.Str.Parse.{digits_value}
use Rattle.gx_base.specs.Numbers.{price_of}
use Rattle.gx_base.specs.declared.names.Listed.{Listed}
use Rattle.gx_base.specs.declared.price.Price.{Price}
use Rattle.gx_base.specs.declared.price.PriceFault.{PriceFault}
use Rattle.gx_base.specs.declared.order.Side.{Side}
use Rattle.gx_base.specs.declared.order.Side.TheVariants.{Buy, Sell}
use Rattle.product_file.specs.Products.{ProductLists}
use Rattle.product_file.specs.declared.product.InstrumentRule.{InstrumentRule}
use Rattle.level_feed.specs.declared.line.Line.{Line}
use Rattle.level_feed.specs.declared.line.Line.TheVariants as kind
use Rattle.level_feed.specs.FeedText.{decimals_in}

-- What a feed takes from a product: its instruments, their ticks in price units, and how many rows there may be at once.
pub record Listing : Type 0 where
  pub instruments : List Listed
  pub ticks : List ℕ
  pub max_orders : ℕ

-- the greatest number that a line may have
abbrev pub greatest_number : ℕ
greatest_number = 2 ^ 62

abbrev pub listing_of : ProductLists → Listing
listing_of product = record {
  instruments = product.names.instruments;
  ticks = map (λ (rule : InstrumentRule). unsigned_abs rule.tick) product.rules;
  max_orders = product.max_orders;
}

infixl 10 ◌>>=◌
abbrev pub ◌>>=◌ : {A B : Type 0} → Option A → (A → Option B) → Option B
(Some x) >>= f = f x
None >>= f = None

-- what comes before the last space, and the word after it
pub record Split : Type 0 where
  pub front : List ℕ
  pub word : List ℕ

abbrev pub onto_split : ℕ → List ℕ → Option Split → Option Split
onto_split c text None = if c == 32 then Some (record { front = []; word = text }) else None
onto_split c text (Some s) = Some (record { front = c ∷ s.front; word = s.word })

abbrev pub split_last : List ℕ → Option Split
split_last [] = None
split_last (c ∷ text) = onto_split c text (split_last text)

-- the number that is written so, without a leading zero
abbrev pub number_of : List ℕ → Option ℕ
number_of text =
    let n = digits_value 10 text in
    if bytes_eq text (decimal n) && nat_le n greatest_number then Some n else None

abbrev pub side_of : List ℕ → Option Side
side_of text = if bytes_eq text (codes "B") then Some Buy else (if bytes_eq text (codes "S") then Some Sell else None)

abbrev pub instrument_of : List Listed → List ℕ → Option ℕ
instrument_of listed text = position (λ name. bytes_eq name text) (map (λ (l : Listed). l.name) listed)

-- a price that is a multiple of the tick
abbrev pub on_tick : ℕ → Result Price PriceFault → Option Price
on_tick tick (Ok price) = if unsigned_abs price.0 % tick == 0 then Some price else None
on_tick tick (Err fault) = None

-- a price is read as that of a message
abbrev pub price_at : Listing → ℕ → List ℕ → Option Price
price_at listing i text =
    slice_get listing.ticks i >>= λ tick. on_tick tick (price_of text (decimals_in listing.instruments i))

-- K R
abbrev pub snapshot_line : List ℕ → Option Line
snapshot_line text = do
  rows ← split_last text
  number ← number_of rows.front
  count ← number_of rows.word
  Some (kind.Snapshot number count)

-- K J C
abbrev pub increment_line : List ℕ → Option Line
increment_line text = do
  rows ← split_last text
  last ← split_last rows.front
  number ← number_of last.front
  before ← number_of last.word
  count ← number_of rows.word
  Some (kind.Increment number before count)

-- NAME SIDE PRICE SHOWN COUNT
abbrev pub row_line_of : Listing → List ℕ → Option Line
row_line_of listing text = do
  orders ← split_last text
  shown ← split_last orders.front
  price ← split_last shown.front
  side ← split_last price.front
  instrument ← instrument_of listing.instruments side.front
  is_side ← side_of side.word
  at ← price_at listing instrument price.word
  total ← number_of shown.word
  count ← number_of orders.word
  Some (kind.Row (record { instrument = instrument; side = is_side; price = at; shown = total; orders = count }))

-- the letter of a line and a space, and what comes after them
abbrev pub line_of : Listing → List ℕ → Option Line
line_of listing text =
    if bytes_eq (take 2 text) (codes "S ") then snapshot_line (drop 2 text)
    else (if bytes_eq (take 2 text) (codes "I ") then increment_line (drop 2 text)
    else (if bytes_eq (take 2 text) (codes "R ") then row_line_of listing (drop 2 text) else None))
