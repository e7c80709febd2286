-- The openings of all instruments as text (our own rule): for each instrument its name; its candidates from the highest price
-- down; its opening price; and the pairs that would trade.
use Rattle.std.specs.Prelude.{ℕ, zero, suc, ◌+◌, List, [], ◌++◌, flat_map, length, Option, Some, None, codes, decimal}
use Rattle.gx_base.specs.NameLists.{NameLists}
use Rattle.gx_base.specs.Line.{instrument_name, decimals_of}
use Rattle.gx_base.specs.Numbers.{price_text}
use Rattle.gx_base.specs.declared.price.Price.{Price}
use Rattle.line_parts.specs.Words.{line_feed}
use Rattle.product_file.specs.Products.{ProductLists}
use Rattle.plain_book.specs.declared.entry.Entry.{Entry}
use Rattle.order_kinds.specs.State.{State}
use Rattle.order_kinds.specs.OrderRules.{last_of}
use Rattle.open_auction.specs.declared.quote.Opening.{Opening}
use Rattle.open_auction.specs.Openings.{openings, opening_of}
use Rattle.open_auction.specs.Pairs.{Pair, opening_pairs}

-- NAME
abbrev pub name_line : NameLists → ℕ → List ℕ
name_line names i = instrument_name names i ++ line_feed

-- PRICE D DEMAND S SUPPLY V VOLUME
abbrev pub candidate_line : ℕ → Opening → List ℕ
candidate_line decimals o =
    price_text o.price decimals ++ codes " D " ++ decimal o.demand ++ codes " S " ++ decimal o.supply ++ codes " V " ++ decimal o.volume ++ line_feed

-- opening PRICE volume VOLUME, or opening none
abbrev pub opening_line : ℕ → Option Opening → List ℕ
opening_line decimals None = codes "opening none" ++ line_feed
opening_line decimals (Some o) = codes "opening " ++ price_text o.price decimals ++ codes " volume " ++ decimal o.volume ++ line_feed

-- LOTS@PRICE #BUY #SELL
abbrev pub pair_words : ℕ → Price → ℕ → ℕ → ℕ → List ℕ
pair_words decimals p lots buy sell =
    decimal lots ++ codes "@" ++ price_text p decimals ++ codes " #" ++ decimal buy ++ codes " #" ++ decimal sell ++ line_feed

abbrev pub pair_line : ℕ → Price → Pair → List ℕ
pair_line decimals p q = pair_words decimals p q.lots q.buy.number q.sell.number

abbrev pub pair_lines : ℕ → ℕ → List Entry → Option Opening → List ℕ
pair_lines decimals i es None = []
pair_lines decimals i es (Some o) = flat_map (pair_line decimals o.price) (opening_pairs i es o.price)

abbrev pub instrument_opening : NameLists → State → ℕ → List ℕ
instrument_opening names state i =
    let es = state.book.resting in
    let decimals = decimals_of names i in
    let opening = opening_of (last_of i state.last) i es in
    name_line names i
    ++ flat_map (candidate_line decimals) (openings i es)
    ++ opening_line decimals opening
    ++ pair_lines decimals i es opening

-- so many instruments, from this one on
abbrev pub opening_texts : NameLists → State → ℕ → ℕ → List ℕ
opening_texts names state i zero = []
opening_texts names state i (suc count) = instrument_opening names state i ++ opening_texts names state (i + 1) count

-- the openings of all instruments, in the order of the product file
abbrev pub opening_text : ProductLists → State → List ℕ
opening_text product state = opening_texts product.names state 0 (length product.names.instruments)
