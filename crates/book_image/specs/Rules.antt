-- What is right of the rows and the parts of an image, as far as each is looked at by itself or beside the rows before it: our
-- own rules.
use Rattle.std.specs.Prelude.{ℕ, ◌+◌, ◌%◌, min, Bool, true, false, not, ◌&&◌, ◌==◌, nat_lt, nat_le, int_le, unsigned_abs, if◌then◌else◌, List, length, Option, Some, None, slice_get, bytes_eq, pos}
use Rattle.std.specs.Ordering.{int_eq}
use Rattle.std.specs.List.{list_any, list_all}
use Rattle.gx_base.specs.declared.limits.TheConstants.{MOST_LOTS, MOST_PRICE_UNITS}
use Rattle.gx_base.specs.declared.price.Price.{Price}
use Rattle.gx_base.specs.declared.order.Side.TheVariants.{Buy, Sell}
use Rattle.gx_base.specs.declared.order.Kind.TheVariants.{Limit, StopLimit}
use Rattle.gx_base.specs.declared.order.Life.{Life}
use Rattle.gx_base.specs.declared.order.Life.TheVariants.{Day, Gtc, Fak, Fok}
use Rattle.gx_base.specs.declared.order.Order.{Order}
use Rattle.gx_base.specs.declared.trading.Trading.{Trading}
use Rattle.gx_base.specs.declared.trading.Trading.TheVariants.{Open, Closed}
use Rattle.product_file.specs.Products.{ProductLists}
use Rattle.product_file.specs.declared.product.InstrumentRule.{InstrumentRule}
use Rattle.plain_book.specs.Orders.{is_side, is_before, level_of}
use Rattle.order_kinds.specs.Instruments.{tick_of}
use Rattle.order_kinds.specs.OrderRules.{is_quantity, is_beyond_stop}
use Rattle.order_kinds.specs.NewOrders.{may_rest}
use Rattle.order_kinds.specs.Replaces.{is_kind}
use Rattle.order_kinds.specs.TradingSessions.{is_until_cancelled}
use Rattle.book_image.specs.Rows.{order_of_row, has_forms}

-- ---- prices

-- a multiple of the tick within the price range
abbrev pub is_price_by : Option InstrumentRule → Price → Bool
is_price_by None price = false
is_price_by (Some rule) price = nat_le (unsigned_abs price.0) MOST_PRICE_UNITS && (unsigned_abs price.0 % tick_of rule == 0)

abbrev pub is_price_of : ProductLists → ℕ → Price → Bool
is_price_of product instrument price = is_price_by (slice_get product.rules instrument) price

abbrev pub is_zero : Price → Bool
is_zero price = int_eq price.0 (pos 0)

-- ---- a row by itself

-- what is asked of each order, where so many have been given a number
abbrev pub is_right_order : ProductLists → ℕ → Order → Bool
is_right_order product given o =
    nat_le 1 o.number && nat_le o.number given
    && nat_lt o.firm (length product.names.firms)
    && nat_lt o.instrument (length product.names.instruments)
    && is_price_of product o.instrument o.price
    && is_quantity o.quantity
    && (o.filled + o.leaves == o.quantity)
    && nat_le 1 o.leaves
    && nat_le o.show o.quantity
    && nat_le o.prorated MOST_LOTS

-- what is shown of a resting order: all that is open, or a part of what it shows at a time
abbrev pub is_right_shown : Order → Bool
is_right_shown o =
    if o.show == 0 then o.shown == o.leaves
    else nat_le 1 o.shown && nat_le o.shown (min o.show o.leaves)

abbrev pub is_right_resting : Order → Bool
is_right_resting o =
    is_kind o.kind Limit && may_rest o.life && is_zero o.trigger && (o.min == 0) && is_right_shown o

-- the least that has to be open for a waiting stop
abbrev pub is_right_min : Life → Order → Bool
is_right_min Day o = o.min == 0
is_right_min Gtc o = o.min == 0
is_right_min Fak o = nat_le o.min o.quantity
is_right_min Fok o = o.min == o.quantity

abbrev pub is_right_waiting : ProductLists → Order → Bool
is_right_waiting product o =
    is_kind o.kind StopLimit
    && is_price_of product o.instrument o.trigger
    && not (is_beyond_stop o.side (Some o.price) (Some o.trigger))
    && (o.filled == 0) && (o.shown == 0) && (o.prorated == 0)
    && is_right_min o.life o

-- while the market is closed, each live order is good till cancelled
abbrev pub may_live : Trading → Order → Bool
may_live Open o = true
may_live Closed o = is_until_cancelled o.life

-- ---- a row beside the rows before it

abbrev pub has_same_name : Order → Order → Bool
has_same_name o before = (before.firm == o.firm) && bytes_eq before.id o.id

-- no order before it has its firm and id
abbrev pub is_new_name : Order → List Order → Bool
is_new_name o before = not (list_any (has_same_name o) before)

-- it does not go back in the order of the book
abbrev pub is_in_book_order : Order → List Order → Bool
is_in_book_order o before = list_all (λ b. not (is_before (level_of o) (level_of b))) before

-- it does not go back in the order of the waiting stops
abbrev pub is_in_line : Order → List Order → Bool
is_in_line o before = list_all (λ (b : Order). nat_le b.instrument o.instrument) before

-- a sell that a buy of its instrument could trade with
abbrev pub crosses : Order → Order → Bool
crosses o before =
    (before.instrument == o.instrument) && is_side before.side Buy && is_side o.side Sell && int_le o.price.0 before.price.0

abbrev pub is_uncrossed : Order → List Order → Bool
is_uncrossed o before = not (list_any (crosses o) before)

-- ---- rows

-- a resting row, after these
abbrev pub is_right_resting_row : ProductLists → ℕ → List Order → List ℕ → Bool
is_right_resting_row product given before row =
    let o = order_of_row row in
    has_forms row && is_right_order product given o && is_right_resting o
    && is_new_name o before && is_in_book_order o before && is_uncrossed o before

-- a waiting row, after these resting and these waiting ones
abbrev pub is_right_waiting_row : ProductLists → ℕ → List Order → List Order → List ℕ → Bool
is_right_waiting_row product given resting before row =
    let o = order_of_row row in
    has_forms row && is_right_order product given o && is_right_waiting product o
    && is_new_name o resting && is_new_name o before && is_in_line o before
