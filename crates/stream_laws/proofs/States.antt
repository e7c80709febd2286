-- The levels of a right state, and the listing of the product of a text.
use Rattle.std.proofs.Common.{◌≡◌, ℕ, ◌%◌, ◌^◌, ◌<◌, ◌≤◌, true, false, List, [], ◌∷◌, length, length-append, map, Ok, ◌∙◌, arith}
use Prim.Native.Nat.{zero, suc}
use Rattle.std.specs.Prelude.{slice_get, slice_index, unsigned_abs, ◌==◌, nat_le}
use Rattle.std.proofs.lemmas.Bool.{and_parts, eqb-true, leb-true}
use Rattle.std.proofs.lemmas.List.{length-map}
use Rattle.std.proofs.lemmas.List.Elements.{recursion_from_All}
use Rattle.gx_base.specs.declared.limits.TheConstants.{MOST_LOTS, MOST_PRICE_UNITS}
use Rattle.gx_base.specs.declared.price.Price.{Price}
use Rattle.book_order.specs.Levels.{Level}
use Rattle.book_order.proofs.Each.{all-with, all-front}
use Rattle.plain_book.specs.declared.entry.Entry.{Entry}
use Rattle.plain_book.specs.Orders.{level_of}
use Rattle.plain_book.specs.Book.{IsResting, live_orders}
use Rattle.product_file.specs.Products.{ProductLists}
use Rattle.product_file.specs.ProductTexts.{product_of}
use Rattle.product_file.specs.declared.product.InstrumentRule.{InstrumentRule}
use Rattle.product_file.proofs.RightTexts.{product_of_text_is_right}
use Rattle.stream_laws.specs.Names as names
use Rattle.stream_laws.proofs.Products.{product-names}
use Rattle.order_kinds.specs.State.{State}
use Rattle.order_kinds.specs.Instruments.{tick_of}
use Rattle.book_image.specs.Rules.{is_price_by, is_price_of}
use Rattle.image_laws.specs.Right.{IsRightState, IsRightEntry}
use Rattle.level_feed.specs.declared.row.Row.{Row}
use Rattle.level_feed.specs.Rows.{level_of_row, levels_of}
use Rattle.level_feed.specs.Lines.{listing_of}
use Rattle.level_feed.specs.Laws.{IsRightListing, IsPriced, IsShown, AreLevels}
use Rattle.level_feed.specs.Feeds.{levels_of_state}
use Rattle.level_feed.proofs.LevelsOf.{levels-at, levels-ordered, levels-sums, length-levels, IsSum, Shows}
use Rattle.stream_laws.proofs.NamesDiffer.{names-differ}

-- ---- the listing of a product

pub listing-right : (text : List ℕ) (product : ProductLists) → product_of text ≡ Ok product → IsRightListing (listing_of product)
listing-right text product is =
    let right = product_of_text_is_right text product is in
    let named = product-names text product is in
    let orders = right.few_orders in
    let rules = right.a_rule_each in
    record {
      names = recursion_from_All names.IsListed product.names.instruments named.instruments;
      differ = names-differ text product is;
      ticks = length-map product.rules (λ (rule : InstrumentRule). unsigned_abs rule.tick) ∙ rules;
      few = omega arith;
    }

-- ---- the levels of a right state

-- a level whose price is in range and on the tick
pub record IsAtPrice (product : ProductLists) (k : Level) : Type 0 where
  pub listed : k.instrument < length product.names.instruments
  pub price : is_price_of product k.instrument (record { 0 = k.price }) ≡ true

entry-at : (product : ProductLists) (count : ℕ) (e : Entry) → IsRightEntry product count e → IsAtPrice product (level_of e.order)
entry-at product count e h = record { listed = h.instrument; price = h.price }

price-parts : (rules : List InstrumentRule) (i : ℕ) (price : Price) → is_price_by (slice_get rules i) price ≡ true
    → (unsigned_abs price.0 ≤ MOST_PRICE_UNITS) × (unsigned_abs price.0 % slice_index (map (λ (rule : InstrumentRule). unsigned_abs rule.tick) rules) i ≡ 0)
price-parts [] i price h = absurd (let no : false ≡ true = h in cc)
price-parts (rule ∷ rules) zero price h =
    let both = and_parts (nat_le (unsigned_abs price.0) MOST_PRICE_UNITS) (unsigned_abs price.0 % tick_of rule == 0) h in
    (leb-true (unsigned_abs price.0) MOST_PRICE_UNITS both.0, eqb-true (unsigned_abs price.0 % tick_of rule) 0 both.1)
price-parts (rule ∷ rules) (suc i) price h = price-parts rules i price h

row-priced : (product : ProductLists) (r : Row) → IsAtPrice product (level_of_row r) → IsPriced (listing_of product) r
row-priced product r h =
    let parts = price-parts product.rules r.instrument r.price h.price in
    record { listed = h.listed; in_range = parts.0; on_tick = parts.1 }

entry-shows : (instruments : ℕ) (e : Entry) → IsResting instruments e.order → Shows MOST_LOTS e
entry-shows instruments e h =
    let fit = h.fit in
    let whole = fit.whole in
    let small = fit.small in
    let within = h.within in
    (h.showing, omega arith)

sum-shown : (n : ℕ) (r : Row) → n < 2 ^ 32 → IsSum MOST_LOTS n r → IsShown r
sum-shown n r low s =
    let lots = s.few_lots in
    let orders = s.few_orders in
    record { some_lots = s.some_lots; some_orders = s.some_orders; few_lots = omega arith; few_orders = omega arith }

pub state-levels : (product : ProductLists) (state : State) → IsRightState product state → AreLevels (listing_of product) (levels_of_state state)
state-levels product state right =
    let book = right.book in
    let es = state.book.resting in
    let entries = all-front (IsRightEntry product state.desk.orders) es state.book.waiting right.entries in
    let at = all-with (IsRightEntry product state.desk.orders) (λ (e : Entry). IsAtPrice product (level_of e.order)) (entry-at product state.desk.orders) es entries in
    let shows = all-with (λ (e : Entry). IsResting state.book.instruments e.order) (Shows MOST_LOTS) (entry-shows state.book.instruments) es book.rest in
    let few = book.few in
    let small = book.small in
    let capacity = right.capacity in
    let resting : length es ≤ length (live_orders state.book) = omega (arith, length-append es state.book.waiting) in
    record {
      ordered = levels-ordered es book.ordered;
      priced = all-with (λ (r : Row). IsAtPrice product (level_of_row r)) (IsPriced (listing_of product)) (row-priced product) (levels_of es) (levels-at (IsAtPrice product) es at);
      shown = all-with (IsSum MOST_LOTS (length es)) IsShown (λ r s. sum-shown (length es) r (omega arith) s) (levels_of es) (levels-sums MOST_LOTS es shows);
      few = omega (arith, length-levels es);
    }
