-- Rules that are asked one after the other: where none refuses, what each asked for is true.
use Rattle.std.proofs.Common.{◌≡◌, Bool, true, false, not, length, Option, Some, None, Result, Ok, Err, refl, subst}
use Rattle.std.specs.Prelude.{◌==◌, nat_lt, nat_le, ok_or}
use Rattle.gx_base.specs.declared.order.Order.{Order}
use Rattle.gx_base.specs.declared.event.NewFault.TheVariants as fault
use Rattle.gx_base.specs.declared.event.ChangeFault.TheVariants as change
use Rattle.product_file.specs.Products.{ProductLists}
use Rattle.fix_request.specs.declared.request.NewOrder.{NewOrder}
use Rattle.fix_request.specs.declared.request.ReplaceOrder.{ReplaceOrder}
use Rattle.plain_book.specs.Orders.{is_live}
use Rattle.plain_book.specs.Book.{live_orders}
use Rattle.order_kinds.specs.State.{State}
use Rattle.order_kinds.specs.Instruments.{ListedInstrument, instrument_of}
use Rattle.order_kinds.specs.OrderRules.{◌>>=◌, refused_where, is_quantity, has_off_tick, has_bad_stop, is_stop_reached, last_of}
use Rattle.order_kinds.specs.NewOrders.{has_bad_min, limit_of, Terms, terms_of}
use Rattle.order_kinds.specs.Replaces.{is_same_order, replace_terms}

-- the rule does not hold, and the others are next
refused-then : {B F : Type 0} (b : Bool) (f : F) (rest : Unit {0} → Result B F) (r : B) → (refused_where b f >>= rest) ≡ Ok r → (b ≡ false) × (rest tt ≡ Ok r)
refused-then true f rest r h = absurd (let k : Err f ≡ Ok r = h in cc)
refused-then false f rest r h = (refl, h)

-- it is found, and the other rules are next
found-then : {A B F : Type 0} (found : Option A) (f : F) (rest : A → Result B F) (r : B) → (ok_or found f >>= rest) ≡ Ok r → (x : A) × (found ≡ Some x) × (rest x ≡ Ok r)
found-then None f rest r h = absurd (let k : Err f ≡ Ok r = h in cc)
found-then (Some x) f rest r h = (x, refl, h)

-- ---- a new order

-- no rule refuses a new order, and these are its terms
pub record PassesAsNew (product : ProductLists) (new : NewOrder) (state : State) (terms : Terms) : Type 0 where
  pub named : instrument_of product new.named ≡ Some terms.instrument
  pub unnamed : is_live new.sender.firm new.id (live_orders state.book) ≡ false
  pub quantity : not (is_quantity new.quantity) ≡ false
  pub tick : has_off_tick terms.instrument new.price new.trigger ≡ false
  pub stop : has_bad_stop new.kind new.side new.price new.trigger ≡ false
  pub reached : is_stop_reached new.kind new.side new.trigger (last_of terms.instrument.number state.last) ≡ false
  pub least : has_bad_min new ≡ false
  pub show : nat_lt new.quantity new.show ≡ false
  pub room : (length (live_orders state.book) == product.max_orders) ≡ false
  pub limit : limit_of new.kind terms.instrument new state.book ≡ Some terms.limit

pub new-passes : (product : ProductLists) (new : NewOrder) (state : State) (terms : Terms) → terms_of product new state ≡ Ok terms → PassesAsNew product new state terms
new-passes product new state terms h =
    let found = found-then (instrument_of product new.named) fault.Symbol _ terms h in
    let unnamed = refused-then (is_live new.sender.firm new.id (live_orders state.book)) fault.Duplicate _ terms found.2 in
    let quantity = refused-then (not (is_quantity new.quantity)) fault.Quantity _ terms unnamed.1 in
    let tick = refused-then (has_off_tick found.0 new.price new.trigger) fault.Tick _ terms quantity.1 in
    let stop = refused-then (has_bad_stop new.kind new.side new.price new.trigger) fault.StopLimit _ terms tick.1 in
    let reached = refused-then (is_stop_reached new.kind new.side new.trigger (last_of found.0.number state.last)) fault.StopReached _ terms stop.1 in
    let least = refused-then (has_bad_min new) fault.MinQty _ terms reached.1 in
    let show = refused-then (nat_lt new.quantity new.show) fault.Show _ terms least.1 in
    let room = refused-then (length (live_orders state.book) == product.max_orders) fault.BookFull _ terms show.1 in
    let limit = found-then (limit_of new.kind found.0 new state.book) fault.NoMarket _ terms room.1 in
    let made : Terms = record { instrument = found.0; limit = limit.0 } in
    let is : Ok made ≡ Ok terms = limit.2 in
    let same : made ≡ terms = cc in
    subst (PassesAsNew product new state) same (record {
      named = found.1;
      unnamed = unnamed.0;
      quantity = quantity.0;
      tick = tick.0;
      stop = stop.0;
      reached = reached.0;
      least = least.0;
      show = show.0;
      room = room.0;
      limit = limit.1;
    })

-- ---- a replace

-- no rule refuses a replace of the order o, and it names this instrument
pub record PassesAsReplace (product : ProductLists) (request : ReplaceOrder) (o : Order) (state : State) (on : ListedInstrument) : Type 0 where
  pub named : instrument_of product request.named ≡ Some on
  pub same : not (is_same_order on request o) ≡ false
  pub unnamed : is_live request.sender.firm request.id (live_orders state.book) ≡ false
  pub quantity : not (is_quantity request.quantity) ≡ false
  pub filled : nat_le request.quantity o.filled ≡ false
  pub tick : has_off_tick on request.price request.trigger ≡ false
  pub stop : has_bad_stop request.kind request.side request.price request.trigger ≡ false
  pub reached : is_stop_reached request.kind request.side request.trigger (last_of on.number state.last) ≡ false
  pub show : nat_lt request.quantity o.show ≡ false

pub replace-passes : (product : ProductLists) (request : ReplaceOrder) (o : Order) (state : State) (on : ListedInstrument) → replace_terms product request o state ≡ Ok on → PassesAsReplace product request o state on
replace-passes product request o state on h =
    let found = found-then (instrument_of product request.named) change.Mismatch _ on h in
    let same = refused-then (not (is_same_order found.0 request o)) change.Mismatch _ on found.2 in
    let unnamed = refused-then (is_live request.sender.firm request.id (live_orders state.book)) change.Duplicate _ on same.1 in
    let quantity = refused-then (not (is_quantity request.quantity)) change.Quantity _ on unnamed.1 in
    let filled = refused-then (nat_le request.quantity o.filled) change.Filled _ on quantity.1 in
    let tick = refused-then (has_off_tick found.0 request.price request.trigger) change.Tick _ on filled.1 in
    let stop = refused-then (has_bad_stop request.kind request.side request.price request.trigger) change.StopLimit _ on tick.1 in
    let reached = refused-then (is_stop_reached request.kind request.side request.trigger (last_of found.0.number state.last)) change.StopReached _ on stop.1 in
    let show = refused-then (nat_lt request.quantity o.show) change.Show _ on reached.1 in
    let is : Ok found.0 ≡ Ok on = show.1 in
    let here : found.0 ≡ on = cc in
    subst (PassesAsReplace product request o state) here (record {
      named = found.1;
      same = same.0;
      unnamed = unnamed.0;
      quantity = quantity.0;
      filled = filled.0;
      tick = tick.0;
      stop = stop.0;
      reached = reached.0;
      show = show.0;
    })
