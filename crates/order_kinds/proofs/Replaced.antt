-- A replace: what is true of one that no rule refuses, what the order is given to come in again, and what all of it comes to.
use Rattle.std.proofs.Common.{◌≡◌, ℕ, ◌<◌, ◌≤◌, Bool, true, false, cond, not, ◌&&◌, List, [], ◌∷◌, Result, Ok, Err, Some, None, length, refl, sym, ap, subst, ◌∙◌, arith, inl, inr, ◌⊎◌}
use Rattle.std.specs.Prelude.{◌^◌, nat_le}
use Rattle.std.proofs.lemmas.Bool.Decides.{nat_tests}
use Rattle.gx_base.specs.declared.limits.TheConstants.{MOST_LOTS}
use Rattle.gx_base.specs.declared.order.Kind.{Kind}
use Rattle.gx_base.specs.declared.order.Kind.TheVariants.{Limit, Market, StopLimit}
use Rattle.gx_base.specs.declared.order.Life.{Life}
use Rattle.gx_base.specs.declared.order.Life.TheVariants.{Day, Gtc, Fak, Fok}
use Rattle.gx_base.specs.declared.order.Order.{Order}
use Rattle.gx_base.specs.declared.order.Desk.{Desk}
use Rattle.gx_base.specs.declared.order.Taker.{Taker}
use Rattle.gx_base.specs.declared.event.Head.{Head}
use Rattle.gx_base.specs.declared.event.Event.{Event}
use Rattle.gx_base.specs.declared.event.Event.TheVariants.{Replaced}
use Rattle.gx_base.specs.declared.event.ChangeFault.{ChangeFault}
use Rattle.gx_base.specs.Emits.{EmitMeanings, Emits}
use Rattle.product_file.specs.Products.{ProductLists}
use Rattle.fix_request.specs.declared.request.Px.{Px}
use Rattle.fix_request.specs.declared.request.ReplaceOrder.{ReplaceOrder}
use Rattle.fix_request.specs.ValidRequests.{IsValidReplace}
use Rattle.plain_book.specs.Orders.{HasSlot, order_of, slot_named, is_live}
use Rattle.plain_book.specs.Book.{Book, IsRight, live_orders, book_without, book_changed, changed_to}
use Rattle.plain_book.specs.Match.{next_head, report_counted}
use Rattle.plain_book.specs.Matches.{CanTrade}
use Rattle.plain_book.proofs.Levels.{order_of-left}
use Rattle.plain_book.proofs.Live.{fit_of}
use Rattle.plain_book.proofs.TradedShares.{match_with}
use Rattle.plain_book.proofs.LineCounts.{line-counted}
use Rattle.order_kinds.specs.State.{State}
use Rattle.order_kinds.specs.Instruments.{ListedInstrument}
use Rattle.order_kinds.specs.Reports.{unchanged}
use Rattle.order_kinds.specs.Stops.{by_number}
use Rattle.order_kinds.specs.Cores.{FitsProduct}
use Rattle.order_kinds.specs.NewOrders.{may_rest}
use Rattle.order_kinds.specs.Replaces.{is_kind, replace_terms, new_price, least_kept, least_after, replaced_order, replaced_in_place, replaced_start, replaced_anew, keeps_place, replaced_or_refused, replace_at}
use Rattle.order_kinds.specs.Inner.Apart.{ReplacedApart, ReplaceApartBy, ReplaceApart}
use Rattle.order_kinds.specs.Inner.Replacing.{IsAllowed}
use Rattle.order_kinds.specs.Inner.Taking.{Takes, CountsRose, IsCounted, CanRest}
use Rattle.order_kinds.specs.Inner.Triggering.{CanWait}
use Rattle.order_kinds.specs.Inner.ComingIn.{CanComeIn, brought_in, BroughtApart, most_reports}
use Rattle.order_kinds.proofs.Refusals.{replace-passes}
use Rattle.order_kinds.proofs.Terms.{quantity-small, shown-within, no-trigger, named-number}
use Rattle.order_kinds.proofs.Accepted.{HasFewStops, has-room, rose-reported}
use Rattle.order_kinds.proofs.LiveOrders.{named-own, IsFit, live-fits, fit-firm, fit-listed, left-unnamed, left-room, fewer-left, changed-is}
use Rattle.order_kinds.proofs.ReportedFirst.{IsNoFill, takes-reported}

-- ---- no rule refuses

all-three : (a b c : Bool) → not (a && (b && c)) ≡ false → c ≡ true
all-three true true true h = refl
all-three true true false h = sym h
all-three true false c h = absurd (let k : true ≡ false = h in cc)
all-three false b c h = absurd (let k : true ≡ false = h in cc)

same-kind : (a b : Kind) → is_kind a b ≡ true → a ≡ b
same-kind Limit Limit h = refl
same-kind Limit Market h = absurd (let k : false ≡ true = h in cc)
same-kind Limit StopLimit h = absurd (let k : false ≡ true = h in cc)
same-kind Market Limit h = absurd (let k : false ≡ true = h in cc)
same-kind Market Market h = refl
same-kind Market StopLimit h = absurd (let k : false ≡ true = h in cc)
same-kind StopLimit Limit h = absurd (let k : false ≡ true = h in cc)
same-kind StopLimit Market h = absurd (let k : false ≡ true = h in cc)
same-kind StopLimit StopLimit h = refl

more-than : (n filled : ℕ) → nat_le n filled ≡ false → filled < n
more-than n filled h = grind (arith, nat_tests)

-- a valid replace of an order of its firm that gives this instrument
pub replace-allowed : (product : ProductLists) (request : ReplaceOrder) (o : Order) (state : State) (on : ListedInstrument) → IsValidReplace product.names request → o.firm ≡ request.sender.firm
    → replace_terms product request o state ≡ Ok on → IsAllowed state.book request o × (on.number < length product.names.instruments)
replace-allowed product request o state on valid own h =
    let passes = replace-passes product request o state on h in
    let kind : request.kind ≡ o.kind = same-kind request.kind o.kind (all-three _ _ (is_kind request.kind o.kind) passes.same) in (
      record {
        own = own;
        unnamed = passes.unnamed;
        more = more-than request.quantity o.filled passes.filled;
        small = (quantity-small MOST_LOTS request.quantity passes.quantity).1;
        show = shown-within o.show request.quantity passes.show;
        no_stop = λ other. no-trigger request.kind request.price request.trigger valid.prices (λ k. other (sym kind ∙ k));
      },
      named-number product request.named on valid.named passes.named,
    )

-- so much is known of an order that was found, and of the instrument that its terms give
pub found-allowed : (product : ProductLists) (request : ReplaceOrder) (s : ℕ) (old : State) (o : Order) (on : ListedInstrument) → IsRight old.book → FitsProduct product old → IsValidReplace product.names request
    → slot_named request.sender.firm request.old (live_orders old.book) ≡ Some s → o ≡ order_of s (live_orders old.book) → replace_terms product request o old ≡ Ok on
    → IsAllowed old.book request o × (on.number < length old.last)
found-allowed product request s old o on right fits valid named was is =
    let own : o.firm ≡ request.sender.firm = ap (λ (x : Order). x.firm) was ∙ named-own request.sender.firm request.old s (live_orders old.book) right.differ named in
    let known = replace-allowed product request o old on valid own is in
    (known.0, subst (λ (n : ℕ). on.number < n) (sym fits.prices) known.1)

-- the same of the state that is seen
pub seen-allowed : (product : ProductLists) (request : ReplaceOrder) (s : ℕ) {old seen : State} → old ≡ seen → (o : Order) (on : ListedInstrument) → IsRight old.book → FitsProduct product seen → IsValidReplace product.names request
    → slot_named request.sender.firm request.old (live_orders seen.book) ≡ Some s → o ≡ order_of s (live_orders old.book) → replace_terms product request o seen ≡ Ok on
    → IsAllowed seen.book request (order_of s (live_orders seen.book)) × (on.number < length seen.last)
seen-allowed product request s {seen = seen} at o on right fits valid named was is =
    let order : o ≡ order_of s (live_orders seen.book) = subst (λ (x : State). o ≡ order_of s (live_orders x.book)) at was in
    let allowed = found-allowed product request s seen o on (subst (λ (x : State). IsRight x.book) at right) fits valid named order is in
    (subst (IsAllowed seen.book request) order allowed.0, allowed.1)

-- ---- the step, by what its rules say

module _ (product : ProductLists) (request : ReplaceOrder) (s : ℕ) (old : State) (o : Order) (was : o ≡ order_of s (live_orders old.book)) where
  abbrev Apart : Result ListedInstrument ChangeFault → Type 0
  Apart terms = ReplaceApartBy terms request s old by_number

  abbrev stepped : Result ListedInstrument ChangeFault → State × List Event
  stepped terms = replaced_or_refused terms by_number request s old

  terms-are : (terms : Result ListedInstrument ChangeFault) → replace_terms product request o old ≡ terms → replace_terms product request (order_of s (live_orders old.book)) old ≡ terms
  terms-are terms is = ap (λ (x : Order). replace_terms product request x old) (sym was) ∙ is

  pub step-refused : (f : ChangeFault) → replace_terms product request o old ≡ Err f
      → ReplaceApart (Some s) product request old by_number
      × (replace_at (Some s) by_number product request old ≡ unchanged request.sender request.id request.old o.number o.filled true f old)
  step-refused f is = (
    subst Apart (sym (terms-are (Err f) is)) tt,
    ap stepped (terms-are (Err f) is) ∙ ap (λ (x : Order). unchanged request.sender request.id request.old x.number x.filled true f old) (sym was),
  )

  pub step-in_place : (on : ListedInstrument) → replace_terms product request o old ≡ Ok on → keeps_place request o ≡ true
      → ReplaceApart (Some s) product request old by_number × (replace_at (Some s) by_number product request old ≡ replaced_in_place request s old)
  step-in_place on is keeps =
      let stays : keeps_place request (order_of s (live_orders old.book)) ≡ true = ap (keeps_place request) (sym was) ∙ keeps in (
        subst Apart (sym (terms-are (Ok on) is)) (subst (λ (c : Bool). ReplacedApart c on request s old by_number) (sym stays) tt),
        ap stepped (terms-are (Ok on) is) ∙ ap (λ (c : Bool). cond c (replaced_in_place request s old) (replaced_anew by_number on request s old)) stays,
      )

-- ---- it is changed where it stands

least-none : (life : Life) (least quantity : ℕ) → (life ≡ Day) ⊎ (life ≡ Gtc) → least ≡ 0 → least_kept life least quantity ≡ 0
least-none Day least quantity h z = omega (arith, z)
least-none Gtc least quantity h z = omega (arith, z)
least-none Fak least quantity h z = elim h [ inl k ↦ absurd (let f : Fak ≡ Day = k in cc) | inr k ↦ absurd (let f : Fak ≡ Gtc = k in cc) ]
least-none Fok least quantity h z = elim h [ inl k ↦ absurd (let f : Fok ≡ Day = k in cc) | inr k ↦ absurd (let f : Fok ≡ Gtc = k in cc) ]

-- a resting order has no minimum, and gets none
pub resting-least : (request : ReplaceOrder) (b : Book) (s : ℕ) → IsRight b → HasSlot s b.resting → least_after request (order_of s (live_orders b)) ≡ 0
resting-least request b s right has =
    let fit = fit_of b.instruments s b.resting right.rest has in
    ap (least_after request) (order_of-left s b.resting b.waiting has) ∙ least-none (order_of s b.resting).life (order_of s b.resting).min request.quantity fit.fit.life fit.fit.no_min

-- the order that is then in the book, and its report
module _ (request : ReplaceOrder) (s : ℕ) (old : State) (b : Book) (prior after : Order) (least : ℕ) (head : Head) (has : HasSlot s (live_orders old.book))
    (was : prior ≡ order_of s (live_orders old.book)) (is_least : least ≡ least_after request prior) (is_book : b ≡ book_changed s request.id request.quantity least old.book)
    (is_order : after ≡ order_of s (live_orders b)) (is_head : head ≡ next_head old.desk prior.firm request.sender.time)
  where
    kept-order : after ≡ changed_to request.id request.quantity (least_after request prior) prior
    kept-order =
        is_order ∙ ap (λ (x : Book). order_of s (live_orders x)) is_book ∙ changed-is s request.id request.quantity least old.book has
        ∙ ap (λ (o : Order). changed_to request.id request.quantity least o) (sym was) ∙ ap (λ (n : ℕ). changed_to request.id request.quantity n prior) is_least

    pub kept-events : Replaced head after prior.id prior.quantity ∷ [] ≡ (replaced_in_place request s old).1
    kept-events =
        ap (λ (h : Head). Replaced h after prior.id prior.quantity ∷ []) is_head
        ∙ ap (λ (o : Order). Replaced (next_head old.desk prior.firm request.sender.time) o prior.id prior.quantity ∷ []) kept-order
        ∙ ap (λ (o : Order). Replaced (next_head old.desk o.firm request.sender.time) (changed_to request.id request.quantity (least_after request o) o) o.id o.quantity ∷ []) was

-- ---- it comes in again

-- what stands after the report
pub record IsChanged (request : ReplaceOrder) (s : ℕ) (old : State) (before order : Order) (book : Book) (desk : Desk) (head : Head) : Type 0 where
  pub was : before ≡ order_of s (live_orders old.book)
  pub is_order : order ≡ replaced_order request before
  pub is_book : book ≡ book_without s old.book
  pub is_head : head ≡ next_head old.desk before.firm request.sender.time
  pub is_desk : desk ≡ report_counted old.desk before.firm

abbrev pub taker_again : ReplaceOrder → Order → Taker
taker_again request order = record { order = order; time = request.sender.time; range = None }

module _ (request : ReplaceOrder) (s : ℕ) (old : State) (right : IsRight old.book) (has : HasSlot s (live_orders old.book)) where
  abbrev before : Order
  before = order_of s (live_orders old.book)

  abbrev left : Book
  left = book_without s old.book

  fits : IsFit old.book.instruments before
  fits = live-fits old.book s right has

  free : IsAllowed old.book request before → is_live before.firm request.id (live_orders left) ≡ false
  free allowed = ap (λ (firm : ℕ). is_live firm request.id (live_orders left)) allowed.own ∙ left-unnamed request.sender.firm request.id s old.book allowed.unnamed

  can-again : IsAllowed old.book request before → IsCounted old.desk → CanTrade left (report_counted old.desk before.firm) (taker_again request (replaced_order request before))
  can-again allowed counted = record {
    listed = fit-listed old.book.instruments before fits;
    firm = fit-firm old.book.instruments before fits;
    unnamed = free allowed;
    whole = omega (arith, allowed.more);
    small = allowed.small;
    messages = omega (arith, counted.messages, allowed.small);
    orders = omega (arith, counted.messages, counted.orders, allowed.small);
    trades = omega (arith, counted.counts.trades, allowed.small);
    reports = omega (arith, counted.counts.reports, allowed.small);
    lines = λ i. omega (arith, counted.counts.lines i, allowed.small, line-counted old.desk.lines before.firm i);
  }

  rest-again : IsAllowed old.book request before → (before.kind ≡ StopLimit → ⊥) → may_rest before.life ≡ true → CanRest left (replaced_order request before)
  rest-again allowed other may = elim fits [
    | inl rests ↦ record {
      room = left-room s old.book right has;
      unnamed = free allowed;
      fit = record {
        listed = rests.fit.listed;
        firm = rests.fit.firm;
        kind = refl;
        life = rests.fit.life;
        no_trigger = ap (λ (px : Px). new_price px before.trigger) (allowed.no_stop other) ∙ rests.fit.no_trigger;
        no_min = refl;
        whole = omega (arith, allowed.more);
        some = omega (arith, allowed.more);
        show = allowed.show;
        small = allowed.small;
      };
    }
    | inr waits ↦ absurd (other waits.fit.kind)
  ]

  wait-again : IsAllowed old.book request before → before.kind ≡ StopLimit → CanWait left (replaced_order request before)
  wait-again allowed stop = elim fits [
    | inl rests ↦ absurd (let k : Limit ≡ StopLimit = sym rests.fit.kind ∙ stop in cc)
    | inr waits ↦ record {
      room = left-room s old.book right has;
      unnamed = free allowed;
      fit = record {
        listed = waits.fit.listed;
        firm = waits.fit.firm;
        kind = stop;
        unfilled = waits.fit.unfilled;
        no_share = waits.fit.no_share;
        whole = omega (arith, waits.fit.unfilled);
        some = omega (arith, allowed.more);
        show = allowed.show;
        small = allowed.small;
      };
    }
  ]

  few-left : HasFewStops old.book → HasFewStops left
  few-left few = omega (arith, few, fewer-left s old.book.waiting)

  come-again : IsAllowed old.book request before → IsCounted old.desk → HasFewStops old.book → CanComeIn left (report_counted old.desk before.firm) (taker_again request (replaced_order request before))
  come-again allowed counted few = record {
    waits = wait-again allowed;
    can = can-again allowed counted;
    rests = rest-again allowed;
    some = omega (arith, allowed.more);
    no_range = refl;
    room = has-room left old.desk before.firm old.desk.orders counted (omega arith) (few-left few);
  }

  module _ (prior order : Order) (book : Book) (desk : Desk) (head : Head) (is : IsChanged request s old prior order book desk head) where
    same-order : order ≡ replaced_order request before
    same-order = is.is_order ∙ ap (replaced_order request) is.was

    same-desk : desk ≡ report_counted old.desk before.firm
    same-desk = is.is_desk ∙ ap (λ (o : Order). report_counted old.desk o.firm) is.was

    pub replaced-comes : IsAllowed old.book request before → IsCounted old.desk → HasFewStops old.book → CanComeIn book desk (taker_again request order)
    replaced-comes allowed counted few =
        subst (λ (b : Book). CanComeIn b desk (taker_again request order)) (sym is.is_book)
        (subst (λ (d : Desk). CanComeIn left d (taker_again request order)) (sym same-desk)
        (subst (λ (o : Order). CanComeIn left (report_counted old.desk before.firm) (taker_again request o)) (sym same-order) (come-again allowed counted few)))

    pub replaced-rose : IsAllowed old.book request before → HasFewStops old.book → (after : Desk) → CountsRose (most_reports (taker_again request order) book) desk after → CountsRose (2 ^ 38) old.desk after
    replaced-rose allowed few after rose =
        let small : order.leaves ≤ MOST_LOTS = omega (arith, ap (λ (o : Order). o.leaves) same-order, allowed.small) in
        let fewer : HasFewStops book = subst HasFewStops (sym is.is_book) (few-left few) in
        rose-reported old.desk before.firm after order.leaves (length book.waiting) small fewer
        (subst (λ (d : Desk). CountsRose (most_reports (taker_again request order) book) d after) same-desk rose)

-- ---- all of it

replaced-is-no-fill : (head : Head) (order : Order) (id : List ℕ) (quantity : ℕ) → IsNoFill (Replaced head order id quantity)
replaced-is-no-fill head order id quantity = record { range = λ events. refl; last = λ events. refl }

module _ {E : Type 0} (m : EmitMeanings E) (request : ReplaceOrder) (s : ℕ) (old : State) (prior order : Order) (book : Book) (desk : Desk) (head : Head) (is : IsChanged request s old prior order book desk head) where
  starts : match_with book desk (taker_again request order) (Replaced head order prior.id prior.quantity ∷ []) ≡ replaced_start request s old
  starts =
      let before = order_of s (live_orders old.book) in
      let taker = λ (o : Order). taker_again request o in
      ap (λ (h : Head). match_with book desk (taker order) (Replaced h order prior.id prior.quantity ∷ [])) is.is_head
      ∙ ap (λ (d : Desk). match_with book d (taker order) (Replaced (next_head old.desk prior.firm request.sender.time) order prior.id prior.quantity ∷ [])) is.is_desk
      ∙ ap (λ (b : Book). match_with b (report_counted old.desk prior.firm) (taker order) (Replaced (next_head old.desk prior.firm request.sender.time) order prior.id prior.quantity ∷ [])) is.is_book
      ∙ ap (λ (o : Order). match_with (book_without s old.book) (report_counted old.desk prior.firm) (taker o) (Replaced (next_head old.desk prior.firm request.sender.time) o prior.id prior.quantity ∷ [])) is.is_order
      ∙ ap (λ (o : Order). match_with (book_without s old.book) (report_counted old.desk o.firm) (taker (replaced_order request o)) (Replaced (next_head old.desk o.firm request.sender.time) (replaced_order request o) o.id o.quantity ∷ [])) is.was

  pub takes-anew : (on : ListedInstrument) (after : State) (a b c : E) → Emits m a b (Replaced head order prior.id prior.quantity ∷ [])
      → Takes m (BroughtApart on (taker_again request order)) (λ naming. brought_in naming on (taker_again request order)) (record old { book = book; desk = desk }) after b c
      → Takes m (ReplacedApart false on request s) (λ naming. replaced_anew naming on request s) old after a c
  takes-anew on after a b c puts takes =
      let all = takes-reported m (Replaced head order prior.id prior.quantity) (replaced-is-no-fill head order prior.id prior.quantity) on old (record old { book = book; desk = desk }) after (taker_again request order) (replaced_start request s old) a b c starts refl refl puts takes in
      record { naming = all.naming; apart = all.apart; state = all.state; emits = all.emits }
