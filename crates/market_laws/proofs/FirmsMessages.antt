-- A message does the same where orders are of other firms, by steps that look at no firm.
use Rattle.std.proofs.Common.{◌≡◌, ℕ, ◌+◌, Bool, not, List, [], ◌∷◌, map, length, Option, Some, None, option_map, Result, Ok, Err, refl, sym, ap, subst, ◌∙◌, arith}
use Rattle.std.specs.Prelude.{◌==◌, nat_lt, flat_map, IfSome, ok_or}
use Rattle.std.specs.List.{AllByRecursion}
use Rattle.std.proofs.lemmas.List.{length-map, length-append}
use Rattle.gx_base.specs.declared.price.Price.{Price}
use Rattle.gx_base.specs.declared.order.Kind.{Kind}
use Rattle.gx_base.specs.declared.order.Kind.TheVariants.{Limit, Market, StopLimit}
use Rattle.gx_base.specs.declared.order.Life.{Life}
use Rattle.gx_base.specs.declared.order.Life.TheVariants.{Day, Gtc, Fak, Fok}
use Rattle.gx_base.specs.declared.order.Order.{Order}
use Rattle.gx_base.specs.declared.order.Desk.{Desk}
use Rattle.gx_base.specs.declared.event.Event.{Event}
use Rattle.gx_base.specs.declared.event.Event.TheVariants.{Accepted, Triggered, Fill, Cancelled, Expired, Replaced, RefusedNew, RefusedChange, RefusedSession}
use Rattle.gx_base.specs.declared.event.NewFault.{NewFault}
use Rattle.gx_base.specs.declared.event.NewFault.TheVariants as fault
use Rattle.gx_base.specs.declared.trading.Trading.{Trading}
use Rattle.gx_base.specs.declared.trading.Trading.TheVariants.{Open, Closed}
use Rattle.product_file.specs.Products.{ProductLists}
use Rattle.fix_request.specs.Requests.{request_of}
use Rattle.fix_request.specs.declared.request.NewOrder.{NewOrder}
use Rattle.fix_request.specs.declared.request.Request.{Request}
use Rattle.fix_request.specs.declared.request.Request.TheVariants.{New}
use Rattle.step_config.specs.declared.step.Step.{Step}
use Rattle.plain_book.specs.declared.entry.Entry.{Entry}
use Rattle.plain_book.specs.Orders.{best_of, opposite, is_live}
use Rattle.plain_book.specs.Book.{Book, live_orders}
use Rattle.plain_book.specs.Match.{MatchState, report_counted}
use Rattle.plain_book.proofs.Pairs.{all-back}
use Rattle.order_kinds.specs.State.{State}
use Rattle.order_kinds.specs.Instruments.{ListedInstrument, instrument_of, protected_limit}
use Rattle.order_kinds.specs.OrderRules.{◌>>=◌, refused_where, is_quantity, has_off_tick, has_bad_stop, is_stop_reached, last_of}
use Rattle.order_kinds.specs.NewOrders.{Terms, terms_of, limit_of, least_of, has_bad_min, order_on}
use Rattle.order_kinds.specs.Entering.{last_fill_from, last_fill, last_after}
use Rattle.order_kinds.specs.Stops.{by_number, come_in}
use Rattle.order_kinds.specs.Accepting.{refused, new_start, after_match, accepted, accepted_or_refused}
use Rattle.order_kinds.specs.Step.{with_message, step_in, request_step, step_of}
use Rattle.order_kinds.specs.Histories.{last_product, state_kept}
use Rattle.order_kinds.proofs.Refusals.{new-passes}
use Rattle.image_laws.proofs.Histories.{history-reached}
use Rattle.market_laws.specs.Shares.{IsBlind}
use Rattle.market_laws.specs.Streams.{OfEachHistory, OfEachState}
use Rattle.market_laws.specs.Firms.{Told, told, DifferInFirmsAlone, AreStopsNumbered, book_of_firms, AreOfOtherFirms, faults, AreServedAlike, new_of_firm, HasBlindSteps}
use Rattle.market_laws.proofs.Sound.{IsByNumber, held-sound}
use Rattle.market_laws.proofs.Firms.{F, with_firm, best-same}
use Rattle.market_laws.proofs.FirmsComing.{length-all, come-in-same}
use Rattle.market_laws.proofs.FirmsCounted.{told_fills, fills, IsCounted, come-in-counted}

-- ---- the last price of fills that are told alike

abbrev told_last : Option Price → List (Option Told) → Option Price
told_last last [] = last
told_last last (Some t ∷ ts) = told_last (Some t.price) ts
told_last last (None ∷ ts) = told_last last ts

last-told : (last : Option Price) (events : List Event) → last_fill_from last events ≡ told_last last (map told events)
last-told last [] = refl
last-told last (Fill head o lots price step trade ∷ events) = last-told (Some price) events
last-told last (Accepted head o ∷ events) = last-told last events
last-told last (Triggered head o ∷ events) = last-told last events
last-told last (Cancelled head o gone by why ∷ events) = last-told last events
last-told last (Expired head o gone ∷ events) = last-told last events
last-told last (Replaced head o old before ∷ events) = last-told last events
last-told last (RefusedNew head new fault ∷ events) = last-told last events
last-told last (RefusedChange head id old number filled replace fault ∷ events) = last-told last events
last-told last (RefusedSession head seq tag reason rule ∷ events) = last-told last events

-- ---- counters

record AreSameCounts (a b : Desk) : Type 0 where
  messages : b.messages ≡ a.messages
  orders : b.orders ≡ a.orders
  reports : b.reports ≡ a.reports
  trades : b.trades ≡ a.trades

desk-same : (a b : Desk) → AreSameCounts a b → b ≡ record a { lines = b.lines }
desk-same a b h =
    let D = λ (m o r t : ℕ). let x : Desk = record { messages = m; orders = o; reports = r; trades = t; lines = b.lines } in x in
    ap (λ (m : ℕ). D m b.orders b.reports b.trades) h.messages
    ∙ ap (λ (o : ℕ). D a.messages o b.reports b.trades) h.orders
    ∙ ap (λ (r : ℕ). D a.messages a.orders r b.trades) h.reports
    ∙ ap (λ (t : ℕ). D a.messages a.orders a.reports t) h.trades

same-counts : (a b : Desk) → b ≡ record a { lines = b.lines } → AreSameCounts a b
same-counts a b h = record {
  messages = ap (λ (d : Desk). d.messages) h;
  orders = ap (λ (d : Desk). d.orders) h;
  reports = ap (λ (d : Desk). d.reports) h;
  trades = ap (λ (d : Desk). d.trades) h;
}

half : (a b : ℕ) → b + b ≡ a + a → b ≡ a
half a b h = omega (arith, h)

module _ (firm : ℕ → ℕ) where
  abbrev Same : MatchState → MatchState → Type 0
  Same a b = DifferInFirmsAlone firm a b

  -- ---- a state after another

  -- what is reported once, to some firm
  pub reported-same : (a b : Desk) (f g : ℕ) → b ≡ record a { lines = b.lines } → report_counted b g ≡ record (report_counted a f) { lines = (report_counted b g).lines }
  reported-same a b f g h = let lines = (report_counted b g).lines in ap (λ (d : Desk). (let x : Desk = record d { reports = d.reports + 1; lines = lines } in x)) h

  pub counted-same : (a b : State) → AreOfOtherFirms firm a b → AreOfOtherFirms firm (with_message a) (with_message b)
  counted-same a b h = record {
    book = h.book;
    last = h.last;
    desk = ap (λ (d : Desk). (let x : Desk = record d { messages = d.messages + 1 } in x)) h.desk;
    trading = h.trading;
  }

  live-long : (a b : Book) → b ≡ book_of_firms firm a → length (live_orders b) ≡ length (live_orders a)
  live-long a b h =
      let resting = F firm a.resting in
      let waiting = F firm a.waiting in
      ap (λ (x : Book). length (live_orders x)) h
      ∙ length-append resting waiting
      ∙ ap (λ (n : ℕ). n + length waiting) (length-all firm a.resting)
      ∙ ap (λ (n : ℕ). length a.resting + n) (length-all firm a.waiting)
      ∙ sym (length-append a.resting a.waiting)

  -- ---- an order that comes in

  -- how it starts
  pub record AreStarts (a b : MatchState) : Type 0 where
    pub same : Same a b
    pub book : b.book ≡ book_of_firms firm a.book
    pub desk : b.desk ≡ record a.desk { lines = b.desk.lines }
    pub refused : flat_map faults b.events ≡ flat_map faults a.events
    pub numbered : AreStopsNumbered a

  -- what it leads to
  record AreEnds (a b : MatchState) : Type 0 where
    same : Same a b
    book : b.book ≡ book_of_firms firm a.book
    desk : b.desk ≡ record a.desk { lines = b.desk.lines }
    refused : flat_map faults b.events ≡ flat_map faults a.events

  events-long : (a b : MatchState) → Same a b → length b.events ≡ length a.events
  events-long a b h = sym (length-map b.events told) ∙ ap length h.market.fills ∙ length-map a.events told

  fills-same : (a b : MatchState) → Same a b → fills b.events ≡ fills a.events
  fills-same a b h = ap told_fills h.market.fills

  ends-same : (a b x y : MatchState) → AreStarts a b → Same x y → IsCounted a x → IsCounted b y → AreEnds x y
  ends-same a b x y start same h k =
      let counts = same-counts a.desk b.desk start.desk in
      let B = λ (c i : ℕ) (r w : List Entry). let v : Book = record { capacity = c; instruments = i; resting = r; waiting = w } in v in
      let capacity : y.book.capacity ≡ x.book.capacity = k.capacity ∙ ap (λ (v : Book). v.capacity) start.book ∙ sym h.capacity in
      let instruments : y.book.instruments ≡ x.book.instruments = k.instruments ∙ ap (λ (v : Book). v.instruments) start.book ∙ sym h.instruments in
      record {
        same = same;
        book = ap (λ (c : ℕ). B c y.book.instruments y.book.resting y.book.waiting) capacity
            ∙ ap (λ (i : ℕ). B x.book.capacity i y.book.resting y.book.waiting) instruments
            ∙ ap (λ (r : List Entry). B x.book.capacity x.book.instruments r y.book.waiting) same.market.resting
            ∙ ap (λ (w : List Entry). B x.book.capacity x.book.instruments (F firm x.book.resting) w) same.waiting;
        desk = desk-same x.desk y.desk (record {
          messages = k.messages ∙ counts.messages ∙ sym h.messages;
          orders = k.orders ∙ counts.orders ∙ sym h.orders;
          reports = omega (arith, k.reports, h.reports, counts.reports, events-long a b start.same, events-long x y same);
          trades = omega (arith, k.trades, h.trades, counts.trades, fills-same a b start.same, fills-same x y same);
        });
        refused = k.refused ∙ start.refused ∙ sym h.refused;
      }

  -- the state after the match, with its events
  match-served : (instrument : ℕ) (a b : State) (x y : MatchState) → AreOfOtherFirms firm a b → AreEnds x y → AreServedAlike firm (after_match instrument a x) (after_match instrument b y)
  match-served instrument a b x y h k =
      let fill : last_fill y.events ≡ last_fill x.events = last-told None y.events ∙ ap (told_last None) k.same.market.fills ∙ sym (last-told None x.events) in
      record {
        refused = k.refused;
        fills = k.same.market.fills;
        state = record {
          book = k.book;
          last = ap (λ (price : Option Price). last_after instrument price b.last) fill ∙ ap (last_after instrument (last_fill x.events)) h.last;
          desk = k.desk;
          trading = h.trading;
        };
      }

  pub comes-in : (steps : List Step) (instrument : ℕ) (a b : State) (x y : MatchState) → AllByRecursion IsBlind steps → AreOfOtherFirms firm a b → AreStarts x y
      → AreServedAlike firm (after_match instrument a (come_in by_number steps x)) (after_match instrument b (come_in by_number steps y))
  comes-in steps instrument a b x y blind h start =
      match-served instrument a b (come_in by_number steps x) (come_in by_number steps y) h
      (ends-same x y (come_in by_number steps x) (come_in by_number steps y) start (come-in-same firm steps blind x y start.numbered start.same) (come-in-counted steps by_number x) (come-in-counted steps by_number y))

  -- ---- new orders

  module _ (product : ProductLists) (new : NewOrder) (a b : State) (h : AreOfOtherFirms firm a b) where
    abbrev own : ℕ
    own = firm (a.desk.orders + 1)

    abbrev other : NewOrder
    other = new_of_firm own new

    limit-same : (kind : Kind) (instrument : ListedInstrument) → limit_of kind instrument other b.book ≡ limit_of kind instrument new a.book
    limit-same Limit instrument = refl
    limit-same StopLimit instrument = refl
    limit-same Market instrument =
        let i = instrument.number in
        let d = opposite new.side in
        ap (option_map (protected_limit instrument.rule new.side)) (ap (λ (x : Book). best_of i d x.resting) h.book ∙ best-same firm i d a.book.resting)

    least-same : (life : Life) → least_of life other ≡ least_of life new
    least-same Day = refl
    least-same Gtc = refl
    least-same Fak = refl
    least-same Fok = refl

    -- the rules on an instrument, by what they look at in a state
    abbrev ruled : ListedInstrument → Bool → List (Option Price) → ℕ → Option Price → Result Terms NewFault
    ruled instrument live last many limit = do
      _ ← refused_where live fault.Duplicate
      _ ← refused_where (not (is_quantity new.quantity)) fault.Quantity
      _ ← refused_where (has_off_tick instrument new.price new.trigger) fault.Tick
      _ ← refused_where (has_bad_stop new.kind new.side new.price new.trigger) fault.StopLimit
      _ ← refused_where (is_stop_reached new.kind new.side new.trigger (last_of instrument.number last)) fault.StopReached
      _ ← refused_where (has_bad_min new) fault.MinQty
      _ ← refused_where (nat_lt new.quantity new.show) fault.Show
      _ ← refused_where (many == product.max_orders) fault.BookFull
      limit ← ok_or limit fault.NoMarket
      Ok (record { instrument = instrument; limit = limit })

    terms-same : is_live own new.id (live_orders b.book) ≡ is_live new.sender.firm new.id (live_orders a.book) → terms_of product other b ≡ terms_of product new a
    terms-same free =
        let go : (found : Option ListedInstrument)
        → (ok_or found fault.Symbol >>= λ i. ruled i (is_live own new.id (live_orders b.book)) b.last (length (live_orders b.book)) (limit_of new.kind i other b.book))
        ≡ (ok_or found fault.Symbol >>= λ i. ruled i (is_live new.sender.firm new.id (live_orders a.book)) a.last (length (live_orders a.book)) (limit_of new.kind i new a.book)) = elim [
          | None ↦ refl
          | Some i ↦
              ap (λ (live : Bool). ruled i live b.last (length (live_orders b.book)) (limit_of new.kind i other b.book)) free
              ∙ (let live = is_live new.sender.firm new.id (live_orders a.book) in
              ap (λ (last : List (Option Price)). ruled i live last (length (live_orders b.book)) (limit_of new.kind i other b.book)) h.last
              ∙ ap (λ (many : ℕ). ruled i live a.last many (limit_of new.kind i other b.book)) (live-long a.book b.book h.book)
              ∙ ap (ruled i live a.last (length (live_orders a.book))) (limit-same new.kind i))
        ] in go (instrument_of product new.named)

    refused-served : (why : NewFault) → AreServedAlike firm (refused why new a) (refused why other b)
    refused-served why = record {
      refused = refl;
      fills = refl;
      state = record { book = h.book; last = h.last; desk = reported-same a.desk b.desk new.sender.firm own h.desk; trading = h.trading };
    }

    order-same : (terms : Terms) → order_on terms other (b.desk.orders + 1) ≡ with_firm firm own (order_on terms new (a.desk.orders + 1))
    order-same terms =
        ap (λ (d : Desk). order_on terms other (d.orders + 1)) h.desk
        ∙ ap (λ (n : ℕ). (let x : Order = record (with_firm firm own (order_on terms new (a.desk.orders + 1))) { min = n } in x)) (least-same new.life)

    new-starts : (terms : Terms) → AreStopsNumbered (new_start terms new a) → AreStarts (new_start terms new a) (new_start terms other b)
    new-starts terms numbered = record {
      same = record {
        market = record { resting = ap (λ (x : Book). x.resting) h.book; incoming = order-same terms; fills = refl };
        waiting = ap (λ (x : Book). x.waiting) h.book;
        own = refl;
      };
      book = h.book;
      desk = (let D = λ (d : Desk). let x : Desk = record d { orders = d.orders + 1; reports = d.reports + 1; lines = (new_start terms other b).desk.lines } in x in ap D h.desk);
      refused = refl;
      numbered = numbered;
    }

    accepted-served : AllByRecursion IsByNumber a.book.waiting → (terms : Terms) → AllByRecursion IsBlind terms.instrument.rule.steps → AreServedAlike firm (accepted by_number terms new a) (accepted by_number terms other b)
    accepted-served numbered terms blind =
        comes-in terms.instrument.rule.steps terms.instrument.number a b (new_start terms new a) (new_start terms other b) blind h (new-starts terms numbered)

    new-served : AllByRecursion IsByNumber a.book.waiting → HasBlindSteps product new.named → is_live own new.id (live_orders b.book) ≡ is_live new.sender.firm new.id (live_orders a.book)
        → AreServedAlike firm (request_step product (New new) a) (request_step product (New other) b)
    new-served numbered blind free =
        let Blind : Option ListedInstrument → Type 0 = λ found. IfSome found (λ i. AllByRecursion IsBlind i.rule.steps) in
        let by : (r : Result Terms NewFault) → terms_of product new a ≡ r → AreServedAlike firm (accepted_or_refused by_number r new a) (accepted_or_refused by_number r other b) = elim [
          | Ok terms ↦ λ is. accepted-served numbered terms (subst Blind (new-passes product new a terms is).named blind)
          | Err why ↦ λ is. refused-served why
        ] in
        let in_open : AreServedAlike firm (accepted_or_refused by_number (terms_of product new a) new a) (accepted_or_refused by_number (terms_of product other b) other b) =
        subst (λ (r : Result Terms NewFault). AreServedAlike firm (accepted_or_refused by_number (terms_of product new a) new a) (accepted_or_refused by_number r other b)) (sym (terms-same free)) (by (terms_of product new a) refl) in
        let go : (trading : Trading) → AreServedAlike firm (step_in trading by_number product (New new) a) (step_in trading by_number product (New other) b) = elim [
          | Open ↦ in_open
          | Closed ↦ refused-served fault.Closed
        ] in
        subst (λ (trading : Trading). AreServedAlike firm (request_step product (New new) a) (step_in trading by_number product (New other) b)) (sym h.trading) (go a.trading)

-- ---- after every history

pub numbered-kept : OfEachState (λ state. AllByRecursion IsByNumber (live_orders state.book))
numbered-kept history right is =
    let state = state_kept history in
    (held-sound (last_product history) state.desk.orders state.book (history-reached history right is).held).numbered

-- two requests, in place of the messages that hold them
pub requests-served : (firm : ℕ → ℕ) (product : ProductLists) (a b : State) (next other : List ℕ) (r s : Request) → request_of product next ≡ r → request_of product other ≡ s
    → AreServedAlike firm (request_step product r (with_message a)) (request_step product s (with_message b)) → AreServedAlike firm (step_of product a next) (step_of product b other)
requests-served firm product a b next other r s is also h =
    subst (λ (x : Request). AreServedAlike firm (request_step product x (with_message a)) (step_of product b other)) (sym is)
    (subst (λ (x : Request). AreServedAlike firm (request_step product r (with_message a)) (request_step product x (with_message b))) (sym also) h)

pub new-orders-served : (firm : ℕ → ℕ) (next other : List ℕ) (new : NewOrder) (b : State) → OfEachHistory (λ history.
    let product = last_product history in
    let a = state_kept history in
    let own = firm (a.desk.orders + 1) in
    AreOfOtherFirms firm a b → HasBlindSteps product new.named
    → request_of product next ≡ New new → request_of product other ≡ New (new_of_firm own new)
    → is_live own new.id (live_orders b.book) ≡ is_live new.sender.firm new.id (live_orders a.book)
    → AreServedAlike firm (step_of product a next) (step_of product b other))
new-orders-served firm next other new b history right is h blind one two free =
    let product = last_product history in
    let a = state_kept history in
    requests-served firm product a b next other (New new) (New (new_of_firm (firm (a.desk.orders + 1)) new)) one two
    (new-served firm product new (with_message a) (with_message b) (counted-same firm a b h) (all-back IsByNumber a.book.resting a.book.waiting (numbered-kept history right is)) blind free)
