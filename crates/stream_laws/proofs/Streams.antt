-- What the bytes of the reports of some events say adds up, and the ledger writes the same.
use Rattle.std.proofs.Common.{◌≡◌, ℕ, ◌+◌, ◌^◌, ◌<◌, Bool, cond, List, [], ◌∷◌, ◌++◌, map, refl, sym, ap, ap₂, subst, ◌∙◌, inl, inr, arith, append_assoc, fold, Option, Some, None, ◌≤◌, true}
use Rattle.std.proofs.lemmas.Bool.Decides.{eqb_tells}
use Rattle.std.proofs.lemmas.List.{map-append}
use Rattle.std.proofs.lemmas.List.Sums.{sum_by-cons, sum_by_push}
use Rattle.std.specs.Prelude.{◌==◌, IfSome, flat_map}
use Rattle.std.specs.List.{AllByRecursion}
use Rattle.gx_base.specs.NameLists.{NameLists}
use Rattle.gx_base.specs.Line.{line_of}
use Rattle.gx_base.specs.declared.digits.TheConstants.{MOST_DIGITS}
use Rattle.gx_base.specs.declared.order.Order.{Order}
use Rattle.gx_base.specs.declared.event.Event.{Event}
use Rattle.gx_base.specs.declared.event.Event.TheVariants.{Accepted, Triggered, Fill, Cancelled, Expired, Replaced, RefusedNew, RefusedChange, RefusedSession}
use Rattle.book_order.proofs.Each.{all-front, all-back}
use Rattle.fix_frame.specs.Stream.{messages_of, rest_of}
use Rattle.fix_frame.specs.StreamLaws.{messages_of-frame-append, rest_of-frame-append}
use Rattle.order_kinds.specs.State.{State}
use Rattle.order_kinds.specs.Balance.{quantities_of, order_in, open_by, last_open, last_open_from, AddsUp, IsSpent, FillsAddUp, lots_in, lots_of, filled_in, cancelled_in, total_entered, total_filled, total_open, total_cancelled, AreBalanced}
use Rattle.book_print.specs.LedgerText.{ledger_line, total_line}
use Rattle.stream_laws.specs.Names.{AreNames}
use Rattle.stream_laws.specs.Reading.{is_execution, lots_by_report, lots_read_of, FillsReadUp, open_by_report, last_open_read, number_in, cancelled_in_report, lots_read, cancelled_read}
use Rattle.stream_laws.specs.Told.{ledger_line_read}
use Rattle.stream_laws.specs.Sums.{IsReadRight, AreReadBalanced}
use Rattle.stream_laws.proofs.Engine.{IsTextEvent, AllTextEvents}
use Rattle.stream_laws.proofs.Frames.{line-frame}
use Rattle.stream_laws.proofs.WrittenReports.{read-lots-of, read-filled, read-open, read-right, read-lots, read-cancelled, writes-line}

-- ---- no trade has ten digits

own-lots : (number lots : ℕ) → cond (number == number) lots 0 ≡ lots
own-lots number lots = elim (eqb_tells number number) [ inl t ↦ ap (λ (b : Bool). cond b lots 0) t.0 | inr t ↦ absurd (t.1 refl) ]

filled-small : (before : List Event) (event : Event) → IfSome (order_in event) (λ o. o.filled ≡ lots_of o.number (before ++ event ∷ [])) → AddsUp event → IfSome (quantities_of event) (λ q. q.ordered < 10 ^ MOST_DIGITS) → filled_in event < 10 ^ MOST_DIGITS
filled-small before (Fill head o lots price step trade) told adds is =
    let event = Fill head o lots price step trade in
    let pushed = sum_by_push (lots_in o.number) before event in
    let own : lots_in o.number event ≡ lots = own-lots o.number lots in
    let small : o.quantity < 10 ^ MOST_DIGITS = is in
    let sum : o.quantity ≡ o.filled + (o.leaves + 0) = adds in
    omega (arith, told, pushed, own, small, sum)
filled-small before (Accepted head o) told adds is = omega arith
filled-small before (Triggered head o) told adds is = omega arith
filled-small before (Cancelled head o gone by cause) told adds is = omega arith
filled-small before (Expired head o gone) told adds is = omega arith
filled-small before (Replaced head o old before_it) told adds is = omega arith
filled-small before (RefusedNew head new fault) told adds is = omega arith
filled-small before (RefusedChange head id old number filled replace fault) told adds is = omega arith
filled-small before (RefusedSession head seq tag reason rule) told adds is = omega arith

-- ---- an event with the names of its report

pub record Written : Type 0 where
  pub names : NameLists
  pub event : Event

abbrev pub report : Written → List ℕ
report w = line_of w.names w.event

abbrev pub reports_in : List Written → List (List ℕ)
reports_in ws = map report ws

abbrev pub events_in : List Written → List Event
events_in ws = map (λ (w : Written). w.event) ws

-- the names are right
abbrev pub IsNamed : Written → Type 0
IsNamed w = AreNames w.names

-- an event that is told right, of which all numbers are small, under right names
record IsFit (most : ℕ) (w : Written) : Type 0 where
  are : IsNamed w
  text : IsTextEvent most w.event
  adds : AddsUp w.event
  spent : IsSpent w.event
  few : filled_in w.event < 10 ^ MOST_DIGITS

fit-from : (most : ℕ) (events done : List Event) (rest : List Written) → FillsAddUp events → events ≡ done ++ events_in rest → AllByRecursion AddsUp (events_in rest) → AllByRecursion IsSpent (events_in rest)
    → AllTextEvents most (events_in rest) → AllByRecursion IsNamed rest → AllByRecursion (IsFit most) rest
fit-from most events done [] fills is adds spent texts named = tt
fit-from most events done (w ∷ ws) fills is adds spent texts named =
    let e = w.event in
    let es = events_in ws in (
      record { are = named.0; text = texts.0; adds = adds.0; spent = spent.0; few = filled-small done e (fills done e es is) adds.0 texts.0.small },
      fit-from most events (done ++ e ∷ []) ws fills (is ∙ sym (append_assoc done (e ∷ []) es)) adds.1 spent.1 texts.1 named.1,
    )

-- ---- a list of which the map is taken apart

record IsSplit {X Y : Type 0} (f : X → Y) (xs : List X) (before : List Y) (y : Y) (behind : List Y) : Type 0 where
  front : List X
  element : X
  back : List X
  whole : xs ≡ front ++ element ∷ back
  before_is : before ≡ map f front
  here_is : y ≡ f element

map-split : {X Y : Type 0} (f : X → Y) (xs : List X) (before : List Y) (y : Y) (behind : List Y) → map f xs ≡ before ++ y ∷ behind → IsSplit f xs before y behind
map-split {X} {Y} f [] [] y behind h = absurd (let none : List Y = [] in let e : none ≡ y ∷ behind = h in cc)
map-split {X} {Y} f [] (b ∷ before) y behind h = absurd (let none : List Y = [] in let e : none ≡ b ∷ (before ++ y ∷ behind) = h in cc)
map-split f (x ∷ xs) [] y behind h =
    let e : f x ∷ map f xs ≡ y ∷ behind = h in
    let same : y ≡ f x = cc in
    record { front = []; element = x; back = xs; whole = refl; before_is = refl; here_is = same }
map-split f (x ∷ xs) (b ∷ before) y behind h =
    let e : f x ∷ map f xs ≡ b ∷ (before ++ y ∷ behind) = h in
    let first : b ≡ f x = cc in
    let others : map f xs ≡ before ++ y ∷ behind = cc in
    let at_rest = map-split f xs before y behind others in
    record {
      front = x ∷ at_rest.front;
      element = at_rest.element;
      back = at_rest.back;
      whole = ap (λ (l : List _). x ∷ l) at_rest.whole;
      before_is = ap₂ (λ (a : _) (l : List _). a ∷ l) first at_rest.before_is;
      here_is = at_rest.here_is;
    }

-- a number of so many is small
small-number : (most : ℕ) (o : Option Order) → most < 2 ^ 64 → IfSome o (λ x. x.number ≤ most) → IfSome o (λ x. x.number < 2 ^ 64)
small-number most None below h = tt
small-number most (Some x) below h = omega (arith, below, h)

-- ---- the reports of some events

module _ (most : ℕ) where
  pub lines-messages : (ws : List Written) → AllTextEvents most (events_in ws) → AllByRecursion IsNamed ws → messages_of (flat_map report ws) ≡ reports_in ws
  lines-messages [] h named = refl
  lines-messages (w ∷ ws) h named =
      messages_of-frame-append (report w) (flat_map report ws) (line-frame w.names named.0 w.event h.0.texts) ∙ ap (λ (x : List (List ℕ)). report w ∷ x) (lines-messages ws h.1 named.1)

  pub lines-rest : (ws : List Written) → AllTextEvents most (events_in ws) → AllByRecursion IsNamed ws → rest_of (flat_map report ws) ≡ []
  lines-rest [] h named = refl
  lines-rest (w ∷ ws) h named = rest_of-frame-append (report w) (flat_map report ws) (line-frame w.names named.0 w.event h.0.texts) ∙ lines-rest ws h.1 named.1

  lines-right : (ws : List Written) → AllByRecursion (IsFit most) ws → AllByRecursion IsReadRight (reports_in ws)
  lines-right [] h = tt
  lines-right (w ∷ ws) h = (read-right w.names h.0.are w.event h.0.text.texts h.0.text.small h.0.adds h.0.few h.0.spent, lines-right ws h.1)

  lines-lots : (ws : List Written) → AllByRecursion (IsFit most) ws → lots_read (reports_in ws) ≡ total_filled (events_in ws)
  lines-lots [] h = refl
  lines-lots (w ∷ ws) h =
      omega (arith, sum_by-cons (number_in 32) (report w) (reports_in ws), sum_by-cons filled_in w.event (events_in ws), read-lots w.names h.0.are w.event h.0.text.texts h.0.text.small h.0.adds h.0.few, lines-lots ws h.1)

  lines-cancelled : (ws : List Written) → AllByRecursion (IsFit most) ws → cancelled_read (reports_in ws) ≡ total_cancelled (events_in ws)
  lines-cancelled [] h = refl
  lines-cancelled (w ∷ ws) h =
      omega (arith, sum_by-cons cancelled_in_report (report w) (reports_in ws), sum_by-cons cancelled_in w.event (events_in ws), read-cancelled w.names h.0.are w.event h.0.text.texts h.0.text.small h.0.adds h.0.few, lines-cancelled ws h.1)

  lines-ledger : (ws : List Written) → AllByRecursion (IsFit most) ws → flat_map ledger_line (events_in ws) ≡ flat_map ledger_line_read (reports_in ws)
  lines-ledger [] h = refl
  lines-ledger (w ∷ ws) h = ap₂ (λ (x y : List ℕ). x ++ y) (writes-line w.names h.0.are w.event h.0.text.texts) (lines-ledger ws h.1)

  -- what is open by the last report of an order
  lines-open-from : most < 2 ^ 64 → (number leaves : ℕ) → 1 ≤ number → (ws : List Written) → AllByRecursion (IsFit most) ws → fold (open_by_report number) leaves (reports_in ws) ≡ last_open_from number leaves (events_in ws)
  lines-open-from below number leaves some [] h = refl
  lines-open-from below number leaves some (w ∷ ws) h =
      let e = w.event in
      let given = small-number most (order_in e) below h.0.text.given in
      ap (λ (n : ℕ). fold (open_by_report number) n (reports_in ws)) (read-open w.names h.0.are e h.0.text.texts h.0.text.small h.0.adds h.0.few given number leaves some)
      ∙ lines-open-from below number (open_by number (order_in e) leaves) some ws h.1

  lines-open : most < 2 ^ 64 → (number : ℕ) → 1 ≤ number → (ws : List Written) → AllByRecursion (IsFit most) ws → last_open_read number (reports_in ws) ≡ last_open number (events_in ws)
  lines-open below number some ws h = lines-open-from below number 0 some ws h

  -- what the reports say was traded of an order
  lines-lots-of : most < 2 ^ 64 → (number : ℕ) (ws : List Written) → AllByRecursion (IsFit most) ws → lots_read_of number (reports_in ws) ≡ lots_of number (events_in ws)
  lines-lots-of below number [] h = refl
  lines-lots-of below number (w ∷ ws) h =
      let e = w.event in
      let given = small-number most (order_in e) below h.0.text.given in
      omega (arith, sum_by-cons (lots_by_report number) (report w) (reports_in ws), sum_by-cons (lots_in number) e (events_in ws), read-lots-of w.names h.0.are e h.0.text.texts h.0.text.small h.0.adds h.0.few given number, lines-lots-of below number ws h.1)

  lines-fills : most < 2 ^ 64 → (ws : List Written) → AllByRecursion (IsFit most) ws → FillsAddUp (events_in ws) → FillsReadUp (reports_in ws)
  lines-fills below ws fit fills before line behind is =
      let at_w = map-split report ws before line behind is in
      let w = at_w.element in
      let e = w.event in
      let front = at_w.front in
      let parts = subst (AllByRecursion (IsFit most)) at_w.whole fit in
      let front_fit = all-front (IsFit most) front (w ∷ at_w.back) parts in
      let own = (all-back (IsFit most) front (w ∷ at_w.back) parts).0 in
      let given = small-number most (order_in e) below own.text.given in
      let each : (number : ℕ) → lots_read_of number (reports_in front ++ report w ∷ []) ≡ lots_of number (events_in front ++ e ∷ []) = λ number.
      omega (arith, sum_by_push (lots_by_report number) (reports_in front) (report w), sum_by_push (lots_in number) (events_in front) e, lines-lots-of below number front front_fit, read-lots-of w.names own.are e own.text.texts own.text.small own.adds own.few given number) in
      let whole : events_in ws ≡ events_in front ++ e ∷ events_in at_w.back = ap events_in at_w.whole ∙ map-append (λ (x : Written). x.event) front (w ∷ at_w.back) in
      let Goal : List (List ℕ) → List ℕ → Type 0 = λ b r. is_execution r ≡ true → 1 ≤ number_in 37 r → number_in 14 r ≡ lots_read_of (number_in 37 r) (b ++ r ∷ []) in
      let here : Goal (reports_in front) (report w) = λ execution some.
      read-filled w.names own.are e own.text.texts own.text.small own.adds own.few given (λ number. lots_of number (events_in front ++ e ∷ [])) (fills (events_in front) e (events_in at_w.back) whole) execution some
      ∙ sym (each (number_in 37 (report w))) in
      subst (λ (b : List (List ℕ)). Goal b line) (sym at_w.before_is) (subst (λ (r : List ℕ). Goal (reports_in front) r) (sym at_w.here_is) here)

  -- What the reports of events say adds up, if what the events tell does.
  pub lines-balance : (ws : List Written) (state : State) → AreBalanced (events_in ws) state → AllTextEvents most (events_in ws) → AllByRecursion IsNamed ws → AreReadBalanced most (events_in ws) state (reports_in ws)
  lines-balance ws state balanced texts named =
      let events = events_in ws in
      let fit = fit-from most events [] ws balanced.fills refl balanced.reports balanced.expired texts named in
      let filled = lines-lots ws fit in
      let cancelled = lines-cancelled ws fit in
      record {
        each = lines-right ws fit;
        filled = filled;
        cancelled = cancelled;
        fills = λ small. lines-fills small ws fit balanced.fills;
        leaves = λ small number some. lines-open small number some ws fit ∙ balanced.leaves number;
        total = omega (arith, balanced.total, filled, cancelled);
        ledger = ap₂ (λ (x y : List ℕ). x ++ y) (lines-ledger ws fit) (ap₂ (λ (f c : ℕ). total_line (total_entered events) f (total_open state.book) c) (sym filled) (sym cancelled));
      }
