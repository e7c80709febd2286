-- The reports of a history: they are messages, and what their bytes say adds up.
use Rattle.std.proofs.Common.{◌≡◌, ℕ, ◌≤◌, List, [], ◌∷◌, ◌++◌, map, refl, sym, ap, ap₂, subst, ◌∙◌, arith}
use Rattle.std.proofs.lemmas.List.{map-append}
use Rattle.std.proofs.lemmas.Grind.{flat_map-append}
use Rattle.std.specs.Prelude.{flat_map}
use Rattle.std.specs.List.{AllByRecursion}
use Rattle.gx_base.specs.NameLists.{NameLists}
use Rattle.gx_base.specs.Line.{line_of}
use Rattle.gx_base.specs.declared.event.Event.{Event}
use Rattle.book_order.proofs.Each.{all-append, all-with}
use Rattle.fix_frame.specs.Stream.{messages_of, rest_of}
use Rattle.product_file.specs.Products.{ProductLists}
use Rattle.plain_book.specs.declared.entry.Entry.{Entry}
use Rattle.order_kinds.specs.State.{empty_state}
use Rattle.order_kinds.specs.Step.{events_from}
use Rattle.order_kinds.specs.Balance.{AreBalanced}
use Rattle.order_kinds.specs.Amendments.{untopped, amended_state}
use Rattle.order_kinds.specs.Histories.{History, of_product, amended, AreOfTexts, IsBalanced, length_kept, state_kept, events_kept, reports_kept}
use Rattle.stream_laws.specs.Names.{AreNames}
use Rattle.stream_laws.specs.Histories.{HaveNames, each_report}
use Rattle.stream_laws.specs.Texts.{HasTexts}
use Rattle.stream_laws.specs.Sums.{AreReadBalanced, IsReadBalanced}
use Rattle.stream_laws.proofs.Engine.{AllText, IsTextEvent, AllTextEvents, IsTextStream, stream-text}
use Rattle.stream_laws.proofs.Requests.{request-is-text}
use Rattle.stream_laws.proofs.Products.{product-names}
use Rattle.stream_laws.proofs.Streams.{Written, report, reports_in, events_in, IsNamed, lines-messages, lines-rest, lines-balance}

-- Each product of a text has right names.
pub histories-have-names : (history : History) → AreOfTexts history → HaveNames history
histories-have-names (of_product product messages) texts = product-names texts.0 product texts.1
histories-have-names (amended before product messages) texts = (histories-have-names before texts.0, product-names texts.1.0 product texts.1.1)

-- ---- the texts in its events

module _ (most : ℕ) where
  untopped-text : (product : ProductLists) (es : List Entry) → AllText most es → AllText most (map (untopped product) es)
  untopped-text product [] h = tt
  untopped-text product (e ∷ es) h = (h.0, untopped-text product es h.1)

  history-text : (history : History) → length_kept history ≤ most → IsTextStream most (length_kept history) (events_kept history) (state_kept history)
  history-text (of_product product messages) few =
      let all = stream-text most product (request-is-text product) (empty_state product) messages (omega (arith, few)) (record { resting = tt; waiting = tt }) in
      record { book = all.book; told = all.told; orders = omega (arith, all.orders) }
  history-text (amended before product messages) few =
      let start = amended_state product (state_kept before) in
      let h = history-text before (omega (arith, few)) in
      let more = stream-text most product (request-is-text product) start messages (omega (arith, few, h.orders)) (record { resting = untopped-text product (state_kept before).book.resting h.book.resting; waiting = h.book.waiting }) in
      record {
        book = more.book;
        told = all-append (IsTextEvent most) (events_kept before) (events_from product start messages) h.told more.told;
        orders = omega (arith, more.orders, h.orders);
      }

pub events-have-texts : (history : History) → AllByRecursion HasTexts (events_kept history)
events-have-texts history =
    let most = length_kept history in
    all-with (IsTextEvent most) HasTexts (λ event is. is.texts) (events_kept history) (history-text most history (omega arith)).told

-- ---- its events with the names of their reports

module _ (names : NameLists) where
  abbrev written : Event → Written
  written e = record { names = names; event = e }

  abbrev all-written : List Event → List Written
  all-written es = map written es

  written-events : (es : List Event) → events_in (all-written es) ≡ es
  written-events [] = refl
  written-events (e ∷ es) = ap (λ (x : List Event). e ∷ x) (written-events es)

  written-reports : (es : List Event) → reports_in (all-written es) ≡ map (line_of names) es
  written-reports [] = refl
  written-reports (e ∷ es) = ap (λ (x : List (List ℕ)). line_of names e ∷ x) (written-reports es)

  written-bytes : (es : List Event) → flat_map report (all-written es) ≡ flat_map (line_of names) es
  written-bytes [] = refl
  written-bytes (e ∷ es) = ap (λ (x : List ℕ). line_of names e ++ x) (written-bytes es)

  written-named : AreNames names → (es : List Event) → AllByRecursion IsNamed (all-written es)
  written-named are [] = tt
  written-named are (e ∷ es) = (are, written-named are es)

abbrev history-written : History → List Written
history-written (of_product product messages) = all-written product.names (events_from product (empty_state product) messages)
history-written (amended before product messages) = history-written before ++ all-written product.names (events_from product (amended_state product (state_kept before)) messages)

history-events : (history : History) → events_in (history-written history) ≡ events_kept history
history-events (of_product product messages) = written-events product.names (events_from product (empty_state product) messages)
history-events (amended before product messages) =
    let more = events_from product (amended_state product (state_kept before)) messages in
    map-append (λ (w : Written). w.event) (history-written before) (all-written product.names more)
    ∙ ap₂ (λ (x y : List Event). x ++ y) (history-events before) (written-events product.names more)

history-reports : (history : History) → reports_in (history-written history) ≡ each_report history
history-reports (of_product product messages) = written-reports product.names (events_from product (empty_state product) messages)
history-reports (amended before product messages) =
    let more = events_from product (amended_state product (state_kept before)) messages in
    map-append report (history-written before) (all-written product.names more)
    ∙ ap₂ (λ (x y : List (List ℕ)). x ++ y) (history-reports before) (written-reports product.names more)

history-bytes : (history : History) → flat_map report (history-written history) ≡ reports_kept history
history-bytes (of_product product messages) = written-bytes product.names (events_from product (empty_state product) messages)
history-bytes (amended before product messages) =
    let more = events_from product (amended_state product (state_kept before)) messages in
    flat_map-append report (history-written before) (all-written product.names more)
    ∙ ap₂ (λ (x y : List ℕ). x ++ y) (history-bytes before) (written-bytes product.names more)

history-named : (history : History) → HaveNames history → AllByRecursion IsNamed (history-written history)
history-named (of_product product messages) are = written-named product.names are (events_from product (empty_state product) messages)
history-named (amended before product messages) are =
    let more = events_from product (amended_state product (state_kept before)) messages in
    all-append IsNamed (history-written before) (all-written product.names more) (history-named before are.0) (written-named product.names are.1 more)

-- ---- the laws

module _ (history : History) (are : HaveNames history) where
  abbrev all : List Written
  all = history-written history

  texts : AllTextEvents (length_kept history) (events_in all)
  texts = subst (AllTextEvents (length_kept history)) (sym (history-events history)) (history-text (length_kept history) history (omega arith)).told

  read-all : messages_of (reports_kept history) ≡ reports_in all
  read-all = ap messages_of (sym (history-bytes history)) ∙ lines-messages (length_kept history) all texts (history-named history are)

  pub reports-each : messages_of (reports_kept history) ≡ each_report history
  reports-each = read-all ∙ history-reports history

  pub reports-whole : rest_of (reports_kept history) ≡ []
  reports-whole = ap rest_of (sym (history-bytes history)) ∙ lines-rest (length_kept history) all texts (history-named history are)

  pub reports-balance : IsBalanced history → IsReadBalanced history
  reports-balance balanced =
      let most = length_kept history in
      let state = state_kept history in
      let told : AreBalanced (events_in all) state = subst (λ (es : List Event). AreBalanced es state) (sym (history-events history)) balanced in
      let read = lines-balance most all state told texts (history-named history are) in
      subst (AreReadBalanced most (events_kept history) state) (sym read-all)
      (subst (λ (es : List Event). AreReadBalanced most es state (reports_in all)) (history-events history) read)
