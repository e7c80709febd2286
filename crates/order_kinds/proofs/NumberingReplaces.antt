-- A replace does the same where each order is named by its number, and numbers still differ.
use Rattle.std.proofs.Common.{◌≡◌, ℕ, ◌≤◌, Bool, true, false, cond, List, [], ◌∷◌, Option, Some, None, option_map, Result, Ok, Err, refl, ap, ◌∙◌}
use Rattle.gx_base.specs.declared.order.Order.{Order}
use Rattle.gx_base.specs.declared.event.Event.{Event}
use Rattle.gx_base.specs.declared.event.ChangeFault.{ChangeFault}
use Rattle.product_file.specs.Products.{ProductLists}
use Rattle.fix_request.specs.declared.request.ReplaceOrder.{ReplaceOrder}
use Rattle.plain_book.specs.Orders.{HasSlot, order_of, slot_named}
use Rattle.plain_book.specs.Book.{Book, AllDiffer, live_orders, book_without, book_changed, changed_to}
use Rattle.plain_book.specs.Match.{MatchState, match_start, report, report_counted, next_head}
use Rattle.plain_book.specs.Numbers.{book_numbered, match_numbered}
use Rattle.plain_book.proofs.Live.{orders-at}
use Rattle.order_kinds.specs.Instruments.{ListedInstrument}
use Rattle.order_kinds.specs.State.{State, state_numbered}
use Rattle.order_kinds.specs.Stops.{Naming, by_number, come_in}
use Rattle.order_kinds.specs.Accepting.{after_match}
use Rattle.order_kinds.specs.Replaces.{replace_terms, keeps_place, least_after, replaced_order, replace_event, replaced_in_place, replaced_start, replaced_anew, replaced, replace_refused, replaced_or_refused, replace_at, replace_step}
use Rattle.order_kinds.specs.Cores.{AreNumbered}
use Rattle.order_kinds.specs.Inner.Apart.{ComeApart, ReplacedApart, ReplaceApartBy, ReplaceApart}
use Rattle.order_kinds.proofs.Slots.{left-differ}
use Rattle.order_kinds.proofs.Kept.{all-left, all-changed}
use Rattle.order_kinds.proofs.Numbering.{replace-terms-same, named-numbered, named-has}
use Rattle.order_kinds.proofs.NumberingEntered.{IsIncoming}
use Rattle.order_kinds.proofs.NumberingChanges.{found-same, left-same, left-numbers, left-lacks, changed-same, changed-numbers}
use Rattle.order_kinds.proofs.NumberingStops.{outcome_numbered, match-same, match-numbered}

module _ (naming : Naming) (product : ProductLists) (request : ReplaceOrder) (state : State) (slots : AllDiffer (live_orders state.book)) (are : AreNumbered state) where
  -- ---- the order of a slot is replaced

  module _ (s : ℕ) (has : HasSlot s (live_orders state.book)) where
    abbrev before : Order
    before = order_of s (live_orders state.book)

    abbrev number : ℕ
    number = before.number

    same : order_of number (live_orders (book_numbered state.book)) ≡ before
    same = found-same s state.book slots are.differ has

    below : number ≤ state.desk.orders
    below = orders-at (λ (o : Order). o.number ≤ state.desk.orders) s (live_orders state.book) are.given has

    in_place-same : replaced_in_place request number (state_numbered state) ≡ outcome_numbered (replaced_in_place request s state)
    in_place-same =
        let whole : Book → Order → State × List Event = λ book o. (
          record state { book = book; desk = report_counted state.desk o.firm },
          replace_event o (next_head state.desk o.firm request.sender.time) (changed_to request.id request.quantity (least_after request o) o) ∷ [],
        ) in
        ap (λ (o : Order). whole (book_changed number request.id request.quantity (least_after request o) (book_numbered state.book)) o) same
        ∙ ap (λ (book : Book). whole book before) (changed-same s state.book slots are.differ has request.id request.quantity (least_after request before))

    in_place-numbered : AreNumbered (replaced_in_place request s state).0
    in_place-numbered =
        let least = least_after request before in
        record {
          differ = changed-numbers s state.book slots are.differ has request.id request.quantity least;
          given = all-changed (λ (o : Order). o.number ≤ state.desk.orders) s request.id request.quantity least state.book below are.given;
        }

    abbrev start : MatchState
    start = replaced_start request s state

    start-same : replaced_start request number (state_numbered state) ≡ match_numbered start
    start-same =
        let whole : Book → Order → MatchState = λ book o.
        report (replace_event o) (replaced_order request o) (match_start book state.desk (record { order = replaced_order request o; time = request.sender.time; range = None })) in
        ap (λ (o : Order). whole (book_without number (book_numbered state.book)) o) same
        ∙ ap (λ (book : Book). whole book before) (left-same s state.book slots are.differ has)

    start-incoming : IsIncoming start
    start-incoming = record {
      slots = left-differ s state.book slots;
      numbers = left-numbers s state.book slots are.differ has;
      fresh = left-lacks s state.book slots are.differ has;
    }

    anew-same : (instrument : ListedInstrument) → ComeApart naming instrument.rule.steps start → replaced_anew by_number instrument request number (state_numbered state) ≡ outcome_numbered (replaced_anew naming instrument request s state)
    anew-same instrument apart =
        ap (λ (m : MatchState). after_match instrument.number (state_numbered state) (come_in by_number instrument.rule.steps m)) start-same
        ∙ match-same instrument.number state naming instrument.rule.steps start start-incoming apart

    anew-numbered : (instrument : ListedInstrument) → ComeApart naming instrument.rule.steps start → AreNumbered (replaced_anew naming instrument request s state).0
    anew-numbered instrument apart =
        match-numbered instrument.number state naming instrument.rule.steps start start-incoming apart (all-left (λ (o : Order). o.number ≤ state.desk.orders) s state.book are.given) below

    -- ---- in its place, or anew

    replaced-same : (instrument : ListedInstrument) → ReplacedApart (keeps_place request before) instrument request s state naming
        → replaced by_number instrument request number (state_numbered state) ≡ outcome_numbered (replaced naming instrument request s state)
    replaced-same instrument apart =
        let by : Bool → State × List Event = λ keeps. cond keeps (replaced_in_place request number (state_numbered state)) (replaced_anew by_number instrument request number (state_numbered state)) in
        let go : (keeps : Bool) → ReplacedApart keeps instrument request s state naming → by keeps ≡ outcome_numbered (cond keeps (replaced_in_place request s state) (replaced_anew naming instrument request s state)) = elim [
          | true ↦ λ a. in_place-same
          | false ↦ λ a. anew-same instrument a
        ] in ap (λ (o : Order). by (keeps_place request o)) same ∙ go (keeps_place request before) apart

    replaced-numbered : (instrument : ListedInstrument) → ReplacedApart (keeps_place request before) instrument request s state naming → AreNumbered (replaced naming instrument request s state).0
    replaced-numbered instrument apart =
        let go : (keeps : Bool) → ReplacedApart keeps instrument request s state naming → AreNumbered (cond keeps (replaced_in_place request s state) (replaced_anew naming instrument request s state)).0 = elim [
          | true ↦ λ a. in_place-numbered
          | false ↦ λ a. anew-numbered instrument a
        ] in go (keeps_place request before) apart

    -- ---- or a rule refuses it

    by-same : (terms : Result ListedInstrument ChangeFault) → ReplaceApartBy terms request s state naming
        → replaced_or_refused terms by_number request number (state_numbered state) ≡ outcome_numbered (replaced_or_refused terms naming request s state)
    by-same (Ok instrument) apart = replaced-same instrument apart
    by-same (Err f) apart = ap (λ (o : Order). replace_refused f request o.number o.filled (state_numbered state)) same

    by-numbered : (terms : Result ListedInstrument ChangeFault) → ReplaceApartBy terms request s state naming → AreNumbered (replaced_or_refused terms naming request s state).0
    by-numbered (Ok instrument) apart = replaced-numbered instrument apart
    by-numbered (Err f) apart = record { differ = are.differ; given = are.given }

    terms-by-same : replace_terms product request (order_of number (live_orders (book_numbered state.book))) (state_numbered state) ≡ replace_terms product request before state
    terms-by-same = ap (λ (o : Order). replace_terms product request o (state_numbered state)) same ∙ replace-terms-same product request before state

    some-same : ReplaceApart (Some s) product request state naming → replace_at (Some number) by_number product request (state_numbered state) ≡ outcome_numbered (replace_at (Some s) naming product request state)
    some-same apart =
        ap (λ (terms : Result ListedInstrument ChangeFault). replaced_or_refused terms by_number request number (state_numbered state)) terms-by-same
        ∙ by-same (replace_terms product request before state) apart

    some-numbered : ReplaceApart (Some s) product request state naming → AreNumbered (replace_at (Some s) naming product request state).0
    some-numbered apart = by-numbered (replace_terms product request before state) apart

  -- ---- whatever is found

  abbrev asked : Option ℕ
  asked = slot_named request.sender.firm request.old (live_orders state.book)

  by-found : (found : Option ℕ) → asked ≡ found → ReplaceApart found product request state naming
      → replace_at (option_map (λ s. (order_of s (live_orders state.book)).number) found) by_number product request (state_numbered state) ≡ outcome_numbered (replace_at found naming product request state)
  by-found None is apart = refl
  by-found (Some s) is apart = some-same s (named-has request.sender.firm request.old s (live_orders state.book) is) apart

  pub replace-same : ReplaceApart asked product request state naming → replace_step by_number product request (state_numbered state) ≡ outcome_numbered (replace_step naming product request state)
  replace-same apart =
      ap (λ (found : Option ℕ). replace_at found by_number product request (state_numbered state)) (named-numbered request.sender.firm request.old state.book slots)
      ∙ by-found asked refl apart

  numbered-by : (found : Option ℕ) → asked ≡ found → ReplaceApart found product request state naming → AreNumbered (replace_at found naming product request state).0
  numbered-by None is apart = record { differ = are.differ; given = are.given }
  numbered-by (Some s) is apart = some-numbered s (named-has request.sender.firm request.old s (live_orders state.book) is) apart

  pub replace-numbered : ReplaceApart asked product request state naming → AreNumbered (replace_step naming product request state).0
  replace-numbered apart = numbered-by asked refl apart
