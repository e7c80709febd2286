-- The bytes of the old form of a right state: nothing is wrong with them, and they are read as that state.
use Rattle.std.proofs.Common.{◌≡◌, ◌≢◌, ℕ, ◌+◌, ◌*◌, ◌^◌, ◌<◌, ◌≤◌, Bool, false, ◌&&◌, List, [], ◌∷◌, ◌++◌, length, map, Option, None, refl, sym, ap, subst, ◌∙◌, arith, length-append, inl, inr}
use Rattle.std.specs.Prelude.{nat_lt}
use Rattle.std.specs.List.{AllByRecursion, flat_map}
use Rattle.gx_base.specs.FirstFault.{first_fault}
use Rattle.gx_base.specs.declared.order.Side.{Side}
use Rattle.gx_base.specs.declared.order.Side.TheVariants.{Buy, Sell}
use Rattle.gx_base.specs.declared.order.Order.{Order}
use Rattle.gx_base.specs.declared.trading.Trading.{Trading}
use Rattle.gx_base.specs.declared.trading.Trading.TheVariants.{Open, Closed}
use Rattle.product_file.specs.Products.{ProductLists}
use Rattle.plain_book.specs.declared.entry.Entry.{Entry}
use Rattle.plain_book.specs.Book.{EachPair, AreNamedApart, live_orders}
use Rattle.plain_book.proofs.Pairs.{all-from, all-front, all-back, all-with, differ-pairs}
use Rattle.order_kinds.specs.State.{State}
use Rattle.order_kinds.specs.OrderRules.{last_of}
use Rattle.order_kinds.specs.TradingSessions.{AreUntilCancelled}
use Rattle.book_image.specs.Rows.{count_bytes, number_at, row_at, order_of_row}
use Rattle.book_image.specs.Rules.{is_right_resting_row, is_right_waiting_row, may_live}
use Rattle.book_image.specs.Image.{entry_row, rows_bytes, top_number, old_image_of}
use Rattle.book_image.specs.Faults.{resting_place, resting_rows, resting_count, waiting_place, waiting_rows, waiting_count, rows_end, orders_at, length_fault, wrong_place, is_right_last, top_at, is_right_top, has_right_tops, parts_fault, tops_fault}
use Rattle.book_image.specs.Reading.{desk_of_image, lasts_at, last_at, entry_of, with_all_tops, resting_of_image, waiting_of_image, state_of_part}
use Rattle.image_laws.specs.Right.{IsRightEntry, IsRightStop, IsRightState}
use Rattle.image_laws.proofs.Places.{Has, has-front, has-back, has-number, has-count}
use Rattle.image_laws.proofs.RowLists.{orders_of, AllFit, orders-read}
use Rattle.image_laws.proofs.OrderRows.{both-true}
use Rattle.image_laws.proofs.RightRows.{MayLive, lives-right, AreRightResting, AreRightWaiting, all-resting-fit, all-waiting-fit, resting-rows-right, waiting-rows-right, none-wrong-at-all}
use Rattle.image_laws.proofs.TopMarks.{HasTop, found, top-right}
use Rattle.image_laws.proofs.TopsRead.{HaveOtherNumbers, resting-read, waiting-read}
use Rattle.image_laws.proofs.ImagePlaces.{IsLaidOut, laid-out, last-placed, buy-placed, sell-placed}
use Rattle.image_laws.proofs.Numbers.{no-fault-if, lt-false, desk-read, desk-right, orders-given, last-right, last-read, lasts-read}

pairs-front : (R : Entry → Entry → Type 0) (xs ys : List Entry) → EachPair R (xs ++ ys) → EachPair R xs
pairs-front R [] ys h = tt
pairs-front R (x ∷ xs) ys h = (all-front (R x) xs ys h.0, pairs-front R xs ys h.1)

-- orders that are named by their numbers have other numbers
other-numbers : (es : List Entry) → AllByRecursion (λ (e : Entry). e.slot ≡ e.order.number) es → EachPair (λ a b. b.slot ≢ a.slot) es
    → EachPair HaveOtherNumbers es
other-numbers [] slots differ = tt
other-numbers (e ∷ es) slots differ = (from-first es slots.1 differ.0, other-numbers es slots.1 differ.1)
  where
    from-first : (xs : List Entry) → AllByRecursion (λ (x : Entry). x.slot ≡ x.order.number) xs
        → AllByRecursion (λ (x : Entry). x.slot ≢ e.slot) xs → AllByRecursion (HaveOtherNumbers e) xs
    from-first [] named other = tt
    from-first (x ∷ xs) named other = ((λ same. other.0 (named.0 ∙ same ∙ sym slots.0)), from-first xs named.1 other.1)

-- the number of a TOP order has been given
top-given : (product : ProductLists) (orders : ℕ) (i : ℕ) (s : Side) (n : ℕ) (es : List Entry)
    → AllByRecursion (IsRightEntry product orders) es → HasTop i s n es → n ≤ orders
top-given product orders i s n [] right h = absurd h
top-given product orders i s n (e ∷ es) right (inl t) = let low : e.order.number ≤ orders = right.0.given in omega (arith, t.number)
top-given product orders i s n (e ∷ es) right (inr h) = top-given product orders i s n es right.1 h

four-fine : {a b c d : Option ℕ} → a ≡ None → b ≡ None → c ≡ None → d ≡ None → first_fault (a ∷ b ∷ c ∷ d ∷ []) ≡ None
four-fine p q r s = λ i. first_fault (p i ∷ q i ∷ r i ∷ s i ∷ [])

seven-fine : {a b c d e f g : Option ℕ} → a ≡ None → b ≡ None → c ≡ None → d ≡ None → e ≡ None → f ≡ None → g ≡ None
    → first_fault (a ∷ b ∷ c ∷ d ∷ e ∷ f ∷ g ∷ []) ≡ None
seven-fine p q r s t u v = λ i. first_fault (p i ∷ q i ∷ r i ∷ s i ∷ t i ∷ u i ∷ v i ∷ [])

-- in an open market each order may live
all-live : (trading : Trading) (es : List Entry) → (trading ≡ Closed → AreUntilCancelled es) → AllByRecursion (MayLive trading) es
all-live Open es h = all-from (MayLive Open) (λ e. refl) es
all-live Closed es h = h refl

module _ (product : ProductLists) (state : State) (right : IsRightState product state) (payload : List ℕ)
    (is : payload ≡ old_image_of state) where
  abbrev listed : ℕ
  listed = length product.names.instruments

  abbrev resting : List Entry
  resting = state.book.resting

  abbrev waiting : List Entry
  waiting = state.book.waiting

  -- ---- what is right of the state

  few-orders : state.desk.orders < 2 ^ 64
  few-orders = omega (arith, right.few, right.counters.orders)

  resting-entries : AllByRecursion (IsRightEntry product state.desk.orders) resting
  resting-entries = all-front (IsRightEntry product state.desk.orders) resting waiting right.entries

  waiting-entries : AllByRecursion (IsRightEntry product state.desk.orders) waiting
  waiting-entries = all-back (IsRightEntry product state.desk.orders) resting waiting right.entries

  resting-facts : AreRightResting product state.desk.orders state.book.instruments resting
  resting-facts = record {
    few = few-orders;
    entries = resting-entries;
    rest = right.book.rest;
    named = pairs-front AreNamedApart resting waiting right.book.named;
    ordered = right.book.ordered;
    apart = right.uncrossed;
  }

  waiting-facts : AreRightWaiting product state.desk.orders state.book.instruments resting waiting
  waiting-facts = record {
    few = few-orders;
    entries = waiting-entries;
    wait = right.book.wait;
    stops = right.stops;
    named = right.book.named;
    lined = right.book.lined;
  }

  resting-fit : AllFit resting
  resting-fit = all-resting-fit product state.desk.orders state.book.instruments resting resting-facts

  waiting-fit : AllFit waiting
  waiting-fit = all-waiting-fit product state.desk.orders state.book.instruments resting waiting waiting-facts

  all-lives : AllByRecursion (MayLive state.trading) (live_orders state.book)
  all-lives = all-live state.trading (live_orders state.book) right.lives

  few-live : length resting + length waiting ≤ product.max_orders
  few-live = omega (arith, right.capacity, right.book.few, length-append resting waiting)

  few-rows : length resting + length waiting < 2 ^ 32
  few-rows = omega (arith, right.book.few, right.book.small, length-append resting waiting)

  -- ---- places

  laid : IsLaidOut payload state listed
  laid = laid-out payload state listed is right.instruments right.lines resting-fit waiting-fit

  resting-counted : resting_count listed payload ≡ length resting
  resting-counted =
      has-count payload (552 + 25 * listed) (length resting) (omega (arith, few-rows))
      (has-front payload (552 + 25 * listed) (count_bytes (length resting)) (flat_map entry_row resting) laid.resting)

  resting-placed : Has payload (resting_rows listed) (flat_map entry_row resting)
  resting-placed =
      has-back payload (552 + 25 * listed) 4 (resting_rows listed) (count_bytes (length resting))
      (flat_map entry_row resting) refl refl laid.resting

  waiting-place : waiting_place listed payload ≡ 552 + 25 * listed + (4 + 82 * length resting)
  waiting-place = omega (arith, resting-counted)

  waiting-part : Has payload (waiting_place listed payload) (rows_bytes waiting)
  waiting-part = subst (λ (at : ℕ). Has payload at (rows_bytes waiting)) (sym waiting-place) laid.waiting

  waiting-counted : waiting_count listed payload ≡ length waiting
  waiting-counted =
      has-count payload (waiting_place listed payload) (length waiting) (omega (arith, few-rows))
      (has-front payload (waiting_place listed payload) (count_bytes (length waiting)) (flat_map entry_row waiting) waiting-part)

  waiting-placed : Has payload (waiting_rows listed payload) (flat_map entry_row waiting)
  waiting-placed =
      has-back payload (waiting_place listed payload) 4 (waiting_rows listed payload) (count_bytes (length waiting))
      (flat_map entry_row waiting) refl refl waiting-part

  ends : rows_end listed payload ≡ length payload
  ends = omega (arith, waiting-place, waiting-counted, laid.size)

  resting-orders : orders_at payload (resting_rows listed) (resting_count listed payload) ≡ orders_of resting
  resting-orders =
      ap (orders_at payload (resting_rows listed)) resting-counted
      ∙ orders-read payload (resting_rows listed) resting resting-fit resting-placed

  waiting-orders : orders_at payload (waiting_rows listed payload) (waiting_count listed payload) ≡ orders_of waiting
  waiting-orders =
      ap (orders_at payload (waiting_rows listed payload)) waiting-counted
      ∙ orders-read payload (waiting_rows listed payload) waiting waiting-fit waiting-placed

  top-small : (i : ℕ) (s : Side) → top_number i s resting < 2 ^ 64
  top-small i s =
      elim (found i s resting) [
        | inl none ↦ omega (arith, none)
        | inr has ↦ omega (arith, few-orders, top-given product state.desk.orders i s (top_number i s resting) resting resting-entries has)
      ]

  top-read : (i : ℕ) (s : Side) → i < listed → top_at payload i s ≡ top_number i s resting
  top-read i Buy less =
      has-number payload (552 + 25 * i + 9) (top_number i Buy resting) (top-small i Buy) (buy-placed payload state i listed less laid.parts)
  top-read i Sell less =
      has-number payload (552 + 25 * i + 17) (top_number i Sell resting) (top-small i Sell)
      (sell-placed payload state i listed less laid.parts)

  -- ---- nothing is wrong

  length-right : length_fault listed payload ≡ None
  length-right =
      four-fine (no-fault-if (nat_lt (length payload) (resting_rows listed)) (length payload)
      (lt-false (length payload) (resting_rows listed) (omega (arith, ends))))
      (no-fault-if (nat_lt (length payload) (waiting_rows listed payload)) (length payload)
      (lt-false (length payload) (waiting_rows listed payload) (omega (arith, ends))))
      (no-fault-if (nat_lt (length payload) (rows_end listed payload)) (length payload)
      (lt-false (length payload) (rows_end listed payload) (omega (arith, ends))))
      (no-fault-if (nat_lt (rows_end listed payload) (length payload)) (rows_end listed payload)
      (lt-false (rows_end listed payload) (length payload) (omega (arith, ends))))

  lasts-right : wrong_place (is_right_last product payload) 552 25 0 listed ≡ None
  lasts-right =
      none-wrong-at-all (is_right_last product payload) 552 25 listed
      (λ i less. last-right product payload i (last_of i state.last) (right.lasts i) (last-placed payload state i listed less laid.parts))

  given-read : number_at payload 8 ≡ state.desk.orders
  given-read = orders-given payload state.desk right.counters right.few right.lines laid.desk

  abbrev is_right_resting_at : ℕ → Bool
  is_right_resting_at k =
      is_right_resting_row product (number_at payload 8) (orders_at payload (resting_rows listed) k) (row_at payload (resting_rows listed) k)
      && may_live state.trading (order_of_row (row_at payload (resting_rows listed) k))

  resting-right : wrong_place is_right_resting_at (resting_rows listed) 82 0 (resting_count listed payload) ≡ None
  resting-right =
      none-wrong-at-all is_right_resting_at (resting_rows listed) 82 (resting_count listed payload) (λ k less.
      let before = orders_at payload (resting_rows listed) k in
      let row = row_at payload (resting_rows listed) k in
      let less_there : k < length resting = omega (arith, less, resting-counted) in
      both-true (is_right_resting_row product (number_at payload 8) before row) (may_live state.trading (order_of_row row))
      (ap (λ (given : ℕ). is_right_resting_row product given before row) given-read
      ∙ resting-rows-right product state.desk.orders state.book.instruments payload (resting_rows listed) resting resting-facts
      resting-placed k less_there)
      (lives-right state.trading payload (resting_rows listed) resting resting-fit
      (all-front (MayLive state.trading) resting waiting all-lives) resting-placed k less_there))

  abbrev before_waiting : List Order
  before_waiting = orders_at payload (resting_rows listed) (resting_count listed payload)

  abbrev is_right_waiting_at : ℕ → Bool
  is_right_waiting_at k =
      is_right_waiting_row product (number_at payload 8) before_waiting (orders_at payload (waiting_rows listed payload) k)
      (row_at payload (waiting_rows listed payload) k)
      && may_live state.trading (order_of_row (row_at payload (waiting_rows listed payload) k))

  waiting-right : wrong_place is_right_waiting_at (waiting_rows listed payload) 82 0 (waiting_count listed payload) ≡ None
  waiting-right =
      none-wrong-at-all is_right_waiting_at (waiting_rows listed payload) 82 (waiting_count listed payload) (λ k less.
      let before = orders_at payload (waiting_rows listed payload) k in
      let row = row_at payload (waiting_rows listed payload) k in
      let less_there : k < length waiting = omega (arith, less, waiting-counted) in
      both-true (is_right_waiting_row product (number_at payload 8) before_waiting before row) (may_live state.trading (order_of_row row))
      (ap (λ (given : ℕ). is_right_waiting_row product given before_waiting before row) given-read
      ∙ ap (λ (standing : List Order). is_right_waiting_row product state.desk.orders standing before row) resting-orders
      ∙ waiting-rows-right product state.desk.orders state.book.instruments payload resting (waiting_rows listed payload) waiting
      waiting-facts waiting-placed k less_there)
      (lives-right state.trading payload (waiting_rows listed payload) waiting waiting-fit
      (all-back (MayLive state.trading) resting waiting all-lives) waiting-placed k less_there))

  pub tops-right : tops_fault product payload ≡ None
  tops-right =
      none-wrong-at-all (has_right_tops product payload before_waiting) 552 25 listed (λ i less.
      ap (λ (os : List Order). has_right_tops product payload os i) resting-orders
      ∙ both-true (is_right_top product payload (orders_of resting) i Buy) (is_right_top product payload (orders_of resting) i Sell)
      (top-right product payload i Buy resting (top-read i Buy less) right.book.tops right.tops)
      (top-right product payload i Sell resting (top-read i Sell less) right.book.tops right.tops))

  pub parts-right : parts_fault state.trading product payload ≡ None
  parts-right =
      seven-fine length-right
      (desk-right payload state.desk right.counters right.few right.lines laid.desk)
      lasts-right
      (no-fault-if (nat_lt product.max_orders (resting_count listed payload)) (resting_place listed)
      (lt-false product.max_orders (resting_count listed payload) (omega (arith, few-live, resting-counted))))
      resting-right
      (no-fault-if (nat_lt product.max_orders (resting_count listed payload + waiting_count listed payload)) (waiting_place listed payload)
      (lt-false product.max_orders (resting_count listed payload + waiting_count listed payload)
      (omega (arith, few-live, resting-counted, waiting-counted))))
      waiting-right

  -- ---- it is read back

  lasts-back : lasts_at payload 0 listed ≡ state.last
  lasts-back =
      ap (lasts_at payload 0) (sym right.prices)
      ∙ lasts-read payload 0 state.last (λ j less.
      let here : 0 + j ≡ j = omega arith in
      ap (last_at payload) here ∙ last-read product payload j (last_of j state.last) (right.lasts j)
      (last-placed payload state j listed (omega (arith, less, right.prices)) laid.parts))

  slots : AllByRecursion (λ (e : Entry). e.slot ≡ e.order.number) (live_orders state.book)
  slots =
      all-with (IsRightEntry product state.desk.orders) (λ (e : Entry). e.slot ≡ e.order.number) (λ e f. f.slot)
      (live_orders state.book) right.entries

  resting-back : resting_of_image product payload ≡ resting
  resting-back =
      ap (λ (os : List Order). with_all_tops payload listed (map entry_of os)) resting-orders
      ∙ resting-read payload listed resting right.book.tops
      (pairs-front HaveOtherNumbers resting waiting
      (other-numbers (live_orders state.book) slots (differ-pairs (live_orders state.book) right.book.differ)))
      (all-with (IsRightEntry product state.desk.orders) (λ (e : Entry). 1 ≤ e.order.number) (λ e f. f.some) resting resting-entries)
      (all-front (λ (e : Entry). e.slot ≡ e.order.number) resting waiting slots)
      (all-with (IsRightEntry product state.desk.orders) (λ (e : Entry). e.order.instrument < listed)
      (λ e f. f.instrument) resting resting-entries)
      top-read

  waiting-back : waiting_of_image product payload ≡ waiting
  waiting-back =
      ap (map entry_of) waiting-orders
      ∙ waiting-read waiting (all-back (λ (e : Entry). e.slot ≡ e.order.number) resting waiting slots)
      (all-with (IsRightStop product) (λ (e : Entry). e.is_top ≡ false) (λ e f. f.no_top) waiting right.stops)

  desk-back : desk_of_image payload ≡ state.desk
  desk-back = desk-read payload state.desk right.counters right.few right.lines laid.desk

  pub part-read : state_of_part state.trading product payload ≡ state
  part-read = λ i. record {
    book = record { capacity = sym right.capacity i; instruments = sym right.instruments i; resting = resting-back i; waiting = waiting-back i };
    last = lasts-back i;
    desk = desk-back i;
    trading = state.trading;
  }
