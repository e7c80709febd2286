-- What is known of a right image: no part and no row of it is wrong.
use Rattle.std.proofs.Common.{◌≡◌, ◌≢◌, ℕ, ◌+◌, ◌*◌, ◌^◌, ◌<◌, ◌≤◌, Bool, true, false, cond, not, ◌&&◌, ◌||◌, List, [], ◌∷◌, length, map, Option, Some, None, refl, sym, ap, subst, ◌∙◌, arith, inl, inr, ◌⊎◌}
use Prim.Native.Nat.{zero, suc}
use Rattle.std.specs.Prelude.{◌==◌, nat_le, nat_lt, pos, IfSome, if◌then◌else◌, slice_index, slice_get}
use Rattle.std.specs.List.{AllByRecursion, list_any, list_all}
use Rattle.std.proofs.lemmas.Bool.{true≢false}
use Rattle.std.proofs.lemmas.Bool.Decides.{eqb_tells, nat_tests, Decides-eqb, Decides-int_eq}
use Rattle.gx_base.specs.FirstFault.{fault_if, first_fault}
use Rattle.gx_base.specs.declared.limits.TheConstants.{MOST_LOTS, ADDRESSEES}
use Rattle.gx_base.specs.declared.price.Price.{Price}
use Rattle.gx_base.specs.declared.order.Side.{Side}
use Rattle.gx_base.specs.declared.order.Side.TheVariants.{Buy, Sell}
use Rattle.gx_base.specs.declared.order.Kind.{Kind}
use Rattle.gx_base.specs.declared.order.Kind.TheVariants.{Limit, Market, StopLimit}
use Rattle.gx_base.specs.declared.order.Life.{Life}
use Rattle.gx_base.specs.declared.order.Life.TheVariants.{Day, Gtc, Fak, Fok}
use Rattle.gx_base.specs.declared.order.Order.{Order}
use Rattle.gx_base.specs.declared.trading.Trading.{Trading}
use Rattle.product_file.specs.Products.{ProductLists, IsRightProduct, has_top_by}
use Rattle.product_file.specs.declared.product.InstrumentRule.{InstrumentRule}
use Rattle.plain_book.specs.declared.entry.Entry.{Entry}
use Rattle.plain_book.specs.Orders.{level_of, is_before, is_named}
use Rattle.plain_book.specs.Book.{IsFitToRest, IsFitToWait}
use Rattle.plain_book.proofs.Levels.{and-left, and-right}
use Rattle.plain_book.proofs.Pairs.{none-any, any-none}
use Rattle.order_kinds.specs.declared.core_state.TheConstants.{MOST_MESSAGES}
use Rattle.order_kinds.specs.Cores.{AreCounters, IsInRange, IsListedOrder}
use Rattle.order_kinds.specs.NewOrders.{may_rest}
use Rattle.order_kinds.specs.Replaces.{is_kind}
use Rattle.book_image.specs.declared.format.TheConstants.{DESK_BYTES, INSTRUMENT_BYTES, ROW_BYTES}
use Rattle.book_image.specs.Rows.{row_at, has_forms, number_at, price_at, byte_at}
use Rattle.book_image.specs.Rules.{is_price_by, is_price_of, is_right_order, is_right_resting, is_right_waiting, is_right_resting_row, is_right_waiting_row, is_new_name, is_in_book_order, is_in_line, is_right_shown, is_zero, has_same_name, may_live}
use Rattle.book_image.specs.Faults.{part_place, resting_place, resting_rows, resting_count, waiting_place, waiting_rows, waiting_count, rows_end, orders_at, length_fault, wrong_place, desk_fault, is_right_last, has_right_tops, is_right_top, top_at, is_at_best, parts_fault, tops_fault}
use Rattle.book_image.specs.Reading.{entry_of, numbers_at, last_at, desk_of_image}
use Rattle.book_image.specs.Inner.Loading.{order_in, orders_from, AreRightResting, AreRightWaiting, AreRightTops, AreRightLasts, IsRightBook}
use Rattle.book_image.proofs.LoadLists.{rows-as, all-from}

-- ---- no fault

none-then : {F : Type 0} (fault : Option F) (rest : List (Option F)) → first_fault (fault ∷ rest) ≡ None → (fault ≡ None) × (first_fault rest ≡ None)
none-then None rest h = (refl, h)
none-then (Some f) rest h = absurd (let k : Some f ≡ None = h in cc)

holds-not : {F : Type 0} (b : Bool) (f : F) → fault_if b f ≡ None → b ≡ false
holds-not true f h = absurd (let k : Some f ≡ None = h in cc)
holds-not false f h = refl

-- each part is right
parts-right : (is_right : ℕ → Bool) (at size k n : ℕ) → wrong_place is_right at size k n ≡ None → (j : ℕ) → k ≤ j → j < k + n → is_right j ≡ true
parts-right p at size k zero h j a b = absurd (omega arith)
parts-right p at size k (suc n) h j a b =
    let later = wrong_place p at size (k + 1) n in
    let go : (c : Bool) → p k ≡ c → cond c later (Some (at + size * k)) ≡ None → p j ≡ true = elim [
      | true ↦ λ is k0. elim (eqb_tells j k) [
        | inl t ↦ ap p t.1 ∙ is
        | inr t ↦ let off : j ≢ k = t.1 in parts-right p at size (k + 1) n k0 j (omega arith) (omega arith)
      ]
      | false ↦ λ is k0. absurd (let f : Some (at + size * k) ≡ None = k0 in cc)
    ] in
    go (p k) refl h

-- ---- the parts of a right image

abbrev pub instruments_of : ProductLists → ℕ
instruments_of product = length product.names.instruments

pub record IsRightImage (trading : Trading) (product : ProductLists) (payload : List ℕ) : Type 0 where
  pub head : resting_rows (instruments_of product) ≤ length payload
  pub middle : waiting_rows (instruments_of product) payload ≤ length payload
  pub end : rows_end (instruments_of product) payload ≤ length payload
  pub desk : desk_fault payload ≡ None
  pub lasts : (i : ℕ) → i < instruments_of product → is_right_last product payload i ≡ true
  pub resting : (k : ℕ) → k < resting_count (instruments_of product) payload
      → is_right_resting_row product (number_at payload 8) (orders_at payload (resting_rows (instruments_of product)) k) (row_at payload (resting_rows (instruments_of product)) k) ≡ true
  pub resting_lives : (k : ℕ) → k < resting_count (instruments_of product) payload
      → may_live trading (order_in payload (resting_rows (instruments_of product)) k) ≡ true
  pub few : resting_count (instruments_of product) payload + waiting_count (instruments_of product) payload ≤ product.max_orders
  pub waiting : (k : ℕ) → k < waiting_count (instruments_of product) payload
      → is_right_waiting_row product (number_at payload 8)
      (orders_at payload (resting_rows (instruments_of product)) (resting_count (instruments_of product) payload))
      (orders_at payload (waiting_rows (instruments_of product) payload) k)
      (row_at payload (waiting_rows (instruments_of product) payload) k) ≡ true
  pub waiting_lives : (k : ℕ) → k < waiting_count (instruments_of product) payload
      → may_live trading (order_in payload (waiting_rows (instruments_of product) payload) k) ≡ true
  pub tops : (i : ℕ) → i < instruments_of product
      → has_right_tops product payload (orders_at payload (resting_rows (instruments_of product)) (resting_count (instruments_of product) payload)) i ≡ true

not-less : (a b : ℕ) → nat_lt a b ≡ false → b ≤ a
not-less a b h = grind (arith, nat_tests)

module _ (trading : Trading) (product : ProductLists) (payload : List ℕ) where
  abbrev many : ℕ
  many = instruments_of product

  abbrev rest_count : ℕ
  rest_count = resting_count many payload

  abbrev wait_count : ℕ
  wait_count = waiting_count many payload

  abbrev rest_place : ℕ
  rest_place = resting_rows many

  abbrev wait_place : ℕ
  wait_place = waiting_rows many payload

  abbrev is_right_rest : ℕ → Bool
  is_right_rest k =
      is_right_resting_row product (number_at payload 8) (orders_at payload rest_place k) (row_at payload rest_place k)
      && may_live trading (order_in payload rest_place k)

  abbrev is_right_wait : ℕ → Bool
  is_right_wait k =
      is_right_waiting_row product (number_at payload 8) (orders_at payload rest_place rest_count) (orders_at payload wait_place k) (row_at payload wait_place k)
      && may_live trading (order_in payload wait_place k)

  abbrev is_right_tops : ℕ → Bool
  is_right_tops i = has_right_tops product payload (orders_at payload rest_place rest_count) i

  -- the faults, one after the other
  abbrev wait_fault : List (Option ℕ)
  wait_fault = wrong_place is_right_wait wait_place ROW_BYTES 0 wait_count ∷ []

  abbrev room_fault : Option ℕ
  room_fault = fault_if (nat_lt product.max_orders (rest_count + wait_count)) (waiting_place many payload)

  abbrev rest_fault : Option ℕ
  rest_fault = wrong_place is_right_rest rest_place ROW_BYTES 0 rest_count

  abbrev many_fault : Option ℕ
  many_fault = fault_if (nat_lt product.max_orders rest_count) (resting_place many)

  abbrev last_fault : Option ℕ
  last_fault = wrong_place (is_right_last product payload) DESK_BYTES INSTRUMENT_BYTES 0 many

  abbrev head_fault : Option ℕ
  head_fault = fault_if (nat_lt (length payload) (resting_rows many)) (length payload)

  abbrev middle_fault : Option ℕ
  middle_fault = fault_if (nat_lt (length payload) (waiting_rows many payload)) (length payload)

  abbrev end_fault : Option ℕ
  end_fault = fault_if (nat_lt (length payload) (rows_end many payload)) (length payload)

  abbrev behind_fault : List (Option ℕ)
  behind_fault = fault_if (nat_lt (rows_end many payload) (length payload)) (rows_end many payload) ∷ []

  pub right-image : parts_fault trading product payload ≡ None → tops_fault product payload ≡ None → IsRightImage trading product payload
  right-image h tops =
      let a = none-then (length_fault many payload) (desk_fault payload ∷ last_fault ∷ many_fault ∷ rest_fault ∷ room_fault ∷ wait_fault) h in
      let b = none-then (desk_fault payload) (last_fault ∷ many_fault ∷ rest_fault ∷ room_fault ∷ wait_fault) a.1 in
      let c = none-then last_fault (many_fault ∷ rest_fault ∷ room_fault ∷ wait_fault) b.1 in
      let d = none-then many_fault (rest_fault ∷ room_fault ∷ wait_fault) c.1 in
      let e = none-then rest_fault (room_fault ∷ wait_fault) d.1 in
      let f = none-then room_fault wait_fault e.1 in
      let g = none-then (wrong_place is_right_wait wait_place ROW_BYTES 0 wait_count) [] f.1 in
      let l1 = none-then head_fault (middle_fault ∷ end_fault ∷ behind_fault) a.0 in
      let l2 = none-then middle_fault (end_fault ∷ behind_fault) l1.1 in
      let l3 = none-then end_fault behind_fault l2.1 in
      let rests : (k : ℕ) → k < rest_count → is_right_rest k ≡ true = λ k lt. parts-right is_right_rest rest_place ROW_BYTES 0 rest_count e.0 k (omega arith) (omega (arith, lt)) in
      let waits : (k : ℕ) → k < wait_count → is_right_wait k ≡ true = λ k lt. parts-right is_right_wait wait_place ROW_BYTES 0 wait_count g.0 k (omega arith) (omega (arith, lt)) in
      record {
        head = not-less (length payload) (resting_rows many) (holds-not _ (length payload) l1.0);
        middle = not-less (length payload) (waiting_rows many payload) (holds-not _ (length payload) l2.0);
        end = not-less (length payload) (rows_end many payload) (holds-not _ (length payload) l3.0);
        desk = b.0;
        lasts = λ i lt. parts-right (is_right_last product payload) DESK_BYTES INSTRUMENT_BYTES 0 many c.0 i (omega arith) (omega (arith, lt));
        resting = λ k lt. and-left _ _ (rests k lt);
        resting_lives = λ k lt. and-right _ _ (rests k lt);
        few = not-less product.max_orders (rest_count + wait_count) (holds-not _ (waiting_place many payload) f.0);
        waiting = λ k lt. and-left _ _ (waits k lt);
        waiting_lives = λ k lt. and-right _ _ (waits k lt);
        tops = λ i lt. parts-right is_right_tops DESK_BYTES INSTRUMENT_BYTES 0 many tops i (omega arith) (omega (arith, lt));
      }

-- ---- one order

-- what is asked of each order
pub record IsSoundOrder (product : ProductLists) (o : Order) : Type 0 where
  pub some : 1 ≤ o.number
  pub firm : o.firm < length product.names.firms
  pub instrument : o.instrument < instruments_of product
  pub price : IsInRange o.price
  pub least : 1 ≤ o.quantity
  pub small : o.quantity ≤ MOST_LOTS
  pub whole : o.filled + o.leaves ≡ o.quantity
  pub leaves : 1 ≤ o.leaves
  pub show : o.show ≤ o.quantity

is-less : (a b : ℕ) → nat_lt a b ≡ true → a < b
is-less a b h = grind (arith, nat_tests)

is-most : (a b : ℕ) → nat_le a b ≡ true → a ≤ b
is-most a b h = grind (arith, nat_tests)

in-range : (rule : Option InstrumentRule) (price : Price) → is_price_by rule price ≡ true → IsInRange price
in-range None price h = absurd (true≢false (sym h))
in-range (Some rule) price h = is-most _ _ (and-left _ _ h)

pub sound-order : (product : ProductLists) (given : ℕ) (o : Order) → is_right_order product given o ≡ true → IsSoundOrder product o
sound-order product given o h =
    let a = and-left _ _ h in
    let b = and-left _ _ a in
    let c = and-left _ _ b in
    let d = and-left _ _ c in
    let e = and-left _ _ d in
    let f = and-left _ _ e in
    let g = and-left _ _ f in
    let i = and-left _ _ g in
    record {
      some = is-most _ _ (and-left _ _ i);
      firm = is-less _ _ (and-right _ _ g);
      instrument = is-less _ _ (and-right _ _ f);
      price = in-range _ o.price (and-right _ _ e);
      least = is-most _ _ (and-left _ _ (and-right _ _ d));
      small = is-most _ _ (and-right _ _ (and-right _ _ d));
      whole = (Decides-eqb (o.filled + o.leaves) o.quantity).0 (and-right _ _ c);
      leaves = is-most _ _ (and-right _ _ b);
      show = is-most _ _ (and-right _ _ a);
    }

kind-limit : (kind : Kind) → is_kind kind Limit ≡ true → kind ≡ Limit
kind-limit Limit h = refl
kind-limit Market h = cc
kind-limit StopLimit h = cc

kind-stop : (kind : Kind) → is_kind kind StopLimit ≡ true → kind ≡ StopLimit
kind-stop Limit h = cc
kind-stop Market h = cc
kind-stop StopLimit h = refl

life-rests : (life : Life) → may_rest life ≡ true → (life ≡ Day) ⊎ (life ≡ Gtc)
life-rests Day h = inl refl
life-rests Gtc h = inr refl
life-rests Fak h = cc
life-rests Fok h = cc

price-zero : (p : Price) → is_zero p ≡ true → p ≡ record { 0 = pos 0 }
price-zero p h = let mk : _ → Price = λ z. record { 0 = z } in ap mk ((Decides-int_eq p.0 (pos 0)).0 h)

zero-in-range : (p : Price) → p ≡ record { 0 = pos 0 } → IsInRange p
zero-in-range p h = subst IsInRange (sym h) (omega arith)

module _ (product : ProductLists) (limits : IsRightProduct product) (o : Order) (s : IsSoundOrder product o) where
  pub rest-fit : is_right_resting o ≡ true → IsFitToRest (instruments_of product) o
  rest-fit h =
      let a = and-left _ _ h in
      let b = and-left _ _ a in
      let c = and-left _ _ b in
      record {
        listed = s.instrument;
        firm = omega (arith, s.firm, limits.few_firms);
        kind = kind-limit o.kind (and-left _ _ c);
        life = life-rests o.life (and-right _ _ c);
        no_trigger = price-zero o.trigger (and-right _ _ b);
        no_min = (Decides-eqb o.min 0).0 (and-right _ _ a);
        whole = s.whole;
        some = s.leaves;
        show = s.show;
        small = s.small;
      }

  pub rest-shown : is_right_resting o ≡ true → is_right_shown o ≡ true
  rest-shown h = and-right _ _ h

  pub rest-listed : is_right_resting o ≡ true → IsListedOrder product o
  rest-listed h = record { instrument = s.instrument; firm = s.firm; price = s.price; trigger = zero-in-range o.trigger (price-zero o.trigger (and-right _ _ (and-left _ _ (and-left _ _ h)))) }

  module _ (h : is_right_waiting product o ≡ true) where
    wait-unfilled : o.filled ≡ 0
    wait-unfilled = (Decides-eqb o.filled 0).0 (and-right _ _ (and-left _ _ (and-left _ _ (and-left _ _ h))))

    pub wait-fit : IsFitToWait (instruments_of product) o
    wait-fit =
        let a = and-left _ _ h in
        let d = and-left _ _ (and-left _ _ (and-left _ _ a)) in
        record {
          listed = s.instrument;
          firm = omega (arith, s.firm, limits.few_firms);
          kind = kind-stop o.kind (and-left _ _ (and-left _ _ d));
          unfilled = wait-unfilled;
          no_share = (Decides-eqb o.prorated 0).0 (and-right _ _ a);
          whole = omega (arith, s.whole, wait-unfilled);
          some = s.least;
          show = s.show;
          small = s.small;
        }

    pub wait-hidden : o.shown ≡ 0
    wait-hidden = (Decides-eqb o.shown 0).0 (and-right _ _ (and-left _ _ (and-left _ _ h)))

    pub wait-listed : IsListedOrder product o
    wait-listed =
        let d = and-left _ _ (and-left _ _ (and-left _ _ (and-left _ _ h))) in
        record { instrument = s.instrument; firm = s.firm; price = s.price; trigger = in-range _ o.trigger (and-right _ _ (and-left _ _ d)) }

-- ---- an order beside those before it

all-none : {X : Type 0} (p : X → Bool) (xs : List X) → not (list_any p xs) ≡ true → AllByRecursion (λ x. p x ≡ false) xs
all-none p xs h = none-any p xs (flipped (list_any p xs) h)
  where
    flipped : (b : Bool) → not b ≡ true → b ≡ false
    flipped true h = cc
    flipped false h = refl

all-true : {X : Type 0} (p : X → Bool) (xs : List X) → list_all p xs ≡ true → AllByRecursion (λ x. p x ≡ true) xs
all-true p [] h = tt
all-true p (x ∷ xs) h = (and-left _ _ h, all-true p xs (and-right _ _ h))

-- what holds of some orders holds of each one
at-each : (f : ℕ → Order) (P : Order → Type 0) (k n i : ℕ) → AllByRecursion P (orders_from f k n) → k ≤ i → i < k + n → P (f i)
at-each f P k zero i h a b = absurd (omega arith)
at-each f P k (suc n) i h a b = elim (eqb_tells i k) [
  | inl t ↦ subst (λ (j : ℕ). P (f j)) (sym t.1) h.0
  | inr t ↦ let off : i ≢ k = t.1 in at-each f P (k + 1) n i h.1 (omega arith) (omega arith)
]

before-each : (payload : List ℕ) (first : ℕ) (P : Order → Type 0) (n i : ℕ) → AllByRecursion P (orders_at payload first n) → i < n → P (order_in payload first i)
before-each payload first P n i h lt = at-each (order_in payload first) P 0 n i (subst (AllByRecursion P) (rows-as payload first n) h) (omega arith) (omega (arith, lt))

-- ---- all of it

not-flipped : (b : Bool) → not b ≡ true → b ≡ false
not-flipped true h = cc
not-flipped false h = refl

module _ (trading : Trading) (product : ProductLists) (limits : IsRightProduct product) (payload : List ℕ) (right : IsRightImage trading product payload) where
  abbrev n : ℕ
  n = instruments_of product

  abbrev rest_at : ℕ
  rest_at = resting_rows n

  abbrev wait_at : ℕ
  wait_at = waiting_rows n payload

  abbrev rests : ℕ → Order
  rests k = order_in payload rest_at k

  abbrev waits : ℕ → Order
  waits k = order_in payload wait_at k

  module _ (k : ℕ) (lt : k < resting_count n payload) where
    rest-sound : IsSoundOrder product (rests k)
    rest-sound = sound-order product (number_at payload 8) (rests k) (and-right _ _ (and-left _ _ (and-left _ _ (and-left _ _ (and-left _ _ (right.resting k lt))))))

    rest-right : is_right_resting (rests k) ≡ true
    rest-right = and-right _ _ (and-left _ _ (and-left _ _ (and-left _ _ (right.resting k lt))))

    rest-forms : has_forms (row_at payload rest_at k) ≡ true
    rest-forms = and-left _ _ (and-left _ _ (and-left _ _ (and-left _ _ (and-left _ _ (right.resting k lt)))))

    rest-name : is_new_name (rests k) (orders_at payload rest_at k) ≡ true
    rest-name = and-right _ _ (and-left _ _ (and-left _ _ (right.resting k lt)))

    rest-order : is_in_book_order (rests k) (orders_at payload rest_at k) ≡ true
    rest-order = and-right _ _ (and-left _ _ (right.resting k lt))

  module _ (k : ℕ) (lt : k < waiting_count n payload) where
    wait-sound : IsSoundOrder product (waits k)
    wait-sound = sound-order product (number_at payload 8) (waits k) (and-right _ _ (and-left _ _ (and-left _ _ (and-left _ _ (and-left _ _ (right.waiting k lt))))))

    wait-right : is_right_waiting product (waits k) ≡ true
    wait-right = and-right _ _ (and-left _ _ (and-left _ _ (and-left _ _ (right.waiting k lt))))

    wait-forms : has_forms (row_at payload wait_at k) ≡ true
    wait-forms = and-left _ _ (and-left _ _ (and-left _ _ (and-left _ _ (and-left _ _ (right.waiting k lt)))))

    wait-apart : is_new_name (waits k) (orders_at payload rest_at (resting_count n payload)) ≡ true
    wait-apart = and-right _ _ (and-left _ _ (and-left _ _ (right.waiting k lt)))

    wait-name : is_new_name (waits k) (orders_at payload wait_at k) ≡ true
    wait-name = and-right _ _ (and-left _ _ (right.waiting k lt))

    wait-line : is_in_line (waits k) (orders_at payload wait_at k) ≡ true
    wait-line = and-right _ _ (right.waiting k lt)

  pub resting-right : AreRightResting n rests (resting_count n payload)
  resting-right = record {
    fit = λ k lt. rest-fit product limits (rests k) (rest-sound k lt) (rest-right k lt);
    shown = λ k lt. rest-shown product limits (rests k) (rest-sound k lt) (rest-right k lt);
    named = λ i k a lt. before-each payload rest_at (λ (o : Order). has_same_name (rests k) o ≡ false) k i (all-none (has_same_name (rests k)) (orders_at payload rest_at k) (rest-name k lt)) a;
    ordered = λ i k a lt. not-flipped _ (before-each payload rest_at (λ (o : Order). not (is_before (level_of (rests k)) (level_of o)) ≡ true) k i
        (all-true (λ (b : Order). not (is_before (level_of (rests k)) (level_of b))) (orders_at payload rest_at k) (rest-order k lt)) a);
  }

  pub waiting-right : AreRightWaiting n (map entry_of (orders_from rests 0 (resting_count n payload))) waits (waiting_count n payload)
  waiting-right = record {
    fit = λ k lt. wait-fit product limits (waits k) (wait-sound k lt) (wait-right k lt);
    hidden = λ k lt. wait-hidden product limits (waits k) (wait-sound k lt) (wait-right k lt);
    apart = λ k lt. any-none (is_named (waits k).firm (waits k).id) (map entry_of (orders_from rests 0 (resting_count n payload)))
        (entries-all (λ (o : Order). has_same_name (waits k) o ≡ false) (orders_from rests 0 (resting_count n payload))
        (subst (AllByRecursion (λ (o : Order). has_same_name (waits k) o ≡ false)) (rows-as payload rest_at (resting_count n payload))
        (all-none (has_same_name (waits k)) (orders_at payload rest_at (resting_count n payload)) (wait-apart k lt))));
    named = λ i k a lt. before-each payload wait_at (λ (o : Order). has_same_name (waits k) o ≡ false) k i (all-none (has_same_name (waits k)) (orders_at payload wait_at k) (wait-name k lt)) a;
    lined = λ i k a lt. is-most _ _ (before-each payload wait_at (λ (o : Order). nat_le o.instrument (waits k).instrument ≡ true) k i
        (all-true (λ (b : Order). nat_le b.instrument (waits k).instrument) (orders_at payload wait_at k) (wait-line k lt)) a);
  }
    where
      entries-all : (P : Order → Type 0) (os : List Order) → AllByRecursion P os → AllByRecursion (λ (e : Entry). P e.order) (map entry_of os)
      entries-all P [] h = tt
      entries-all P (o ∷ os) h = (h.0, entries-all P os h.1)

  pub tops-right : AreRightTops payload n (orders_from rests 0 (resting_count n payload))
  tops-right i side lt =
      let os = orders_from rests 0 (resting_count n payload) in
      let both = right.tops i lt in
      record {
        some = all-from rests (λ (o : Order). 1 ≤ o.number) 0 (resting_count n payload) (λ k a b. (rest-sound k (omega (arith, b))).some);
        best = λ off. subst (λ (l : List Order). is_at_best i side (top_at payload i side) l ≡ true) (rows-as payload rest_at (resting_count n payload))
            (best-of (top_at payload i side) (has_top_by (slice_get product.rules i)) (is_at_best i side (top_at payload i side) (orders_at payload rest_at (resting_count n payload))) off (of-side side both));
      }
    where
      best-of : (number : ℕ) (a b : Bool) → number ≢ 0 → ((number == 0) || (a && b)) ≡ true → b ≡ true
      best-of number a b off h = elim (eqb_tells number 0) [
        | inl t ↦ absurd (off t.1)
        | inr t ↦ and-right a b (ap (λ (c : Bool). c || (a && b)) (sym t.0) ∙ h)
      ]

      of-side : (side : Side) → has_right_tops product payload (orders_at payload rest_at (resting_count n payload)) i ≡ true
          → is_right_top product payload (orders_at payload rest_at (resting_count n payload)) i side ≡ true
      of-side Buy h = and-left _ _ h
      of-side Sell h = and-right _ _ h

  pub book-right : IsRightBook product.max_orders n payload
  book-right = record {
    counts = right.middle;
    resting_there = record { room = omega (arith, right.middle); forms = rest-forms };
    waiting_there = record { room = right.end; forms = wait-forms };
    resting = resting-right;
    waiting = waiting-right;
    room = right.few;
    tops = tops-right;
  }

  pub lasts-right : AreRightLasts payload n
  lasts-right = record {
    room = omega (arith, right.head);
    range = λ i lt. last-range i (right.lasts i lt);
  }
    where
      last-range : (i : ℕ) → is_right_last product payload i ≡ true → IfSome (last_at payload i) IsInRange
      last-range i h =
          let at = part_place i in
          let price = price_at payload (at + 1) in
          elim (eqb_tells (byte_at payload at) 1) [
            | inl t ↦
                let p : ((byte_at payload at == 1) && is_price_of product i price) ≡ true = marked (byte_at payload at) (is_price_of product i price) (number_at payload (at + 1) == 0) t.1 h in
                subst (λ (c : Bool). IfSome (if c then Some price else None) IsInRange) (sym t.0) (in-range _ price (and-right _ _ p))
            | inr t ↦ subst (λ (c : Bool). IfSome (if c then Some price else None) IsInRange) (sym t.0) tt
          ]
        where
          marked : (byte : ℕ) (a b : Bool) → byte ≡ 1 → (((byte == 1) && a) || ((byte == 0) && b)) ≡ true → ((byte == 1) && a) ≡ true
          marked byte a b e h =
              let h1 : (((1 == 1) && a) || ((1 == 0) && b)) ≡ true = subst (λ (n : ℕ). (((n == 1) && a) || ((n == 0) && b)) ≡ true) e h in
              subst (λ (n : ℕ). ((n == 1) && a) ≡ true) (sym e) (front a h1)
            where
              front : (a : Bool) → (a || false) ≡ true → a ≡ true
              front true h = refl
              front false h = h

  -- each order is listed
  pub resting-listed : AllByRecursion (λ (o : Order). IsListedOrder product o) (orders_from rests 0 (resting_count n payload))
  resting-listed = all-from rests (λ (o : Order). IsListedOrder product o) 0 (resting_count n payload)
      (λ k a b. rest-listed product limits (rests k) (rest-sound k (omega (arith, b))) (rest-right k (omega (arith, b))))

  pub waiting-listed : AllByRecursion (λ (o : Order). IsListedOrder product o) (orders_from waits 0 (waiting_count n payload))
  waiting-listed = all-from waits (λ (o : Order). IsListedOrder product o) 0 (waiting_count n payload)
      (λ k a b. wait-listed product limits (waits k) (wait-sound k (omega (arith, b))) (wait-right k (omega (arith, b))))

  -- while the market is closed, each order is good till cancelled
  pub resting-lives : AllByRecursion (λ (o : Order). may_live trading o ≡ true) (orders_from rests 0 (resting_count n payload))
  resting-lives = all-from rests (λ (o : Order). may_live trading o ≡ true) 0 (resting_count n payload) (λ k a b. right.resting_lives k (omega (arith, b)))

  pub waiting-lives : AllByRecursion (λ (o : Order). may_live trading o ≡ true) (orders_from waits 0 (waiting_count n payload))
  waiting-lives = all-from waits (λ (o : Order). may_live trading o ≡ true) 0 (waiting_count n payload) (λ k a b. right.waiting_lives k (omega (arith, b)))

-- ---- the counters

-- each of some numbers is within a bound, and a place after them has 0
numbers-within : (payload : List ℕ) (bound at n : ℕ) → ((k : ℕ) → k < n → number_at payload (at + 8 * k) ≤ bound) → (place : ℕ) → slice_index (numbers_at payload at n) place ≤ bound
numbers-within payload bound at zero h place = omega arith
numbers-within payload bound at (suc n) h zero =
    let e : at + 8 * 0 ≡ at = omega arith in
    subst (λ (a : ℕ). number_at payload a ≤ bound) e (h 0 (omega arith))
numbers-within payload bound at (suc n) h (suc place) = numbers-within payload bound (at + 8) n (λ k lt.
    let e : at + 8 * suc k ≡ at + 8 + 8 * k = omega arith in
    subst (λ (a : ℕ). number_at payload a ≤ bound) e (h (suc k) (omega arith))) place

pub counters-right : (payload : List ℕ) → desk_fault payload ≡ None → AreCounters (desk_of_image payload)
counters-right payload h =
    let messages = number_at payload 0 in
    let bound = messages * 2 ^ 38 in
    let is_within : ℕ → Bool = λ k. nat_le (number_at payload (16 + 8 * k)) (messages * 2 ^ 38) in
    let counts_fault : List (Option ℕ) = wrong_place is_within 16 8 0 (ADDRESSEES + 2) ∷ [] in
    let a = none-then (fault_if (nat_le MOST_MESSAGES messages) 0) (fault_if (nat_lt messages (number_at payload 8)) 8 ∷ counts_fault) h in
    let b = none-then (fault_if (nat_lt messages (number_at payload 8)) 8) counts_fault a.1 in
    let c = none-then (wrong_place is_within 16 8 0 (ADDRESSEES + 2)) [] b.1 in
    let each : (k at : ℕ) → k < 67 → 16 + 8 * k ≡ at → number_at payload at ≤ bound = λ k at lt e.
    subst (λ (x : ℕ). number_at payload x ≤ bound) e (is-most (number_at payload (16 + 8 * k)) bound (parts-right is_within 16 8 0 67 c.0 k (omega arith) (omega (arith, lt)))) in
    record {
      orders = not-less messages (number_at payload 8) (holds-not _ 8 b.0);
      messages = fewer messages MOST_MESSAGES (holds-not _ 0 a.0);
      counts = record {
        trades = each 1 24 (omega arith) (omega arith);
        reports = each 0 16 (omega arith) (omega arith);
        lines = numbers-within payload bound 32 ADDRESSEES (λ k lt. each (k + 2) (32 + 8 * k) (omega (arith, lt)) (omega arith));
      };
    }
  where
    fewer : (n m : ℕ) → nat_le m n ≡ false → n ≤ m
    fewer n m h = grind (arith, nat_tests)
