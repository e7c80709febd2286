-- A core that has the counters, the last trade prices and the orders of a right image.
use Rattle.std.proofs.Common.{◌≡◌, ℕ, true, List, [], ◌∷◌, map, length, Option, None, sym, ap, subst, ◌∙◌}
use Rattle.std.proofs.lemmas.List.{length-replicate}
use Rattle.std.specs.List.{AllByRecursion}
use Rattle.gx_base.specs.declared.price.Price.{Price}
use Rattle.gx_base.specs.declared.order.Order.{Order}
use Rattle.gx_base.specs.declared.order.Desk.{Desk}
use Rattle.gx_base.specs.declared.trading.Trading.{Trading}
use Rattle.gx_base.specs.declared.trading.Trading.TheVariants.{Closed}
use Rattle.product_file.specs.Products.{ProductLists, IsRightProduct}
use Rattle.plain_book.specs.declared.entry.Entry.{Entry}
use Rattle.plain_book.specs.Book.{Book, empty_book, live_orders}
use Rattle.plain_book.specs.Numbers.{book_numbered}
use Rattle.plain_book.proofs.Pairs.{all-append}
use Rattle.order_kinds.specs.State.{State, empty_state, state_numbered}
use Rattle.order_kinds.specs.Cores.{FitsProduct, IsListedOrder}
use Rattle.order_kinds.specs.TradingSessions.{AreUntilCancelled}
use Rattle.book_image.specs.Rules.{may_live}
use Rattle.book_image.specs.Faults.{resting_rows, resting_count, waiting_rows, waiting_count, orders_at}
use Rattle.book_image.specs.Reading.{entry_of, with_all_tops, lasts_at, desk_of_image, state_of_part}
use Rattle.book_image.specs.Inner.Loading.{orders_of}
use Rattle.book_image.proofs.LoadLists.{rows-as, orders-numbered, orders-entries}
use Rattle.book_image.proofs.LoadTops.{all-tops-orders}
use Rattle.book_image.proofs.LoadParts.{lasts-length}
use Rattle.book_image.proofs.LoadFaults.{IsRightImage, resting-listed, waiting-listed, resting-lives, waiting-lives}

abbrev instruments_in : ProductLists → ℕ
instruments_in product = length product.names.instruments

-- a core before its orders are brought into its book
module _ (product : ProductLists) (old restored lasted : State) (new : old ≡ empty_state product) (desk : Desk) (restore : restored ≡ record old { desk = desk }) where
  pub restored-lasts : length restored.last ≡ instruments_in product
  restored-lasts = ap (λ (s : State). length s.last) (restore ∙ ap (λ (s : State). record s { desk = desk }) new) ∙ length-replicate {A = Option Price} (instruments_in product) None

  module _ (n : ℕ) (n-is : n ≡ instruments_in product) (payload : List ℕ) (last : lasted ≡ record restored { last = lasts_at payload 0 n }) where
    pub book-is : lasted.book ≡ empty_book product.max_orders (instruments_in product)
    book-is = ap (λ (s : State). s.book) last ∙ ap (λ (s : State). s.book) restore ∙ ap (λ (s : State). s.book) new

    lasts-are : lasted.last ≡ lasts_at payload 0 (instruments_in product)
    lasts-are = ap (λ (s : State). s.last) last ∙ ap (lasts_at payload 0) n-is

    desk-is : lasted.desk ≡ desk
    desk-is = ap (λ (s : State). s.desk) last ∙ ap (λ (s : State). s.desk) restore

    -- a book with the orders of the image
    abbrev pub IsImageBook : Book → Book → Type 0
    IsImageBook before after =
        book_numbered after ≡ record before {
          resting = with_all_tops payload n (map entry_of (orders_at payload (resting_rows n) (resting_count n payload)));
          waiting = map entry_of (orders_at payload (waiting_rows n payload) (waiting_count n payload));
        }

    module _ (before after : Book) (lent : before ≡ lasted.book) (brought : IsImageBook before after) (desk-of : desk ≡ desk_of_image payload) where
      abbrev whole : ℕ → Book → Book
      whole m b = record b {
        resting = with_all_tops payload m (map entry_of (orders_at payload (resting_rows m) (resting_count m payload)));
        waiting = map entry_of (orders_at payload (waiting_rows m payload) (waiting_count m payload));
      }

      book-of : book_numbered after ≡ whole (instruments_in product) (empty_book product.max_orders (instruments_in product))
      book-of = brought ∙ ap (whole n) (lent ∙ book-is) ∙ ap (λ (m : ℕ). whole m (empty_book product.max_orders (instruments_in product))) n-is

      -- what holds of the orders of the rows holds of the live orders
      all-live : (P : Order → Type 0) → AllByRecursion P (orders_at payload (resting_rows (instruments_in product)) (resting_count (instruments_in product) payload))
          → AllByRecursion P (orders_at payload (waiting_rows (instruments_in product) payload) (waiting_count (instruments_in product) payload))
          → AllByRecursion (λ (e : Entry). P e.order) (live_orders after)
      all-live P rest wait =
          let m = instruments_in product in
          let os = orders_at payload (resting_rows m) (resting_count m payload) in
          let ws = orders_at payload (waiting_rows m payload) (waiting_count m payload) in
          let rests : orders_of after.resting ≡ os =
          sym (orders-numbered after.resting) ∙ ap (λ (b : Book). orders_of b.resting) book-of ∙ all-tops-orders payload m (map entry_of os) ∙ orders-entries os in
          let waits : orders_of after.waiting ≡ ws =
          sym (orders-numbered after.waiting) ∙ ap (λ (b : Book). orders_of b.waiting) book-of ∙ orders-entries ws in
          all-append (λ (e : Entry). P e.order) after.resting after.waiting
          (each P after.resting (subst (AllByRecursion P) (sym rests) rest))
          (each P after.waiting (subst (AllByRecursion P) (sym waits) wait))
        where
          each : (P : Order → Type 0) (es : List Entry) → AllByRecursion P (orders_of es) → AllByRecursion (λ (e : Entry). P e.order) es
          each P [] h = tt
          each P (e ∷ es) h = (h.0, each P es h.1)

      module _ (trading : Trading) where
        made : Book → List (Option Price) → Desk → State
        made b l d = record { book = b; last = l; desk = d; trading = trading }

        -- the core with its session
        module _ (done : State) (set : done ≡ record { book = after; last = lasted.last; desk = lasted.desk; trading = trading }) where
          pub state-of : state_numbered done ≡ state_of_part trading product payload
          unfolding made
          state-of =
              ap state_numbered set
              ∙ ap (λ (b : Book). made b lasted.last lasted.desk) book-of
              ∙ ap (λ (l : List (Option Price)). made (whole (instruments_in product) (empty_book product.max_orders (instruments_in product))) l lasted.desk) lasts-are
              ∙ ap (made (whole (instruments_in product) (empty_book product.max_orders (instruments_in product))) (lasts_at payload 0 (instruments_in product))) (desk-is ∙ desk-of)

        module _ (limits : IsRightProduct product) (right : IsRightImage trading product payload) where
          pub lives-of : trading ≡ Closed → AreUntilCancelled (live_orders after)
          lives-of closed =
              let m = instruments_in product in
              let Lives : Trading → Order → Type 0 = λ t o. may_live t o ≡ true in
              all-live (Lives Closed)
              (subst (λ (t : Trading). AllByRecursion (Lives t) (orders_at payload (resting_rows m) (resting_count m payload))) closed
              (subst (AllByRecursion (Lives trading)) (sym (rows-as payload (resting_rows m) (resting_count m payload))) (resting-lives trading product limits payload right)))
              (subst (λ (t : Trading). AllByRecursion (Lives t) (orders_at payload (waiting_rows m payload) (waiting_count m payload))) closed
              (subst (AllByRecursion (Lives trading)) (sym (rows-as payload (waiting_rows m payload) (waiting_count m payload))) (waiting-lives trading product limits payload right)))

          pub fits-of : (done : State) → done ≡ record { book = after; last = lasted.last; desk = lasted.desk; trading = trading } → FitsProduct product done
          fits-of done set =
              let m = instruments_in product in
              let P = λ (o : Order). IsListedOrder product o in
              subst (FitsProduct product) (sym set)
              record {
                capacity = ap (λ (b : Book). b.capacity) book-of;
                instruments = ap (λ (b : Book). b.instruments) book-of;
                prices = ap (λ (l : List (Option Price)). length l) lasts-are ∙ lasts-length payload 0 m;
                orders = all-live P
                    (subst (AllByRecursion P) (sym (rows-as payload (resting_rows m) (resting_count m payload))) (resting-listed trading product limits payload right))
                    (subst (AllByRecursion P) (sym (rows-as payload (waiting_rows m payload) (waiting_count m payload))) (waiting-listed trading product limits payload right));
              }
