-- The orders of an image in a book: they rest, they wait, and the TOP orders are marked.
use Rattle.std.proofs.Common.{◌≡◌, ℕ, ◌+◌, ◌*◌, ◌≤◌, List, [], ◌∷◌, map, length, refl, sym, ap, subst, ◌∙◌, arith}
use Rattle.gx_base.specs.declared.order.Order.{Order}
use Rattle.plain_book.specs.declared.entry.Entry.{Entry}
use Rattle.plain_book.specs.Orders.{is_live}
use Rattle.plain_book.specs.Book.{Book, IsFitToWait, book_cleared}
use Rattle.plain_book.specs.Numbers.{entry_numbered, numbered, book_numbered}
use Rattle.book_image.specs.Rows.{count_at}
use Rattle.book_image.specs.Faults.{resting_rows, resting_count, waiting_rows, waiting_count, orders_at}
use Rattle.book_image.specs.Reading.{entry_of, with_all_tops}
use Rattle.book_image.specs.Inner.Loading.{order_in, orders_from, orders_of, AreRightWaiting, AreRightTops, NoneTop, HasResting, HasWaiting, IsRightBook}
use Rattle.book_image.proofs.LoadLists.{rows-as, length-from, as-length, as-none-top, orders-numbered, orders-entries, live-numbered}

module _ (payload : List ℕ) (n : ℕ) (old : Book) (right : IsRightBook old.capacity n payload) (empty : book_cleared old ≡ old) (listed : old.instruments ≡ n) where
  abbrev rests : ℕ → Order
  rests k = order_in payload (resting_rows n) k

  -- the orders of the first waiting rows, after so many resting ones
  abbrev waits : ℕ → ℕ → Order
  waits rest k = order_in payload (552 + 25 * n + 4 + 82 * rest + 4) k

  pub none-rest : old.resting ≡ []
  none-rest = sym (ap (λ (b : Book). b.resting) empty)

  pub none-wait : old.waiting ≡ []
  none-wait = sym (ap (λ (b : Book). b.waiting) empty)

  abbrev pub whole : List Entry → List Entry → Book
  whole es ws = record old { resting = es; waiting = ws }

  -- what is known once so many orders rest
  pub record IsPlaced (rest wait : ℕ) (b : Book) : Type 0 where
    pub stops : AreRightWaiting b.instruments b.resting (waits rest) wait
    pub room : length b.resting + wait ≤ b.capacity
    pub none_waits : b.waiting ≡ []

  -- and once so many wait too
  pub record IsLined (rest wait : ℕ) (b : Book) : Type 0 where
    pub tops : AreRightTops payload n (orders_of b.resting)
    pub none_top : NoneTop b.resting
    pub instruments : b.instruments ≡ n
    pub marked : (last : Book) → HasResting b last (with_all_tops payload n (numbered b.resting))
        → book_numbered last ≡ whole (with_all_tops payload n (map entry_of (orders_at payload (resting_rows n) (resting_count n payload)))) (map entry_of (orders_at payload (waiting_rows n payload) (waiting_count n payload)))

  abbrev Placing : ℕ → ℕ → Type 0
  Placing rest wait = (b : Book) → HasResting old b (map entry_of (orders_from rests 0 rest)) → IsPlaced rest wait b

  abbrev Lining : ℕ → ℕ → Type 0
  Lining rest wait = (b c : Book) → HasResting old b (map entry_of (orders_from rests 0 rest)) → HasWaiting b c (map entry_of (orders_from (waits rest) 0 wait)) → IsLined rest wait c

  placed-is : Placing (resting_count n payload) (waiting_count n payload)
  placed-is b h =
      let rest = resting_count n payload in
      let os = orders_from rests 0 rest in
      let es : numbered b.resting ≡ map entry_of os = ap (λ (x : Book). x.resting) h in
      let same : b.instruments ≡ n = ap (λ (x : Book). x.instruments) h ∙ listed in
      let w = right.waiting in
      record {
        stops = record {
          fit = λ k lt. subst (λ (m : ℕ). IsFitToWait m (waits rest k)) (sym same) (w.fit k lt);
          hidden = w.hidden;
          apart = λ k lt. sym (live-numbered (waits rest k).firm (waits rest k).id b.resting) ∙ ap (is_live (waits rest k).firm (waits rest k).id) es ∙ w.apart k lt;
          named = w.named;
          lined = w.lined;
        };
        room = omega (arith, as-length b.resting os es, length-from rests 0 rest, ap (λ (x : Book). x.capacity) h, right.room);
        none_waits = no-entries b.waiting (ap (λ (x : Book). x.waiting) h ∙ ap numbered none-wait);
      }
    where
      no-entries : (es : List Entry) → numbered es ≡ [] → es ≡ []
      no-entries [] h = refl
      no-entries (e ∷ es) h = absurd (let k : entry_numbered e ∷ numbered es ≡ [] = h in cc)

  lined-is : Lining (resting_count n payload) (waiting_count n payload)
  lined-is b c h k =
      let rest = resting_count n payload in
      let wait = waiting_count n payload in
      let os = orders_from rests 0 rest in
      let ws = orders_from (waits rest) 0 wait in
      let with_waiting : Book → Book = λ (x : Book). record x { waiting = map entry_of ws } in
      let both : book_numbered c ≡ record (record (book_numbered old) { resting = map entry_of os }) { waiting = map entry_of ws } = k ∙ ap with_waiting h in
      let es : numbered c.resting ≡ map entry_of os = ap (λ (x : Book). x.resting) both in
      let orders : orders_of c.resting ≡ os = sym (orders-numbered c.resting) ∙ ap orders_of es ∙ orders-entries os in
      record {
        tops = subst (AreRightTops payload n) (sym orders) right.tops;
        none_top = as-none-top c.resting os es;
        instruments = ap (λ (x : Book). x.instruments) both ∙ listed;
        marked = λ last m.
            let with_resting : List Entry → Book → Book = λ l (x : Book). record x { resting = l } in
            let marks = with_all_tops payload n in
            m
            ∙ ap (with_resting (marks (numbered c.resting))) both
            ∙ ap (λ (l : List Entry). whole (marks l) (map entry_of ws)) es
            ∙ ap (λ (l : List Order). whole (marks (map entry_of l)) (map entry_of ws)) (sym (rows-as payload (resting_rows n) rest))
            ∙ ap (λ (l : List Order). whole (marks (map entry_of (orders_at payload (resting_rows n) rest))) (map entry_of l)) (sym (rows-as payload (waiting_rows n payload) wait));
      }

  module _ (rest wait : ℕ) (rest-is : rest ≡ resting_count n payload) (wait-is : wait ≡ count_at payload (552 + 25 * n + 4 + 82 * rest)) where
    counts : wait ≡ waiting_count n payload
    counts = wait-is ∙ ap (λ (r : ℕ). count_at payload (552 + 25 * n + 4 + 82 * r)) rest-is

    pub placed-as : Placing rest wait
    placed-as = subst (λ (r : ℕ). Placing r wait) (sym rest-is) (subst (Placing (resting_count n payload)) (sym counts) placed-is)

    pub lined-as : Lining rest wait
    lined-as = subst (λ (r : ℕ). Lining r wait) (sym rest-is) (subst (Lining (resting_count n payload)) (sym counts) lined-is)
