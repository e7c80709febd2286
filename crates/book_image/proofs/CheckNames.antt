-- The names of the rows that were looked at, and the stops that a book has for them.
use Rattle.std.proofs.Common.{◌≡◌, ℕ, zero, suc, ◌+◌, Bool, true, false, ◌&&◌, ◌||◌, List, [], ◌∷◌, ◌++◌, length, refl, ap, sym, subst, ◌∙◌, arith, add-one}
use Rattle.std.specs.Prelude.{◌==◌, bytes_eq}
use Rattle.std.specs.List.{list_any}
use Rattle.std.proofs.lemmas.List.Folds.{list_any-append}
use Rattle.gx_base.specs.declared.order.Order.{Order}
use Rattle.plain_book.specs.declared.entry.Entry.{Entry}
use Rattle.plain_book.specs.Orders.{is_live, is_named}
use Rattle.plain_book.specs.Book.{Book, IsRight, live_orders, book_waited}
use Rattle.plain_book.proofs.Sorted.{IsInserted, inserted-length}
use Rattle.plain_book.proofs.Right.{live-lined}
use Rattle.book_image.specs.declared.format.TheConstants.{ROW_BYTES}
use Rattle.book_image.specs.Rows.{bytes_at, order_of_row, row_at}
use Rattle.book_image.specs.Rules.{has_same_name}
use Rattle.book_image.specs.Faults.{orders_at}
use Rattle.book_image.specs.Inner.Checking.{HasNames, TakesName, stop_named}

-- ---- one more order

or_swap : (a b c : Bool) → (a || (b || c)) ≡ ((a || c) || b)
or_swap true b c = refl
or_swap false true true = refl
or_swap false true false = refl
or_swap false false true = refl
or_swap false false false = refl

any-inserted : (p : Entry → Bool) (n : Entry) (front back : List Entry) → list_any p (front ++ n ∷ back) ≡ (list_any p (front ++ back) || p n)
any-inserted p n front back =
    list_any-append p front (n ∷ back)
    ∙ or_swap (list_any p front) (p n) (list_any p back)
    ∙ ap (λ (b : Bool). b || p n) (sym (list_any-append p front back))

-- the stop of a name is in the book then
pub taken : (slot firm : ℕ) (id : List ℕ) (old new : Book) → IsRight old → new ≡ book_waited slot (stop_named firm id) old
    → TakesName firm id old new
taken slot firm id old new right is =
    let n : Entry = record { slot = slot; order = stop_named firm id; is_top = false } in
    let r : IsInserted n (live_orders old) (live_orders new) = subst (λ (b : Book). IsInserted n (live_orders old) (live_orders b)) (sym is) (live-lined old n right.lined) in
    record {
      names = λ f i.
          ap (list_any (is_named f i)) r.is
          ∙ any-inserted (is_named f i) n r.front r.back
          ∙ ap (λ (es : List Entry). is_live f i es || ((firm == f) && bytes_eq id i)) (sym r.whole);
      count = let l : length (live_orders new) ≡ suc (length (live_orders old)) = inserted-length r in omega (arith, l);
    }

or_none : (b : Bool) → (b || false) ≡ b
or_none true = refl
or_none false = refl

-- the names of some orders, and of one more
pub names-next : (o : Order) (orders : List Order) (old new : Book) → HasNames old orders → TakesName o.firm o.id old new
    → HasNames new (orders ++ o ∷ [])
names-next o orders old new h t x =
    t.names x.firm x.id
    ∙ ap (λ (b : Bool). b || has_same_name x o) (h x)
    ∙ ap (λ (b : Bool). list_any (has_same_name x) orders || b) (sym (or_none (has_same_name x o)))
    ∙ sym (list_any-append (has_same_name x) orders (o ∷ []))

-- ---- the orders of the first rows

orders-last : (payload : List ℕ) (k at : ℕ) → orders_at payload at (suc k) ≡ orders_at payload at k ++ order_of_row (row_at payload at k) ∷ []
orders-last payload zero at = ap (λ (q : ℕ). order_of_row (bytes_at payload q ROW_BYTES) ∷ []) (omega arith)
orders-last payload (suc k) at =
    ap (λ (os : List Order). order_of_row (bytes_at payload at ROW_BYTES) ∷ os)
    (orders-last payload k (at + ROW_BYTES)
    ∙ ap (λ (q : ℕ). orders_at payload (at + ROW_BYTES) k ++ order_of_row (bytes_at payload q ROW_BYTES) ∷ []) (omega arith))

-- and of one row more
pub orders-next : (payload : List ℕ) (first k : ℕ)
    → orders_at payload first (k + 1) ≡ orders_at payload first k ++ order_of_row (row_at payload first k) ∷ []
orders-next payload first k = ap (orders_at payload first) (add-one k) ∙ orders-last payload k first
