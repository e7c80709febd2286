-- Lists of the orders of rows, and the same orders in a book, each by its number.
use Rattle.std.proofs.Common.{◌≡◌, ℕ, ◌+◌, ◌*◌, ◌<◌, ◌≤◌, Bool, true, false, cond, not, ◌||◌, List, [], ◌∷◌, ◌++◌, map, filter, length, refl, sym, ap, subst, ◌∙◌, arith}
use Prim.Native.Nat.{zero, suc}
use Rattle.std.proofs.lemmas.List.{map-append}
use Rattle.std.specs.List.{AllByRecursion}
use Rattle.gx_base.specs.declared.order.Order.{Order}
use Rattle.plain_book.specs.declared.entry.Entry.{Entry}
use Rattle.plain_book.specs.Orders.{is_live, is_named, is_at_earlier_level, is_of_earlier_instrument, placed, lined_up}
use Rattle.plain_book.specs.Numbers.{entry_numbered, numbered}
use Rattle.book_image.specs.Rows.{order_of_row, bytes_at}
use Rattle.book_image.specs.Faults.{orders_at}
use Rattle.book_image.specs.Reading.{entry_of}
use Rattle.book_image.specs.Inner.Loading.{order_in, orders_from, orders_of, NoneTop}

-- ---- orders from one on

module _ (payload : List ℕ) (first : ℕ) where
  rows-from : (k at n : ℕ) → at ≡ first + 82 * k → orders_at payload at n ≡ orders_from (order_in payload first) k n
  rows-from k at zero e = refl
  rows-from k at (suc n) e =
      ap (λ (a : ℕ). order_of_row (bytes_at payload a 82) ∷ orders_at payload (at + 82) n) e
      ∙ ap (λ (os : List Order). order_in payload first k ∷ os) (rows-from (k + 1) (at + 82) n (omega (arith, e)))

  -- the orders of the first rows
  pub rows-as : (n : ℕ) → orders_at payload first n ≡ orders_from (order_in payload first) 0 n
  rows-as n = rows-from 0 first n (omega arith)

module _ (f : ℕ → Order) where
  pub from-append : (k m n : ℕ) → orders_from f k (m + n) ≡ orders_from f k m ++ orders_from f (k + m) n
  from-append k zero n =
      let e : k + 0 ≡ k = omega arith in
      let z : 0 + n ≡ n = omega arith in
      ap (orders_from f k) z ∙ ap (λ (a : ℕ). orders_from f a n) (sym e)
  from-append k (suc m) n =
      let e : k + 1 + m ≡ k + suc m = omega arith in
      let z : suc m + n ≡ suc (m + n) = omega arith in
      ap (orders_from f k) z
      ∙ ap (λ (os : List Order). f k ∷ os) (from-append (k + 1) m n)
      ∙ ap (λ (a : ℕ). f k ∷ (orders_from f (k + 1) m ++ orders_from f a n)) e

  -- with one more at the end
  pub from-last : (k n : ℕ) → orders_from f k (n + 1) ≡ orders_from f k n ++ f (k + n) ∷ []
  from-last k n = from-append k n 1

  pub length-from : (k n : ℕ) → length (orders_from f k n) ≡ n
  length-from k zero = refl
  length-from k (suc n) = ap suc (length-from (k + 1) n)

  pub all-from : (P : Order → Type 0) (k n : ℕ) → ((i : ℕ) → k ≤ i → i < k + n → P (f i)) → AllByRecursion P (orders_from f k n)
  all-from P k zero h = tt
  all-from P k (suc n) h = (h k (omega arith) (omega arith), all-from P (k + 1) n (λ i a b. h i (omega arith) (omega arith)))

-- ---- orders by their numbers

-- what holds of some orders holds of the orders of a book that they are
pub as-orders : (P : Order → Type 0) (es : List Entry) (os : List Order) → numbered es ≡ map entry_of os → AllByRecursion P os → AllByRecursion (λ (e : Entry). P e.order) es
as-orders P [] os h a = tt
as-orders P (e ∷ es) [] h a = absurd (let k : entry_numbered e ∷ numbered es ≡ [] = h in cc)
as-orders P (e ∷ es) (o ∷ os) h a =
    let k : entry_numbered e ∷ numbered es ≡ entry_of o ∷ map entry_of os = h in
    let head : entry_numbered e ≡ entry_of o = cc in
    let tail : numbered es ≡ map entry_of os = cc in
    let same : e.order ≡ o = ap (λ (x : Entry). x.order) head in
    (subst P (sym same) a.0, as-orders P es os tail a.1)

pub as-none-top : (es : List Entry) (os : List Order) → numbered es ≡ map entry_of os → NoneTop es
as-none-top [] os h = tt
as-none-top (e ∷ es) [] h = absurd (let k : entry_numbered e ∷ numbered es ≡ [] = h in cc)
as-none-top (e ∷ es) (o ∷ os) h =
    let k : entry_numbered e ∷ numbered es ≡ entry_of o ∷ map entry_of os = h in
    let head : entry_numbered e ≡ entry_of o = cc in
    let tail : numbered es ≡ map entry_of os = cc in
    (ap (λ (x : Entry). x.is_top) head, as-none-top es os tail)

pub numbered-length : (es : List Entry) → length (numbered es) ≡ length es
numbered-length [] = refl
numbered-length (e ∷ es) = ap suc (numbered-length es)

entries-length : (os : List Order) → length (map entry_of os) ≡ length os
entries-length [] = refl
entries-length (o ∷ os) = ap suc (entries-length os)

pub as-length : (es : List Entry) (os : List Order) → numbered es ≡ map entry_of os → length es ≡ length os
as-length es os h = sym (numbered-length es) ∙ ap (λ (l : List Entry). length l) h ∙ entries-length os

pub orders-numbered : (es : List Entry) → orders_of (numbered es) ≡ orders_of es
orders-numbered [] = refl
orders-numbered (e ∷ es) = ap (λ (os : List Order). e.order ∷ os) (orders-numbered es)

pub orders-entries : (os : List Order) → orders_of (map entry_of os) ≡ os
orders-entries [] = refl
orders-entries (o ∷ os) = ap (λ (l : List Order). o ∷ l) (orders-entries os)

pub live-numbered : (firm : ℕ) (id : List ℕ) (es : List Entry) → is_live firm id (numbered es) ≡ is_live firm id es
live-numbered firm id [] = refl
live-numbered firm id (e ∷ es) = ap (λ (b : Bool). is_named firm id e || b) (live-numbered firm id es)

-- ---- filters

pub filter-numbered : (p : Entry → Bool) → ((e : Entry) → p (entry_numbered e) ≡ p e) → (es : List Entry) → filter p (numbered es) ≡ numbered (filter p es)
filter-numbered p h [] = refl
filter-numbered p h (e ∷ es) =
    let go : (b : Bool) → cond b (entry_numbered e ∷ filter p (numbered es)) (filter p (numbered es)) ≡ numbered (cond b (e ∷ filter p es) (filter p es)) = elim [
      | true ↦ ap (λ (l : List Entry). entry_numbered e ∷ l) (filter-numbered p h es)
      | false ↦ filter-numbered p h es
    ] in
    ap (λ (b : Bool). cond b (entry_numbered e ∷ filter p (numbered es)) (filter p (numbered es))) (h e) ∙ go (p e)

module _ {X : Type 0} (p : X → Bool) where
  pub filter-every : (xs : List X) → AllByRecursion (λ x. p x ≡ true) xs → filter p xs ≡ xs
  filter-every [] h = refl
  filter-every (x ∷ xs) h = ap (λ (b : Bool). cond b (x ∷ filter p xs) (filter p xs)) h.0 ∙ ap (λ (l : List X). x ∷ l) (filter-every xs h.1)

  pub filter-none : (xs : List X) → AllByRecursion (λ x. p x ≡ false) xs → filter p xs ≡ []
  filter-none [] h = refl
  filter-none (x ∷ xs) h = ap (λ (b : Bool). cond b (x ∷ filter p xs) (filter p xs)) h.0 ∙ filter-none xs h.1

  pub filter-not-every : (xs : List X) → AllByRecursion (λ x. p x ≡ false) xs → filter (λ x. not (p x)) xs ≡ xs
  filter-not-every [] h = refl
  filter-not-every (x ∷ xs) h =
      ap (λ (b : Bool). cond (not b) (x ∷ filter (λ x. not (p x)) xs) (filter (λ x. not (p x)) xs)) h.0 ∙ ap (λ (l : List X). x ∷ l) (filter-not-every xs h.1)

  pub filter-not-none : (xs : List X) → AllByRecursion (λ x. p x ≡ true) xs → filter (λ x. not (p x)) xs ≡ []
  filter-not-none [] h = refl
  filter-not-none (x ∷ xs) h = ap (λ (b : Bool). cond (not b) (x ∷ filter (λ x. not (p x)) xs) (filter (λ x. not (p x)) xs)) h.0 ∙ filter-not-none xs h.1

  -- where what stands before does not pass and what stands after does, an entry is put in between
  pub put-between : (n : X) (xs ys : List X) → AllByRecursion (λ x. p x ≡ false) xs → AllByRecursion (λ x. p x ≡ true) ys
      → filter (λ x. not (p x)) (xs ++ ys) ++ n ∷ filter p (xs ++ ys) ≡ xs ++ n ∷ ys
  put-between n [] ys h k = ap (λ (l : List X). l ++ n ∷ filter p ys) (filter-not-none ys k) ∙ ap (λ (l : List X). n ∷ l) (filter-every ys k)
  put-between n (x ∷ xs) ys h k =
      let F = filter (λ x. not (p x)) (xs ++ ys) in
      let G = filter p (xs ++ ys) in
      ap (λ (b : Bool). cond (not b) (x ∷ F) F ++ n ∷ cond b (x ∷ G) G) h.0 ∙ ap (λ (l : List X). x ∷ l) (put-between n xs ys h.1 k)

-- ---- an entry is put in

pub placed-numbered : (n : Entry) (es : List Entry) → numbered (placed n es) ≡ placed (entry_numbered n) (numbered es)
placed-numbered n es =
    map-append entry_numbered (filter (λ e. not (is_at_earlier_level n e)) es) (n ∷ filter (is_at_earlier_level n) es)
    ∙ ap (λ (l : List Entry). numbered (filter (λ e. not (is_at_earlier_level n e)) es) ++ entry_numbered n ∷ l) (sym (filter-numbered (is_at_earlier_level n) (λ e. refl) es))
    ∙ ap (λ (l : List Entry). l ++ entry_numbered n ∷ filter (is_at_earlier_level n) (numbered es)) (sym (filter-numbered (λ e. not (is_at_earlier_level n e)) (λ e. refl) es))

-- a stop of no earlier instrument than the others waits after them
pub lined-last : (n : Entry) (es : List Entry) → AllByRecursion (λ (e : Entry). is_of_earlier_instrument n e ≡ false) es → numbered (lined_up n es) ≡ numbered es ++ entry_numbered n ∷ []
lined-last n es h =
    ap (λ (l : List Entry). numbered (l ++ n ∷ filter (is_of_earlier_instrument n) es)) (filter-not-every (is_of_earlier_instrument n) es h)
    ∙ ap (λ (l : List Entry). numbered (es ++ n ∷ l)) (filter-none (is_of_earlier_instrument n) es h)
    ∙ map-append entry_numbered es (n ∷ [])
