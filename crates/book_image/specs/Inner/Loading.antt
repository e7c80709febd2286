-- What is known of the rows of a right image while its orders are brought into a book.
use Rattle.std.specs.Prelude.{◌≡◌, ◌≢◌, ℕ, zero, suc, ◌+◌, ◌-◌, ◌*◌, ◌<◌, ◌≤◌, Bool, true, false, ◌==◌, List, [], ◌∷◌, map, length, IfSome}
use Rattle.std.specs.List.{AllByRecursion}
use Rattle.gx_base.specs.declared.order.Side.{Side}
use Rattle.gx_base.specs.declared.order.Order.{Order}
use Rattle.plain_book.specs.declared.entry.Entry.{Entry}
use Rattle.plain_book.specs.Orders.{level_of, is_before, is_level, is_live, is_on}
use Rattle.plain_book.specs.Book.{Book, IsFitToRest, IsFitToWait}
use Rattle.plain_book.specs.Numbers.{book_numbered}
use Rattle.order_kinds.specs.Cores.{IsInRange}
use Rattle.book_image.specs.declared.format.TheConstants.{ROW_BYTES}
use Rattle.book_image.specs.Rows.{order_of_row, row_at, has_forms}
use Rattle.book_image.specs.Rules.{has_same_name, is_right_shown}
use Rattle.book_image.specs.Reading.{entry_of, last_at}
use Rattle.book_image.specs.Faults.{part_place, top_at, is_at_best, resting_rows, resting_count, waiting_rows, waiting_count}

-- ---- rows

-- the order of a row
abbrev pub order_in : List ℕ → ℕ → ℕ → Order
order_in payload first k = order_of_row (row_at payload first k)

-- so many of some orders, from one of them on
abbrev pub orders_from : (ℕ → Order) → ℕ → ℕ → List Order
orders_from f k zero = []
orders_from f k (suc n) = f k ∷ orders_from f (k + 1) n

-- so many rows stand in the payload, each in the form of one
pub record AreRows (payload : List ℕ) (first count : ℕ) : Type 0 where
  pub room : first + ROW_BYTES * count ≤ length payload
  pub forms : (k : ℕ) → k < count → has_forms (row_at payload first k) ≡ true

-- the first of some orders that can come to rest in their order
pub record AreRightResting (instruments : ℕ) (f : ℕ → Order) (count : ℕ) : Type 0 where
  pub fit : (k : ℕ) → k < count → IsFitToRest instruments (f k)
  pub shown : (k : ℕ) → k < count → is_right_shown (f k) ≡ true
  pub named : (i k : ℕ) → i < k → k < count → has_same_name (f k) (f i) ≡ false
  pub ordered : (i k : ℕ) → i < k → k < count → is_before (level_of (f k)) (level_of (f i)) ≡ false

-- those that can come to wait in their order, beside these resting ones
pub record AreRightWaiting (instruments : ℕ) (resting : List Entry) (f : ℕ → Order) (count : ℕ) : Type 0 where
  pub fit : (k : ℕ) → k < count → IsFitToWait instruments (f k)
  pub hidden : (k : ℕ) → k < count → (f k).shown ≡ 0
  pub apart : (k : ℕ) → k < count → is_live (f k).firm (f k).id resting ≡ false
  pub named : (i k : ℕ) → i < k → k < count → has_same_name (f k) (f i) ≡ false
  pub lined : (i k : ℕ) → i < k → k < count → (f i).instrument ≤ (f k).instrument

-- ---- levels

-- the orders before an end stand at levels before those of the orders after it
abbrev pub IsLevelEnd : (ℕ → Order) → ℕ → ℕ → Type 0
IsLevelEnd f end count = (i k : ℕ) → i < end → end ≤ k → k < count → is_before (level_of (f i)) (level_of (f k)) ≡ true

-- the orders from a start on stand at the level of the last one before an end, and the one before them does not
pub record IsLevelStart (f : ℕ → Order) (start end : ℕ) : Type 0 where
  pub before : start < end
  pub same : (k : ℕ) → start ≤ k → k < end → level_of (f k) ≡ level_of (f (end - 1))
  pub other : 1 ≤ start → is_level (level_of (f (start - 1))) (level_of (f (end - 1))) ≡ false

-- ---- books

-- with each order by its number, a book has these resting orders, and the rest of it is that of the other book
abbrev pub HasResting : Book → Book → List Entry → Type 0
HasResting old new es = book_numbered new ≡ record (book_numbered old) { resting = es }

abbrev pub HasWaiting : Book → Book → List Entry → Type 0
HasWaiting old new es = book_numbered new ≡ record (book_numbered old) { waiting = es }

-- no order is TOP
abbrev pub NoneTop : List Entry → Type 0
NoneTop es = AllByRecursion (λ (e : Entry). e.is_top ≡ false) es

-- no order of a side is TOP
abbrev pub NoneTopOn : ℕ → Side → List Entry → Type 0
NoneTopOn instrument side es = AllByRecursion (λ (e : Entry). is_on instrument side e ≡ true → e.is_top ≡ false) es

abbrev pub has_number : ℕ → Entry → Bool
has_number number e = e.order.number == number

abbrev pub orders_of : List Entry → List Order
orders_of es = map (λ (e : Entry). e.order) es

-- each order has a number, and where this number is not 0, an order at the best price of the side has it
pub record IsRightTop (instrument : ℕ) (side : Side) (number : ℕ) (os : List Order) : Type 0 where
  pub some : AllByRecursion (λ (o : Order). 1 ≤ o.number) os
  pub best : number ≢ 0 → is_at_best instrument side number os ≡ true

-- the same of the TOP orders of so many instruments
abbrev pub AreRightTops : List ℕ → ℕ → List Order → Type 0
AreRightTops payload instruments os = (i : ℕ) (side : Side) → i < instruments → IsRightTop i side (top_at payload i side) os

-- ---- last trade prices

-- each of the parts of so many instruments stands in the payload, and has a price in range or none
pub record AreRightLasts (payload : List ℕ) (instruments : ℕ) : Type 0 where
  pub room : part_place instruments ≤ length payload
  pub range : (i : ℕ) → i < instruments → IfSome (last_at payload i) IsInRange

-- ---- the book of an image

-- the two lists of orders of an image can be brought into a book, one after the other, and then its TOP orders
pub record IsRightBook (capacity instruments : ℕ) (payload : List ℕ) : Type 0 where
  pub counts : waiting_rows instruments payload ≤ length payload
  pub resting_there : AreRows payload (resting_rows instruments) (resting_count instruments payload)
  pub waiting_there : AreRows payload (waiting_rows instruments payload) (waiting_count instruments payload)
  pub resting : AreRightResting instruments (order_in payload (resting_rows instruments)) (resting_count instruments payload)
  pub waiting : AreRightWaiting instruments (map entry_of (orders_from (order_in payload (resting_rows instruments)) 0 (resting_count instruments payload))) (order_in payload (waiting_rows instruments payload)) (waiting_count instruments payload)
  pub room : resting_count instruments payload + waiting_count instruments payload ≤ capacity
  pub tops : AreRightTops payload instruments (orders_from (order_in payload (resting_rows instruments)) 0 (resting_count instruments payload))
