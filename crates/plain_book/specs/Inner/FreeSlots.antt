-- How a book that keeps its orders in two lists keeps its slots: each is an order's, or free.
use Rattle.std.specs.Prelude.{◌≡◌, ℕ, ◌+◌, ◌-◌, ◌<◌, ◌≤◌, ◌==◌, if◌then◌else◌, List, [], ◌∷◌, ◌++◌, length, ◌⊎◌}
use Rattle.plain_book.specs.declared.entry.Entry.{Entry}
use Rattle.plain_book.specs.Orders.{HasSlot, order_of}
use Rattle.plain_book.specs.Book.{Book, IsRight, live_orders}

abbrev pub book_of : ℕ → ℕ → List Entry → List Entry → Book
book_of capacity instruments resting waiting = record { capacity = capacity; instruments = instruments; resting = resting; waiting = waiting }

abbrev pub IsAmong : ℕ → List ℕ → Type 0
IsAmong s [] = ⊥
IsAmong s (t ∷ ts) = (t ≡ s) ⊎ IsAmong s ts

-- each of these slots is no order's, and stands here once
abbrev pub AreFree : List ℕ → List Entry → Type 0
AreFree [] es = Unit {0}
AreFree (s ∷ ss) es = (HasSlot s es → ⊥) × (IsAmong s ss → ⊥) × AreFree ss es

-- each slot is an order's or free, and there is room for all of them in each list
pub record IsKept (b : Book) (resting_room waiting_room : ℕ) (slots : List ℕ) (free_room : ℕ) : Type 0 where
  pub right : IsRight b
  pub resting : b.capacity ≤ resting_room
  pub waiting : b.capacity ≤ waiting_room
  pub fits : b.capacity ≤ free_room
  pub all : length slots + length (live_orders b) ≡ b.capacity
  pub free : AreFree slots (live_orders b)

-- the free slots after a trade
abbrev pub freed : ℕ → ℕ → List Entry → List ℕ → List ℕ
freed slot lots es free = if (order_of slot es).leaves - lots == 0 then free ++ slot ∷ [] else free

-- the slots below a number, each once
pub record IsFreeList (count : ℕ) (slots : List ℕ) (free_room : ℕ) : Type 0 where
  pub free : AreFree slots []
  pub below : (s : ℕ) → IsAmong s slots → s < count
  pub all : length slots ≡ count
  pub room : count ≤ free_room
