-- The line numbers of events, and the counts that give them: each addressee has a count of its own, which stands at its place.
use Rattle.std.specs.Prelude.{◌≡◌, ℕ, ◌+◌, ◌-◌, ◌<◌, ◌≤◌, Bool, false, ◌&&◌, ◌==◌, nat_le, List, [], ◌∷◌, map, filter, slice_index, Option, Some, None}
use Rattle.std.specs.List.{AllByRecursion, range_with_len}
use Rattle.gx_base.specs.NameLists.{NameLists}
use Rattle.gx_base.specs.declared.event.Event.{Event}
use Rattle.product_file.specs.Products.{ProductLists}
use Rattle.order_kinds.specs.State.{State}
use Rattle.order_kinds.specs.Reports.{line_place}
use Rattle.order_kinds.specs.Histories.{History, amended}
use Rattle.engine_laws.specs.Heads.{head_in}

-- ---- lines and counts

-- the place of the addressee of an event
abbrev pub place_in : Event → ℕ
place_in e = line_place (head_in e).firm

-- the line number of an event
abbrev pub line_in : Event → ℕ
line_in e = (head_in e).line

-- how many lines the addressee of this place has had
abbrev pub count_at : ℕ → State → ℕ
count_at place state = slice_index state.desk.lines place

-- the line numbers of the events to the addressee of this place, in order
abbrev pub lines_to : ℕ → List Event → List ℕ
lines_to place events = map line_in (filter (λ (e : Event). place_in e == place) events)

-- the numbers above one, up to another
abbrev pub numbers_between : ℕ → ℕ → List ℕ
numbers_between low high = range_with_len (low + 1) (high - low)

-- each of these events to the addressee of this place has a line above this one
abbrev pub AreAbove : ℕ → ℕ → List Event → Type 0
AreAbove place line events = AllByRecursion (λ (e : Event). place_in e ≡ place → line < line_in e) events

-- and none above this one
abbrev pub AreUpTo : ℕ → ℕ → List Event → Type 0
AreUpTo place line events = AllByRecursion (λ (e : Event). place_in e ≡ place → line_in e ≤ line) events

-- ---- some lines of a firm

abbrev pub is_firm : ℕ → Option ℕ → Bool
is_firm firm None = false
is_firm firm (Some other) = other == firm

-- the event goes to this firm, with a line from one number to another
abbrev pub goes_to_range : ℕ → ℕ → ℕ → Event → Bool
goes_to_range firm low high e = is_firm firm (head_in e).firm && (nat_le low (line_in e) && nat_le (line_in e) high)

-- what is written of each other event is nothing
abbrev pub WritesOnly : ℕ → ℕ → ℕ → (NameLists → Event → List ℕ) → Type 0
WritesOnly firm low high line = (names : NameLists) (e : Event) → goes_to_range firm low high e ≡ false → line names e ≡ []

-- ---- the rest of a history

-- a history goes on under further products, each with its messages
abbrev pub with_pairs : History → List (ProductLists × List (List ℕ)) → History
with_pairs history [] = history
with_pairs history (pair ∷ pairs) = with_pairs (amended history pair.0 pair.1) pairs
