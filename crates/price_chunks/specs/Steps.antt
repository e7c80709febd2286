-- The levels of all sides as contracts see them: a list for each side, the worst price first.
use Rattle.std.specs.Prelude.{◌≡◌, ℕ, ◌<◌, Bool, true, not, pos, if◌then◌else◌, List, [], ◌∷◌, ◌++◌, filter, map, sum_by, length, replicate, slice_index_or, Option, Some, None}
use Rattle.std.specs.Ordering.{int_eq}
use Rattle.gx_base.specs.declared.price.Price.{Price}
use Rattle.gx_base.specs.declared.order.Side.{Side}
use Rattle.book_order.specs.Levels.{is_better, is_within}
use Rattle.price_chunks.specs.declared.place.Step.{Step}

pub record SideLists : Type 0 where
  -- the greatest number of levels on all sides together
  pub capacity : ℕ
  -- the levels of each side, the worst price first
  pub lists : List (List Step)

abbrev pub no_lists : ℕ → ℕ → SideLists
no_lists count capacity = record { capacity = capacity; lists = replicate count [] }

-- the levels of the side with this number
abbrev pub list_at : List (List Step) → ℕ → List Step
list_at all k = slice_index_or all k []

abbrev pub no_step : Step
no_step = record { price = record { 0 = pos 0 }; leaves = 0; queue = 0 }

abbrev pub step_at : List Step → ℕ → Step
step_at steps k = slice_index_or steps k no_step

-- each price is better than each one before it
abbrev pub AreWorstFirst : Side → List Step → Type 0
AreWorstFirst side steps = (i k : ℕ) → i < k → k < length steps → is_better side (step_at steps k).price.0 (step_at steps i).price.0 ≡ true

-- ---- what is asked of the levels of a side

abbrev pub is_worse_step : Side → Price → Step → Bool
is_worse_step side price s = is_better side price.0 s.price.0

abbrev pub is_better_step : Side → Price → Step → Bool
is_better_step side price s = is_better side s.price.0 price.0

abbrev pub is_step_at : Price → Step → Bool
is_step_at price s = int_eq s.price.0 price.0

abbrev pub is_open_step : Side → Price → Step → Bool
is_open_step side limit s = is_within side limit.0 s.price.0

-- the price of the last level, the best
abbrev pub price_of_last : List Step → Option Price
price_of_last [] = None
price_of_last (s ∷ []) = Some s.price
price_of_last (s ∷ (t ∷ steps)) = price_of_last (t ∷ steps)

-- the price of the first level, the worst
abbrev pub price_of_first : List Step → Option Price
price_of_first [] = None
price_of_first (s ∷ steps) = Some s.price

abbrev pub queue_of_last : List Step → Option ℕ
queue_of_last [] = None
queue_of_last (s ∷ []) = Some s.queue
queue_of_last (s ∷ (t ∷ steps)) = queue_of_last (t ∷ steps)

-- how many lots are open at these levels
abbrev pub open_at : List Step → ℕ
open_at steps = sum_by (λ s. s.leaves) steps

-- ---- what they become

-- the level comes to its place
abbrev pub with_step : Side → Step → List Step → List Step
with_step side s steps = filter (is_worse_step side s.price) steps ++ s ∷ filter (λ t. not (is_worse_step side s.price t)) steps

-- without the level at this price
abbrev pub without_step : Price → List Step → List Step
without_step price steps = filter (λ t. not (is_step_at price t)) steps

-- so many lots are open at this price now
abbrev pub opened : Price → ℕ → Step → Step
opened price leaves s = if is_step_at price s then record s { leaves = leaves } else s

abbrev pub with_open : Price → ℕ → List Step → List Step
with_open price leaves steps = map (opened price leaves) steps
