-- The queues of a pool, as rings of cells. Cell slots + q is where ring q begins and ends.
use Rattle.std.specs.Prelude.{◌≡◌, ◌≢◌, ℕ, Option, None, Some, ◌+◌, ◌^◌, ◌<◌, ◌≤◌, ◌==◌, not, if◌then◌else◌, List, [], ◌∷◌, length, map, filter, sum_by, slice_index_or, slice_set, ◌⊎◌}
use Rattle.std.specs.List.{range_with_len}
use Prim.Native.Nat.{zero, suc}
use Rattle.gx_base.specs.declared.order.Order.{Order}
use Rattle.order_pool.specs.Queues.{Entry, Queues, rested}
use Rattle.order_pool.specs.Inner.Block.{Cell, Cells, cell_at, attached}

abbrev pub order_at : List Cell → ℕ → Order
order_at cs k = (cell_at cs k).order

abbrev pub prev_at : List Cell → ℕ → ℕ
prev_at cs k = (cell_at cs k).prev

abbrev pub next_at : List Cell → ℕ → ℕ
next_at cs k = (cell_at cs k).next

abbrev pub queue_at : List Cell → ℕ → ℕ
queue_at cs k = (cell_at cs k).queue

-- the cells after at, along next, before stop: at most n
unfoldable pub cells_along : (ℕ → ℕ) → ℕ → ℕ → ℕ → List ℕ
cells_along next zero stop at = []
cells_along next (suc n) stop at = if next at == stop then [] else (next at ∷ cells_along next n stop (next at))

-- the slots of each ring, in order
unfoldable pub rings_of : List Cell → ℕ → ℕ → List (List ℕ)
rings_of cs slots queues = map (λ q. cells_along (next_at cs) slots (slots + q) (slots + q)) (range_with_len 0 queues)

abbrev pub entry : List Cell → ℕ → Entry
entry cs k = (k, order_at cs k)

abbrev pub queues_with : List Cell → ℕ → ℕ → List (List ℕ) → Queues
queues_with cs slots queues rings = record { capacity = slots; queues = map (map (entry cs)) rings }

abbrev pub queues_of : List Cell → ℕ → ℕ → Queues
queues_of cs slots queues = queues_with cs slots queues (rings_of cs slots queues)

-- ---- what is true of them

abbrev pub Each : (ℕ → Type 0) → List ℕ → Type 0
Each P [] = Unit {0}
Each P (k ∷ ks) = P k × Each P ks

abbrev pub AllDiffer : List ℕ → Type 0
AllDiffer [] = Unit {0}
AllDiffer (k ∷ ks) = Each (λ j. j ≢ k) ks × AllDiffer ks

-- from a, next leads through ks to z, and prev leads back
abbrev pub Path : (ℕ → ℕ) → (ℕ → ℕ) → ℕ → List ℕ → ℕ → Type 0
Path next prev a [] z = (next a ≡ z) × (prev z ≡ a)
Path next prev a (k ∷ ks) z = (next a ≡ k) × (prev k ≡ a) × Path next prev k ks z

abbrev pub ring_at : List (List ℕ) → ℕ → List ℕ
ring_at rings q = slice_index_or rings q []

-- ring q of the cells is ks
pub record IsRing (cs : List Cell) (slots q : ℕ) (ks : List ℕ) : Type 0 where
  pub path : Path (next_at cs) (prev_at cs) (slots + q) ks (slots + q)
  pub slot : Each (λ k. k < slots) ks
  pub tag : Each (λ k. queue_at cs k ≡ q) ks
  pub differ : AllDiffer ks

-- the rings of the cells are these, wherever a slot is
pub record AreRings (cs : List Cell) (slots queues : ℕ) (rings : List (List ℕ)) : Type 0 where
  pub cells : length cs ≡ slots + queues
  pub count : length rings ≡ queues
  pub each : (q : ℕ) → q < queues → IsRing cs slots q (ring_at rings q)
  pub heads : (q : ℕ) → q < queues → queue_at cs (slots + q) ≡ q

-- ks without i
abbrev pub without : ℕ → List ℕ → List ℕ
without i ks = filter (λ k. not (k == i)) ks

-- i is among ks
abbrev pub In : ℕ → List ℕ → Type 0
In i [] = ⊥
In i (k ∷ ks) = (i ≡ k) ⊎ In i ks

-- the rings of the cells are these, and each slot that was ever lent is in the one that its tag says, or free
pub record AreWholeRings (cs : List Cell) (slots queues lent : ℕ) (free : List ℕ) (rings : List (List ℕ)) : Type 0 where
  pub are : AreRings cs slots queues rings
  pub room : lent ≤ slots
  pub covers : (k : ℕ) → k < lent → queue_at cs k < queues → In k (ring_at rings (queue_at cs k))
  pub unlent : (k : ℕ) → lent ≤ k → k < slots → queue_at cs k ≡ queues
  pub within : Each (λ k. k < lent) free
  pub tags : Each (λ k. queue_at cs k ≡ queues) free
  pub differ : AllDiffer free
  pub total : sum_by length rings + length free ≡ lent

-- the same, but that slot i, which was lent, is in no ring and not free
pub record IsOut (cs : List Cell) (slots queues lent : ℕ) (free : List ℕ) (rings : List (List ℕ)) (i : ℕ) : Type 0 where
  pub are : AreRings cs slots queues rings
  pub room : lent ≤ slots
  pub slot : i < lent
  pub gone : (q : ℕ) → q < queues → Each (λ k. k ≢ i) (ring_at rings q)
  pub covers : (k : ℕ) → k < lent → k ≢ i → queue_at cs k < queues → In k (ring_at rings (queue_at cs k))
  pub unlent : (k : ℕ) → lent ≤ k → k < slots → queue_at cs k ≡ queues
  pub within : Each (λ k. k < lent) free
  pub tags : Each (λ k. queue_at cs k ≡ queues) free
  pub others : Each (λ k. k ≢ i) free
  pub differ : AllDiffer free
  pub total : sum_by length rings + length free + 1 ≡ lent

-- the counts are as long as the rings
pub record AreCounts (queues : ℕ) (counts : List ℕ) (rings : List (List ℕ)) : Type 0 where
  pub many : length counts ≡ queues
  pub each : (q : ℕ) → q < queues → slice_index_or counts q 0 ≡ length (ring_at rings q)

-- next leads from one of these to the next one, the first of which is a
abbrev pub IsChain : (ℕ → ℕ) → ℕ → List ℕ → Type 0
IsChain next a [] = Unit {0}
IsChain next a (k ∷ ks) = (a ≡ k) × IsChain next (next k) ks

-- the free slots of a block are these, the one that became free last at the front
pub record AreFree (b : Cells) (free : List ℕ) : Type 0 where
  pub chain : IsChain (next_at b.cells) b.free free
  pub many : length free ≡ b.freed

-- what is true of a pool's fields, if its rings are these
pub record IsPoolWith (cs : List Cell) (slots queues lent : ℕ) (free counts : List ℕ) (rings : List (List ℕ)) : Type 0 where
  pub whole : AreWholeRings cs slots queues lent free rings
  pub fits : slots + queues < 2 ^ 32
  pub counted : AreCounts queues counts rings

-- what is true of a pool's block, if its free slots are these
pub record IsPool (b : Cells) (free : List ℕ) : Type 0 where
  pub whole : AreWholeRings b.cells b.slots b.queues b.lent free (rings_of b.cells b.slots b.queues)
  pub fits : b.slots + b.queues < 2 ^ 32
  pub counted : AreCounts b.queues b.counts (rings_of b.cells b.slots b.queues)
  pub chained : AreFree b free

abbrev pub queues_in : Cells → Queues
queues_in b = queues_of b.cells b.slots b.queues

-- slot i was taken for a new order: it was free, or was never lent, and these are free still. No queue changed
pub record HasTaken (old new : Cells) (free : List ℕ) (i : ℕ) (o : Order) : Type 0 where
  pub slots : new.slots ≡ old.slots
  pub queues : new.queues ≡ old.queues
  pub more : old.used ≤ new.used
  pub counts : new.counts ≡ old.counts
  pub out : IsOut new.cells old.slots old.queues new.lent free (rings_of old.cells old.slots old.queues) i
  pub chained : AreFree new free
  pub order : order_at new.cells i ≡ o
  pub others : (k : ℕ) → k ≢ i → order_at new.cells k ≡ order_at old.cells k

-- an order has come to the end of queue q, in slot i
abbrev pub HasPut : Cells → Cells → List ℕ → ℕ → Order → ℕ → Type 0
HasPut old new free q o i = (mid : Cells) × HasTaken old mid free i o × (new ≡ record mid { cells = attached mid.cells i (mid.slots + q) q; counts = slice_set mid.counts q (slice_index_or mid.counts q 0 + 1) })

-- an order as it comes to a queue: as it is, or to rest
abbrev pub coming : Option ℕ → Order → Order
coming None o = o
coming (Some shown) o = rested shown o
