-- What a block is to its callers: a list of cells, whose links are numbers. Each slot has a cell, lent or not, and then each queue has
-- one for its head. In memory a node has its order and its links, which are raw pointers, and the ends of a queue are beside each other.
use Rattle.std.specs.Prelude.{◌≡◌, ℕ, ◌+◌, ◌-◌, ◌*◌, ◌^◌, ◌<◌, ◌≤◌, ◌⊎◌, Bool, nat_lt, if◌then◌else◌, List, [], map, length, slice_index_or, slice_set, vec_capacity, Option, MatchOption}
use Rattle.std.specs.List.{range_with_len}
use Rattle.std.specs.declared.vec.Vec.{Vec}
use Rattle.std.specs.Vec.{vec_ptr, with_item}
use Rattle.std.specs.Mem.{type_size}
use denote.RawPtr.{Ptr, block_ptr, null_ptr, InBlock}
use Rattle.gx_base.specs.declared.order.Order.{Order}
use Rattle.order_pool.specs.contracts.node.Node.{the_row}
use Rattle.order_pool.specs.declared.node.Node.{Node}
use Rattle.order_pool.specs.declared.node.Ends.{Ends}
use Rattle.order_pool.specs.Queues.{no_order}
use Rattle.order_pool.specs.Inner.Places.{place, index_of}

pub record Cell : Type 0 where
  pub order : Order
  pub prev : ℕ
  pub next : ℕ
  pub queue : ℕ

abbrev pub no_cell : Cell
no_cell = record { order = no_order; prev = 0; next = 0; queue = 0 }

abbrev pub cell_at : List Cell → ℕ → Cell
cell_at cs k = slice_index_or cs k no_cell

-- ---- nodes and ends as cells

-- the bytes of a node
abbrev pub node_size : ℕ
node_size = type_size the_row

-- where a link leads that leads to no node: past all of so many nodes that begin at base
abbrev pub past_all : Ptr → ℕ → Ptr
past_all base slots = place node_size base slots

-- what a slot has that was never lent, of so many queues: it is in none
abbrev pub blank_node : Ptr → ℕ → Node
blank_node past queues = record { order = no_order; prev = past; next = past; slot = 0; queue = queues }

abbrev pub node_or : Node → List Node → ℕ → Node
node_or d ns k = slice_index_or ns k d

-- a node that is there
abbrev pub node_in : List Node → ℕ → Node
node_in ns k = node_or (blank_node null_ptr 0) ns k

-- the ends of a queue that never had an order
abbrev pub no_ends : Ptr → Ends
no_ends past = record { first = past; last = past; count = 0 }

abbrev pub ends_or : Ends → List Ends → ℕ → Ends
ends_or d es q = slice_index_or es q d

-- ends that are there
abbrev pub ends_in : List Ends → ℕ → Ends
ends_in es q = ends_or (no_ends null_ptr) es q

-- the number of what a link leads to, of so many nodes that begin at base: of a node, or home where it leads to none
abbrev pub lead : Ptr → ℕ → ℕ → Ptr → ℕ
lead base slots home p = let i = index_of node_size base p in if nat_lt i slots then i else home

abbrev pub slot_cell : Ptr → ℕ → Node → Cell
slot_cell base slots n = record { order = n.order; prev = lead base slots (slots + n.queue) n.prev; next = lead base slots (slots + n.queue) n.next; queue = n.queue }

abbrev pub head_cell : Ptr → ℕ → ℕ → Ends → Cell
head_cell base slots q e = record { order = no_order; prev = lead base slots (slots + q) e.last; next = lead base slots (slots + q) e.first; queue = q }

abbrev pub node_at : Ptr → ℕ → ℕ → List Node → ℕ → Node
node_at base slots queues ns k = node_or (blank_node (past_all base slots) queues) ns k

abbrev pub ends_at : Ptr → ℕ → List Ends → ℕ → Ends
ends_at base slots es q = ends_or (no_ends (past_all base slots)) es q

abbrev pub shown_at : ℕ → ℕ → Ptr → List Node → List Ends → ℕ → Cell
shown_at slots queues base ns es k = if nat_lt k slots then slot_cell base slots (node_at base slots queues ns k) else head_cell base slots (k - slots) (ends_at base slots es (k - slots))

unfoldable pub shown : ℕ → ℕ → Ptr → List Node → List Ends → List Cell
shown slots queues base ns es = map (shown_at slots queues base ns es) (range_with_len 0 (slots + queues))

unfoldable pub counts_of : ℕ → ℕ → Ptr → List Ends → List ℕ
counts_of slots queues base es = map (λ q. (ends_at base slots es q).count) (range_with_len 0 queues)

pub record Cells : Type 0 where
  pub slots : ℕ
  pub queues : ℕ
  -- how many slots were ever lent
  pub lent : ℕ
  -- the ends of how many queues are written
  pub used : ℕ
  pub cells : List Cell
  -- how many orders each queue has
  pub counts : List ℕ
  -- where the free slots begin, and how many there are
  pub free : ℕ
  pub freed : ℕ

abbrev pub cells_with : ℕ → ℕ → Ptr → Ptr → ℕ → List Node → List Ends → Cells
cells_with slots queues base free freed ns es = record {
  slots = slots;
  queues = queues;
  lent = length ns;
  used = length es;
  cells = shown slots queues base ns es;
  counts = counts_of slots queues base es;
  free = lead base slots (slots + queues) free;
  freed = freed;
}

abbrev pub cells_in : {Y Z : Type 0} → ℕ → ℕ → Ptr → ℕ → Vec Node Y → Vec Ends Z → Cells
cells_in slots queues free freed nodes ends = cells_with slots queues (vec_ptr nodes) free freed nodes.items ends.items

-- nothing was ever used
abbrev pub new_block : ℕ → ℕ → Cells
new_block slots queues = cells_with slots queues (block_ptr 0 0) (past_all (block_ptr 0 0) slots) 0 [] []

-- ---- what is true of them

-- p is past all of so many nodes that begin at base
pub record IsPast (base : Ptr) (slots : ℕ) (p : Ptr) : Type 0 where
  pub in_block : InBlock base
  pub is : p ≡ past_all base slots
  pub small : slots * node_size < 2 ^ 63

-- a link leads to one of n nodes, or past all
pub record IsLink (base : Ptr) (slots n : ℕ) (p : Ptr) : Type 0 where
  pub is : p ≡ place node_size base (index_of node_size base p)
  pub within : (index_of node_size base p < n) ⊎ (index_of node_size base p ≡ slots)

-- each node knows its number
abbrev pub AreNumbered : List Node → Type 0
AreNumbered ns = (k : ℕ) → k < length ns → (node_in ns k).slot ≡ k

-- the head of queue q is written: it has to be where the queue has an order
abbrev pub IsUsed : Cells → ℕ → Type 0
IsUsed b q = (q < b.queues) × ((q < b.used) ⊎ (0 < slice_index_or b.counts q 0))

-- what is true of the links of a block
pub record AreLinked (base : Ptr) (slots : ℕ) (ns : List Node) (es : List Ends) : Type 0 where
  pub numbered : AreNumbered ns
  pub prev : (k : ℕ) → k < length ns → IsLink base slots (length ns) (node_in ns k).prev
  pub next : (k : ℕ) → k < length ns → IsLink base slots (length ns) (node_in ns k).next
  pub first : (q : ℕ) → q < length es → IsLink base slots (length ns) (ends_in es q).first
  pub last : (q : ℕ) → q < length es → IsLink base slots (length ns) (ends_in es q).last

-- what is true of a block at every moment
pub record IsBlock {Y Z : Type 0} (slots queues : ℕ) (past free : Ptr) (nodes : Vec Node Y) (ends : Vec Ends Z) : Type 0 where
  pub slots_fit : 2 * slots < 2 ^ 32
  pub queues_fit : 2 * queues < 2 ^ 32
  pub nodes_room : vec_capacity nodes ≡ slots
  pub ends_room : vec_capacity ends ≡ queues
  pub past_is : IsPast (vec_ptr nodes) slots past
  pub linked : AreLinked (vec_ptr nodes) slots nodes.items ends.items
  pub free_link : IsLink (vec_ptr nodes) slots (length nodes.items) free

-- slot i is in a queue, as are its neighbours
pub record IsAmong (b : Cells) (i : ℕ) : Type 0 where
  pub slot : i < b.lent
  pub used : IsUsed b (cell_at b.cells i).queue
  pub prev : (cell_at b.cells (cell_at b.cells i).prev).queue ≡ (cell_at b.cells i).queue
  pub next : (cell_at b.cells (cell_at b.cells i).next).queue ≡ (cell_at b.cells i).queue

-- a link leads to slot k, or else to no slot
abbrev pub IsLead : ℕ → Option ℕ → ℕ → Type 0
IsLead slots r n = MatchOption r (slots ≤ n) (λ k. (k ≡ n) × (k < slots))

-- ---- one store

-- a link leads to a node of a Vec
abbrev pub leads_in : {Z : Type 0} → Vec Node Z → Ptr → Bool
leads_in v p = nat_lt (index_of node_size (vec_ptr v) p) (vec_capacity v)

-- the node at a pointer has another one after it, or before it, if there is a node
abbrev pub nodes_next : {Z : Type 0} → Vec Node Z → Ptr → Ptr → Vec Node Z
nodes_next v at p = let i = index_of node_size (vec_ptr v) at in if leads_in v at then with_item v i (record (node_in v.items i) { next = p }) else v

abbrev pub nodes_prev : {Z : Type 0} → Vec Node Z → Ptr → Ptr → Vec Node Z
nodes_prev v at p = let i = index_of node_size (vec_ptr v) at in if leads_in v at then with_item v i (record (node_in v.items i) { prev = p }) else v

-- the first or the last of queue q is another one, if there is no node
abbrev pub ends_first : {Y Z : Type 0} → Vec Node Y → Vec Ends Z → Ptr → ℕ → Ptr → Vec Ends Z
ends_first v u at q p = if leads_in v at then u else with_item u q (record (ends_in u.items q) { first = p })

abbrev pub ends_last : {Y Z : Type 0} → Vec Node Y → Vec Ends Z → Ptr → ℕ → Ptr → Vec Ends Z
ends_last v u at q p = if leads_in v at then u else with_item u q (record (ends_in u.items q) { last = p })

-- ---- what the calls do

abbrev pub with_order : List Cell → ℕ → Order → List Cell
with_order cs i o = slice_set cs i (record (cell_at cs i) { order = o })

abbrev pub with_next : List Cell → ℕ → ℕ → List Cell
with_next cs i j = slice_set cs i (record (cell_at cs i) { next = j })

abbrev pub with_prev : List Cell → ℕ → ℕ → List Cell
with_prev cs i j = slice_set cs i (record (cell_at cs i) { prev = j })

abbrev pub with_queue : List Cell → ℕ → ℕ → List Cell
with_queue cs i q = slice_set cs i (record (cell_at cs i) { queue = q })

abbrev pub relinked : List Cell → ℕ → ℕ → ℕ → ℕ → List Cell
relinked cs i p n q = slice_set cs i (record (cell_at cs i) { prev = p; next = n; queue = q })

-- the neighbours of i are joined
abbrev pub detached : List Cell → ℕ → List Cell
detached cs i = with_prev (with_next cs (cell_at cs i).prev (cell_at cs i).next) (cell_at cs i).next (cell_at cs i).prev

-- i stands before j, with the tag q
abbrev pub attached : List Cell → ℕ → ℕ → ℕ → List Cell
attached cs i j q =
    let last = (cell_at cs j).prev in
    let joined = with_next cs last i in
    with_prev (relinked joined i last j q) j i

-- slot i is in no queue, and the first of the free ones, before those that were free. What its other link leads to does not matter
pub record HasLeft (old new : Cells) (i : ℕ) : Type 0 where
  pub prev : ℕ
  pub is : new ≡ record old { cells = relinked old.cells i prev old.free old.queues; free = i; freed = old.freed + 1 }

-- the first free slot is a slot, in no queue
pub record HasFree (b : Cells) : Type 0 where
  pub some : 0 < b.freed
  pub slot : b.free < b.lent
  pub tag : (cell_at b.cells b.free).queue ≡ b.queues

-- the ends of a queue are written, and nothing else changed
pub record HasOpened (old new : Cells) (queue : ℕ) : Type 0 where
  pub same : new ≡ record old { used = new.used }
  pub more : old.used ≤ new.used
  pub used : queue < new.used
