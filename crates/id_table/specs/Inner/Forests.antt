-- What is true of the trees at every moment, and what their private calls answer.
use Rattle.std.specs.Prelude.{◌≡◌, ◌≢◌, ℕ, ◌+◌, ◌*◌, ◌<◌, ◌≤◌, true, false, List, length, Some, vec_capacity}
use Rattle.std.specs.FinMap as map
use Rattle.id_table.specs.declared.node.Entry.{Entry}
use Rattle.id_table.specs.declared.spot.Place.{Place}
use Rattle.id_table.specs.declared.spot.Place.TheVariants.{Low, High}
use Rattle.id_table.specs.declared.spot.Spot.{Spot}
use Rattle.id_table.specs.declared.forest.Forest.{Forest}
use Rattle.id_table.specs.declared.forest.Taken.{Taken}
use Rattle.id_table.specs.Inner.Nodes.{nowhere, key_of, entry_at, is_live_at, slots_of}
use Rattle.id_table.specs.Inner.Places.{link_of, way, IsWithin}
use Rattle.id_table.specs.Inner.Ways.{home_of}

-- a node stands at the end of the way of its own key
pub record Stands (home : List ℕ → ℕ) (link : Place → ℕ) (k : List ℕ) (i : ℕ) : Type 0 where
  pub depth : ℕ
  pub there : link (way home link k depth) ≡ i

-- the links and the entries are trees
pub record AreTrees (home : List ℕ → ℕ) (link : Place → ℕ) (entry : ℕ → Entry) : Type 0 where
  -- each link leads to a node with an id, if it leads to any
  pub ends : (p : Place) → link p ≢ nowhere → (entry (link p)).is_live ≡ true
  -- no two links lead to one node
  pub once : (p q : Place) → link p ≡ link q → link p ≢ nowhere → p ≡ q
  -- from a node with no id no link leads on
  pub bare_low : (i : ℕ) → (entry i).is_live ≡ false → link (Low i) ≡ nowhere
  pub bare_high : (i : ℕ) → (entry i).is_live ≡ false → link (High i) ≡ nowhere
  pub stands : (i : ℕ) → (entry i).is_live ≡ true → Stands home link (key_of (entry i)) i
  -- no two nodes have one key
  pub apart : (i j : ℕ) → (entry i).is_live ≡ true → (entry j).is_live ≡ true → key_of (entry i) ≡ key_of (entry j) → i ≡ j

pub record IsForest (f : Forest) : Type 0 where
  pub wide : length f.buckets.items ≡ 2 * f.capacity + 1
  pub few : length f.nodes.items ≤ nowhere
  pub trees : AreTrees (home_of f.capacity) (link_of f) (λ i. entry_at f.nodes.items i)

-- a spot on the way of a key
pub record IsOnWay (f : Forest) (k : List ℕ) (s : Spot) : Type 0 where
  pub place : s.place ≡ way (home_of f.capacity) (link_of f) k s.depth
  pub link : s.link ≡ link_of f s.place
  pub within : IsWithin f s.place

-- the end of the way of a key, or the link to its node
pub record IsSpot (f : Forest) (k : List ℕ) (s : Spot) : Type 0 where
  pub on : IsOnWay f k s
  pub leads : (e : ℕ) → e < s.depth → link_of f (way (home_of f.capacity) (link_of f) k e) ≢ nowhere
  pub absent : s.link ≡ nowhere → (i : ℕ) → is_live_at f.nodes.items i ≡ true → key_of (entry_at f.nodes.items i) ≢ k
  pub named : s.link ≢ nowhere → key_of (entry_at f.nodes.items s.link) ≡ k

-- the link at a spot leads to a node, on the way of whose key the spot is
pub record IsOwnSpot (f : Forest) (s : Spot) : Type 0 where
  pub leads : s.link ≢ nowhere
  pub on : IsOnWay f (key_of (entry_at f.nodes.items s.link)) s

-- the link at the spot t leads to a node with nothing below it, on the way of whose key the spot s is
pub record IsLeafBelow (f : Forest) (s t : Spot) : Type 0 where
  pub own : IsOwnSpot f t
  pub low : link_of f (Low t.link) ≡ nowhere
  pub high : link_of f (High t.link) ≡ nowhere
  pub above : s.place ≡ way (home_of f.capacity) (link_of f) (key_of (entry_at f.nodes.items t.link)) s.depth

-- no part of the forest takes memory or gives any back
pub record HasSameRoom (f g : Forest) : Type 0 where
  pub capacity : g.capacity ≡ f.capacity
  pub long : length g.nodes.items ≡ length f.nodes.items
  pub buckets : vec_capacity g.buckets ≡ vec_capacity f.buckets
  pub nodes : vec_capacity g.nodes ≡ vec_capacity f.nodes

-- what is left of the key k: its slot, and one node that is free now
pub record IsTaken (f g : Forest) (k : List ℕ) (t : Taken) : Type 0 where
  pub slot : map.get (slots_of f.nodes.items) k ≡ Some t.slot
  pub was : is_live_at f.nodes.items t.at ≡ true
  pub within : t.at < length g.nodes.items
  pub freed : is_live_at g.nodes.items t.at ≡ false
  pub others : (i : ℕ) → is_live_at f.nodes.items i ≡ false → is_live_at g.nodes.items i ≡ false
