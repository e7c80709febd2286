-- Places of links, and the way of a key from link to link.
use Rattle.std.specs.Prelude.{◌≡◌, ◌≢◌, ℕ, ◌+◌, ◌<◌, Bool, cond, List, length, get_or}
use Prim.Native.Nat.{zero, suc}
use Rattle.id_table.specs.declared.node.Node.{Node}
use Rattle.id_table.specs.declared.spot.Place.{Place}
use Rattle.id_table.specs.declared.spot.Place.TheVariants.{Bucket, Low, High}
use Rattle.id_table.specs.declared.spot.Spot.{Spot}
use Rattle.id_table.specs.declared.forest.Forest.{Forest}
use Rattle.id_table.specs.Inner.Nodes.{nowhere, node_at, entry_at}
use Rattle.id_table.specs.Inner.Ways.{is_high}

-- the link at a place; where there is no place it leads nowhere
abbrev pub link_at : List ℕ → List Node → Place → ℕ
link_at buckets nodes (Bucket i) = get_or buckets i nowhere
link_at buckets nodes (Low i) = (node_at nodes i).low
link_at buckets nodes (High i) = (node_at nodes i).high

abbrev pub link_of : Forest → Place → ℕ
link_of f p = link_at f.buckets.items f.nodes.items p

-- there is such a place
abbrev pub IsWithin : Forest → Place → Type 0
IsWithin f (Bucket i) = i < length f.buckets.items
IsWithin f (Low i) = i < length f.nodes.items
IsWithin f (High i) = i < length f.nodes.items

-- a side of a node
abbrev pub side_of : Bool → ℕ → Place
side_of high i = cond high (High i) (Low i)

-- the place to which the way of a key leads past so many nodes
abbrev pub way : (List ℕ → ℕ) → (Place → ℕ) → List ℕ → ℕ → Place
way home link k zero = Bucket (home k)
way home link k (suc d) = side_of (is_high d k) (link (way home link k d))

-- a step from a spot to the side of its node
pub record IsBelow (nodes : List Node) (s : Spot) (high : Bool) (t : Spot) : Type 0 where
  pub place : t.place ≡ side_of high s.link
  pub link : t.link ≡ cond high (node_at nodes s.link).high (node_at nodes s.link).low
  pub depth : t.depth ≡ s.depth + 1

-- the link at one place becomes another, and nothing else
pub record IsLinked (place : Place) (link : ℕ) (f g : Forest) : Type 0 where
  pub capacity : g.capacity ≡ f.capacity
  pub wide : length g.buckets.items ≡ length f.buckets.items
  pub long : length g.nodes.items ≡ length f.nodes.items
  pub there : link_of g place ≡ link
  pub others : (p : Place) → p ≢ place → link_of g p ≡ link_of f p
  pub entries : (i : ℕ) → entry_at g.nodes.items i ≡ entry_at f.nodes.items i
