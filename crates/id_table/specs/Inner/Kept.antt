-- What is true of the fields of a table at every moment.
use Rattle.std.specs.Prelude.{◌≡◌, ℕ, ◌+◌, ◌*◌, List, length, vec_capacity}
use Rattle.std.specs.FinMap as map
use Rattle.id_table.specs.declared.forest.Forest.{Forest}
use Rattle.id_table.specs.Inner.Nodes.{slots_of}
use Rattle.id_table.specs.Inner.Forests.{IsForest}
use Rattle.id_table.specs.Inner.Frees.{AreFree}

pub record IsKept (f : Forest) (free : List ℕ) (live : ℕ) : Type 0 where
  pub forest : IsForest f
  pub frees : AreFree free f.nodes.items
  pub size : map.len (slots_of f.nodes.items) ≡ live
  -- each node has an id or is free
  pub all : length free + live ≡ length f.nodes.items

-- each part has the room that it was made with
pub record HasRoom (f : Forest) (room : ℕ) : Type 0 where
  pub buckets : vec_capacity f.buckets ≡ 2 * f.capacity + 1
  pub nodes : vec_capacity f.nodes ≡ f.capacity
  pub free : room ≡ f.capacity
