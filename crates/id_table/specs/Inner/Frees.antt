-- The nodes that are free.
use Rattle.std.specs.Prelude.{◌≡◌, ◌≢◌, ℕ, ◌+◌, ◌<◌, false, List, length, get_or}
use Rattle.id_table.specs.declared.node.Node.{Node}
use Rattle.id_table.specs.Inner.Nodes.{node_at, is_live_at}

-- each is a node with no id, and none is there twice
pub record AreFree (free : List ℕ) (nodes : List Node) : Type 0 where
  pub within : (k : ℕ) → k < length free → get_or free k 0 < length nodes
  pub bare : (k : ℕ) → k < length free → is_live_at nodes (get_or free k 0) ≡ false
  pub once : (j k : ℕ) → j < length free → k < length free → get_or free j 0 ≡ get_or free k 0 → j ≡ k

-- there is a free node, or room for one more
abbrev pub HasFree : ℕ → ℕ → ℕ → Type 0
HasFree free nodes room = free ≡ 0 → nodes < room

-- the node `at` is free, and no longer among the free ones
pub record IsFreed (at : ℕ) (free free' : List ℕ) (nodes nodes' : List Node) : Type 0 where
  pub within : at < length nodes'
  pub bare : is_live_at nodes' at ≡ false
  pub rest : AreFree free' nodes'
  pub other : (k : ℕ) → k < length free' → get_or free' k 0 ≢ at
  pub count : length free' + length nodes + 1 ≡ length free + length nodes'
  pub same : (i : ℕ) → node_at nodes' i ≡ node_at nodes i
