-- The row of nodes, and the map that it is.
use Rattle.std.specs.Prelude.{◌≡◌, ◌≢◌, ℕ, Bool, false, cond, List, [], ◌∷◌, length, get_or, codes}
use Rattle.std.specs.Ordering.{nat_cmp, eq_by_cmp}
use Rattle.std.specs.Cmp.Lexicographic.{slice_cmp}
use Rattle.std.specs.FinMap as map
use Rattle.gx_base.specs.declared.order.Slot.{Slot}
use Rattle.id_table.specs.declared.node.Entry.{Entry}
use Rattle.id_table.specs.declared.node.Node.{Node}
use Rattle.id_table.specs.Ids.{key, Slots}

-- the link that leads to no node
abbrev pub nowhere : ℕ
nowhere = 4294967295

abbrev pub key_of : Entry → List ℕ
key_of e = key e.firm e.id

-- the map takes two keys for one
abbrev pub is_same : List ℕ → List ℕ → Bool
is_same q k = eq_by_cmp (slice_cmp nat_cmp) q k

-- a node that has had no id
abbrev pub blank : Node
blank = record {
  entry = record { id = codes "UNKNOWN"; slot = record { 0 = 0 }; firm = 0; is_live = false };
  low = nowhere;
  high = nowhere;
}

-- the node at a place of the row, and past its end a blank one
abbrev pub node_at : List Node → ℕ → Node
node_at nodes i = get_or nodes i blank

abbrev pub entry_at : List Node → ℕ → Entry
entry_at nodes i = (node_at nodes i).entry

abbrev pub is_live_at : List Node → ℕ → Bool
is_live_at nodes i = (entry_at nodes i).is_live

-- the ids of the nodes that have one, with their slots
abbrev pub live_entries : List Node → List (List ℕ × Slot)
live_entries [] = []
live_entries (n ∷ nodes) = cond n.entry.is_live ((key_of n.entry, n.entry.slot) ∷ live_entries nodes) (live_entries nodes)

-- the map that they are
abbrev pub slots_of : List Node → Slots
slots_of nodes = map.from_entries (live_entries nodes)

-- a node has another entry
pub record IsSet (at : ℕ) (e : Entry) (old new : List Node) : Type 0 where
  pub long : length new ≡ length old
  pub here : entry_at new at ≡ e
  pub others : (i : ℕ) → i ≢ at → entry_at new i ≡ entry_at old i
  pub low : (i : ℕ) → (node_at new i).low ≡ (node_at old i).low
  pub high : (i : ℕ) → (node_at new i).high ≡ (node_at old i).high

-- the node `to` has the entry of the node `from`, which is free
pub record IsMoved (from to : ℕ) (old new : List Node) : Type 0 where
  pub long : length new ≡ length old
  pub freed : is_live_at new from ≡ false
  pub there : to ≢ from → entry_at new to ≡ entry_at old from
  pub others : (i : ℕ) → i ≢ from → i ≢ to → entry_at new i ≡ entry_at old i
  pub low : (i : ℕ) → (node_at new i).low ≡ (node_at old i).low
  pub high : (i : ℕ) → (node_at new i).high ≡ (node_at old i).high
