-- Tables: what holds of the fields after each call.
use Rattle.std.proofs.Common.{◌≡◌, ◌≢◌, ℕ, ◌+◌, ◌-◌, ◌<◌, ◌≤◌, cond, List, [], ◌∷◌, ◌++◌, length, Option, Some, None, is_some, refl, sym, ap, subst, ◌∙◌, arith}
use Rattle.std.specs.Cmp.Lexicographic.{slice_cmp, nat_list_cmp_total}
use Rattle.std.specs.Ordering.{nat_cmp}
use Rattle.std.specs.FinMap as map
use Rattle.std.specs.FinMap.{find, get-entries, get-remove, len-entries, len-empty, len-insert, len-remove}
use Rattle.std.proofs.lemmas.List.{length_push}
use Rattle.gx_base.specs.declared.order.Slot.{Slot}
use Rattle.id_table.specs.declared.node.Entry.{Entry}
use Rattle.id_table.specs.declared.node.Node.{Node}
use Rattle.id_table.specs.declared.spot.Place.{Place}
use Rattle.id_table.specs.declared.forest.Forest.{Forest}
use Rattle.id_table.specs.declared.forest.Taken.{Taken}
use Rattle.id_table.specs.Ids.{Slots}
use Rattle.id_table.specs.Inner.Nodes.{nowhere, is_same, node_at, entry_at, is_live_at, slots_of}
use Rattle.id_table.specs.Inner.Places.{link_of}
use Rattle.id_table.specs.Inner.Forests.{AreTrees, IsForest, IsTaken, HasSameRoom}
use Rattle.id_table.specs.Inner.Ways.{home_of}
use Rattle.id_table.specs.Inner.Frees.{AreFree, IsFreed}
use Rattle.id_table.specs.Inner.Kept.{IsKept, HasRoom}
use Rattle.id_table.proofs.Tests.{by_test, picked, passed}
use Rattle.id_table.proofs.Fields.{same_links}
use Rattle.id_table.proofs.Frees.{free_put, free_taken, free_freed, free_not}

-- a table with no ids
pub kept_new : (f : Forest) (free : List ℕ) → IsForest f → f.nodes.items ≡ [] → free ≡ [] → IsKept f free 0
kept_new f free forest empty none = record {
  forest = forest;
  frees = subst (λ (xs : List ℕ). AreFree xs f.nodes.items) (sym none) (record { within = λ k lt. let bad : ⊥ = omega (arith, lt) in absurd bad; bare = λ k lt. let bad : ⊥ = omega (arith, lt) in absurd bad; once = λ j k lt. let bad : ⊥ = omega (arith, lt) in absurd bad });
  size = ap (λ (ns : List Node). map.len (slots_of ns)) empty ∙ len-empty (slice_cmp nat_cmp) Slot;
  all = let a : length free ≡ 0 = ap length none in let b : length f.nodes.items ≡ 0 = ap length empty in omega (arith, a, b);
}

-- one more blank node changes no tree
pub forest_same : (f g : Forest) → IsForest f → g.buckets.items ≡ f.buckets.items → g.capacity ≡ f.capacity → length g.nodes.items ≤ nowhere → ((i : ℕ) → node_at g.nodes.items i ≡ node_at f.nodes.items i) → IsForest g
forest_same f g forest buckets capacity few same = record {
  wide = let e : length g.buckets.items ≡ length f.buckets.items = ap length buckets in omega (arith, e, capacity, forest.wide);
  few = few;
  trees =
      let links = same_links f g buckets (λ i. ap (λ (n : Node). n.low) (same i)) (λ i. ap (λ (n : Node). n.high) (same i)) in
      subst (λ (x : ℕ). AreTrees (home_of x) (link_of g) (λ i. entry_at g.nodes.items i)) (sym capacity)
      (subst (λ (x : (Place → ℕ) × (ℕ → Entry)). AreTrees (home_of f.capacity) x.0 x.1) (λ j. ((λ p. sym (links p) j), (λ i. (sym (same i) j).entry))) forest.trees);
}

-- where the key is there, there is one fewer
fewer : (m n : ℕ) (o : Option Slot) → o ≢ None → n ≡ cond (is_some o) (m - 1) m → n ≡ m - 1
fewer m n None some e = absurd (some refl)
fewer m n (Some s) some e = e

some_found : (es : List (List ℕ × Slot)) (k : List ℕ) → find (slice_cmp nat_cmp) k es ≢ None → 0 < length es
some_found [] k some = absurd (some refl)
some_found (e ∷ es) k some = omega arith

some_in : (m : Slots) (k : List ℕ) → map.get m k ≢ None → 0 < map.len m
some_in m k some = subst (λ (n : ℕ). 0 < n) (sym (len-entries m)) (some_found (map.entries m) k (λ e. some (get-entries m k ∙ e)))

pub some_live : (f : Forest) (free : List ℕ) (live : ℕ) (k : List ℕ) → IsKept f free live → map.get (slots_of f.nodes.items) k ≢ None → 0 < live
some_live f free live k kept some = subst (λ (n : ℕ). 0 < n) kept.size (some_in (slots_of f.nodes.items) k some)

-- an id that is absent is so without another one
pub absent_without : (m : Slots) (k q : List ℕ) → map.get m q ≡ None → map.get (map.remove m k) q ≡ None
absent_without m k q absent =
    get-remove nat_list_cmp_total m k q
    ∙ by_test (is_same q k) (cond (is_same q k) None (map.get m q) ≡ None) (λ t. picked (is_same q k) None (map.get m q) t) (λ f. passed (is_same q k) None (map.get m q) f ∙ absent)

-- a renamed id counts once
pub len_renamed : (m : Slots) (k q : List ℕ) (s : Slot) → map.get m k ≢ None → map.get m q ≡ None → map.len (map.insert (map.remove m k) q s) ≡ map.len m
len_renamed m k q s some absent =
    let there = some_in m k some in
    let one : map.len (map.remove m k) ≡ map.len m - 1 = fewer (map.len m) _ (map.get m k) some (len-remove nat_list_cmp_total m k) in
    let more : map.len (map.insert (map.remove m k) q s) ≡ map.len (map.remove m k) + 1 =
    len-insert nat_list_cmp_total (map.remove m k) q s
    ∙ ap (λ (o : Option Slot). cond (is_some o) (map.len (map.remove m k)) (map.len (map.remove m k) + 1)) (absent_without m k q absent) in
    omega (arith, there, one, more)

-- ---- a call

-- an id comes: one node is not free any more, and then it has the id
pub kept_insert : (f h g : Forest) (free free' : List ℕ) (live at : ℕ) (k : List ℕ) (s : Slot) → IsKept f free live → IsFreed at free free' f.nodes.items h.nodes.items → slots_of h.nodes.items ≡ slots_of f.nodes.items → IsForest g
    → slots_of g.nodes.items ≡ map.insert (slots_of h.nodes.items) k s → ((i : ℕ) → i ≢ at → is_live_at g.nodes.items i ≡ is_live_at h.nodes.items i) → length g.nodes.items ≡ length h.nodes.items
    → map.get (slots_of f.nodes.items) k ≡ None → IsKept g free' (live + 1)
kept_insert f h g free free' live at k s kept freed same forest slots others long absent = record {
  forest = forest;
  frees = free_put free' h.nodes.items g.nodes.items at freed.rest freed.other long others;
  size = ap map.len (slots ∙ ap (λ (m : Slots). map.insert m k s) same) ∙ len-insert nat_list_cmp_total (slots_of f.nodes.items) k s
      ∙ ap (λ (o : Option Slot). cond (is_some o) (map.len (slots_of f.nodes.items)) (map.len (slots_of f.nodes.items) + 1)) absent ∙ ap (λ (n : ℕ). n + 1) kept.size;
  all = omega (arith, kept.all, freed.count, long);
}

pub kept_remove : (f g : Forest) (free : List ℕ) (live : ℕ) (k : List ℕ) (t : Taken) → IsKept f free live → IsForest g → slots_of g.nodes.items ≡ map.remove (slots_of f.nodes.items) k → IsTaken f g k t
    → length g.nodes.items ≡ length f.nodes.items → map.get (slots_of f.nodes.items) k ≢ None → IsKept g (free ++ t.at ∷ []) (live - 1)
kept_remove f g free live k t kept forest slots taken long some = record {
  forest = forest;
  frees = free_freed free f.nodes.items g.nodes.items t.at kept.frees long taken.was taken.within taken.freed taken.others;
  size = fewer (map.len (slots_of f.nodes.items)) _ (map.get (slots_of f.nodes.items) k) some (ap map.len slots ∙ len-remove nat_list_cmp_total (slots_of f.nodes.items) k) ∙ ap (λ (n : ℕ). n - 1) kept.size;
  all =
      let there = some_live f free live k kept some in
      let more : length (free ++ t.at ∷ []) ≡ length free + 1 = length_push free t.at in
      omega (arith, there, more, kept.all, long);
}

pub kept_rename : (f h g : Forest) (free : List ℕ) (live : ℕ) (k q : List ℕ) (s : Slot) (t : Taken) → IsKept f free live → slots_of h.nodes.items ≡ map.remove (slots_of f.nodes.items) k → IsTaken f h k t
    → length h.nodes.items ≡ length f.nodes.items → IsForest g → slots_of g.nodes.items ≡ map.insert (slots_of h.nodes.items) q s → ((i : ℕ) → i ≢ t.at → is_live_at g.nodes.items i ≡ is_live_at h.nodes.items i)
    → length g.nodes.items ≡ length h.nodes.items → map.get (slots_of f.nodes.items) k ≢ None → map.get (slots_of f.nodes.items) q ≡ None → IsKept g free live
kept_rename f h g free live k q s t kept slots taken long forest slots' others long' some absent = record {
  forest = forest;
  frees = free_put free h.nodes.items g.nodes.items t.at (free_taken free f.nodes.items h.nodes.items kept.frees long taken.others) (λ j lt. free_not free f.nodes.items t.at kept.frees taken.was j lt) long' others;
  size = ap map.len (slots' ∙ ap (λ (m : Slots). map.insert m q s) slots) ∙ len_renamed (slots_of f.nodes.items) k q s some absent ∙ kept.size;
  all = omega (arith, kept.all, long, long');
}

-- ---- the room of each part

pub room_same : (f g : Forest) (room room' : ℕ) → HasRoom f room → HasSameRoom f g → room' ≡ room → HasRoom g room'
room_same f g room room' has same e = record {
  buckets = omega (arith, has.buckets, same.buckets, same.capacity);
  nodes = omega (arith, has.nodes, same.nodes, same.capacity);
  free = omega (arith, has.free, same.capacity, e);
}
