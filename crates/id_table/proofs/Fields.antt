-- The fields of a forest after an id came, and after one went.
use Rattle.std.proofs.Common.{◌≡◌, ◌≢◌, ℕ, ◌<◌, true, false, List, length, get_or, Some, None, sym, ap, subst, ◌∙◌, arith, inl, inr}
use Rattle.std.specs.FinMap as map
use Rattle.std.proofs.lemmas.Bool.{cases_eq}
use Rattle.gx_base.specs.declared.order.Slot.{Slot}
use Rattle.id_table.specs.declared.node.Entry.{Entry}
use Rattle.id_table.specs.declared.spot.Place.{Place}
use Rattle.id_table.specs.declared.spot.Place.TheVariants.{Bucket, Low, High}
use Rattle.id_table.specs.declared.spot.Spot.{Spot}
use Rattle.id_table.specs.declared.forest.Forest.{Forest}
use Rattle.id_table.specs.Inner.Nodes.{nowhere, key_of, node_at, entry_at, is_live_at, slots_of, IsSet, IsMoved}
use Rattle.id_table.specs.Inner.Places.{link_of, IsLinked}
use Rattle.id_table.specs.Inner.Forests.{AreTrees, IsForest, IsSpot, IsLeafBelow, IsTaken}
use Rattle.id_table.specs.Inner.Ways.{home_of}
use Rattle.id_table.proofs.Tests.{true_false}
use Rattle.id_table.proofs.Passing.{none, within_leads, link_within, live_within}
use Rattle.id_table.proofs.Shown.{none_from, get_some, put_written, take_written, inserted, removed}
use Rattle.id_table.proofs.Coming.{trees_put}
use Rattle.id_table.proofs.Going.{trees_taken}

-- other entries, and the same links
pub same_links : (g h : Forest) → h.buckets.items ≡ g.buckets.items → ((i : ℕ) → (node_at h.nodes.items i).low ≡ (node_at g.nodes.items i).low) → ((i : ℕ) → (node_at h.nodes.items i).high ≡ (node_at g.nodes.items i).high)
    → (p : Place) → link_of h p ≡ link_of g p
same_links g h b low high (Bucket i) = ap (λ (bs : List ℕ). get_or bs i nowhere) b
same_links g h b low high (Low i) = low i
same_links g h b low high (High i) = high i

-- the trees of h as those of a forest of the capacity of f
forest_from : (f g h : Forest) → IsForest f → h.capacity ≡ f.capacity → length h.buckets.items ≡ length f.buckets.items → length h.nodes.items ≡ length f.nodes.items
    → AreTrees (home_of f.capacity) (link_of h) (λ i. entry_at h.nodes.items i) → IsForest h
forest_from f g h forest capacity wide long trees = record {
  wide = omega (arith, forest.wide, capacity, wide);
  few = omega (arith, forest.few, long);
  trees = subst (λ (x : ℕ). AreTrees (home_of x) (link_of h) (λ i. entry_at h.nodes.items i)) (sym capacity) trees;
}

-- what a link leads to has an id
pub leads_live : (f : Forest) → IsForest f → (p : Place) (i : ℕ) → i ≡ link_of f p → i ≢ nowhere → is_live_at f.nodes.items i ≡ true
leads_live f forest p i e ne = subst (λ (x : ℕ). is_live_at f.nodes.items x ≡ true) (sym e) (forest.trees.ends p (λ n. ne (e ∙ n)))

pub spot_within : (f : Forest) → IsForest f → (k : List ℕ) (s : Spot) → IsSpot f k s → s.link ≢ nowhere → s.link < length f.nodes.items
spot_within f forest k s spot leads = live_within f forest s.link (leads_live f forest s.place s.link spot.on.link leads)

-- a search for an absent key ends at a link that leads nowhere
pub end_of_absent : (f : Forest) → IsForest f → (k : List ℕ) (s : Spot) → IsSpot f k s → map.get (slots_of f.nodes.items) k ≡ None → s.link ≡ nowhere
end_of_absent f forest k s spot absent = elim (cases_eq s.link nowhere) [
  | inl e ↦ e
  | inr ne ↦ absurd (none_from f.nodes.items k forest.trees.apart absent s.link (leads_live f forest s.place s.link spot.on.link ne) (spot.named ne))
]

module _ (f g h : Forest) (forest : IsForest f) (buckets : h.buckets.items ≡ g.buckets.items) (capacity : h.capacity ≡ g.capacity) where
  module _ (s : Spot) (at : ℕ) (e : Entry) (spot : IsSpot f (key_of e) s) (within : at < length f.nodes.items) (free : is_live_at f.nodes.items at ≡ false) (live : e.is_live ≡ true) (absent : map.get (slots_of f.nodes.items) (key_of e) ≡ None) (linked : IsLinked s.place at f g) (set : IsSet at e g.nodes.items h.nodes.items) where
    rest : (i : ℕ) → i ≢ at → entry_at h.nodes.items i ≡ entry_at f.nodes.items i
    rest i ne = set.others i ne ∙ linked.entries i

    pub put_forest : IsForest h
    put_forest =
        let same = same_links g h buckets set.low set.high in
        let end : s.link ≡ nowhere = end_of_absent f forest (key_of e) s spot absent in
        forest_from f g h forest (capacity ∙ linked.capacity) (ap length buckets ∙ linked.wide) (set.long ∙ linked.long)
        (trees_put (home_of f.capacity) (link_of f) (λ i. entry_at f.nodes.items i) forest.trees (none f forest) s.place (link_of h) (λ p ne. same p ∙ linked.others p ne)
        (key_of e) s.depth at (λ i. entry_at h.nodes.items i) spot.on.place (sym spot.on.link ∙ end) spot.leads free (within_leads f forest at within) (spot.absent end)
        (same s.place ∙ linked.there) (ap (λ (x : Entry). x.is_live) set.here ∙ live) (ap key_of set.here) rest)

    pub put_slots : slots_of h.nodes.items ≡ map.insert (slots_of f.nodes.items) (key_of e) e.slot
    put_slots = inserted f.nodes.items h.nodes.items (key_of e) e.slot (put_written f.nodes.items h.nodes.items at e forest.trees.apart put_forest.trees.apart free set.here live rest)

    pub put_lives : (i : ℕ) → i ≢ at → is_live_at h.nodes.items i ≡ is_live_at f.nodes.items i
    put_lives i ne = ap (λ (x : Entry). x.is_live) (rest i ne)

  module _ (k : List ℕ) (s t : Spot) (spot : IsSpot f k s) (leads : s.link ≢ nowhere) (below : IsLeafBelow f s t) (linked : IsLinked t.place nowhere f g) (moved : IsMoved t.link s.link g.nodes.items h.nodes.items) where
    node_live : is_live_at f.nodes.items s.link ≡ true
    node_live = leads_live f forest s.place s.link spot.on.link leads

    leaf_live : is_live_at f.nodes.items t.link ≡ true
    leaf_live = leads_live f forest t.place t.link below.own.on.link below.own.leads

    up : s.link ≢ t.link → entry_at h.nodes.items s.link ≡ entry_at f.nodes.items t.link
    up ne = moved.there ne ∙ linked.entries t.link

    others : (i : ℕ) → i ≢ t.link → i ≢ s.link → entry_at h.nodes.items i ≡ entry_at f.nodes.items i
    others i ne ne' = moved.others i ne ne' ∙ linked.entries i

    pub take_forest : IsForest h
    take_forest =
        let same = same_links g h buckets moved.low moved.high in
        forest_from f g h forest (capacity ∙ linked.capacity) (ap length buckets ∙ linked.wide) (moved.long ∙ linked.long)
        (trees_taken (home_of f.capacity) (link_of f) (λ i. entry_at f.nodes.items i) forest.trees (none f forest) t.place (link_of h) (λ p ne. same p ∙ linked.others p ne)
        t.link s.link s.depth (λ i. entry_at h.nodes.items i) (sym below.own.on.link) below.own.leads below.low below.high (ap (link_of f) (sym below.above) ∙ sym spot.on.link) leads
        (same t.place ∙ linked.there) moved.freed up others)

    pub take_slots : slots_of h.nodes.items ≡ map.remove (slots_of f.nodes.items) k
    take_slots =
        subst (λ (q : List ℕ). slots_of h.nodes.items ≡ map.remove (slots_of f.nodes.items) q) (spot.named leads)
        (removed f.nodes.items h.nodes.items (key_of (entry_at f.nodes.items s.link))
        (take_written f.nodes.items h.nodes.items t.link s.link forest.trees.apart take_forest.trees.apart leaf_live node_live moved.freed up others))

    pub taken_is : (slot : Slot) → slot ≡ (entry_at f.nodes.items s.link).slot → IsTaken f h k (record { at = t.link; slot = slot })
    taken_is slot e = record {
      slot = get_some f.nodes.items k s.link forest.trees.apart node_live (spot.named leads) ∙ ap (λ (x : Slot). Some x) (sym e);
      was = leaf_live;
      within = subst (λ (n : ℕ). t.link < n) (sym (moved.long ∙ linked.long)) (subst (λ (x : ℕ). x < length f.nodes.items) (sym below.own.on.link) (link_within f forest t.place (λ n. below.own.leads (below.own.on.link ∙ n))));
      freed = moved.freed;
      others = λ i bare.
          let ne : i ≢ t.link = λ x. true_false (is_live_at f.nodes.items i) (ap (is_live_at f.nodes.items) x ∙ leaf_live) bare in
          let ne' : i ≢ s.link = λ x. true_false (is_live_at f.nodes.items i) (ap (is_live_at f.nodes.items) x ∙ node_live) bare in
          ap (λ (x : Entry). x.is_live) (others i ne ne') ∙ bare;
    }
