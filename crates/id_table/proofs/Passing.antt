-- Searches: what a spot on a way has passed, and what it ends at.
use Rattle.std.proofs.Common.{◌≡◌, ◌≢◌, ℕ, ◌<◌, ◌≤◌, Bool, true, false, cond, List, length, refl, sym, ap, subst, ◌∙◌, arith, inl, inr}
use Prim.Native.Nat.{suc}
use Rattle.std.proofs.lemmas.Bool.{cases_eq, cases_lt}
use Rattle.std.proofs.lemmas.List.{get_or_past}
use Rattle.id_table.specs.declared.node.Node.{Node}
use Rattle.id_table.specs.declared.spot.Place.{Place}
use Rattle.id_table.specs.declared.spot.Spot.{Spot}
use Rattle.id_table.specs.declared.forest.Forest.{Forest}
use Rattle.id_table.specs.Inner.Nodes.{nowhere, blank, key_of, node_at, entry_at, is_live_at}
use Rattle.id_table.specs.Inner.Places.{link_at, link_of, side_of, way, IsBelow, IsWithin}
use Rattle.id_table.specs.Inner.Forests.{IsForest, IsOnWay, IsSpot, Stands}
use Rattle.id_table.specs.Inner.Ways.{home_of, is_high}
use Rattle.id_table.proofs.Tests.{true_false}
use Rattle.id_table.proofs.Ways.{past_none, leads_before, way_within}

-- a spot on the way of a key, which has passed nodes with other keys
pub record HasPassed (f : Forest) (k : List ℕ) (s : Spot) : Type 0 where
  pub on : IsOnWay f k s
  pub leads : (e : ℕ) → e < s.depth → link_of f (way (home_of f.capacity) (link_of f) k e) ≢ nowhere
  pub others : (e : ℕ) → e < s.depth → key_of (entry_at f.nodes.items (link_of f (way (home_of f.capacity) (link_of f) k e))) ≢ k

-- the link on a side
pub link_side : (buckets : List ℕ) (nodes : List Node) (b : Bool) (i : ℕ) → cond b (node_at nodes i).high (node_at nodes i).low ≡ link_at buckets nodes (side_of b i)
link_side buckets nodes true i = refl
link_side buckets nodes false i = refl

module _ (f : Forest) (forest : IsForest f) where
  abbrev home : List ℕ → ℕ
  home = home_of f.capacity

  -- past the end of the row is no node with an id
  pub live_within : (i : ℕ) → is_live_at f.nodes.items i ≡ true → i < length f.nodes.items
  live_within i live = elim (cases_lt i (length f.nodes.items)) [
    | inl lt ↦ lt
    | inr ge ↦ absurd (true_false (is_live_at f.nodes.items i) live (ap (λ (n : Node). n.entry.is_live) (get_or_past f.nodes.items i blank ge)))
  ]

  pub none : is_live_at f.nodes.items nowhere ≡ false
  none = ap (λ (n : Node). n.entry.is_live) (get_or_past f.nodes.items nowhere blank forest.few)

  pub link_within : (p : Place) → link_of f p ≢ nowhere → link_of f p < length f.nodes.items
  link_within p leads = live_within (link_of f p) (forest.trees.ends p leads)

  pub side_within : (b : Bool) (i : ℕ) → i < length f.nodes.items → IsWithin f (side_of b i)
  side_within true i lt = lt
  side_within false i lt = lt

  -- a link within the row leads somewhere
  pub within_leads : (i : ℕ) → i < length f.nodes.items → i ≢ nowhere
  within_leads i lt e = let bad : ⊥ = omega (arith, lt, e, forest.few) in bad

  module _ (k : List ℕ) where
    abbrev at : ℕ → Place
    at d = way home (link_of f) k d

    pub depth_within : (s : Spot) → IsOnWay f k s → s.link ≢ nowhere → s.depth < length f.nodes.items
    depth_within s on leads =
        let here : link_of f (at s.depth) ≢ nowhere = λ e. leads (on.link ∙ ap (link_of f) on.place ∙ e) in
        let all : (e : ℕ) → e < suc s.depth → link_of f (at e) ≢ nowhere = λ e lt. let le : e ≤ s.depth = omega (arith, lt) in leads_before home (link_of f) _ forest.trees none k s.depth e le here in
        let most : suc s.depth ≤ length f.nodes.items = way_within home (link_of f) _ forest.trees none (length f.nodes.items) link_within k (suc s.depth) all in
        omega (arith, most)

    pub next : (s t : Spot) (b : Bool) → HasPassed f k s → b ≡ is_high s.depth k → s.link ≢ nowhere → key_of (entry_at f.nodes.items s.link) ≢ k → IsBelow f.nodes.items s b t → HasPassed f k t
    next s t b passed high leads other below =
        let node : s.link ≡ link_of f (at s.depth) = passed.on.link ∙ ap (link_of f) passed.on.place in
        let deeper : t.depth ≡ suc s.depth = omega (arith, below.depth) in
        let ahead : (e : ℕ) → e < t.depth → e ≢ s.depth → e < s.depth = λ e lt ne. omega (arith, lt, ne, deeper) in
        record {
          on = record {
            place = below.place ∙ (λ i. side_of (high i) (node i)) ∙ sym (ap at deeper);
            link = below.link ∙ link_side f.buckets.items f.nodes.items b s.link ∙ sym (ap (link_of f) below.place);
            within = subst (IsWithin f) (sym below.place) (side_within b s.link (subst (λ (x : ℕ). x < length f.nodes.items) (sym passed.on.link) (link_within s.place (λ e. leads (passed.on.link ∙ e)))));
          };
          leads = λ e lt. elim (cases_eq e s.depth) [
            | inl same ↦ λ n. leads (node ∙ ap (λ (x : ℕ). link_of f (at x)) (sym same) ∙ n)
            | inr ne ↦ passed.leads e (ahead e lt ne)
          ];
          others = λ e lt. elim (cases_eq e s.depth) [
            | inl same ↦ λ n. other (ap (λ (x : ℕ). key_of (entry_at f.nodes.items x)) (node ∙ ap (λ (x : ℕ). link_of f (at x)) (sym same)) ∙ n)
            | inr ne ↦ passed.others e (ahead e lt ne)
          ];
        }

    -- where the way leads nowhere, no node has the key
    absent : (s : Spot) → HasPassed f k s → s.link ≡ nowhere → (i : ℕ) → is_live_at f.nodes.items i ≡ true → key_of (entry_at f.nodes.items i) ≢ k
    absent s passed ends i live named =
        let stands : Stands home (link_of f) k i = subst (λ (q : List ℕ). Stands home (link_of f) q i) named (forest.trees.stands i live) in
        let here : link_of f (at s.depth) ≡ nowhere = sym (passed.on.link ∙ ap (link_of f) passed.on.place) ∙ ends in
        elim (cases_lt stands.depth s.depth) [
          | inl lt ↦ passed.others stands.depth lt (ap (λ (x : ℕ). key_of (entry_at f.nodes.items x)) stands.there ∙ named)
          | inr ge ↦
              let gone : i ≡ nowhere = sym stands.there ∙ past_none home (link_of f) _ forest.trees none k s.depth stands.depth ge here in
              true_false (is_live_at f.nodes.items i) live (ap (is_live_at f.nodes.items) gone ∙ none)
        ]

    pub ends : (s : Spot) → HasPassed f k s → (s.link < length f.nodes.items → key_of (entry_at f.nodes.items s.link) ≡ k) → IsSpot f k s
    ends s passed named = record {
      on = passed.on;
      leads = passed.leads;
      absent = absent s passed;
      named = λ leads. named (subst (λ (x : ℕ). x < length f.nodes.items) (sym passed.on.link) (link_within s.place (λ e. leads (passed.on.link ∙ e))));
    }
