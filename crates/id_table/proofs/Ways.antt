-- The ways through trees: where they end, which they have in common, and how long they are.
use Rattle.std.proofs.Common.{◌≡◌, ◌≢◌, ℕ, ◌<◌, ◌≤◌, Bool, true, false, ◌||◌, List, [], ◌∷◌, length, refl, sym, ap, subst, ◌∙◌, arith, inl, inr}
use Prim.Native.Nat.{zero, suc}
use Rattle.std.proofs.Math.Dec.{eqb}
use Rattle.std.specs.List.{AllByRecursion, IsDistinct, list_any}
use Rattle.std.proofs.lemmas.Bool.{cases_eq, ne_eqb}
use Rattle.std.proofs.lemmas.Map.Steps.{length-le_from_distinct_below}
use Rattle.id_table.specs.declared.node.Entry.{Entry}
use Rattle.id_table.specs.declared.spot.Place.{Place}
use Rattle.id_table.specs.declared.spot.Place.TheVariants.{Bucket, Low, High}
use Rattle.id_table.specs.Inner.Nodes.{nowhere}
use Rattle.id_table.specs.Inner.Places.{side_of, way}
use Rattle.id_table.specs.Inner.Forests.{AreTrees}
use Rattle.id_table.specs.Inner.Ways.{is_high}
use Rattle.id_table.proofs.Tests.{true_false}

-- the node on whose side a place is, counted from one on
abbrev up : Place → ℕ
up (Bucket h) = 0
up (Low i) = suc i
up (High i) = suc i

up_side : (b : Bool) (i : ℕ) → up (side_of b i) ≡ suc i
up_side true i = refl
up_side false i = refl

pub same_node : (b c : Bool) (i j : ℕ) → side_of b i ≡ side_of c j → i ≡ j
same_node b c i j e = let s : suc i ≡ suc j = sym (up_side b i) ∙ ap up e ∙ up_side c j in omega (arith, s)

pub not_bucket : (b : Bool) (i h : ℕ) → side_of b i ≡ Bucket h → ⊥
not_bucket b i h e = let s : suc i ≡ 0 = sym (up_side b i) ∙ ap up e in omega (arith, s)

-- two ways have all places in common, and are of one length
pub record IsSameWay (home : List ℕ → ℕ) (link : Place → ℕ) (k q : List ℕ) (d e : ℕ) : Type 0 where
  pub depth : d ≡ e
  pub ways : (c : ℕ) → c ≤ d → way home link k c ≡ way home link q c

-- the place on a side of the last node of a way is on the way of the key q, and so are all before
pub record IsSideWay (home : List ℕ → ℕ) (link : Place → ℕ) (k : List ℕ) (d : ℕ) (b : Bool) (q : List ℕ) : Type 0 where
  pub place : side_of b (link (way home link k d)) ≡ way home link q (suc d)
  pub ways : (c : ℕ) → c ≤ d → way home link k c ≡ way home link q c

module _ (home : List ℕ → ℕ) (link : Place → ℕ) (entry : ℕ → Entry) (trees : AreTrees home link entry) (none : (entry nowhere).is_live ≡ false) where
  abbrev at : List ℕ → ℕ → Place
  at k d = way home link k d

  pub side_bare : (b : Bool) (i : ℕ) → (entry i).is_live ≡ false → link (side_of b i) ≡ nowhere
  side_bare true i e = trees.bare_high i e
  side_bare false i e = trees.bare_low i e

  pub side_none : (b : Bool) (i : ℕ) → i ≡ nowhere → link (side_of b i) ≡ nowhere
  side_none b i e = side_bare b i (subst (λ (x : ℕ). (entry x).is_live ≡ false) (sym e) none)

  -- after a link that leads nowhere all do
  pub past_none : (k : List ℕ) (d e : ℕ) → d ≤ e → link (at k d) ≡ nowhere → link (at k e) ≡ nowhere
  past_none k d zero le n = let same : d ≡ 0 = omega (arith, le) in subst (λ (x : ℕ). link (at k x) ≡ nowhere) same n
  past_none k d (suc e) le n =
      elim (cases_eq d (suc e)) [
        | inl same ↦ subst (λ (x : ℕ). link (at k x) ≡ nowhere) same n
        | inr ne ↦ let le' : d ≤ e = omega (arith, le, ne) in side_none (is_high e k) (link (at k e)) (past_none k d e le' n)
      ]

  pub leads_before : (k : List ℕ) (d e : ℕ) → e ≤ d → link (at k d) ≢ nowhere → link (at k e) ≢ nowhere
  leads_before k d e le leads n = leads (past_none k e d le n)

  -- two ways that meet have been one
  pub same_way : (k q : List ℕ) (d e : ℕ) → at k d ≡ at q e → link (at k d) ≢ nowhere → IsSameWay home link k q d e
  same_way k q zero zero s leads = record {
    depth = refl;
    ways = λ c le. let first : 0 ≡ c = omega (arith, le) in subst (λ (x : ℕ). at k x ≡ at q x) first s;
  }
  same_way k q zero (suc e) s leads = absurd (not_bucket _ _ _ (sym s))
  same_way k q (suc d) zero s leads = absurd (not_bucket _ _ _ s)
  same_way k q (suc d) (suc e) s leads =
      let same : link (at k d) ≡ link (at q e) = same_node (is_high d k) (is_high e q) _ _ s in
      let le : d ≤ suc d = omega arith in
      let before : link (at k d) ≢ nowhere = leads_before k (suc d) d le leads in
      let rest : IsSameWay home link k q d e = same_way k q d e (trees.once _ _ same before) before in
      record {
        depth = ap suc rest.depth;
        ways = λ c le. elim (cases_eq c (suc d)) [
          | inl last ↦ subst (λ (x : ℕ). at k x ≡ at q x) (sym last) (s ∙ ap (λ (x : ℕ). at q (suc x)) (sym rest.depth))
          | inr ne ↦ let le' : c ≤ d = omega (arith, le, ne) in rest.ways c le'
        ];
      }

  -- no node is twice on a way
  pub once_on_way : (k : List ℕ) (d e : ℕ) → link (at k d) ≡ link (at k e) → link (at k d) ≢ nowhere → d ≡ e
  once_on_way k d e s leads = (same_way k k d e (trees.once _ _ s leads) leads).depth

  -- the nodes that a way passes
  abbrev passed_nodes : List ℕ → ℕ → List ℕ
  passed_nodes k zero = []
  passed_nodes k (suc d) = link (at k d) ∷ passed_nodes k d

  passed_length : (k : List ℕ) (d : ℕ) → length (passed_nodes k d) ≡ d
  passed_length k zero = refl
  passed_length k (suc d) = ap suc (passed_length k d)

  others : (k : List ℕ) (x d : ℕ) → ((e : ℕ) → e < d → x ≢ link (at k e)) → AllByRecursion (λ y. eqb x y ≡ false) (passed_nodes k d)
  others k x zero ne = tt
  others k x (suc d) ne =
      let lt : d < suc d = omega arith in (
        ne_eqb x (link (at k d)) (ne d lt),
        others k x d (λ e le. let lt' : e < suc d = omega (arith, le) in ne e lt'),
      )

  distinct : (k : List ℕ) (d : ℕ) → ((e : ℕ) → e < d → link (at k e) ≢ nowhere) → IsDistinct eqb (passed_nodes k d)
  unfolding IsDistinct
  distinct k zero leads = tt
  distinct k (suc d) leads =
      let lt : d < suc d = omega arith in (
        others k (link (at k d)) d (λ e lt' s. let same : d ≡ e = once_on_way k d e s (leads d lt) in let bad : ⊥ = omega (arith, same, lt') in bad),
        distinct k d (λ e lt'. let lt'' : e < suc d = omega (arith, lt') in leads e lt''),
      )

  passed_within : (n : ℕ) → ((p : Place) → link p ≢ nowhere → link p < n) → (k : List ℕ) (d : ℕ) → ((e : ℕ) → e < d → link (at k e) ≢ nowhere)
      → (q : ℕ) → list_any (eqb q) (passed_nodes k d) ≡ true → q < n
  passed_within n within k zero leads q e = absurd (true_false false e refl)
  passed_within n within k (suc d) leads q e =
      let lt : d < suc d = omega arith in
      elim (cases_eq q (link (at k d))) [
        | inl same ↦ subst (λ (x : ℕ). x < n) (sym same) (within (at k d) (leads d lt))
        | inr ne ↦
            let rest : list_any (eqb q) (passed_nodes k d) ≡ true = subst (λ (b : Bool). (b || list_any (eqb q) (passed_nodes k d)) ≡ true) (ne_eqb q (link (at k d)) ne) e in
            passed_within n within k d (λ e lt'. let lt'' : e < suc d = omega (arith, lt') in leads e lt'') q rest
      ]

  -- a way passes no more nodes than there are
  pub way_within : (n : ℕ) → ((p : Place) → link p ≢ nowhere → link p < n) → (k : List ℕ) (d : ℕ) → ((e : ℕ) → e < d → link (at k e) ≢ nowhere) → d ≤ n
  way_within n within k d leads =
      let most : length (passed_nodes k d) ≤ n = length-le_from_distinct_below (passed_nodes k d) n (distinct k d leads) (passed_within n within k d leads) in
      subst (λ (x : ℕ). x ≤ n) (passed_length k d) most

  -- a way that ends at the link on a side of the last node of another way is that way and one step more
  pub side_way : (k : List ℕ) (d : ℕ) (b : Bool) (q : List ℕ) (e : ℕ) → link (at k d) ≢ nowhere → link (side_of b (link (at k d))) ≢ nowhere
      → link (at q e) ≡ link (side_of b (link (at k d))) → IsSideWay home link k d b q
  side_way k d b q zero leads on s = absurd (not_bucket b _ _ (trees.once _ _ (sym s) on))
  side_way k d b q (suc e) leads on s =
      let place : side_of b (link (at k d)) ≡ at q (suc e) = trees.once _ _ (sym s) on in
      let node : link (at k d) ≡ link (at q e) = same_node b (is_high e q) _ _ place in
      let rest : IsSameWay home link k q d e = same_way k q d e (trees.once _ _ node leads) leads in
      record { place = place ∙ ap (λ (x : ℕ). at q (suc x)) (sym rest.depth); ways = rest.ways }
