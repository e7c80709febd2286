-- Places and links, where one link changes.
use Rattle.std.proofs.Common.{◌≡◌, ◌≢◌, ℕ, ◌<◌, ◌≤◌, Bool, true, false, List, refl, sym, ap, subst, ◌∙◌, arith, ◌⊎◌, inl, inr}
use Prim.Native.Nat.{zero, suc}
use Rattle.std.proofs.lemmas.Bool.{cases_eq}
use Rattle.id_table.specs.declared.node.Entry.{Entry}
use Rattle.id_table.specs.declared.spot.Place.{Place}
use Rattle.id_table.specs.declared.spot.Place.TheVariants.{Bucket, Low, High}
use Rattle.id_table.specs.Inner.Nodes.{nowhere}
use Rattle.id_table.specs.Inner.Places.{side_of, way}
use Rattle.id_table.specs.Inner.Forests.{AreTrees, Stands}
use Rattle.id_table.specs.Inner.Ways.{is_high}
use Rattle.id_table.proofs.Tests.{true_false}
use Rattle.id_table.proofs.Ways.{same_node, not_bucket}

-- ---- whether two places are one

abbrev number : Place → ℕ
number (Bucket i) = i
number (Low i) = i
number (High i) = i

abbrev kind : Place → ℕ
kind (Bucket i) = 0
kind (Low i) = 1
kind (High i) = 2

-- of two places that differ in a number
apart_by : (f : Place → ℕ) (p q : Place) → f p ≢ f q → (p ≡ q) ⊎ (p ≢ q)
apart_by f p q ne = inr (λ e. ne (ap f e))

pub cases_place : (p q : Place) → (p ≡ q) ⊎ (p ≢ q)
cases_place (Bucket i) (Bucket j) = elim (cases_eq i j) [ inl e ↦ inl (ap Bucket e) | inr ne ↦ apart_by number (Bucket i) (Bucket j) ne ]
cases_place (Low i) (Low j) = elim (cases_eq i j) [ inl e ↦ inl (ap Low e) | inr ne ↦ apart_by number (Low i) (Low j) ne ]
cases_place (High i) (High j) = elim (cases_eq i j) [ inl e ↦ inl (ap High e) | inr ne ↦ apart_by number (High i) (High j) ne ]
cases_place (Bucket i) (Low j) = let ne : 0 ≢ 1 = omega arith in apart_by kind (Bucket i) (Low j) ne
cases_place (Bucket i) (High j) = let ne : 0 ≢ 2 = omega arith in apart_by kind (Bucket i) (High j) ne
cases_place (Low i) (Bucket j) = let ne : 1 ≢ 0 = omega arith in apart_by kind (Low i) (Bucket j) ne
cases_place (Low i) (High j) = let ne : 1 ≢ 2 = omega arith in apart_by kind (Low i) (High j) ne
cases_place (High i) (Bucket j) = let ne : 2 ≢ 0 = omega arith in apart_by kind (High i) (Bucket j) ne
cases_place (High i) (Low j) = let ne : 2 ≢ 1 = omega arith in apart_by kind (High i) (Low j) ne

module _ (home : List ℕ → ℕ) (link : Place → ℕ) (entry : ℕ → Entry) (trees : AreTrees home link entry) (none : (entry nowhere).is_live ≡ false) where
  abbrev at : List ℕ → ℕ → Place
  at k d = way home link k d

  pub live_leads : (i : ℕ) → (entry i).is_live ≡ true → i ≢ nowhere
  live_leads i live e = true_false (entry i).is_live live (ap (λ (x : ℕ). (entry x).is_live) e ∙ none)

  -- a node on whose side a way goes on has an id
  pub live_above : (k : List ℕ) (d : ℕ) → ((e : ℕ) → e < d → link (at k e) ≢ nowhere) → (b : Bool) (i : ℕ) → side_of b i ≡ at k d → (entry i).is_live ≡ true
  live_above k zero leads b i s = absurd (not_bucket b i (home k) s)
  live_above k (suc d) leads b i s =
      let lt : d < suc d = omega arith in
      subst (λ (x : ℕ). (entry x).is_live ≡ true) (sym (same_node b (is_high d k) i (link (at k d)) s)) (trees.ends (at k d) (leads d lt))

  module _ (a : Place) (link' : Place → ℕ) (others : (p : Place) → p ≢ a → link' p ≡ link p) where
    -- a way that does not come to the place stays
    pub same_until : (k : List ℕ) (d : ℕ) → ((e : ℕ) → e < d → at k e ≢ a) → way home link' k d ≡ at k d
    same_until k zero avoids = refl
    same_until k (suc d) avoids =
        let lt : d < suc d = omega arith in
        ap (λ (p : Place). side_of (is_high d k) (link' p)) (same_until k d (λ e l. let l' : e < suc d = omega (arith, l) in avoids e l'))
        ∙ ap (side_of (is_high d k)) (others (at k d) (avoids d lt))

    pub stands_still : (k : List ℕ) (d i : ℕ) → link (at k d) ≡ i → ((e : ℕ) → e ≤ d → at k e ≢ a) → Stands home link' k i
    stands_still k d i there avoids =
        let le : d ≤ d = omega arith in
        record {
          depth = d;
          there = ap link' (same_until k d (λ e l. let l' : e ≤ d = omega (arith, l) in avoids e l')) ∙ others (at k d) (avoids d le) ∙ there;
        }
