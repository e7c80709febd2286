-- Trees: what an id that comes makes of them.
use Rattle.std.proofs.Common.{◌≡◌, ◌≢◌, ℕ, ◌<◌, Bool, true, false, List, sym, ap, subst, ◌∙◌, inl, inr}
use Rattle.std.proofs.lemmas.Bool.{cases_eq}
use Rattle.id_table.specs.declared.node.Entry.{Entry}
use Rattle.id_table.specs.declared.spot.Place.{Place}
use Rattle.id_table.specs.declared.spot.Place.TheVariants.{Low, High}
use Rattle.id_table.specs.Inner.Nodes.{nowhere, key_of}
use Rattle.id_table.specs.Inner.Places.{side_of, way}
use Rattle.id_table.specs.Inner.Forests.{AreTrees, Stands}
use Rattle.id_table.proofs.Tests.{true_false}
use Rattle.id_table.proofs.Ways.{leads_before}
use Rattle.id_table.proofs.Links.{cases_place, live_leads, live_above, same_until, stands_still}

module _ (home : List ℕ → ℕ) (link : Place → ℕ) (entry : ℕ → Entry) (trees : AreTrees home link entry) (none : (entry nowhere).is_live ≡ false) (a : Place) (link' : Place → ℕ) (others : (p : Place) → p ≢ a → link' p ≡ link p) where
  abbrev at : List ℕ → ℕ → Place
  at k d = way home link k d

  -- ---- the id of a new entry comes to the end of its way
  module _ (k : List ℕ) (d j : ℕ) (entry' : ℕ → Entry) (place : a ≡ at k d) (end : link a ≡ nowhere) (leads : (e : ℕ) → e < d → link (at k e) ≢ nowhere) (free : (entry j).is_live ≡ false) (node : j ≢ nowhere) (absent : (i : ℕ) → (entry i).is_live ≡ true → key_of (entry i) ≢ k) (here : link' a ≡ j) (live : (entry' j).is_live ≡ true) (named : key_of (entry' j) ≡ k) (rest : (i : ℕ) → i ≢ j → entry' i ≡ entry i) where
    -- no link led to the node
    unlinked : (p : Place) → link p ≢ j
    unlinked p e =
        let leads' : link p ≢ nowhere = λ n. node (sym e ∙ n) in
        true_false (entry j).is_live (subst (λ (x : ℕ). (entry x).is_live ≡ true) e (trees.ends p leads')) free

    other : (i : ℕ) → (entry' i).is_live ≡ true → i ≢ j → (entry i).is_live ≡ true
    other i live' ne = sym (ap (λ (x : Entry). x.is_live) (rest i ne)) ∙ live'

    not_here : (i : ℕ) → (entry' i).is_live ≡ false → i ≢ j
    not_here i bare e = true_false (entry' i).is_live (subst (λ (x : ℕ). (entry' x).is_live ≡ true) (sym e) live) bare

    was_bare : (i : ℕ) → (entry' i).is_live ≡ false → (entry i).is_live ≡ false
    was_bare i bare = sym (ap (λ (x : Entry). x.is_live) (rest i (not_here i bare))) ∙ bare

    not_side : (b : Bool) (i : ℕ) → (entry' i).is_live ≡ false → side_of b i ≢ a
    not_side b i bare e = true_false (entry i).is_live (live_above home link entry trees none k d leads b i (e ∙ place)) (was_bare i bare)

    ends : (p : Place) → link' p ≢ nowhere → (entry' (link' p)).is_live ≡ true
    ends p on = elim (cases_place p a) [
      | inl e ↦ subst (λ (x : ℕ). (entry' x).is_live ≡ true) (sym (ap link' e ∙ here)) live
      | inr ne ↦
          let same : link' p ≡ link p = others p ne in
          let was : (entry (link p)).is_live ≡ true = trees.ends p (λ n. on (same ∙ n)) in
          subst (λ (x : ℕ). (entry' x).is_live ≡ true) (sym same) (ap (λ (x : Entry). x.is_live) (rest (link p) (unlinked p)) ∙ was)
    ]

    once : (p q : Place) → link' p ≡ link' q → link' p ≢ nowhere → p ≡ q
    once p q s on = elim (cases_place p a) [
      | inl e ↦ elim (cases_place q a) [
        | inl e' ↦ e ∙ sym e'
        | inr ne' ↦ absurd (unlinked q (sym (others q ne') ∙ sym s ∙ ap link' e ∙ here))
      ]
      | inr ne ↦ elim (cases_place q a) [
        | inl e' ↦ absurd (unlinked p (sym (others p ne) ∙ s ∙ ap link' e' ∙ here))
        | inr ne' ↦ trees.once p q (sym (others p ne) ∙ s ∙ others q ne') (λ n. on (others p ne ∙ n))
      ]
    ]

    stands : (i : ℕ) → (entry' i).is_live ≡ true → Stands home link' (key_of (entry' i)) i
    stands i live' = elim (cases_eq i j) [
      | inl e ↦
          let mine : Stands home link' k j = record {
            depth = d;
            there = ap link' (same_until home link entry trees none a link' others k d (λ c l s. leads c l (ap link s ∙ end)) ∙ sym place) ∙ here;
          } in
          let named' : key_of (entry' i) ≡ k = ap (λ (x : ℕ). key_of (entry' x)) e ∙ named in
          subst (λ (q : List ℕ). Stands home link' q i) (sym named') (subst (λ (x : ℕ). Stands home link' k x) (sym e) mine)
      | inr ne ↦
          let was : (entry i).is_live ≡ true = other i live' ne in
          let old : Stands home link (key_of (entry i)) i = trees.stands i was in
          let q = key_of (entry i) in
          let on : link (at q old.depth) ≢ nowhere = λ n. live_leads home link entry trees none i was (sym old.there ∙ n) in
          subst (λ (x : Entry). Stands home link' (key_of x) i) (sym (rest i ne))
          (stands_still home link entry trees none a link' others q old.depth i old.there (λ e le s. leads_before home link entry trees none q old.depth e le on (ap link s ∙ end)))
    ]

    apart : (x y : ℕ) → (entry' x).is_live ≡ true → (entry' y).is_live ≡ true → key_of (entry' x) ≡ key_of (entry' y) → x ≡ y
    apart x y lx ly s = elim (cases_eq x j) [
      | inl e ↦ elim (cases_eq y j) [
        | inl e' ↦ e ∙ sym e'
        | inr ne' ↦ absurd (absent y (other y ly ne') (ap key_of (sym (rest y ne')) ∙ sym s ∙ ap (λ (z : ℕ). key_of (entry' z)) e ∙ named))
      ]
      | inr ne ↦ elim (cases_eq y j) [
        | inl e' ↦ absurd (absent x (other x lx ne) (ap key_of (sym (rest x ne)) ∙ s ∙ ap (λ (z : ℕ). key_of (entry' z)) e' ∙ named))
        | inr ne' ↦ trees.apart x y (other x lx ne) (other y ly ne') (ap key_of (sym (rest x ne)) ∙ s ∙ ap key_of (rest y ne'))
      ]
    ]

    pub trees_put : AreTrees home link' entry'
    trees_put = record {
      ends = ends;
      once = once;
      bare_low = λ i bare. others (Low i) (not_side false i bare) ∙ trees.bare_low i (was_bare i bare);
      bare_high = λ i bare. others (High i) (not_side true i bare) ∙ trees.bare_high i (was_bare i bare);
      stands = stands;
      apart = apart;
    }
