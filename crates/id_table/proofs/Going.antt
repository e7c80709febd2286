-- Trees: what an id that goes makes of them.
use Rattle.std.proofs.Common.{◌≡◌, ◌≢◌, ℕ, ◌≤◌, Bool, true, false, List, refl, sym, ap, subst, ◌∙◌, arith, inl, inr}
use Prim.Native.Nat.{suc}
use Rattle.std.proofs.lemmas.Bool.{cases_eq}
use Rattle.id_table.specs.declared.node.Entry.{Entry}
use Rattle.id_table.specs.declared.spot.Place.{Place}
use Rattle.id_table.specs.declared.spot.Place.TheVariants.{Low, High}
use Rattle.id_table.specs.Inner.Nodes.{nowhere, key_of}
use Rattle.id_table.specs.Inner.Places.{side_of, way}
use Rattle.id_table.specs.Inner.Forests.{AreTrees, Stands}
use Rattle.id_table.specs.Inner.Ways.{is_high}
use Rattle.id_table.proofs.Tests.{true_false}
use Rattle.id_table.proofs.Ways.{side_bare, past_none}
use Rattle.id_table.proofs.Links.{cases_place, live_leads, stands_still}

module _ (home : List ℕ → ℕ) (link : Place → ℕ) (entry : ℕ → Entry) (trees : AreTrees home link entry) (none : (entry nowhere).is_live ≡ false) (a : Place) (link' : Place → ℕ) (others : (p : Place) → p ≢ a → link' p ≡ link p) where
  abbrev at : List ℕ → ℕ → Place
  at k d = way home link k d

  -- ---- the entry of a leaf moves up to the node whose id goes
  module _ (l i0 c : ℕ) (entry' : ℕ → Entry) (leaf : link a ≡ l) (leads : l ≢ nowhere) (low : link (Low l) ≡ nowhere) (high : link (High l) ≡ nowhere) (above : link (at (key_of (entry l)) c) ≡ i0) (node : i0 ≢ nowhere) (cut : link' a ≡ nowhere) (freed : (entry' l).is_live ≡ false) (moved : i0 ≢ l → entry' i0 ≡ entry l) (rest : (i : ℕ) → i ≢ l → i ≢ i0 → entry' i ≡ entry i) where
    leaf_live : (entry l).is_live ≡ true
    leaf_live = subst (λ (x : ℕ). (entry x).is_live ≡ true) leaf (trees.ends a (λ n. leads (sym leaf ∙ n)))

    leaf_side : (b : Bool) → link (side_of b l) ≡ nowhere
    leaf_side true = high
    leaf_side false = low

    not_leaf : (x : ℕ) → (entry' x).is_live ≡ true → x ≢ l
    not_leaf x live e = true_false (entry' x).is_live live (ap (λ (y : ℕ). (entry' y).is_live) e ∙ freed)

    -- a way to another node does not come to the leaf
    avoids : (q : List ℕ) (d x : ℕ) → link (at q d) ≡ x → x ≢ nowhere → x ≢ l → (e : ℕ) → e ≤ d → at q e ≢ a
    avoids q d x there on ne e le s = elim (cases_eq e d) [
      | inl same ↦ ne (sym there ∙ ap (λ (z : ℕ). link (at q z)) (sym same) ∙ ap link s ∙ leaf)
      | inr before ↦
          let below : suc e ≤ d = omega (arith, le, before) in
          let end : link (at q (suc e)) ≡ nowhere = ap (λ (z : ℕ). link (side_of (is_high e q) z)) (ap link s ∙ leaf) ∙ leaf_side (is_high e q) in
          on (sym there ∙ past_none home link entry trees none q (suc e) d below end)
    ]

    kept : (p : Place) → link' p ≢ nowhere → p ≢ a
    kept p on e = on (ap link' e ∙ cut)

    ends : (p : Place) → link' p ≢ nowhere → (entry' (link' p)).is_live ≡ true
    ends p on =
        let ne : p ≢ a = kept p on in
        let same : link' p ≡ link p = others p ne in
        let on' : link p ≢ nowhere = λ n. on (same ∙ n) in
        let other : link p ≢ l = λ e. ne (trees.once p a (e ∙ sym leaf) on') in
        subst (λ (x : ℕ). (entry' x).is_live ≡ true) (sym same) (elim (cases_eq (link p) i0) [
          | inl e ↦
              let other' : i0 ≢ l = λ e'. other (e ∙ e') in
              subst (λ (x : ℕ). (entry' x).is_live ≡ true) (sym e) (ap (λ (x : Entry). x.is_live) (moved other') ∙ leaf_live)
          | inr ne' ↦ ap (λ (x : Entry). x.is_live) (rest (link p) other ne') ∙ trees.ends p on'
        ])

    once : (p q : Place) → link' p ≡ link' q → link' p ≢ nowhere → p ≡ q
    once p q s on =
        let np : p ≢ a = kept p on in
        let nq : q ≢ a = kept q (λ n. on (s ∙ n)) in
        trees.once p q (sym (others p np) ∙ s ∙ others q nq) (λ n. on (others p np ∙ n))

    bare : (b : Bool) (i : ℕ) → (entry' i).is_live ≡ false → link (side_of b i) ≡ nowhere
    bare b i gone = elim (cases_eq i l) [
      | inl e ↦ ap (λ (x : ℕ). link (side_of b x)) e ∙ leaf_side b
      | inr ne ↦ elim (cases_eq i i0) [
        | inl e ↦
            let other : i0 ≢ l = λ e'. ne (e ∙ e') in
            absurd (true_false (entry l).is_live leaf_live (ap (λ (x : Entry). x.is_live) (sym (moved other)) ∙ ap (λ (x : ℕ). (entry' x).is_live) (sym e) ∙ gone))
        | inr ne' ↦ side_bare home link entry trees none b i (ap (λ (x : Entry). x.is_live) (sym (rest i ne ne')) ∙ gone)
      ]
    ]

    bare' : (b : Bool) (i : ℕ) → (entry' i).is_live ≡ false → link' (side_of b i) ≡ nowhere
    bare' b i gone = elim (cases_place (side_of b i) a) [
      | inl e ↦ ap link' e ∙ cut
      | inr ne ↦ others (side_of b i) ne ∙ bare b i gone
    ]

    stands : (i : ℕ) → (entry' i).is_live ≡ true → Stands home link' (key_of (entry' i)) i
    stands i live = elim (cases_eq i i0) [
      | inl e ↦
          let other : i0 ≢ l = λ e'. not_leaf i live (e ∙ e') in
          let q = key_of (entry l) in
          let mine : Stands home link' q i0 = stands_still home link entry trees none a link' others q c i0 above (avoids q c i0 above node other) in
          let same : entry' i ≡ entry l = ap entry' e ∙ moved other in
          subst (λ (x : Entry). Stands home link' (key_of x) i) (sym same) (subst (λ (x : ℕ). Stands home link' q x) (sym e) mine)
      | inr ne ↦
          let other : i ≢ l = not_leaf i live in
          let was : (entry i).is_live ≡ true = ap (λ (x : Entry). x.is_live) (sym (rest i other ne)) ∙ live in
          let q = key_of (entry i) in
          let old : Stands home link q i = trees.stands i was in
          subst (λ (x : Entry). Stands home link' (key_of x) i) (sym (rest i other ne))
          (stands_still home link entry trees none a link' others q old.depth i old.there (avoids q old.depth i old.there (live_leads home link entry trees none i was) other))
    ]

    -- what a node with an id had before, or the leaf in its place
    pub record IsFrom (x y : ℕ) : Type 0 where
      pub was : (entry y).is_live ≡ true
      pub same : entry' x ≡ entry y
      pub up : x ≡ i0 → y ≡ l
      pub still : x ≢ i0 → y ≡ x

    pub record HasOrigin (x : ℕ) : Type 0 where
      pub origin : ℕ
      pub from : IsFrom x origin

    pub origin_of : (x : ℕ) → (entry' x).is_live ≡ true → HasOrigin x
    origin_of x live = elim (cases_eq x i0) [
      | inl e ↦
          let other : i0 ≢ l = λ e'. not_leaf x live (e ∙ e') in
          record { origin = l; from = record { was = leaf_live; same = ap entry' e ∙ moved other; up = λ _. refl; still = λ ne. absurd (ne e) } }
      | inr ne ↦
          let s : entry' x ≡ entry x = rest x (not_leaf x live) ne in
          record { origin = x; from = record { was = ap (λ (y : Entry). y.is_live) (sym s) ∙ live; same = s; up = λ e. absurd (ne e); still = λ _. refl } }
    ]

    apart : (x y : ℕ) → (entry' x).is_live ≡ true → (entry' y).is_live ≡ true → key_of (entry' x) ≡ key_of (entry' y) → x ≡ y
    apart x y lx ly s =
        let fx = origin_of x lx in
        let fy = origin_of y ly in
        let same : fx.origin ≡ fy.origin = trees.apart fx.origin fy.origin fx.from.was fy.from.was (ap key_of (sym fx.from.same) ∙ s ∙ ap key_of fy.from.same) in
        elim (cases_eq x i0) [
          | inl e ↦ elim (cases_eq y i0) [
            | inl e' ↦ e ∙ sym e'
            | inr ne' ↦ absurd (not_leaf y ly (sym (fy.from.still ne') ∙ sym same ∙ fx.from.up e))
          ]
          | inr ne ↦ elim (cases_eq y i0) [
            | inl e' ↦ absurd (not_leaf x lx (sym (fx.from.still ne) ∙ same ∙ fy.from.up e'))
            | inr ne' ↦ sym (fx.from.still ne) ∙ same ∙ fy.from.still ne'
          ]
        ]

    pub trees_taken : AreTrees home link' entry'
    trees_taken = record {
      ends = ends;
      once = once;
      bare_low = bare' false;
      bare_high = bare' true;
      stands = stands;
      apart = apart;
    }
