-- The nodes that are free, after each call.
use Rattle.std.proofs.Common.{◌≡◌, ◌≢◌, ℕ, ◌+◌, ◌<◌, true, false, List, [], ◌∷◌, ◌++◌, length, get_or, Some, refl, sym, ap, subst, ◌∙◌, arith, inl, inr}
use Rattle.std.specs.Cmp.Lexicographic.{nat_list_cmp_total}
use Rattle.std.specs.FinMap as map
use Rattle.std.specs.FinMap.{same_map, slice_cmp-IsAntisymmetric, nat_cmp-IsAntisymmetric}
use Rattle.std.proofs.lemmas.Bool.{cases_eq}
use Rattle.std.proofs.lemmas.List.{get_or_append_left, get_or_push, length_push}
use Rattle.id_table.specs.declared.node.Node.{Node}
use Rattle.id_table.specs.Inner.Nodes.{key_of, node_at, entry_at, is_live_at, slots_of}
use Rattle.id_table.specs.Inner.Frees.{AreFree, IsFreed}
use Rattle.id_table.proofs.Tests.{true_false}
use Rattle.id_table.proofs.Shown.{Apart, look, get_none, get_some}

-- ---- one number more at the end

ahead : (xs : List ℕ) (y k : ℕ) → k < length xs → get_or (xs ++ y ∷ []) k 0 ≡ get_or xs k 0
ahead xs y k lt = get_or_append_left xs (y ∷ []) 0 k lt

last : (xs : List ℕ) (y k : ℕ) → k < length (xs ++ y ∷ []) → k ≢ length xs → k < length xs
last xs y k lt ne = let more : length (xs ++ y ∷ []) ≡ length xs + 1 = length_push xs y in omega (arith, lt, ne, more)

at_last : (xs : List ℕ) (y k : ℕ) → k ≡ length xs → get_or (xs ++ y ∷ []) k 0 ≡ y
at_last xs y k e = get_or_push xs y 0 k (sym e)

-- the last free node is taken
pub popped : (at : ℕ) (free free' : List ℕ) (nodes : List Node) → free ≡ free' ++ at ∷ [] → AreFree free nodes → IsFreed at free free' nodes nodes
popped at free free' nodes e were =
    let all : AreFree (free' ++ at ∷ []) nodes = subst (λ (xs : List ℕ). AreFree xs nodes) e were in
    let more : length (free' ++ at ∷ []) ≡ length free' + 1 = length_push free' at in
    let end : length free' < length (free' ++ at ∷ []) = omega (arith, more) in
    let fits : (k : ℕ) → k < length free' → k < length (free' ++ at ∷ []) = λ k lt. omega (arith, lt, more) in
    let here : get_or (free' ++ at ∷ []) (length free') 0 ≡ at = at_last free' at (length free') refl in
    record {
      within = subst (λ (x : ℕ). x < length nodes) here (all.within (length free') end);
      bare = subst (λ (x : ℕ). is_live_at nodes x ≡ false) here (all.bare (length free') end);
      rest = record {
        within = λ k lt. subst (λ (x : ℕ). x < length nodes) (ahead free' at k lt) (all.within k (fits k lt));
        bare = λ k lt. subst (λ (x : ℕ). is_live_at nodes x ≡ false) (ahead free' at k lt) (all.bare k (fits k lt));
        once = λ j k lj lk s. all.once j k (fits j lj) (fits k lk) (ahead free' at j lj ∙ s ∙ sym (ahead free' at k lk));
      };
      other = λ k lt s. let same : k ≡ length free' = all.once k (length free') (fits k lt) end (ahead free' at k lt ∙ s ∙ sym here) in let bad : ⊥ = omega (arith, same, lt) in bad;
      count = let long : length free ≡ length (free' ++ at ∷ []) = ap length e in omega (arith, long, more);
      same = λ i. refl;
    }

-- a node with an id is not free
pub free_not : (free : List ℕ) (nodes : List Node) (at : ℕ) → AreFree free nodes → is_live_at nodes at ≡ true → (k : ℕ) → k < length free → get_or free k 0 ≢ at
free_not free nodes at were live k lt e = true_false (is_live_at nodes at) live (subst (λ (x : ℕ). is_live_at nodes x ≡ false) e (were.bare k lt))

-- an id comes to another node
pub free_put : (free : List ℕ) (old new : List Node) (at : ℕ) → AreFree free old → ((k : ℕ) → k < length free → get_or free k 0 ≢ at) → length new ≡ length old
    → ((i : ℕ) → i ≢ at → is_live_at new i ≡ is_live_at old i) → AreFree free new
free_put free old new at were other long others = record {
  within = λ k lt. subst (λ (n : ℕ). get_or free k 0 < n) (sym long) (were.within k lt);
  bare = λ k lt. others (get_or free k 0) (other k lt) ∙ were.bare k lt;
  once = were.once;
}

-- an id goes
pub free_taken : (free : List ℕ) (old new : List Node) → AreFree free old → length new ≡ length old → ((i : ℕ) → is_live_at old i ≡ false → is_live_at new i ≡ false) → AreFree free new
free_taken free old new were long others = record {
  within = λ k lt. subst (λ (n : ℕ). get_or free k 0 < n) (sym long) (were.within k lt);
  bare = λ k lt. others (get_or free k 0) (were.bare k lt);
  once = were.once;
}

-- and its node is free
pub free_freed : (free : List ℕ) (old new : List Node) (at : ℕ) → AreFree free old → length new ≡ length old → is_live_at old at ≡ true → at < length new → is_live_at new at ≡ false
    → ((i : ℕ) → is_live_at old i ≡ false → is_live_at new i ≡ false) → AreFree (free ++ at ∷ []) new
free_freed free old new at were long live lt' bare others =
    let rest : AreFree free new = free_taken free old new were long others in
    record {
      within = λ k lt. elim (cases_eq k (length free)) [
        | inl e ↦ subst (λ (x : ℕ). x < length new) (sym (at_last free at k e)) lt'
        | inr ne ↦ subst (λ (x : ℕ). x < length new) (sym (ahead free at k (last free at k lt ne))) (rest.within k (last free at k lt ne))
      ];
      bare = λ k lt. elim (cases_eq k (length free)) [
        | inl e ↦ subst (λ (x : ℕ). is_live_at new x ≡ false) (sym (at_last free at k e)) bare
        | inr ne ↦ subst (λ (x : ℕ). is_live_at new x ≡ false) (sym (ahead free at k (last free at k lt ne))) (rest.bare k (last free at k lt ne))
      ];
      once = λ j k lj lk s. elim (cases_eq j (length free)) [
        | inl e ↦ elim (cases_eq k (length free)) [
          | inl e' ↦ e ∙ sym e'
          | inr ne' ↦ absurd (free_not free old at were live k (last free at k lk ne') (sym (ahead free at k (last free at k lk ne')) ∙ sym s ∙ at_last free at j e))
        ]
        | inr ne ↦ elim (cases_eq k (length free)) [
          | inl e' ↦ absurd (free_not free old at were live j (last free at j lj ne) (sym (ahead free at j (last free at j lj ne)) ∙ s ∙ at_last free at k e'))
          | inr ne' ↦ rest.once j k (last free at j lj ne) (last free at k lk ne') (sym (ahead free at j (last free at j lj ne)) ∙ s ∙ ahead free at k (last free at k lk ne'))
        ]
      ];
    }

-- ---- rows that are the same but for blank nodes at the end

pub same_slots : (old new : List Node) → Apart old → ((i : ℕ) → node_at new i ≡ node_at old i) → slots_of new ≡ slots_of old
same_slots old new apart same = same_map nat_list_cmp_total (slice_cmp-IsAntisymmetric nat_cmp-IsAntisymmetric) _ _ gets
  where
    live : (i : ℕ) → is_live_at new i ≡ is_live_at old i
    live i = ap (λ (n : Node). n.entry.is_live) (same i)

    named : (i : ℕ) → key_of (entry_at new i) ≡ key_of (entry_at old i)
    named i = ap (λ (n : Node). key_of n.entry) (same i)

    apart' : Apart new
    apart' i j li lj e = apart i j (sym (live i) ∙ li) (sym (live j) ∙ lj) (sym (named i) ∙ e ∙ named j)

    gets : (q : List ℕ) → map.get (slots_of new) q ≡ map.get (slots_of old) q
    gets q = elim (look old q) [
      | inl h ↦ get_some new q h.at apart' (live h.at ∙ h.live) (named h.at ∙ h.named) ∙ ap (λ (n : Node). Some n.entry.slot) (same h.at) ∙ sym (get_some old q h.at apart h.live h.named)
      | inr l ↦ get_none new q (λ i li e. l.none i (sym (live i) ∙ li) (sym (named i) ∙ e)) ∙ sym (get_none old q l.none)
    ]
