-- The map of a row of nodes, by what each node has.
use Rattle.std.proofs.Common.{◌≡◌, ◌≢◌, ℕ, Bool, true, false, cond, List, [], ◌∷◌, Option, Some, None, refl, sym, ap, subst, ◌∙◌, arith, ◌⊎◌, inl, inr}
use Prim.Native.Nat.{zero, suc}
use Rattle.std.specs.Ordering.{nat_cmp}
use Rattle.std.specs.Cmp.Lexicographic.{slice_cmp, nat_list_cmp_total}
use Rattle.std.specs.FinMap as map
use Rattle.std.specs.FinMap.{find, get-from_entries, get-insert, get-remove, same_map, slice_cmp-IsAntisymmetric, nat_cmp-IsAntisymmetric}
use Rattle.std.proofs.lemmas.Bool.{cases_eq}
use Rattle.gx_base.specs.declared.order.Slot.{Slot}
use Rattle.id_table.specs.declared.node.Entry.{Entry}
use Rattle.id_table.specs.declared.node.Node.{Node}
use Rattle.id_table.specs.Inner.Nodes.{key_of, is_same, entry_at, is_live_at, live_entries, slots_of}
use Rattle.id_table.proofs.Keys.{same_key-true, same_key-itself}
use Rattle.id_table.proofs.Tests.{true_false, by_test, differ, differ_not, picked, passed}

abbrev found : List ℕ → List (List ℕ × Slot) → Option Slot
found q es = find (slice_cmp nat_cmp) q es

-- ---- one node more in front

-- with an id that the key is not, or with none
skipped : (b : Bool) (k : List ℕ) (s : Slot) (es : List (List ℕ × Slot)) (q : List ℕ) → (b ≡ true → k ≢ q) → found q (cond b ((k, s) ∷ es) es) ≡ found q es
skipped true k s es q ne = passed (is_same q k) (Some s) (found q es) (differ q k (λ e. ne refl (sym e)))
skipped false k s es q ne = refl

taken : (b : Bool) (k : List ℕ) (s : Slot) (es : List (List ℕ × Slot)) (q : List ℕ) → b ≡ true → k ≡ q → found q (cond b ((k, s) ∷ es) es) ≡ Some s
taken true k s es q live e = picked (is_same q k) (Some s) (found q es) (subst (λ (x : List ℕ). is_same q x ≡ true) (sym e) (same_key-itself q))
taken false k s es q live e = absurd (true_false false live refl)

-- ---- what a row shows of a key

-- a node has the key
pub record Holds (nodes : List Node) (q : List ℕ) : Type 0 where
  pub at : ℕ
  pub live : is_live_at nodes at ≡ true
  pub named : key_of (entry_at nodes at) ≡ q

pub record Lacks (nodes : List Node) (q : List ℕ) : Type 0 where
  pub none : (i : ℕ) → is_live_at nodes i ≡ true → key_of (entry_at nodes i) ≢ q

lacks_more : (n : Node) (nodes : List Node) (q : List ℕ) → (n.entry.is_live ≡ true → key_of n.entry ≢ q) → ((i : ℕ) → is_live_at nodes i ≡ true → key_of (entry_at nodes i) ≢ q)
    → (i : ℕ) → is_live_at (n ∷ nodes) i ≡ true → key_of (entry_at (n ∷ nodes) i) ≢ q
lacks_more n nodes q ne none zero live = ne live
lacks_more n nodes q ne none (suc i) live = none i live

behind : (n : Node) (nodes : List Node) (q : List ℕ) → (n.entry.is_live ≡ true → key_of n.entry ≢ q) → Holds nodes q ⊎ Lacks nodes q → Holds (n ∷ nodes) q ⊎ Lacks (n ∷ nodes) q
behind n nodes q ne rest = elim rest [
  | inl h ↦ inl (record { at = suc h.at; live = h.live; named = h.named })
  | inr l ↦ inr (record { none = lacks_more n nodes q ne l.none })
]

pub look : (nodes : List Node) (q : List ℕ) → Holds nodes q ⊎ Lacks nodes q
look [] q = inr (record { none = λ i live. absurd (true_false false live refl) })
look (n ∷ nodes) q =
    by_test n.entry.is_live (Holds (n ∷ nodes) q ⊎ Lacks (n ∷ nodes) q)
    (λ live. by_test (is_same q (key_of n.entry)) (Holds (n ∷ nodes) q ⊎ Lacks (n ∷ nodes) q)
    (λ same. inl (record { at = 0; live = live; named = sym (same_key-true q (key_of n.entry) same) }))
    (λ other. behind n nodes q (λ _ e. differ_not q (key_of n.entry) other (sym e)) (look nodes q)))
    (λ bare. behind n nodes q (λ live. absurd (true_false n.entry.is_live live bare)) (look nodes q))

found_none : (nodes : List Node) (q : List ℕ) → ((i : ℕ) → is_live_at nodes i ≡ true → key_of (entry_at nodes i) ≢ q) → found q (live_entries nodes) ≡ None
found_none [] q none = refl
found_none (n ∷ nodes) q none = skipped n.entry.is_live (key_of n.entry) n.entry.slot (live_entries nodes) q (none 0) ∙ found_none nodes q (λ i. none (suc i))

found_some : (nodes : List Node) (q : List ℕ) (i : ℕ) → is_live_at nodes i ≡ true → key_of (entry_at nodes i) ≡ q → ((j : ℕ) → is_live_at nodes j ≡ true → key_of (entry_at nodes j) ≡ q → j ≡ i)
    → found q (live_entries nodes) ≡ Some (entry_at nodes i).slot
found_some [] q i live named alone = absurd (true_false false live refl)
found_some (n ∷ nodes) q zero live named alone = taken n.entry.is_live (key_of n.entry) n.entry.slot (live_entries nodes) q live named
found_some (n ∷ nodes) q (suc i) live named alone =
    skipped n.entry.is_live (key_of n.entry) n.entry.slot (live_entries nodes) q (λ l e. let same : 0 ≡ suc i = alone 0 l e in let bad : ⊥ = omega (arith, same) in bad)
    ∙ found_some nodes q i live named (λ j l e. let same : suc j ≡ suc i = alone (suc j) l e in omega (arith, same))

-- no two nodes have one key
abbrev pub Apart : List Node → Type 0
Apart nodes = (i j : ℕ) → is_live_at nodes i ≡ true → is_live_at nodes j ≡ true → key_of (entry_at nodes i) ≡ key_of (entry_at nodes j) → i ≡ j

pub get_none : (nodes : List Node) (q : List ℕ) → ((i : ℕ) → is_live_at nodes i ≡ true → key_of (entry_at nodes i) ≢ q) → map.get (slots_of nodes) q ≡ None
get_none nodes q none = get-from_entries nat_list_cmp_total (live_entries nodes) q ∙ found_none nodes q none

pub get_some : (nodes : List Node) (q : List ℕ) (i : ℕ) → Apart nodes → is_live_at nodes i ≡ true → key_of (entry_at nodes i) ≡ q → map.get (slots_of nodes) q ≡ Some (entry_at nodes i).slot
get_some nodes q i apart live named = get-from_entries nat_list_cmp_total (live_entries nodes) q ∙ found_some nodes q i live named (λ j l e. apart j i l live (e ∙ sym named))

-- a key that the map has not is at no node
pub none_from : (nodes : List Node) (q : List ℕ) → Apart nodes → map.get (slots_of nodes) q ≡ None → (i : ℕ) → is_live_at nodes i ≡ true → key_of (entry_at nodes i) ≢ q
none_from nodes q apart none i live named = let bad : ◌≡◌ {A = Option Slot} (Some (entry_at nodes i).slot) None = sym (get_some nodes q i apart live named) ∙ none in cc

-- ---- an id comes, and one goes

-- the row new shows r of the key k, and of the others what the row showed before
pub record IsWritten (old new : List Node) (k : List ℕ) (r : Option Slot) : Type 0 where
  pub got : (q : List ℕ) → map.get (slots_of new) q ≡ cond (is_same q k) r (map.get (slots_of old) q)

-- two rows with the same look-ups are one map
pub inserted : (old new : List Node) (k : List ℕ) (s : Slot) → IsWritten old new k (Some s) → slots_of new ≡ map.insert (slots_of old) k s
inserted old new k s w = same_map nat_list_cmp_total (slice_cmp-IsAntisymmetric nat_cmp-IsAntisymmetric) _ _ (λ q. w.got q ∙ sym (get-insert nat_list_cmp_total (slots_of old) k s q))

pub removed : (old new : List Node) (k : List ℕ) → IsWritten old new k None → slots_of new ≡ map.remove (slots_of old) k
removed old new k w = same_map nat_list_cmp_total (slice_cmp-IsAntisymmetric nat_cmp-IsAntisymmetric) _ _ (λ q. w.got q ∙ sym (get-remove nat_list_cmp_total (slots_of old) k q))

-- what is shown of each key, from what each node has
pub written : (old new : List Node) (k : List ℕ) (r : Option Slot) → map.get (slots_of new) k ≡ r → ((q : List ℕ) → q ≢ k → map.get (slots_of new) q ≡ map.get (slots_of old) q) → IsWritten old new k r
written old new k r here others = record {
  got = λ q. by_test (is_same q k) (map.get (slots_of new) q ≡ cond (is_same q k) r (map.get (slots_of old) q))
      (λ t. ap (map.get (slots_of new)) (same_key-true q k t) ∙ here ∙ sym (picked (is_same q k) r (map.get (slots_of old) q) t))
      (λ f. others q (differ_not q k f) ∙ sym (passed (is_same q k) r (map.get (slots_of old) q) f));
}

-- the node j gets an entry
module _ (old new : List Node) (j : ℕ) (e : Entry) (apart : Apart old) (apart' : Apart new) (free : is_live_at old j ≡ false) (here : entry_at new j ≡ e) (live : e.is_live ≡ true) (rest : (x : ℕ) → x ≢ j → entry_at new x ≡ entry_at old x) where
  here_live : is_live_at new j ≡ true
  here_live = ap (λ (x : Entry). x.is_live) here ∙ live

  put_others : (q : List ℕ) → q ≢ key_of e → map.get (slots_of new) q ≡ map.get (slots_of old) q
  put_others q ne = elim (look old q) [
    | inl h ↦
        let other : h.at ≢ j = λ s. true_false (is_live_at old h.at) h.live (ap (is_live_at old) s ∙ free) in
        let same : entry_at new h.at ≡ entry_at old h.at = rest h.at other in
        get_some new q h.at apart' (ap (λ (x : Entry). x.is_live) same ∙ h.live) (ap key_of same ∙ h.named) ∙ ap (λ (x : Entry). Some x.slot) same ∙ sym (get_some old q h.at apart h.live h.named)
    | inr l ↦
        get_none new q (λ x live' named. elim (cases_eq x j) [
          | inl s ↦ ne (sym named ∙ ap (λ (y : ℕ). key_of (entry_at new y)) s ∙ ap key_of here)
          | inr other ↦ l.none x (ap (λ (y : Entry). y.is_live) (sym (rest x other)) ∙ live') (ap key_of (sym (rest x other)) ∙ named)
        ]) ∙ sym (get_none old q l.none)
  ]

  pub put_written : IsWritten old new (key_of e) (Some e.slot)
  put_written = written old new (key_of e) (Some e.slot) (get_some new (key_of e) j apart' here_live (ap key_of here) ∙ ap (λ (x : Entry). Some x.slot) here) put_others

-- the id of the node i goes, and the entry of the node l moves up to it
module _ (old new : List Node) (l i : ℕ) (apart : Apart old) (apart' : Apart new) (leaf : is_live_at old l ≡ true) (node : is_live_at old i ≡ true) (freed : is_live_at new l ≡ false) (moved : i ≢ l → entry_at new i ≡ entry_at old l) (rest : (x : ℕ) → x ≢ l → x ≢ i → entry_at new x ≡ entry_at old x) where
  abbrev gone : List ℕ
  gone = key_of (entry_at old i)

  not_leaf : (x : ℕ) → is_live_at new x ≡ true → x ≢ l
  not_leaf x live e = true_false (is_live_at new x) live (ap (is_live_at new) e ∙ freed)

  -- a key that no node had but the one whose id goes
  none_left : (q : List ℕ) → ((x : ℕ) → is_live_at old x ≡ true → key_of (entry_at old x) ≡ q → x ≡ i) → (x : ℕ) → is_live_at new x ≡ true → key_of (entry_at new x) ≢ q
  none_left q alone x live named =
      let ne : x ≢ l = not_leaf x live in
      elim (cases_eq x i) [
        | inl e ↦
            let other : i ≢ l = λ s. ne (e ∙ s) in
            let same : entry_at new x ≡ entry_at old l = ap (entry_at new) e ∙ moved other in
            other (sym (alone l leaf (ap key_of (sym same) ∙ named)))
        | inr away ↦
            let same : entry_at new x ≡ entry_at old x = rest x ne away in
            away (alone x (ap (λ (y : Entry). y.is_live) (sym same) ∙ live) (ap key_of (sym same) ∙ named))
      ]

  shows : (q : List ℕ) (x y : ℕ) → entry_at new x ≡ entry_at old y → is_live_at old y ≡ true → key_of (entry_at old y) ≡ q → map.get (slots_of new) q ≡ map.get (slots_of old) q
  shows q x y same live named =
      get_some new q x apart' (ap (λ (z : Entry). z.is_live) same ∙ live) (ap key_of same ∙ named) ∙ ap (λ (z : Entry). Some z.slot) same ∙ sym (get_some old q y apart live named)

  take_others : (q : List ℕ) → q ≢ gone → map.get (slots_of new) q ≡ map.get (slots_of old) q
  take_others q ne = elim (look old q) [
    | inl h ↦
        let away : h.at ≢ i = λ s. ne (sym h.named ∙ ap (λ (y : ℕ). key_of (entry_at old y)) s) in
        elim (cases_eq h.at l) [
          | inl e ↦
              let other : i ≢ l = λ s. away (e ∙ sym s) in
              shows q i h.at (moved other ∙ ap (entry_at old) (sym e)) h.live h.named
          | inr other ↦ shows q h.at h.at (rest h.at other away) h.live h.named
        ]
    | inr lacks ↦ get_none new q (none_left q (λ x live named. absurd (lacks.none x live named))) ∙ sym (get_none old q lacks.none)
  ]

  pub take_written : IsWritten old new gone None
  take_written = written old new gone None (get_none new gone (none_left gone (λ x live named. apart x i live node named))) take_others
