-- Places that share a bound.
use Rattle.std.proofs.Common.{◌≡◌, ℕ, ◌+◌, ◌-◌, ◌*◌, ◌/◌, ◌%◌, ◌<◌, ◌≤◌, ◌⊎◌, min, Bool, true, false, List, [], ◌∷◌, ◌++◌, length, get_or, set, take, drop, filter, Option, Some, None, is_some, option_map, refl, sym, ap, subst, ◌∙◌, arith, inl, inr, take_all, take-add, take-append-drop, length-drop, length-take, get_or-take, get_or-drop, get_or-set_same, get_or-set_other, length-append, length-set}
use Rattle.std.proofs.Math.ListN.{get_or-append}
use Rattle.std.proofs.Math.Seq.{get_or-append_seam}
use Rattle.std.proofs.lemmas.Bool.{cases_eq}
use Rattle.std.proofs.lemmas.Bool.Decides.{leb_tells, nat_tests}
use Rattle.std.proofs.lemmas.Grind.{div_ceil_times}
use Rattle.std.specs.Int.{div_ceil}
use Rattle.std.specs.Ordering.{nat_cmp, ord_min}
use Rattle.waiting_stops.specs.declared.bound.Bound.{Bound}
use Rattle.waiting_stops.specs.declared.place.Place.{Place}
use Rattle.waiting_stops.specs.declared.queue.Wait.{Wait}
use Rattle.waiting_stops.specs.Inner.Bounds.{IsCovered, IsPlaceCovered}
use Rattle.waiting_stops.specs.Inner.Kept.{waits_in, place_at, AreBlocks, IsBoundOf, IsJoined, AreWidened}
use Rattle.waiting_stops.specs.Waits.{first_slot, slot_number}
use Rattle.gx_base.specs.declared.order.Slot.{Slot}
use Rattle.waiting_stops.proofs.Places.{is_place, passes-none, passes-between, passes-append, first-none}

-- a bound that covers more
pub place-covered : (a b : Bound) → ((w : Wait) → IsCovered a w → IsCovered b w) → (p : Option Wait) → IsPlaceCovered a p → IsPlaceCovered b p
place-covered a b f None h = tt
place-covered a b f (Some w) h = f w h

-- a bound beyond which no stop passes a test
pub place-unreached : (b : Bound) (q : Wait → Bool) → ((w : Wait) → IsCovered b w → q w ≡ false) → (p : Option Wait) → IsPlaceCovered b p → is_place q p ≡ false
place-unreached b q f None h = refl
place-unreached b q f (Some w) h = f w h

-- ---- some places after others

pub lesser-of : (m n k : ℕ) → k ≡ ord_min nat_cmp m n → k ≡ min m n
lesser-of m n k h = grind (arith, nat_tests)

pub block-is : (n s e : ℕ) (ps : List Place) → s ≤ length ps → e ≡ min (s + n) (length ps) → take (e - s) (drop s ps) ≡ take n (drop s ps)
block-is n s e ps le is = elim (leb_tells (s + n) (length ps)) [
  | inl t ↦ let h : s + n ≤ length ps = t.1 in let z : e - s ≡ n = omega arith in ap (λ (m : ℕ). take m (drop s ps)) z
  | inr t ↦
      let h : length ps < s + n = t.1 in
      let l = length-drop s ps in
      take_all (e - s) (drop s ps) (omega arith) ∙ sym (take_all n (drop s ps) (omega arith))
]

at-block : (n s i k : ℕ) (ps : List (Option Wait)) → i < n → s + i ≡ k → place_at (take n (drop s ps)) i ≡ place_at ps k
at-block n s i k ps lt is = get_or-take n (drop s ps) i None lt ∙ get_or-drop s ps i None ∙ ap (place_at ps) is

pub block-covers : (n s k : ℕ) (b : Bound) (ps : List (Option Wait)) → IsBoundOf b (take n (drop s ps)) → s ≤ k → k < s + n → k < length ps → IsPlaceCovered b (place_at ps k)
block-covers n s k b ps h from to lt =
    let l = length-drop s ps in
    let t = length-take n (drop s ps) in
    let i : ℕ = k - s in
    let is : s + i ≡ k = omega arith in
    let i_in : i < n = omega arith in
    subst (IsPlaceCovered b) (at-block n s i k ps i_in is) (h.covered i (omega arith))

pub block-unreached : (n s : ℕ) (q : Wait → Bool) (ps : List (Option Wait)) → ((k : ℕ) → s ≤ k → k < s + n → k < length ps → is_place q (place_at ps k) ≡ false) → filter q (waits_in (take n (drop s ps))) ≡ []
block-unreached n s q ps h =
    let l = length-drop s ps in
    let t = length-take n (drop s ps) in
    passes-none q (take n (drop s ps)) (λ i lt.
    let i_in : i < n = omega arith in
    ap (is_place q) (at-block n s i (s + i) ps i_in refl) ∙ h (s + i) (omega arith) (omega arith) (omega arith))

-- ---- the bounds of all blocks

-- how many blocks the places need
pub block-count : (n r : ℕ) → r ≡ div_ceil n 512 → (n ≤ 512 * r) × (512 * r < n + 512)
block-count n r e =
    let t = div_ceil_times n 512 (omega arith) in
    let is : r ≡ n / 512 + min 1 (n % 512) = e in
    (omega arith, omega arith)

pub blocks-unreached : (at : ℕ) (d : Bound) (q : Wait → Bool) (blocks : List Bound) (ps : List (Option Wait)) → AreBlocks blocks ps → ((w : Wait) → IsCovered (get_or blocks at d) w → q w ≡ false) → filter q (waits_in (take 512 (drop (512 * at) ps))) ≡ []
blocks-unreached at d q blocks ps h f =
    block-unreached 512 (512 * at) q ps (λ k from to lt.
    let is : k / 512 ≡ at = omega arith in
    let c : IsPlaceCovered (get_or blocks at d) (place_at ps k) = subst (λ (j : ℕ). IsPlaceCovered (get_or blocks j d) (place_at ps k)) is (h.covered k d lt) in
    place-unreached (get_or blocks at d) q f (place_at ps k) c)

-- one place more
module _ (ps : List (Option Wait)) (w : Wait) where
  last-place : (k : ℕ) → k < length (ps ++ Some w ∷ []) → ((k < length ps) × (place_at (ps ++ Some w ∷ []) k ≡ place_at ps k)) ⊎ ((k ≡ length ps) × (place_at (ps ++ Some w ∷ []) k ≡ Some w))
  last-place k lt =
      let l = length-append ps (Some w ∷ []) in
      elim (leb_tells (length ps) k) [
        | inl t ↦
            let le : length ps ≤ k = t.1 in
            let is : k ≡ length ps = omega arith in
            inr (is, ap (place_at (ps ++ Some w ∷ [])) is ∙ get_or-append_seam ps (Some w) [] None)
        | inr t ↦ inl (t.1, get_or-append ps (Some w ∷ []) None k t.1)
      ]

  pub blocks-more : (old new : List Bound) → AreBlocks old ps → AreWidened old new (length ps) w → AreBlocks new (ps ++ Some w ∷ [])
  blocks-more old new h m =
      let l = length-append ps (Some w ∷ []) in
      let enough = h.enough in
      let more = m.enough in
      let few = m.few in
      record {
        enough = omega arith;
        few = omega arith;
        covered = λ k d lt. elim (last-place k lt) [
          | inl t ↦
              let k_in : k < length ps = t.0 in
              subst (IsPlaceCovered (get_or new (k / 512) d)) (sym t.1) (place-covered (get_or old (k / 512) d) (get_or new (k / 512) d) (λ v. m.others (k / 512) d v (omega arith)) (place_at ps k) (h.covered k d t.0))
          | inr t ↦ subst (IsPlaceCovered (get_or new (k / 512) d)) (sym t.1) (subst (λ (j : ℕ). IsCovered (get_or new (j / 512) d) w) (sym t.0) (m.added d))
        ];
      }

  pub bound-more : (a b : Bound) → IsBoundOf a ps → IsCovered b w → ((v : Wait) → IsCovered a v → IsCovered b v) → IsBoundOf b (ps ++ Some w ∷ [])
  bound-more a b h c f =
      record {
        covered = λ k lt. elim (last-place k lt) [
          | inl t ↦ subst (IsPlaceCovered b) (sym t.1) (place-covered a b f (place_at ps k) (h.covered k t.0))
          | inr t ↦ subst (IsPlaceCovered b) (sym t.1) c
        ];
      }

-- ---- a place is empty

emptied : (b : Bound) (ps : List (Option Wait)) (at k : ℕ) → k < length ps → IsPlaceCovered b (place_at ps k) → IsPlaceCovered b (place_at (set ps at None) k)
emptied b ps at k lt h = elim (cases_eq k at) [
  | inl e ↦
      let at_in : at < length ps = omega arith in
      let is : place_at (set ps at None) k ≡ None = ap (place_at (set ps at None)) e ∙ get_or-set_same ps at None None at_in in
      subst (IsPlaceCovered b) (sym is) tt
  | inr ne ↦ subst (IsPlaceCovered b) (sym (get_or-set_other ps at k None None ne)) h
]

pub blocks-emptied : (blocks : List Bound) (ps : List (Option Wait)) (at : ℕ) → AreBlocks blocks ps → AreBlocks blocks (set ps at None)
blocks-emptied blocks ps at h =
    let l = length-set ps at None in
    let enough = h.enough in
    let few = h.few in
    record {
      enough = omega arith;
      few = omega arith;
      covered = λ k d lt. let k_in : k < length ps = omega arith in emptied (get_or blocks (k / 512) d) ps at k k_in (h.covered k d k_in);
    }

pub bound-emptied : (b : Bound) (ps : List (Option Wait)) (at : ℕ) → IsBoundOf b ps → IsBoundOf b (set ps at None)
bound-emptied b ps at h =
    let l = length-set ps at None in
    record { covered = λ k lt. let k_in : k < length ps = omega arith in emptied b ps at k k_in (h.covered k k_in) }

-- ---- bounds that are made anew

pub blocks-anew : (blocks : List Bound) (ps : List (Option Wait)) (at : ℕ) (b : Bound) → AreBlocks blocks ps → IsBoundOf b (take 512 (drop (512 * at) ps)) → AreBlocks (set blocks at b) ps
blocks-anew blocks ps at b h anew =
    let l = length-set blocks at b in
    let enough = h.enough in
    let few = h.few in
    record {
      enough = omega arith;
      few = omega arith;
      covered = λ k d lt. elim (cases_eq (k / 512) at) [
        | inl e ↦
            let at_in : at < length blocks = omega arith in
            let is : get_or (set blocks at b) (k / 512) d ≡ b = ap (λ (j : ℕ). get_or (set blocks at b) j d) e ∙ get_or-set_same blocks at b d at_in in
            subst (λ (x : Bound). IsPlaceCovered x (place_at ps k)) (sym is) (block-covers 512 (512 * at) k b ps anew (omega arith) (omega arith) lt)
        | inr ne ↦ subst (λ (x : Bound). IsPlaceCovered x (place_at ps k)) (sym (get_or-set_other blocks at (k / 512) b d ne)) (h.covered k d lt)
      ];
    }

pub joined-all : (whole : Bound) (blocks : List Bound) (ps : List (Option Wait)) → AreBlocks blocks ps → IsJoined whole blocks → IsBoundOf whole ps
joined-all whole blocks ps h j =
    let enough = h.enough in
    record { covered = λ k lt. place-covered (get_or blocks (k / 512) whole) whole (λ w. j.covered (k / 512) whole w (omega arith)) (place_at ps k) (h.covered k whole lt) }

-- the bound of one block more
pub blocks-next : (blocks : List Bound) (ps : List (Option Wait)) (k : ℕ) (b : Bound) → length blocks ≡ k → ((j : ℕ) (d : Bound) → j < 512 * k → j < length ps → IsPlaceCovered (get_or blocks (j / 512) d) (place_at ps j)) → IsBoundOf b (take 512 (drop (512 * k) ps)) → (j : ℕ) (d : Bound) → j < 512 * (k + 1) → j < length ps → IsPlaceCovered (get_or (blocks ++ b ∷ []) (j / 512) d) (place_at ps j)
blocks-next blocks ps k b long h next j d lt within = elim (leb_tells (512 * k) j) [
  | inl t ↦
      let le : 512 * k ≤ j = t.1 in
      let at : j / 512 ≡ length blocks = omega arith in
      let is : get_or (blocks ++ b ∷ []) (j / 512) d ≡ b = ap (λ (n : ℕ). get_or (blocks ++ b ∷ []) n d) at ∙ get_or-append_seam blocks b [] d in
      subst (λ (x : Bound). IsPlaceCovered x (place_at ps j)) (sym is) (block-covers 512 (512 * k) j b ps next le (omega arith) within)
  | inr t ↦
      let below : j < 512 * k = t.1 in
      let is : get_or (blocks ++ b ∷ []) (j / 512) d ≡ get_or blocks (j / 512) d = get_or-append blocks (b ∷ []) d (j / 512) (omega arith) in
      subst (λ (x : Bound). IsPlaceCovered x (place_at ps j)) (sym is) (h j d below within)
]

-- ---- the first stop that passes a test, block by block

module _ (q : Wait → Bool) (n s : ℕ) (ps : List (Option Wait)) where
  abbrev part : List (Option Wait)
  part = take n (drop s ps)

  found-in : (m : ℕ) → filter q (waits_in (take s ps)) ≡ [] → first_slot (filter q (waits_in part)) ≡ Some m → first_slot (filter q (waits_in ps)) ≡ Some m
  found-in m none found =
      let all : take s ps ++ (part ++ drop n (drop s ps)) ≡ ps = ap (λ (l : List (Option Wait)). take s ps ++ l) (take-append-drop n (drop s ps)) ∙ take-append-drop s ps in
      subst (λ (l : List (Option Wait)). first_slot (filter q (waits_in l)) ≡ Some m) all (passes-between q (take s ps) part (drop n (drop s ps)) m none found)

  pub found-first : (r : Option Slot) → is_some r ≡ true → option_map slot_number r ≡ first_slot (filter q (waits_in part)) → filter q (waits_in (take s ps)) ≡ [] → option_map slot_number r ≡ first_slot (filter q (waits_in ps))
  found-first None some found none = cc
  found-first (Some slot) some found none = sym (found-in slot.0 none (sym found))

  pub none-in : (r : Option Slot) → is_some r ≡ false → option_map slot_number r ≡ first_slot (filter q (waits_in part)) → filter q (waits_in part) ≡ []
  none-in None some found = first-none q (filter q (waits_in part)) (sym found)
  none-in (Some slot) some found = cc

  pub none-yet : filter q (waits_in (take s ps)) ≡ [] → filter q (waits_in part) ≡ [] → filter q (waits_in (take (s + n) ps)) ≡ []
  none-yet none here =
      let e : filter q (waits_in (take (s + n) ps)) ≡ filter q (waits_in (take s ps)) ++ filter q (waits_in part) = ap (λ (l : List (Option Wait)). filter q (waits_in l)) (take-add s n ps) ∙ passes-append q (take s ps) part in
      e ∙ ap (λ (l : List Wait). l ++ filter q (waits_in part)) none ∙ here
