-- The stops in a row of places.
use Rattle.std.proofs.Common.{◌≡◌, ◌≢◌, ℕ, ◌+◌, ◌<◌, ◌≤◌, Bool, true, false, cond, ◌==◌, List, [], ◌∷◌, ◌++◌, length, set, get_or, take, drop, filter, Option, Some, None, is_some, refl, sym, ap, ◌∙◌, arith, inl, inr}
use Prim.Native.Nat.{zero, suc}
use Rattle.std.specs.List.{AllByRecursion}
use Rattle.std.proofs.lemmas.Bool.Decides.{eqb_tells, Decides-eqb}
use Rattle.std.proofs.lemmas.List.{get_or-map, map-set, map-append, take-map, drop-map}
use Rattle.std.proofs.lemmas.List.Elements.{filter-append}
use Rattle.waiting_stops.specs.declared.place.Place.{Place}
use Rattle.waiting_stops.specs.declared.queue.Wait.{Wait}
use Rattle.waiting_stops.specs.Waits.{first_slot, SlotsDiffer, without_slot}
use Rattle.waiting_stops.specs.Inner.Kept.{wait_at, no_place, stops_at, waits_in, place_at, is_place_of}

-- the stop of one of the places
pub stop-is : (ps : List Place) (k : ℕ) (p : Place) → k < length ps → p ≡ get_or ps k p → place_at (stops_at ps) k ≡ wait_at p
stop-is ps k p lt is = get_or-map wait_at ps k p None lt ∙ ap wait_at (sym is)

pub stop-read : (ps : List Place) (k : ℕ) → k < length ps → wait_at (get_or ps k no_place) ≡ place_at (stops_at ps) k
stop-read ps k lt = sym (get_or-map wait_at ps k no_place None lt)

pub stops-part : (n s : ℕ) (ps : List Place) → stops_at (take n (drop s ps)) ≡ take n (drop s (stops_at ps))
stops-part n s ps = sym (take-map wait_at n (drop s ps)) ∙ ap (take n) (sym (drop-map wait_at s ps))

pub waits-append : (a b : List (Option Wait)) → waits_in (a ++ b) ≡ waits_in a ++ waits_in b
waits-append [] b = refl
waits-append (None ∷ a) b = waits-append a b
waits-append (Some w ∷ a) b = ap (λ (l : List Wait). w ∷ l) (waits-append a b)

pub length-waits : (ps : List (Option Wait)) → length (waits_in ps) ≤ length ps
length-waits [] = omega arith
length-waits (None ∷ ps) = omega (arith, length-waits ps)
length-waits (Some w ∷ ps) = omega (arith, length-waits ps)

-- ---- a stop leaves

pub one-less : (ps : List (Option Wait)) (k : ℕ) (w : Wait) → k < length ps → place_at ps k ≡ Some w → length (waits_in (set ps k None)) + 1 ≡ length (waits_in ps)
one-less [] k w lt e = absurd (omega arith)
one-less (None ∷ ps) zero w lt e = cc
one-less (Some v ∷ ps) zero w lt e = omega arith
one-less (None ∷ ps) (suc k) w lt e = one-less ps k w (omega arith) e
one-less (Some v ∷ ps) (suc k) w lt e = omega (arith, one-less ps k w (omega arith) e)

pub none-at : (ps : List (Option Wait)) (k : ℕ) → place_at ps k ≡ None → waits_in (set ps k None) ≡ waits_in ps
none-at [] k e = refl
none-at (None ∷ ps) zero e = refl
none-at (Some v ∷ ps) zero e = cc
none-at (None ∷ ps) (suc k) e = none-at ps k e
none-at (Some v ∷ ps) (suc k) e = ap (λ (l : List Wait). v ∷ l) (none-at ps k e)

pub without-none : (slot : ℕ) (ps : List (Option Wait)) → ((k : ℕ) → k < length ps → is_place_of slot (place_at ps k) ≡ false) → waits_in ps ≡ without_slot slot (waits_in ps)
without-none slot [] h = refl
without-none slot (None ∷ ps) h = without-none slot ps (λ k lt. h (suc k) (omega arith))
without-none slot (Some w ∷ ps) h =
    let e : (w.slot.0 == slot) ≡ false = h 0 (omega arith) in
    rw e (ap (λ (l : List Wait). w ∷ l) (without-none slot ps (λ k lt. h (suc k) (omega arith))))

-- no other stop has the slot
without-others : (n slot : ℕ) (ws : List Wait) → n ≡ slot → AllByRecursion (λ (v : Wait). v.slot.0 ≢ n) ws → ws ≡ without_slot slot ws
without-others n slot [] is h = refl
without-others n slot (w ∷ ws) is h =
    let e : (w.slot.0 == slot) ≡ false = elim (eqb_tells w.slot.0 slot) [ inl t ↦ absurd (h.0 (t.1 ∙ sym is)) | inr t ↦ t.0 ] in
    rw e (ap (λ (l : List Wait). w ∷ l) (without-others n slot ws is h.1))

other : (n slot : ℕ) (ps : List (Option Wait)) (k : ℕ) → AllByRecursion (λ (v : Wait). v.slot.0 ≢ n) (waits_in ps) → k < length ps → is_place_of slot (place_at ps k) ≡ true → (n == slot) ≡ false
other n slot [] k h lt e = absurd (omega arith)
other n slot (None ∷ ps) zero h lt e = cc
other n slot (Some v ∷ ps) zero h lt e =
    let is : v.slot.0 ≡ slot = (Decides-eqb v.slot.0 slot).0 e in
    elim (eqb_tells n slot) [ inl t ↦ absurd (h.0 (is ∙ sym t.1)) | inr t ↦ t.0 ]
other n slot (None ∷ ps) (suc k) h lt e = other n slot ps k h (omega arith) e
other n slot (Some v ∷ ps) (suc k) h lt e = other n slot ps k h.1 (omega arith) e

pub without-at : (slot : ℕ) (ps : List (Option Wait)) (k : ℕ) → SlotsDiffer (waits_in ps) → k < length ps → is_place_of slot (place_at ps k) ≡ true → waits_in (set ps k None) ≡ without_slot slot (waits_in ps)
without-at slot [] k h lt e = absurd (omega arith)
without-at slot (None ∷ ps) zero h lt e = cc
without-at slot (Some v ∷ ps) zero h lt e =
    let t : (v.slot.0 == slot) ≡ true = e in
    rw t (without-others v.slot.0 slot (waits_in ps) ((Decides-eqb v.slot.0 slot).0 e) h.0)
without-at slot (None ∷ ps) (suc k) h lt e = without-at slot ps k h (omega arith) e
without-at slot (Some v ∷ ps) (suc k) h lt e =
    let f : (v.slot.0 == slot) ≡ false = other v.slot.0 slot ps k h.0 (omega arith) e in
    rw f (ap (λ (l : List Wait). v ∷ l) (without-at slot ps k h.1 (omega arith) e))

pub stops-freed : (ps : List Place) (k : ℕ) (p : Place) → wait_at p ≡ None → stops_at (set ps k p) ≡ set (stops_at ps) k None
stops-freed ps k p e = map-set wait_at ps k p ∙ ap (set (stops_at ps) k) e

-- ---- a stop comes

pub stops-more : (ps : List Place) (p : Place) (w : Wait) → wait_at p ≡ Some w → stops_at (ps ++ p ∷ []) ≡ stops_at ps ++ Some w ∷ []
stops-more ps p w e = map-append wait_at ps (p ∷ []) ∙ ap (λ (o : Option Wait). stops_at ps ++ o ∷ []) e

-- ---- the empty places go

abbrev pub is_taken : Place → Bool
is_taken p = is_some (wait_at p)

pub stops-kept : (ps : List Place) → stops_at (filter is_taken ps) ≡ filter is_some (stops_at ps)
stops-kept [] = refl
stops-kept (p ∷ ps) =
    let F = filter is_taken ps in
    let G = filter is_some (stops_at ps) in
    let go : (b : Bool) → stops_at (cond b (p ∷ F) F) ≡ cond b (wait_at p ∷ G) G = elim [
      | true ↦ ap (λ (l : List (Option Wait)). wait_at p ∷ l) (stops-kept ps)
      | false ↦ stops-kept ps
    ] in
    go (is_taken p)

pub taken-waits : (ps : List (Option Wait)) → waits_in (filter is_some ps) ≡ waits_in ps
taken-waits [] = refl
taken-waits (None ∷ ps) = taken-waits ps
taken-waits (Some w ∷ ps) = ap (λ (l : List Wait). w ∷ l) (taken-waits ps)

pub taken-length : (ps : List (Option Wait)) → length (filter is_some ps) ≡ length (waits_in ps)
taken-length [] = refl
taken-length (None ∷ ps) = taken-length ps
taken-length (Some w ∷ ps) = ap suc (taken-length ps)

-- ---- the first stop that passes a test

module _ (q : Wait → Bool) where
  abbrev pub is_place : Option Wait → Bool
  is_place None = false
  is_place (Some w) = q w

  pub passes-none : (ps : List (Option Wait)) → ((k : ℕ) → k < length ps → is_place (place_at ps k) ≡ false) → filter q (waits_in ps) ≡ []
  passes-none [] h = refl
  passes-none (None ∷ ps) h = passes-none ps (λ k lt. h (suc k) (omega arith))
  passes-none (Some w ∷ ps) h =
      let e : q w ≡ false = h 0 (omega arith) in
      rw e (passes-none ps (λ k lt. h (suc k) (omega arith)))

  pub passes-first : (ps : List (Option Wait)) (i : ℕ) (w : Wait) → i < length ps → place_at ps i ≡ Some w → q w ≡ true → ((k : ℕ) → k < i → is_place (place_at ps k) ≡ false) → first_slot (filter q (waits_in ps)) ≡ Some w.slot.0
  passes-first [] i w lt e t h = absurd (omega arith)
  passes-first (None ∷ ps) zero w lt e t h = cc
  passes-first (Some v ∷ ps) zero w lt e t h =
      let is : v ≡ w = cc in
      let p : q v ≡ true = ap q is ∙ t in
      rw p (ap (λ (x : Wait). Some x.slot.0) is)
  passes-first (None ∷ ps) (suc i) w lt e t h = passes-first ps i w (omega arith) e t (λ k l. h (suc k) (omega arith))
  passes-first (Some v ∷ ps) (suc i) w lt e t h =
      let f : q v ≡ false = h 0 (omega arith) in
      rw f (passes-first ps i w (omega arith) e t (λ k l. h (suc k) (omega arith)))

  pub passes-append : (a b : List (Option Wait)) → filter q (waits_in (a ++ b)) ≡ filter q (waits_in a) ++ filter q (waits_in b)
  passes-append a b = ap (filter q) (waits-append a b) ∙ filter-append q (waits_in a) (waits_in b)

  -- what is first of some is first of these and others after them
  first-front : (a b : List Wait) (n : ℕ) → first_slot a ≡ Some n → first_slot (a ++ b) ≡ Some n
  first-front [] b n h = cc
  first-front (w ∷ a) b n h = h

  pub passes-between : (a b c : List (Option Wait)) (n : ℕ) → filter q (waits_in a) ≡ [] → first_slot (filter q (waits_in b)) ≡ Some n → first_slot (filter q (waits_in (a ++ (b ++ c)))) ≡ Some n
  passes-between a b c n e0 h =
      let e : filter q (waits_in (a ++ (b ++ c))) ≡ filter q (waits_in b) ++ filter q (waits_in c) = passes-append a (b ++ c) ∙ ap (λ (l : List Wait). l ++ filter q (waits_in (b ++ c))) e0 ∙ passes-append b c in
      ap first_slot e ∙ first-front (filter q (waits_in b)) (filter q (waits_in c)) n h

  pub first-none : (ws : List Wait) → first_slot ws ≡ None → ws ≡ []
  first-none [] h = refl
  first-none (w ∷ ws) h = cc
