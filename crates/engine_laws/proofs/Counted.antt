-- Events that raise the count of a place, one after the other.
use Rattle.std.proofs.Common.{◌≡◌, ◌≢◌, ℕ, ◌+◌, ◌-◌, ◌≤◌, Bool, cond, List, [], ◌∷◌, ◌++◌, map, filter, length, refl, sym, ap, subst, ◌∙◌, arith, inl, inr, slice_index, slice_set}
use Prim.Native.Nat.{zero, suc}
use Rattle.std.proofs.lemmas.Bool.Decides.{eqb_tells}
use Rattle.std.proofs.lemmas.List.{get_or-set_same, get_or-set_other}
use Rattle.std.specs.Prelude.{◌<◌, ◌==◌}
use Rattle.std.specs.List.{range_with_len}
use Rattle.gx_base.specs.declared.event.Event.{Event}
use Rattle.engine_laws.specs.Lines.{place_in, line_in, lines_to, numbers_between, AreAbove, AreUpTo}

-- ---- a list of counts

-- no count is lowered where one is raised
counts-rise : (lines : List ℕ) (i place : ℕ) → slice_index lines place ≤ slice_index (slice_set lines i (slice_index lines i + 1)) place
counts-rise [] i place = omega arith
counts-rise (x ∷ lines) zero zero = omega arith
counts-rise (x ∷ lines) zero (suc place) = omega arith
counts-rise (x ∷ lines) (suc i) zero = omega arith
counts-rise (x ∷ lines) (suc i) (suc place) = counts-rise lines i place

-- ---- one event

-- An event with the count of a place before and after it. `within` says that the list of counts has the place.
pub record Counts (within : Type 0) (place n : ℕ) (e : Event) (m : ℕ) : Type 0 where
  pub next : place_in e ≡ place → line_in e ≡ n + 1
  pub counted : within → place_in e ≡ place → m ≡ n + 1
  pub rises : n ≤ m
  pub others : place_in e ≢ place → m ≡ n

-- the next line to an addressee, which is counted
pub line-counts : (within : Type 0) (lines : List ℕ) (place : ℕ) (e : Event) → (within → place < length lines) → line_in e ≡ slice_index lines (place_in e) + 1
    → Counts within place (slice_index lines place) e (slice_index (slice_set lines (place_in e) (slice_index lines (place_in e) + 1)) place)
line-counts within lines place e has is =
    let i = place_in e in
    record {
      next = λ same. is ∙ ap (λ (p : ℕ). slice_index lines p + 1) same;
      counted = λ w same.
          subst (λ (p : ℕ). slice_index (slice_set lines p (slice_index lines p + 1)) place ≡ slice_index lines place + 1) (sym same)
          (get_or-set_same lines place (slice_index lines place + 1) 0 (has w));
      rises = counts-rise lines i place;
      others = λ other. get_or-set_other lines i place (slice_index lines i + 1) 0 (λ same. other (sym same));
    }

-- ---- events one after the other

module _ (within : Type 0) (place : ℕ) where
  abbrev pub AreCounted : ℕ → List Event → ℕ → Type 0
  AreCounted n [] m = n ≡ m
  AreCounted n (e ∷ es) m = (k : ℕ) × Counts within place n e k × AreCounted k es m

  pub counted-append : (n : ℕ) (es : List Event) (k : ℕ) (fs : List Event) (m : ℕ) → AreCounted n es k → AreCounted k fs m → AreCounted n (es ++ fs) m
  counted-append n [] k fs m h g = subst (λ (x : ℕ). AreCounted x fs m) (sym h) g
  counted-append n (e ∷ es) k fs m h g = (h.0, h.1, counted-append h.0 es k fs m h.2 g)

  pub counted-one : (n : ℕ) (e : Event) (m : ℕ) → Counts within place n e m → AreCounted n (e ∷ []) m
  counted-one n e m h = (m, h, refl)

  pub counted-push : (n : ℕ) (es : List Event) (k : ℕ) (e : Event) (m : ℕ) → AreCounted n es k → Counts within place k e m → AreCounted n (es ++ e ∷ []) m
  counted-push n es k e m h c = counted-append n es k (e ∷ []) m h (counted-one k e m c)

  -- ---- what follows of the lines

  pub counted-rise : (n : ℕ) (es : List Event) (m : ℕ) → AreCounted n es m → n ≤ m
  counted-rise n [] m h = omega (arith, h)
  counted-rise n (e ∷ es) m h = omega (arith, h.1.rises, counted-rise h.0 es m h.2)

  above-from : (low n : ℕ) (es : List Event) (m : ℕ) → low ≤ n → AreCounted n es m → AreAbove place low es
  above-from low n [] m least h = tt
  above-from low n (e ∷ es) m least h = (λ same. omega (arith, h.1.next same, least), above-from low h.0 es m (omega (arith, h.1.rises, least)) h.2)

  pub counted-above : (n : ℕ) (es : List Event) (m : ℕ) → AreCounted n es m → AreAbove place n es
  counted-above n es m h = above-from n n es m (omega arith) h

  pub counted-up-to : within → (n : ℕ) (es : List Event) (m : ℕ) → AreCounted n es m → AreUpTo place m es
  counted-up-to w n [] m h = tt
  counted-up-to w n (e ∷ es) m h = (λ same. omega (arith, h.1.next same, h.1.counted w same, counted-rise h.0 es m h.2), counted-up-to w h.0 es m h.2)

  numbers-none : (n : ℕ) → [] ≡ numbers_between n n
  numbers-none n = let none : n - n ≡ 0 = omega arith in ap (λ (k : ℕ). range_with_len (n + 1) k) (sym none)

  numbers-first : (n m : ℕ) → n + 1 ≤ m → (n + 1) ∷ numbers_between (n + 1) m ≡ numbers_between n m
  numbers-first n m some = let more : m - n ≡ suc (m - (n + 1)) = omega (arith, some) in ap (λ (k : ℕ). range_with_len (n + 1) k) (sym more)

  pub counted-lines : within → (n : ℕ) (es : List Event) (m : ℕ) → AreCounted n es m → lines_to place es ≡ numbers_between n m
  counted-lines w n [] m h = subst (λ (k : ℕ). [] ≡ numbers_between n k) h (numbers-none n)
  counted-lines w n (e ∷ es) m h =
      let k = h.0 in
      let rest : lines_to place es ≡ numbers_between k m = counted-lines w k es m h.2 in
      let is : Bool → List ℕ = λ c. map line_in (cond c (e ∷ filter (λ (x : Event). place_in x == place) es) (filter (λ (x : Event). place_in x == place) es)) in
      elim (eqb_tells (place_in e) place) [
        | inl t ↦
            let after : k ≡ n + 1 = h.1.counted w t.1 in
            let some : n + 1 ≤ m = omega (arith, after, counted-rise k es m h.2) in
            subst (λ (c : Bool). is c ≡ numbers_between n m) (sym t.0)
            (ap (λ (x : ℕ). x ∷ lines_to place es) (h.1.next t.1) ∙ ap (λ (xs : List ℕ). (n + 1) ∷ xs) (rest ∙ ap (λ (x : ℕ). numbers_between x m) after) ∙ numbers-first n m some)
        | inr t ↦ subst (λ (c : Bool). is c ≡ numbers_between n m) (sym t.0) (rest ∙ ap (λ (x : ℕ). numbers_between x m) (h.1.others t.1))
      ]
