-- The levels of one side: what stands before a place and from it on.
use Rattle.std.proofs.Common.{◌≡◌, ◌≢◌, ℕ, ◌+◌, ◌-◌, ◌<◌, ◌≤◌, Bool, true, false, cond, not, List, [], ◌∷◌, ◌++◌, length, filter, take, drop, Some, refl, sym, ap, subst, ◌∙◌, arith, inl, inr}
use Prim.Native.Nat.{zero, suc}
use Rattle.std.specs.Prelude.{ℤ}
use Rattle.std.specs.List.{insert, remove, sum_by}
use Rattle.std.proofs.lemmas.Bool.{cases_lt, cases_eq, false_from_ne_true}
use Rattle.std.proofs.lemmas.Bool.Decides.{Decides-int_eq}
use Rattle.std.proofs.lemmas.List.{take_more}
use Rattle.std.proofs.lemmas.List.Filters.{sum_by-filter_both}
use Rattle.gx_base.specs.declared.price.Price.{Price}
use Rattle.gx_base.specs.declared.order.Side.{Side}
use Rattle.book_order.specs.Levels.{is_better}
use Rattle.book_order.proofs.Before.{better-past, better-apart}
use Rattle.book_order.proofs.Levels.{is_better-irrefl}
use Rattle.price_chunks.specs.declared.place.Step.{Step}
use Rattle.price_chunks.specs.Steps.{no_step, step_at, AreWorstFirst, is_worse_step, is_step_at, is_open_step, price_of_last, with_step, without_step}
use Rattle.price_chunks.specs.Inner.Chunks.{IsPlace, IsAt}

-- ---- a place is found by halves

pub place_up : (side : Side) (price : Price) (steps : List Step) (i : ℕ) → AreWorstFirst side steps → i < length steps → is_worse_step side price (step_at steps i) ≡ true → (k : ℕ) → k < i + 1 → is_worse_step side price (step_at steps k) ≡ true
place_up side price steps i o lt h k below =
    elim (cases_eq k i) [
      | inl e ↦ ap (λ (x : ℕ). is_worse_step side price (step_at steps x)) e ∙ h
      | inr ne ↦ better-past side price.0 (step_at steps i).price.0 (step_at steps k).price.0 h (better-apart side (step_at steps i).price.0 (step_at steps k).price.0 (o k i (omega arith) lt))
    ]

pub place_down : (side : Side) (price : Price) (steps : List Step) (i : ℕ) → AreWorstFirst side steps → is_worse_step side price (step_at steps i) ≡ false → (k : ℕ) → i ≤ k → k < length steps → is_worse_step side price (step_at steps k) ≡ false
place_down side price steps i o h k from lt =
    elim (cases_eq k i) [
      | inl e ↦ ap (λ (x : ℕ). is_worse_step side price (step_at steps x)) e ∙ h
      | inr ne ↦ better-apart side (step_at steps k).price.0 price.0 (better-past side (step_at steps k).price.0 (step_at steps i).price.0 price.0 (o i k (omega arith) lt) h)
    ]

-- a level has the price
pub place_at : (side : Side) (price : Price) (steps : List Step) (n : ℕ) → AreWorstFirst side steps → IsAt price steps n → IsPlace side price steps n
place_at side price steps n o at =
    let lt = at.within in
    let is : price.0 ≡ (step_at steps n).price.0 = sym ((Decides-int_eq (step_at steps n).price.0 price.0).0 at.is) in
    record {
      within = omega arith;
      worse = λ k below. subst (λ (x : ℤ). is_better side x (step_at steps k).price.0 ≡ true) (sym is) (o k n below lt);
      rest = place_down side price steps n o (subst (λ (x : ℤ). is_better side price.0 x ≡ false) is (is_better-irrefl side price.0));
    }

-- ---- filters by places

-- a front passes, and nothing after it
pub front : (q : Step → Bool) (steps : List Step) (p : ℕ) → ((k : ℕ) → k < p → q (step_at steps k) ≡ true) → ((k : ℕ) → p ≤ k → k < length steps → q (step_at steps k) ≡ false) → (filter q steps ≡ take p steps) × (filter (λ s. not (q s)) steps ≡ drop p steps)
front q [] zero t f = (refl, refl)
front q [] (suc p) t f = (refl, refl)
front q (s ∷ steps) zero t f =
    let r = front q steps 0 (λ k lt. absurd (omega arith)) (λ k _ lt. f (suc k) (omega arith) (omega arith)) in
    let h = f 0 (omega arith) (omega arith) in
    (ap (λ (b : Bool). cond b (s ∷ filter q steps) (filter q steps)) h ∙ r.0, ap (λ (b : Bool). cond (not b) (s ∷ filter (λ s. not (q s)) steps) (filter (λ s. not (q s)) steps)) h ∙ ap (λ (xs : List Step). s ∷ xs) r.1)
front q (s ∷ steps) (suc p) t f =
    let r = front q steps p (λ k lt. t (suc k) (omega arith)) (λ k le lt. f (suc k) (omega arith) (omega arith)) in
    let h = t 0 (omega arith) in
    (ap (λ (b : Bool). cond b (s ∷ filter q steps) (filter q steps)) h ∙ ap (λ (xs : List Step). s ∷ xs) r.0, ap (λ (b : Bool). cond (not b) (s ∷ filter (λ s. not (q s)) steps) (filter (λ s. not (q s)) steps)) h ∙ r.1)

-- none passes
pub none : (q : Step → Bool) (steps : List Step) → ((k : ℕ) → k < length steps → q (step_at steps k) ≡ false) → (filter q steps ≡ []) × (filter (λ s. not (q s)) steps ≡ steps)
none q steps f = front q steps 0 (λ k lt. absurd (omega arith)) (λ k _ lt. f k lt)

-- one passes
pub one : (q : Step → Bool) (steps : List Step) (p : ℕ) → p < length steps → q (step_at steps p) ≡ true → ((k : ℕ) → k < length steps → k ≢ p → q (step_at steps k) ≡ false) → (filter q steps ≡ step_at steps p ∷ []) × (filter (λ s. not (q s)) steps ≡ remove steps p)
one q [] p lt h f = absurd (omega arith)
one q (s ∷ steps) zero lt h f =
    let r = none q steps (λ k lt. let ne : suc k ≢ 0 = omega arith in f (suc k) (omega arith) ne) in
    (ap (λ (b : Bool). cond b (s ∷ filter q steps) (filter q steps)) h ∙ ap (λ (xs : List Step). s ∷ xs) r.0, ap (λ (b : Bool). cond (not b) (s ∷ filter (λ s. not (q s)) steps) (filter (λ s. not (q s)) steps)) h ∙ r.1)
one q (s ∷ steps) (suc p) lt h f =
    let r = one q steps p (omega arith) h (λ k below n. let m : suc k ≢ suc p = omega arith in f (suc k) (omega arith) m) in
    let ne : 0 ≢ suc p = omega arith in
    let e = f 0 (omega arith) ne in
    (ap (λ (b : Bool). cond b (s ∷ filter q steps) (filter q steps)) e ∙ r.0, ap (λ (b : Bool). cond (not b) (s ∷ filter (λ s. not (q s)) steps) (filter (λ s. not (q s)) steps)) e ∙ ap (λ (xs : List Step). s ∷ xs) r.1)

-- ---- the last level

pub price_of_last-push : (steps : List Step) (s : Step) → price_of_last (steps ++ s ∷ []) ≡ Some s.price
price_of_last-push [] s = refl
price_of_last-push (t ∷ []) s = refl
price_of_last-push (t ∷ (u ∷ steps)) s = price_of_last-push (u ∷ steps) s

pub price_before : (steps : List Step) (p : ℕ) → p ≢ 0 → p ≤ length steps → price_of_last (take p steps) ≡ Some (step_at steps (p - 1)).price
price_before steps p ne le =
    let e : p ≡ p - 1 + 1 = omega arith in
    ap (λ (n : ℕ). price_of_last (take n steps)) e ∙ ap price_of_last (take_more steps (p - 1) no_step (omega arith)) ∙ price_of_last-push (take (p - 1) steps) (step_at steps (p - 1))

pub remove_last : (steps : List Step) (s : Step) → remove (steps ++ s ∷ []) (length steps) ≡ steps
remove_last [] s = refl
remove_last (t ∷ steps) s = ap (λ (xs : List Step). t ∷ xs) (remove_last steps s)

-- ---- what is asked of a side

module _ (side : Side) (price : Price) (steps : List Step) (p : ℕ) (o : AreWorstFirst side steps) (place : IsPlace side price steps p) where
  pub worse_front : filter (is_worse_step side price) steps ≡ take p steps
  worse_front = (front (is_worse_step side price) steps p place.worse place.rest).0

  pub open_back : filter (is_open_step side price) steps ≡ drop p steps
  open_back = (front (is_worse_step side price) steps p place.worse place.rest).1

  pub put_at : (s : Step) → s.price ≡ price → insert steps p s ≡ with_step side s steps
  put_at s e =
      let r = front (is_worse_step side price) steps p place.worse place.rest in
      (λ i. sym r.0 i ++ s ∷ sym r.1 i) ∙ ap (λ (x : Price). filter (is_worse_step side x) steps ++ s ∷ filter (λ t. not (is_worse_step side x t)) steps) (sym e)

  -- no level but the one at the place has the price
  pub others : (k : ℕ) → k < length steps → k ≢ p → is_step_at price (step_at steps k) ≡ false
  others k lt ne =
      false_from_ne_true (is_step_at price (step_at steps k)) (λ t.
      let e : (step_at steps k).price.0 ≡ price.0 = (Decides-int_eq (step_at steps k).price.0 price.0).0 t in
      elim (cases_lt k p) [
        | inl below ↦
            let h = subst (λ (x : ℤ). is_better side price.0 x ≡ true) e (place.worse k below) in
            let g = is_better-irrefl side price.0 in cc
        | inr above ↦
            let h = subst (λ (x : ℤ). is_better side x (step_at steps p).price.0 ≡ true) e (o p k (omega arith) lt) in
            let g = place.rest p (omega arith) (omega arith) in cc
      ])

  pub at_here : p < length steps → is_step_at price (step_at steps p) ≡ true → (filter (is_step_at price) steps ≡ step_at steps p ∷ []) × (without_step price steps ≡ remove steps p)
  at_here lt h = one (is_step_at price) steps p lt h others

  pub at_none : (p < length steps → is_step_at price (step_at steps p) ≡ false) → (filter (is_step_at price) steps ≡ []) × (without_step price steps ≡ steps)
  at_none h = none (is_step_at price) steps (λ k lt. elim (cases_eq k p) [ inl e ↦ subst (λ (x : ℕ). is_step_at price (step_at steps x) ≡ false) (sym e) (h (omega arith)) | inr ne ↦ others k lt ne ])

pub open_fits : (side : Side) (limit : Price) (leaves : Step → ℕ) (steps : List Step) → sum_by leaves (filter (is_open_step side limit) steps) ≤ sum_by leaves steps
open_fits side limit leaves steps = omega (arith, sum_by-filter_both (is_open_step side limit) (λ s. not (is_open_step side limit s)) (λ s. refl) leaves steps)
