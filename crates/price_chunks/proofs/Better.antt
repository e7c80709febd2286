-- The levels after a price, the better ones, and the first of the levels of chunks.
use Rattle.std.proofs.Common.{◌≡◌, ◌≢◌, ℕ, ◌+◌, ◌<◌, ◌≤◌, Bool, true, false, cond, not, List, [], ◌∷◌, ◌++◌, length, filter, take, drop, None, Some, refl, sym, ap, subst, ◌∙◌, arith, inl, inr}
use Prim.Native.Nat.{zero, suc}
use Rattle.std.specs.Prelude.{ℤ, pos, negsuc, int_lt, nat_lt}
use Rattle.std.specs.Ordering.{int_eq}
use Rattle.std.proofs.lemmas.Bool.{cases_lt, cases_eq}
use Rattle.std.proofs.lemmas.Bool.Decides.{Decides-int_eq, nat_tests}
use Rattle.std.proofs.lemmas.List.{append-nil, drop_all}
use Rattle.std.proofs.lemmas.List.Elements.{filter-append}
use Rattle.book_order.proofs.Before.{better-past, better-apart}
use Rattle.book_order.proofs.Each.{all-with}
use Rattle.book_order.proofs.Levels.{is_better-irrefl}
use Rattle.book_order.specs.Levels.{is_better}
use Rattle.gx_base.specs.declared.price.Price.{Price}
use Rattle.gx_base.specs.declared.order.Side.{Side}
use Rattle.gx_base.specs.declared.order.Side.TheVariants.{Buy, Sell}
use Rattle.price_chunks.specs.declared.place.Step.{Step}
use Rattle.price_chunks.proofs.Flat.{flat-at, filter-all, filter-none}
use Rattle.price_chunks.proofs.Steps.{front}
use Rattle.price_chunks.specs.Steps.{step_at, AreWorstFirst, is_worse_step, is_better_step, is_step_at, price_of_first}
use Rattle.price_chunks.specs.Inner.Chunks.{flat, chunk_at, AreChunks, IsChunkOf, IsPlace}

-- ---- two prices of which neither is better

nat-same : (a b : ℕ) → nat_lt a b ≡ false → nat_lt b a ≡ false → a ≡ b
nat-same a b h k = grind (arith, nat_tests)

int-same : (a b : ℤ) → int_lt a b ≡ false → int_lt b a ≡ false → a ≡ b
int-same (pos a) (pos b) h k = ap pos (nat-same a b h k)
int-same (pos a) (negsuc b) h k = cc
int-same (negsuc a) (pos b) h k = cc
int-same (negsuc a) (negsuc b) h k = ap negsuc (nat-same a b k h)

better-same : (side : Side) (a b : ℤ) → is_better side a b ≡ false → is_better side b a ≡ false → a ≡ b
better-same Buy a b h k = int-same a b k h
better-same Sell a b h k = int-same a b h k

-- of two prices that differ, one is better
better-else : (side : Side) (a b : ℤ) → is_better side a b ≡ false → int_eq b a ≡ false → is_better side b a ≡ true
better-else side a b h k =
    let go : (c : Bool) → is_better side b a ≡ c → is_better side b a ≡ true = elim [
      | true ↦ λ e. e
      | false ↦ λ e. let t : int_eq b a ≡ true = (Decides-int_eq b a).1 (sym (better-same side a b h e)) in absurd (let z : ⊥ = cc in z)
    ] in go (is_better side b a) refl

-- ---- the levels after a place

not-not : (q : Step → Bool) (steps : List Step) → filter (λ s. not (not (q s))) steps ≡ filter q steps
not-not q [] = refl
not-not q (s ∷ steps) =
    let go : (b : Bool) → cond (not (not b)) (s ∷ filter (λ s. not (not (q s))) steps) (filter (λ s. not (not (q s))) steps) ≡ cond b (s ∷ filter q steps) (filter q steps) = elim [
      | true ↦ ap (λ (xs : List Step). s ∷ xs) (not-not q steps)
      | false ↦ not-not q steps
    ] in go (q s)

-- what passes stands after what does not
back : (q : Step → Bool) (steps : List Step) (p : ℕ) → ((k : ℕ) → k < p → q (step_at steps k) ≡ false) → ((k : ℕ) → p ≤ k → k < length steps → q (step_at steps k) ≡ true) → drop p steps ≡ filter q steps
back q steps p f t = sym ((front (λ s. not (q s)) steps p (λ k lt. ap not (f k lt)) (λ k le lt. ap not (t k le lt))).1) ∙ not-not q steps

module _ (side : Side) (price : Price) (steps : List Step) (p : ℕ) (o : AreWorstFirst side steps) (place : IsPlace side price steps p) where
  worse-not-better : (k : ℕ) → k < p → is_better_step side price (step_at steps k) ≡ false
  worse-not-better k lt = better-apart side price.0 (step_at steps k).price.0 (place.worse k lt)

  -- after a level with this price
  pub better_after : p < length steps → is_step_at price (step_at steps p) ≡ true → drop (p + 1) steps ≡ filter (is_better_step side price) steps
  better_after lt same =
      let e : (step_at steps p).price.0 ≡ price.0 = (Decides-int_eq (step_at steps p).price.0 price.0).0 same in
      back (is_better_step side price) steps (p + 1)
      (λ k below. elim (cases_lt k p) [
        | inl less ↦ worse-not-better k less
        | inr more ↦ let is : k ≡ p = omega arith in subst (λ (x : ℕ). is_better_step side price (step_at steps x) ≡ false) (sym is) (subst (λ (x : ℤ). is_better side x price.0 ≡ false) (sym e) (is_better-irrefl side price.0))
      ])
      (λ k from below. subst (λ (x : ℤ). is_better side (step_at steps k).price.0 x ≡ true) e (o p k (omega arith) below))

  -- where no level has this price
  pub better_from : (p < length steps → is_step_at price (step_at steps p) ≡ false) → drop p steps ≡ filter (is_better_step side price) steps
  better_from other =
      back (is_better_step side price) steps p worse-not-better
      (λ k from below. elim (cases_eq k p) [
        | inl is ↦ subst (λ (x : ℕ). is_better_step side price (step_at steps x) ≡ true) (sym is) (let lt : p < length steps = omega arith in better-else side price.0 (step_at steps p).price.0 (place.rest p (omega arith) lt) (other lt))
        | inr ne ↦ let lt : p < length steps = omega arith in better-past side (step_at steps k).price.0 (step_at steps p).price.0 price.0 (o p k (omega arith) below) (place.rest p (omega arith) lt)
      ])

-- ---- the first level

pub price_at_place : (steps : List Step) (p : ℕ) → p < length steps → price_of_first (drop p steps) ≡ Some (step_at steps p).price
price_at_place [] p lt = absurd (omega arith)
price_at_place (s ∷ steps) zero lt = refl
price_at_place (s ∷ steps) (suc p) lt = price_at_place steps p (omega arith)

first-append : (xs ys : List Step) → 0 < length xs → price_of_first (xs ++ ys) ≡ price_of_first xs
first-append [] ys lt = absurd (omega arith)
first-append (x ∷ xs) ys lt = refl

none_first : (xs : List Step) → price_of_first xs ≡ None → xs ≡ []
none_first [] e = refl
none_first (x ∷ xs) e = cc

some_first : (xs : List Step) → price_of_first xs ≢ None → 0 < length xs
some_first [] ne = absurd (ne refl)
some_first (x ∷ xs) ne = omega arith

pub worst_first : (chunks : List (List Step)) → AreChunks chunks → price_of_first (flat chunks) ≡ price_of_first (chunk_at chunks 0)
worst_first [] h = let some = h.some in absurd (omega arith)
worst_first (p ∷ []) h = ap price_of_first (append-nil p)
worst_first (p ∷ (q ∷ chunks)) h = first-append p (flat (q ∷ chunks)) h.linked.0.first

from_chunk : (chunks : List (List Step)) (k : ℕ) → k < length chunks → flat (drop k chunks) ≡ chunk_at chunks k ++ flat (drop (suc k) chunks)
from_chunk [] k lt = absurd (omega arith)
from_chunk (p ∷ chunks) zero lt = refl
from_chunk (p ∷ chunks) (suc k) lt = from_chunk chunks k (omega arith)

-- ---- the better levels are those of one chunk, and all after it

module _ (side : Side) (price : Price) (chunks : List (List Step)) (j : ℕ) (at : IsChunkOf side price chunks j) where
  abbrev q : Step → Bool
  q = is_better_step side price

  abbrev p : List Step
  p = chunk_at chunks j

  better_chunk : filter q (flat chunks) ≡ filter q p ++ flat (drop (suc j) chunks)
  better_chunk =
      let a = flat (take j chunks) in
      let b = flat (drop (suc j) chunks) in
      let fa = filter-none q a (all-with (λ (t : Step). is_worse_step side price t ≡ true) (λ t. q t ≡ false) (λ t h. better-apart side price.0 t.price.0 h) a at.before) in
      let fb = filter-all q b at.after in
      ap (filter q) (flat-at chunks j at.within)
      ∙ filter-append q a (p ++ b)
      ∙ ap (λ (l : List Step). filter q a ++ l) (filter-append q p b)
      ∙ (λ i. fa.0 i ++ (filter q p ++ fb.0 i))

  pub better_here : price_of_first (filter q p) ≢ None → price_of_first (filter q (flat chunks)) ≡ price_of_first (filter q p)
  better_here ne = ap price_of_first better_chunk ∙ first-append (filter q p) (flat (drop (suc j) chunks)) (some_first (filter q p) ne)

  pub better_last : j + 1 ≡ length chunks → price_of_first (filter q (flat chunks)) ≡ price_of_first (filter q p)
  better_last e = ap price_of_first (better_chunk ∙ ap (λ (l : List (List Step)). filter q p ++ flat l) (drop_all (suc j) chunks (omega arith)) ∙ append-nil (filter q p))

  pub better_next : j + 1 < length chunks → 0 < length (chunk_at chunks (j + 1)) → price_of_first (filter q p) ≡ None → price_of_first (filter q (flat chunks)) ≡ price_of_first (chunk_at chunks (j + 1))
  better_next lt full none =
      let e : suc j ≡ j + 1 = omega arith in
      ap price_of_first (better_chunk ∙ ap (λ (l : List Step). l ++ flat (drop (suc j) chunks)) (none_first (filter q p) none) ∙ ap (λ (n : ℕ). flat (drop n chunks)) e ∙ from_chunk chunks (j + 1) lt)
      ∙ first-append (chunk_at chunks (j + 1)) (flat (drop (suc (j + 1)) chunks)) full
