-- What each cell is after `detached` and `attached`.
use Rattle.std.proofs.Common.{◌≡◌, ◌≢◌, ℕ, ◌<◌, List, length, refl, sym, ap, ◌∙◌, arith, inl, inr, slice_set}
use Rattle.std.proofs.lemmas.List.{length-set, get_or-set_same, get_or-set_other}
use Rattle.std.proofs.lemmas.Grind.{get_or-set_at}
use Rattle.std.proofs.lemmas.Bool.{cases_eq}
use Rattle.order_pool.specs.Inner.Block.{Cell, cell_at, no_cell, with_next, detached, attached}
use Rattle.order_pool.specs.Inner.Rings.{order_at, prev_at, next_at, queue_at}

-- a cell is replaced by one that f cannot tell from it
pub kept : {X : Type 0} (f : Cell → X) → (cs : List Cell) (i : ℕ) (c : Cell) → i < length cs → f c ≡ f (cell_at cs i) → (y : ℕ) → f (cell_at (slice_set cs i c) y) ≡ f (cell_at cs y)
kept f cs i c lt e y =
    elim (cases_eq y i) [
      | inl q ↦ ap f (get_or-set_at cs i y c no_cell q lt) ∙ e ∙ ap (λ (k : ℕ). f (cell_at cs k)) (sym q)
      | inr ne ↦ ap f (get_or-set_other cs i y c no_cell ne)
    ]

module _ (cs : List Cell) (i : ℕ) (lp : prev_at cs i < length cs) (ln : next_at cs i < length cs) where
  abbrev p : ℕ
  p = prev_at cs i

  abbrev n : ℕ
  n = next_at cs i

  abbrev joined : List Cell
  joined = with_next cs p n

  abbrev new : List Cell
  new = detached cs i

  len : length joined ≡ length cs
  len = length-set cs p _

  pub length-detached : length new ≡ length cs
  length-detached = length-set joined n _ ∙ len

  ln' : n < length joined
  ln' = let l = len in omega (arith, l)

  pub detached-next : next_at new p ≡ n
  detached-next = kept (λ c. c.next) joined n (record (cell_at joined n) { prev = p }) ln' refl p ∙ ap (λ (c : Cell). c.next) (get_or-set_same cs p _ no_cell lp)

  pub detached-next_other : (y : ℕ) → y ≢ p → next_at new y ≡ next_at cs y
  detached-next_other y ne = kept (λ c. c.next) joined n (record (cell_at joined n) { prev = p }) ln' refl y ∙ ap (λ (c : Cell). c.next) (get_or-set_other cs p y _ no_cell ne)

  pub detached-prev : prev_at new n ≡ p
  detached-prev = ap (λ (c : Cell). c.prev) (get_or-set_same joined n _ no_cell ln')

  pub detached-prev_other : (y : ℕ) → y ≢ n → prev_at new y ≡ prev_at cs y
  detached-prev_other y ne = ap (λ (c : Cell). c.prev) (get_or-set_other joined n y _ no_cell ne) ∙ kept (λ c. c.prev) cs p (record (cell_at cs p) { next = n }) lp refl y

  pub detached-queue : (y : ℕ) → queue_at new y ≡ queue_at cs y
  detached-queue y = kept (λ c. c.queue) joined n (record (cell_at joined n) { prev = p }) ln' refl y ∙ kept (λ c. c.queue) cs p (record (cell_at cs p) { next = n }) lp refl y

  pub detached-order : (y : ℕ) → order_at new y ≡ order_at cs y
  detached-order y = kept (λ c. c.order) joined n (record (cell_at joined n) { prev = p }) ln' refl y ∙ kept (λ c. c.order) cs p (record (cell_at cs p) { next = n }) lp refl y

module _ (cs : List Cell) (i j q : ℕ) (ll : prev_at cs j < length cs) (li : i < length cs) (lj : j < length cs) (nl : prev_at cs j ≢ i) (nj : j ≢ i) where
  abbrev last : ℕ
  last = prev_at cs j

  abbrev one : List Cell
  one = with_next cs last i

  abbrev mine : Cell
  mine = record (cell_at one i) { prev = last; next = j; queue = q }

  abbrev two : List Cell
  two = slice_set one i mine

  abbrev new' : List Cell
  new' = attached cs i j q

  len₁ : length one ≡ length cs
  len₁ = length-set cs last _

  len₂ : length two ≡ length cs
  len₂ = length-set one i mine ∙ len₁

  pub length-attached : length new' ≡ length cs
  length-attached = length-set two j _ ∙ len₂

  li' : i < length one
  li' = let l = len₁ in omega (arith, l)

  lj' : j < length two
  lj' = let l = len₂ in omega (arith, l)

  top : {X : Type 0} (f : Cell → X) → f (record (cell_at two j) { prev = i }) ≡ f (cell_at two j) → (y : ℕ) → f (cell_at new' y) ≡ f (cell_at two y)
  top f e y = kept f two j (record (cell_at two j) { prev = i }) lj' e y

  pub attached-next_last : next_at new' last ≡ i
  attached-next_last = top (λ c. c.next) refl last ∙ ap (λ (c : Cell). c.next) (get_or-set_other one i last mine no_cell nl) ∙ ap (λ (c : Cell). c.next) (get_or-set_same cs last _ no_cell ll)

  pub attached-next_mine : next_at new' i ≡ j
  attached-next_mine = top (λ c. c.next) refl i ∙ ap (λ (c : Cell). c.next) (get_or-set_same one i mine no_cell li')

  pub attached-next_other : (y : ℕ) → y ≢ last → y ≢ i → next_at new' y ≡ next_at cs y
  attached-next_other y a b = top (λ c. c.next) refl y ∙ ap (λ (c : Cell). c.next) (get_or-set_other one i y mine no_cell b) ∙ ap (λ (c : Cell). c.next) (get_or-set_other cs last y _ no_cell a)

  pub attached-prev_mine : prev_at new' i ≡ last
  attached-prev_mine = ap (λ (c : Cell). c.prev) (get_or-set_other two j i _ no_cell (λ e. nj (sym e))) ∙ ap (λ (c : Cell). c.prev) (get_or-set_same one i mine no_cell li')

  pub attached-prev_head : prev_at new' j ≡ i
  attached-prev_head = ap (λ (c : Cell). c.prev) (get_or-set_same two j _ no_cell lj')

  pub attached-prev_other : (y : ℕ) → y ≢ i → y ≢ j → prev_at new' y ≡ prev_at cs y
  attached-prev_other y a b =
      ap (λ (c : Cell). c.prev) (get_or-set_other two j y _ no_cell b) ∙ ap (λ (c : Cell). c.prev) (get_or-set_other one i y mine no_cell a)
      ∙ kept (λ c. c.prev) cs last (record (cell_at cs last) { next = i }) ll refl y

  pub attached-queue_mine : queue_at new' i ≡ q
  attached-queue_mine = top (λ c. c.queue) refl i ∙ ap (λ (c : Cell). c.queue) (get_or-set_same one i mine no_cell li')

  pub attached-queue_other : (y : ℕ) → y ≢ i → queue_at new' y ≡ queue_at cs y
  attached-queue_other y a =
      top (λ c. c.queue) refl y ∙ ap (λ (c : Cell). c.queue) (get_or-set_other one i y mine no_cell a)
      ∙ kept (λ c. c.queue) cs last (record (cell_at cs last) { next = i }) ll refl y

  pub attached-order : (y : ℕ) → order_at new' y ≡ order_at cs y
  attached-order y =
      top (λ c. c.order) refl y ∙ kept (λ c. c.order) one i mine li' refl y
      ∙ kept (λ c. c.order) cs last (record (cell_at cs last) { next = i }) ll refl y
