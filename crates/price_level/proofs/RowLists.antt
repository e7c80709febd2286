-- The queues of rows, and the row of a queue.
use Rattle.std.proofs.Common.{◌≡◌, ◌≢◌, ℕ, Bool, true, false, cond, List, [], ◌∷◌, ◌++◌, filter, refl, sym, ap, subst, ◌∙◌, inl, inr, ◌⊎◌}
use Rattle.std.specs.List.{AllByRecursion}
use Rattle.std.proofs.lemmas.Bool.{cases_eq, eq-eqb, ne_eqb}
use Rattle.price_level.specs.declared.row.LevelRow.{LevelRow}
use Rattle.price_level.specs.Rows.{HasQueue, row_of}

-- ---- queues

pub lacks : (q : ℕ) (rs : List LevelRow) → (HasQueue q rs → ⊥) → AllByRecursion (λ (r : LevelRow). r.queue ≢ q) rs
lacks q [] h = tt
lacks q (r ∷ rs) h = ((λ e. h (inl e)), lacks q rs (λ k. h (inr k)))

pub queue-filter : (p : LevelRow → Bool) (q : ℕ) (rs : List LevelRow) → HasQueue q (filter p rs) → HasQueue q rs
queue-filter p q [] h = h
queue-filter p q (r ∷ rs) h =
    elim (p r) as (λ b. HasQueue q (cond b (r ∷ filter p rs) (filter p rs)) → HasQueue q (r ∷ rs)) [ true ↦ λ k. elim k [ inl a ↦ inl a | inr a ↦ inr (queue-filter p q rs a) ] | false ↦ λ k. inr (queue-filter p q rs k) ] h

pub queue-middle : (xs ys : List LevelRow) (n : LevelRow) → HasQueue n.queue (xs ++ n ∷ ys)
queue-middle [] ys n = inl refl
queue-middle (x ∷ xs) ys n = inr (queue-middle xs ys n)

pub queue-insert : (q : ℕ) (xs ys : List LevelRow) (n : LevelRow) → HasQueue q (xs ++ n ∷ ys) → (n.queue ≡ q) ⊎ HasQueue q (xs ++ ys)
queue-insert q [] ys n h = h
queue-insert q (x ∷ xs) ys n h = elim h [ inl a ↦ inr (inl a) | inr a ↦ elim (queue-insert q xs ys n a) [ inl b ↦ inl b | inr b ↦ inr (inr b) ] ]

-- the row of a queue has what each row has
pub each-row : (P : LevelRow → Type 0) (q : ℕ) (rs : List LevelRow) → AllByRecursion P rs → HasQueue q rs → P (row_of q rs) × ((row_of q rs).queue ≡ q)
each-row P q [] a h = absurd h
each-row P q (r ∷ rs) a h =
    elim (cases_eq r.queue q) [
      | inl e ↦
          let f : row_of q (r ∷ rs) ≡ r = ap (λ (b : Bool). cond b r (row_of q rs)) (eq-eqb r.queue q e) in
          (subst P (sym f) a.0, ap (λ (x : LevelRow). x.queue) f ∙ e)
      | inr ne ↦
          let f : row_of q (r ∷ rs) ≡ row_of q rs = ap (λ (b : Bool). cond b r (row_of q rs)) (ne_eqb r.queue q ne) in
          let k = each-row P q rs a.1 (elim h [ inl e ↦ absurd (ne e) | inr k ↦ k ]) in
          (subst P (sym f) k.0, ap (λ (x : LevelRow). x.queue) f ∙ k.1)
    ]

pub row-middle : (xs ys : List LevelRow) (n : LevelRow) → AllByRecursion (λ (r : LevelRow). r.queue ≢ n.queue) xs → row_of n.queue (xs ++ n ∷ ys) ≡ n
row-middle [] ys n h = ap (λ (b : Bool). cond b n (row_of n.queue ys)) (eq-eqb n.queue n.queue refl)
row-middle (x ∷ xs) ys n h = ap (λ (b : Bool). cond b x (row_of n.queue (xs ++ n ∷ ys))) (ne_eqb x.queue n.queue h.0) ∙ row-middle xs ys n h.1
