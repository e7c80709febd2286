-- The last of the levels of chunks.
use Rattle.std.proofs.Common.{◌≡◌, ◌≢◌, ℕ, ◌+◌, ◌<◌, List, [], ◌∷◌, ◌++◌, length, filter, take, drop, None, refl, sym, ap, ◌∙◌, arith, inl, inr}
use Prim.Native.Nat.{zero, suc}
use Rattle.std.proofs.lemmas.Bool.{cases_eq}
use Rattle.std.proofs.lemmas.List.{append-nil, drop_all}
use Rattle.gx_base.specs.declared.price.Price.{Price}
use Rattle.gx_base.specs.declared.order.Side.{Side}
use Rattle.price_chunks.specs.declared.place.Step.{Step}
use Rattle.price_chunks.proofs.Flat.{flat-at, flat-more, worse_chunk}
use Rattle.price_chunks.specs.Steps.{is_worse_step, price_of_last}
use Rattle.price_chunks.specs.Inner.Chunks.{flat, chunk_at, AreLinked, AreChunks, IsChunkOf}

pub last-append : (xs ys : List Step) → 0 < length ys → price_of_last (xs ++ ys) ≡ price_of_last ys
last-append [] ys lt = refl
last-append (x ∷ []) [] lt = absurd (omega arith)
last-append (x ∷ []) (y ∷ ys) lt = refl
last-append (x ∷ (z ∷ xs)) ys lt = last-append (z ∷ xs) ys lt

pub linked_last : (chunks : List (List Step)) (j : ℕ) → AreLinked chunks → 0 < j → j < length chunks → 0 < length (chunk_at chunks j)
linked_last [] j h g lt = absurd (omega arith)
linked_last (p ∷ chunks) zero h g lt = absurd (omega arith)
linked_last (p ∷ []) (suc j) h g lt = absurd (omega arith)
linked_last (p ∷ (q ∷ chunks)) (suc zero) h g lt = h.0.second
linked_last (p ∷ (q ∷ chunks)) (suc (suc j)) h g lt = linked_last (q ∷ chunks) (suc j) h.1 (omega arith) (omega arith)

pub best_last : (chunks : List (List Step)) (j : ℕ) → AreChunks chunks → j + 1 ≡ length chunks → price_of_last (flat chunks) ≡ price_of_last (chunk_at chunks j)
best_last chunks j h e =
    let p = chunk_at chunks j in
    let a = flat (take j chunks) in
    let rest : flat (drop (suc j) chunks) ≡ [] = ap flat (drop_all (suc j) chunks (omega arith)) in
    let is : flat chunks ≡ a ++ p = flat-at chunks j (omega arith) ∙ ap (λ (l : List Step). a ++ (p ++ l)) rest ∙ ap (λ (l : List Step). a ++ l) (append-nil p) in
    elim (cases_eq j 0) [
      | inl z ↦ ap price_of_last (is ∙ ap (λ (n : ℕ). flat (take n chunks) ++ p) z)
      | inr ne ↦ ap price_of_last is ∙ last-append a p (linked_last chunks j h.linked (omega arith) (omega arith))
    ]

none_last : (xs : List Step) → price_of_last xs ≡ None → xs ≡ []
none_last [] e = refl
none_last (x ∷ []) e = cc
none_last (x ∷ (y ∷ xs)) e = absurd (let k : ◌≡◌ {A = List Step} (y ∷ xs) [] = none_last (y ∷ xs) e in cc)

some_last : (xs : List Step) → price_of_last xs ≢ None → 0 < length xs
some_last [] ne = absurd (ne refl)
some_last (x ∷ xs) ne = omega arith

module _ (side : Side) (price : Price) (chunks : List (List Step)) (j : ℕ) (at : IsChunkOf side price chunks j) where
  pub worse_here : price_of_last (filter (is_worse_step side price) (chunk_at chunks j)) ≢ None → price_of_last (filter (is_worse_step side price) (flat chunks)) ≡ price_of_last (filter (is_worse_step side price) (chunk_at chunks j))
  worse_here ne = ap price_of_last (worse_chunk side price chunks j at) ∙ last-append (flat (take j chunks)) (filter (is_worse_step side price) (chunk_at chunks j)) (some_last (filter (is_worse_step side price) (chunk_at chunks j)) ne)

  pub worse_first : j ≡ 0 → price_of_last (filter (is_worse_step side price) (flat chunks)) ≡ price_of_last (filter (is_worse_step side price) (chunk_at chunks j))
  worse_first z = ap price_of_last (worse_chunk side price chunks j at ∙ ap (λ (n : ℕ). flat (take n chunks) ++ filter (is_worse_step side price) (chunk_at chunks j)) z)

  pub worse_before : (i : ℕ) → i + 1 ≡ j → 0 < length (chunk_at chunks i) → price_of_last (filter (is_worse_step side price) (chunk_at chunks j)) ≡ None → price_of_last (filter (is_worse_step side price) (flat chunks)) ≡ price_of_last (chunk_at chunks i)
  worse_before i e full none =
      let a = flat (take j chunks) in
      let p = chunk_at chunks i in
      ap price_of_last (worse_chunk side price chunks j at ∙ ap (λ (l : List Step). a ++ l) (none_last (filter (is_worse_step side price) (chunk_at chunks j)) none) ∙ append-nil a ∙ ap (λ (n : ℕ). flat (take n chunks)) (sym e) ∙ flat-more chunks i (omega (arith, at.within)))
      ∙ last-append (flat (take i chunks)) p full
