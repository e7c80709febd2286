-- The pool as its fields have it, at one place of one side.
use Rattle.std.proofs.Common.{◌≡◌, ℕ, ◌<◌, List, [], length, get_or, set, Vec, Global, sym, ap, ◌∙◌, arith}
use Rattle.std.proofs.lemmas.List.{get_or-map, get_or_read, length-map}
use Rattle.price_chunks.specs.declared.place.Step.{Step}
use Rattle.price_chunks.specs.Inner.Chunks.{chunk_at}
use Rattle.price_chunks.specs.Inner.Pool.{SideChunks, chunks_at, with_chunk, numbers_of, row_at, gather, gather_all, IsPool}
use Rattle.price_chunks.proofs.Apart.{row_seen, chunk_seen, number_in, changed, other-set}

module _ (chunks : List (List Step)) (room : ℕ) (sides : List (Vec ℕ Global)) (rooms free : List ℕ) (r : ℕ) (h : IsPool chunks room (numbers_of sides) rooms free r) (now : SideChunks) (view : record { room = room; sides = gather_all chunks (numbers_of sides) } ≡ now) (k : ℕ) (listed : k < length now.sides) where
  pub listed_in : k < length sides
  listed_in = omega (arith, ap {B = ℕ} (λ (x : SideChunks). length x.sides) view, length-map (numbers_of sides) (gather chunks), length-map sides (λ (v : Vec ℕ Global). v.items))

  listed_row : k < length (numbers_of sides)
  listed_row = omega (arith, listed_in, length-map sides (λ (v : Vec ℕ Global). v.items))

  pub row_is : (v : Vec ℕ Global) → v ≡ get_or sides k v → v.items ≡ row_at (numbers_of sides) k
  row_is v is = ap (λ (x : Vec ℕ Global). x.items) is ∙ sym (get_or-map (λ (x : Vec ℕ Global). x.items) sides k v [] listed_in)

  pub long_row : length (row_at (numbers_of sides) k) ≡ length (chunks_at now.sides k)
  long_row =
      sym (length-map (row_at (numbers_of sides) k) (chunk_at chunks))
      ∙ sym (ap {B = ℕ} length (row_seen chunks room (numbers_of sides) rooms free r h k listed_row))
      ∙ ap {B = ℕ} (λ (x : SideChunks). length (chunks_at x.sides k)) view

  module _ (i : ℕ) (within : i < length (chunks_at now.sides k)) where
    pub within_in : i < length (row_at (numbers_of sides) k)
    within_in = omega (arith, long_row)

    module _ (n : ℕ) (is : n ≡ get_or (row_at (numbers_of sides) k) i 0) where
      pub in_chunks : n < length chunks
      in_chunks = number_in chunks room (numbers_of sides) rooms free r h k i listed_row within_in n (sym is)

      pub chunk_is : (c : List Step) → c ≡ get_or chunks n c → c ≡ chunk_at (chunks_at now.sides k) i
      chunk_is c e =
          get_or_read chunks n c in_chunks e []
          ∙ sym (chunk_seen chunks room (numbers_of sides) rooms free r h k i listed_row within_in n (sym is))
          ∙ ap (λ (x : SideChunks). chunk_at (chunks_at x.sides k) i) view

      pub chunk_set : (steps new : List Step) → steps ≡ new → record { room = room; sides = gather_all (set chunks n steps) (numbers_of sides) } ≡ with_chunk now k i new
      chunk_set steps new e =
          ap (λ (l : List (List (List Step))). record { room = room; sides = l }) (changed chunks room (numbers_of sides) rooms free r h k i listed_row within_in n (sym is) (set chunks n steps) steps (other-set chunks n steps in_chunks))
          ∙ ap (λ (x : SideChunks). with_chunk x k i steps) view
          ∙ ap (with_chunk now k i) e
