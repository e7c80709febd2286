-- A level of a chunk of a side has changed or has gone.
use Rattle.std.proofs.Common.{◌≡◌, ℕ, ◌+◌, ◌<◌, ◌≤◌, List, length, set, subst, sym, ap, ◌∙◌, arith}
use Rattle.price_chunks.specs.declared.place.Step.{Step}
use Rattle.price_chunks.proofs.Changes.{all-chunk, put_kept, less_from}
use Rattle.price_chunks.proofs.Sided.{side_of, rest_is, rest_then, listed_still}
use Rattle.price_chunks.specs.Inner.Chunks.{flat, chunk_at, AreChunks, IsLessAt}
use Rattle.price_chunks.specs.Inner.Pool.{SideChunks, chunks_at, with_side, with_chunk}

module _ (old : SideChunks) (k : ℕ) (listed : k < length old.sides) (h : AreChunks (chunks_at old.sides k)) (j : ℕ) (within : j < length (chunks_at old.sides k)) (x : List Step) (p : SideChunks) (e : p ≡ with_chunk old k j x) where
  abbrev chunks : List (List Step)
  chunks = chunks_at old.sides k

  pub gone_seen : chunks_at p.sides k ≡ set chunks j x
  gone_seen = side_of old k listed p (set chunks j x) e

  pub gone_listed : k < length p.sides
  gone_listed = listed_still old k listed p (set chunks j x) e

  -- it has one level less, or as many
  pub gone_less : length (chunk_at chunks j) ≤ length x + 1 → length x ≤ length (chunk_at chunks j) → IsLessAt (chunks_at p.sides k) j
  gone_less a b = subst (λ (l : List (List Step)). IsLessAt l j) (sym gone_seen) (less_from chunks j x within h a b)

  -- it has as many levels
  pub same_rest : p ≡ with_side old k (chunks_at p.sides k)
  same_rest = rest_is old k listed p (set chunks j x) e

  pub same_chunks : length x ≡ length (chunk_at chunks j) → AreChunks (chunks_at p.sides k)
  same_chunks long = let below = all-chunk chunks j h.below in subst AreChunks (sym gone_seen) (put_kept chunks j x within h (omega arith) (omega arith))

  module _ (q : SideChunks) (f : q ≡ with_side p k (chunks_at q.sides k)) where
    pub gone_rest : q ≡ with_side old k (chunks_at q.sides k)
    gone_rest = rest_then old k listed p (set chunks j x) e q (chunks_at q.sides k) f

    pub gone_flat : flat (chunks_at q.sides k) ≡ flat (chunks_at p.sides k) → flat (chunks_at q.sides k) ≡ flat (set chunks j x)
    gone_flat g = g ∙ ap flat gone_seen
