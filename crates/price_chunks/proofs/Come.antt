-- A level has come to a chunk of a side.
use Rattle.std.proofs.Common.{◌≡◌, ◌≢◌, ℕ, ◌+◌, ◌<◌, List, [], length, set, subst, sym, ap, ◌∙◌, arith}
use Rattle.std.specs.List.{sum_by}
use Rattle.std.proofs.lemmas.List.{get_or-set_same, length-set}
use Rattle.price_chunks.specs.declared.place.Step.{Step}
use Rattle.gx_base.specs.declared.order.Side.{Side}
use Rattle.price_chunks.proofs.Changes.{all-chunk, put_kept, split_kept, flat_halves}
use Rattle.price_chunks.proofs.Sided.{halves, side_of, rest_is, rest_then, listed_still, room_left}
use Rattle.price_chunks.specs.Steps.{with_step}
use Rattle.price_chunks.specs.Inner.Chunks.{room, flat, chunk_at, AreChunks}
use Rattle.price_chunks.specs.Inner.Pool.{SideChunks, chunks_at, with_side, with_chunk}

module _ (old : SideChunks) (k : ℕ) (listed : k < length old.sides) (h : AreChunks (chunks_at old.sides k)) (j : ℕ) (within : j < length (chunks_at old.sides k)) (x : List Step) (long : length x ≡ length (chunk_at (chunks_at old.sides k) j) + 1) (p : SideChunks) (e : p ≡ with_chunk old k j x) where
  abbrev chunks : List (List Step)
  chunks = chunks_at old.sides k

  seen : chunks_at p.sides k ≡ set chunks j x
  seen = side_of old k listed p (set chunks j x) e

  pub come_listed : k < length p.sides
  come_listed = listed_still old k listed p (set chunks j x) e

  pub come_within : j < length (chunks_at p.sides k)
  come_within = omega (arith, within, length-set chunks j x, ap {B = ℕ} length seen)

  pub come_room : sum_by length old.sides < old.room → sum_by length p.sides < p.room
  come_room fits = room_left old k listed p (set chunks j x) e (length-set chunks j x) fits

  pub come_rest : p ≡ with_side old k (chunks_at p.sides k)
  come_rest = rest_is old k listed p (set chunks j x) e

  module _ (n : ℕ) (n_is : n ≡ length (chunk_at (chunks_at p.sides k) j)) where
    pub come_long : n ≡ length x
    come_long = n_is ∙ ap {B = ℕ} length (ap (λ (l : List (List Step)). chunk_at l j) seen ∙ get_or-set_same chunks j x [] within)

    pub come_kept : n ≢ room → AreChunks (chunks_at p.sides k)
    come_kept ne =
        let a = all-chunk chunks j h.below in
        let l = come_long in
        subst AreChunks (sym seen) (put_kept chunks j x within h (omega arith) (omega arith))

    module _ (q : SideChunks) (f : q ≡ with_side p k (halves j (chunks_at p.sides k))) where
      split_seen : chunks_at q.sides k ≡ halves j (set chunks j x)
      split_seen = side_of p k come_listed q (halves j (chunks_at p.sides k)) f ∙ ap (halves j) seen

      pub split_rest : q ≡ with_side old k (chunks_at q.sides k)
      split_rest = rest_is old k listed q (halves j (chunks_at p.sides k)) (rest_then old k listed p (set chunks j x) e q (halves j (chunks_at p.sides k)) f)

      pub split_chunks : n ≡ room → AreChunks (chunks_at q.sides k)
      split_chunks full =
          let l = come_long in
          subst AreChunks (sym split_seen) (split_kept chunks j x within h (omega arith) (omega arith))

      pub split_flat : (side : Side) (step : Step) → flat (set chunks j x) ≡ with_step side step (flat chunks) → flat (chunks_at q.sides k) ≡ with_step side step (flat chunks)
      split_flat side step now = ap flat split_seen ∙ flat_halves (set chunks j x) j (omega (arith, within, length-set chunks j x)) ∙ now

  pub come_flat : (side : Side) (step : Step) → flat (set chunks j x) ≡ with_step side step (flat chunks) → flat (chunks_at p.sides k) ≡ with_step side step (flat chunks)
  come_flat side step now = ap flat seen ∙ now
