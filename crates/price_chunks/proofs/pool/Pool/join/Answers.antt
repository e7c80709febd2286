use Rattle.std.proofs.Common.{◌≡◌, ℕ, ◌+◌, List, [], ◌∷◌, ◌++◌, length, set, vec_capacity, refl, sym, ap, subst, ◌∙◌, arith}
use Rattle.std.proofs.lemmas.List.{length-set}
use Rattle.price_chunks.proofs.Held.{within_in, in_chunks, chunk_is, chunk_set}
use Rattle.price_chunks.proofs.Moves.{counted, row_long, row_below, m_read, m_in, less_pool, left, left_listed, left_within, left_chunk, join_view}
use Rattle.price_chunks.proofs.pool.Pool.join.Goals as goal
use Rattle.price_chunks.specs.Inner.Chunks.{chunk_at}
use Rattle.price_chunks.specs.Inner.Pool.{chunks_at, numbers_of, rooms_of, gather_all, IsPool}

pub overflow_add-at : goal.overflow_add-at
overflow_add-at c = omega (arith, row_long c.self.inside.chunks.items (vec_capacity c.self.inside.chunks) c.self.inside.sides.items c.self.inside.free.items (vec_capacity c.self.inside.free) c.self.invariant.0 c.args.self.now c.self.view_is c.args.side_at c.requires.listed c.index_mut.result.now c.index_mut.ensures.value, c.index_mut.result.now.ok.0, c.requires.within)

pub remove-number-requires : goal.remove-number-requires
remove-number-requires c = omega (arith, row_long c.self.inside.chunks.items (vec_capacity c.self.inside.chunks) c.self.inside.sides.items c.self.inside.free.items (vec_capacity c.self.inside.free) c.self.invariant.0 c.args.self.now c.self.view_is c.args.side_at c.requires.listed c.index_mut.result.now c.index_mut.ensures.value, c.index_mut.result.now.ok.0, c.requires.within)

next_is : (c : goal.After-next-1) → c.replace-next.result ≡ chunk_at (chunks_at c.args.self.now.sides c.args.side_at) (c.args.at + 1)
next_is c = c.replace-next.ensures.value ∙ chunk_is c.self.inside.chunks.items (vec_capacity c.self.inside.chunks) c.self.inside.sides.items (rooms_of c.self.inside.sides.items) c.self.inside.free.items (vec_capacity c.self.inside.free) c.self.invariant.0 c.args.self.now c.self.view_is c.args.side_at c.requires.listed (c.args.at + 1) c.requires.within c.remove-number.result (m_read c.self.inside.chunks.items (vec_capacity c.self.inside.chunks) c.self.inside.sides.items c.self.inside.free.items (vec_capacity c.self.inside.free) c.self.invariant.0 c.args.self.now c.self.view_is c.args.side_at c.requires.listed c.index_mut.result.now c.index_mut.ensures.value c.remove-number.new.self c.args.at c.requires.within c.remove-number.result c.remove-number.ensures.value c.remove-number.ensures.items c.remove-number.ensures.capacity c.replace-next.new.dest) c.index_mut-2.result.now c.index_mut-2.ensures.value

pub index_mut-requires-2 : goal.index_mut-requires-2
index_mut-requires-2 c = omega (arith, m_in c.self.inside.chunks.items (vec_capacity c.self.inside.chunks) c.self.inside.sides.items c.self.inside.free.items (vec_capacity c.self.inside.free) c.self.invariant.0 c.args.self.now c.self.view_is c.args.side_at c.requires.listed c.index_mut.result.now c.index_mut.ensures.value c.remove-number.new.self c.args.at c.requires.within c.remove-number.result c.remove-number.ensures.value c.remove-number.ensures.items c.remove-number.ensures.capacity [], c.self.inside.chunks.ok.0)

pub number_of-requires-clause-within : goal.number_of-requires-clause-within
number_of-requires-clause-within c = within_in (set c.self.inside.chunks.items c.remove-number.result c.replace-next.new.dest) (vec_capacity c.self.inside.chunks) (set c.self.inside.sides.items c.args.side_at c.remove-number.new.self) (rooms_of (set c.self.inside.sides.items c.args.side_at c.remove-number.new.self)) (c.self.inside.free.items ++ c.remove-number.result ∷ []) (vec_capacity c.self.inside.free) (less_pool c.self.inside.chunks.items (vec_capacity c.self.inside.chunks) c.self.inside.sides.items c.self.inside.free.items (vec_capacity c.self.inside.free) c.self.invariant.0 c.args.self.now c.self.view_is c.args.side_at c.requires.listed c.index_mut.result.now c.index_mut.ensures.value c.remove-number.new.self c.args.at c.requires.within c.remove-number.result c.remove-number.ensures.value c.remove-number.ensures.items c.remove-number.ensures.capacity c.replace-next.new.dest (set c.self.inside.chunks.items c.remove-number.result c.replace-next.new.dest) (length-set c.self.inside.chunks.items c.remove-number.result c.replace-next.new.dest)) (left c.self.inside.chunks.items (vec_capacity c.self.inside.chunks) c.self.inside.sides.items c.self.inside.free.items (vec_capacity c.self.inside.free) c.self.invariant.0 c.args.self.now c.self.view_is c.args.side_at c.requires.listed c.index_mut.result.now c.index_mut.ensures.value c.remove-number.new.self c.args.at c.requires.within c.remove-number.result c.remove-number.ensures.value c.remove-number.ensures.items c.remove-number.ensures.capacity c.replace-next.new.dest) refl c.args.side_at (left_listed c.self.inside.chunks.items (vec_capacity c.self.inside.chunks) c.self.inside.sides.items c.self.inside.free.items (vec_capacity c.self.inside.free) c.self.invariant.0 c.args.self.now c.self.view_is c.args.side_at c.requires.listed c.index_mut.result.now c.index_mut.ensures.value c.remove-number.new.self c.args.at c.requires.within c.remove-number.result c.remove-number.ensures.value c.remove-number.ensures.items c.remove-number.ensures.capacity c.replace-next.new.dest) c.args.at (left_within c.self.inside.chunks.items (vec_capacity c.self.inside.chunks) c.self.inside.sides.items c.self.inside.free.items (vec_capacity c.self.inside.free) c.self.invariant.0 c.args.self.now c.self.view_is c.args.side_at c.requires.listed c.index_mut.result.now c.index_mut.ensures.value c.remove-number.new.self c.args.at c.requires.within c.remove-number.result c.remove-number.ensures.value c.remove-number.ensures.items c.remove-number.ensures.capacity c.replace-next.new.dest)

pub index_mut-requires-3 : goal.index_mut-requires-3
index_mut-requires-3 c = omega (arith, in_chunks (set c.self.inside.chunks.items c.remove-number.result c.replace-next.new.dest) (vec_capacity c.self.inside.chunks) (set c.self.inside.sides.items c.args.side_at c.remove-number.new.self) (rooms_of (set c.self.inside.sides.items c.args.side_at c.remove-number.new.self)) (c.self.inside.free.items ++ c.remove-number.result ∷ []) (vec_capacity c.self.inside.free) (less_pool c.self.inside.chunks.items (vec_capacity c.self.inside.chunks) c.self.inside.sides.items c.self.inside.free.items (vec_capacity c.self.inside.free) c.self.invariant.0 c.args.self.now c.self.view_is c.args.side_at c.requires.listed c.index_mut.result.now c.index_mut.ensures.value c.remove-number.new.self c.args.at c.requires.within c.remove-number.result c.remove-number.ensures.value c.remove-number.ensures.items c.remove-number.ensures.capacity c.replace-next.new.dest (set c.self.inside.chunks.items c.remove-number.result c.replace-next.new.dest) (length-set c.self.inside.chunks.items c.remove-number.result c.replace-next.new.dest)) (left c.self.inside.chunks.items (vec_capacity c.self.inside.chunks) c.self.inside.sides.items c.self.inside.free.items (vec_capacity c.self.inside.free) c.self.invariant.0 c.args.self.now c.self.view_is c.args.side_at c.requires.listed c.index_mut.result.now c.index_mut.ensures.value c.remove-number.new.self c.args.at c.requires.within c.remove-number.result c.remove-number.ensures.value c.remove-number.ensures.items c.remove-number.ensures.capacity c.replace-next.new.dest) refl c.args.side_at (left_listed c.self.inside.chunks.items (vec_capacity c.self.inside.chunks) c.self.inside.sides.items c.self.inside.free.items (vec_capacity c.self.inside.free) c.self.invariant.0 c.args.self.now c.self.view_is c.args.side_at c.requires.listed c.index_mut.result.now c.index_mut.ensures.value c.remove-number.new.self c.args.at c.requires.within c.remove-number.result c.remove-number.ensures.value c.remove-number.ensures.items c.remove-number.ensures.capacity c.replace-next.new.dest) c.args.at (left_within c.self.inside.chunks.items (vec_capacity c.self.inside.chunks) c.self.inside.sides.items c.self.inside.free.items (vec_capacity c.self.inside.free) c.self.invariant.0 c.args.self.now c.self.view_is c.args.side_at c.requires.listed c.index_mut.result.now c.index_mut.ensures.value c.remove-number.new.self c.args.at c.requires.within c.remove-number.result c.remove-number.ensures.value c.remove-number.ensures.items c.remove-number.ensures.capacity c.replace-next.new.dest) c.number_of.result c.number_of.ensures, c.self.inside.chunks.ok.0, length-set c.self.inside.chunks.items c.remove-number.result c.replace-next.new.dest)

here_is : (c : goal.After-next-1) → c.index_mut-3.result.now ≡ chunk_at (chunks_at c.args.self.now.sides c.args.side_at) c.args.at
here_is c = chunk_is (set c.self.inside.chunks.items c.remove-number.result c.replace-next.new.dest) (vec_capacity c.self.inside.chunks) (set c.self.inside.sides.items c.args.side_at c.remove-number.new.self) (rooms_of (set c.self.inside.sides.items c.args.side_at c.remove-number.new.self)) (c.self.inside.free.items ++ c.remove-number.result ∷ []) (vec_capacity c.self.inside.free) (less_pool c.self.inside.chunks.items (vec_capacity c.self.inside.chunks) c.self.inside.sides.items c.self.inside.free.items (vec_capacity c.self.inside.free) c.self.invariant.0 c.args.self.now c.self.view_is c.args.side_at c.requires.listed c.index_mut.result.now c.index_mut.ensures.value c.remove-number.new.self c.args.at c.requires.within c.remove-number.result c.remove-number.ensures.value c.remove-number.ensures.items c.remove-number.ensures.capacity c.replace-next.new.dest (set c.self.inside.chunks.items c.remove-number.result c.replace-next.new.dest) (length-set c.self.inside.chunks.items c.remove-number.result c.replace-next.new.dest)) (left c.self.inside.chunks.items (vec_capacity c.self.inside.chunks) c.self.inside.sides.items c.self.inside.free.items (vec_capacity c.self.inside.free) c.self.invariant.0 c.args.self.now c.self.view_is c.args.side_at c.requires.listed c.index_mut.result.now c.index_mut.ensures.value c.remove-number.new.self c.args.at c.requires.within c.remove-number.result c.remove-number.ensures.value c.remove-number.ensures.items c.remove-number.ensures.capacity c.replace-next.new.dest) refl c.args.side_at (left_listed c.self.inside.chunks.items (vec_capacity c.self.inside.chunks) c.self.inside.sides.items c.self.inside.free.items (vec_capacity c.self.inside.free) c.self.invariant.0 c.args.self.now c.self.view_is c.args.side_at c.requires.listed c.index_mut.result.now c.index_mut.ensures.value c.remove-number.new.self c.args.at c.requires.within c.remove-number.result c.remove-number.ensures.value c.remove-number.ensures.items c.remove-number.ensures.capacity c.replace-next.new.dest) c.args.at (left_within c.self.inside.chunks.items (vec_capacity c.self.inside.chunks) c.self.inside.sides.items c.self.inside.free.items (vec_capacity c.self.inside.free) c.self.invariant.0 c.args.self.now c.self.view_is c.args.side_at c.requires.listed c.index_mut.result.now c.index_mut.ensures.value c.remove-number.new.self c.args.at c.requires.within c.remove-number.result c.remove-number.ensures.value c.remove-number.ensures.items c.remove-number.ensures.capacity c.replace-next.new.dest) c.number_of.result c.number_of.ensures c.index_mut-3.result.now c.index_mut-3.ensures.value ∙ left_chunk c.self.inside.chunks.items (vec_capacity c.self.inside.chunks) c.self.inside.sides.items c.self.inside.free.items (vec_capacity c.self.inside.free) c.self.invariant.0 c.args.self.now c.self.view_is c.args.side_at c.requires.listed c.index_mut.result.now c.index_mut.ensures.value c.remove-number.new.self c.args.at c.requires.within c.remove-number.result c.remove-number.ensures.value c.remove-number.ensures.items c.remove-number.ensures.capacity c.replace-next.new.dest

pub append-requires : goal.append-requires
append-requires c = omega (arith, ap {B = ℕ} length (here_is c), ap {B = ℕ} length (next_is c), c.requires.fits)

pub push_reserved-requires : goal.push_reserved-requires
push_reserved-requires c = omega (arith, counted c.self.inside.chunks.items (vec_capacity c.self.inside.chunks) c.self.inside.sides.items c.self.inside.free.items (vec_capacity c.self.inside.free) c.self.invariant.0 c.args.self.now c.self.view_is, row_below c.self.inside.chunks.items (vec_capacity c.self.inside.chunks) c.self.inside.sides.items c.self.inside.free.items (vec_capacity c.self.inside.free) c.self.invariant.0 c.args.self.now c.self.view_is c.args.side_at c.requires.listed c.index_mut.result.now c.index_mut.ensures.value, row_long c.self.inside.chunks.items (vec_capacity c.self.inside.chunks) c.self.inside.sides.items c.self.inside.free.items (vec_capacity c.self.inside.free) c.self.invariant.0 c.args.self.now c.self.view_is c.args.side_at c.requires.listed c.index_mut.result.now c.index_mut.ensures.value, c.requires.within, c.self.invariant.0.spared, c.self.inside.free.ok.0, c.self.inside.chunks.ok.0, c.self.inside.chunks.ok.1)

pub invariant_of-self : goal.invariant_of-self
invariant_of-self c =
    let first = (set c.self.inside.chunks.items c.remove-number.result c.replace-next.new.dest) in
    let last = set first c.number_of.result c.append.new.self in
    let sides = set c.self.inside.sides.items c.args.side_at c.remove-number.new.self in
    let long = length-set first c.number_of.result c.append.new.self ∙ length-set c.self.inside.chunks.items c.remove-number.result c.replace-next.new.dest in (
      subst (λ (x : List ℕ × ℕ). IsPool last (vec_capacity c.self.inside.chunks) (numbers_of sides) (rooms_of sides) x.0 x.1) (λ j. (sym c.push_reserved.ensures.items j, sym c.push_reserved.ensures.capacity j)) (less_pool c.self.inside.chunks.items (vec_capacity c.self.inside.chunks) c.self.inside.sides.items c.self.inside.free.items (vec_capacity c.self.inside.free) c.self.invariant.0 c.args.self.now c.self.view_is c.args.side_at c.requires.listed c.index_mut.result.now c.index_mut.ensures.value c.remove-number.new.self c.args.at c.requires.within c.remove-number.result c.remove-number.ensures.value c.remove-number.ensures.items c.remove-number.ensures.capacity c.replace-next.new.dest last long),
      c.self.invariant.1 ∙ sym (length-set c.self.inside.sides.items c.args.side_at c.remove-number.new.self),
    )

pub returns : goal.returns
returns c =
    let next = c.replace-next.ensures.value ∙ chunk_is c.self.inside.chunks.items (vec_capacity c.self.inside.chunks) c.self.inside.sides.items (rooms_of c.self.inside.sides.items) c.self.inside.free.items (vec_capacity c.self.inside.free) c.self.invariant.0 c.args.self.now c.self.view_is c.args.side_at c.requires.listed (c.args.at + 1) c.requires.within c.remove-number.result (m_read c.self.inside.chunks.items (vec_capacity c.self.inside.chunks) c.self.inside.sides.items c.self.inside.free.items (vec_capacity c.self.inside.free) c.self.invariant.0 c.args.self.now c.self.view_is c.args.side_at c.requires.listed c.index_mut.result.now c.index_mut.ensures.value c.remove-number.new.self c.args.at c.requires.within c.remove-number.result c.remove-number.ensures.value c.remove-number.ensures.items c.remove-number.ensures.capacity c.replace-next.new.dest) c.index_mut-2.result.now c.index_mut-2.ensures.value in
    let here = chunk_is (set c.self.inside.chunks.items c.remove-number.result c.replace-next.new.dest) (vec_capacity c.self.inside.chunks) (set c.self.inside.sides.items c.args.side_at c.remove-number.new.self) (rooms_of (set c.self.inside.sides.items c.args.side_at c.remove-number.new.self)) (c.self.inside.free.items ++ c.remove-number.result ∷ []) (vec_capacity c.self.inside.free) (less_pool c.self.inside.chunks.items (vec_capacity c.self.inside.chunks) c.self.inside.sides.items c.self.inside.free.items (vec_capacity c.self.inside.free) c.self.invariant.0 c.args.self.now c.self.view_is c.args.side_at c.requires.listed c.index_mut.result.now c.index_mut.ensures.value c.remove-number.new.self c.args.at c.requires.within c.remove-number.result c.remove-number.ensures.value c.remove-number.ensures.items c.remove-number.ensures.capacity c.replace-next.new.dest (set c.self.inside.chunks.items c.remove-number.result c.replace-next.new.dest) (length-set c.self.inside.chunks.items c.remove-number.result c.replace-next.new.dest)) (left c.self.inside.chunks.items (vec_capacity c.self.inside.chunks) c.self.inside.sides.items c.self.inside.free.items (vec_capacity c.self.inside.free) c.self.invariant.0 c.args.self.now c.self.view_is c.args.side_at c.requires.listed c.index_mut.result.now c.index_mut.ensures.value c.remove-number.new.self c.args.at c.requires.within c.remove-number.result c.remove-number.ensures.value c.remove-number.ensures.items c.remove-number.ensures.capacity c.replace-next.new.dest) refl c.args.side_at (left_listed c.self.inside.chunks.items (vec_capacity c.self.inside.chunks) c.self.inside.sides.items c.self.inside.free.items (vec_capacity c.self.inside.free) c.self.invariant.0 c.args.self.now c.self.view_is c.args.side_at c.requires.listed c.index_mut.result.now c.index_mut.ensures.value c.remove-number.new.self c.args.at c.requires.within c.remove-number.result c.remove-number.ensures.value c.remove-number.ensures.items c.remove-number.ensures.capacity c.replace-next.new.dest) c.args.at (left_within c.self.inside.chunks.items (vec_capacity c.self.inside.chunks) c.self.inside.sides.items c.self.inside.free.items (vec_capacity c.self.inside.free) c.self.invariant.0 c.args.self.now c.self.view_is c.args.side_at c.requires.listed c.index_mut.result.now c.index_mut.ensures.value c.remove-number.new.self c.args.at c.requires.within c.remove-number.result c.remove-number.ensures.value c.remove-number.ensures.items c.remove-number.ensures.capacity c.replace-next.new.dest) c.number_of.result c.number_of.ensures c.index_mut-3.result.now c.index_mut-3.ensures.value ∙ left_chunk c.self.inside.chunks.items (vec_capacity c.self.inside.chunks) c.self.inside.sides.items c.self.inside.free.items (vec_capacity c.self.inside.free) c.self.invariant.0 c.args.self.now c.self.view_is c.args.side_at c.requires.listed c.index_mut.result.now c.index_mut.ensures.value c.remove-number.new.self c.args.at c.requires.within c.remove-number.result c.remove-number.ensures.value c.remove-number.ensures.items c.remove-number.ensures.capacity c.replace-next.new.dest in
    let x = c.append.new.self in
    let all = chunk_set (set c.self.inside.chunks.items c.remove-number.result c.replace-next.new.dest) (vec_capacity c.self.inside.chunks) (set c.self.inside.sides.items c.args.side_at c.remove-number.new.self) (rooms_of (set c.self.inside.sides.items c.args.side_at c.remove-number.new.self)) (c.self.inside.free.items ++ c.remove-number.result ∷ []) (vec_capacity c.self.inside.free) (less_pool c.self.inside.chunks.items (vec_capacity c.self.inside.chunks) c.self.inside.sides.items c.self.inside.free.items (vec_capacity c.self.inside.free) c.self.invariant.0 c.args.self.now c.self.view_is c.args.side_at c.requires.listed c.index_mut.result.now c.index_mut.ensures.value c.remove-number.new.self c.args.at c.requires.within c.remove-number.result c.remove-number.ensures.value c.remove-number.ensures.items c.remove-number.ensures.capacity c.replace-next.new.dest (set c.self.inside.chunks.items c.remove-number.result c.replace-next.new.dest) (length-set c.self.inside.chunks.items c.remove-number.result c.replace-next.new.dest)) (left c.self.inside.chunks.items (vec_capacity c.self.inside.chunks) c.self.inside.sides.items c.self.inside.free.items (vec_capacity c.self.inside.free) c.self.invariant.0 c.args.self.now c.self.view_is c.args.side_at c.requires.listed c.index_mut.result.now c.index_mut.ensures.value c.remove-number.new.self c.args.at c.requires.within c.remove-number.result c.remove-number.ensures.value c.remove-number.ensures.items c.remove-number.ensures.capacity c.replace-next.new.dest) refl c.args.side_at (left_listed c.self.inside.chunks.items (vec_capacity c.self.inside.chunks) c.self.inside.sides.items c.self.inside.free.items (vec_capacity c.self.inside.free) c.self.invariant.0 c.args.self.now c.self.view_is c.args.side_at c.requires.listed c.index_mut.result.now c.index_mut.ensures.value c.remove-number.new.self c.args.at c.requires.within c.remove-number.result c.remove-number.ensures.value c.remove-number.ensures.items c.remove-number.ensures.capacity c.replace-next.new.dest) c.args.at (left_within c.self.inside.chunks.items (vec_capacity c.self.inside.chunks) c.self.inside.sides.items c.self.inside.free.items (vec_capacity c.self.inside.free) c.self.invariant.0 c.args.self.now c.self.view_is c.args.side_at c.requires.listed c.index_mut.result.now c.index_mut.ensures.value c.remove-number.new.self c.args.at c.requires.within c.remove-number.result c.remove-number.ensures.value c.remove-number.ensures.items c.remove-number.ensures.capacity c.replace-next.new.dest) c.number_of.result c.number_of.ensures x x refl in
    join_view c.self.inside.chunks.items (vec_capacity c.self.inside.chunks) c.self.inside.sides.items c.self.inside.free.items (vec_capacity c.self.inside.free) c.self.invariant.0 c.args.self.now c.self.view_is c.args.side_at c.requires.listed c.index_mut.result.now c.index_mut.ensures.value c.remove-number.new.self c.args.at c.requires.within c.remove-number.result c.remove-number.ensures.value c.remove-number.ensures.items c.remove-number.ensures.capacity c.replace-next.new.dest (record { room = vec_capacity c.self.inside.chunks; sides = gather_all (set (set c.self.inside.chunks.items c.remove-number.result c.replace-next.new.dest) c.number_of.result x) (numbers_of (set c.self.inside.sides.items c.args.side_at c.remove-number.new.self)) }) x all (c.append.ensures ∙ (λ j. here j ++ next j))
