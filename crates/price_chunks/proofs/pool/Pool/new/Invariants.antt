use Rattle.std.proofs.Common.{◌≡◌, ◌≤◌, [], ◌∷◌, length, replicate, vec_capacity}
use Rattle.price_chunks.specs.Inner.Pool.{numbers_of, rooms_of, gather_all, IsPool}
use Rattle.price_chunks.proofs.pool.Pool.new.Given as goal

abbrev pub invariant-loop-number : goal.invariant-loop-number
invariant-loop-number l = record {
  pool : IsPool l.chunks.items l.room (numbers_of l.sides.items) (rooms_of l.sides.items) [] (vec_capacity l.free);
  seen : gather_all l.chunks.items (numbers_of l.sides.items) ≡ replicate l.number ([] ∷ []);
  chunks : length l.chunks.items ≡ l.number;
  sides : length l.sides.items ≡ l.number;
  chunks_room : vec_capacity l.chunks ≡ l.room;
  sides_room : vec_capacity l.sides ≡ l.fn.count;
  free : l.free.items ≡ [];
  within : l.number ≤ l.fn.count;
}
