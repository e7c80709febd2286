use Rattle.std.proofs.Common.{◌≡◌, replicate, vec_capacity}
use Rattle.id_table.specs.Inner.Nodes.{nowhere}
use Rattle.id_table.proofs.forest.empty_buckets.Given as goal

abbrev pub invariant-loop : goal.invariant-loop
invariant-loop l = (l.buckets.items ≡ replicate l.counter nowhere) × (vec_capacity l.buckets ≡ l.count)
