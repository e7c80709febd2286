use Rattle.std.proofs.Common.{◌≡◌, ◌+◌, ◌++◌, take, drop}
use Rattle.gx_base.proofs.bytes.append_few.Given as goal

abbrev pub invariant-loop-k : goal.invariant-loop-k
invariant-loop-k l =
    (take (l.at + l.k) l.into ≡ take l.at l.initial.into ++ take l.k l.bytes) × (drop (l.at + l.k) l.into ≡ drop (l.at + l.k) l.initial.into)
