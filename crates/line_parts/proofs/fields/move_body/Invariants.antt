use Rattle.std.proofs.Common.{◌≡◌, ◌+◌, ◌-◌, ◌<◌, ◌≤◌, ◌++◌, length, take, drop}
use Rattle.line_parts.specs.declared.fields.TheConstants.{GAP}
use Rattle.line_parts.specs.declared.sum.TheConstants.{BLOCK}
use Rattle.line_parts.proofs.fields.move_body.Given as goal

abbrev pub invariant-loop-from : goal.invariant-loop-from
invariant-loop-from l = record {
  same_length : length l.into ≡ length l.initial.into;
  within : (GAP ≤ l.from) × (l.from < l.end + BLOCK);
  moved : take (l.to + (l.from - GAP)) l.into ≡ take l.to l.initial.into ++ drop GAP (take l.from l.initial.into);
  behind : drop l.from l.into ≡ drop l.from l.initial.into;
}

abbrev pub decreases-loop-from : goal.decreases-loop-from
decreases-loop-from l = l.end - l.from
