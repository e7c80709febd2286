use Rattle.std.proofs.Common.{◌≡◌, ◌+◌, ◌≤◌, length, map, take, drop, bytes_eq}
use Rattle.step_config.specs.Rules.{first_twice_after}
use Rattle.indexmap.specs.IndexSet.{spare}
use Rattle.product_file.specs.Inner.FirmNames.{first_name_twice}
use Rattle.product_file.proofs.firms.first_numbered.Given as goal

-- the names so far are numbered, and the others decide
abbrev pub invariant-loop-name : goal.invariant-loop-name
invariant-loop-name l = record {
  decides : first_name_twice l.names ≡ first_twice_after bytes_eq (λ name. name) (take l.name-index l.names) (drop l.name-index l.names);
  numbered : map (λ k. k.now) l.numbers.keys ≡ take l.name-index l.names;
  room : length l.names ≤ spare l.numbers + l.name-index;
}
