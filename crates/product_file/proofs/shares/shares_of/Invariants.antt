use Rattle.std.proofs.Common.{◌≡◌, [], length, map, drop}
use Rattle.toml.specs.View.{view}
use Rattle.product_file.specs.Inner.Shares.{shares_after}
use Rattle.product_file.proofs.shares.shares_of.Given as goal

-- the shares so far, and that the other entries go on from them
abbrev pub invariant-loop-entry : goal.invariant-loop-entry
invariant-loop-entry l =
    let entries = map view l.entries in
    record {
      rest : shares_after l.firms [] entries ≡ shares_after l.firms l.shares.items (drop l.entry-index entries);
      count : length l.shares.items ≡ l.entry-index;
    }
