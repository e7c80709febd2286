use Rattle.std.proofs.Common.{◌≡◌, [], length, map, drop}
use Rattle.toml.specs.View.{view}
use Rattle.product_file.specs.Inner.Instruments.{instruments_after}
use Rattle.product_file.proofs.instruments.instruments_of.Given as goal

-- the instruments so far, and that the other tables go on from them
abbrev pub invariant-loop-table : goal.invariant-loop-table
invariant-loop-table l =
    let tables = map view l.tables in
    record {
      rest : instruments_after l.firms (record { listed = []; rules = [] }) tables ≡ instruments_after l.firms (record { listed = l.listed.items; rules = l.rules.items }) (drop l.table-index tables);
      names : length l.listed.items ≡ l.table-index;
      count : length l.rules.items ≡ l.table-index;
    }
