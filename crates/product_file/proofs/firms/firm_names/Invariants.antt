use Rattle.std.proofs.Common.{◌≡◌, map, take, drop}
use Rattle.std.specs.List.{list_all}
use Rattle.toml.specs.View.{view}
use Rattle.product_file.specs.Values.{text_in}
use Rattle.product_file.specs.Ranges.{is_firm_name}
use Rattle.product_file.proofs.firms.firm_names.Given as goal

-- the names so far, and that the others decide
abbrev pub invariant-loop-entry : goal.invariant-loop-entry
invariant-loop-entry l =
    let texts = map text_in (map view l.entries) in
    record {
      kept : l.names.items ≡ take l.entry-index texts;
      rest : list_all is_firm_name texts ≡ list_all is_firm_name (drop l.entry-index texts);
    }
