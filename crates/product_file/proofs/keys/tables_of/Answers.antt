use Rattle.std.proofs.lemmas.List.Folds.{list_all-map}
use Rattle.toml.specs.View.{view}
use Rattle.product_file.specs.Rows.{is_table}
use Rattle.product_file.specs.Inner.Keys.{array_of}
use Rattle.product_file.proofs.keys.tables_of.Goals as goal

pub returns : goal.returns
unfolding array_of
returns c = rw (← c.in_ok-entries.ensures, list_all-map is_table view c.in_ok-entries.entries.now, ← c.are_tables.ensures) c.of_kind.ensures
