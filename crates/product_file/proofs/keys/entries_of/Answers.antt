use Rattle.std.proofs.Common.{◌≡◌, map, Some, refl}
use Rattle.toml.specs.Data.{as_array}
use Rattle.toml.specs.View.{view, array_view}
use Rattle.product_file.proofs.Mapped.{entries_of-items_of}
use Rattle.product_file.proofs.keys.entries_of.Goals as goal

pub returns-in-Some : goal.returns-in-Some
returns-in-Some c =
    let found : Some (array_view c.in-Some.entries.now) ≡ as_array (view c.args.value.now) = c.in-Some.ensures in
    rw (← found, c.as_slice.ensures.value, entries_of-items_of (map view c.in-Some.entries.now.items)) refl
