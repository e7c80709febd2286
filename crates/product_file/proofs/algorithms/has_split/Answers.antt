use Rattle.std.proofs.Common.{◌≡◌, map, Some}
use Rattle.toml.specs.Data.{as_array}
use Rattle.toml.specs.View.{view, array_view}
use Rattle.product_file.specs.Inner.Algorithms.{is_split}
use Rattle.product_file.proofs.Mapped.{entries_of-items_of, list_any-map}
use Rattle.product_file.proofs.algorithms.has_split.Goals as goal

pub returns-in-Some-as_array : goal.returns-in-Some-as_array
returns-in-Some-as_array c =
    let entries = c.in-Some-as_array.entries.now in
    let listed : Some (array_view entries) ≡ as_array (view c.in-Some.steps.now) = c.in-Some-as_array.ensures in
    let found = rw c.word.ensures at c.in-Some.ensures in
    rw (← found, ← listed, entries_of-items_of (map view entries.items), list_any-map is_split view entries.items) (rw c.as_slice.ensures.value at c.is_split_among.ensures)
