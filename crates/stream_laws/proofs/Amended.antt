-- An amendment changes no level: it ends TOP orders alone, and a level does not tell which order is TOP.
use Rattle.std.proofs.Common.{◌≡◌, List, [], ◌∷◌, map, refl, ap}
use Rattle.product_file.specs.Products.{ProductLists}
use Rattle.plain_book.specs.declared.entry.Entry.{Entry}
use Rattle.order_kinds.specs.State.{State}
use Rattle.order_kinds.specs.Amendments.{untopped, amended_state}
use Rattle.level_feed.specs.declared.row.Row.{Row}
use Rattle.level_feed.specs.Rows.{counted, levels_of}
use Rattle.level_feed.specs.Feeds.{levels_of_state}

levels-untopped : (product : ProductLists) (es : List Entry) → levels_of (map (untopped product) es) ≡ levels_of es
levels-untopped product [] = refl
levels-untopped product (e ∷ es) = ap (λ (rows : List Row). counted e rows) (levels-untopped product es)

pub levels-amended : (product : ProductLists) (state : State) → levels_of_state (amended_state product state) ≡ levels_of_state state
levels-amended product state = levels-untopped product state.book.resting
