-- What a product that follows another one does to the state of the engine (our own rule).
use Rattle.std.specs.Prelude.{◌&&◌, map, slice_get}
use Rattle.product_file.specs.Products.{ProductLists, has_top_by}
use Rattle.plain_book.specs.declared.entry.Entry.{Entry}
use Rattle.order_kinds.specs.State.{State}

-- an order, which is TOP no longer where the steps of its instrument favor none
abbrev pub untopped : ProductLists → Entry → Entry
untopped product e = record e { is_top = e.is_top && has_top_by (slice_get product.rules e.order.instrument) }

-- TOP ends on both sides of each instrument that has no TOP step in the product. All else stays, and there is no event.
abbrev pub amended_state : ProductLists → State → State
amended_state product state = record state { book = record state.book { resting = map (untopped product) state.book.resting } }
