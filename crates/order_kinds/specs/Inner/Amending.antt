-- What the functions of an amendment do to a book: where TOP ends.
use Rattle.std.specs.Prelude.{ℕ, map, None}
use Rattle.gx_base.specs.declared.order.Side.TheVariants.{Buy, Sell}
use Rattle.product_file.specs.Products.{ProductLists}
use Rattle.plain_book.specs.Book.{Book, book_with_top}
use Rattle.order_kinds.specs.Amendments.{untopped}

-- TOP ends on both sides of an instrument
abbrev pub tops_ended : ℕ → Book → Book
tops_ended instrument b = book_with_top instrument Sell None (book_with_top instrument Buy None b)

-- TOP ends on both sides of each instrument that has no TOP step
abbrev pub tops_ended_by : ProductLists → Book → Book
tops_ended_by product b = record b { resting = map (untopped product) b.resting }
