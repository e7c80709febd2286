-- A cleared core is new.
use Rattle.std.proofs.Common.{◌≡◌, ℕ, length, replicate, None, ◌∙◌, ap}
use Rattle.gx_base.specs.declared.trading.Trading.TheVariants.{Open}
use Rattle.product_file.specs.Products.{ProductLists}
use Rattle.plain_book.specs.Book.{empty_book, book_cleared}
use Rattle.order_kinds.specs.State.{State, empty_desk, empty_state}
use Rattle.order_kinds.specs.Cores.{FitsProduct}

pub cleared_new : (product : ProductLists) (s : State) → FitsProduct product s → record { book = book_cleared s.book; last = replicate (length s.last) None; desk = empty_desk; trading = Open } ≡ empty_state product
cleared_new product s fits =
    let state : ℕ → ℕ → ℕ → State = λ capacity instruments prices. record { book = empty_book capacity instruments; last = replicate prices None; desk = empty_desk; trading = Open } in
    ap (λ (n : ℕ). state n s.book.instruments (length s.last)) fits.capacity
    ∙ ap (λ (n : ℕ). state product.max_orders n (length s.last)) fits.instruments
    ∙ ap (λ (n : ℕ). state product.max_orders (length product.names.instruments) n) fits.prices
