use Rattle.std.proofs.Common.{◌≡◌, ℕ, length, replicate, None, ap, sym, subst, ◌∙◌}
use Rattle.std.proofs.lemmas.List.{length-replicate}
use Rattle.gx_base.specs.declared.trading.Trading.TheVariants.{Open}
use Rattle.product_file.specs.Products.{ProductLists}
use Rattle.plain_book.specs.Book.{Book, empty_book, book_cleared}
use Rattle.order_kinds.specs.State.{State, empty_desk, empty_state}
use Rattle.book_image.specs.Inner.Checking.{IsAsMade}
use Rattle.book_image.proofs.check.parts_fault.Goals as goal

-- a state whose book was as that of a new one
made-new : (product : ProductLists) (old new : Book) → IsAsMade old new → old ≡ (empty_state product).book
    → record { book = book_cleared new; last = replicate (length (empty_state product).last) None; desk = empty_desk; trading = Open } ≡ empty_state product
made-new product old new made is =
    let n = length product.names.instruments in
    let state : ℕ → ℕ → ℕ → State = λ capacity instruments prices. record { book = empty_book capacity instruments; last = replicate prices None; desk = empty_desk; trading = Open } in
    ap (λ (m : ℕ). state m new.instruments (length (empty_state product).last)) (made.capacity ∙ ap (λ (b : Book). b.capacity) is)
    ∙ ap (λ (m : ℕ). state product.max_orders m (length (empty_state product).last)) (made.instruments ∙ ap (λ (b : Book). b.instruments) is)
    ∙ ap (λ (m : ℕ). state product.max_orders n m) (length-replicate n None)

cleared-new : (product : ProductLists) (state : State) (old new : Book) → state ≡ empty_state product → IsAsMade old new → old ≡ state.book
    → record { book = book_cleared new; last = replicate (length state.last) None; desk = empty_desk; trading = Open } ≡ state
cleared-new product state old new is made same =
    subst (λ (s : State). record { book = book_cleared new; last = replicate (length s.last) None; desk = empty_desk; trading = Open } ≡ s) (sym is)
    (made-new product old new made (same ∙ ap (λ (s : State). s.book) is))

pub returns-clause-new : goal.returns-clause-new
returns-clause-new g c =
    c.clear.ensures
    ∙ cleared-new c.args.product.now c.args.core.now (g.B.Book.book c.book_mut.result.now) (g.B.Book.book c.fault_with-fault.new.book)
    c.requires.new c.fault_with-fault.ensures.made c.book_mut.ensures.book
