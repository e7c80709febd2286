use Rattle.std.proofs.Common.{ℕ, length, sym, ap, subst, ◌∙◌, arith}
use Rattle.gx_base.specs.NameLists.{NameLists}
use Rattle.plain_book.specs.Book.{Book, book_cleared}
use Rattle.order_kinds.specs.Cores.{AreCounters}
use Rattle.book_image.specs.Inner.Loading.{AreRightLasts, IsRightBook}
use Rattle.book_image.proofs.LoadFaults.{right-image, counters-right, lasts-right, book-right}
use Rattle.book_image.proofs.LoadImage.{restored-lasts, book-is, state-of, lives-of, fits-of}
use Rattle.book_image.proofs.load.load_image.Goals as goal

pub desk_of-requires : goal.desk_of-requires
desk_of-requires g c = let right = right-image c.args.trading c.args.product.now c.args.part.now c.requires.right c.requires.tops in omega (arith, right.head)

pub restore-requires : goal.restore-requires
restore-requires g c = subst AreCounters (sym c.desk_of.ensures) (counters-right c.args.part.now (right-image c.args.trading c.args.product.now c.args.part.now c.requires.right c.requires.tops).desk)

pub load_lasts-requires-clause-listed : goal.load_lasts-requires-clause-listed
load_lasts-requires-clause-listed g c =
    restored-lasts c.args.product.now c.args.core.now c.restore.new.self c.restore.new.self c.requires.new c.desk_of.result c.restore.ensures
    ∙ sym (c.instrument_count-instruments.ensures.count ∙ ap (λ (names : NameLists). length names.instruments) c.names.ensures)

pub load_lasts-requires-clause-right : goal.load_lasts-requires-clause-right
load_lasts-requires-clause-right g c =
    subst (AreRightLasts c.args.part.now) (sym (c.instrument_count-instruments.ensures.count ∙ ap (λ (names : NameLists). length names.instruments) c.names.ensures))
    (lasts-right c.args.trading c.args.product.now c.limits.ensures c.args.part.now (right-image c.args.trading c.args.product.now c.args.part.now c.requires.right c.requires.tops))

pub load_book-requires-clause-empty : goal.load_book-requires-clause-empty
load_book-requires-clause-empty g c =
    let many = c.instrument_count-instruments.ensures.count ∙ ap (λ (names : NameLists). length names.instruments) c.names.ensures in
    let is = c.book_mut.ensures.book
    ∙ book-is c.args.product.now c.args.core.now c.restore.new.self c.load_lasts.new.core c.requires.new c.desk_of.result c.restore.ensures c.instrument_count-instruments.result many c.args.part.now c.load_lasts.ensures in
    ap book_cleared is ∙ sym is

pub load_book-requires-clause-listed : goal.load_book-requires-clause-listed
load_book-requires-clause-listed g c =
    let many = c.instrument_count-instruments.ensures.count ∙ ap (λ (names : NameLists). length names.instruments) c.names.ensures in
    ap (λ (b : Book). b.instruments) (c.book_mut.ensures.book
    ∙ book-is c.args.product.now c.args.core.now c.restore.new.self c.load_lasts.new.core c.requires.new c.desk_of.result c.restore.ensures c.instrument_count-instruments.result many c.args.part.now c.load_lasts.ensures)
    ∙ sym many

pub load_book-requires-clause-right : goal.load_book-requires-clause-right
load_book-requires-clause-right g c =
    let many = c.instrument_count-instruments.ensures.count ∙ ap (λ (names : NameLists). length names.instruments) c.names.ensures in
    let is = c.book_mut.ensures.book
    ∙ book-is c.args.product.now c.args.core.now c.restore.new.self c.load_lasts.new.core c.requires.new c.desk_of.result c.restore.ensures c.instrument_count-instruments.result many c.args.part.now c.load_lasts.ensures in
    subst (λ (b : Book). IsRightBook b.capacity c.instrument_count-instruments.result c.args.part.now) (sym is)
    (subst (λ (n : ℕ). IsRightBook c.args.product.now.max_orders n c.args.part.now) (sym many)
    (book-right c.args.trading c.args.product.now c.limits.ensures c.args.part.now (right-image c.args.trading c.args.product.now c.args.part.now c.requires.right c.requires.tops)))

pub set_trading-requires : goal.set_trading-requires
set_trading-requires g c closed =
    let many = c.instrument_count-instruments.ensures.count ∙ ap (λ (names : NameLists). length names.instruments) c.names.ensures in
    lives-of c.args.product.now c.args.core.now c.restore.new.self c.load_lasts.new.core c.requires.new c.desk_of.result c.restore.ensures c.instrument_count-instruments.result many
    c.args.part.now c.load_lasts.ensures (g.B.Book.book c.book_mut.result.now) (g.B.Book.book c.load_book.new.book) c.book_mut.ensures.book c.load_book.ensures c.desk_of.ensures
    c.args.trading c.limits.ensures (right-image c.args.trading c.args.product.now c.args.part.now c.requires.right c.requires.tops) closed

pub returns-clause-state : goal.returns-clause-state
returns-clause-state g c =
    let many = c.instrument_count-instruments.ensures.count ∙ ap (λ (names : NameLists). length names.instruments) c.names.ensures in
    state-of c.args.product.now c.args.core.now c.restore.new.self c.load_lasts.new.core c.requires.new c.desk_of.result c.restore.ensures c.instrument_count-instruments.result many
    c.args.part.now c.load_lasts.ensures (g.B.Book.book c.book_mut.result.now) (g.B.Book.book c.load_book.new.book) c.book_mut.ensures.book c.load_book.ensures c.desk_of.ensures
    c.args.trading c.set_trading.new.self c.set_trading.ensures

pub returns-clause-fits : goal.returns-clause-fits
returns-clause-fits g c =
    let many = c.instrument_count-instruments.ensures.count ∙ ap (λ (names : NameLists). length names.instruments) c.names.ensures in
    fits-of c.args.product.now c.args.core.now c.restore.new.self c.load_lasts.new.core c.requires.new c.desk_of.result c.restore.ensures c.instrument_count-instruments.result many
    c.args.part.now c.load_lasts.ensures (g.B.Book.book c.book_mut.result.now) (g.B.Book.book c.load_book.new.book) c.book_mut.ensures.book c.load_book.ensures c.desk_of.ensures
    c.args.trading c.limits.ensures (right-image c.args.trading c.args.product.now c.args.part.now c.requires.right c.requires.tops) c.set_trading.new.self c.set_trading.ensures
