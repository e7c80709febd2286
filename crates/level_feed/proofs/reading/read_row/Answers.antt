use Rattle.std.proofs.Common.{◌∙◌, sym, ap}
use Rattle.gx_base.specs.NameLists.{NameLists}
use Rattle.level_feed.specs.Lines.{listing_of}
use Rattle.level_feed.specs.Lines.{instrument_of}
use Rattle.level_feed.specs.Inner.{view_of}
use Rattle.level_feed.proofs.RowsRead.{row-no-instrument, row-no-price}
use Rattle.level_feed.proofs.reading.read_row.Goals as goal

pub returns-in_err-instrument : goal.returns-in_err-instrument
returns-in_err-instrument c =
    c.from_residual-in_err-instrument.ensures
    ∙ sym (row-no-instrument (listing_of c.args.product.now) c.args.text.now
    (view_of (c.in_ok-front.front, c.in_ok-front.orders)) (view_of (c.in_ok-front-2.front, c.in_ok-front-2.shown)) (view_of (c.in_ok-front-3.front, c.in_ok-front-3.price)) (view_of (c.in_ok-name.name, c.in_ok-name.side))
    (sym c.in_ok-front.ensures) (sym c.in_ok-front-2.ensures) (sym c.in_ok-front-3.ensures) (sym c.in_ok-name.ensures)
    (sym (c.in_err-instrument.ensures ∙ ap (λ (n : NameLists). instrument_of n.instruments c.in_ok-name.name.now) c.names.ensures)))

pub returns-in_err-price : goal.returns-in_err-price
returns-in_err-price c =
    c.from_residual-in_err-price.ensures
    ∙ sym (row-no-price (listing_of c.args.product.now) c.args.text.now
    (view_of (c.in_ok-front.front, c.in_ok-front.orders)) (view_of (c.in_ok-front-2.front, c.in_ok-front-2.shown)) (view_of (c.in_ok-front-3.front, c.in_ok-front-3.price)) (view_of (c.in_ok-name.name, c.in_ok-name.side))
    (sym c.in_ok-front.ensures) (sym c.in_ok-front-2.ensures) (sym c.in_ok-front-3.ensures) (sym c.in_ok-name.ensures)
    c.in_ok-instrument.instrument c.in_ok-side.side
    (sym (c.in_ok-instrument.ensures ∙ ap (λ (n : NameLists). instrument_of n.instruments c.in_ok-name.name.now) c.names.ensures))
    (sym c.in_ok-side.ensures) (sym c.in_err-price.ensures))
