use Rattle.std.proofs.Common.{◌++◌, refl}
use Rattle.book_image.specs.declared.format.TheConstants.{INSTRUMENT_BYTES}
use Rattle.book_image.specs.Rows.{number_bytes}
use Rattle.book_image.specs.Image.{last_bytes, instrument_bytes}
use Rattle.book_image.proofs.WriteWalks.{appends-then, appends-as}
use Rattle.book_image.proofs.WriteParts.{same-part}
use Rattle.book_image.proofs.write.write_instrument.Goals as goal

pub returns : goal.returns
returns g c =
    let state = c.args.core.now in
    let i = c.args.instrument in
    let buy = c.top_number.result in
    let sell = c.top_number-2.result in
    appends-as INSTRUMENT_BYTES INSTRUMENT_BYTES ((last_bytes c.last.result ++ number_bytes buy) ++ number_bytes sell) (instrument_bytes state i) refl
    (same-part state i c.last.result buy sell (g.B.Book.book c.book-book.result.now) c.book-book.ensures c.last.ensures c.top_number.ensures c.top_number-2.ensures)
    (appends-then (appends-then c.write_last-at.ensures c.write_number-at.ensures) c.write_number.ensures)
