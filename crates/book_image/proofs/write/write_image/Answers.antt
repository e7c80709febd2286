use Rattle.std.proofs.Common.{◌≡◌, sym, ap, ◌∙◌}
use Rattle.book_image.specs.Image.{session_byte}
use Rattle.book_image.proofs.WriteWalks.{appends-then}
use Rattle.book_image.proofs.WriteParts.{whole-image}
use Rattle.book_image.proofs.write.write_image.Goals as goal
use Rattle.book_image.proofs.write.write_image.Goals.{in-Open, in-Closed}

pub returns-clause-image : goal.returns-clause-image
returns-clause-image g c =
    let all = appends-then (appends-then (appends-then (appends-then c.write_desk-at.ensures c.write_instruments-at.ensures) c.write_resting-at.ensures) c.write_waiting-at.ensures) c.write_bytes.ensures in
    let session : c.match-trading.session ≡ session_byte c.trading.result = elim c.match-trading.branch [
      | in-Open w ↦ w.session-is ∙ ap session_byte (sym w.in-Open.is)
      | in-Closed w ↦ w.session-is ∙ ap session_byte (sym w.in-Closed.is)
    ] in
    all.written ∙ whole-image c.args.core.now c.desk.result.now (g.B.Book.book c.book.result.now) (g.B.Book.book c.book-2.result.now) c.match-trading.session
    c.desk.ensures.desk c.book.ensures c.book-2.ensures (session ∙ ap session_byte c.trading.ensures)
