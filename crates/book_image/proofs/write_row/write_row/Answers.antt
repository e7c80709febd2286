use Rattle.book_image.proofs.WriteWalks.{appends-then}
use Rattle.book_image.proofs.write_row.write_row.Goals as goal

pub returns : goal.returns
returns c =
    let head = appends-then (appends-then c.write_number-at.ensures c.write_marks-at.ensures) c.write_name-at.ensures in
    let prices = appends-then (appends-then head c.write_price-at.ensures) c.write_price-at-2.ensures in
    let first = appends-then (appends-then (appends-then prices c.write_count-at.ensures) c.write_count-at-2.ensures) c.write_count-at-3.ensures in
    appends-then (appends-then (appends-then (appends-then first c.write_count-at-4.ensures) c.write_count-at-5.ensures) c.write_count-at-6.ensures) c.write_count.ensures
