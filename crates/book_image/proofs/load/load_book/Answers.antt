use Rattle.book_image.proofs.LoadBook.{IsPlaced, IsLined, placed-as, lined-as}
use Rattle.book_image.proofs.load.load_book.Given.{Over}
use Rattle.book_image.proofs.load.load_book.Goals as goal
use Rattle.book_image.proofs.load.load_book.Goals.{After-place_rows, After-wait_rows}

-- what is known once the orders rest
placed : (g : Over) (c : After-place_rows g) → IsPlaced c.args.payload.now c.args.instruments (g.B.Book.book c.args.book.now) c.requires.right c.requires.empty c.requires.listed
    c.count_at-resting_count.result c.count_at-waiting_count.result (g.B.Book.book c.place_rows.new.book)
placed g c =
    placed-as c.args.payload.now c.args.instruments (g.B.Book.book c.args.book.now) c.requires.right c.requires.empty c.requires.listed
    c.count_at-resting_count.result c.count_at-waiting_count.result c.count_at-resting_count.ensures c.count_at-waiting_count.ensures
    (g.B.Book.book c.place_rows.new.book) c.place_rows.ensures

-- and once the stops wait too
lined : (g : Over) (c : After-wait_rows g) → IsLined c.args.payload.now c.args.instruments (g.B.Book.book c.args.book.now) c.requires.right c.requires.empty c.requires.listed
    c.count_at-resting_count.result c.count_at-waiting_count.result (g.B.Book.book c.wait_rows.new.book)
lined g c =
    lined-as c.args.payload.now c.args.instruments (g.B.Book.book c.args.book.now) c.requires.right c.requires.empty c.requires.listed
    c.count_at-resting_count.result c.count_at-waiting_count.result c.count_at-resting_count.ensures c.count_at-waiting_count.ensures
    (g.B.Book.book c.place_rows.new.book) (g.B.Book.book c.wait_rows.new.book) c.place_rows.ensures c.wait_rows.ensures

pub wait_rows-requires-clause-right : goal.wait_rows-requires-clause-right
wait_rows-requires-clause-right g c = (placed g (goal.at.wait_rows-requires-clause-right g c).After-place_rows).stops

pub wait_rows-requires-clause-room : goal.wait_rows-requires-clause-room
wait_rows-requires-clause-room g c = (placed g (goal.at.wait_rows-requires-clause-room g c).After-place_rows).room

pub wait_rows-requires-clause-none_waits : goal.wait_rows-requires-clause-none_waits
wait_rows-requires-clause-none_waits g c = (placed g (goal.at.wait_rows-requires-clause-none_waits g c).After-place_rows).none_waits

pub mark_tops-requires-clause-right : goal.mark_tops-requires-clause-right
mark_tops-requires-clause-right g c = (lined g (goal.at.mark_tops-requires-clause-right g c).After-wait_rows).tops

pub mark_tops-requires-clause-none_top : goal.mark_tops-requires-clause-none_top
mark_tops-requires-clause-none_top g c = (lined g (goal.at.mark_tops-requires-clause-none_top g c).After-wait_rows).none_top

pub returns : goal.returns
returns g c = (lined g (goal.at.returns g c).After-wait_rows).marked (g.B.Book.book c.mark_tops.new.book) c.mark_tops.ensures
