use Rattle.std.proofs.Common.{◌≡◌, Some, refl, sym, inl}
use Rattle.plain_book.specs.Orders.{level}
use Rattle.price_level.specs.Rows.{queue_at}
use Rattle.book_side.proofs.Looks.{found-row, found-level}
use Rattle.book_side.proofs.steps.enter_level.Goals as goal

pub returns-in-Some : goal.returns-in-Some
returns-in-Some c =
    let rs = c.args.levels.now.rows in
    let k = level c.args.instrument c.args.side c.args.price in
    let found : queue_at k rs ≡ Some c.in-Some.queue = sym c.in-Some.ensures in
    record { capacity = refl; instruments = refl; has = found-row k c.in-Some.queue rs found; at = found-level k c.in-Some.queue rs c.rules.ensures.apart found; rest = inl refl }
