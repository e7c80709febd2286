use Rattle.std.proofs.Common.{◌≡◌, ◌<◌, ◌≤◌, ◌∙◌, ◌++◌, ◌∷◌, [], List, ℕ, length, ap, ap₂, sym, arith}
use Rattle.std.specs.List.{AllByRecursion}
use Rattle.std.proofs.lemmas.List.{append-nil}
use Rattle.book_order.proofs.Each.{all-with}
use Rattle.plain_book.specs.declared.entry.Entry.{Entry}
use Rattle.plain_book.specs.Orders.{orders_at}
use Rattle.plain_book.specs.Book.{IsResting}
use Rattle.level_feed.specs.declared.row.Row.{Row}
use Rattle.level_feed.specs.Rows.{level_of_row}
use Rattle.level_feed.proofs.RowsAt.{no-row-at, one-row-at, unlisted-none}
use Rattle.level_feed.proofs.picking.push_level.Goals as goal

pub returns-then-from-instruments-clause-rows : goal.returns-then-from-instruments-clause-rows
returns-then-from-instruments-clause-rows g c =
    let b = g.B.Book.book c.args.book.now in
    let k = level_of_row c.args.level.now in
    let rows = c.args.rows.now.items in
    let listed : AllByRecursion (λ (e : Entry). e.order.instrument < b.instruments) b.resting =
    all-with (λ (e : Entry). IsResting b.instruments e.order) (λ (e : Entry). e.order.instrument < b.instruments) (λ e h. h.fit.listed) b.resting c.rules.ensures.rest
    in
    let above : b.instruments ≤ k.instrument = omega arith in
    let none : length (orders_at k b.resting) ≡ 0 = ap length (unlisted-none k b.instruments b.resting listed above) in
    sym (ap (λ (q : List Row). rows ++ q) (no-row-at k b.resting c.rules.ensures.ordered none) ∙ append-nil rows)

pub returns-then-orders-eq0-clause-rows : goal.returns-then-orders-eq0-clause-rows
returns-then-orders-eq0-clause-rows g c =
    let b = g.B.Book.book c.args.book.now in
    let k = level_of_row c.args.level.now in
    let rows = c.args.rows.now.items in
    let none : length (orders_at k b.resting) ≡ 0 = omega (arith, c.count-orders.ensures) in
    sym (ap (λ (q : List Row). rows ++ q) (no-row-at k b.resting c.rules.ensures.ordered none) ∙ append-nil rows)

pub returns-clause-rows : goal.returns-clause-rows
returns-clause-rows g c =
    let b = g.B.Book.book c.args.book.now in
    let row = c.args.level.now in
    let k = level_of_row row in
    let rows = c.args.rows.now.items in
    let some : 1 ≤ length (orders_at k b.resting) = omega (arith, c.count-orders.ensures) in
    c.push_reserved.ensures.items
    ∙ ap₂ (λ (m : ℕ) (n : ℕ). rows ++ record row { shown = m; orders = n } ∷ []) c.shown_total.ensures (c.from-2.ensures ∙ c.count-orders.ensures)
    ∙ ap (λ (q : List Row). rows ++ q) (sym (one-row-at k b.resting c.rules.ensures.ordered some))
