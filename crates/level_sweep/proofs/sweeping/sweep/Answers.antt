use Rattle.std.proofs.Common.{◌≡◌, ◌<◌, Some}
use Rattle.plain_book.specs.Matches.{match_at, start_at, Matches}
use Rattle.plain_book.proofs.Levels.{AllDiffer-front}
use Rattle.level_sweep.specs.Sweep.{next_price, sweep}
use Rattle.level_sweep.proofs.Done.{next-takes}
use Rattle.level_sweep.proofs.Resting.{rest-sweep, rest-now}
use Rattle.level_sweep.proofs.Rounds.{swept-more, swept-end}
use Rattle.level_sweep.proofs.sweeping.sweep.Given.{Over}
use Rattle.level_sweep.proofs.sweeping.sweep.Goals as goal
use Rattle.level_sweep.proofs.sweeping.sweep.Goals.{After-match_level, In_default}

next : (g : Over) (c : After-match_level g) → next_price c.args.limit (g.B.Book.book c.loop-price.book) c.loop-price.taker ≡ Some c.in-Some.price
next g c = cc (c.next_price.ensures, c.in-Some.is)

-- the level match took lots
fewer : (g : Over) (c : After-match_level g) → c.match_level.new.taker.order.leaves < c.loop-price.taker.order.leaves
fewer g c =
    let l = c.loop-price in
    let r = c.match_level in
    let b = g.B.Book.book l.book in
    let now = start_at (match_at b l.desk l.taker l.out) in
    next-takes c.args.steps.now c.args.limit c.in-Some.price now (g.B.Book.book r.new.book) r.new.desk r.new.taker (AllDiffer-front b.resting b.waiting c.rules.ensures.differ) (next g c) r.ensures.matches.now r.ensures.done

pub loop-price-smaller : goal.loop-price-smaller
loop-price-smaller g c = fewer g c

pub loop-price-preserved : goal.loop-price-preserved
loop-price-preserved g c =
    let start = match_at (g.B.Book.book c.args.book.now) c.args.desk.now c.args.taker.now c.args.out.now in
    let l = c.loop-price in
    let now = match_at (g.B.Book.book l.book) l.desk l.taker l.out in
    let r = c.match_level in
    let after = match_at (g.B.Book.book r.new.book) r.new.desk r.new.taker r.new.out in
    swept-more g.E.Emit.meanings c.args.steps.now c.args.limit start now after c.in-Some.price l.invariant (next g c) r.ensures.matches (fewer g c)

swept : (g : Over) (c : In_default g) → let l = c.loop-price in
    let start = match_at (g.B.Book.book c.args.book.now) c.args.desk.now c.args.taker.now c.args.out.now in
    Matches g.E.Emit.meanings (sweep c.args.steps.now c.args.limit) start (match_at (g.B.Book.book l.book) l.desk l.taker l.out)
swept g c =
    let l = c.loop-price in
    let start = match_at (g.B.Book.book c.args.book.now) c.args.desk.now c.args.taker.now c.args.out.now in
    swept-end g.E.Emit.meanings c.args.steps.now c.args.limit start (match_at (g.B.Book.book l.book) l.desk l.taker l.out) l.invariant (cc (c.next_price.ensures, c.in_default.is))

pub returns-clause-matches : goal.returns-clause-matches
returns-clause-matches g c = swept g c

pub returns-clause-stays : goal.returns-clause-stays
returns-clause-stays g c =
    let start = start_at (match_at (g.B.Book.book c.args.book.now) c.args.desk.now c.args.taker.now c.args.out.now) in
    let limit = c.args.limit in
    let steps = c.args.steps.now in
    rest-now start (sweep steps limit start) (g.B.Book.book c.loop-price.book) (rest-sweep steps limit start) (swept g c).now.book
