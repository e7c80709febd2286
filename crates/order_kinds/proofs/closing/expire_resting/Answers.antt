use Rattle.std.proofs.Common.{List, refl, ap, ◌∙◌, arith}
use Rattle.plain_book.specs.declared.entry.Entry.{Entry}
use Rattle.plain_book.specs.Orders.{is_of, stops_of}
use Rattle.plain_book.specs.Book.{Book}
use Rattle.book_walks.proofs.InstrumentWalks.{in-line, all-listed}
use Rattle.order_kinds.specs.Inner.Closing.{resting_ended}
use Rattle.order_kinds.proofs.EndedParts.{ended-first, ended-then, ended-last}
use Rattle.order_kinds.proofs.closing.expire_resting.Goals as goal

pub loop-instrument-init : goal.loop-instrument-init
loop-instrument-init g c =
    let b = g.B.Book.book c.args.book.now in
    ended-first g.E.Emit.meanings c.args.time b.resting (λ (es : List Entry). record b { resting = es }) c.args.desk.now c.args.out.now b refl c.requires.room

pub expire_sides-requires-clause-listed : goal.expire_sides-requires-clause-listed
expire_sides-requires-clause-listed g c =
    omega (arith, c.loop-instrument-test.true, c.requires.instruments, ap (λ (b : Book). b.instruments) c.loop-instrument.invariant.book)

pub expire_sides-requires-clause-room : goal.expire_sides-requires-clause-room
expire_sides-requires-clause-room g c = c.loop-instrument.invariant.room

pub loop-instrument-preserved : goal.loop-instrument-preserved
loop-instrument-preserved g c =
    let l = c.loop-instrument in
    let b = g.B.Book.book c.args.book.now in
    let w = l.invariant in
    ended-then g.E.Emit.meanings c.args.time b.resting (λ (es : List Entry). record b { resting = es }) c.args.desk.now c.args.out.now w (in-line b.resting c.rules.ensures.ordered)
    (stops_of l.instrument (g.B.Book.book l.book).resting) (ap (λ (k : Book). stops_of l.instrument k.resting) w.book)
    (g.B.Book.book c.expire_sides.new.book) (c.expire_sides.ensures.book ∙ ap (resting_ended (is_of l.instrument)) w.book)
    c.expire_sides.new.desk c.expire_sides.new.out c.expire_sides.ensures.reports c.expire_sides.ensures.room

pub returns-clause-book : goal.returns-clause-book
returns-clause-book g c =
    let l = c.loop-instrument in
    let b = g.B.Book.book c.args.book.now in
    (ended-last g.E.Emit.meanings c.args.time b.resting (λ (es : List Entry). record b { resting = es }) c.args.desk.now c.args.out.now l.invariant b.instruments
    (omega (arith, c.requires.instruments, c.loop-instrument-test.false, l.auto.instrument-end)) (all-listed b c.rules.ensures)).0

pub returns-clause-reports : goal.returns-clause-reports
returns-clause-reports g c =
    let l = c.loop-instrument in
    let b = g.B.Book.book c.args.book.now in
    (ended-last g.E.Emit.meanings c.args.time b.resting (λ (es : List Entry). record b { resting = es }) c.args.desk.now c.args.out.now l.invariant b.instruments
    (omega (arith, c.requires.instruments, c.loop-instrument-test.false, l.auto.instrument-end)) (all-listed b c.rules.ensures)).1

pub returns-clause-room : goal.returns-clause-room
returns-clause-room g c = c.loop-instrument.invariant.room
