use Rattle.std.proofs.Common.{◌≡◌, ℕ, ◌+◌, ◌-◌, ◌/◌, ◌^◌, [], ◌++◌, length, filter, sym, ap, ◌∙◌, arith, length-append}
use Rattle.gx_base.specs.NameLists.{NameLists}
use Rattle.plain_book.specs.Orders.{is_of}
use Rattle.book_image.specs.declared.format.TheConstants.{ROW_BYTES, COUNT_BYTES}
use Rattle.book_image.specs.Inner.Writing.{AppendsRows}
use Rattle.book_image.proofs.WriteWalks.{appends-none, rows-then, rows-as}
use Rattle.book_walks.proofs.InstrumentWalks.{is_of_before, instrument-next, before-none, before-all, in-line, all-listed}
use Rattle.book_image.proofs.WriteParts.{instrument-room, row-count, few-before}
use Rattle.book_image.proofs.WriteGaps.{filled-rows}
use Rattle.book_image.proofs.write.write_resting.Goals as goal

pub loop-instrument-init : goal.loop-instrument-init
loop-instrument-init g c =
    let es = (g.B.Book.book c.args.book.now).resting in
    rows-as [] (filter (is_of_before 0) es) (sym (before-none es)) (appends-none c.args.into.now (c.args.at + COUNT_BYTES))

pub write_sides-end-requires-clause-book : goal.write_sides-end-requires-clause-book
write_sides-end-requires-clause-book g c =
    omega (arith, c.requires.instruments, ap (λ (n : NameLists). length n.instruments) c.names.ensures, c.instrument_count-instrument-end.ensures.count, c.loop-instrument-test.true)

pub write_sides-end-requires-clause-room : goal.write_sides-end-requires-clause-room
write_sides-end-requires-clause-room g c =
    let es = (g.B.Book.book c.args.book.now).resting in
    instrument-room c.loop-instrument.instrument (c.args.at + COUNT_BYTES) c.loop-instrument.end _ es (in-line es c.rules.ensures.ordered) c.loop-instrument.invariant.ends (omega (arith, c.requires.room, c.loop-instrument.invariant.size))

pub loop-instrument-preserved : goal.loop-instrument-preserved
loop-instrument-preserved g c =
    let es = (g.B.Book.book c.args.book.now).resting in
    let i = c.loop-instrument.instrument in
    rows-as (filter (is_of_before i) es ++ filter (is_of i) es) (filter (is_of_before (i + 1)) es) (sym (instrument-next i es (in-line es c.rules.ensures.ordered)))
    (rows-then (filter (is_of_before i) es) (filter (is_of i) es) c.loop-instrument.invariant c.write_sides-end.ensures)

pub fill_count-requires-clause-small : goal.fill_count-requires-clause-small
fill_count-requires-clause-small g c =
    let b = g.B.Book.book c.args.book.now in
    few-before c.loop-instrument.instrument (c.args.at + COUNT_BYTES) c.loop-instrument.end b.resting (2 ^ 32) c.loop-instrument.invariant.ends
    (omega (arith, c.rules.ensures.few, c.rules.ensures.small, length-append b.resting b.waiting))

pub returns : goal.returns
returns g c =
    let b = g.B.Book.book c.args.book.now in
    let es = b.resting in
    let i = c.loop-instrument.instrument in
    let end = c.loop-instrument.end in
    let all : i ≡ b.instruments = omega (
      arith,
      c.requires.instruments,
      ap (λ (n : NameLists). length n.instruments) c.names.ensures,
      c.instrument_count-instrument-end.ensures.count,
      c.loop-instrument-test.false,
      c.loop-instrument.auto.instrument-end,
    ) in
    let whole : filter (is_of_before i) es ≡ es = ap (λ (n : ℕ). filter (is_of_before n) es) all ∙ before-all b.instruments es (all-listed b c.rules.ensures) in
    let rows : AppendsRows c.args.into.now c.loop-instrument.into (c.args.at + COUNT_BYTES) end es = rows-as (filter (is_of_before i) es) es whole c.loop-instrument.invariant in
    filled-rows c.args.into.now c.loop-instrument.into c.fill_count.new.into c.args.at end ((end - (c.args.at + COUNT_BYTES)) / ROW_BYTES) es c.requires.room rows
    (row-count (c.args.at + COUNT_BYTES) end (length es) rows.ends) c.fill_count.ensures.filled c.fill_count.ensures.size
