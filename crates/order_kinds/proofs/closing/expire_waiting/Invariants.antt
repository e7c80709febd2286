use Rattle.std.proofs.Common.{List}
use Rattle.plain_book.specs.declared.entry.Entry.{Entry}
use Rattle.order_kinds.proofs.EndedParts.{AreEndedBefore}
use Rattle.order_kinds.proofs.closing.expire_waiting.Given as goal

abbrev pub invariant-loop-instrument : goal.invariant-loop-instrument
invariant-loop-instrument g l =
    let b = g.B.Book.book l.fn.book in
    AreEndedBefore g.E.Emit.meanings l.time b.waiting (λ (es : List Entry). record b { waiting = es }) l.fn.desk l.fn.out l.instrument (g.B.Book.book l.book) l.desk l.out
