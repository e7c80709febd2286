use Rattle.std.proofs.Common.{sym, ◌∙◌, true, false, ◌≡◌}
use Rattle.plain_book.specs.Matches.{match_at}
use Rattle.order_kinds.proofs.WaitingStops.{comes-to-wait}
use Rattle.order_kinds.proofs.stops.come_in.Goals as goal
use Rattle.order_kinds.proofs.stops.come_in.Goals.{in-StopLimit, in_default}

pub returns-then-matches-clause-comes : goal.returns-then-matches-clause-comes
returns-then-matches-clause-comes g c =
    let before = match_at (g.B.Book.book c.args.book.now) c.args.desk.now c.args.taker.now c.args.out.now in
    elim c.match-matches.branch [
      | in-StopLimit w ↦ comes-to-wait g.E.Emit.meanings c.args.steps.now before (g.B.Book.book c.wait.new.self) c.wait.result.0 w.in-StopLimit.is c.wait.ensures.waited
      | in_default w ↦ absurd (let e : false ≡ true = sym w.matches-is ∙ c.if-matches.true in cc)
    ]
