use Rattle.std.proofs.Common.{take, drop}
use Rattle.std.specs.List.{AllByRecursion}
use Rattle.step_config.specs.RightSteps.{IsRightStep}
use Rattle.plain_book.specs.Matches.{match_at, Matches}
use Rattle.plain_book.specs.Steps.{IsLevelDone}
use Rattle.level_sweep.specs.Sweep.{level_match}
use Rattle.level_sweep.proofs.Done.{LastOr}
use Rattle.level_sweep.proofs.levels.match_level.Given as goal

abbrev pub invariant-loop-step : goal.invariant-loop-step
invariant-loop-step g l =
    let left = drop l.step-index l.fn.steps in
    let before = match_at (g.B.Book.book l.fn.book) l.fn.desk l.fn.taker l.fn.out in
    let now = match_at (g.B.Book.book l.book) l.desk l.taker l.out in
    record {
      matches : Matches g.E.Emit.meanings (level_match (take l.step-index l.fn.steps) l.fn.price) before now;
      right : AllByRecursion IsRightStep left;
      last : LastOr left (IsLevelDone l.fn.price now.book now.taker);
    }
