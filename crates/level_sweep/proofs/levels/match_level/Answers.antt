use Rattle.std.proofs.Common.{◌≡◌, ◌<◌, ◌+◌, ◌∷◌, ℕ, List, length, take, drop, get_or, sym, ap, subst, ◌∙◌, add-one}
use Rattle.std.proofs.Math.Seq.{drop-cons}
use Rattle.std.specs.List.{AllByRecursion}
use Rattle.step_config.specs.declared.step.Step.{Step}
use Rattle.step_config.specs.RightSteps.{IsRightStep, AreRightSteps}
use Rattle.plain_book.specs.Matches.{match_at, start_at}
use Rattle.plain_book.specs.Steps.{IsLevelDone}
use Rattle.plain_book.proofs.Matching.{matches-none}
use Rattle.level_sweep.specs.Sweep.{level_match}
use Rattle.level_sweep.proofs.Done.{LastOr, last-more, last-first}
use Rattle.level_sweep.proofs.Resting.{rest-match, rest-now}
use Rattle.level_sweep.proofs.Rounds.{match-more}
use Rattle.level_sweep.proofs.levels.match_level.Goals as goal

pub loop-step-init : goal.loop-step-init
loop-step-init g c =
    let steps = c.args.steps.now in
    let start = match_at (g.B.Book.book c.args.book.now) c.args.desk.now c.args.taker.now c.args.out.now in
    let right : AreRightSteps steps = c.list-steps.ensures.right in
    record {
      matches = matches-none g.E.Emit.meanings start c.requires.can;
      right = right.each;
      last = last-first steps (IsLevelDone c.args.price start.book start.taker) right.fifo_last;
    }

pub loop-step-preserved : goal.loop-step-preserved
loop-step-preserved g c =
    let steps = c.args.steps.now in
    let price = c.args.price in
    let l = c.loop-step in
    let i = l.step-index in
    let rest = drop (i + 1) steps in
    let s : Step = c.step-item.result in
    let r = c.run_if_wanted in
    let start = match_at (g.B.Book.book c.args.book.now) c.args.desk.now c.args.taker.now c.args.out.now in
    let now = match_at (g.B.Book.book l.book) l.desk l.taker l.out in
    let next = match_at (g.B.Book.book r.new.book) r.new.desk r.new.taker r.new.out in
    let list : c.list-steps.result.now ≡ steps = c.list-steps.ensures.list in
    let lt : i < length steps = subst (λ (q : List Step). i < length q) list c.loop-step-test.true in
    let is : get_or steps i s ≡ s = sym (c.step-item.is ∙ ap (λ (q : List Step). get_or q i s) list) in
    let cut : drop i steps ≡ s ∷ rest = drop-cons steps i s lt ∙ ap (λ (n : ℕ). get_or steps i s ∷ drop n steps) (sym (add-one i)) ∙ ap (λ (x : Step). x ∷ rest) is in
    let right : AllByRecursion IsRightStep (s ∷ rest) = subst (AllByRecursion IsRightStep) cut l.invariant.right in
    let last : LastOr (s ∷ rest) (IsLevelDone price now.book now.taker) = subst (λ (q : List Step). LastOr q (IsLevelDone price now.book now.taker)) cut l.invariant.last in
    record {
      matches = match-more g.E.Emit.meanings steps i s price start now next lt is l.invariant.matches r.ensures.matches;
      right = right.1;
      last = last-more s rest (IsLevelDone price now.book now.taker) (IsLevelDone price next.book next.taker) last r.ensures.done;
    }

pub returns-clause-stays : goal.returns-clause-stays
returns-clause-stays g c =
    let l = c.loop-step in
    let start = start_at (match_at (g.B.Book.book c.args.book.now) c.args.desk.now c.args.taker.now c.args.out.now) in
    let done = take l.step-index c.args.steps.now in
    rest-now start (level_match done c.args.price start) (g.B.Book.book l.book) (rest-match done c.args.price start) l.invariant.matches.now.book
