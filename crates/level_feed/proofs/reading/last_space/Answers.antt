use Rattle.std.proofs.Common.{◌≡◌, ◌+◌, ◌-◌, ℕ, drop, subst, arith}
use Rattle.gx_base.proofs.NumberTexts.{Lacks}
use Rattle.level_feed.proofs.PlainNumbers.{space-at, no-space}
use Rattle.level_feed.proofs.reading.last_space.Goals as goal

pub returns-then-text-end-eq32-clause-place : goal.returns-then-text-end-eq32-clause-place
returns-then-text-end-eq32-clause-place c =
    let end = c.loop-end.end in
    let within = c.loop-end.invariant.within in
    let again : end ≡ end - 1 + 1 = omega arith in
    space-at c.args.text.now (end - 1) (omega arith) c.if-text-end-eq32.true (subst (λ (k : ℕ). Lacks 32 (drop k c.args.text.now)) again c.loop-end.invariant.lacks)

pub returns-clause-place : goal.returns-clause-place
returns-clause-place c =
    let none : c.loop-end.end ≡ 0 = omega arith in
    no-space c.args.text.now (subst (λ (k : ℕ). Lacks 32 (drop k c.args.text.now)) none c.loop-end.invariant.lacks)
