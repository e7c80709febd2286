use Rattle.std.proofs.Common.{◌≡◌, ℕ, ◌*◌, ◌^◌, ap, sym, subst, ◌∙◌, arith}
use Rattle.std.specs.Prelude.{nat_le}
use Rattle.book_image.specs.Inner.Checking.{AreRightBelow, is_right_counter}
use Rattle.book_image.proofs.CheckFaults.{le-true, le-false}
use Rattle.book_image.proofs.CheckWrong.{wrong-none, wrong-first, right-next}
use Rattle.book_image.proofs.check.counters_fault.Goals as goal

pub returns-then-number_at-messages : goal.returns-then-number_at-messages
returns-then-number_at-messages c =
    let bound = c.args.messages * 2 ^ 38 in
    sym (wrong-first (is_right_counter c.args.messages c.args.payload.now) 16 8 67 c.loop-k.k c.loop-k.invariant
    c.loop-k-test.true
    (ap (λ n. nat_le n bound) (sym c.number_at.ensures) ∙ le-false c.number_at.result bound c.if-number_at-messages.true))

pub loop-k-preserved : goal.loop-k-preserved
loop-k-preserved c = right-next (is_right_counter c.args.messages c.args.payload.now) c.loop-k.k c.loop-k.invariant
    (ap (λ n. nat_le n (c.args.messages * 2 ^ 38)) (sym c.number_at.ensures) ∙ le-true c.number_at.result (c.args.messages * 2 ^ 38) c.if-number_at-messages.false)

pub returns : goal.returns
returns c =
    let at_end : c.loop-k.k ≡ 67 = omega arith in
    sym (wrong-none (is_right_counter c.args.messages c.args.payload.now) 16 8 67 (subst (λ (n : ℕ). AreRightBelow (is_right_counter c.args.messages c.args.payload.now) n) at_end c.loop-k.invariant))
