use Rattle.std.proofs.Common.{ℕ, List, IsTrue, arith, subst}
use Rattle.gx_base.specs.Texts.{is_name}
use Rattle.stream_laws.proofs.Looked.{one-more, all-seen}
use Rattle.stream_laws.proofs.names.look_at_firms.Goals as goal

pub loop-number-preserved : goal.loop-number-preserved
loop-number-preserved c =
    one-more (λ (firm : List ℕ). IsTrue (is_name firm)) c.args.names.now.firms c.loop-number.number c.firm-firm.result.now c.firm-firm.ensures
    (subst (λ (firm : List ℕ). IsTrue (is_name firm)) c.bytes-text.ensures.bytes c.bytes-text.ensures.name) c.loop-number.invariant

pub returns : goal.returns
returns c =
    all-seen (λ (firm : List ℕ). IsTrue (is_name firm)) c.args.names.now.firms c.loop-number.number (omega (arith, c.loop-number-test.false, c.firm_count-number-end.ensures.count)) c.loop-number.invariant
