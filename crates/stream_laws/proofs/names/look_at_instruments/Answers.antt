use Rattle.std.proofs.Common.{ℕ, List, IsTrue, arith, subst}
use Rattle.gx_base.specs.Texts.{is_name}
use Rattle.stream_laws.specs.Names.{IsListed}
use Rattle.stream_laws.proofs.Looked.{one-more, all-seen}
use Rattle.stream_laws.proofs.names.look_at_instruments.Goals as goal

pub loop-number-preserved : goal.loop-number-preserved
loop-number-preserved c =
    one-more IsListed c.args.names.now.instruments c.loop-number.number c.listed-listed.result.now c.listed-listed.ensures.listed
    (subst (λ (name : List ℕ). IsTrue (is_name name)) c.bytes-text.ensures.bytes c.bytes-text.ensures.name, c.listed-listed.ensures.decimals) c.loop-number.invariant

pub returns : goal.returns
returns c =
    all-seen IsListed c.args.names.now.instruments c.loop-number.number (omega (arith, c.loop-number-test.false, c.instrument_count-number-end.ensures.count)) c.loop-number.invariant
