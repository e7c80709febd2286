use Rattle.std.proofs.Common.{sym, ◌∙◌, subst, arith, length, take, drop, ◌≡◌, ◌+◌}
use Rattle.std.specs.Prelude.{IfSome}
use Rattle.gx_station.specs.AnswerLaws.{on_ok}
use Rattle.match_journal.proofs.Found.{byte_read, held_end}
use Rattle.match_journal.proofs.Looking.{looks_none, looks_read}
use Rattle.match_journal.proofs.look.read_end.Goals as goal

pub returns-else-gate-eq0-clause-end : goal.returns-else-gate-eq0-clause-end
returns-else-gate-eq0-clause-end g c = λ image read front.
    let into = c.read.new.into in
    let told = on_ok c.read.result (sym c.is_err.ensures.value ∙ c.if-is_err.false) c.read.ensures.reads.bytes in
    let bytes : into ≡ take (length into) (drop (13 + c.in-Sealed.size) image) = subst (λ h. IfSome h (λ image. into ≡ take (length into) (drop (13 + c.in-Sealed.size) image))) read told in
    held_end image c.args.class _ c.in-Sealed.size c.in-Sealed.is front (λ zero. c.if-gate-eq0.false (byte_read image into _ bytes (omega arith) ∙ zero))

pub returns-then-is_err-clause-looks : goal.returns-then-is_err-clause-looks
returns-then-is_err-clause-looks g c = looks_read g.S.Station.meanings _ _ (13 + c.in-Sealed.size) 1 c.read.new.into c.read.result (omega arith) c.read.ensures.reads

pub returns-then-gate-eq0-clause-looks : goal.returns-then-gate-eq0-clause-looks
returns-then-gate-eq0-clause-looks g c = looks_read g.S.Station.meanings _ _ (13 + c.in-Sealed.size) 1 c.read.new.into c.read.result (omega arith) c.read.ensures.reads

pub returns-else-gate-eq0-clause-looks : goal.returns-else-gate-eq0-clause-looks
returns-else-gate-eq0-clause-looks g c = looks_read g.S.Station.meanings _ _ (13 + c.in-Sealed.size) 1 c.read.new.into c.read.result (omega arith) c.read.ensures.reads

pub returns-in-Empty-clause-looks : goal.returns-in-Empty-clause-looks
returns-in-Empty-clause-looks g c = looks_none g.S.Station.meanings c.args.station.now 1

pub returns-in-Blank-clause-looks : goal.returns-in-Blank-clause-looks
returns-in-Blank-clause-looks g c = looks_none g.S.Station.meanings c.args.station.now 1

pub returns-in-Open-clause-looks : goal.returns-in-Open-clause-looks
returns-in-Open-clause-looks g c = looks_none g.S.Station.meanings c.args.station.now 1

pub returns-then-gate-eq0-clause-none : goal.returns-then-gate-eq0-clause-none
returns-then-gate-eq0-clause-none g c = λ fine. on_ok c.read.result (sym c.is_err.ensures.value ∙ c.if-is_err.false) c.read.ensures.reads.on_store.cause.ok

pub returns-else-gate-eq0-clause-none : goal.returns-else-gate-eq0-clause-none
returns-else-gate-eq0-clause-none g c = λ fine. on_ok c.read.result (sym c.is_err.ensures.value ∙ c.if-is_err.false) c.read.ensures.reads.on_store.cause.ok
