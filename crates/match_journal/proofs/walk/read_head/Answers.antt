use Rattle.std.proofs.Common.{◌≡◌, length, take, drop, sym, ◌∙◌, subst, arith}
use Rattle.std.specs.Prelude.{IfSome}
use Rattle.gx_station.specs.AnswerLaws.{on_ok}
use Rattle.match_journal.proofs.Looking.{room_read, front_all, looks_read}
use Rattle.match_journal.proofs.walk.read_head.Goals as goal

pub returns-then-is_err-clause-looks : goal.returns-then-is_err-clause-looks
returns-then-is_err-clause-looks g c =
    let long = room_read c.read.new.into _ c.min-count.result c.read.auto.into (omega (arith, c.min-count.ensures)) in
    looks_read g.S.Station.meanings _ _ c.args.standing.now.gate 6 c.read.new.into c.read.result (omega (arith, long, c.min-count.ensures)) c.read.ensures.reads

pub returns-clause-looks : goal.returns-clause-looks
returns-clause-looks g c =
    let long = room_read c.read.new.into _ c.min-count.result c.read.auto.into (omega (arith, c.min-count.ensures)) in
    looks_read g.S.Station.meanings _ _ c.args.standing.now.gate 6 c.read.new.into c.read.result (omega (arith, long, c.min-count.ensures)) c.read.ensures.reads

pub returns-clause-none : goal.returns-clause-none
returns-clause-none g c = λ fine. on_ok c.read.result (sym c.is_err.ensures.value ∙ c.if-is_err.false) c.read.ensures.reads.on_store.cause.ok

pub returns-clause-walks : goal.returns-clause-walks
returns-clause-walks g c = λ image read known version.
    let into = c.read.new.into in
    let bytes = drop c.args.standing.now.gate image in
    let long = room_read into _ c.min-count.result c.read.auto.into (omega (arith, c.min-count.ensures)) in
    let fine = sym c.is_err.ensures.value ∙ c.if-is_err.false in
    let are : into ≡ take (length into) bytes = subst (λ h. IfSome h (λ image. into ≡ take (length into) (drop c.args.standing.now.gate image))) read (on_ok c.read.result fine c.read.ensures.reads.bytes) in
    c.head_in.ensures.walks image known version (front_all bytes into _ c.min-count.result long are)
