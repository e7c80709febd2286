use Rattle.std.proofs.Common.{◌≡◌, length, min, take, refl, sym, ◌∙◌, ap, subst, arith}
use Rattle.std.specs.Prelude.{IfSome}
use Rattle.match_journal.proofs.Looking.{room_read, front_read, looks_none, looks_read}
use Rattle.match_journal.proofs.look.read_front.Goals as goal

pub returns-then-len-le1-clause-looks : goal.returns-then-len-le1-clause-looks
returns-then-len-le1-clause-looks g c = looks_none g.S.Station.meanings c.args.station.now 13

pub returns-in-Ok-clause-looks : goal.returns-in-Ok-clause-looks
returns-in-Ok-clause-looks g c =
    let long = room_read c.read.new.into _ c.min-count.result c.read.auto.into (omega (arith, c.min-count.ensures)) in
    looks_read g.S.Station.meanings _ _ 0 13 c.read.new.into _ (omega (arith, long, c.min-count.ensures)) c.in-Ok.ensures.reads

pub returns-in-Err-clause-looks : goal.returns-in-Err-clause-looks
returns-in-Err-clause-looks g c =
    let long = room_read c.read.new.into _ c.min-count.result c.read.auto.into (omega (arith, c.min-count.ensures)) in
    looks_read g.S.Station.meanings _ _ 0 13 c.read.new.into _ (omega (arith, long, c.min-count.ensures)) c.in-Err.ensures.reads

pub returns-in-Ok-clause-store : goal.returns-in-Ok-clause-store
returns-in-Ok-clause-store g c = λ is. absurd (c.class_of.ensures.fault is)

pub returns-in-Ok-clause-none : goal.returns-in-Ok-clause-none
returns-in-Ok-clause-none g c = λ fine. c.in-Ok.ensures.reads.on_store.cause.ok

pub returns-in-Err-clause-none : goal.returns-in-Err-clause-none
returns-in-Err-clause-none g c = λ fine. absurd (fine refl)

pub returns-in-Ok-clause-front : goal.returns-in-Ok-clause-front
returns-in-Ok-clause-front g c = λ image read known.
    let into = c.read.new.into in
    let long = room_read into _ c.min-count.result c.read.auto.into (omega (arith, c.min-count.ensures)) in
    let bytes : into ≡ take (length into) image = subst (λ h. IfSome h (λ image. into ≡ take (length into) image)) read c.in-Ok.ensures.reads.bytes in
    c.class_of.ensures.front image known (front_read image into _ c.min-count.result 13 (c.min-count.ensures ∙ ap (λ k. min k 13) (sym known)) long bytes)
