use Rattle.std.proofs.Common.{subst, sym, ◌≤◌, length, rules, arith}
use Rattle.match_journal.proofs.Texts.{fd_le}
use Rattle.match_journal.proofs.Looking.{room_read, looks_read}
use Rattle.match_journal.proofs.text.same_in.Goals as goal

pub returns-clause-within : goal.returns-clause-within
returns-clause-within g c = subst (λ n. n ≤ length c.args.part.now) (sym c.common_front.ensures.value) (fd_le _ c.args.part.now).1

pub returns-in_err-read-clause-looks : goal.returns-in_err-read-clause-looks
returns-in_err-read-clause-looks g c =
    let long = room_read c.read.new.into _ (length c.args.part.now) c.read.auto.into (search rules) in
    looks_read g.S.Station.meanings _ _ c.args.at _ c.read.new.into c.read.result (omega (arith, long)) c.read.ensures.reads

pub returns-clause-looks : goal.returns-clause-looks
returns-clause-looks g c =
    let long = room_read c.read.new.into _ (length c.args.part.now) c.read.auto.into (search rules) in
    looks_read g.S.Station.meanings _ _ c.args.at _ c.read.new.into c.read.result (omega (arith, long)) c.read.ensures.reads
