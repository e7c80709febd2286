use Rattle.match_journal.specs.LookLaws.{reads_of, reads_look}
use Rattle.match_journal.proofs.look.front_of.Goals as goal

pub returns-in-Err-measured_again-clause-reads : goal.returns-in-Err-measured_again-clause-reads
returns-in-Err-measured_again-clause-reads g c = reads_of g.S.Station.meanings _ _ _ 14 0 c.front_at.ensures.looks c.measured_again.ensures.looks

pub returns-then-known-len-clause-reads : goal.returns-then-known-len-clause-reads
returns-then-known-len-clause-reads g c = reads_of g.S.Station.meanings _ _ _ 14 0 c.front_at.ensures.looks c.measured_again.ensures.looks

pub returns-clause-reads : goal.returns-clause-reads
returns-clause-reads g c =
    let m = g.S.Station.meanings in
    reads_look m _ _ _ 14 (reads_of m _ _ _ 14 0 c.front_at.ensures.looks c.measured_again.ensures.looks) c.front_at-2.ensures.looks
