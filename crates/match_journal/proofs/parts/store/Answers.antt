use Rattle.match_journal.proofs.Storing.{stores_write}
use Rattle.match_journal.proofs.Stepping.{stored}
use Rattle.match_journal.proofs.parts.store.Goals as goal

pub returns : goal.returns
returns g c =
    let m = g.S.Station.meanings in
    stored m _ c.write.new.self _ _ _ _ _ (stores_write m _ _ _ _ _ c.in_ok-write.ensures.writes) c.sync.ensures.syncs
