use Rattle.match_journal.proofs.Stepping.{settled_then}
use Rattle.match_journal.proofs.Appended.{append_stopped, append_done}
use Rattle.match_journal.proofs.append.put_record.Goals as goal

pub returns-in_err-store_record-clause-appends : goal.returns-in_err-store_record-clause-appends
returns-in_err-store_record-clause-appends g c = λ text image limit records right fits first.
    append_stopped g.S.Station.meanings text image _ limit records c.args.gate right fits first c.args.station.now c.store_record.new.station _ _ c.from_residual.ensures.0 c.in_err-store_record.ensures

pub returns-clause-appends : goal.returns-clause-appends
returns-clause-appends g c = λ text image limit records right fits first.
    append_done g.S.Station.meanings text image _ limit records c.args.gate right fits first c.args.station.now c.store_record.new.station c.store.new.station _ _ c.in_ok-store_record.ensures c.store.ensures

pub returns-clause-settled : goal.returns-clause-settled
returns-clause-settled g c = settled_then g.S.Station.meanings c.args.station.now c.store_record.new.station c.store.new.station _ _ c.in_ok-store_record.ensures.puts c.store.ensures.settled
