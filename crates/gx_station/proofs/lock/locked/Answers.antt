use Rattle.gx_station.proofs.lock.locked.Goals as goal

pub returns-in-Err : goal.returns-in-Err
returns-in-Err g c = (c.take_lock.new.self, c.in-Err.ensures.locked)
