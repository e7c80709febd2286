use Rattle.std.proofs.Common.{rules}
use Rattle.gx_station.proofs.file_station.FileStationStation.sync.Goals as goal

pub returns-then-is_err-clause-synced : goal.returns-then-is_err-clause-synced
returns-then-is_err-clause-synced g c = search rules

pub returns-clause-synced : goal.returns-clause-synced
returns-clause-synced g c = search rules
