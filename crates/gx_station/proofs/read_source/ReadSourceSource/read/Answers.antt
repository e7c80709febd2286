use Rattle.std.proofs.Common.{rules}
use Rattle.gx_station.proofs.read_source.ReadSourceSource.read.Goals as goal

pub returns-in-Err-clause-calls : goal.returns-in-Err-clause-calls
returns-in-Err-clause-calls g c = search rules
