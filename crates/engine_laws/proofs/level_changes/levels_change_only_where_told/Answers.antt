use Rattle.engine_laws.proofs.LevelSteps.{levels-stay}
use Rattle.engine_laws.proofs.level_changes.levels_change_only_where_told.Goals as goal

pub returns : goal.returns
returns c product request state k are asks told = levels-stay product request state k are asks told
