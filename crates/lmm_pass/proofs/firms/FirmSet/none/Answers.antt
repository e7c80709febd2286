use Rattle.std.proofs.Common.{refl}
use Rattle.lmm_pass.proofs.FirmSets.{none-has, bits_of}
use Rattle.lmm_pass.proofs.firms.FirmSet.none.Goals as goal

pub returns : goal.returns
returns c = none-has (bits_of 0) refl
