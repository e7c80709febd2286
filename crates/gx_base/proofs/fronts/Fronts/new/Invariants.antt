use Rattle.std.proofs.Common.{◌≡◌, map, take}
use Rattle.gx_base.specs.Fronts.{firm_front, side_fronts}
use Rattle.gx_base.proofs.fronts.Fronts.new.Given as goal

-- what is pushed so far
abbrev pub invariant-loop-firm : goal.invariant-loop-firm
invariant-loop-firm l = l.firm_fronts.items ≡ map firm_front (take l.firm-index l.firms)

abbrev pub invariant-loop-listed : goal.invariant-loop-listed
invariant-loop-listed l = l.instrument_fronts.items ≡ map side_fronts (take l.listed-index l.instruments)
