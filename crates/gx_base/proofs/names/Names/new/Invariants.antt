use Rattle.std.proofs.Common.{◌≡◌, take}
use Rattle.gx_base.proofs.names.Names.new.Given as goal

-- what is pushed so far
abbrev pub invariant-loop-firm : goal.invariant-loop-firm
invariant-loop-firm l = l.kept_firms.items ≡ take l.firm-index l.firms

abbrev pub invariant-loop-listed : goal.invariant-loop-listed
invariant-loop-listed l = l.kept_instruments.items ≡ take l.listed-index l.instruments
