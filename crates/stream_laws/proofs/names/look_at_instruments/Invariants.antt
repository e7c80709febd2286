use Rattle.std.proofs.Common.{take}
use Rattle.std.specs.List.{All}
use Rattle.stream_laws.specs.Names.{IsListed}
use Rattle.stream_laws.proofs.names.look_at_instruments.Given as goal

abbrev pub invariant-loop-number : goal.invariant-loop-number
invariant-loop-number l = All IsListed (take l.number l.names.instruments)
