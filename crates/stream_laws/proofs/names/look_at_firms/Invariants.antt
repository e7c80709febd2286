use Rattle.std.proofs.Common.{ℕ, List, take, IsTrue}
use Rattle.std.specs.List.{All}
use Rattle.gx_base.specs.Texts.{is_name}
use Rattle.stream_laws.proofs.names.look_at_firms.Given as goal

abbrev pub invariant-loop-number : goal.invariant-loop-number
invariant-loop-number l = All (λ (firm : List ℕ). IsTrue (is_name firm)) (take l.number l.names.firms)
