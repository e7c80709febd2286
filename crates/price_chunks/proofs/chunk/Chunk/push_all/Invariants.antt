use Rattle.std.proofs.Common.{◌≡◌, ◌++◌, take}
use Rattle.price_chunks.proofs.chunk.Chunk.push_all.Given as goal

abbrev pub invariant-loop-step : goal.invariant-loop-step
invariant-loop-step l = l.self ≡ l.initial.self ++ take l.step-index l.steps
