use Rattle.std.proofs.Common.{◌≡◌, ◌++◌, length}
use Rattle.fix_frame.specs.Stream.{messages_of, rest_of}
use Rattle.book_recovery.proofs.contents.are_whole.Given as goal

abbrev pub invariant-frames : goal.invariant-frames
invariant-frames l = record {
  rest : rest_of l.framer.rest ≡ rest_of l.fn.framer.rest;
  given : l.framer.given ++ messages_of l.framer.rest ≡ l.fn.framer.given ++ messages_of l.fn.framer.rest;
}

abbrev pub decreases-frames : goal.decreases-frames
decreases-frames l = length l.framer.rest
