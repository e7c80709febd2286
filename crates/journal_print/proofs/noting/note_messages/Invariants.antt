use Rattle.std.proofs.Common.{◌≡◌, take}
use Rattle.fix_session.specs.SessionOut.{noted_all}
use Rattle.journal_print.proofs.noting.note_messages.Given as goal

abbrev pub invariant-loop-number : goal.invariant-loop-number
invariant-loop-number l = l.sessions ≡ noted_all l.product l.fn.sessions (take l.number l.framer.given)
