use Rattle.std.proofs.Common.{◌≡◌, take}
use Rattle.exec_report.specs.Forms.{noted_all}
use Rattle.journal_print.proofs.publishing.note_given.Given as goal

abbrev pub invariant-loop-number : goal.invariant-loop-number
invariant-loop-number g l = l.form ≡ noted_all g.F.LineForm.meanings l.fn.form l.product (take l.number l.framer.given)
