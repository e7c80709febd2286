use Rattle.std.proofs.Common.{◌*◌, take}
use Rattle.std.specs.List.{flat_map}
use Rattle.book_image.specs.Rows.{number_bytes}
use Rattle.book_image.specs.Inner.Writing.{Appends}
use Rattle.book_image.proofs.write.write_lines.Given as goal

abbrev pub invariant-loop-line : goal.invariant-loop-line
invariant-loop-line l = Appends l.initial.into l.into l.fn.at l.end (8 * l.line) (flat_map number_bytes (take l.line l.desk.lines))
