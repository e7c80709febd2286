use Rattle.std.proofs.Common.{◌*◌}
use Rattle.book_image.specs.declared.format.TheConstants.{INSTRUMENT_BYTES}
use Rattle.book_image.specs.Image.{instruments_bytes}
use Rattle.book_image.specs.Inner.Writing.{Appends}
use Rattle.book_image.proofs.write.write_instruments.Given as goal

abbrev pub invariant-loop-instrument : goal.invariant-loop-instrument
invariant-loop-instrument g l = Appends l.initial.into l.into l.fn.at l.end (INSTRUMENT_BYTES * l.instrument) (instruments_bytes l.core 0 l.instrument)
