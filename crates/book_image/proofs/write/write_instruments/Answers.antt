use Rattle.std.proofs.Common.{◌≡◌, ℕ, ◌+◌, ◌*◌, length, ap, arith}
use Rattle.gx_base.specs.NameLists.{NameLists}
use Rattle.book_image.specs.declared.format.TheConstants.{INSTRUMENT_BYTES}
use Rattle.book_image.specs.Image.{instrument_bytes, instruments_bytes}
use Rattle.std.specs.Prelude.{◌++◌}
use Rattle.book_image.proofs.WriteWalks.{appends-then, appends-as}
use Rattle.book_image.proofs.WriteParts.{instruments-next}
use Rattle.book_image.proofs.write.write_instruments.Goals as goal

pub loop-instrument-preserved : goal.loop-instrument-preserved
loop-instrument-preserved g c =
    let state = c.args.core.now in
    let i = c.loop-instrument.instrument in
    appends-as (INSTRUMENT_BYTES * i + INSTRUMENT_BYTES) (INSTRUMENT_BYTES * (i + 1)) (instruments_bytes state 0 i ++ instrument_bytes state i) (instruments_bytes state 0 (i + 1))
    (omega arith) (instruments-next state i) (appends-then c.loop-instrument.invariant c.write_instrument-end.ensures)

pub returns : goal.returns
returns g c =
    let state = c.args.core.now in
    let i = c.loop-instrument.instrument in
    let n = state.book.instruments in
    let all : i ≡ n = omega (
      arith,
      c.requires.fits.instruments,
      ap (λ (n : NameLists). length n.instruments) c.names.ensures,
      c.instrument_count-instrument-end.ensures.count,
      c.loop-instrument-test.false,
      c.loop-instrument.auto.instrument-end,
    ) in
    appends-as (INSTRUMENT_BYTES * i) (INSTRUMENT_BYTES * n) (instruments_bytes state 0 i) (instruments_bytes state 0 n)
    (ap (λ (k : ℕ). INSTRUMENT_BYTES * k) all) (ap (λ (k : ℕ). instruments_bytes state 0 k) all) c.loop-instrument.invariant
