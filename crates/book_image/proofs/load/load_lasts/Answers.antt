use Rattle.std.proofs.Common.{◌≡◌, arith}
use Rattle.book_image.proofs.LoadParts.{lasts-listed, lasts-next, lasts-all}
use Rattle.book_image.proofs.load.load_lasts.Goals as goal

pub restore_last-requires-clause-listed : goal.restore_last-requires-clause-listed
restore_last-requires-clause-listed g c =
    lasts-listed c.args.payload.now c.args.core.now c.loop-k.core c.loop-k.k c.loop-k.invariant (omega (arith, c.requires.listed, c.loop-k-test.true))

pub loop-k-preserved : goal.loop-k-preserved
loop-k-preserved g c =
    lasts-next c.args.payload.now c.args.core.now c.loop-k.core c.loop-k.k c.loop-k.invariant (omega (arith, c.requires.listed, c.loop-k-test.true))
    c.restore_last.new.self c.last_at.result c.last_at.ensures c.restore_last.ensures

pub returns : goal.returns
returns g c =
    let e : c.loop-k.k ≡ c.args.instruments = omega (arith, c.loop-k-test.false, c.loop-k.auto.k-end) in
    lasts-all c.args.payload.now c.args.core.now c.loop-k.core c.loop-k.k c.loop-k.invariant c.args.instruments e c.requires.listed
