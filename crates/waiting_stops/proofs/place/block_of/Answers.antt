use Rattle.std.proofs.Common.{◌+◌, ◌*◌, length, ap, ◌∙◌, arith}
use Rattle.waiting_stops.specs.Inner.Kept.{stops_at}
use Rattle.waiting_stops.proofs.Blocks.{block-is, lesser-of}
use Rattle.waiting_stops.proofs.Places.{stops-part}
use Rattle.waiting_stops.proofs.place.block_of.Goals as goal

pub returns : goal.returns
returns c =
    let ps = c.args.places.now in
    let s = 512 * c.args.at in
    ap stops_at (block-is 512 s c.min.result ps (omega arith) (lesser-of (s + 512) (length ps) c.min.result c.min.ensures)) ∙ stops-part 512 s ps
