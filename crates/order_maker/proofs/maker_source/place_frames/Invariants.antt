use Rattle.std.proofs.Common.{◌≡◌, ◌≤◌, ◌++◌, length, take}
use Rattle.order_maker.specs.Inner.{Stands}
use Rattle.order_maker.specs.Stream.{frames_from}
use Rattle.order_maker.proofs.maker_source.place_frames.Given as goal

abbrev pub invariant-loop-stand : goal.invariant-loop-stand
invariant-loop-stand l = record {
  within : l.end ≤ length l.into;
  frames : frames_from l.product l.fn.stand.state l.fn.stand.turn.number l.fn.stand.left
      ≡ take l.end l.into ++ frames_from l.product l.stand.state l.stand.turn.number l.stand.left;
  start : l.end ≡ 0 → l.stand.left ≡ l.fn.stand.left;
  stands : Stands l.product l.stand.turn l.stand.left;
}

abbrev pub decreases-loop-stand : goal.decreases-loop-stand
decreases-loop-stand l = l.stand.left
