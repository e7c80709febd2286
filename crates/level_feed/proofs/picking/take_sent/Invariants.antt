use Rattle.std.proofs.Common.{◌≡◌, ◌≤◌, take, length}
use Rattle.std.specs.Prelude.{vec_capacity}
use Rattle.level_feed.specs.Inner.{picked}
use Rattle.level_feed.proofs.picking.take_sent.Given as goal

abbrev pub invariant-loop-level : goal.invariant-loop-level
invariant-loop-level l = record {
  rows : l.was.items ≡ picked (take l.level-index l.levels) l.rows.rows;
  few : length l.was.items ≤ l.level-index;
  capacity : vec_capacity l.was ≡ vec_capacity l.initial.was;
}
