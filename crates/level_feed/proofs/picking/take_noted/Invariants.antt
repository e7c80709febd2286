use Rattle.std.proofs.Common.{◌≡◌, ◌≤◌, take, length}
use Rattle.std.specs.Prelude.{vec_capacity}
use Rattle.level_feed.specs.Rows.{levels_of}
use Rattle.level_feed.specs.Inner.{picked}
use Rattle.level_feed.proofs.picking.take_noted.Given as goal

abbrev pub invariant-loop-level : goal.invariant-loop-level
invariant-loop-level g l = record {
  rows : l.rows.items ≡ picked (take l.level-index l.levels) (levels_of (g.B.Book.book l.book).resting);
  few : length l.rows.items ≤ l.level-index;
  capacity : vec_capacity l.rows ≡ vec_capacity l.initial.rows;
}
