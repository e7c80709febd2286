use Rattle.std.proofs.Common.{◌≡◌, drop}
use Rattle.level_feed.specs.Rows.{with_rows}
use Rattle.level_feed.specs.Inner.{Stays}
use Rattle.level_feed.proofs.level_rows.LevelRows.put_all.Given as goal

abbrev pub invariant-loop-change : goal.invariant-loop-change
invariant-loop-change l = record {
  rows : with_rows (drop l.change-index l.changes) l.self.rows ≡ with_rows l.changes l.initial.self.rows;
  stays : Stays l.self.capacity (drop l.change-index l.changes) l.self.rows;
  capacity : l.self.capacity ≡ l.initial.self.capacity;
}
