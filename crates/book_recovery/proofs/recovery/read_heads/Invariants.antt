use Rattle.std.proofs.Common.{◌≡◌, ◌-◌, ◌+◌, ◌*◌, ◌≤◌, List, ℕ, [], length, Some}
use Rattle.match_journal.specs.Journal.{Header}
use Rattle.match_journal.specs.Causes.{LooksOnly}
use Rattle.match_journal.specs.Opening.{StandsIn}
use Rattle.match_journal.specs.Standing.{moved}
use Rattle.match_journal.specs.BadRecords.{BeginsWithRecords}
use Rattle.book_recovery.specs.Inner.Starting.{BeginsAt}
use Rattle.book_recovery.proofs.Counting.{IsCounting}
use Rattle.book_recovery.proofs.recovery.read_heads.Given as goal

abbrev pub invariant-heads : goal.invariant-heads
invariant-heads g l =
    let m = g.S.Station.meanings in
    record {
      looks : LooksOnly m l.fn.station l.station (6 * l.heads.entries);
      reach : m.reach l.station ≡ m.reach l.fn.station;
      faults : m.store_faults l.station ≡ m.store_faults l.fn.station;
      same : l.journal ≡ moved l.fn.journal l.journal.gate l.journal.is_at_end;
      few : l.heads.entries ≤ l.journal.gate;
      start : BeginsAt l.journal l.heads;
      counting : (head : Header) (image : List ℕ) → m.holds l.fn.station ≡ Some image → StandsIn l.fn.journal image → BeginsWithRecords head l.fn.journal.limit [] image → l.fn.journal.first ≡ 13 + length head.text → IsCounting head l.fn.journal.limit image l.journal.gate l.heads;
    }

abbrev pub decreases-heads : goal.decreases-heads
decreases-heads g l = l.journal.known - l.journal.gate
