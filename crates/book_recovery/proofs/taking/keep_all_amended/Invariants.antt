use Rattle.std.proofs.Common.{◌≡◌, ℕ, ◌+◌, ◌-◌, List, [], length, Some}
use Rattle.match_journal.specs.Causes.{ReadsOnly}
use Rattle.match_journal.specs.Journal.{Header, IsJournal, Record}
use Rattle.match_journal.specs.Opening.{StandsIn}
use Rattle.match_journal.specs.Standing.{moved}
use Rattle.book_recovery.specs.Histories.{FollowEachOther}
use Rattle.book_recovery.specs.Products.{AreProducts}
use Rattle.book_recovery.specs.Inner.Keeping.{IsSplit}
use Rattle.book_recovery.proofs.KeepingAll.{IsKeeping}
use Rattle.book_recovery.proofs.taking.keep_all_amended.Given as goal

abbrev pub invariant-records : goal.invariant-records
invariant-records g l =
    let m = g.S.Station.meanings in
    record {
      reads : ReadsOnly m l.fn.station l.station;
      reach : m.reach l.station ≡ m.reach l.fn.station;
      faults : m.store_faults l.station ≡ m.store_faults l.fn.station;
      same : l.journal ≡ moved l.fn.journal l.journal.gate l.journal.is_at_end;
      room : length l.payload ≡ length l.fn.payload;
      follow : FollowEachOther l.earlier.items;
      keeping : (head : Header) (image : List ℕ) (records : List Record) (split : IsSplit head records l.fn.last_at) → m.holds l.fn.station ≡ Some image → StandsIn l.fn.journal image
          → IsJournal head l.fn.journal.limit records image → l.fn.journal.gate ≡ 13 + length head.text → AreProducts head [] l.fn.earlier.items
          → IsKeeping head records l.fn.last_at split l.journal.gate l.earlier.items;
    }

abbrev pub decreases-records : goal.decreases-records
decreases-records g l = l.journal.known - l.journal.gate
