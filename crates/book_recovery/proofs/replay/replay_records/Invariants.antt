use Rattle.std.proofs.Common.{◌≡◌, ◌-◌, ◌+◌, ◌<◌, ◌≤◌, List, ℕ, length, Some, Ok}
use Rattle.match_journal.specs.Journal.{IsJournal, Record, journal_front, Header}
use Rattle.match_journal.specs.Causes.{LooksOnly}
use Rattle.match_journal.specs.Opening.{StandsIn}
use Rattle.match_journal.specs.Standing.{moved}
use Rattle.match_journal.specs.Texts.{last_text}
use Rattle.match_journal.specs.Walking.{Walks}
use Rattle.product_file.specs.ProductTexts.{product_of}
use Rattle.order_kinds.specs.Cores.{FitsProduct}
use Rattle.order_kinds.specs.declared.core_state.TheConstants.{MOST_MESSAGES}
use Rattle.book_recovery.specs.Records.{before_last_image}
use Rattle.book_recovery.specs.Recovering.{HasRoomFor}
use Rattle.book_recovery.specs.Inner.Ahead.{front, IsAhead}
use Rattle.book_recovery.specs.Inner.Starting.{begins_from}
use Rattle.book_recovery.proofs.Replaying.{IsReplaying}
use Rattle.book_recovery.proofs.replay.replay_records.Given as goal

abbrev pub invariant-records : goal.invariant-records
invariant-records g l =
    let m = g.S.Station.meanings in
    record {
      looks : LooksOnly m l.fn.station l.station (front l.scratch.ahead - (begins_from l.fn.journal l.fn.start + 6));
      from : begins_from l.fn.journal l.fn.start + 6 ≤ l.journal.gate;
      ahead : IsAhead m l.station l.scratch.ahead l.journal.gate l.last.end;
      within : l.journal.gate ≤ l.last.gate;
      reach : m.reach l.station ≡ m.reach l.fn.station;
      faults : m.store_faults l.station ≡ m.store_faults l.fn.station;
      same : l.journal ≡ moved l.fn.journal l.journal.gate l.journal.is_at_end;
      in_limit : l.journal.gate < l.fn.journal.limit;
      room : HasRoomFor l.product l.scratch;
      fits : FitsProduct l.product l.core;
      few : l.core.desk.messages < MOST_MESSAGES;
      replaying : (head : Header) (image : List ℕ) (records : List Record) → m.holds l.fn.station ≡ Some image → StandsIn l.fn.journal image → IsJournal head l.fn.journal.limit records image
          → l.fn.journal.gate ≡ length (journal_front head records) → product_of (last_text head records).bytes ≡ Ok l.product
          → Walks image l.fn.journal.limit (length (journal_front head (before_last_image records))) (Ok l.fn.start) → IsReplaying l.product head records l.journal.gate l.core;
    }

abbrev pub decreases-records : goal.decreases-records
decreases-records g l = l.journal.known - l.journal.gate
