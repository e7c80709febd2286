-- How much is read of a journal with these records, whatever is answered.
use Rattle.std.proofs.Common.{◌≡◌, ℕ, ◌+◌, ◌-◌, ◌*◌, ◌≤◌, List, length, Option, Some, None, Ok, subst, ◌∙◌, ap, arith, length-append}
use Rattle.std.specs.List.{flat_map}
use Rattle.gx_station.specs.Stations.{StationMeanings}
use Rattle.match_journal.specs.Causes.{ReadsAtMost, ReadsOnly, LooksOnly}
use Rattle.match_journal.specs.Journal.{IsJournal, Record, journal_front, open_record, Header}
use Rattle.match_journal.specs.LookLaws.{looks_by, looks_then, reads_of, reads_then, reads_more}
use Rattle.match_journal.specs.Walking.{Walks}
use Rattle.match_journal.specs.declared.entry.Entry.{Entry}
use Rattle.match_journal.specs.declared.standing.Standing.{Standing}
use Rattle.match_journal.proofs.Walked.{front-split}
use Rattle.book_recovery.specs.Records.{from_last_image, before_last_image}
use Rattle.book_recovery.specs.Recovering.{most_to_recover}
use Rattle.book_recovery.specs.Inner.Counting.{AreRecords}
use Rattle.book_recovery.specs.Inner.Starting.{begins_from}
use Rattle.book_recovery.specs.declared.recovery.Heads.{Heads}
use Rattle.book_recovery.proofs.Counting.{IsCounting}
use Rattle.match_journal.proofs.Heads.{one_journal, no_more_heads}
use Rattle.book_recovery.proofs.LastImages.{last_split}

-- ---- the first pass: six bytes more are read than for the heads that were met

pub heads_read : {S : Type 0} (m : StationMeanings S) (head : Header) (image : List ℕ) (limit gate : ℕ) (records : List Record) (heads : Heads) (a b c : S) → IsJournal head limit records image → IsCounting head limit image gate heads
    → LooksOnly m a b (6 * heads.entries) → LooksOnly m b c 6 → ReadsAtMost (6 * (length records + 1)) (m.bytes_read a) (m.bytes_read c)
heads_read m head image limit gate records heads a b c journal at first second =
    reads_more (6 * heads.entries + 6) (6 * (length records + 1)) (m.bytes_read a) (m.bytes_read c) (omega (arith, at.count_is, no_more_heads head limit records at.before image journal at.begins))
    (reads_then (6 * heads.entries) 6 (m.bytes_read a) (m.bytes_read b) (m.bytes_read c) first.bytes_read second.bytes_read)

-- and no more where the image is measured then
pub ended_read : {S : Type 0} (m : StationMeanings S) (head : Header) (image : List ℕ) (limit gate : ℕ) (records : List Record) (heads : Heads) (a b c d : S) → IsJournal head limit records image → IsCounting head limit image gate heads
    → LooksOnly m a b (6 * heads.entries) → LooksOnly m b c 6 → LooksOnly m c d 0 → ReadsAtMost (6 * (length records + 1)) (m.bytes_read a) (m.bytes_read d)
ended_read m head image limit gate records heads a b c d journal at first second third =
    reads_more (6 * (length records + 1) + 0) (6 * (length records + 1)) (m.bytes_read a) (m.bytes_read d) (omega arith)
    (reads_then (6 * (length records + 1)) 0 (m.bytes_read a) (m.bytes_read c) (m.bytes_read d) (heads_read m head image limit gate records heads a b c journal at first second) third.bytes_read)

pub ended_looks : {S : Type 0} (m : StationMeanings S) (entries : ℕ) (a b c d : S) → LooksOnly m a b (6 * entries) → LooksOnly m b c 6 → LooksOnly m c d 0 → LooksOnly m a d (6 * (entries + 1))
ended_looks m entries a b c d first second third = looks_by m a c d (6 * entries + 6) 0 (6 * (entries + 1)) (looks_then m a b c (6 * entries) 6 first second) third (omega arith)

pub ended_bytes : {S : Type 0} (m : StationMeanings S) (entries : ℕ) (a b c d : S) → LooksOnly m a b (6 * entries) → LooksOnly m b c 6 → LooksOnly m c d 0 → ReadsAtMost (6 * (entries + 1)) (m.bytes_read a) (m.bytes_read d)
ended_bytes m entries a b c d first second third = (ended_looks m entries a b c d first second third).bytes_read

pub ended_reads : {S : Type 0} (m : StationMeanings S) (most : ℕ) (a b c d : S) → LooksOnly m a b most → LooksOnly m b c 6 → LooksOnly m c d 0 → ReadsOnly m a d
ended_reads m most a b c d first second third = reads_of m a c d (most + 6) 0 (looks_then m a b c most 6 first second) third

-- ---- the second pass: between its first gate and the last one

-- the records from the last image on stand there
most_is : (head : Header) (records : List Record) → length (journal_front head records) ≡ length (journal_front head (before_last_image records)) + length (flat_map open_record (from_last_image records))
most_is head records =
    let before = before_last_image records in
    let from = from_last_image records in
    omega (
      arith,
      ap (λ (l : List Record). length (journal_front head l)) (last_split records),
      ap length (front-split head before from),
      length-append (journal_front head before) (flat_map open_record from),
    )

begun : (image : List ℕ) (limit place : ℕ) (s : Standing) (start : Option Entry) (most : ℕ) → Walks image limit place (Ok start) → s.gate ≡ place + most → s.gate - begins_from s start ≤ most
begun image limit place s None most walks is = omega arith
begun image limit place s (Some entry) most walks is = omega (arith, walks.at_is, is)

-- ---- both

-- the second pass begins where the first has ended, with the entry that it has met
pub passes_read : (head : Header) (image : List ℕ) (old mid : Standing) (records : List Record) (heads : Heads) (a b c : Option ℕ) → IsJournal head old.limit records image
    → AreRecords head old.limit image mid.gate heads → ReadsAtMost (6 * (length records + 1)) a b → ReadsAtMost (mid.gate - begins_from mid heads.start) b c → ReadsAtMost (most_to_recover records) a c
passes_read head image old mid records heads a b c journal counted first second =
    let one = one_journal head old.limit image counted.records records counted.journal.journal journal in
    let start = subst (λ (rs : List Record). Walks image old.limit (length (journal_front head (before_last_image rs))) (Ok heads.start)) one counted.start in
    let most = length (flat_map open_record (from_last_image records)) in
    let last = counted.journal.gate_is ∙ ap (λ (rs : List Record). length (journal_front head rs)) one ∙ most_is head records in
    reads_then (6 * (length records + 1)) most a b c first
    (reads_more (mid.gate - begins_from mid heads.start) most b c (begun image old.limit (length (journal_front head (before_last_image records))) mid heads.start most start last) second)
