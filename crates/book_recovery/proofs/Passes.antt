-- What recovery answers, from what its two passes answer.
use Rattle.std.proofs.Common.{◌≡◌, inl, inr, ℕ, ◌+◌, List, length, Option, Result, Ok, Err, sym, subst, ◌∙◌, ap}
use Rattle.product_file.specs.Products.{ProductLists}
use Rattle.order_kinds.specs.State.{State}
use Rattle.match_journal.specs.Journal.{IsJournal, Record, Header}
use Rattle.match_journal.specs.Opening.{StandsIn}
use Rattle.match_journal.specs.Texts.{last_text}
use Rattle.product_file.specs.ProductTexts.{product_of}
use Rattle.match_journal.specs.Standing.{moved}
use Rattle.match_journal.specs.Walking.{IsNext, Walks}
use Rattle.match_journal.specs.declared.entry.Entry.{Entry}
use Rattle.match_journal.specs.declared.standing.Standing.{Standing}
use Rattle.book_recovery.specs.Recovering.{IsRecovered, ChecksHeads, Recovers}
use Rattle.book_recovery.specs.Inner.Counting.{AreRecords, Counts}
use Rattle.book_recovery.specs.Inner.Replays.{record_at, ReplaysOne, ReplaysAll, AreReplayed}
use Rattle.book_recovery.specs.declared.recovery.Heads.{Heads}
use Rattle.book_recovery.specs.declared.recovery.RecoverFault.{RecoverFault}
use Rattle.book_recovery.specs.declared.recovery.RecoverFault.TheVariants as fault
use Rattle.book_recovery.proofs.Replaying.{IsReplaying, before, replaying_bad}
use Rattle.book_recovery.proofs.Standings.{stands_moved}

-- the pass over the heads has ended at a bad one
pub heads_checked : (head : Header) (image : List ℕ) (limit gate : ℕ) (why : RecoverFault) → Counts head limit image gate (Err why) → ChecksHeads head limit image (Err why)
heads_checked head image limit gate fault.Store told = tt
heads_checked head image limit gate (fault.Bad at) told = told

module _ (product : ProductLists) (head : Header) (image : List ℕ) (limit : ℕ) where
  -- the first pass has ended at a bad head
  pub stopped_counting : (gate gate' : ℕ) (state : State) (why : RecoverFault) → Counts head limit image gate (Err why) → Recovers product head limit image gate' state (Err why)
  stopped_counting gate gate' state fault.Store told = tt
  stopped_counting gate gate' state (fault.Bad at) told = inl told

  -- the second one has ended at a bad payload
  pub stopped_replaying : (records : List Record) (gate gate' : ℕ) (new state : State) (why : RecoverFault) → ReplaysAll product head limit image records gate new (Err why) → Recovers product head limit image gate' state (Err why)
  stopped_replaying records gate gate' new state fault.Store told = tt
  stopped_replaying records gate gate' new state (fault.Bad at) told = inr told

  pub stopped_one : (records : List Record) (gate next last : ℕ) (old new then : State) (entry : Entry) (at : IsReplaying product head records gate old) → IsNext head image (before head records gate at.passing) at.passing.left next entry
      → (why : RecoverFault) → IsJournal head limit records image → ReplaysOne product old new entry.at (record_at image entry) (Err why) → ReplaysAll product head limit image records last then (Err why)
  stopped_one records gate next last old new then entry at next_one fault.Store journal told = tt
  stopped_one records gate next last old new then entry at next_one (fault.Bad place) journal told = replaying_bad product head image limit records gate old at next entry next_one place journal told.0 told.1

  -- both passes have met each record
  pub recovered : (gate gate' messages : ℕ) (heads : Heads) (new : State) (counted : AreRecords head limit image gate heads) → AreReplayed product head limit image counted.records gate' new → messages ≡ new.desk.messages
      → IsRecovered product head limit image gate' new (record { messages = messages; entries = heads.entries; image_at = heads.image_at })
  recovered gate gate' messages heads new counted replayed is = record {
    records = counted.records;
    journal = replayed.journal;
    good = replayed.good;
    messages = is ∙ replayed.messages;
    entries = counted.count_is;
    image_at = counted.image_is;
    kept = replayed.kept;
  }

  -- the second pass begins where the first has ended, with the entry that it has met
  pub replays_after : (old mid : Standing) (records : List Record) (place gate : ℕ) (new : State) (start : Option Entry) (r : Result (Unit {0}) RecoverFault) → old.limit ≡ limit → mid ≡ moved old mid.gate mid.is_at_end
      → (StandsIn mid image → IsJournal head mid.limit records image → mid.first ≡ 13 + length head.text → product_of (last_text head records).bytes ≡ Ok product → Walks image mid.limit place (Ok start) → ReplaysAll product head mid.limit image records gate new r)
      → StandsIn old image → IsJournal head limit records image → old.first ≡ 13 + length head.text → product_of (last_text head records).bytes ≡ Ok product → Walks image limit place (Ok start) → ReplaysAll product head limit image records gate new r
  replays_after old mid records place gate new start r limit_is same then known journal first gives walks =
      let limits : mid.limit ≡ limit = ap (λ (s : Standing). s.limit) same ∙ limit_is in
      subst (λ k. ReplaysAll product head k image records gate new r) limits
      (then (stands_moved old mid mid.gate mid.is_at_end image same known) (subst (λ k. IsJournal head k records image) (sym limits) journal) (ap (λ (s : Standing). s.first) same ∙ first) gives
      (subst (λ k. Walks image k place (Ok start)) (sym limits) walks))
