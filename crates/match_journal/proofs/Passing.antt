-- Going over the heads of all records, for the last amendment.
use Rattle.std.proofs.Common.{◌≡◌, ◌≢◌, ◌⊎◌, inl, inr, ℕ, ◌+◌, ◌*◌, ◌≤◌, List, [], ◌∷◌, ◌++◌, length, get_or, take, drop, Option, Some, None, IfSome, false, Result, Ok, Err, refl, sym, subst, ◌∙◌, ap, arith, length-append}
use Rattle.gx_station.specs.Stations.{StationMeanings}
use Rattle.match_journal.specs.Causes.{ReadsAtMost, LooksOnly}
use Rattle.match_journal.specs.LookLaws.{reads_then, reads_more, looks_by}
use Rattle.match_journal.specs.Journal.{Header, IsJournal, Record, journal_front, version_of}
use Rattle.match_journal.specs.Texts.{amendment_as, last_amendment}
use Rattle.match_journal.specs.BadRecords.{BeginsWithRecords, HasBadHeadAt}
use Rattle.match_journal.specs.Walking.{IsHead, IsBadHead, Walks}
use Rattle.match_journal.specs.Inner.Fronts.{IsEntryOf, HasLastEntry}
use Rattle.match_journal.specs.Standing.{Fits, at_first, moved}
use Rattle.match_journal.specs.declared.standing.Standing.{Standing}
use Rattle.match_journal.specs.declared.entry.Entry.{Entry}
use Rattle.match_journal.specs.declared.entry.EntryKind.{EntryKind}
use Rattle.match_journal.specs.declared.entry.EntryKind.TheVariants.{Frames, OldImage, Image, Amendment}
use Rattle.match_journal.specs.declared.faults.WalkFault.{WalkFault}
use Rattle.match_journal.specs.declared.faults.WalkFault.TheVariants as walk
use Rattle.match_journal.specs.declared.version.Version.TheVariants.{Second}
use Rattle.match_journal.proofs.LastTexts.{amendment_push}
use Rattle.match_journal.proofs.Heads.{length-first, length-push, record_there, payload_size, begins_more, begins_closed, begins_version, journal_begins_none, no_more_heads}

-- ---- the heads that were passed

-- the entry of the last amendment, once one more was passed
abbrev pub entry_as : Option Entry → Entry → EntryKind → Option Entry
entry_as last entry Frames = last
entry_as last entry OldImage = last
entry_as last entry Image = last
entry_as last entry Amendment = Some entry

-- one of another kind leaves it
entry_stays : (last : Option Entry) (entry : Entry) (kind : EntryKind) → (kind ≡ Frames) ⊎ ((kind ≡ OldImage) ⊎ (kind ≡ Image)) → entry_as last entry kind ≡ last
entry_stays last entry Frames is = refl
entry_stays last entry OldImage is = refl
entry_stays last entry Image is = refl
entry_stays last entry Amendment (inl is) = absurd (cc is)
entry_stays last entry Amendment (inr (inl is)) = absurd (cc is)
entry_stays last entry Amendment (inr (inr is)) = absurd (cc is)

-- so many good heads were passed, and this is the next gate
pub record IsPassing (head : Header) (limit : ℕ) (image : List ℕ) (gate : ℕ) (last : Option Entry) (passed : ℕ) : Type 0 where
  pub before : List Record
  pub begins : BeginsWithRecords head limit before image
  pub gate_is : gate ≡ length (journal_front head before)
  pub count_is : passed ≡ length before
  pub last_is : IsEntryOf image last (last_amendment head before)

passing_first : (head : Header) (limit : ℕ) (image : List ℕ) (gate : ℕ) → BeginsWithRecords head limit [] image → gate ≡ 13 + length head.text → IsPassing head limit image gate None 0
passing_first head limit image gate begins place = record { before = []; begins = begins; gate_is = place ∙ sym (length-first head); count_is = refl; last_is = tt }

module _ (head : Header) (limit : ℕ) (image : List ℕ) (gate : ℕ) (last : Option Entry) (passed : ℕ) (at : IsPassing head limit image gate last passed) where
  abbrev here : ℕ
  here = length (journal_front head at.before)

  -- by the kind of the record there
  entry_more : (entry : Entry) (payload : List ℕ) (kind : EntryKind) → entry.at ≡ here → entry.length ≡ length payload → take entry.length (drop (here + 6) image) ≡ payload
      → IsEntryOf image (entry_as last entry kind) (amendment_as (last_amendment head at.before) here kind payload)
  entry_more entry payload Frames place long is = at.last_is
  entry_more entry payload OldImage place long is = at.last_is
  entry_more entry payload Image place long is = at.last_is
  entry_more entry payload Amendment place long is = (place, long, ap (λ k. take entry.length (drop (k + 6) image)) place ∙ is)

  pub passing_more : (entry : Entry) → IsHead image limit gate entry → IsPassing head limit image (gate + (6 + entry.length)) (entry_as last entry entry.kind) (passed + 1)
  passing_more entry at_gate =
      let at_head : IsHead image limit here entry = subst (λ k. IsHead image limit k entry) at.gate_is at_gate in
      let there = record_there head limit at.before image at.begins entry at_head in
      let long = payload_size head limit at.before image at.begins entry at_head in
      record {
        before = at.before ++ there ∷ [];
        begins = begins_more head limit at.before image at.begins entry at_head;
        gate_is = omega (arith, at.gate_is, length-push head at.before there, long);
        count_is = omega (arith, at.count_is, length-append at.before (there ∷ []));
        last_is = subst (IsEntryOf image (entry_as last entry entry.kind)) (sym (amendment_push head at.before there)) (entry_more entry there.payload entry.kind at_head.at_is (sym long) refl);
      }

  passing_done : get_or image gate 0 ≢ 1 → HasLastEntry head limit image last
  passing_done shut = record { records = at.before; heads = begins_closed head limit at.before image at.begins (subst (λ k. get_or image k 0 ≢ 1) at.gate_is shut); last = at.last_is }

  passing_bad : (place : ℕ) → IsBadHead image limit gate place → HasBadHeadAt head limit image place
  passing_bad place bad = record { before = at.before; begins = at.begins; bad = subst (λ k. IsBadHead image limit k place) at.gate_is bad }

-- ---- over a station

-- What is known after some heads: how much was read, and in whichever image of this length was read, whose header has a text of
-- this size, where the last amendment is.
pub record Passes {S : Type 0} (m : StationMeanings S) (old new : S) (size len limit gate : ℕ) (last : Option Entry) : Type 0 where
  pub passed : ℕ
  pub looks : LooksOnly m old new (6 * passed)
  pub at : (head : Header) (image : List ℕ) → m.holds old ≡ Some image → length image ≡ len → head.version ≡ Second → length head.text ≡ size → BeginsWithRecords head limit [] image → IsPassing head limit image gate last passed

module _ {S : Type 0} (m : StationMeanings S) (old : S) (size len limit : ℕ) where
  pub passes_none : LooksOnly m old old 0 → Passes m old old size len limit (13 + size) None
  passes_none looks = record { passed = 0; looks = looks; at = λ head image read known second long begins. passing_first head limit image (13 + size) begins (ap (λ k. 13 + k) (sym long)) }

  module _ (new then : S) (gate : ℕ) (last : Option Entry) (passes : Passes m old new size len limit gate last) (look : LooksOnly m new then 6) where
    -- what a walk answers at the gate
    abbrev Answered : Result (Option Entry) WalkFault → Type 0
    Answered r = (image : List ℕ) → m.holds new ≡ Some image → length image ≡ len → version_of image ≡ Second → Walks image limit gate r

    module _ (r : Result (Option Entry) WalkFault) (walks : Answered r) where
      walk_at : (head : Header) (image : List ℕ) → m.holds old ≡ Some image → length image ≡ len → head.version ≡ Second → BeginsWithRecords head limit [] image → Walks image limit gate r
      walk_at head image read known second begins = walks image (passes.looks.keeps.holds ∙ read) known (begins_version head limit [] image begins ∙ second)

    passes_more : (found : Option Entry) (entry : Entry) → found ≡ Some entry → Answered (Ok found) → Passes m old then size len limit (gate + (6 + entry.length)) (entry_as last entry entry.kind)
    passes_more found entry is walks = record {
      passed = passes.passed + 1;
      looks = looks_by m old new then (6 * passes.passed) 6 (6 * (passes.passed + 1)) passes.looks look (omega arith);
      at = λ head image read known second long begins.
          passing_more head limit image gate last passes.passed (passes.at head image read known second long begins) entry
          (subst (λ (o : Option Entry). Walks image limit gate (Ok o)) is (walk_at (Ok found) walks head image read known second begins));
    }

    pub passes_amended : (found : Option Entry) (entry : Entry) → found ≡ Some entry → entry.kind ≡ Amendment → Answered (Ok found) → Passes m old then size len limit (gate + (6 + entry.length)) (Some entry)
    passes_amended found entry is kind walks = subst (λ (o : Option Entry). Passes m old then size len limit (gate + (6 + entry.length)) o) (ap (entry_as last entry) kind) (passes_more found entry is walks)

    pub passes_other : (found : Option Entry) (entry : Entry) → found ≡ Some entry → (entry.kind ≡ Frames) ⊎ ((entry.kind ≡ OldImage) ⊎ (entry.kind ≡ Image)) → Answered (Ok found) → Passes m old then size len limit (gate + (6 + entry.length)) last
    passes_other found entry is kind walks = subst (λ (o : Option Entry). Passes m old then size len limit (gate + (6 + entry.length)) o) (entry_stays last entry entry.kind kind) (passes_more found entry is walks)

    pub passes_done : (found : Option Entry) → found ≡ None → Answered (Ok found) → (head : Header) (image : List ℕ) → m.holds old ≡ Some image → length image ≡ len → head.version ≡ Second → length head.text ≡ size → BeginsWithRecords head limit [] image → HasLastEntry head limit image last
    passes_done found is walks head image read known second long begins =
        passing_done head limit image gate last passes.passed (passes.at head image read known second long begins)
        (subst (λ (o : Option Entry). Walks image limit gate (Ok o)) is (walk_at (Ok found) walks head image read known second begins))

    pub passes_bad : (e : WalkFault) (place : ℕ) → e ≡ walk.Bad place → Answered (Err e) → (head : Header) (image : List ℕ) → m.holds old ≡ Some image → length image ≡ len → head.version ≡ Second → length head.text ≡ size → BeginsWithRecords head limit [] image → HasBadHeadAt head limit image place
    passes_bad e place is walks head image read known second long begins =
        passing_bad head limit image gate last passes.passed (passes.at head image read known second long begins) place
        (subst (λ (e : WalkFault). Walks image limit gate (Err e)) is (walk_at (Err e) walks head image read known second begins))

    -- six bytes more are read than for the heads that were passed
    pub passes_few : (head : Header) (image : List ℕ) (records : List Record) → m.holds old ≡ Some image → length image ≡ len → head.version ≡ Second → length head.text ≡ size → IsJournal head limit records image → ReadsAtMost (6 * (length records + 1)) (m.bytes_read old) (m.bytes_read then)
    passes_few head image records read known second long journal =
        let at = passes.at head image read known second long (journal_begins_none head limit records image journal) in
        reads_more (6 * passes.passed + 6) (6 * (length records + 1)) (m.bytes_read old) (m.bytes_read then) (omega (arith, at.count_is, no_more_heads head limit records at.before image journal at.begins))
        (reads_then (6 * passes.passed) 6 (m.bytes_read old) (m.bytes_read new) (m.bytes_read then) passes.looks.bytes_read look.bytes_read)

-- ---- where the heads are read

-- at this gate, by the header alone
abbrev pub at_gate : ℕ → ℕ → ℕ → ℕ → Standing
at_gate size len limit gate = moved (at_first Second (13 + size) len limit 13 size) gate false

pub walks_at : {S : Type 0} (m : StationMeanings S) (s : Standing) (size len limit : ℕ) (new : S) (r : Result (Option Entry) WalkFault) → s ≡ at_gate size len limit s.gate
    → ((image : List ℕ) → m.holds new ≡ Some image → length image ≡ s.known → version_of image ≡ s.version → Walks image s.limit s.gate r)
    → (image : List ℕ) → m.holds new ≡ Some image → length image ≡ len → version_of image ≡ Second → Walks image limit s.gate r
walks_at m s size len limit new r same walks image read known second =
    subst (λ k. Walks image k s.gate r) (ap (λ (s : Standing). s.limit) same) (walks image read (known ∙ sym (ap (λ (s : Standing). s.known) same)) (second ∙ sym (ap (λ (s : Standing). s.version) same)))

-- the entry that was found ends where it may
pub fits_at : (s : Standing) (size len limit : ℕ) (found : Option Entry) (entry : Entry) → s ≡ at_gate size len limit s.gate → found ≡ Some entry → IfSome found (λ (e : Entry). (e.at ≡ s.gate) × Fits s.known s.limit e) → (entry.at ≡ s.gate) × Fits len limit entry
fits_at s size len limit found entry same is fits =
    let both : (entry.at ≡ s.gate) × Fits s.known s.limit entry = subst (λ (o : Option Entry). IfSome o (λ (e : Entry). (e.at ≡ s.gate) × Fits s.known s.limit e)) is fits in
    (both.0, subst (λ k. Fits len k entry) (ap (λ (s : Standing). s.limit) same) (subst (λ k. Fits k s.limit entry) (ap (λ (s : Standing). s.known) same) both.1))

pub moved_on : (s : Standing) (size len limit next : ℕ) → s ≡ at_gate size len limit s.gate → record s { gate = next } ≡ at_gate size len limit next
moved_on s size len limit next same = ap (λ (s : Standing). record s { gate = next }) same

-- and so it does in a longer image
pub fits_longer : (found : Option Entry) (a b limit : ℕ) → a ≤ b → IfSome found (λ (e : Entry). Fits a limit e) → IfSome found (λ (e : Entry). Fits b limit e)
fits_longer None a b limit more fits = tt
fits_longer (Some entry) a b limit more fits = record { some = fits.some; few = fits.few; inside = omega (arith, fits.inside, more); in_limit = fits.in_limit }

-- what is answered in an image of the length that is known, where this is that of the opening
pub walks_same : {S : Type 0} (m : StationMeanings S) (new : S) (len known limit gate : ℕ) (r : Result (Option Entry) WalkFault) → known ≡ len
    → ((image : List ℕ) → m.holds new ≡ Some image → length image ≡ known → version_of image ≡ Second → Walks image limit gate r)
    → (image : List ℕ) → m.holds new ≡ Some image → length image ≡ len → version_of image ≡ Second → Walks image limit gate r
walks_same m new len known limit gate r is walks image read long second = walks image read (long ∙ sym is) second
