-- Going over the heads of all records.
use Rattle.std.proofs.Common.{◌≡◌, ◌≢◌, ◌⊎◌, ⊎_elim, ℕ, ◌+◌, List, [], ◌∷◌, ◌++◌, length, get_or, Bool, true, false, Option, Some, None, Result, Ok, Err, refl, sym, subst, ◌∙◌, ap, arith, length-append}
use Rattle.std.specs.Option.{option_or}
use Rattle.match_journal.specs.Journal.{Record, journal_front, Header}
use Rattle.match_journal.specs.Opening.{StandsIn}
use Rattle.match_journal.specs.Standing.{moved}
use Rattle.match_journal.specs.Walking.{IsHead, IsBadHead, Walks}
use Rattle.match_journal.specs.declared.standing.Standing.{Standing}
use Rattle.match_journal.specs.declared.entry.Entry.{Entry}
use Rattle.match_journal.specs.declared.entry.EntryKind.{EntryKind}
use Rattle.match_journal.specs.declared.entry.EntryKind.TheVariants.{Frames, OldImage, Image, Amendment}
use Rattle.match_journal.specs.declared.faults.WalkFault.{WalkFault}
use Rattle.match_journal.specs.declared.faults.WalkFault.TheVariants as walk
use Rattle.book_recovery.specs.Records.{is_image_kind, is_image, before_last_image, image_gate}
use Rattle.match_journal.specs.BadRecords.{BeginsWithRecords, HasBadHeadAt}
use Rattle.match_journal.proofs.Heads.{length-first, length-push, record_there, payload_size, begins_more, begins_closed}
use Rattle.book_recovery.specs.Inner.Counting.{with_head_of, with_head, AreRecords, Counts}
use Rattle.book_recovery.specs.declared.recovery.Heads.{Heads}
use Rattle.book_recovery.specs.declared.recovery.RecoverFault.{RecoverFault}
use Rattle.book_recovery.specs.declared.recovery.RecoverFault.TheVariants as fault
use Rattle.book_recovery.proofs.Standings.{stands_moved}
use Rattle.book_recovery.proofs.LastImages.{before-image-more, gate-image-more, before-frames-more, gate-frames-more}

-- The second pass begins with the head of the last image, or else with the first head; where there is none yet, no record was met.
abbrev pub IsStart : Header → List ℕ → ℕ → List Record → Option Entry → Type 0
IsStart head image limit before None = before ≡ []
IsStart head image limit before (Some entry) = IsHead image limit (length (journal_front head (before_last_image before))) entry

-- so many good heads were met, and this is the next gate
pub record IsCounting (head : Header) (limit : ℕ) (image : List ℕ) (gate : ℕ) (heads : Heads) : Type 0 where
  pub before : List Record
  pub begins : BeginsWithRecords head limit before image
  pub gate_is : gate ≡ length (journal_front head before)
  pub count_is : heads.entries ≡ length before
  pub image_is : heads.image_at ≡ image_gate head before
  pub start : IsStart head image limit before heads.start

pub counting_first : (head : Header) (limit : ℕ) (image : List ℕ) (gate : ℕ) → BeginsWithRecords head limit [] image → gate ≡ 13 + length head.text
    → IsCounting head limit image gate (record { entries = 0; image_at = None; start = None })
counting_first head limit image gate begins place = record { before = []; begins = begins; gate_is = place ∙ sym (length-first head); count_is = refl; image_is = refl; start = refl }

module _ (head : Header) (limit : ℕ) (image : List ℕ) (gate : ℕ) (before : List Record) (r : Record) where
  -- the place of the start, where frames come after
  start-frames : is_image r ≡ false → (start : Option Entry) (entry : Entry) → gate ≡ length (journal_front head before) → IsHead image limit gate entry
      → IsStart head image limit before start → IsStart head image limit (before ++ r ∷ []) (option_or start (Some entry))
  start-frames frames None entry place at_head is =
      let same : before ≡ before_last_image (before ++ r ∷ []) = is ∙ ap before_last_image (sym is) ∙ sym (before-frames-more r frames before) in
      subst (λ k. IsHead image limit k entry) (place ∙ ap (λ (l : List Record). length (journal_front head l)) same) at_head
  start-frames frames (Some e) entry place at_head is =
      subst (λ (l : List Record). IsHead image limit (length (journal_front head l)) e) (sym (before-frames-more r frames before)) is

  -- and where an image does
  start-image : is_image r ≡ true → (entry : Entry) → gate ≡ length (journal_front head before) → IsHead image limit gate entry → IsStart head image limit (before ++ r ∷ []) (Some entry)
  start-image is entry place at_head =
      subst (λ k. IsHead image limit k entry) (place ∙ ap (λ (l : List Record). length (journal_front head l)) (sym (before-image-more r is before))) at_head

-- one head more is counted
kind_entries : (heads : Heads) (kind : EntryKind) (entry : Entry) → (with_head_of heads kind entry).entries ≡ heads.entries + 1
kind_entries heads Frames entry = refl
kind_entries heads OldImage entry = refl
kind_entries heads Image entry = refl
kind_entries heads Amendment entry = refl

pub entries_more : (heads then : Heads) (entry : Entry) → then ≡ with_head heads entry → then.entries ≡ heads.entries + 1
entries_more heads then entry is = ap (λ (h : Heads). h.entries) is ∙ kind_entries heads entry.kind entry

-- what the heads then tell, by the kind of the one that was met
record TellsMore (head : Header) (limit : ℕ) (image : List ℕ) (before : List Record) (heads : Heads) : Type 0 where
  pub count_is : heads.entries ≡ length before
  pub image_is : heads.image_at ≡ image_gate head before
  pub start : IsStart head image limit before heads.start

module _ (head : Header) (limit : ℕ) (image : List ℕ) (gate : ℕ) (heads : Heads) (at : IsCounting head limit image gate heads) where
  head_behind : (entry : Entry) → IsHead image limit gate entry → IsHead image limit (length (journal_front head at.before)) entry
  head_behind entry at_head = subst (λ k. IsHead image limit k entry) at.gate_is at_head

  tells-image : (entry : Entry) (r : Record) → is_image r ≡ true → IsHead image limit gate entry
      → TellsMore head limit image (at.before ++ r ∷ []) (record { entries = heads.entries + 1; image_at = Some entry.at; start = Some entry })
  tells-image entry r is at_head = record {
    count_is = omega (arith, at.count_is, length-append at.before (r ∷ []));
    image_is = ap Some (at_head.at_is ∙ at.gate_is) ∙ sym (gate-image-more r is head at.before);
    start = start-image head limit image gate at.before r is entry at.gate_is at_head;
  }

  tells-more : (entry : Entry) (r : Record) (kind : EntryKind) → r.kind ≡ kind → IsHead image limit gate entry → TellsMore head limit image (at.before ++ r ∷ []) (with_head_of heads kind entry)
  tells-more entry r Frames is at_head =
      let frames : is_image r ≡ false = ap is_image_kind is in
      record {
        count_is = omega (arith, at.count_is, length-append at.before (r ∷ []));
        image_is = at.image_is ∙ sym (gate-frames-more r frames head at.before);
        start = start-frames head limit image gate at.before r frames heads.start entry at.gate_is at_head at.start;
      }
  tells-more entry r OldImage is at_head = tells-image entry r (ap is_image_kind is) at_head
  tells-more entry r Image is at_head = tells-image entry r (ap is_image_kind is) at_head
  tells-more entry r Amendment is at_head = tells-image entry r (ap is_image_kind is) at_head

  pub counting_more : (entry : Entry) (next : ℕ) (then : Heads) → IsHead image limit gate entry → next ≡ gate + 6 + entry.length → then ≡ with_head heads entry → IsCounting head limit image next then
  counting_more entry next then at_head is then_is =
      let more = begins_more head limit at.before image at.begins entry (head_behind entry at_head) in
      let there = record_there head limit at.before image at.begins entry (head_behind entry at_head) in
      let tells = tells-more entry there entry.kind refl at_head in
      subst (IsCounting head limit image next) (sym then_is) (record {
        before = at.before ++ there ∷ [];
        begins = more;
        gate_is = omega (arith, is, at.gate_is, length-push head at.before there, payload_size head limit at.before image at.begins entry (head_behind entry at_head));
        count_is = tells.count_is;
        image_is = tells.image_is;
        start = tells.start;
      })

  -- what a walk answers where the second pass begins
  start_done : (start : Option Entry) → IsStart head image limit at.before start → get_or image gate 0 ≢ 1 → Walks image limit (length (journal_front head (before_last_image at.before))) (Ok start)
  start_done None is shut =
      let same : at.before ≡ before_last_image at.before = is ∙ ap before_last_image (sym is) in
      subst (λ k. get_or image k 0 ≢ 1) (at.gate_is ∙ ap (λ (l : List Record). length (journal_front head l)) same) shut
  start_done (Some entry) is shut = is

  pub counting_done : get_or image gate 0 ≢ 1 → AreRecords head limit image gate heads
  counting_done shut = record {
    records = at.before;
    journal = record { journal = begins_closed head limit at.before image at.begins (subst (λ k. get_or image k 0 ≢ 1) at.gate_is shut); gate_is = at.gate_is };
    count_is = at.count_is;
    image_is = at.image_is;
    start = start_done heads.start at.start shut;
  }

  pub counting_bad : (place : ℕ) → IsBadHead image limit gate place → HasBadHeadAt head limit image place
  counting_bad place bad = record { before = at.before; begins = at.begins; bad = subst (λ k. IsBadHead image limit k place) at.gate_is bad }

-- ---- what a walk answers at a gate

pub head_found : (image : List ℕ) (limit gate : ℕ) (found : Option Entry) (entry : Entry) → found ≡ Some entry → Walks image limit gate (Ok found) → IsHead image limit gate entry
head_found image limit gate found entry is walks = subst (λ (o : Option Entry). Walks image limit gate (Ok o)) is walks

pub gate_found : (image : List ℕ) (limit gate : ℕ) (found : Option Entry) → found ≡ None → Walks image limit gate (Ok found) → get_or image gate 0 ≢ 1
gate_found image limit gate found is walks = subst (λ (o : Option Entry). Walks image limit gate (Ok o)) is walks

pub bad_found : (image : List ℕ) (limit gate : ℕ) (why : WalkFault) (place : ℕ) → why ≡ walk.Bad place → Walks image limit gate (Err why) → IsBadHead image limit gate place
bad_found image limit gate why place is walks = subst (λ (e : WalkFault). Walks image limit gate (Err e)) is walks

-- what is told of the gate after some records holds at the gate that was come to
pub walks_there : (head : Header) (image : List ℕ) (s x : Standing) (gate : ℕ) (ends : Bool) (heads : Heads) (r : Result (Option Entry) WalkFault) → x ≡ moved s gate ends → StandsIn s image → s.first ≡ 13 + length head.text
    → IsCounting head s.limit image x.gate heads
    → ((before : List Record) → StandsIn x image → x.first ≡ 13 + length head.text → BeginsWithRecords head x.limit before image → x.gate ≡ length (journal_front head before) → Walks image x.limit x.gate r)
    → Walks image x.limit x.gate r
walks_there head image s x gate ends heads r same known first at walks =
    walks at.before (stands_moved s x gate ends image same known) (ap (λ (t : Standing). t.first) same ∙ first)
    (subst (λ (k : ℕ). BeginsWithRecords head k at.before image) (sym (ap (λ (t : Standing). t.limit) same)) at.begins) at.gate_is

-- what a bad head is told as
pub bad_counts : (head : Header) (limit : ℕ) (image : List ℕ) (gate at : ℕ) (why : RecoverFault) → (why ≡ fault.Store) ⊎ (why ≡ fault.Bad at) → HasBadHeadAt head limit image at → Counts head limit image gate (Err why)
bad_counts head limit image gate at why told bad =
    ⊎_elim
    (λ store. subst (λ (e : RecoverFault). Counts head limit image gate (Err e)) (sym store) tt)
    (λ is. subst (λ (e : RecoverFault). Counts head limit image gate (Err e)) (sym is) bad)
    told
