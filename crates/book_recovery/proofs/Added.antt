-- What another process adds to a journal after its opening.
use Rattle.std.proofs.Common.{◌≡◌, ⊎_elim, ℕ, ◌+◌, ◌<◌, ◌≤◌, List, [], ◌∷◌, ◌++◌, length, option_map, Bool, nat_lt, not, true, false, Option, Some, None, Ok, refl, sym, subst, ◌∙◌, ap, ap₂, arith, append_assoc, append-nil, length-append}
use Rattle.std.proofs.lemmas.Bool.Decides.{nat_tests}
use Rattle.std.specs.List.{flat_map}
use Rattle.match_journal.specs.Journal.{Header, Record, IsJournal, has_kind, header, journal_front, open_record}
use Rattle.match_journal.specs.HeaderLaws.{length-header, one_header}
use Rattle.match_journal.specs.BadRecords.{BeginsWithRecords}
use Rattle.match_journal.specs.Opening.{IsTextIn, StandsIn}
use Rattle.match_journal.specs.Standing.{moved}
use Rattle.match_journal.specs.Texts.{PlacedAmendment, amendment_as, amendment_behind, last_amendment}
use Rattle.match_journal.specs.Walking.{IsHead, stands_then}
use Rattle.match_journal.specs.declared.entry.Entry.{Entry}
use Rattle.match_journal.specs.declared.entry.EntryKind.{EntryKind}
use Rattle.match_journal.specs.declared.entry.EntryKind.TheVariants.{Frames, OldImage, Image, Amendment}
use Rattle.match_journal.specs.declared.limits.TheConstants.{MOST_TEXT}
use Rattle.match_journal.specs.declared.standing.Standing.{Standing}
use Rattle.match_journal.specs.declared.version.Version.{Version}
use Rattle.match_journal.specs.declared.version.Version.TheVariants.{First, Second}
use Rattle.book_recovery.specs.Histories.{is_amendment}
use Rattle.match_journal.proofs.Heads.{IsBehind, begins_along, begins_more, begins_opened, journal_begins, no_more_heads, record_there}
use Rattle.match_journal.proofs.Records.{length-record}
use Rattle.match_journal.proofs.Walked.{standing_version}

-- ---- what is tested

pub amends_kind : (kind : EntryKind) → is_amendment kind ≡ true → kind ≡ Amendment
amends_kind Frames is = absurd (cc is)
amends_kind OldImage is = absurd (cc is)
amends_kind Image is = absurd (cc is)
amends_kind Amendment is = refl

tested : (a b : ℕ) → nat_lt a b ≡ true → a < b
tested a b is = grind (arith, nat_tests)

pub not_less : (a b : ℕ) → (a < b → ⊥) → nat_lt a b ≡ false
not_less a b none = either (nat_lt a b) refl
  where
    either : (t : Bool) → nat_lt a b ≡ t → nat_lt a b ≡ false
    either true is = absurd (none (tested a b is))
    either false is = is

-- ---- the last amendment stands at each amendment, or after it

abbrev AtLeast : ℕ → Option PlacedAmendment → Type 0
AtLeast place None = ⊥
AtLeast place (Some a) = place ≤ a.gate

later_as : (place : ℕ) (last : Option PlacedAmendment) (gate : ℕ) (kind : EntryKind) (payload : List ℕ) → AtLeast place last → place ≤ gate → AtLeast place (amendment_as last gate kind payload)
later_as place last gate Frames payload at le = at
later_as place last gate OldImage payload at le = at
later_as place last gate Image payload at le = at
later_as place last gate Amendment payload at le = le

later : (place : ℕ) (last : Option PlacedAmendment) (gate : ℕ) (records : List Record) → AtLeast place last → place ≤ gate → AtLeast place (amendment_behind last gate records)
later place last gate [] at le = at
later place last gate (r ∷ records) at le = later place (amendment_as last gate r.kind r.payload) (gate + (6 + length r.payload)) records (later_as place last gate r.kind r.payload at le) (omega (arith, le))

met_behind : (place : ℕ) (last : Option PlacedAmendment) (gate : ℕ) (before after : List Record) (r : Record) → r.kind ≡ Amendment → place ≡ gate + length (flat_map open_record before)
    → AtLeast place (amendment_behind last gate (before ++ r ∷ after))
met_behind place last gate [] after r amends is =
    later place (amendment_as last gate r.kind r.payload) (gate + (6 + length r.payload)) after
    (subst (λ (k : EntryKind). AtLeast place (amendment_as last gate k r.payload)) (sym amends) (omega (arith, is))) (omega (arith, is))
met_behind place last gate (b ∷ before) after r amends is =
    met_behind place (amendment_as last gate b.kind b.payload) (gate + (6 + length b.payload)) before after r amends
    (omega (arith, is, length-append (open_record b) (flat_map open_record before), length-record b))

module _ (head : Header) (before after : List Record) (r : Record) (amends : r.kind ≡ Amendment) where
  abbrev gate_of : Option PlacedAmendment → Option ℕ
  gate_of last = option_map (λ (a : PlacedAmendment). a.gate) last

  met : AtLeast (length (journal_front head before)) (last_amendment head (before ++ r ∷ after))
  met = met_behind _ None (13 + length head.text) before after r amends (omega (arith, length-header head, length-append (header head) (flat_map open_record before)))

  none_told : (place : ℕ) (last : Option PlacedAmendment) → AtLeast place last → None ≡ gate_of last → ⊥
  none_told place None at told = at
  none_told place (Some a) at told = absurd (cc told)

  some_told : (place gate : ℕ) (last : Option PlacedAmendment) → AtLeast place last → Some gate ≡ gate_of last → gate < place → ⊥
  some_told place gate None at told less = at
  some_told place gate (Some a) at told less = let same : gate ≡ a.gate = cc told in absurd (omega (arith, at, same, less))

  -- so a journal with this amendment has a last one
  pub not_none : None ≡ gate_of (last_amendment head (before ++ r ∷ after)) → ⊥
  not_none told = none_told _ _ met told

  -- and that is not before it
  pub not_before : (gate : ℕ) → Some gate ≡ gate_of (last_amendment head (before ++ r ∷ after)) → gate < length (journal_front head before) → ⊥
  not_before gate told less = some_told _ gate _ met told less

-- ---- an amendment in an image that the journal was opened in

-- it is one of the journal's records
pub record IsOneOf (head : Header) (limit : ℕ) (image : List ℕ) (before : List Record) (entry : Entry) : Type 0 where
  pub found : Record
  pub after : List Record
  pub kind : found.kind ≡ entry.kind
  pub journal : IsJournal head limit (before ++ found ∷ after) image

module _ (head : Header) (limit : ℕ) (image : List ℕ) (before records : List Record) (entry : Entry) (begins : BeginsWithRecords head limit before image) (at_head : IsHead image limit (length (journal_front head before)) entry) (journal : IsJournal head limit records image) where
  abbrev there : Record
  there = record_there head limit before image begins entry at_head

  as_front : IsBehind (before ++ there ∷ []) records → IsOneOf head limit image before entry
  as_front (more, is) = record {
    found = there;
    after = more;
    kind = refl;
    journal = subst (λ (l : List Record). IsJournal head limit l image) (is ∙ append_assoc before (there ∷ []) more) journal;
  }

  as_all : IsBehind records (before ++ there ∷ []) → IsOneOf head limit image before entry
  as_all ([], is) = as_front ([], sym (append-nil (before ++ there ∷ []) ∙ is ∙ append-nil records))
  as_all (p ∷ more, is) =
      let few = no_more_heads head limit records (before ++ there ∷ []) image journal (begins_more head limit before image begins entry at_head) in
      absurd (omega (arith, few, ap length is, length-append records (p ∷ more)))

  one_of : IsOneOf head limit image before entry
  one_of = ⊎_elim as_front as_all (begins_along head limit (before ++ there ∷ []) records image (begins_more head limit before image begins entry at_head) (journal_begins head limit records image journal))

-- A journal of the first version has no amendment, and in one of the second no head is bad.
pub opened_amendment : (s : Standing) (head : Header) (image : List ℕ) (before : List Record) (entry : Entry) (v : Version) → s.version ≡ v → StandsIn s image → length head.text ≤ MOST_TEXT
    → BeginsWithRecords head s.limit before image → IsHead image s.limit (length (journal_front head before)) entry → entry.kind ≡ Amendment → IsOneOf head s.limit image before entry
opened_amendment s head image before entry First is known short begins at_head amends =
    absurd (cc (sym (ap₂ (λ (v : Version) (k : EntryKind). has_kind v k) (standing_version s image known ∙ is) amends) ∙ at_head.known))
opened_amendment s head image before entry Second is known short begins at_head amends =
    let front = begins_opened head s.limit before image short begins in
    let same = one_header image head known.head front.1 known.opened.header in
    let text = subst (λ (v : Version). IsTextIn v known.head s.limit image known.text) (sym known.version ∙ is) known.opened.stands in
    one_of head s.limit image before text.0 entry begins at_head (subst (λ (h : Header). IsJournal h s.limit text.0 image) (sym same) text.1)

-- ---- a walk that was ended

pub stopped : (s x y : Standing) (gate next : ℕ) (ends : Bool) → x ≡ moved s next ends → y ≡ moved x gate (not x.is_lost) → gate ≡ s.gate → y ≡ stands_then s (Ok None)
stopped s x y gate next ends step stop place =
    stop ∙ ap (λ (t : Standing). moved t gate (not t.is_lost)) step ∙ ap (λ (k : ℕ). moved s k (not s.is_lost)) place
