-- The bytes of a journal at a gate.
use Rattle.std.proofs.Common.{◌≡◌, ◌≢◌, ℕ, ◌+◌, ◌<◌, ◌≤◌, ◌^◌, List, [], ◌∷◌, ◌++◌, length, get_or, take, drop, true, Option, Some, None, Result, Ok, Err, refl, sym, subst, ◌∙◌, ap, arith, append_assoc, length-append}
use Rattle.std.specs.Int.{w32, to_be_bytes, from_be_bytes}
use Rattle.std.specs.List.{flat_map, AllByRecursion}
use Rattle.std.proofs.lemmas.List.{take_at, drop_at, drop-drop, get_or-drop}
use Rattle.std.proofs.lemmas.Nat.{from_be_bytes-to_be_bytes_4}
use Rattle.std.proofs.lemmas.Grind.{flat_map-append}
use Rattle.match_journal.specs.Journal.{Header, IsJournal, IsRecord, Record, has_kind, kind_byte, version_of, journal_front, header, open_record, most_payload}
use Rattle.match_journal.specs.HeaderLaws.{header_version, journal_version}
use Rattle.match_journal.specs.Opening.{StandsIn}
use Rattle.match_journal.specs.Walking.{IsHead, IsBadHead, IsNext, Walks, InOrder, stands_then}
use Rattle.match_journal.specs.declared.entry.Entry.{Entry}
use Rattle.match_journal.specs.declared.version.Version.{Version}
use Rattle.match_journal.specs.declared.standing.Standing.{Standing}
use Rattle.match_journal.specs.declared.faults.WalkFault.{WalkFault}
use Rattle.match_journal.specs.declared.faults.WalkFault.TheVariants as fault
use Rattle.match_journal.specs.declared.entry.EntryKind.{EntryKind}
use Rattle.match_journal.specs.declared.entry.EntryKind.TheVariants as kind
use Rattle.match_journal.proofs.Records.{journal_front-push, length-record}

-- the journal from a gate on
abbrev from_gate : (after : List Record) (gate : ℕ) (behind : List ℕ) → List ℕ
from_gate after gate behind = flat_map open_record after ++ gate ∷ behind

pub front-split : (head : Header) (before after : List Record) → journal_front head (before ++ after) ≡ journal_front head before ++ flat_map open_record after
front-split head before after =
    ap (λ (l : List ℕ). 1 ∷ (header head ++ l)) (flat_map-append open_record before after) ∙ sym (append_assoc (1 ∷ header head) (flat_map open_record before) (flat_map open_record after))

pub all-behind : (P : Record → Type 0) (xs ys : List Record) → AllByRecursion P (xs ++ ys) → AllByRecursion P ys
all-behind P [] ys all = all
all-behind P (x ∷ xs) ys all = all-behind P xs ys all.1

-- two sizes with the same bytes
pub one_size : (a b : ℕ) → a < 2 ^ 32 → b < 2 ^ 32 → to_be_bytes w32 a ≡ to_be_bytes w32 b → a ≡ b
one_size a b small_a small_b same = sym (from_be_bytes-to_be_bytes_4 a small_a) ∙ ap (from_be_bytes w32) same ∙ from_be_bytes-to_be_bytes_4 b small_b

module _ (head : Header) (image : List ℕ) (limit : ℕ) (before after : List Record) (journal : IsJournal head limit (before ++ after) image) (gate : ℕ) (place : gate ≡ length (journal_front head before)) where
  split : image ≡ journal_front head before ++ from_gate after journal.gate journal.behind
  split =
      journal.is
      ∙ ap (λ (l : List ℕ). l ++ journal.gate ∷ journal.behind) (front-split head before after)
      ∙ append_assoc (journal_front head before) (flat_map open_record after) (journal.gate ∷ journal.behind)

  pub at_gate : drop gate image ≡ from_gate after journal.gate journal.behind
  at_gate = ap (drop gate) split ∙ drop_at (journal_front head before) (from_gate after journal.gate journal.behind) gate (sym place)

  pub gate_byte : get_or image gate 0 ≡ get_or (from_gate after journal.gate journal.behind) 0 0
  gate_byte = ap (λ k. get_or image k 0) (omega arith) ∙ sym (get_or-drop gate image 0 0) ∙ ap (λ (l : List ℕ). get_or l 0 0) at_gate

  pub long : length image ≡ gate + length (from_gate after journal.gate journal.behind)
  long = omega (arith, ap length split, length-append (journal_front head before) (from_gate after journal.gate journal.behind), place)

-- the gate is closed: nothing is left
pub none_left : (head : Header) (image : List ℕ) (limit : ℕ) (before after : List Record) (journal : IsJournal head limit (before ++ after) image) (gate : ℕ) → gate ≡ length (journal_front head before) → get_or image gate 0 ≢ 1 → after ≡ []
none_left head image limit before [] journal gate place shut = refl
none_left head image limit before (r ∷ more) journal gate place shut = absurd (shut (gate_byte head image limit before (r ∷ more) journal gate place))

-- no payload has 2^32 bytes
pub below : (k : EntryKind) (n : ℕ) → n ≤ most_payload k → n < 2 ^ 32
below kind.Frames n few = omega (arith, few)
below kind.OldImage n few = omega (arith, few)
below kind.Image n few = omega (arith, few)
below kind.Amendment n few = omega (arith, few)

-- two kinds with the same byte
pub one_kind : (a b : EntryKind) → kind_byte a ≡ kind_byte b → a ≡ b
one_kind kind.Frames kind.Frames same = refl
one_kind kind.OldImage kind.OldImage same = refl
one_kind kind.Image kind.Image same = refl
one_kind kind.Amendment kind.Amendment same = refl
one_kind kind.Frames kind.OldImage same = absurd (omega (arith, same))
one_kind kind.Frames kind.Image same = absurd (omega (arith, same))
one_kind kind.OldImage kind.Frames same = absurd (omega (arith, same))
one_kind kind.OldImage kind.Image same = absurd (omega (arith, same))
one_kind kind.Image kind.Frames same = absurd (omega (arith, same))
one_kind kind.Image kind.OldImage same = absurd (omega (arith, same))
one_kind kind.Frames kind.Amendment same = absurd (omega (arith, same))
one_kind kind.OldImage kind.Amendment same = absurd (omega (arith, same))
one_kind kind.Image kind.Amendment same = absurd (omega (arith, same))
one_kind kind.Amendment kind.Frames same = absurd (omega (arith, same))
one_kind kind.Amendment kind.OldImage same = absurd (omega (arith, same))
one_kind kind.Amendment kind.Image same = absurd (omega (arith, same))

module _ (head : Header) (image : List ℕ) (limit : ℕ) (before : List Record) (r : Record) (more : List Record) (journal : IsJournal head limit (before ++ r ∷ more) image) (gate : ℕ) (place : gate ≡ length (journal_front head before)) where
  right : IsRecord head.version r
  right = (all-behind (IsRecord head.version) before (r ∷ more) journal.sized).0

  has_its_kind : has_kind (version_of image) r.kind ≡ true
  has_its_kind = ap (λ (v : Version). has_kind v r.kind) (journal_version head limit (before ++ r ∷ more) image journal) ∙ right.known

  head_bytes : take 6 (drop gate image) ≡ 1 ∷ kind_byte r.kind ∷ to_be_bytes w32 (length r.payload)
  head_bytes = ap (take 6) (at_gate head image limit before (r ∷ more) journal gate place)

  inside : gate + 7 + length r.payload ≤ length image
  inside = omega (arith, long head image limit before (r ∷ more) journal gate place, length-append (open_record r ++ flat_map open_record more) (journal.gate ∷ journal.behind), length-append (open_record r) (flat_map open_record more), length-record r)

  in_limit : gate + 7 + length r.payload ≤ limit
  in_limit = omega (arith, journal.in_limit, ap length (front-split head before (r ∷ more)), length-append (journal_front head before) (flat_map open_record (r ∷ more)), length-append (open_record r) (flat_map open_record more), length-record r, place)

  abbrev pub entry : Entry
  entry = record { at = gate; kind = r.kind; length = length r.payload }

  -- the record has a good head
  pub good_head : IsHead image limit gate entry
  good_head = record { at_is = refl; known = has_its_kind; stands = head_bytes; fits = record { some = right.some; few = right.few; inside = inside; in_limit = in_limit } }

  stands_behind : take (length r.payload) (drop (gate + 6) image) ≡ r.payload
  stands_behind =
      ap (take (length r.payload))
      (sym (drop-drop 6 gate image) ∙ ap (drop 6) (at_gate head image limit before (r ∷ more) journal gate place) ∙ append_assoc r.payload (flat_map open_record more) (journal.gate ∷ journal.behind))
      ∙ take_at r.payload (flat_map open_record more ++ journal.gate ∷ journal.behind) (length r.payload) refl

  pub next_of : (found : Entry) (next : ℕ) → IsHead image limit gate found → next ≡ gate + 6 + found.length → IsNext head image before (r ∷ more) next found
  next_of found next here is =
      let same = sym here.stands ∙ head_bytes in
      let count : found.length ≡ length r.payload = one_size found.length (length r.payload) (below found.kind found.length here.fits.few) (below r.kind (length r.payload) right.few) (ap (drop 2) same) in
      record {
        found = r;
        more = more;
        is = refl;
        kind = one_kind found.kind r.kind (ap (λ (l : List ℕ). get_or l 1 0) same);
        count = count;
        stands = ap (λ k. take (length r.payload) (drop (k + 6) image)) here.at_is ∙ stands_behind;
        at_is = here.at_is ∙ place;
        gate_is = omega (arith, is, count, place, ap length (journal_front-push head before r), length-append (journal_front head before) (open_record r), length-record r);
      }

-- at an open gate stands the next of the records that are left
pub record_left : (head : Header) (image : List ℕ) (limit : ℕ) (before after : List Record) (journal : IsJournal head limit (before ++ after) image) (gate next : ℕ) (found : Entry) → gate ≡ length (journal_front head before) → IsHead image limit gate found → next ≡ gate + 6 + found.length
    → IsNext head image before after next found
record_left head image limit before [] journal gate next found place here is =
    let same : take 6 (journal.gate ∷ journal.behind) ≡ 1 ∷ drop 1 (take 6 (drop gate image)) = ap (take 6) (sym (at_gate head image limit before [] journal gate place)) ∙ here.stands ∙ ap (λ (l : List ℕ). 1 ∷ drop 1 l) (sym here.stands) in
    absurd (journal.closed (ap (λ (l : List ℕ). get_or l 0 0) same))
record_left head image limit before (r ∷ more) journal gate next found place here is = next_of head image limit before r more journal gate place found next here is

-- no record of the journal is bad
pub none_bad : (head : Header) (image : List ℕ) (limit : ℕ) (before after : List Record) (journal : IsJournal head limit (before ++ after) image) (gate at : ℕ) → gate ≡ length (journal_front head before) → IsBadHead image limit gate at → ⊥
none_bad head image limit before [] journal gate at place bad = journal.closed (sym (gate_byte head image limit before [] journal gate place) ∙ bad.opened)
none_bad head image limit before (r ∷ more) journal gate at place bad = bad.no_head _ (good_head head image limit before r more journal gate place)

-- ---- what a walk answers, by the fields of the journal and by what contracts see of it

-- an image in which a journal stands tells the journal's version
pub standing_version : (s : Standing) (image : List ℕ) → StandsIn s image → version_of image ≡ s.version
standing_version s image stands = header_version stands.head image stands.opened.header ∙ sym stands.version

module _ (image : List ℕ) (inner seen : Standing) (same : inner ≡ seen) (stands : StandsIn seen image) where
  abbrev Answered : Result (Option Entry) WalkFault → Type 0
  Answered r = length image ≡ inner.known → version_of image ≡ inner.version → Walks image inner.limit inner.gate r

  pub walked : (r : Result (Option Entry) WalkFault) → Answered r → Walks image seen.limit seen.gate r
  walked r walks = subst (λ (s : Standing). Walks image s.limit s.gate r) same
      (walks (stands.known ∙ ap (λ (s : Standing). s.known) (sym same)) (standing_version seen image stands ∙ ap (λ (s : Standing). s.version) (sym same)))

-- the answer at the gate after some records, and where the journal then stands
module _ (head : Header) (image : List ℕ) (before after : List Record) (seen : Standing) (journal : IsJournal head seen.limit (before ++ after) image) (place : seen.gate ≡ length (journal_front head before)) where
  in-order : (r : Result (Option Entry) WalkFault) → Walks image seen.limit seen.gate r → InOrder head image before after (stands_then seen r).gate r
  in-order (Ok None) walks = none_left head image seen.limit before after journal seen.gate place walks
  in-order (Ok (Some found)) walks = record_left head image seen.limit before after journal seen.gate _ found place walks refl
  in-order (Err fault.Store) walks = tt
  in-order (Err (fault.Bad at)) walks = none_bad head image seen.limit before after journal seen.gate at place walks

  pub went_on : (found r : Result (Option Entry) WalkFault) (new : Standing) → r ≡ found → new ≡ stands_then seen found → Walks image seen.limit seen.gate found → InOrder head image before after new.gate r
  went_on found r new same moves walks = rw (same, moves) (in-order found walks)
