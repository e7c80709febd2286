-- Where the last amendment of a journal is, by the place of its text.
use Rattle.std.proofs.Common.{◌≡◌, ℕ, ◌+◌, ◌-◌, ◌≤◌, List, [], ◌∷◌, ◌++◌, length, drop, option_map, Option, Some, None, refl, sym, subst, ◌∙◌, ap, arith, append_assoc}
use Rattle.std.specs.List.{flat_map}
use Rattle.std.proofs.lemmas.List.{take-append-drop}
use Rattle.match_journal.specs.Journal.{Header, IsJournal, Record, header, open_record}
use Rattle.match_journal.specs.Classes.{HasHeader, HasOpenGate}
use Rattle.match_journal.specs.Texts.{PlacedAmendment, PlacedText, amendment_as, amendment_behind, last_amendment, text_by}
use Rattle.match_journal.specs.Opening.{IsOpened, StandsIn}
use Rattle.match_journal.specs.declared.standing.Standing.{Standing}
use Rattle.match_journal.specs.declared.entry.EntryKind.{EntryKind}
use Rattle.match_journal.specs.declared.entry.EntryKind.TheVariants.{Frames, OldImage, Image, Amendment}
use Rattle.match_journal.specs.declared.limits.TheConstants.{MOST_LIMIT}
use Rattle.match_journal.proofs.Unique.{one_front, text_below}
use Rattle.match_journal.proofs.LastTexts.{one_last_text}

-- ---- no amendment stands in front of the header's end

abbrev IsBehindHeader : Option PlacedAmendment → Type 0
IsBehindHeader None = Unit {0}
IsBehindHeader (Some last) = 13 ≤ last.gate

as_behind : (last : Option PlacedAmendment) (gate : ℕ) (k : EntryKind) (payload : List ℕ) → 13 ≤ gate → IsBehindHeader last → IsBehindHeader (amendment_as last gate k payload)
as_behind last gate Frames payload le before = before
as_behind last gate OldImage payload le before = before
as_behind last gate Image payload le before = before
as_behind last gate Amendment payload le before = le

all_behind : (last : Option PlacedAmendment) (gate : ℕ) (records : List Record) → 13 ≤ gate → IsBehindHeader last → IsBehindHeader (amendment_behind last gate records)
all_behind last gate [] le before = before
all_behind last gate (r ∷ records) le before =
    all_behind (amendment_as last gate r.kind r.payload) (gate + (6 + length r.payload)) records (omega (arith, le)) (as_behind last gate r.kind r.payload le before)

-- ---- the gate by the place of the text

abbrev gate_of : Option PlacedAmendment → Option ℕ
gate_of last = option_map (λ (a : PlacedAmendment). a.gate) last

by_header : (head : Header) (last : Option PlacedAmendment) (at : ℕ) → at ≡ (text_by head last).at → IsBehindHeader last → at ≡ 13 → None ≡ gate_of last
by_header head None at is behind first = refl
by_header head (Some a) at is behind first = absurd (omega (arith, is, behind, first))

by_amendment : (head : Header) (last : Option PlacedAmendment) (at : ℕ) → at ≡ (text_by head last).at → IsBehindHeader last → (at ≡ 13 → ⊥) → Some (at - 10) ≡ gate_of last
by_amendment head None at is behind other = absurd (other is)
by_amendment head (Some a) at is behind other = ap Some (omega (arith, is))

-- ---- one header

header_split : (head : Header) (image : List ℕ) → HasOpenGate image → HasHeader head image → image ≡ 1 ∷ (header head ++ drop (12 + length head.text) (drop 1 image))
header_split head [] gate has = absurd (omega (arith, has.inside))
header_split head (x ∷ xs) gate has =
    ap (λ b. b ∷ xs) gate.opened
    ∙ ap (λ (l : List ℕ). 1 ∷ l) (sym (take-append-drop (12 + length head.text) xs) ∙ ap (λ (l : List ℕ). l ++ drop (12 + length head.text) xs) has.stands)

-- a journal has the header by which its image is opened
pub header_of_journal : (a b : Header) (limit : ℕ) (image : List ℕ) (records : List Record) → limit ≤ MOST_LIMIT → IsJournal a limit records image → HasOpenGate image → HasHeader b image → a ≡ b
header_of_journal a b limit image records most journal gate has =
    one_front a b image _ _ (text_below a limit image records most journal) (omega (arith, has.few))
    (journal.is ∙ append_assoc (1 ∷ header a) (flat_map open_record records) (journal.gate ∷ journal.behind))
    (header_split b image gate has)

-- ---- of a journal that stands in an image

module _ (s : Standing) (image : List ℕ) (head : Header) (records : List Record) (most : s.limit ≤ MOST_LIMIT) (stands : StandsIn s image) (journal : IsJournal head s.limit records image) where
  same : head ≡ stands.head
  same = header_of_journal head stands.head s.limit image records most journal stands.opened.gate stands.opened.header

  text_at : s.text_at ≡ (text_by head (last_amendment head records)).at
  text_at =
      stands.text_at
      ∙ ap (λ (t : PlacedText). t.at)
      (sym (one_last_text head image s.limit records stands.text (subst (λ (h : Header). IsOpened h s.limit stands.text image) (sym same) stands.opened) journal).0)

  behind : IsBehindHeader (last_amendment head records)
  behind = all_behind None (13 + length head.text) records (omega arith) tt

  pub none_amended : s.text_at ≡ 13 → None ≡ gate_of (last_amendment head records)
  none_amended first = by_header head (last_amendment head records) s.text_at text_at behind first

  pub last_amended : (s.text_at ≡ 13 → ⊥) → Some (s.text_at - 10) ≡ gate_of (last_amendment head records)
  last_amended other = by_amendment head (last_amendment head records) s.text_at text_at behind other
