-- Records that are no amendments leave the last text of a journal as it is.
use Rattle.std.proofs.Common.{◌≡◌, ℕ, ◌+◌, false, List, [], ◌∷◌, ◌++◌, length, Option, Some, None, refl, sym, subst, ap, ◌∙◌}
use Rattle.match_journal.specs.Journal.{Header, Record}
use Rattle.match_journal.specs.Texts.{PlacedAmendment, HasTextIn, HasLastText, amendment_as, amendment_behind, last_amendment, text_by, last_text}
use Rattle.match_journal.specs.declared.entry.EntryKind.{EntryKind}
use Rattle.match_journal.specs.declared.entry.EntryKind.TheVariants.{Frames, OldImage, Image, Amendment}
use Rattle.match_journal.specs.declared.version.Version.{Version}
use Rattle.match_journal.specs.Journal.{in_version}
use Rattle.book_recovery.specs.Records.{AreWhole}
use Rattle.book_recovery.specs.Histories.{is_amendment, HaveNoAmendment}

-- ---- records that are no amendments

whole-kind : (kind : EntryKind) → kind ≡ Frames → is_amendment kind ≡ false
whole-kind kind is = ap is_amendment is

-- frames are none
pub whole-plain : (records : List Record) → AreWhole records → HaveNoAmendment records
whole-plain [] whole = tt
whole-plain (r ∷ records) whole = (whole-kind r.kind whole.0.frames, whole-plain records whole.1)

-- ---- the last amendment

plain-one : (last : Option PlacedAmendment) (gate : ℕ) (kind : EntryKind) (payload : List ℕ) → is_amendment kind ≡ false → amendment_as last gate kind payload ≡ last
plain-one last gate Frames payload none = refl
plain-one last gate OldImage payload none = refl
plain-one last gate Image payload none = refl
plain-one last gate Amendment payload none = absurd (cc none)

plain-last : (last : Option PlacedAmendment) (gate : ℕ) (added : List Record) → HaveNoAmendment added → amendment_behind last gate added ≡ last
plain-last last gate [] none = refl
plain-last last gate (r ∷ added) none =
    plain-last (amendment_as last gate r.kind r.payload) (gate + (6 + length r.payload)) added none.1 ∙ plain-one last gate r.kind r.payload none.0

amendment-append : (last : Option PlacedAmendment) (gate : ℕ) (records added : List Record) → HaveNoAmendment added → amendment_behind last gate (records ++ added) ≡ amendment_behind last gate records
amendment-append last gate [] added none = plain-last last gate added none
amendment-append last gate (r ∷ records) added none = amendment-append (amendment_as last gate r.kind r.payload) (gate + (6 + length r.payload)) records added none

-- ---- the last text

-- further records that are no amendments leave it
pub last-more : (head : Header) (text : List ℕ) (records added : List Record) → HaveNoAmendment added → HasLastText head records text → HasLastText head (records ++ added) text
last-more head text records added none last =
    let same : last_amendment head (records ++ added) ≡ last_amendment head records = amendment-append None (13 + length head.text) records added none in
    record {
      is = ap (λ (a : Option PlacedAmendment). (text_by head a).bytes) same ∙ last.is;
      inside = subst HasTextIn (sym same) last.inside;
    }

-- it is the header's where there is no record
pub first-last : (head : Header) → HasLastText head [] head.text
first-last head = record { is = refl; inside = tt }

pub last-of-none : (head : Header) (text : List ℕ) (records : List Record) → records ≡ [] → HasLastText head records text → head.text ≡ text
last-of-none head text records none last = sym (ap (λ (l : List Record). (last_text head l).bytes) none) ∙ last.is

-- ---- the version

text-of : (version : Version) (head : Header) (last : Option PlacedAmendment) → (text_by (in_version version head.text) last).bytes ≡ (text_by head last).bytes
text-of version head None = refl
text-of version head (Some placed) = refl

-- it is the same under either version
pub last-in : (version : Version) (head : Header) (text : List ℕ) (records : List Record) → HasLastText head records text → HasLastText (in_version version head.text) records text
last-in version head text records last = record { is = text-of version head (last_amendment head records) ∙ last.is; inside = last.inside }
