-- Journals without amendments have one text.
use Rattle.std.proofs.Common.{◌≡◌, ℕ, ◌+◌, false, List, [], ◌∷◌, length, Option, None, refl, ap, ◌∙◌}
use Rattle.match_journal.specs.Journal.{Header, Record}
use Rattle.match_journal.specs.Texts.{PlacedAmendment, amendment_as, amendment_behind, text_by, header_text, last_text, last_amendment}
use Rattle.match_journal.specs.declared.entry.EntryKind.{EntryKind}
use Rattle.match_journal.specs.declared.entry.EntryKind.TheVariants.{Frames, OldImage, Image, Amendment}
use Rattle.book_recovery.specs.Histories.{is_amendment, HaveNoAmendment}

plain-amendment : (last : Option PlacedAmendment) (gate : ℕ) (kind : EntryKind) (payload : List ℕ) → is_amendment kind ≡ false → amendment_as last gate kind payload ≡ last
plain-amendment last gate Frames payload none = refl
plain-amendment last gate OldImage payload none = refl
plain-amendment last gate Image payload none = refl
plain-amendment last gate Amendment payload none = absurd (cc none)

plain-amendments : (last : Option PlacedAmendment) (gate : ℕ) (records : List Record) → HaveNoAmendment records → amendment_behind last gate records ≡ last
plain-amendments last gate [] none = refl
plain-amendments last gate (r ∷ records) none =
    plain-amendments (amendment_as last gate r.kind r.payload) (gate + (6 + length r.payload)) records none.1 ∙ plain-amendment last gate r.kind r.payload none.0

pub plain-last : (head : Header) (records : List Record) → HaveNoAmendment records → last_amendment head records ≡ None
plain-last head records none = plain-amendments None (13 + length head.text) records none

pub plain-text : (head : Header) (records : List Record) → HaveNoAmendment records → last_text head records ≡ header_text head
plain-text head records none = ap (text_by head) (plain-last head records none)
