-- Where the last amendment of a journal stands among its records.
use Rattle.std.proofs.Common.{◌≡◌, ◌⊎◌, inl, inr, ⊎_elim, ℕ, ◌+◌, false, List, [], ◌∷◌, ◌++◌, length, option_map, Option, Some, None, refl, sym, subst, ◌∙◌, ap, arith, length-append}
use Rattle.std.specs.List.{flat_map}
use Rattle.match_journal.specs.Journal.{Header, Record, journal_front, header, open_record}
use Rattle.match_journal.specs.HeaderLaws.{length-header}
use Rattle.match_journal.specs.Texts.{PlacedAmendment, HasText, HasTextIn, amended_text, amendment_as, amendment_behind, last_amendment, last_text, text_by}
use Rattle.match_journal.specs.declared.entry.EntryKind.{EntryKind}
use Rattle.match_journal.specs.declared.entry.EntryKind.TheVariants.{Frames, OldImage, Image, Amendment}
use Rattle.match_journal.proofs.Records.{length-record}
use Rattle.book_recovery.specs.Histories.{is_amendment, HaveNoAmendment}
use Rattle.book_recovery.specs.Inner.Keeping.{IsSplit}

-- the last amendment of records from a gate on, and the records around it
pub record IsLast (gate : ℕ) (records : List Record) (placed : PlacedAmendment) : Type 0 where
  pub front : List Record
  pub last : Record
  pub more : List Record
  pub are : records ≡ front ++ last ∷ more
  pub amends : last.kind ≡ Amendment
  pub payload : placed.payload ≡ last.payload
  pub none : HaveNoAmendment more
  pub gate_is : placed.gate ≡ gate + length (flat_map open_record front)

-- there is no amendment, and it is the one from before
pub record IsBefore (last : Option PlacedAmendment) (gate : ℕ) (records : List Record) : Type 0 where
  pub none : HaveNoAmendment records
  pub same : amendment_behind last gate records ≡ last

pub record IsAmong (last : Option PlacedAmendment) (gate : ℕ) (records : List Record) : Type 0 where
  pub placed : PlacedAmendment
  pub is : amendment_behind last gate records ≡ Some placed
  pub split : IsLast gate records placed

plain-as : (last : Option PlacedAmendment) (gate : ℕ) (kind : EntryKind) (payload : List ℕ) → is_amendment kind ≡ false → amendment_as last gate kind payload ≡ last
plain-as last gate Frames payload none = refl
plain-as last gate OldImage payload none = refl
plain-as last gate Image payload none = refl
plain-as last gate Amendment payload none = absurd (cc none)

either-kind : (kind : EntryKind) → (is_amendment kind ≡ false) ⊎ (kind ≡ Amendment)
either-kind Frames = inl refl
either-kind OldImage = inl refl
either-kind Image = inl refl
either-kind Amendment = inr refl

among-more : (last : Option PlacedAmendment) (gate : ℕ) (r : Record) (records : List Record) → IsAmong (amendment_as last gate r.kind r.payload) (gate + (6 + length r.payload)) records → IsAmong last gate (r ∷ records)
among-more last gate r records among =
    let split = among.split in
    record {
      placed = among.placed;
      is = among.is;
      split = record {
        front = r ∷ split.front;
        last = split.last;
        more = split.more;
        are = ap (λ (l : List Record). r ∷ l) split.are;
        amends = split.amends;
        payload = split.payload;
        none = split.none;
        gate_is = omega (arith, split.gate_is, length-append (open_record r) (flat_map open_record split.front), length-record r);
      };
    }

before-more : (last : Option PlacedAmendment) (gate : ℕ) (r : Record) (records : List Record) → IsBefore (amendment_as last gate r.kind r.payload) (gate + (6 + length r.payload)) records
    → IsBefore last gate (r ∷ records) ⊎ IsAmong last gate (r ∷ records)
before-more last gate r records before =
    ⊎_elim
    (λ plain. inl (record { none = (plain, before.none); same = before.same ∙ plain-as last gate r.kind r.payload plain }))
    (λ amends. inr (record {
      placed = record { gate = gate; payload = r.payload };
      is = before.same ∙ ap (λ (k : EntryKind). amendment_as last gate k r.payload) amends;
      split = record { front = []; last = r; more = records; are = refl; amends = amends; payload = refl; none = before.none; gate_is = omega arith };
    }))
    (either-kind r.kind)

find-last : (last : Option PlacedAmendment) (gate : ℕ) (records : List Record) → IsBefore last gate records ⊎ IsAmong last gate records
find-last last gate [] = inl (record { none = tt; same = refl })
find-last last gate (r ∷ records) =
    ⊎_elim
    (λ before. before-more last gate r records before)
    (λ among. inr (among-more last gate r records among))
    (find-last (amendment_as last gate r.kind r.payload) (gate + (6 + length r.payload)) records)

-- ---- of a journal

module _ (head : Header) (records : List Record) where
  abbrev gate_of : Option PlacedAmendment → Option ℕ
  gate_of last = option_map (λ (a : PlacedAmendment). a.gate) last

  -- a journal whose last amendment has no gate has none
  pub none-amended : None ≡ gate_of (last_amendment head records) → HaveNoAmendment records
  none-amended none =
      ⊎_elim
      (λ before. before.none)
      (λ among. absurd (cc (none ∙ ap gate_of among.is)))
      (find-last None (13 + length head.text) records)

  front-size : (front : List Record) → length (journal_front head front) ≡ 13 + length head.text + length (flat_map open_record front)
  front-size front = omega (arith, length-header head, length-append (header head) (flat_map open_record front))

  -- its last text is that of the last amendment, and ends in its payload
  pub record IsTextSplit (at : ℕ) : Type 0 where
    pub split : IsSplit head records at
    pub text : (last_text head records).bytes ≡ amended_text split.last.payload
    pub inside : HasTextIn (last_amendment head records) → HasText split.last.payload

  of-placed : (at : ℕ) → Some at ≡ gate_of (last_amendment head records) → IsAmong None (13 + length head.text) records → IsTextSplit at
  of-placed at told among =
      let split = among.split in
      let gate : at ≡ among.placed.gate = cc (told ∙ ap gate_of among.is) in
      record {
        split = record {
          front = split.front;
          last = split.last;
          more = split.more;
          are = split.are;
          amends = split.amends;
          none = split.none;
          gate_is = omega (arith, gate, split.gate_is, front-size split.front);
        };
        text = ap (λ (l : Option PlacedAmendment). (text_by head l).bytes) among.is ∙ ap amended_text split.payload;
        inside = λ whole. subst HasText split.payload (subst HasTextIn among.is whole);
      }

  pub split-last : (at : ℕ) → Some at ≡ gate_of (last_amendment head records) → IsTextSplit at
  split-last at told =
      ⊎_elim
      (λ before. absurd (cc (told ∙ ap gate_of before.same)))
      (λ among. of-placed at told among)
      (find-last None (13 + length head.text) records)

  -- a journal without amendments has the header's text
  pub first-text : None ≡ gate_of (last_amendment head records) → (last_text head records).bytes ≡ head.text
  first-text none =
      ⊎_elim
      (λ before. ap (λ (l : Option PlacedAmendment). (text_by head l).bytes) before.same)
      (λ among. absurd (cc (none ∙ ap gate_of among.is)))
      (find-last None (13 + length head.text) records)

-- an amendment is one
pub amended-any : (records front : List Record) (last : Record) (more : List Record) → records ≡ front ++ last ∷ more → last.kind ≡ Amendment → HaveNoAmendment records → ⊥
amended-any records front last more are amends none = within front (subst HaveNoAmendment are none)
  where
    within : (front : List Record) → HaveNoAmendment (front ++ last ∷ more) → ⊥
    within [] all = cc (sym all.0 ∙ ap is_amendment amends)
    within (r ∷ front) all = within front all.1
