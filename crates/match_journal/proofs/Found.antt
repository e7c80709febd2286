-- What was found in an image: where its text stands, and whether that is the text that was handed in.
use Rattle.std.proofs.Common.{◌≡◌, ◌≢◌, ◌⊎◌, inl, inr, ⊎_elim, ℕ, ◌+◌, ◌<◌, ◌≤◌, max, List, [], ◌++◌, ◌∷◌, length, get_or, take, drop, true, false, Option, Some, None, IfSome, Result, Ok, Err, refl, sym, ◌∙◌, ap, ap₂, subst, arith, append_assoc, length-append, length-drop}
use Rattle.std.specs.Int.{w32, to_be_bytes}
use Rattle.std.specs.List.{flat_map}
use Rattle.std.proofs.Math.Seq.{take-add}
use Rattle.std.proofs.lemmas.List.{take-take, drop-drop, length-take-le, get_or-take, get_or-drop, length-take}
use Rattle.match_journal.specs.Journal.{Header, Record, IsJournal, magic, header, in_version, open_record}
use Rattle.match_journal.specs.Texts.{PlacedText, HasLastText, header_text}
use Rattle.match_journal.specs.HeaderLaws.{same_head, one_header, length-magic, length-header, take-magic, drop-magic, header_front, front_version, journal_version}
use Rattle.match_journal.specs.Classes.{HasHeader, HasOpenGate, IsOfSecondVersion, IsBlank, IsSealed, IsSealedOf, IsForeignAt, IsUnfinished, Keeps, first_difference}
use Rattle.match_journal.specs.Opening.{IsOpened, IsOpenedOf, IsTextIn, IsStartFault, IsLookFault, Looks, LooksAny, StandsIn, opened_at}
use Rattle.match_journal.specs.Standing.{at_first}
use Rattle.match_journal.specs.declared.standing.Standing.{Standing}
use Rattle.match_journal.specs.declared.text.TextPlace.{TextPlace}
use Rattle.match_journal.specs.declared.look.Found.{Found}
use Rattle.match_journal.specs.declared.limits.TheConstants.{MOST_LIMIT, MOST_TEXT}
use Rattle.match_journal.specs.Inner.Fronts.{IsOfClass, IsSealedAs, IsOpenedAs, IsPlaceOf, IsFound, IsMade, journal_as, journal_then, IsJournalOf, HasTextOf, HasSizeOf, LastTextAnswers, PlaceAnswers, is_open, is_sealed, version_or, HasSize, IsFront, IsFrontFault, has_closed_end, TextAnswers, SameAnswers, HoldAnswers}
use Rattle.match_journal.specs.declared.version.Version.{Version}
use Rattle.match_journal.specs.declared.version.Version.TheVariants.{First, Second}
use Rattle.match_journal.specs.declared.class.Class.{Class}
use Rattle.match_journal.specs.declared.class.Class.TheVariants as class
use Rattle.match_journal.specs.declared.faults.StartFault.{StartFault}
use Rattle.match_journal.specs.declared.faults.StartFault.TheVariants as fault
use Rattle.match_journal.proofs.Walked.{one_size}
use Rattle.match_journal.proofs.Created.{journal_length}
use Rattle.match_journal.proofs.Heads.{journal_begins, begins_opened}

pub text_none : (text product : List ℕ) (found : Option ℕ) → found ≡ None → TextAnswers text product found → text ≡ product
text_none text product found is answers = subst (TextAnswers text product) is answers

pub text_some : (text product : List ℕ) (found : Option ℕ) (text_at at : ℕ) → found ≡ Some at → TextAnswers text product found → (text ≢ product) × (text_at + at ≡ text_at + first_difference text product)
text_some text product found text_at at is answers =
    let both : (text ≢ product) × (at ≡ first_difference text product) = subst (TextAnswers text product) is answers in
    (both.0, ap (λ k. text_at + k) both.1)

-- ---- a size, and the text of that size

-- the bytes that are taken for the text
abbrev pub text_of : ℕ → List ℕ → List ℕ
text_of size image = take size (drop 13 image)

pub text_long : (v : Version) (size : ℕ) (image : List ℕ) → HasSize v size image → length (text_of size image) ≡ size
text_long v size image h = length-take-le size (drop 13 image) (omega (arith, h.inside, length-drop 13 image))

pub sized_header : (v : Version) (size : ℕ) (image text : List ℕ) → HasSize v size image → text_of size image ≡ text → HasHeader (in_version v text) image
sized_header v size image text h is =
    let long : length text ≡ size = ap length (sym is) ∙ text_long v size image h in
    record {
      few = omega (arith, long, h.few);
      stands =
          ap (λ k. take (12 + k) (drop 1 image)) long
          ∙ take-add 12 size (drop 1 image)
          ∙ ap (λ (l : List ℕ). l ++ take size (drop 12 (drop 1 image))) h.stands
          ∙ ap (λ (l : List ℕ). (magic v ++ to_be_bytes w32 size) ++ l) (ap (take size) (drop-drop 12 1 image) ∙ is)
          ∙ append_assoc (magic v) (to_be_bytes w32 size) text
          ∙ ap (λ k. magic v ++ (to_be_bytes w32 k ++ text)) (sym long);
      inside = omega (arith, long, h.inside);
    }

-- one size has one header
one_text_size : (v : Version) (size : ℕ) (image : List ℕ) (other : Header) → HasSize v size image → HasHeader other image → length other.text ≡ size
one_text_size v size image other h header =
    one_size (length other.text) size (omega (arith, header.few)) (omega (arith, h.few))
    (sym (drop-magic other.version (to_be_bytes w32 (length other.text))) ∙ ap (drop 8) (sym (header_front other image header) ∙ h.stands) ∙ drop-magic v (to_be_bytes w32 size))

-- nor has a journal of another size, within the limits
pub journal_size : (v : Version) (size : ℕ) (image : List ℕ) (head : Header) (limit : ℕ) (records : List Record) → HasSize v size image → limit ≤ MOST_LIMIT → IsJournal head limit records image → length head.text ≡ size
journal_size v size image head limit records h most journal =
    let rest : List ℕ = flat_map open_record records ++ journal.gate ∷ journal.behind in
    let is : drop 1 image ≡ magic head.version ++ (to_be_bytes w32 (length head.text) ++ (head.text ++ rest)) =
    ap (drop 1) journal.is
    ∙ append_assoc (header head) (flat_map open_record records) (journal.gate ∷ journal.behind)
    ∙ append_assoc (magic head.version) (to_be_bytes w32 (length head.text) ++ head.text) rest
    ∙ ap (λ (l : List ℕ). magic head.version ++ l) (append_assoc (to_be_bytes w32 (length head.text)) head.text rest) in
    let few : length head.text < limit = omega (arith, journal.in_limit, length-append (header head) (flat_map open_record records), length-header head) in
    one_size (length head.text) size (omega (arith, few, most)) (omega (arith, h.few))
    (sym (drop-magic head.version (to_be_bytes w32 (length head.text))) ∙ ap (drop 8) (sym (front head.version (length head.text) (head.text ++ rest)) ∙ ap (take 12) (sym is) ∙ h.stands) ∙ drop-magic v (to_be_bytes w32 size))
  where
    front : (v : Version) (n : ℕ) (rest : List ℕ) → take 12 (magic v ++ (to_be_bytes w32 n ++ rest)) ≡ magic v ++ to_be_bytes w32 n
    front First n rest = refl
    front Second n rest = refl

-- ---- the gate after the text of a sealed image

pub open_end : (image : List ℕ) (v : Version) (size : ℕ) → IsFront image (class.Sealed v size) → get_or image (13 + size) 0 ≢ 0 → IsForeignAt image 0
open_end image v size front not_closed =
    let h = front.2 in
    record {
      foreign = record {
        not_blank = λ blank. ⊎_elim (λ small. omega (arith, small, h.inside)) (λ closed. front.0 closed.0) blank;
        not_sealed = λ other s. not_closed (ap (λ k. get_or image (13 + k) 0) (sym (one_text_size v size image other h s.header)) ∙ s.closed);
        not_journal = λ j. front.1 j.opened;
      };
      place = inl (front.1, refl);
    }

-- one byte that was read
pub byte_read : (image into : List ℕ) (at : ℕ) → into ≡ take (length into) (drop at image) → 0 < length into → get_or into 0 0 ≡ get_or image at 0
byte_read image into at is some =
    ap (λ (l : List ℕ). get_or l 0 0) is ∙ get_or-take (length into) (drop at image) 0 0 some ∙ get_or-drop at image 0 0 ∙ ap (λ k. get_or image k 0) at_zero
  where
    at_zero : at + 0 ≡ at
    at_zero = omega arith

pub held_end : (image : List ℕ) (c : Class) (v : Version) (size : ℕ) → c ≡ class.Sealed v size → IsFront image c → get_or image (13 + size) 0 ≢ 0 → IsForeignAt image 0
held_end image c v size is front not_closed = open_end image v size (subst (IsFront image) is front) not_closed

-- the magic that stands before the size
magic_there : (v : Version) (size : ℕ) (image : List ℕ) → HasSize v size image → take 8 (drop 1 image) ≡ magic v
magic_there v size image h = sym (take-take 8 12 (drop 1 image) (omega arith)) ∙ ap (take 8) h.stands ∙ take-magic v (to_be_bytes w32 size)

-- ---- where the text stands

module _ (limit : ℕ) (image : List ℕ) (v : Version) (size : ℕ) (h : HasSize v size image) where
  abbrev here : Header
  here = in_version v (text_of size image)

  header_place : (place : TextPlace) → (place.at ≡ 13) × (place.len ≡ size) → IsPlaceOf image place (header_text here)
  header_place place is = record { at = is.0; len = is.1 ∙ sym (text_long v size image h); stands = ap₂ (λ n k. take n (drop k image)) is.1 is.0 }

  pub sealed_place : (place : TextPlace) → get_or image 0 0 ≢ 0 → get_or image 0 0 ≢ 1 → get_or image (13 + size) 0 ≡ 0 → (place.at ≡ 13) × (place.len ≡ size) → IsSealedAs v size place image
  sealed_place place not_zero not_one closed is = record {
    head = here;
    sealed = record { not_closed = not_zero; not_open = not_one; header = sized_header v size image (text_of size image) h refl; closed = ap (λ k. get_or image (13 + k) 0) (text_long v size image h) ∙ closed };
    version_is = refl;
    size_is = text_long v size image h;
    stands = header_place place is;
  }

first_place : (limit : ℕ) (image : List ℕ) (size : ℕ) (place : TextPlace) → HasOpenGate image → HasSize First size image → (place.at ≡ 13) × (place.len ≡ size) → IsOpenedAs limit First size place image
first_place limit image size place gate h is = record {
  head = in_version First (text_of size image);
  text = header_text (in_version First (text_of size image));
  opened = record { gate = gate; header = sized_header First size image (text_of size image) h refl; stands = refl };
  version_is = refl;
  size_is = text_long First size image h;
  stands = header_place limit image First size h place is;
}

pub place_none : (limit : ℕ) (image : List ℕ) (c : Class) (place : TextPlace) → (c ≡ class.Empty) ⊎ (c ≡ class.Blank) → IsFront image c → IsOfClass limit image c place
place_none limit image c place (inl is) front =
    let small : length image ≤ 1 = subst (IsFront image) is front in
    subst (λ (c : Class). IsOfClass limit image c place) (sym is) small
place_none limit image c place (inr is) front = subst (λ (c : Class). IsOfClass limit image c place) (sym is) (subst (IsFront image) is front)

pub place_sealed : (limit : ℕ) (image : List ℕ) (c : Class) (v : Version) (size : ℕ) (place : TextPlace) → c ≡ class.Sealed v size → IsFront image c → has_closed_end image c → (place.at ≡ 13) × (place.len ≡ size) → IsOfClass limit image c place
place_sealed limit image c v size place is front end at =
    let front' : IsFront image (class.Sealed v size) = subst (IsFront image) is front in
    subst (λ (c : Class). IsOfClass limit image c place) (sym is) (sealed_place limit image v size front'.2 place front'.0 front'.1 (subst (has_closed_end image) is end) at)

pub place_first : (limit : ℕ) (image : List ℕ) (c : Class) (size : ℕ) (place : TextPlace) → c ≡ class.Open First size → IsFront image c → (place.at ≡ 13) × (place.len ≡ size) → IsOfClass limit image c place
place_first limit image c size place is front at =
    let front' : IsFront image (class.Open First size) = subst (IsFront image) is front in
    subst (λ (c : Class). IsOfClass limit image c place) (sym is) (first_place limit image size place front'.0 front'.1 at)

-- in the second version it is the last text
module _ (limit : ℕ) (image : List ℕ) (c : Class) (size : ℕ) (is : c ≡ class.Open Second size) (front : HasOpenGate image × HasSize Second size image) where
  abbrev second_head : Header
  second_head = in_version Second (text_of size image)

  headed : HasHeader second_head image
  headed = sized_header Second size image (text_of size image) front.1 refl

  last_answers : (r : Result TextPlace StartFault) → LastTextAnswers second_head limit image r → PlaceAnswers limit image c r
  last_answers (Ok place) last =
      let here : IsOpenedAs limit Second size place image = record {
        head = second_head;
        text = last.text;
        opened = record { gate = front.0; header = headed; stands = last.is };
        version_is = refl;
        size_is = text_long Second size image front.1;
        stands = last.stands;
      } in
      subst (λ (c : Class). IsOfClass limit image c place) (sym is) here
  last_answers (Err fault.Store) last = tt
  last_answers (Err (fault.NotAJournal at)) last = absurd last
  last_answers (Err (fault.Bad at)) last = inr (record { head = second_head; opened = front.0; header = headed; second = refl; bad = last })
  last_answers (Err (fault.ProductDiffers at)) last = absurd last

pub place_last : (limit : ℕ) (image : List ℕ) (c : Class) (size : ℕ) (r : Result TextPlace StartFault) → c ≡ class.Open Second size → IsFront image c
    → ((head : Header) → HasOpenGate image → HasHeader head image → head.version ≡ Second → length head.text ≡ size → LastTextAnswers head limit image r) → PlaceAnswers limit image c r
place_last limit image c size r is front last =
    let front' : IsFront image (class.Open Second size) = subst (IsFront image) is front in
    last_answers limit image c size is front' r (last (in_version Second (text_of size image)) front'.0 (sized_header Second size image (text_of size image) front'.1 refl) refl (text_long Second size image front'.1))

-- a journal of such a class has that header's size
pub front_size : (limit : ℕ) (image : List ℕ) (c : Class) (size : ℕ) (head : Header) (records : List Record) → limit ≤ MOST_LIMIT → c ≡ class.Open Second size → IsFront image c → IsJournal head limit records image → (head.version ≡ Second) × (length head.text ≡ size)
front_size limit image c size head records most is front journal =
    let front' : IsFront image (class.Open Second size) = subst (IsFront image) is front in
    (sym (journal_version head limit records image journal) ∙ front_version Second image (magic_there Second size image front'.1), journal_size Second size image head limit records front'.1 most journal)

pub front_second : (image : List ℕ) (c : Class) (size : ℕ) → c ≡ class.Open Second size → IsFront image c → IsOfSecondVersion image
front_second image c size is front =
    let front' : IsFront image (class.Open Second size) = subst (IsFront image) is front in
    (record { opened = front'.0.opened; version = Second; magic = magic_there Second size image front'.1 }, refl)

-- ---- faults

-- a fault of the first bytes is one of the opening
pub front_fault : (limit : ℕ) (image : List ℕ) (e : StartFault) → IsFrontFault image e → IsLookFault limit image e
front_fault limit image fault.Store is = tt
front_fault limit image (fault.NotAJournal at) is = is
front_fault limit image (fault.Bad at) is = inl is
front_fault limit image (fault.ProductDiffers at) is = absurd is

-- and so is one that comes where no text is asked for
pub look_fault : (product : List ℕ) (limit : ℕ) (image : List ℕ) (e : StartFault) → IsLookFault limit image e → IsStartFault product limit image e
look_fault product limit image fault.Store is = tt
look_fault product limit image (fault.NotAJournal at) is = is
look_fault product limit image (fault.Bad at) is = is
look_fault product limit image (fault.ProductDiffers at) is = absurd is

-- ---- the text, and the one that was handed in

module _ (product : List ℕ) (limit : ℕ) (image : List ℕ) (found : Found) where
  -- by where the text stands, and what else is known
  held : (head : Header) (text : PlacedText) (r : Result (Unit {0}) StartFault) → IsPlaceOf image found.text text → IsOpened head limit text image ⊎ (IsSealed head image × (text ≡ header_text head))
      → (take found.text.len (drop found.text.at image) ≡ product → HasTextOf product image found.class found.text) → SameAnswers text.bytes found.text.at product r → HoldAnswers product limit image found r
  held head text (Ok t) stands seems has same = has (stands.stands ∙ same)
  held head text (Err fault.Store) stands seems has same = tt
  held head text (Err (fault.NotAJournal at)) stands seems has same = absurd same
  held head text (Err (fault.Bad at)) stands seems has same = absurd same
  held head text (Err (fault.ProductDiffers at)) stands seems has same = record { head = head; text = text; found = seems; other = same.0; place = same.1 ∙ ap (λ k. k + first_difference text.bytes product) stands.at }

  pub held_sealed : (v : Version) (size : ℕ) (r : Result (Unit {0}) StartFault) → found.class ≡ class.Sealed v size → IsFound limit image found
      → ((text : List ℕ) → take found.text.len (drop found.text.at image) ≡ text → length text ≡ found.text.len → SameAnswers text found.text.at product r) → HoldAnswers product limit image found r
  held_sealed v size r is has same =
      let s : IsSealedAs v size found.text image = subst (λ (c : Class). IsOfClass limit image c found.text) is has.class in
      held s.head (header_text s.head) r s.stands (inr (s.sealed, refl)) (λ t. subst (λ (c : Class). HasTextOf product image c found.text) (sym is) t) (same s.head.text s.stands.stands (sym s.stands.len))

  pub held_open : (v : Version) (size : ℕ) (r : Result (Unit {0}) StartFault) → found.class ≡ class.Open v size → IsFound limit image found
      → ((text : List ℕ) → take found.text.len (drop found.text.at image) ≡ text → length text ≡ found.text.len → SameAnswers text found.text.at product r) → HoldAnswers product limit image found r
  held_open v size r is has same =
      let s : IsOpenedAs limit v size found.text image = subst (λ (c : Class). IsOfClass limit image c found.text) is has.class in
      held s.head s.text r s.stands (inl s.opened) (λ t. subst (λ (c : Class). HasTextOf product image c found.text) (sym is) t) (same s.text.bytes s.stands.stands (sym s.stands.len))

-- ---- the journal that was found

module _ (limit : ℕ) (image : List ℕ) (v : Version) (size : ℕ) (place : TextPlace) (len : ℕ) (o : IsOpenedAs limit v size place image) (long : length image ≡ len) where
  opened_here : at_first v (13 + size) len limit place.at place.len ≡ opened_at o.head o.text (length image) limit
  opened_here = λ i. at_first (sym o.version_is i) (13 + sym o.size_is i) (sym long i) limit (o.stands.at i) (o.stands.len i)

  pub opened_stands : StandsIn (at_first v (13 + size) len limit place.at place.len) image
  opened_stands = record {
    known = long;
    head = o.head;
    text = o.text;
    opened = o.opened;
    version = sym o.version_is;
    first = ap (λ k. 13 + k) (sym o.size_is);
    text_at = o.stands.at;
    text_len = o.stands.len;
  }

-- a sealed image of this text
sealed_with : (product : List ℕ) (limit : ℕ) (image : List ℕ) (v : Version) (size : ℕ) (place : TextPlace) → IsSealedAs v size place image → take place.len (drop place.at image) ≡ product → IsSealedOf product image
sealed_with product limit image v size place is has = (is.head.version, subst (λ (h : Header). IsSealed h image) (same_head is.head (in_version is.head.version product) refl (sym is.stands.stands ∙ has)) is.sealed)

-- what is answered to one who only looks
pub found_looks : (product : List ℕ) (limit : ℕ) (image : List ℕ) (c : Class) (place : TextPlace) (len : ℕ) (j : Option Standing) → IsOfClass limit image c place → length image ≡ len → HasTextOf product image c place → IsJournalOf c place len limit j → Looks product limit image (Ok j)
found_looks product limit image class.Empty place len j is long has journal = subst (λ (j : Option Standing). Looks product limit image (Ok j)) (sym journal) (inl (inl is))
found_looks product limit image class.Blank place len j is long has journal = subst (λ (j : Option Standing). Looks product limit image (Ok j)) (sym journal) (inl (inr is))
found_looks product limit image (class.Sealed v size) place len j is long has journal = subst (λ (j : Option Standing). Looks product limit image (Ok j)) (sym journal) (inr (sealed_with product limit image v size place is has))
found_looks product limit image (class.Open v size) place len j is long has journal =
    subst (λ (j : Option Standing). Looks product limit image (Ok j)) (sym journal) (record { head = is.head; placed = is.text; opened = is.opened; is = sym is.stands.stands ∙ has }, opened_here limit image v size place len is long)

pub found_any : (limit : ℕ) (image : List ℕ) (c : Class) (place : TextPlace) (len : ℕ) (j : Option Standing) → IsOfClass limit image c place → length image ≡ len → IsJournalOf c place len limit j → LooksAny limit image (Ok j)
found_any limit image class.Empty place len j is long journal = subst (λ (j : Option Standing). LooksAny limit image (Ok j)) (sym journal) (inl (inl is))
found_any limit image class.Blank place len j is long journal = subst (λ (j : Option Standing). LooksAny limit image (Ok j)) (sym journal) (inl (inr is))
found_any limit image (class.Sealed v size) place len j is long journal = subst (λ (j : Option Standing). LooksAny limit image (Ok j)) (sym journal) (inr (is.head, is.sealed))
found_any limit image (class.Open v size) place len j is long journal =
    subst (λ (j : Option Standing). LooksAny limit image (Ok j)) (sym journal) (is.head, is.text, is.opened, opened_here limit image v size place len is long)

pub found_stands : (limit : ℕ) (image : List ℕ) (c : Class) (place : TextPlace) (len : ℕ) (j : Option Standing) → IsOfClass limit image c place → length image ≡ len → IsJournalOf c place len limit j → IfSome j (λ (s : Standing). StandsIn s image)
found_stands limit image class.Empty place len j is long journal = subst (λ (j : Option Standing). IfSome j (λ (s : Standing). StandsIn s image)) (sym journal) tt
found_stands limit image class.Blank place len j is long journal = subst (λ (j : Option Standing). IfSome j (λ (s : Standing). StandsIn s image)) (sym journal) tt
found_stands limit image (class.Sealed v size) place len j is long journal = subst (λ (j : Option Standing). IfSome j (λ (s : Standing). StandsIn s image)) (sym journal) tt
found_stands limit image (class.Open v size) place len j is long journal = subst (λ (j : Option Standing). IfSome j (λ (s : Standing). StandsIn s image)) (sym journal) (opened_stands limit image v size place len is long)

-- ---- what an image keeps, by its class

unfinished_of : (head : Header) (limit : ℕ) (records : List Record) (image : List ℕ) → Keeps head limit records image → (IsJournal head limit records image → ⊥) → (records ≡ []) × IsUnfinished head image
unfinished_of head limit records image (inl journal) no_journal = absurd (no_journal journal)
unfinished_of head limit records image (inr unfinished) no_journal = unfinished

journal_gate : (head : Header) (limit : ℕ) (records : List Record) (image : List ℕ) → IsJournal head limit records image → get_or image 0 0 ≡ 1
journal_gate head limit records image journal = ap (λ (l : List ℕ). get_or l 0 0) journal.is

-- what is no journal yet keeps nothing, and has the version of its class
nothing_there : (limit : ℕ) (image : List ℕ) (c : Class) (place : TextPlace) (head : Header) (records : List Record) → IsOfClass limit image c place → is_open c ≡ false → Keeps head limit records image → (records ≡ []) × (head.version ≡ version_or c Second)
nothing_there limit image class.Empty place head records is shut keeps =
    let none = unfinished_of head limit records image keeps (λ journal. omega (arith, is, journal_length head limit image records journal)) in
    (none.0, ⊎_elim (λ blank. blank.1) (λ sealed. absurd (omega (arith, is, sealed.header.inside))) none.1.unfinished)
nothing_there limit image class.Blank place head records is shut keeps =
    let none = unfinished_of head limit records image keeps (λ journal. omega (arith, is.0, journal_gate head limit records image journal)) in
    (none.0, ⊎_elim (λ blank. blank.1) (λ sealed. absurd (sealed.not_closed is.0)) none.1.unfinished)
nothing_there limit image (class.Sealed v size) place head records is shut keeps =
    let none = unfinished_of head limit records image keeps (λ journal. is.sealed.not_open (journal_gate head limit records image journal)) in (
      none.0,
      ⊎_elim
          (λ blank. absurd (⊎_elim (λ short. omega (arith, short, is.sealed.header.inside)) (λ closed. is.sealed.not_closed closed.0) blank.0))
          (λ sealed. ap (λ (h : Header). h.version) (one_header image head is.head sealed.header is.sealed.header) ∙ is.version_is)
          none.1.unfinished,
    )
nothing_there limit image (class.Open v size) place head records is shut keeps = absurd (cc shut)

-- so its header is that of the product
pub header_here : (product : List ℕ) (limit : ℕ) (image : List ℕ) (c : Class) (place : TextPlace) (head : Header) (version : Version) (records : List Record) → IsOfClass limit image c place → is_open c ≡ false → version ≡ version_or c Second
    → HasLastText head records product → Keeps head limit records image → (records ≡ []) × (head ≡ in_version version product)
header_here product limit image c place head version records is shut told last keeps =
    let both = nothing_there limit image c place head records is shut keeps in
    let of_none : HasLastText head [] product = subst (λ (l : List Record). HasLastText head l product) both.0 last in
    (both.0, same_head head (in_version version product) (both.1 ∙ sym told) of_none.is)

-- a sealed image of the product
pub sealed_here : (product : List ℕ) (limit : ℕ) (image : List ℕ) (c : Class) (v : Version) (size : ℕ) (place : TextPlace) (version : Version) → c ≡ class.Sealed v size → IsOfClass limit image c place → HasTextOf product image c place → version ≡ version_or c Second → IsSealed (in_version version product) image
sealed_here product limit image c v size place version is of_class has told =
    let s : IsSealedAs v size place image = subst (λ (c : Class). IsOfClass limit image c place) is of_class in
    let text : take place.len (drop place.at image) ≡ product = subst (λ (c : Class). HasTextOf product image c place) is has in
    subst (λ (h : Header). IsSealed h image) (same_head s.head (in_version version product) (s.version_is ∙ ap (λ (c : Class). version_or c Second) (sym is) ∙ sym told) (sym s.stands.stands ∙ text)) s.sealed

-- ---- what is opened for writing

pub found_starts : (product : List ℕ) (limit : ℕ) (image : List ℕ) (c : Class) (place : TextPlace) → IsOfClass limit image c place → HasTextOf product image c place → (IsBlank image ⊎ IsSealedOf product image) ⊎ IsOpenedOf product limit image
found_starts product limit image class.Empty place is has = inl (inl (inl is))
found_starts product limit image class.Blank place is has = inl (inl (inr is))
found_starts product limit image (class.Sealed v size) place is has = inl (inr (sealed_with product limit image v size place is has))
found_starts product limit image (class.Open v size) place is has = inr (record { head = is.head; placed = is.text; opened = is.opened; is = sym is.stands.stands ∙ has })

pub opened_class : (limit : ℕ) (image : List ℕ) (c : Class) (place : TextPlace) → IsOfClass limit image c place → HasOpenGate image → is_open c ≡ true
opened_class limit image class.Empty place is j = absurd (omega (arith, is, ap length j.magic, length-magic j.version, length-take 8 (drop 1 image), length-drop 1 image))
opened_class limit image class.Blank place is j = absurd (omega (arith, is.0, j.opened))
opened_class limit image (class.Sealed v size) place is j = absurd (is.sealed.not_open j.opened)
opened_class limit image (class.Open v size) place is j = refl

-- the class of a sealed image
pub sealed_class : (limit : ℕ) (image : List ℕ) (c : Class) (place : TextPlace) (head : Header) → IsOfClass limit image c place → IsSealed head image → is_sealed c ≡ true
sealed_class limit image class.Empty place head is sealed = absurd (omega (arith, is, sealed.header.inside))
sealed_class limit image class.Blank place head is sealed = absurd (sealed.not_closed is.0)
sealed_class limit image (class.Sealed v size) place head is sealed = refl
sealed_class limit image (class.Open v size) place head is sealed = absurd (sealed.not_open is.opened.gate.opened)

-- and its version
pub sealed_version : (limit : ℕ) (image : List ℕ) (c : Class) (place : TextPlace) (head : Header) → IsOfClass limit image c place → IsSealed head image → head.version ≡ version_or c Second
sealed_version limit image class.Empty place head is sealed = absurd (omega (arith, is, sealed.header.inside))
sealed_version limit image class.Blank place head is sealed = absurd (sealed.not_closed is.0)
sealed_version limit image (class.Sealed v size) place head is sealed = ap (λ (h : Header). h.version) (one_header image head is.head sealed.header is.sealed.header) ∙ is.version_is
sealed_version limit image (class.Open v size) place head is sealed = absurd (sealed.not_open is.opened.gate.opened)

-- the journal that was made of what was found, where nothing was kept
pub made_stands : (limit known : ℕ) (image : List ℕ) (version : Version) (product : List ℕ) → length product ≤ MOST_TEXT → IsMade (in_version version product) limit known image → StandsIn (at_first version (13 + length product) known limit 13 (length product)) image
made_stands limit known image version product few made =
    let both = begins_opened (in_version version product) limit [] image few (journal_begins (in_version version product) limit [] image made.journal) in
    record {
      known = made.length_is;
      head = in_version version product;
      text = header_text (in_version version product);
      opened = record { gate = both.0; header = both.1; stands = text_in version made.journal };
      version = refl;
      first = refl;
      text_at = refl;
      text_len = refl;
    }
  where
    text_in : (v : Version) → IsJournal (in_version v product) limit [] image → IsTextIn v (in_version v product) limit image (header_text (in_version v product))
    text_in First journal = refl
    text_in Second journal = ([], journal, tt, refl)

-- how long its image is then
pub known_within : (c : Class) (place : TextPlace) (len : ℕ) (version : Version) (count limit most : ℕ) → len ≤ most → (is_open c ≡ false → max len (14 + count) ≤ most) → (journal_as c place len version count limit).known ≤ most
known_within class.Empty place len version count limit most inside made = made refl
known_within class.Blank place len version count limit most inside made = made refl
known_within (class.Sealed v size) place len version count limit most inside made = made refl
known_within (class.Open v size) place len version count limit most inside made = inside

-- its text has so many bytes
abbrev pub IsPlaced : ℕ → ℕ → Standing → Type 0
IsPlaced limit count s = s ≡ at_first s.version s.first s.known limit s.text_at count

place_as : (c : Class) (place : TextPlace) (len : ℕ) (version : Version) (count limit : ℕ) → HasSizeOf count c place → IsPlaced limit count (journal_as c place len version count limit)
place_as class.Empty place len version count limit has = refl
place_as class.Blank place len version count limit has = refl
place_as (class.Sealed v size) place len version count limit has = refl
place_as (class.Open v size) place len version count limit has = ap (at_first v (13 + size) len limit place.at) has

pub placed_then : (found : Found) (version : Version) (count limit : ℕ) (s : Standing) → s ≡ journal_then found version count limit → HasSizeOf count found.class found.text → IsPlaced limit count s
placed_then found version count limit s is has = subst (IsPlaced limit count) (sym is) (place_as found.class found.text found.len version count limit has)

module _ (limit : ℕ) (before after : List ℕ) (version : Version) (product : List ℕ) (few : length product ≤ MOST_TEXT) where
  class_stands : (c : Class) (place : TextPlace) (len : ℕ) → IsOfClass limit before c place → length before ≡ len → (is_open c ≡ true → after ≡ before) → (is_open c ≡ false → IsMade (in_version version product) limit (max len (14 + length product)) after)
      → StandsIn (journal_as c place len version (length product) limit) after
  class_stands class.Empty place len is long same made = made_stands limit (max len (14 + length product)) after version product few (made refl)
  class_stands class.Blank place len is long same made = made_stands limit (max len (14 + length product)) after version product few (made refl)
  class_stands (class.Sealed v size) place len is long same made = made_stands limit (max len (14 + length product)) after version product few (made refl)
  class_stands (class.Open v size) place len is long same made = subst (StandsIn (at_first v (13 + size) len limit place.at place.len)) (sym (same refl)) (opened_stands limit before v size place len is long)

  pub stands_made : (found : Found) (s : Standing) → s ≡ journal_then found version (length product) limit → IsFound limit before found → (is_open found.class ≡ true → after ≡ before)
      → (is_open found.class ≡ false → IsMade (in_version version product) limit (max found.len (14 + length product)) after) → StandsIn s after
  stands_made found s is has same made = subst (λ (s : Standing). StandsIn s after) (sym is) (class_stands found.class found.text found.len has.class has.len same made)
