-- The last text of a journal: that it is one, and where it stands in the image.
use Rattle.std.proofs.Common.{◌≡◌, ℕ, ◌+◌, ◌<◌, ◌≤◌, List, [], ◌∷◌, ◌++◌, length, take, drop, true, Option, Some, None, IfSome, Result, Ok, Err, OnOk, refl, sym, subst, ◌∙◌, ap, ap₂, arith, append_assoc, length-append, length-drop}
use Rattle.std.specs.Int.{w32, to_be_bytes}
use Rattle.std.specs.List.{flat_map, AllByRecursion}
use Rattle.std.proofs.lemmas.List.{take-append-drop, take_at, drop_at, drop-drop, drop-append-le, take-append-le, length-take-le}
use Rattle.match_journal.specs.Journal.{Header, IsJournal, IsRecord, Record, has_kind, journal_front, header, magic, open_record}
use Rattle.match_journal.specs.HeaderLaws.{length-header, one_header}
use Rattle.match_journal.specs.Classes.{HasHeader}
use Rattle.match_journal.specs.Texts.{PlacedAmendment, PlacedText, HasText, HasTextIn, HasLastText, amended_text, text_size, amendment_as, amendment_behind, last_amendment, header_text, text_by, last_text}
use Rattle.match_journal.specs.Opening.{IsOpened, IsTextIn, StandsIn}
use Rattle.match_journal.specs.declared.standing.Standing.{Standing}
use Rattle.match_journal.specs.declared.entry.EntryKind.{EntryKind}
use Rattle.match_journal.specs.declared.entry.EntryKind.TheVariants.{Frames, OldImage, Image, Amendment}
use Rattle.match_journal.specs.declared.limits.TheConstants.{MOST_TEXT}
use Rattle.match_journal.specs.declared.version.Version.{Version}
use Rattle.match_journal.specs.declared.version.Version.TheVariants.{First, Second}
use Rattle.match_journal.proofs.Records.{length-record}
use Rattle.match_journal.proofs.Created.{headed}
use Rattle.match_journal.proofs.Heads.{front_opened, one_journal}

-- ---- a journal of the first version has no amendment

as_first : (last : Option PlacedAmendment) (gate : ℕ) (k : EntryKind) (payload : List ℕ) → has_kind First k ≡ true → amendment_as last gate k payload ≡ last
as_first last gate Frames payload known = refl
as_first last gate OldImage payload known = refl
as_first last gate Image payload known = refl
as_first last gate Amendment payload known = absurd (cc known)

behind_first : (last : Option PlacedAmendment) (gate : ℕ) (records : List Record) → AllByRecursion (IsRecord First) records → amendment_behind last gate records ≡ last
behind_first last gate [] all = refl
behind_first last gate (r ∷ records) all =
    ap (λ (l : Option PlacedAmendment). amendment_behind l (gate + (6 + length r.payload)) records) (as_first last gate r.kind r.payload all.0.known) ∙ behind_first last (gate + (6 + length r.payload)) records all.1

pub none_in_first : (head : Header) (records : List Record) → head.version ≡ First → AllByRecursion (IsRecord head.version) records → last_amendment head records ≡ None
none_in_first head records is all = behind_first None (13 + length head.text) records (subst (λ (v : Version). AllByRecursion (IsRecord v) records) is all)

-- ---- a record more

behind_push : (last : Option PlacedAmendment) (gate : ℕ) (records : List Record) (r : Record) → amendment_behind last gate (records ++ r ∷ []) ≡ amendment_as (amendment_behind last gate records) (gate + length (flat_map open_record records)) r.kind r.payload
behind_push last gate [] r = ap (λ (k : ℕ). amendment_as last k r.kind r.payload) (omega arith)
behind_push last gate (x ∷ records) r =
    behind_push (amendment_as last gate x.kind x.payload) (gate + (6 + length x.payload)) records r
    ∙ ap (λ (k : ℕ). amendment_as (amendment_behind last gate (x ∷ records)) k r.kind r.payload) (omega (arith, length-append (open_record x) (flat_map open_record records), length-record x))

-- the last amendment by that before the last record
pub amendment_push : (head : Header) (records : List Record) (r : Record) → last_amendment head (records ++ r ∷ []) ≡ amendment_as (last_amendment head records) (length (journal_front head records)) r.kind r.payload
amendment_push head records r =
    behind_push None (13 + length head.text) records r
    ∙ ap (λ (k : ℕ). amendment_as (last_amendment head records) k r.kind r.payload) (omega (arith, length-header head, length-append (header head) (flat_map open_record records)))

-- a record that is no amendment keeps the last text
pub text_kept : (head : Header) (records : List Record) (text : List ℕ) (r : Record) → (r.kind ≡ Amendment → ⊥) → HasLastText head records text → HasLastText head (records ++ r ∷ []) text
text_kept head records text r other last =
    let same : last_amendment head (records ++ r ∷ []) ≡ last_amendment head records = amendment_push head records r ∙ as_before (last_amendment head records) (length (journal_front head records)) r.kind r.payload other in
    record { is = ap (λ (l : Option PlacedAmendment). (text_by head l).bytes) same ∙ last.is; inside = subst HasTextIn (sym same) last.inside }
  where
    as_before : (last : Option PlacedAmendment) (gate : ℕ) (k : EntryKind) (payload : List ℕ) → (k ≡ Amendment → ⊥) → amendment_as last gate k payload ≡ last
    as_before last gate Frames payload other = refl
    as_before last gate OldImage payload other = refl
    as_before last gate Image payload other = refl
    as_before last gate Amendment payload other = absurd (other refl)

-- an amendment has it
pub text_amended : (head : Header) (records : List Record) (payload : List ℕ) → HasText payload → HasLastText head (records ++ record { kind = Amendment; payload = payload } ∷ []) (amended_text payload)
text_amended head records payload whole =
    let is = amendment_push head records (record { kind = Amendment; payload = payload }) in
    record { is = ap (λ (l : Option PlacedAmendment). (text_by head l).bytes) is; inside = subst HasTextIn (sym is) whole }

-- ---- one last text

pub one_text_in : (v : Version) (head : Header) (limit : ℕ) (image : List ℕ) (a b : PlacedText) → IsTextIn v head limit image a → IsTextIn v head limit image b → a ≡ b
one_text_in First head limit image a b x y = x ∙ sym y
one_text_in Second head limit image a b (ps, p, t, is) (qs, q, u, is') = sym is ∙ ap (last_text head) (one_journal head limit image ps qs p q) ∙ is'

-- an image is opened with one header and one text
pub one_opened : (limit : ℕ) (image : List ℕ) (head other : Header) (a b : PlacedText) → IsOpened head limit a image → IsOpened other limit b image → (head ≡ other) × (a ≡ b)
one_opened limit image head other a b x y =
    let same = one_header image head other x.header y.header in
    (same, one_text_in other.version other limit image a b (subst (λ (h : Header). IsTextIn h.version h limit image a) same x.stands) y.stands)

last_text_in : (v : Version) (head : Header) (limit : ℕ) (image : List ℕ) (records : List Record) (text : PlacedText) → head.version ≡ v → IsTextIn v head limit image text → IsJournal head limit records image → (last_text head records ≡ text) × HasTextIn (last_amendment head records)
last_text_in First head limit image records text is stands journal =
    let none = none_in_first head records is journal.sized in
    (ap (text_by head) none ∙ sym stands, subst HasTextIn (sym none) tt)
last_text_in Second head limit image records text is (ps, p, whole, stands) journal =
    let same = one_journal head limit image ps records p journal in
    (ap (last_text head) (sym same) ∙ stands, subst (λ (l : List Record). HasTextIn (last_amendment head l)) same whole)

-- a journal is opened with its last text alone
pub one_last_text : (head : Header) (image : List ℕ) (limit : ℕ) (records : List Record) (text : PlacedText) → IsOpened head limit text image → IsJournal head limit records image → (last_text head records ≡ text) × HasTextIn (last_amendment head records)
one_last_text head image limit records text opened journal = last_text_in head.version head limit image records text refl opened.stands journal

text_of_journal : (v : Version) (head : Header) (limit : ℕ) (image : List ℕ) (records : List Record) → head.version ≡ v → HasTextIn (last_amendment head records) → IsJournal head limit records image → IsTextIn v head limit image (last_text head records)
text_of_journal First head limit image records is whole journal = ap (text_by head) (none_in_first head records is journal.sized)
text_of_journal Second head limit image records is whole journal = (records, journal, whole, refl)

-- and it is opened with it
pub last_opened : (head : Header) (limit : ℕ) (image : List ℕ) (records : List Record) → length head.text ≤ MOST_TEXT → HasTextIn (last_amendment head records) → IsJournal head limit records image → IsOpened head limit (last_text head records) image
last_opened head limit image records few whole journal =
    let front = front_opened head image records journal.gate journal.behind few journal.is in
    record { gate = front.0; header = front.1; stands = text_of_journal head.version head limit image records refl whole journal }

-- ---- where it stands

-- an amendment stands whole in an image, in front of a gate
pub record StandsWhole (image : List ℕ) (last : PlacedAmendment) : Type 0 where
  pub inside : last.gate + 6 + length last.payload < length image
  pub stands : take (length last.payload) (drop (last.gate + 6) image) ≡ last.payload

abbrev pub StandsWholeIn : List ℕ → Option PlacedAmendment → Type 0
StandsWholeIn image None = Unit {0}
StandsWholeIn image (Some last) = StandsWhole image last

as_whole : (image : List ℕ) (last : Option PlacedAmendment) (gate : ℕ) (k : EntryKind) (payload : List ℕ) → StandsWholeIn image last → StandsWhole image (record { gate = gate; payload = payload }) → StandsWholeIn image (amendment_as last gate k payload)
as_whole image last gate Frames payload before here = before
as_whole image last gate OldImage payload before here = before
as_whole image last gate Image payload before here = before
as_whole image last gate Amendment payload before here = here

behind_whole : (image front : List ℕ) (last : Option PlacedAmendment) (gate : ℕ) (records : List Record) (rest : List ℕ) → gate ≡ length front → 1 ≤ length rest → image ≡ front ++ (flat_map open_record records ++ rest) → StandsWholeIn image last → StandsWholeIn image (amendment_behind last gate records)
behind_whole image front last gate [] rest place some is before = before
behind_whole image front last gate (r ∷ records) rest place some is before =
    let more : List ℕ = flat_map open_record records in
    let here : StandsWhole image (record { gate = gate; payload = r.payload }) = record {
      inside = omega (arith, place, some, ap length is, length-append front ((open_record r ++ more) ++ rest), length-append (open_record r ++ more) rest, length-append (open_record r) more, length-record r);
      stands =
          ap (take (length r.payload))
          (sym (drop-drop 6 gate image) ∙ ap (λ (l : List ℕ). drop 6 (drop gate l)) is ∙ ap (drop 6) (drop_at front ((open_record r ++ more) ++ rest) gate (sym place)) ∙ append_assoc r.payload more rest)
          ∙ take_at r.payload (more ++ rest) (length r.payload) refl;
    } in
    behind_whole image (front ++ open_record r) (amendment_as last gate r.kind r.payload) (gate + (6 + length r.payload)) records rest
    (omega (arith, place, length-append front (open_record r), length-record r)) some
    (is ∙ ap (λ (l : List ℕ). front ++ l) (append_assoc (open_record r) more rest) ∙ sym (append_assoc front (open_record r) (more ++ rest)))
    (as_whole image last gate r.kind r.payload before here)

-- the last amendment of a journal stands in its image
pub amendment_stands : (head : Header) (limit : ℕ) (records : List Record) (image : List ℕ) → IsJournal head limit records image → StandsWholeIn image (last_amendment head records)
amendment_stands head limit records image journal =
    let rest : List ℕ = journal.gate ∷ journal.behind in
    behind_whole image (1 ∷ header head) None (13 + length head.text) records rest (omega (arith, length-header head)) (omega arith)
    (journal.is ∙ append_assoc (1 ∷ header head) (flat_map open_record records) rest) tt

-- so does a text
pub record IsThere (image : List ℕ) (text : PlacedText) : Type 0 where
  pub few : length text.bytes ≤ MOST_TEXT
  pub inside : text.at + length text.bytes < length image
  pub stands : take (length text.bytes) (drop text.at image) ≡ text.bytes

pub header_there : (head : Header) (image : List ℕ) → HasHeader head image → IsThere image (header_text head)
header_there head image h = record {
  few = h.few;
  inside = h.inside;
  stands = there _ _ (headed head image h);
}
  where
    behind : (v : Version) (text rest : List ℕ) → drop 12 ((magic v ++ (to_be_bytes w32 (length text) ++ text)) ++ rest) ≡ text ++ rest
    behind First text rest = refl
    behind Second text rest = refl

    there : (first : ℕ) (rest : List ℕ) → image ≡ first ∷ (header head ++ rest) → take (length head.text) (drop 13 image) ≡ head.text
    there first rest is =
        ap (λ (l : List ℕ). take (length head.text) (drop 13 l)) is
        ∙ ap (take (length head.text)) (behind head.version head.text rest)
        ∙ take_at head.text rest (length head.text) refl

-- the text in the payload of an amendment
pub amended_there : (image : List ℕ) (last : PlacedAmendment) → StandsWhole image last → HasText last.payload → IsThere image (record { at = last.gate + 10; bytes = amended_text last.payload })
amended_there image last whole has =
    let payload = last.payload in
    let n = text_size payload in
    let long : length (amended_text payload) ≡ n = length-take-le n (drop 4 payload) (omega (arith, has.inside, length-drop 4 payload)) in
    let tail = drop (length payload) (drop (last.gate + 6) image) in
    let is : drop (last.gate + 6) image ≡ payload ++ tail =
    sym (take-append-drop (length payload) (drop (last.gate + 6) image)) ∙ ap (λ (l : List ℕ). l ++ tail) whole.stands in
    let behind : drop (last.gate + 10) image ≡ drop 4 payload ++ tail =
    ap (λ k. drop k image) (omega arith) ∙ sym (drop-drop 4 (last.gate + 6) image) ∙ ap (drop 4) is ∙ drop-append-le 4 payload tail (omega (arith, has.inside)) in
    record {
      few = omega (arith, long, has.few);
      inside = omega (arith, long, has.inside, whole.inside);
      stands = ap (λ k. take k (drop (last.gate + 10) image)) long ∙ ap (take n) behind ∙ take-append-le n (drop 4 payload) tail (omega (arith, has.inside, length-drop 4 payload));
    }

by_there : (head : Header) (image : List ℕ) (last : Option PlacedAmendment) → HasHeader head image → StandsWholeIn image last → HasTextIn last → IsThere image (text_by head last)
by_there head image None h whole has = header_there head image h
by_there head image (Some last) h whole has = amended_there image last whole has

in_there : (v : Version) (head : Header) (limit : ℕ) (image : List ℕ) (text : PlacedText) → HasHeader head image → IsTextIn v head limit image text → IsThere image text
in_there First head limit image text h stands = subst (IsThere image) (sym stands) (header_there head image h)
in_there Second head limit image text h (records, journal, has, stands) =
    subst (IsThere image) stands (by_there head image (last_amendment head records) h (amendment_stands head limit records image journal) has)

-- the text with which a journal is opened stands in its image
pub opened_there : (head : Header) (limit : ℕ) (text : PlacedText) (image : List ℕ) → IsOpened head limit text image → IsThere image text
opened_there head limit text image opened = in_there head.version head limit image text opened.header opened.stands

-- ---- what is read of an image in which a journal stands

abbrev IsRead : ℕ → List ℕ → Option (List ℕ) → Type 0
IsRead at into told = IfSome told (λ image. into ≡ take (length into) (drop at image))

-- its last text
pub last_read : (inner s : Standing) (image : List ℕ) (told : Option (List ℕ)) (into : List ℕ) → inner ≡ s → told ≡ Some image → length into ≡ s.text_len → IsRead inner.text_at into told → (stands : StandsIn s image) → into ≡ stands.text.bytes
last_read inner s image told into same is size read stands =
    let here : IsRead inner.text_at into (Some image) = subst (IsRead inner.text_at into) is read in
    here
    ∙ ap₂ (λ (n at : ℕ). take n (drop at image)) (size ∙ stands.text_len) (ap (λ (s : Standing). s.text_at) same ∙ stands.text_at)
    ∙ (opened_there stands.head s.limit stands.text image stands.opened).stands

-- its header's text
pub first_read : (s : Standing) (image : List ℕ) (told : Option (List ℕ)) (into : List ℕ) → told ≡ Some image → 13 + length into ≡ s.first → IsRead 13 into told → (stands : StandsIn s image) → into ≡ stands.head.text
first_read s image told into is size read stands =
    let here : IsRead 13 into (Some image) = subst (IsRead 13 into) is read in
    let long : length into ≡ length stands.head.text = omega (arith, size, stands.first) in
    here ∙ ap (λ (n : ℕ). take n (drop 13 image)) long ∙ (header_there stands.head image stands.opened.header).stands

-- what is known of an answer by its kind
pub if_ok : {T F : Type 0} (A : Type 0) (r : Result T F) (x : T) → r ≡ Ok x → A → OnOk r A
if_ok {T} {F} A r x is a = subst (λ (r : Result T F). OnOk r A) (sym is) a

pub if_err : {T F : Type 0} (A : Type 0) (r : Result T F) (e : F) → r ≡ Err e → OnOk r A
if_err {T} {F} A r e is = subst (λ (r : Result T F). OnOk r A) (sym is) tt
