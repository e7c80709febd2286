-- An image keeps one list of records, and one answer fits it.
use Rattle.std.proofs.Common.{◌≡◌, ◌⊎◌, inl, inr, ⊎_elim, ℕ, ◌+◌, ◌<◌, ◌≤◌, ◌^◌, List, [], ◌∷◌, ◌++◌, length, get_or, take, drop, Option, Some, None, Result, Ok, Err, refl, sym, subst, ◌∙◌, ap, arith, append_assoc, length-append, length-drop}
use Rattle.std.specs.Int.{w32, to_be_bytes}
use Rattle.std.specs.List.{flat_map}
use Rattle.std.proofs.lemmas.List.{length-take}
use Rattle.match_journal.specs.Journal.{Header, IsJournal, Record, header, in_version, magic, open_record}
use Rattle.match_journal.specs.Texts.{PlacedText, PlacedAmendment, HasTextIn, HasLastText, header_text, last_amendment, last_text}
use Rattle.match_journal.specs.HeaderLaws.{same_head, length-header, length-magic, one_header, one_magic}
use Rattle.match_journal.specs.Classes.{HasHeader, HasOpenGate, IsBlank, IsSealed, IsSealedOf, IsUnfinished, IsForeignAt, Keeps, first_difference}
use Rattle.match_journal.specs.BadRecords.{HasBadHeadAt, HasBadLastText}
use Rattle.match_journal.specs.Opening.{IsOpened, IsOpenedOf, IsTextIn, IsBadAt, HasOtherText, IsStartFault, IsLookFault, Looks, LooksAny, opened_at}
use Rattle.gx_station.specs.Disk.{Torn}
use Rattle.match_journal.specs.declared.standing.Standing.{Standing}
use Rattle.match_journal.specs.declared.faults.StartFault.{StartFault}
use Rattle.match_journal.specs.declared.faults.StartFault.TheVariants as fault
use Rattle.match_journal.specs.declared.limits.TheConstants.{MOST_LIMIT, MOST_TEXT}
use Rattle.match_journal.specs.declared.version.Version.{Version}
use Rattle.match_journal.specs.declared.version.Version.TheVariants.{First, Second}
use Rattle.match_journal.proofs.Created.{journal_length, empty_keeps, closed_keeps, none_kept}
use Rattle.match_journal.proofs.Walked.{one_size}
use Rattle.match_journal.proofs.Heads.{same_front, front_opened, one_journal, one_bad_head, no_bad_head}
use Rattle.match_journal.proofs.LastTexts.{one_opened, last_opened}

-- ---- one list of records, and one header

unfinished_keeps : (a b : Header) (limit : ℕ) (image : List ℕ) (ps : List Record) → Keeps a limit ps image → IsUnfinished b image → ps ≡ []
unfinished_keeps a b limit image ps keeps u = elim u.unfinished [
  | inl blank ↦ elim blank.0 [
    | inl short ↦ empty_keeps a limit image ps keeps short
    | inr closed ↦ closed_keeps a limit image ps keeps closed.0
  ]
  | inr sealed ↦ (none_kept a limit image ps keeps sealed.not_open).0
]

blank_not_sealed : (head : Header) (image : List ℕ) → IsBlank image → IsSealed head image → ⊥
blank_not_sealed head image (inl short) s = omega (arith, short, s.header.inside)
blank_not_sealed head image (inr closed) s = s.not_closed closed.0

journal_not_unfinished : (a b : Header) (limit : ℕ) (image : List ℕ) (ps : List Record) → IsJournal a limit ps image → IsUnfinished b image → ⊥
journal_not_unfinished a b limit image ps j u =
    let first : get_or image 0 0 ≡ 1 = ap (λ (l : List ℕ). get_or l 0 0) j.is in
    elim u.unfinished [
      | inl blank ↦ elim blank.0 [
        | inl short ↦ omega (arith, short, journal_length a limit image ps j)
        | inr closed ↦ omega (arith, first, closed.0)
      ]
      | inr sealed ↦ sealed.not_open first
    ]

-- a journal whose header has a text that is not too long
pub journal_headed : (head : Header) (limit : ℕ) (image : List ℕ) (records : List Record) → length head.text ≤ MOST_TEXT → IsJournal head limit records image → HasOpenGate image × HasHeader head image
journal_headed head limit image records few j = front_opened head image records j.gate j.behind few j.is

-- two headers with which one image begins, of texts whose lengths four bytes can tell
pub one_front : (a b : Header) (image x y : List ℕ) → length a.text < 2 ^ 32 → length b.text < 2 ^ 32 → image ≡ 1 ∷ (header a ++ x) → image ≡ 1 ∷ (header b ++ y) → a ≡ b
one_front a b image x y small small' is is' =
    let both : header a ++ x ≡ header b ++ y = ap (drop 1) (sym is ∙ is') in
    let size : length a.text ≡ length b.text =
    one_size (length a.text) (length b.text) small small' (sym (size_bytes a.version a.text x) ∙ ap (λ (l : List ℕ). take 4 (drop 8 l)) both ∙ size_bytes b.version b.text y) in
    let texts : a.text ++ x ≡ b.text ++ y = sym (text_behind a.version a.text x) ∙ ap (drop 12) both ∙ text_behind b.version b.text y in
    same_head a b
    (one_magic a.version b.version (sym (magic_bytes a.version a.text x) ∙ ap (take 8) both ∙ magic_bytes b.version b.text y))
    (same_front a.text b.text x y size texts).0
  where
    magic_bytes : (v : Version) (text rest : List ℕ) → take 8 ((magic v ++ (to_be_bytes w32 (length text) ++ text)) ++ rest) ≡ magic v
    magic_bytes First text rest = refl
    magic_bytes Second text rest = refl

    size_bytes : (v : Version) (text rest : List ℕ) → take 4 (drop 8 ((magic v ++ (to_be_bytes w32 (length text) ++ text)) ++ rest)) ≡ to_be_bytes w32 (length text)
    size_bytes First text rest = refl
    size_bytes Second text rest = refl

    text_behind : (v : Version) (text rest : List ℕ) → drop 12 ((magic v ++ (to_be_bytes w32 (length text) ++ text)) ++ rest) ≡ text ++ rest
    text_behind First text rest = refl
    text_behind Second text rest = refl

-- a limit keeps the text of a header short
pub text_below : (head : Header) (limit : ℕ) (image : List ℕ) (records : List Record) → limit ≤ MOST_LIMIT → IsJournal head limit records image → length head.text < 2 ^ 32
text_below head limit image records most journal = omega (arith, most, journal.in_limit, length-header head, length-append (header head) (flat_map open_record records))

-- two journals within the greatest limit that one image is have one header
pub one_journal_header : (a b : Header) (limit : ℕ) (image : List ℕ) (ps qs : List Record) → limit ≤ MOST_LIMIT → IsJournal a limit ps image → IsJournal b limit qs image → a ≡ b
one_journal_header a b limit image ps qs most x y =
    one_front a b image _ _ (text_below a limit image ps most x) (text_below b limit image qs most y)
    (x.is ∙ append_assoc (1 ∷ header a) (flat_map open_record ps) (x.gate ∷ x.behind))
    (y.is ∙ append_assoc (1 ∷ header b) (flat_map open_record qs) (y.gate ∷ y.behind))

-- an image keeps one list of records with one header
pub one_list_of : (head : Header) (limit : ℕ) (image : List ℕ) (ps qs : List Record) → Keeps head limit ps image → Keeps head limit qs image → ps ≡ qs
one_list_of head limit image ps qs (inl a) (inl b) = one_journal head limit image ps qs a b
one_list_of head limit image ps qs (inl a) (inr b) = unfinished_keeps head head limit image ps (inl a) b.1 ∙ sym b.0
one_list_of head limit image ps qs (inr a) (inl b) = a.0 ∙ sym (unfinished_keeps head head limit image qs (inl b) a.1)
one_list_of head limit image ps qs (inr a) (inr b) = a.0 ∙ sym b.0

-- and within the greatest limit, with any header
pub one_keeping : (a b : Header) (limit : ℕ) (image : List ℕ) (ps qs : List Record) → limit ≤ MOST_LIMIT → Keeps a limit ps image → Keeps b limit qs image → ps ≡ qs
one_keeping a b limit image ps qs most (inl x) (inl y) =
    one_journal b limit image ps qs (subst (λ (h : Header). IsJournal h limit ps image) (one_journal_header a b limit image ps qs most x y) x) y
one_keeping a b limit image ps qs most (inl x) (inr y) = absurd (journal_not_unfinished a b limit image ps x y.1)
one_keeping a b limit image ps qs most (inr x) (inl y) = absurd (journal_not_unfinished b a limit image qs y x.1)
one_keeping a b limit image ps qs most (inr x) (inr y) = x.0 ∙ sym y.0

-- the text of an unfinished creation is the header's
unfinished_text : (head : Header) (records : List Record) (text : List ℕ) → records ≡ [] → HasLastText head records text → head.text ≡ text
unfinished_text head records text none last = sym (ap (λ (l : List Record). (last_text head l).bytes) none) ∙ last.is

one_unfinished : (a b : Header) (image : List ℕ) → a.text ≡ b.text → IsUnfinished a image → IsUnfinished b image → a ≡ b
one_unfinished a b image text x y = elim x.unfinished [
  | inl blank ↦ elim y.unfinished [
    | inl blank' ↦ same_head a b (blank.1 ∙ sym blank'.1) text
    | inr sealed' ↦ absurd (blank_not_sealed b image blank.0 sealed')
  ]
  | inr sealed ↦ elim y.unfinished [
    | inl blank' ↦ absurd (blank_not_sealed a image blank'.0 sealed)
    | inr sealed' ↦ one_header image a b sealed.header sealed'.header
  ]
]

-- of one last text it keeps one header
pub one_head : (a b : Header) (limit : ℕ) (image text : List ℕ) (ps qs : List Record) → limit ≤ MOST_LIMIT → HasLastText a ps text → HasLastText b qs text → Keeps a limit ps image → Keeps b limit qs image → a ≡ b
one_head a b limit image text ps qs most last last' (inl x) (inl y) = one_journal_header a b limit image ps qs most x y
one_head a b limit image text ps qs most last last' (inl x) (inr y) = absurd (journal_not_unfinished a b limit image ps x y.1)
one_head a b limit image text ps qs most last last' (inr x) (inl y) = absurd (journal_not_unfinished b a limit image qs y x.1)
one_head a b limit image text ps qs most last last' (inr x) (inr y) =
    one_unfinished a b image (unfinished_text a ps text x.0 last ∙ sym (unfinished_text b qs text y.0 last')) x.1 y.1

-- ---- one answer of an opening

open_long : (image : List ℕ) → HasOpenGate image → 8 < length image
open_long image j = omega (arith, ap length j.magic, length-magic j.version, length-take 8 (drop 1 image), length-drop 1 image)

blank_not_open : (image : List ℕ) → IsBlank image → HasOpenGate image → ⊥
blank_not_open image (inl short) j = omega (arith, short, open_long image j)
blank_not_open image (inr closed) j = omega (arith, closed.0, j.opened)

module _ (limit : ℕ) (image : List ℕ) where
  bad_journal : (at : ℕ) → IsBadAt limit image at → HasOpenGate image
  bad_journal at (inl bad) = bad.journal
  bad_journal at (inr bad) = bad.opened

  -- what is opened is not bad
  no_bad_records : (v : Version) (head : Header) (text : PlacedText) (at : ℕ) → v ≡ Second → IsTextIn v head limit image text → HasBadHeadAt head limit image at ⊎ HasBadLastText head limit image at → ⊥
  no_bad_records First head text at is stands bad = absurd (cc is)
  no_bad_records Second head text at is (records, journal, whole, same) (inl bad) = no_bad_head head limit records image at journal bad
  no_bad_records Second head text at is (records, journal, whole, same) (inr bad) =
      bad.no_text (subst HasTextIn (ap (last_amendment head) (one_journal head limit image records bad.records journal bad.heads) ∙ bad.is_last) whole)

  pub opened_not_bad : (head : Header) (text : PlacedText) (at : ℕ) → IsOpened head limit text image → IsBadAt limit image at → ⊥
  opened_not_bad head text at opened (inl bad) = bad.no_header head opened.header
  opened_not_bad head text at opened (inr bad) =
      let same = one_header image bad.head head bad.header opened.header in
      no_bad_records head.version head text at (ap (λ (h : Header). h.version) (sym same) ∙ bad.second) opened.stands
      (subst (λ (h : Header). HasBadHeadAt h limit image at ⊎ HasBadLastText h limit image at) same bad.bad)

  one_bad_text : (head : Header) (at at' : ℕ) → HasBadLastText head limit image at → HasBadLastText head limit image at' → at ≡ at'
  one_bad_text head at at' x y =
      let same : Some x.last ≡ Some y.last = sym x.is_last ∙ ap (last_amendment head) (one_journal head limit image x.records y.records x.heads y.heads) ∙ y.is_last in
      let last : x.last ≡ y.last = cc same in
      x.place ∙ ap (λ (l : PlacedAmendment). l.gate) last ∙ sym y.place

  one_bad_place : (head : Header) (at at' : ℕ) → HasBadHeadAt head limit image at ⊎ HasBadLastText head limit image at → HasBadHeadAt head limit image at' ⊎ HasBadLastText head limit image at' → at ≡ at'
  one_bad_place head at at' (inl x) (inl y) = one_bad_head head limit image at at' x y
  one_bad_place head at at' (inl x) (inr y) = absurd (no_bad_head head limit y.records image at y.heads x)
  one_bad_place head at at' (inr x) (inl y) = absurd (no_bad_head head limit x.records image at' x.heads y)
  one_bad_place head at at' (inr x) (inr y) = one_bad_text head at at' x y

  -- an image is bad at one place
  pub one_bad : (at at' : ℕ) → IsBadAt limit image at → IsBadAt limit image at' → at ≡ at'
  one_bad at at' (inl x) (inl y) = x.place ∙ sym y.place
  one_bad at at' (inl x) (inr y) = absurd (x.no_header y.head y.header)
  one_bad at at' (inr x) (inl y) = absurd (y.no_header x.head x.header)
  one_bad at at' (inr x) (inr y) =
      one_bad_place y.head at at' (subst (λ (h : Header). HasBadHeadAt h limit image at ⊎ HasBadLastText h limit image at) (one_header image x.head y.head x.header y.header) x.bad) y.bad

  one_foreign : (at at' : ℕ) → IsForeignAt image at → IsForeignAt image at' → at ≡ at'
  one_foreign at at' x y = ⊎_elim
      (λ p. ⊎_elim (λ q. p.1 ∙ sym q.1) (λ q. absurd (p.0 q.0)) y.place)
      (λ p. ⊎_elim (λ q. absurd (q.0 p.0)) (λ q. p.1 ∙ sym q.1) y.place)
      x.place

  -- a blank image or a sealed one
  abbrev Unfinished : Type 0
  Unfinished = IsBlank image ⊎ ((head : Header) × IsSealed head image)

  unfinished_not_open : Unfinished → HasOpenGate image → ⊥
  unfinished_not_open (inl blank) gate = blank_not_open image blank gate
  unfinished_not_open (inr (head, sealed)) gate = sealed.not_open gate.opened

  none_looked : (e : StartFault) → Unfinished → IsLookFault limit image e → (e ≡ fault.Store → ⊥) → ⊥
  none_looked fault.Store none is told = told refl
  none_looked (fault.NotAJournal at) (inl blank) is told = is.foreign.not_blank blank
  none_looked (fault.NotAJournal at) (inr (head, sealed)) is told = is.foreign.not_sealed head sealed
  none_looked (fault.Bad at) none is told = unfinished_not_open none (bad_journal at is)
  none_looked (fault.ProductDiffers at) none is told = is

  some_looked : (head : Header) (text : PlacedText) (e : StartFault) → IsOpened head limit text image → IsLookFault limit image e → (e ≡ fault.Store → ⊥) → ⊥
  some_looked head text fault.Store opened is told = told refl
  some_looked head text (fault.NotAJournal at) opened is told = is.foreign.not_journal opened.gate
  some_looked head text (fault.Bad at) opened is told = opened_not_bad head text at opened is
  some_looked head text (fault.ProductDiffers at) opened is told = is

  err_looked : (e f : StartFault) → IsLookFault limit image e → IsLookFault limit image f → (e ≡ fault.Store → ⊥) → (f ≡ fault.Store → ⊥) → e ≡ f
  err_looked fault.Store f x y told told' = absurd (told refl)
  err_looked (fault.NotAJournal at) fault.Store x y told told' = absurd (told' refl)
  err_looked (fault.NotAJournal at) (fault.NotAJournal at') x y told told' = ap fault.NotAJournal (one_foreign at at' x y)
  err_looked (fault.NotAJournal at) (fault.Bad at') x y told told' = absurd (x.foreign.not_journal (bad_journal at' y))
  err_looked (fault.NotAJournal at) (fault.ProductDiffers at') x y told told' = absurd y
  err_looked (fault.Bad at) fault.Store x y told told' = absurd (told' refl)
  err_looked (fault.Bad at) (fault.NotAJournal at') x y told told' = absurd (y.foreign.not_journal (bad_journal at x))
  err_looked (fault.Bad at) (fault.Bad at') x y told told' = ap fault.Bad (one_bad at at' x y)
  err_looked (fault.Bad at) (fault.ProductDiffers at') x y told told' = absurd y
  err_looked (fault.ProductDiffers at) f x y told told' = absurd x

abbrev refusal : StartFault → Result (Option Standing) StartFault
refusal e = Err e

not_store : (e : StartFault) → (refusal e ≡ refusal fault.Store → ⊥) → e ≡ fault.Store → ⊥
not_store e told is = told (ap refusal is)

-- the journal is one
one_standing : (limit : ℕ) (image : List ℕ) (head other : Header) (a b : PlacedText) → IsOpened head limit a image → IsOpened other limit b image → opened_at head a (length image) limit ≡ opened_at other b (length image) limit
one_standing limit image head other a b x y =
    let same = one_opened limit image head other a b x y in
    ap (λ (h : Header). opened_at h a (length image) limit) same.0 ∙ ap (λ (t : PlacedText). opened_at other t (length image) limit) same.1

-- ---- where no text is asked for

pub one_answer_any : (limit : ℕ) (image : List ℕ) (a b : Result (Option Standing) StartFault) → LooksAny limit image a → LooksAny limit image b → (a ≡ Err fault.Store → ⊥) → (b ≡ Err fault.Store → ⊥) → a ≡ b
one_answer_any limit image (Ok None) (Ok None) x y told told' = refl
one_answer_any limit image (Ok None) (Ok (Some s)) x (head, text, opened, is) told told' = absurd (unfinished_not_open limit image x opened.gate)
one_answer_any limit image (Ok None) (Err e) x y told told' = absurd (none_looked limit image e x y (not_store e told'))
one_answer_any limit image (Ok (Some s)) (Ok None) (head, text, opened, is) y told told' = absurd (unfinished_not_open limit image y opened.gate)
one_answer_any limit image (Ok (Some s)) (Ok (Some s')) (head, text, opened, is) (head', text', opened', is') told told' =
    ap (λ (s : Standing). Ok (Some s)) (is ∙ one_standing limit image head head' text text' opened opened' ∙ sym is')
one_answer_any limit image (Ok (Some s)) (Err e) (head, text, opened, is) y told told' = absurd (some_looked limit image head text e opened y (not_store e told'))
one_answer_any limit image (Err e) (Ok None) x y told told' = absurd (none_looked limit image e y x (not_store e told))
one_answer_any limit image (Err e) (Ok (Some s)) x (head, text, opened, is) told told' = absurd (some_looked limit image head text e opened x (not_store e told))
one_answer_any limit image (Err e) (Err f) x y told told' = ap Err (err_looked limit image e f x y (not_store e told) (not_store f told'))

-- ---- where a text is asked for

module _ (product : List ℕ) (limit : ℕ) (image : List ℕ) where
  -- a journal or a sealed image, with its text
  abbrev IsFoundWith : Header → PlacedText → Type 0
  IsFoundWith head text = IsOpened head limit text image ⊎ (IsSealed head image × (text ≡ header_text head))

  sealed_found : IsSealedOf product image → (head : Header) × IsSealed head image
  sealed_found (version, sealed) = (in_version version product, sealed)

  any_unfinished : IsBlank image ⊎ IsSealedOf product image → IsBlank image ⊎ ((head : Header) × IsSealed head image)
  any_unfinished (inl blank) = inl blank
  any_unfinished (inr sealed) = inr (sealed_found sealed)

  pub unfinished_not_opened : IsBlank image ⊎ IsSealedOf product image → IsOpenedOf product limit image → ⊥
  unfinished_not_opened none opened = unfinished_not_open limit image (any_unfinished none) opened.opened.gate

  found_not_blank : (head : Header) (text : PlacedText) → IsFoundWith head text → IsBlank image → ⊥
  found_not_blank head text (inl opened) blank = blank_not_open image blank opened.gate
  found_not_blank head text (inr sealed) blank = blank_not_sealed head image blank sealed.0

  -- the text with which an image is found is one
  one_found : (head other : Header) (a b : PlacedText) → IsFoundWith head a → IsFoundWith other b → a ≡ b
  one_found head other a b (inl x) (inl y) = (one_opened limit image head other a b x y).1
  one_found head other a b (inl x) (inr y) = absurd (y.0.not_open x.gate.opened)
  one_found head other a b (inr x) (inl y) = absurd (x.0.not_open y.gate.opened)
  one_found head other a b (inr x) (inr y) = x.1 ∙ ap header_text (one_header image head other x.0.header y.0.header) ∙ sym y.1

  found_not_foreign : (head : Header) (text : PlacedText) (at : ℕ) → IsFoundWith head text → IsForeignAt image at → ⊥
  found_not_foreign head text at (inl opened) is = is.foreign.not_journal opened.gate
  found_not_foreign head text at (inr sealed) is = is.foreign.not_sealed head sealed.0

  found_not_bad : (head : Header) (text : PlacedText) (at : ℕ) → IsFoundWith head text → IsBadAt limit image at → ⊥
  found_not_bad head text at (inl opened) is = opened_not_bad limit image head text at opened is
  found_not_bad head text at (inr sealed) is = sealed.0.not_open (bad_journal limit image at is).opened

  none_err : (e : StartFault) → IsBlank image ⊎ IsSealedOf product image → IsStartFault product limit image e → (e ≡ fault.Store → ⊥) → ⊥
  none_err fault.Store none is told = told refl
  none_err (fault.NotAJournal at) none is told = none_looked limit image (fault.NotAJournal at) (any_unfinished none) is told
  none_err (fault.Bad at) none is told = none_looked limit image (fault.Bad at) (any_unfinished none) is told
  none_err (fault.ProductDiffers at) (inl blank) is told = found_not_blank is.head is.text is.found blank
  none_err (fault.ProductDiffers at) (inr (version, sealed)) is told =
      is.other (ap (λ (t : PlacedText). t.bytes) (one_found is.head (in_version version product) is.text (header_text (in_version version product)) is.found (inr (sealed, refl))))

  some_err : (e : StartFault) → IsOpenedOf product limit image → IsStartFault product limit image e → (e ≡ fault.Store → ⊥) → ⊥
  some_err fault.Store found is told = told refl
  some_err (fault.NotAJournal at) found is told = is.foreign.not_journal found.opened.gate
  some_err (fault.Bad at) found is told = opened_not_bad limit image found.head found.placed at found.opened is
  some_err (fault.ProductDiffers at) found is told =
      is.other (ap (λ (t : PlacedText). t.bytes) (one_found is.head found.head is.text found.placed is.found (inl found.opened)) ∙ found.is)

  one_other : (at at' : ℕ) → HasOtherText product limit image at → HasOtherText product limit image at' → at ≡ at'
  one_other at at' x y =
      x.place ∙ ap (λ (t : PlacedText). t.at + first_difference t.bytes product) (one_found x.head y.head x.text y.text x.found y.found) ∙ sym y.place

  err_err : (e f : StartFault) → IsStartFault product limit image e → IsStartFault product limit image f → (e ≡ fault.Store → ⊥) → (f ≡ fault.Store → ⊥) → e ≡ f
  err_err fault.Store f x y told told' = absurd (told refl)
  err_err (fault.NotAJournal at) fault.Store x y told told' = absurd (told' refl)
  err_err (fault.NotAJournal at) (fault.NotAJournal at') x y told told' = ap fault.NotAJournal (one_foreign limit image at at' x y)
  err_err (fault.NotAJournal at) (fault.Bad at') x y told told' = absurd (x.foreign.not_journal (bad_journal limit image at' y))
  err_err (fault.NotAJournal at) (fault.ProductDiffers at') x y told told' = absurd (found_not_foreign y.head y.text at y.found x)
  err_err (fault.Bad at) fault.Store x y told told' = absurd (told' refl)
  err_err (fault.Bad at) (fault.NotAJournal at') x y told told' = absurd (y.foreign.not_journal (bad_journal limit image at x))
  err_err (fault.Bad at) (fault.Bad at') x y told told' = ap fault.Bad (one_bad limit image at at' x y)
  err_err (fault.Bad at) (fault.ProductDiffers at') x y told told' = absurd (found_not_bad y.head y.text at y.found x)
  err_err (fault.ProductDiffers at) fault.Store x y told told' = absurd (told' refl)
  err_err (fault.ProductDiffers at) (fault.NotAJournal at') x y told told' = absurd (found_not_foreign x.head x.text at' x.found y)
  err_err (fault.ProductDiffers at) (fault.Bad at') x y told told' = absurd (found_not_bad x.head x.text at' x.found y)
  err_err (fault.ProductDiffers at) (fault.ProductDiffers at') x y told told' = ap fault.ProductDiffers (one_other at at' x y)

  pub one_answer : (a b : Result (Option Standing) StartFault) → Looks product limit image a → Looks product limit image b → (a ≡ Err fault.Store → ⊥) → (b ≡ Err fault.Store → ⊥) → a ≡ b
  one_answer (Ok None) (Ok None) x y told told' = refl
  one_answer (Ok None) (Ok (Some s)) x y told told' = absurd (unfinished_not_opened x y.0)
  one_answer (Ok None) (Err e) x y told told' = absurd (none_err e x y (not_store e told'))
  one_answer (Ok (Some s)) (Ok None) x y told told' = absurd (unfinished_not_opened y x.0)
  one_answer (Ok (Some s)) (Ok (Some s')) (found, is) (found', is') told told' =
      ap (λ (s : Standing). Ok (Some s)) (is ∙ one_standing limit image found.head found'.head found.placed found'.placed found.opened found'.opened ∙ sym is')
  one_answer (Ok (Some s)) (Err e) x y told told' = absurd (some_err e x.0 y (not_store e told'))
  one_answer (Err e) (Ok None) x y told told' = absurd (none_err e y x (not_store e told))
  one_answer (Err e) (Ok (Some s)) x y told told' = absurd (some_err e y.0 x (not_store e told))
  one_answer (Err e) (Err f) x y told told' = ap Err (err_err e f x y (not_store e told) (not_store f told'))

-- ---- what keeps records is opened

-- with its last text
pub journal_opened : (head : Header) (limit : ℕ) (image text : List ℕ) (records : List Record) → length head.text ≤ MOST_TEXT → HasLastText head records text → IsJournal head limit records image → IsOpenedOf text limit image
journal_opened head limit image text records few last j =
    record { head = head; placed = last_text head records; opened = last_opened head limit image records few last.inside j; is = last.is }

pub not_refused : (head : Header) (image text : List ℕ) (limit : ℕ) (records : List Record) (e : StartFault) → length head.text ≤ MOST_TEXT → HasLastText head records text → Keeps head limit records image → IsStartFault text limit image e → (e ≡ fault.Store → ⊥) → ⊥
not_refused head image text limit records e few last (inl journal) is told = some_err text limit image e (journal_opened head limit image text records few last journal) is told
not_refused head image text limit records e few last (inr (none, unfinished)) is told = elim unfinished.unfinished [
  | inl blank ↦ none_err text limit image e (inl blank.0) is told
  | inr sealed ↦ none_err text limit image e (inr (head.version, subst (λ (l : List ℕ). IsSealed (in_version head.version l) image) (unfinished_text head records text none last) sealed)) is told
]

-- ---- gate and header in one write

-- this image keeps nothing
none_200 : (head : Header) (limit : ℕ) (ps : List Record) → Keeps head limit ps (200 ∷ 200 ∷ []) → ⊥
none_200 head limit ps (inl journal) = omega (arith, ap (λ (l : List ℕ). get_or l 0 0) journal.is)
none_200 head limit ps (inr (none, u)) = elim u.unfinished [
  | inl blank ↦ elim blank.0 [
    | inl short ↦ absurd (omega (arith, short))
    | inr closed ↦ absurd (omega (arith, closed.0))
  ]
  | inr sealed ↦ absurd (omega (arith, sealed.header.inside))
]

torn_200 : (n : ℕ) → 2 ≤ n → Torn 0 n (0 ∷ []) (200 ∷ 200 ∷ [])
torn_200 n two = record {
  same = λ i lt outside. ⊎_elim (λ before. absurd (omega (arith, before))) (λ behind. absurd (omega (arith, behind, lt, two))) outside;
  no_shorter = omega arith;
  no_longer = omega (arith, two);
}

pub at_once_refuted : (head : Header) (limit n : ℕ) → 2 ≤ n → ((left : List ℕ) → Torn 0 n (0 ∷ []) left → Keeps head limit [] left) → ⊥
at_once_refuted head limit n two all = none_200 head limit [] (all (200 ∷ 200 ∷ []) (torn_200 n two))
