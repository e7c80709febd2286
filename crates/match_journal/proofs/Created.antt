-- The images of a creation, from nothing to a journal.
use Rattle.std.proofs.Common.{◌≡◌, ◌≢◌, inl, inr, ℕ, ◌+◌, ◌-◌, ◌<◌, ◌≤◌, max, List, [], ◌∷◌, ◌++◌, length, get_or, drop, refl, sym, ◌∙◌, ap, subst, arith, append_assoc, length-append, length-drop}
use Rattle.std.specs.Int.{w32, to_be_bytes}
use Rattle.std.specs.List.{flat_map}
use Rattle.std.proofs.lemmas.List.{append-nil, drop_all, drop_more, drop-drop, take-append-drop, take_at, get_or-append_right}
use Rattle.std.proofs.lemmas.Bool.{cases_eq}
use Rattle.gx_station.specs.Disk.{Torn, written}
use Rattle.match_journal.specs.Journal.{Header, Record, IsJournal, header, in_version, magic, open_record}
use Rattle.match_journal.specs.Classes.{HasHeader, HasOpenGate, IsBlank, IsSealed, IsUnfinished, Keeps, KeepsOf}
use Rattle.match_journal.specs.HeaderLaws.{length-magic, length-header}
use Rattle.match_journal.specs.Inner.Fronts.{IsClosed, IsMade}
use Rattle.match_journal.specs.declared.limits.TheConstants.{MOST_TEXT, MOST_UNFINISHED}
use Rattle.match_journal.specs.declared.version.Version.TheVariants.{Second}
use Rattle.match_journal.proofs.Records.{written_behind, torn_gate, written_gate, length-size}

-- ---- headers

-- an image with the header after its first byte, and a byte after that
pub has_header : (head : Header) (behind : List ℕ) (gate last : ℕ) → length head.text ≤ MOST_TEXT → HasHeader head (gate ∷ (header head ++ last ∷ behind))
has_header head behind gate last few = record {
  few = few;
  stands = take_at (header head) (last ∷ behind) (12 + length head.text) (length-header head);
  inside = omega (arith, length-append (header head) (last ∷ behind), length-header head);
}

pub last_byte : (head : Header) (behind : List ℕ) (gate last : ℕ) → get_or (gate ∷ (header head ++ last ∷ behind)) (13 + length head.text) 0 ≡ last
last_byte head behind gate last =
    let none : 13 + length head.text - (13 + length head.text) ≡ 0 = omega arith in
    get_or-append_right (gate ∷ header head) (last ∷ behind) (13 + length head.text) (13 + length head.text) 0 (omega (arith, length-header head)) (omega arith) ∙ ap (λ k. get_or (last ∷ behind) k 0) none

-- the other way round
pub headed : (head : Header) (image : List ℕ) → HasHeader head image → image ≡ get_or image 0 0 ∷ (header head ++ get_or image (13 + length head.text) 0 ∷ drop (14 + length head.text) image)
headed head image h =
    let n = length head.text in
    let behind : drop (12 + n) (drop 1 image) ≡ get_or image (13 + n) 0 ∷ drop (14 + n) image =
    drop-drop (12 + n) 1 image ∙ ap (λ k. drop k image) (omega arith) ∙ drop_more image (13 + n) 0 (omega (arith, h.inside)) ∙ ap (λ k. get_or image (13 + n) 0 ∷ drop k image) (omega arith) in
    drop_more image 0 0 (omega (arith, h.inside))
    ∙ ap (λ (l : List ℕ). get_or image 0 0 ∷ l) (sym (take-append-drop (12 + n) (drop 1 image)) ∙ ap (λ (l : List ℕ). l ++ drop (12 + n) (drop 1 image)) h.stands ∙ ap (λ (l : List ℕ). header head ++ l) behind)

-- ---- an unfinished creation that is not too long

pub record IsNew (text : List ℕ) (limit : ℕ) (left : List ℕ) : Type 0 where
  pub keeps : KeepsOf text limit [] left
  pub few : length left ≤ MOST_UNFINISHED

-- an image that keeps nothing, with a header of this text
pub nothing_kept : (head : Header) (text : List ℕ) (limit : ℕ) (left : List ℕ) → head.text ≡ text → Keeps head limit [] left → KeepsOf text limit [] left
nothing_kept head text limit left is keeps = record { head = head; last = record { is = is; inside = tt }; keeps = keeps }

blank_new : (text : List ℕ) (limit : ℕ) (left : List ℕ) → IsBlank left → length left ≤ MOST_UNFINISHED → IsNew text limit left
blank_new text limit left blank few = record { keeps = nothing_kept (in_version Second text) text limit left refl (inr (refl, record { unfinished = inl (blank, refl); few = few })); few = few }

-- ---- the first gate is made

pub torn_empty : (text : List ℕ) (limit : ℕ) (image left : List ℕ) → length image ≤ 1 → Torn 0 1 image left → IsNew text limit left
torn_empty text limit image left short torn = blank_new text limit left (inl (omega (arith, short, torn.no_longer))) (omega (arith, short, torn.no_longer))

pub written_empty : (image : List ℕ) → length image ≤ 1 → written 0 (0 ∷ []) image ≡ 0 ∷ []
written_empty image short = ap (λ (l : List ℕ). 0 ∷ l) (drop_all 1 image short)

-- ---- the header is put after it

-- what is written after the first gate
abbrev pub heading : Header → List ℕ
heading head = (magic head.version ++ to_be_bytes w32 (length head.text)) ++ (head.text ++ 0 ∷ [])

pub length-heading : (head : Header) → length (heading head) ≡ 13 + length head.text
length-heading head =
    omega (arith, length-append (magic head.version ++ to_be_bytes w32 (length head.text)) (head.text ++ 0 ∷ []), length-append (magic head.version) (to_be_bytes w32 (length head.text)), length-magic head.version, length-size (length head.text), length-append head.text (0 ∷ []))

pub torn_header : (head : Header) (limit : ℕ) (image left : List ℕ) → length head.text ≤ MOST_TEXT → IsClosed image → Torn 1 (length (heading head)) image left → IsNew head.text limit left
torn_header head limit image left short closed torn =
    let some : 0 < length image = omega (arith, ap length closed.is) in
    let few : length left ≤ MOST_UNFINISHED = omega (arith, torn.no_longer, closed.few, short, length-heading head) in
    blank_new head.text limit left (inr (torn.same 0 some (inl (omega arith)) ∙ ap (λ (l : List ℕ). get_or l 0 0) closed.is, few)) few

-- all but the first gate, in an image of this length
pub record IsReady (head : Header) (known : ℕ) (image : List ℕ) : Type 0 where
  pub gate : ℕ
  pub behind : List ℕ
  pub is : image ≡ gate ∷ (header head ++ 0 ∷ behind)
  pub few : length image ≤ MOST_UNFINISHED
  pub length_is : length image ≡ known

headed_length : (head : Header) (behind : List ℕ) (gate last : ℕ) → length (gate ∷ (header head ++ last ∷ behind)) ≡ 14 + length head.text + length behind
headed_length head behind gate last = omega (arith, length-append (header head) (last ∷ behind), length-header head)

pub written_header : (head : Header) (image : List ℕ) → length head.text ≤ MOST_TEXT → IsClosed image → IsReady head (max (length image) (14 + length head.text)) (written 1 (heading head) image)
written_header head image short closed =
    let behind : List ℕ = drop (length (heading head)) closed.rest in
    let m = magic head.version in
    let size = to_be_bytes w32 (length head.text) in
    let is : written 1 (heading head) image ≡ 0 ∷ (header head ++ 0 ∷ behind) =
    ap (written 1 (heading head)) closed.is
    ∙ written_behind [] 0 closed.rest (heading head)
    ∙ ap (λ (l : List ℕ). 0 ∷ l)
    (append_assoc (m ++ size) (head.text ++ 0 ∷ []) behind
    ∙ ap (λ (l : List ℕ). (m ++ size) ++ l) (append_assoc head.text (0 ∷ []) behind)
    ∙ append_assoc m size (head.text ++ 0 ∷ behind)
    ∙ ap (λ (l : List ℕ). m ++ l) (sym (append_assoc size head.text (0 ∷ behind)))
    ∙ sym (append_assoc m (size ++ head.text) (0 ∷ behind))) in
    let long : length (written 1 (heading head) image) ≡ max (length image) (14 + length head.text) =
    omega (arith, ap length is, headed_length head behind 0 0, length-drop (length (heading head)) closed.rest, length-heading head, ap length closed.is) in
    record { gate = 0; behind = behind; is = is; few = omega (arith, long, closed.few, short); length_is = long }

-- ---- the first gate is opened

made : (head : Header) (limit : ℕ) (behind : List ℕ) → 13 + length head.text < limit → IsJournal head limit [] (1 ∷ (header head ++ 0 ∷ behind))
made head limit behind fits = record {
  gate = 0;
  behind = behind;
  is = ap (λ (l : List ℕ). 1 ∷ (l ++ 0 ∷ behind)) (sym (append-nil (header head)));
  closed = omega arith;
  sized = tt;
  in_limit = omega (arith, fits, length-append (header head) [], length-header head);
}

pub torn_first : (head : Header) (limit known : ℕ) (image left : List ℕ) → length head.text ≤ MOST_TEXT → 13 + length head.text < limit → IsReady head known image → Torn 0 1 image left → IsNew head.text limit left
torn_first head limit known image left short fits ready torn =
    let tail = header head ++ 0 ∷ ready.behind in
    let gate = get_or left 0 0 in
    let few : length left ≤ MOST_UNFINISHED = omega (arith, torn.no_longer, ready.few) in
    let is : left ≡ gate ∷ tail = torn_gate [] ready.gate tail left (subst (λ (l : List ℕ). Torn 0 1 l left) ready.is torn) in
    elim (cases_eq gate 1) [
      | inl is_open ↦ record { keeps = nothing_kept head head.text limit left refl (inl (subst (IsJournal head limit []) (sym (is ∙ ap (λ g. g ∷ tail) is_open)) (made head limit ready.behind fits))); few = few }
      | inr shut ↦ elim (cases_eq gate 0) [
        | inl zero ↦ blank_new head.text limit left (inr (zero, few)) few
        | inr other ↦
            let sealed : IsSealed head left = record {
              not_closed = other;
              not_open = shut;
              header = subst (HasHeader head) (sym is) (has_header head ready.behind gate 0 short);
              closed = ap (λ (l : List ℕ). get_or l (13 + length head.text) 0) is ∙ last_byte head ready.behind gate 0;
            } in
            record { keeps = nothing_kept head head.text limit left refl (inr (refl, record { unfinished = inr sealed; few = few })); few = few }
      ]
    ]

pub written_first : (head : Header) (limit known : ℕ) (image : List ℕ) → 13 + length head.text < limit → IsReady head known image → IsMade head limit known (written 0 (1 ∷ []) image)
written_first head limit known image fits ready =
    let is : written 0 (1 ∷ []) image ≡ 1 ∷ (header head ++ 0 ∷ ready.behind) = ap (written 0 (1 ∷ [])) ready.is ∙ written_gate [] ready.gate (header head ++ 0 ∷ ready.behind) 1 in
    record {
      journal = subst (IsJournal head limit []) (sym is) (made head limit ready.behind fits);
      length_is = omega (arith, ap length is, ap length ready.is, headed_length head ready.behind ready.gate 0, headed_length head ready.behind 1 0, ready.length_is);
    }

-- ---- the classes

journal_first : (head : Header) (limit : ℕ) (image : List ℕ) (records : List Record) → IsJournal head limit records image → get_or image 0 0 ≡ 1
journal_first head limit image records journal = ap (λ (l : List ℕ). get_or l 0 0) journal.is

pub journal_length : (head : Header) (limit : ℕ) (image : List ℕ) (records : List Record) → IsJournal head limit records image → 13 ≤ length image
journal_length head limit image records journal =
    let rest : List ℕ = flat_map open_record records in
    omega (arith, ap length journal.is, length-append (1 ∷ (header head ++ rest)) (journal.gate ∷ journal.behind), length-append (header head) rest, length-header head)

-- what is no journal keeps nothing
pub none_kept : (head : Header) (limit : ℕ) (image : List ℕ) (records : List Record) → Keeps head limit records image → get_or image 0 0 ≢ 1 → (records ≡ []) × IsUnfinished head image
none_kept head limit image records (inl journal) not_one = absurd (not_one (journal_first head limit image records journal))
none_kept head limit image records (inr unfinished) not_one = unfinished

pub empty_keeps : (head : Header) (limit : ℕ) (image : List ℕ) (records : List Record) → Keeps head limit records image → length image ≤ 1 → records ≡ []
empty_keeps head limit image records (inl journal) short = absurd (omega (arith, journal_length head limit image records journal, short))
empty_keeps head limit image records (inr unfinished) short = unfinished.0

pub closed_keeps : (head : Header) (limit : ℕ) (image : List ℕ) (records : List Record) → Keeps head limit records image → get_or image 0 0 ≡ 0 → records ≡ []
closed_keeps head limit image records keeps closed = (none_kept head limit image records keeps (λ one. absurd (cc (closed, one)))).0

-- an image whose first gate is closed, and which is not empty
pub closed_of : (image : List ℕ) → 1 ≤ length image → get_or image 0 0 ≡ 0 → length image ≤ MOST_UNFINISHED → IsClosed image
closed_of image some zero few = record { rest = drop 1 image; is = drop_more image 0 0 (omega (arith, some)) ∙ ap (λ g. g ∷ drop 1 image) zero; few = few }

pub sealed_ready : (head : Header) (image : List ℕ) → IsSealed head image → length image ≤ MOST_UNFINISHED → IsReady head (length image) image
sealed_ready head image sealed few = record {
  gate = get_or image 0 0;
  behind = drop (14 + length head.text) image;
  is = headed head image sealed.header ∙ ap (λ g. get_or image 0 0 ∷ (header head ++ g ∷ drop (14 + length head.text) image)) sealed.closed;
  few = few;
  length_is = refl;
}

-- a sealed image whose first gate is opened is a journal, however long it is
pub written_sealed : (head : Header) (limit : ℕ) (image : List ℕ) → 13 + length head.text < limit → IsSealed head image → IsJournal head limit [] (written 0 (1 ∷ []) image)
written_sealed head limit image fits sealed =
    let behind = drop (14 + length head.text) image in
    let first = get_or image 0 0 in
    let is : image ≡ first ∷ (header head ++ 0 ∷ behind) = headed head image sealed.header ∙ ap (λ g. first ∷ (header head ++ g ∷ behind)) sealed.closed in
    subst (IsJournal head limit []) (sym (ap (written 0 (1 ∷ [])) is ∙ written_gate [] first (header head ++ 0 ∷ behind) 1)) (made head limit behind fits)

-- what a blank image keeps
pub blank_keeps : (head : Header) (limit : ℕ) (image : List ℕ) → head.version ≡ Second → IsBlank image → Keeps head limit [] image
blank_keeps head limit image second blank = inr (
  refl,
  record {
    unfinished = inl (blank, second);
    few = elim blank [
      | inl short ↦ omega (arith, short)
      | inr closed ↦ closed.1
    ];
  },
)

pub opened_keeps : (head : Header) (limit : ℕ) (image : List ℕ) (records : List Record) → Keeps head limit records image → HasOpenGate image → 1 < length image → IsJournal head limit records image
opened_keeps head limit image records (inl journal) opened long = journal
opened_keeps head limit image records (inr (none, unfinished)) opened long = elim unfinished.unfinished [
  | inl blank ↦ elim blank.0 [
    | inl short ↦ absurd (omega (arith, long, short))
    | inr closed ↦ absurd (cc (closed.0, opened.opened))
  ]
  | inr sealed ↦ absurd (sealed.not_open opened.opened)
]
