-- The heads of a journal's records: an image has one list of good heads, and one place of a bad one.
use Rattle.std.proofs.Common.{◌≡◌, ◌≢◌, ◌⊎◌, inl, inr, ⊎_elim, ℕ, ◌+◌, ◌≤◌, List, [], ◌∷◌, ◌++◌, length, get_or, take, drop, Option, Some, None, Result, Ok, Err, refl, sym, subst, ◌∙◌, ap, arith, append_assoc, append-nil, length-append, length-drop}
use Rattle.std.specs.Int.{w32, to_be_bytes}
use Rattle.std.specs.List.{flat_map, AllByRecursion}
use Rattle.std.proofs.lemmas.List.{take-append-drop, take_at, drop_at, drop-drop, get_or_at, get_or-take, get_or-drop, append_cancel_left, length-take-le}
use Rattle.match_journal.specs.Journal.{Header, IsJournal, IsRecord, Record, has_kind, kind_byte, version_of, journal_front, header, magic, open_record}
use Rattle.match_journal.specs.HeaderLaws.{length-header, take-magic, header_magic, front_version}
use Rattle.match_journal.specs.Classes.{HasHeader, HasOpenGate}
use Rattle.match_journal.specs.BadRecords.{BeginsWithRecords, HasBadHeadAt}
use Rattle.match_journal.specs.Walking.{IsHead, Walks}
use Rattle.match_journal.specs.declared.entry.Entry.{Entry}
use Rattle.match_journal.specs.declared.faults.WalkFault.{WalkFault}
use Rattle.match_journal.specs.declared.faults.WalkFault.TheVariants as walk
use Rattle.match_journal.specs.declared.limits.TheConstants.{LEAST_LIMIT, MOST_TEXT}
use Rattle.match_journal.specs.declared.version.Version.{Version}
use Rattle.match_journal.proofs.Records.{journal_front-push, length-record, all-push}
use Rattle.match_journal.proofs.Walked.{front-split, all-behind, one_size, one_kind, below}
use Rattle.match_journal.proofs.Created.{has_header}

-- ---- one answer at a gate

head_opened : (image : List ℕ) (limit gate : ℕ) (entry : Entry) → IsHead image limit gate entry → get_or image gate 0 ≡ 1
head_opened image limit gate entry head =
    ap (λ k. get_or image k 0) zero_more ∙ sym (get_or-drop gate image 0 0) ∙ sym (get_or-take 6 (drop gate image) 0 0 (omega arith)) ∙ ap (λ (l : List ℕ). get_or l 0 0) head.stands
  where
    zero_more : gate ≡ gate + 0
    zero_more = omega arith

one_entry : (image : List ℕ) (limit gate : ℕ) (a b : Entry) → IsHead image limit gate a → IsHead image limit gate b → a ≡ b
one_entry image limit gate a b x y =
    let size : a.length ≡ b.length = one_size a.length b.length (below a.kind a.length x.fits.few) (below b.kind b.length y.fits.few) (ap (drop 2) (sym x.stands ∙ y.stands)) in
    let at : a.at ≡ b.at = x.at_is ∙ sym y.at_is in
    let same : a.kind ≡ b.kind = one_kind a.kind b.kind (ap (λ (l : List ℕ). get_or l 1 0) (sym x.stands ∙ y.stands)) in
    λ i. record { at = at i; kind = same i; length = size i }

pub one_walk : (image : List ℕ) (limit gate : ℕ) (a b : Result (Option Entry) WalkFault) → Walks image limit gate a → Walks image limit gate b → (a ≡ Err walk.Store → ⊥) → (b ≡ Err walk.Store → ⊥) → a ≡ b
one_walk image limit gate (Err walk.Store) b x y told told' = absurd (told refl)
one_walk image limit gate (Ok None) (Err walk.Store) x y told told' = absurd (told' refl)
one_walk image limit gate (Ok None) (Ok None) x y told told' = refl
one_walk image limit gate (Ok None) (Ok (Some e)) x y told told' = absurd (x (head_opened image limit gate e y))
one_walk image limit gate (Ok None) (Err (walk.Bad at)) x y told told' = absurd (x y.opened)
one_walk image limit gate (Ok (Some e)) (Err walk.Store) x y told told' = absurd (told' refl)
one_walk image limit gate (Ok (Some e)) (Ok None) x y told told' = absurd (y (head_opened image limit gate e x))
one_walk image limit gate (Ok (Some e)) (Ok (Some f)) x y told told' = ap (λ (e : Entry). Ok (Some e)) (one_entry image limit gate e f x y)
one_walk image limit gate (Ok (Some e)) (Err (walk.Bad at)) x y told told' = absurd (y.no_head e x)
one_walk image limit gate (Err (walk.Bad at)) (Err walk.Store) x y told told' = absurd (told' refl)
one_walk image limit gate (Err (walk.Bad at)) (Ok None) x y told told' = absurd (y x.opened)
one_walk image limit gate (Err (walk.Bad at)) (Ok (Some e)) x y told told' = absurd (x.no_head e y)
one_walk image limit gate (Err (walk.Bad at)) (Err (walk.Bad at')) x y told told' = ap (λ k. Err (walk.Bad k)) (x.at_is ∙ sym y.at_is)

-- at an open gate is no closed one
pub not_both : (image : List ℕ) (limit gate : ℕ) (entry : Entry) → IsHead image limit gate entry → get_or image gate 0 ≢ 1 → ⊥
not_both image limit gate entry at_head shut =
    let none : Result (Option Entry) WalkFault = Ok None in
    let same : none ≡ Ok (Some entry) = one_walk image limit gate none (Ok (Some entry)) shut at_head (λ e. cc e) (λ e. cc e) in
    cc same

-- ---- two lists of records

-- two lists whose fronts are as long
pub same_front : (p q x y : List ℕ) → length p ≡ length q → p ++ x ≡ q ++ y → (p ≡ q) × (x ≡ y)
same_front p q x y size e = (
  sym (take_at p x (length q) size) ∙ ap (take (length q)) e ∙ take_at q y (length q) refl,
  sym (drop_at p x (length q) size) ∙ ap (drop (length q)) e ∙ drop_at q y (length q) refl,
)

-- two records with one kind and one payload
pub one_record : (p q : Record) → p.kind ≡ q.kind → p.payload ≡ q.payload → p ≡ q
one_record p q kind payload = λ i. record { kind = kind i; payload = payload i }

-- ---- an open gate and a header

headed_opened : (head : Header) (image behind : List ℕ) (last : ℕ) → length head.text ≤ MOST_TEXT → image ≡ 1 ∷ (header head ++ last ∷ behind) → HasOpenGate image × HasHeader head image
headed_opened head image behind last few is =
    let h : HasHeader head image = subst (HasHeader head) (sym is) (has_header head behind 1 last few) in
    (record { opened = ap (λ (l : List ℕ). get_or l 0 0) is; version = head.version; magic = header_magic head image h }, h)

-- so is what goes on after some records
pub front_opened : (head : Header) (image : List ℕ) (records : List Record) (gate : ℕ) (behind : List ℕ) → length head.text ≤ MOST_TEXT → image ≡ journal_front head records ++ gate ∷ behind → HasOpenGate image × HasHeader head image
front_opened head image [] gate behind few is = headed_opened head image behind gate few (is ∙ ap (λ (l : List ℕ). 1 ∷ (l ++ gate ∷ behind)) (append-nil (header head)))
front_opened head image (p ∷ ps) gate behind few is =
    headed_opened head image (kind_byte p.kind ∷ (((to_be_bytes w32 (length p.payload) ++ p.payload) ++ flat_map open_record ps) ++ gate ∷ behind)) 1 few
    (is ∙ ap (λ (l : List ℕ). 1 ∷ l) (append_assoc (header head) (open_record p ++ flat_map open_record ps) (gate ∷ behind)))

-- ---- fronts

pub length-first : (head : Header) → length (journal_front head []) ≡ 13 + length head.text
length-first head = omega (arith, length-header head, length-append (header head) (let none : List ℕ = [] in none))

pub length-push : (head : Header) (before : List Record) (r : Record) → length (journal_front head (before ++ r ∷ [])) ≡ length (journal_front head before) + 6 + length r.payload
length-push head before r = omega (arith, ap length (journal_front-push head before r), length-append (journal_front head before) (open_record r), length-record r)

-- a good first gate and header
pub opened_begins : (head : Header) (limit : ℕ) (image : List ℕ) → HasOpenGate image → HasHeader head image → LEAST_LIMIT ≤ limit → BeginsWithRecords head limit [] image
opened_begins head limit [] opened headed least = absurd (omega (arith, headed.inside))
opened_begins head limit (x ∷ xs) opened headed least = record {
  rest = drop (12 + length head.text) xs;
  is =
      ap (λ b. b ∷ xs) opened.opened
      ∙ ap (λ (l : List ℕ). 1 ∷ l) (sym (take-append-drop (12 + length head.text) xs))
      ∙ ap (λ (l : List ℕ). 1 ∷ (l ++ drop (12 + length head.text) xs)) (headed.stands ∙ sym (append-nil (header head)));
  gate_inside = omega (arith, headed.inside, length-drop (12 + length head.text) xs);
  sized = tt;
  in_limit = omega (arith, length-first head, headed.few, least);
}

-- so does what begins with some records
pub begins_opened : (head : Header) (limit : ℕ) (records : List Record) (image : List ℕ) → length head.text ≤ MOST_TEXT → BeginsWithRecords head limit records image → HasOpenGate image × HasHeader head image
begins_opened head limit records image few begins = opened begins.rest begins.is begins.gate_inside
  where
    opened : (rest : List ℕ) → image ≡ journal_front head records ++ rest → 1 ≤ length rest → HasOpenGate image × HasHeader head image
    opened [] is some = absurd (omega (arith, some))
    opened (gate ∷ behind) is some = front_opened head image records gate behind few is

-- a journal begins with its records
pub journal_begins : (head : Header) (limit : ℕ) (records : List Record) (image : List ℕ) → IsJournal head limit records image → BeginsWithRecords head limit records image
journal_begins head limit records image journal = record {
  rest = journal.gate ∷ journal.behind;
  is = journal.is;
  gate_inside = omega arith;
  sized = journal.sized;
  in_limit = journal.in_limit;
}

-- and so with none of them
pub journal_begins_none : (head : Header) (limit : ℕ) (records : List Record) (image : List ℕ) → IsJournal head limit records image → BeginsWithRecords head limit [] image
journal_begins_none head limit records image journal =
    let front = journal_front head [] in
    let all = flat_map open_record records in
    record {
      rest = all ++ journal.gate ∷ journal.behind;
      is =
          journal.is
          ∙ ap (λ (l : List ℕ). l ++ journal.gate ∷ journal.behind) (front-split head [] records)
          ∙ append_assoc front all (journal.gate ∷ journal.behind);
      gate_inside = omega (arith, length-append all (journal.gate ∷ journal.behind));
      sized = tt;
      in_limit = omega (arith, journal.in_limit, ap length (front-split head [] records), length-append front all);
    }

-- the byte of the gate after the records
gate_byte : (front : List ℕ) (image : List ℕ) (gate : ℕ) (behind : List ℕ) → image ≡ front ++ gate ∷ behind → get_or image (length front) 0 ≡ gate
gate_byte front image gate behind is = ap (λ (l : List ℕ). get_or l (length front) 0) is ∙ get_or_at front gate behind 0 (length front) refl

pub gate_closed : (head : Header) (limit : ℕ) (records : List Record) (image : List ℕ) → IsJournal head limit records image → get_or image (length (journal_front head records)) 0 ≢ 1
gate_closed head limit records image journal one = journal.closed (sym (gate_byte (journal_front head records) image journal.gate journal.behind journal.is) ∙ one)

-- no record follows
pub begins_closed : (head : Header) (limit : ℕ) (records : List Record) (image : List ℕ) → BeginsWithRecords head limit records image → get_or image (length (journal_front head records)) 0 ≢ 1 → IsJournal head limit records image
begins_closed head limit records image begins shut = closed begins.rest begins.is begins.gate_inside
  where
    closed : (rest : List ℕ) → image ≡ journal_front head records ++ rest → 1 ≤ length rest → IsJournal head limit records image
    closed [] is some = absurd (omega (arith, some))
    closed (gate ∷ behind) is some = record {
      gate = gate;
      behind = behind;
      is = is;
      closed = λ one. shut (gate_byte (journal_front head records) image gate behind is ∙ one);
      sized = begins.sized;
      in_limit = begins.in_limit;
    }

-- what begins with a header tells its version
pub begins_version : (head : Header) (limit : ℕ) (records : List Record) (image : List ℕ) → BeginsWithRecords head limit records image → version_of image ≡ head.version
begins_version head limit records image begins =
    let size = to_be_bytes w32 (length head.text) in
    let rest : List ℕ = flat_map open_record records ++ begins.rest in
    front_version head.version image
    (ap (λ (l : List ℕ). take 8 (drop 1 l)) (begins.is ∙ ap (λ (l : List ℕ). 1 ∷ l) (append_assoc (header head) (flat_map open_record records) begins.rest ∙ append_assoc (magic head.version) (size ++ head.text) rest))
    ∙ take-magic head.version ((size ++ head.text) ++ rest))

-- ---- one record more

module _ (head : Header) (limit : ℕ) (before : List Record) (image : List ℕ) (begins : BeginsWithRecords head limit before image) (entry : Entry) (at_head : IsHead image limit (length (journal_front head before)) entry) where
  abbrev gate : ℕ
  gate = length (journal_front head before)

  abbrev payload : List ℕ
  payload = take entry.length (drop (gate + 6) image)

  abbrev tail : List ℕ
  tail = drop entry.length (drop (gate + 6) image)

  -- the record that stands there
  abbrev pub record_there : Record
  record_there = record { kind = entry.kind; payload = payload }

  pub payload_size : length payload ≡ entry.length
  payload_size = length-take-le entry.length (drop (gate + 6) image) (omega (arith, length-drop (gate + 6) image, at_head.fits.inside, at_head.at_is))

  at_gate : drop gate image ≡ begins.rest
  at_gate = ap (drop gate) begins.is ∙ drop_at (journal_front head before) begins.rest gate refl

  abbrev head_bytes : ℕ → List ℕ
  head_bytes n = 1 ∷ kind_byte entry.kind ∷ to_be_bytes w32 n

  head_is : take 6 begins.rest ≡ head_bytes (length payload)
  head_is = ap (take 6) (sym at_gate) ∙ at_head.stands ∙ ap head_bytes (sym payload_size)

  behind_head : drop 6 begins.rest ≡ payload ++ tail
  behind_head = ap (drop 6) (sym at_gate) ∙ drop-drop 6 gate image ∙ sym (take-append-drop entry.length (drop (gate + 6) image))

  rest_is : begins.rest ≡ open_record record_there ++ tail
  rest_is =
      sym (take-append-drop 6 begins.rest)
      ∙ ap (λ (l : List ℕ). l ++ drop 6 begins.rest) head_is
      ∙ ap (λ (l : List ℕ). head_bytes (length payload) ++ l) behind_head
      ∙ sym (append_assoc (head_bytes (length payload)) payload tail)

  pub begins_more : BeginsWithRecords head limit (before ++ record_there ∷ []) image
  begins_more = record {
    rest = tail;
    is =
        begins.is
        ∙ ap (λ (l : List ℕ). journal_front head before ++ l) rest_is
        ∙ sym (append_assoc (journal_front head before) (open_record record_there) tail)
        ∙ ap (λ (l : List ℕ). l ++ tail) (sym (journal_front-push head before record_there));
    gate_inside = omega (arith, length-drop entry.length (drop (gate + 6) image), length-drop (gate + 6) image, at_head.fits.inside, at_head.at_is);
    sized = all-push (IsRecord head.version) before record_there begins.sized record { known = ap (λ (v : Version). has_kind v entry.kind) (sym (begins_version head limit before image begins)) ∙ at_head.known; some = omega (arith, payload_size, at_head.fits.some); few = omega (arith, payload_size, at_head.fits.few) };
    in_limit = omega (arith, length-push head before record_there, payload_size, at_head.fits.in_limit, at_head.at_is);
  }

-- ---- the head of each record is good

module _ (head : Header) (limit : ℕ) (before : List Record) (r : Record) (more : List Record) (image : List ℕ) (begins : BeginsWithRecords head limit (before ++ r ∷ more) image) where
  abbrev entry_at : ℕ
  entry_at = length (journal_front head before)

  split : image ≡ journal_front head before ++ (flat_map open_record (r ∷ more) ++ begins.rest)
  split =
      begins.is
      ∙ ap (λ (l : List ℕ). l ++ begins.rest) (front-split head before (r ∷ more))
      ∙ append_assoc (journal_front head before) (flat_map open_record (r ∷ more)) begins.rest

  right : IsRecord head.version r
  right = (all-behind (IsRecord head.version) before (r ∷ more) begins.sized).0

  pub good_head : IsHead image limit entry_at (record { at = entry_at; kind = r.kind; length = length r.payload })
  good_head =
      let long : length (flat_map open_record (r ∷ more)) ≡ length r.payload + 6 + length (flat_map open_record more) = omega (arith, length-append (open_record r) (flat_map open_record more), length-record r) in
      record {
        at_is = refl;
        known = ap (λ (v : Version). has_kind v r.kind) (begins_version head limit (before ++ r ∷ more) image begins) ∙ right.known;
        stands = ap (take 6) (ap (drop entry_at) split ∙ drop_at (journal_front head before) (flat_map open_record (r ∷ more) ++ begins.rest) entry_at refl);
        fits = record {
          some = right.some;
          few = right.few;
          inside = omega (arith, long, ap length split, length-append (journal_front head before) (flat_map open_record (r ∷ more) ++ begins.rest), length-append (flat_map open_record (r ∷ more)) begins.rest, begins.gate_inside);
          in_limit = omega (arith, long, begins.in_limit, ap length (front-split head before (r ∷ more)), length-append (journal_front head before) (flat_map open_record (r ∷ more)));
        };
      }

-- ---- of the records with which one image begins, some lists are the front of others

abbrev pub IsBehind : List Record → List Record → Type 0
IsBehind xs ys = (more : List Record) × (ys ≡ xs ++ more)

cons_behind : (p q : Record) (ps qs : List Record) → p ≡ q → IsBehind ps qs → IsBehind (p ∷ ps) (q ∷ qs)
cons_behind p q ps qs same (more, is) = (more, ap (λ (l : List Record). q ∷ l) is ∙ ap (λ (x : Record). x ∷ (ps ++ more)) (sym same))

pub along : (v w : Version) (ps qs : List Record) (x y : List ℕ) → AllByRecursion (IsRecord v) ps → AllByRecursion (IsRecord w) qs → flat_map open_record ps ++ x ≡ flat_map open_record qs ++ y → IsBehind ps qs ⊎ IsBehind qs ps
along v w [] qs x y sized sized' e = inl (qs, refl)
along v w (p ∷ ps) [] x y sized sized' e = inr (p ∷ ps, refl)
along v w (p ∷ ps) (q ∷ qs) x y sized sized' e =
    let size : length p.payload ≡ length q.payload = one_size (length p.payload) (length q.payload) (below p.kind (length p.payload) sized.0.few) (below q.kind (length q.payload) sized'.0.few) (ap (λ (l : List ℕ). take 4 (drop 2 l)) e) in
    let rest : p.payload ++ (flat_map open_record ps ++ x) ≡ q.payload ++ (flat_map open_record qs ++ y) =
    sym (append_assoc p.payload (flat_map open_record ps) x) ∙ ap (drop 6) e ∙ append_assoc q.payload (flat_map open_record qs) y in
    let both = same_front p.payload q.payload _ _ size rest in
    let same = one_record p q (one_kind p.kind q.kind (ap (λ (l : List ℕ). get_or l 1 0) e)) both.0 in
    ⊎_elim (λ b. inl (cons_behind p q ps qs same b)) (λ b. inr (cons_behind q p qs ps (sym same) b)) (along v w ps qs x y sized.1 sized'.1 both.1)

pub begins_along : (head : Header) (limit : ℕ) (ps qs : List Record) (image : List ℕ) → BeginsWithRecords head limit ps image → BeginsWithRecords head limit qs image → IsBehind ps qs ⊎ IsBehind qs ps
begins_along head limit ps qs image a b =
    along head.version head.version ps qs a.rest b.rest a.sized b.sized (append_cancel_left (1 ∷ header head) _ _
    (sym (append_assoc (1 ∷ header head) (flat_map open_record ps) a.rest) ∙ sym a.is ∙ b.is ∙ append_assoc (1 ∷ header head) (flat_map open_record qs) b.rest))

-- ---- the place of a bad head

-- none stands where a record follows
pub followed : (head : Header) (limit : ℕ) (image : List ℕ) (at : ℕ) (bad : HasBadHeadAt head limit image at) (p : Record) (more : List Record) → BeginsWithRecords head limit (bad.before ++ p ∷ more) image → ⊥
followed head limit image at bad p more begins = bad.bad.no_head _ (good_head head limit bad.before p more image begins)

pub same_place : (head : Header) (limit : ℕ) (image : List ℕ) (at at' : ℕ) (a : HasBadHeadAt head limit image at) (b : HasBadHeadAt head limit image at') → IsBehind a.before b.before → at ≡ at'
same_place head limit image at at' a b ([], is) =
    a.bad.at_is ∙ ap (λ (l : List Record). length (journal_front head l)) (sym (is ∙ append-nil a.before)) ∙ sym b.bad.at_is
same_place head limit image at at' a b (p ∷ more, is) =
    absurd (followed head limit image at a p more (subst (λ (l : List Record). BeginsWithRecords head limit l image) is b.begins))

pub one_bad_head : (head : Header) (limit : ℕ) (image : List ℕ) (at at' : ℕ) → HasBadHeadAt head limit image at → HasBadHeadAt head limit image at' → at ≡ at'
one_bad_head head limit image at at' a b =
    ⊎_elim (λ t. same_place head limit image at at' a b t) (λ t. sym (same_place head limit image at' at b a t)) (begins_along head limit a.before b.before image a.begins b.begins)

-- a journal has no bad head
bad_behind : (head : Header) (limit : ℕ) (ps : List Record) (image : List ℕ) (at : ℕ) → IsJournal head limit ps image → (bad : HasBadHeadAt head limit image at) → IsBehind ps bad.before → ⊥
bad_behind head limit ps image at journal bad ([], is) =
    gate_closed head limit ps image journal (ap (λ (l : List Record). get_or image (length (journal_front head l)) 0) (sym (is ∙ append-nil ps)) ∙ bad.bad.opened)
bad_behind head limit ps image at journal bad (p ∷ more, is) =
    not_both image limit (length (journal_front head ps)) _ (good_head head limit ps p more image (subst (λ (l : List Record). BeginsWithRecords head limit l image) is bad.begins)) (gate_closed head limit ps image journal)

-- and no more good heads than records
pub no_more_heads : (head : Header) (limit : ℕ) (ps before : List Record) (image : List ℕ) → IsJournal head limit ps image → BeginsWithRecords head limit before image → length before ≤ length ps
no_more_heads head limit ps before image journal begins =
    ⊎_elim (λ t. none_behind t) (λ t. omega (arith, ap length t.1, length-append before t.0)) (begins_along head limit ps before image (journal_begins head limit ps image journal) begins)
  where
    none_behind : IsBehind ps before → length before ≤ length ps
    none_behind ([], is) = omega (arith, ap length (is ∙ append-nil ps))
    none_behind (p ∷ more, is) =
        absurd (not_both image limit (length (journal_front head ps)) _ (good_head head limit ps p more image (subst (λ (l : List Record). BeginsWithRecords head limit l image) is begins)) (gate_closed head limit ps image journal))

bad_before : (head : Header) (limit : ℕ) (ps : List Record) (image : List ℕ) (at : ℕ) → IsJournal head limit ps image → (bad : HasBadHeadAt head limit image at) → IsBehind bad.before ps → ⊥
bad_before head limit ps image at journal bad ([], is) = bad_behind head limit ps image at journal bad ([], sym (append-nil ps ∙ is ∙ append-nil bad.before))
bad_before head limit ps image at journal bad (p ∷ more, is) =
    followed head limit image at bad p more (subst (λ (l : List Record). BeginsWithRecords head limit l image) is (journal_begins head limit ps image journal))

pub no_bad_head : (head : Header) (limit : ℕ) (ps : List Record) (image : List ℕ) (at : ℕ) → IsJournal head limit ps image → HasBadHeadAt head limit image at → ⊥
no_bad_head head limit ps image at journal bad =
    ⊎_elim (λ t. bad_behind head limit ps image at journal bad t) (λ t. bad_before head limit ps image at journal bad t) (begins_along head limit ps bad.before image (journal_begins head limit ps image journal) bad.begins)

-- ---- one list of records

one_list : (v w : Version) (ps qs : List Record) (g h : ℕ) (x y : List ℕ) → AllByRecursion (IsRecord v) ps → AllByRecursion (IsRecord w) qs → g ≢ 1 → h ≢ 1 → flat_map open_record ps ++ g ∷ x ≡ flat_map open_record qs ++ h ∷ y → ps ≡ qs
one_list v w [] [] g h x y sized sized' shut shut' e = refl
one_list v w [] (q ∷ qs) g h x y sized sized' shut shut' e = absurd (shut (ap (λ (l : List ℕ). get_or l 0 0) e))
one_list v w (p ∷ ps) [] g h x y sized sized' shut shut' e = absurd (shut' (sym (ap (λ (l : List ℕ). get_or l 0 0) e)))
one_list v w (p ∷ ps) (q ∷ qs) g h x y sized sized' shut shut' e =
    let size : length p.payload ≡ length q.payload = one_size (length p.payload) (length q.payload) (below p.kind (length p.payload) sized.0.few) (below q.kind (length q.payload) sized'.0.few) (ap (λ (l : List ℕ). take 4 (drop 2 l)) e) in
    let rest : p.payload ++ (flat_map open_record ps ++ g ∷ x) ≡ q.payload ++ (flat_map open_record qs ++ h ∷ y) =
    sym (append_assoc p.payload (flat_map open_record ps) (g ∷ x)) ∙ ap (drop 6) e ∙ append_assoc q.payload (flat_map open_record qs) (h ∷ y) in
    let both = same_front p.payload q.payload _ _ size rest in
    let same : p ≡ q = one_record p q (one_kind p.kind q.kind (ap (λ (l : List ℕ). get_or l 1 0) e)) both.0 in
    cc (same, one_list v w ps qs g h x y sized.1 sized'.1 shut shut' both.1)

-- a journal of a header keeps one list
pub one_journal : (head : Header) (limit : ℕ) (image : List ℕ) (ps qs : List Record) → IsJournal head limit ps image → IsJournal head limit qs image → ps ≡ qs
one_journal head limit image ps qs a b =
    one_list head.version head.version ps qs a.gate b.gate a.behind b.behind a.sized b.sized a.closed b.closed (append_cancel_left (1 ∷ header head) _ _
    (sym (append_assoc (1 ∷ header head) (flat_map open_record ps) (a.gate ∷ a.behind)) ∙ sym a.is ∙ b.is ∙ append_assoc (1 ∷ header head) (flat_map open_record qs) (b.gate ∷ b.behind)))
