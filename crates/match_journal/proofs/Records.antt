-- What a crash leaves of a journal while a record is added.
use Rattle.std.proofs.Common.{◌≡◌, ◌⊎◌, inl, inr, ℕ, ◌+◌, ◌≤◌, List, [], ◌∷◌, ◌++◌, length, get_or, take, drop, refl, sym, ◌∙◌, ap, arith, append_assoc, length-append}
use Rattle.std.specs.Int.{w32, to_be_bytes}
use Rattle.std.specs.List.{flat_map, AllByRecursion}
use Rattle.std.proofs.lemmas.List.{take-append-drop, take_at, drop_at, drop_more, drop-drop, append-nil}
use Rattle.std.proofs.lemmas.Grind.{flat_map-append}
use Rattle.std.proofs.lemmas.Bool.{cases_eq}
use Rattle.gx_station.specs.Disk.{Torn, written}
use Rattle.match_journal.specs.Journal.{Header, IsJournal, IsRecord, Record, kind_byte, journal_front, header, open_record}
use Rattle.match_journal.specs.Inner.Stores.{staged}
use Rattle.match_journal.proofs.Torn.{torn_front, torn_back}

-- ---- a gate after a front

pub length-gate : (front : List ℕ) (gate : ℕ) (behind : List ℕ) → length (front ++ gate ∷ behind) ≡ length front + 1 + length behind
length-gate front gate behind = omega (arith, length-append front (gate ∷ behind))

take-gate : (front : List ℕ) (gate : ℕ) (behind : List ℕ) → take (length front + 1) (front ++ gate ∷ behind) ≡ front ++ gate ∷ []
take-gate front gate behind =
    ap (take (length front + 1)) (sym (append_assoc front (gate ∷ []) behind)) ∙ take_at (front ++ gate ∷ []) behind (length front + 1) (omega (arith, length-append front (gate ∷ [])))

drop-gate : (front : List ℕ) (gate : ℕ) (behind : List ℕ) → drop (length front + 1) (front ++ gate ∷ behind) ≡ behind
drop-gate front gate behind =
    ap (drop (length front + 1)) (sym (append_assoc front (gate ∷ []) behind)) ∙ drop_at (front ++ gate ∷ []) behind (length front + 1) (omega (arith, length-append front (gate ∷ [])))

-- what is torn after the gate keeps it
pub torn_behind : (front : List ℕ) (gate : ℕ) (behind c : List ℕ) (n : ℕ) → Torn (length front + 1) n (front ++ gate ∷ behind) c → c ≡ front ++ gate ∷ drop (length front + 1) c
torn_behind front gate behind c n torn =
    sym (take-append-drop (length front + 1) c)
    ∙ ap (λ (l : List ℕ). l ++ drop (length front + 1) c) (torn_front (length front + 1) n (length front + 1) (front ++ gate ∷ behind) c torn (omega arith) (omega (arith, length-gate front gate behind)) ∙ take-gate front gate behind)
    ∙ append_assoc front (gate ∷ []) (drop (length front + 1) c)

-- what is written after the gate stands there
pub written_behind : (front : List ℕ) (gate : ℕ) (behind bytes : List ℕ) → written (length front + 1) bytes (front ++ gate ∷ behind) ≡ front ++ gate ∷ (bytes ++ drop (length bytes) behind)
written_behind front gate behind bytes =
    let image = front ++ gate ∷ behind in
    ap (λ (l : List ℕ). l ++ (bytes ++ drop (length front + 1 + length bytes) image)) (take-gate front gate behind)
    ∙ ap (λ (l : List ℕ). (front ++ gate ∷ []) ++ (bytes ++ l)) (sym (drop-drop (length bytes) (length front + 1) image) ∙ ap (drop (length bytes)) (drop-gate front gate behind))
    ∙ append_assoc front (gate ∷ []) (bytes ++ drop (length bytes) behind)

-- a torn gate leaves all else
pub torn_gate : (front : List ℕ) (gate : ℕ) (tail c : List ℕ) → Torn (length front) 1 (front ++ gate ∷ tail) c → c ≡ front ++ get_or c (length front) 0 ∷ tail
torn_gate front gate tail c torn =
    let long = length-gate front gate tail in
    sym (take-append-drop (length front) c)
    ∙ ap (λ (l : List ℕ). l ++ drop (length front) c) (torn_front (length front) 1 (length front) (front ++ gate ∷ tail) c torn (omega arith) (omega (arith, long)) ∙ take_at front (gate ∷ tail) (length front) refl)
    ∙ ap (λ (l : List ℕ). front ++ l) (drop_more c (length front) 0 (omega (arith, long, torn.no_shorter)))
    ∙ ap (λ (l : List ℕ). front ++ get_or c (length front) 0 ∷ l) (torn_back (length front) 1 (front ++ gate ∷ tail) c torn (omega (arith, long)) ∙ drop-gate front gate tail)

pub written_gate : (front : List ℕ) (gate : ℕ) (tail : List ℕ) (byte : ℕ) → written (length front) (byte ∷ []) (front ++ gate ∷ tail) ≡ front ++ byte ∷ tail
written_gate front gate tail byte =
    ap (λ (l : List ℕ). l ++ byte ∷ drop (length front + 1) (front ++ gate ∷ tail)) (take_at front (gate ∷ tail) (length front) refl) ∙ ap (λ (l : List ℕ). front ++ byte ∷ l) (drop-gate front gate tail)

-- ---- a record

pub length-size : (n : ℕ) → length (to_be_bytes w32 n) ≡ 4
length-size n = refl

pub journal_front-push : (head : Header) (records : List Record) (r : Record) → journal_front head (records ++ r ∷ []) ≡ journal_front head records ++ open_record r
journal_front-push head records r =
    ap (λ (l : List ℕ). 1 ∷ (header head ++ l)) (flat_map-append open_record records (r ∷ []) ∙ ap (λ (l : List ℕ). flat_map open_record records ++ l) (append-nil (open_record r)))
    ∙ sym (append_assoc (1 ∷ header head) (flat_map open_record records) (open_record r))

pub length-record : (r : Record) → length (open_record r) ≡ length r.payload + 6
length-record r = omega (arith, length-append (to_be_bytes w32 (length r.payload)) r.payload, length-size (length r.payload))

pub length-staged : (r : Record) → length (staged r) ≡ length r.payload + 6
length-staged r = omega (arith, length-append (to_be_bytes w32 (length r.payload)) (r.payload ++ 0 ∷ []), length-size (length r.payload), length-append r.payload (0 ∷ []))

pub all-push : (P : Record → Type 0) (xs : List Record) (x : Record) → AllByRecursion P xs → P x → AllByRecursion P (xs ++ x ∷ [])
all-push P [] x all px = (px, tt)
all-push P (y ∷ ys) x all px = (all.0, all-push P ys x all.1 px)

module _ (head : Header) (limit : ℕ) (records : List Record) (r : Record) where
  abbrev front : List ℕ
  front = journal_front head records

  pub opened : (rest : List ℕ) → front ++ 1 ∷ (staged r ++ rest) ≡ journal_front head (records ++ r ∷ []) ++ 0 ∷ rest
  opened rest =
      let size = to_be_bytes w32 (length r.payload) in
      ap (λ (l : List ℕ). front ++ 1 ∷ kind_byte r.kind ∷ l) (append_assoc size (r.payload ++ 0 ∷ []) rest ∙ ap (λ (l : List ℕ). size ++ l) (append_assoc r.payload (0 ∷ []) rest) ∙ sym (append_assoc size r.payload (0 ∷ rest)))
      ∙ sym (append_assoc front (open_record r) (0 ∷ rest))
      ∙ ap (λ (l : List ℕ). l ++ 0 ∷ rest) (sym (journal_front-push head records r))

  -- the record stands whole after a gate
  pub whole_record : AllByRecursion (IsRecord head.version) records → IsRecord head.version r → length front + 7 + length r.payload ≤ limit → (gate : ℕ) (rest : List ℕ)
      → IsJournal head limit records (front ++ gate ∷ (staged r ++ rest)) ⊎ IsJournal head limit (records ++ r ∷ []) (front ++ gate ∷ (staged r ++ rest))
  whole_record sized right fits gate rest = elim (cases_eq gate 1) [
    | inl is_open ↦ inr record {
      gate = 0;
      behind = rest;
      is = ap (λ g. front ++ g ∷ (staged r ++ rest)) is_open ∙ opened rest;
      closed = omega arith;
      sized = all-push (IsRecord head.version) records r sized right;
      in_limit = omega (arith, fits, ap length (journal_front-push head records r), length-append front (open_record r), length-record r);
    }
    | inr shut ↦ inl record {
      gate = gate;
      behind = staged r ++ rest;
      is = refl;
      closed = shut;
      sized = sized;
      in_limit = omega (arith, fits);
    }
  ]
