-- An append: the record after its closed gate, and then the gate.
use Rattle.std.proofs.Common.{◌≡◌, ◌⊎◌, inl, ℕ, ◌+◌, ◌≤◌, List, [], ◌∷◌, ◌++◌, length, drop, max, true, Result, Ok, Err, IsErr, sym, ◌∙◌, ap, subst, arith, length-append, length-drop}
use Rattle.gx_station.specs.Disk.{Torn, written}
use Rattle.gx_station.specs.Stations.{StationMeanings}
use Rattle.match_journal.specs.Steps.{Steps}
use Rattle.match_journal.specs.Journal.{Header, IsJournal, IsRecord, Record, has_kind, journal_front, open_record}
use Rattle.match_journal.specs.declared.standing.Standing.{Standing}
use Rattle.match_journal.specs.Appending.{IsJournalTo, IsBeforeOrAfter, IsAdded}
use Rattle.match_journal.specs.Inner.Stores.{Stored, staged}
use Rattle.match_journal.proofs.Stepping.{steps_then, steps_err, steps_weaker}
use Rattle.match_journal.proofs.Records.{torn_behind, written_behind, torn_gate, written_gate, whole_record, opened, all-push, journal_front-push, length-staged, length-record, length-gate}

module _ (head : Header) (image : List ℕ) (r : Record) (limit : ℕ) (records : List Record) (end : ℕ) (right : IsRecord head.version r) (fits : end + 7 + length r.payload ≤ limit) (first : IsJournalTo head limit records end image) where
  abbrev front : List ℕ
  front = journal_front head records

  abbrev next : ℕ
  next = end + 6 + length r.payload

  abbrev gate : ℕ
  gate = first.journal.gate

  abbrev behind : List ℕ
  behind = drop (length (staged r)) first.journal.behind

  -- the image with the record after its closed gate
  abbrev pub staged_image : List ℕ
  staged_image = front ++ gate ∷ (staged r ++ behind)

  pub torn_record : (left : List ℕ) → Torn (end + 1) (length (staged r)) image left → IsBeforeOrAfter head limit records r image next left
  torn_record left torn =
      let is = first.journal.is in
      let here : Torn (length front + 1) (length (staged r)) (front ++ gate ∷ first.journal.behind) left =
      subst (λ e. Torn (e + 1) (length (staged r)) (front ++ gate ∷ first.journal.behind) left) first.gate_is (subst (λ (l : List ℕ). Torn (end + 1) (length (staged r)) l left) is torn) in
      record {
        keeps = inl record {
          gate = gate;
          behind = drop (length front + 1) left;
          is = torn_behind front gate first.journal.behind left (length (staged r)) here;
          closed = first.journal.closed;
          sized = first.journal.sized;
          in_limit = first.journal.in_limit;
        };
        no_longer = omega (arith, torn.no_longer, length-staged r);
      }

  pub record_written : written (end + 1) (staged r) image ≡ staged_image
  record_written =
      ap (written (end + 1) (staged r)) first.journal.is ∙ ap (λ k. written (k + 1) (staged r) (front ++ gate ∷ first.journal.behind)) first.gate_is ∙ written_behind front gate first.journal.behind (staged r)

  length-staged_image : length staged_image ≡ max (length image) (next + 1)
  length-staged_image =
      omega (arith, length-gate front gate (staged r ++ behind), length-append (staged r) behind, length-drop (length (staged r)) first.journal.behind, ap length first.journal.is, length-gate front gate first.journal.behind, first.gate_is, length-staged r)

  pub torn_open : (left : List ℕ) → Torn end 1 staged_image left → IsBeforeOrAfter head limit records r image next left
  torn_open left torn =
      let here : Torn (length front) 1 staged_image left = subst (λ e. Torn e 1 staged_image left) first.gate_is torn in
      record {
        keeps = subst (λ (l : List ℕ). IsJournal head limit records l ⊎ IsJournal head limit (records ++ r ∷ []) l) (sym (torn_gate front gate (staged r ++ behind) left here)) (whole_record head limit records r first.journal.sized right (omega (arith, fits, first.gate_is)) _ behind);
        no_longer = omega (arith, torn.no_longer, length-staged_image);
      }

  pub gate_written : IsAdded head limit records r image next (written end (1 ∷ []) staged_image)
  gate_written =
      let is : written end (1 ∷ []) staged_image ≡ journal_front head (records ++ r ∷ []) ++ 0 ∷ behind =
      ap (λ k. written k (1 ∷ []) staged_image) first.gate_is ∙ written_gate front gate (staged r ++ behind) 1 ∙ opened head limit records r behind in
      let long : length (journal_front head (records ++ r ∷ [])) ≡ length front + 6 + length r.payload =
      omega (arith, ap length (journal_front-push head records r), length-append front (open_record r), length-record r) in
      record {
        journal = record {
          journal = record {
            gate = 0;
            behind = behind;
            is = is;
            closed = omega arith;
            sized = all-push (IsRecord head.version) records r first.journal.sized right;
            in_limit = omega (arith, long, fits, first.gate_is);
          };
          gate_is = omega (arith, first.gate_is, long);
        };
        length_is = omega (arith, ap length is, length-gate (journal_front head (records ++ r ∷ [])) 0 behind, long, length-staged_image, length-gate front gate (staged r ++ behind), length-append (staged r) behind, length-staged r);
      }

-- ---- over a station

-- how an image goes on where a record is added to a journal that stands there
abbrev pub AppendsAt : {S T F : Type 0} → StationMeanings S → S → S → Record → Result T F → Standing → Type 0
AppendsAt m old new r answer s = (head : Header) (image : List ℕ) (records : List Record) → has_kind head.version r.kind ≡ true → IsJournalTo head s.limit records s.gate image
    → Steps m old new image (IsBeforeOrAfter head s.limit records r image (s.gate + 6 + length r.payload)) (IsAdded head s.limit records r image (s.gate + 6 + length r.payload)) answer

module _ {S : Type 0} (m : StationMeanings S) (head : Header) (image : List ℕ) (r : Record) (limit : ℕ) (records : List Record) (end : ℕ) (right : IsRecord head.version r) (fits : end + 7 + length r.payload ≤ limit) (first : IsJournalTo head limit records end image) where
  abbrev During : List ℕ → Type 0
  During = IsBeforeOrAfter head limit records r image (end + 6 + length r.payload)

  abbrev Last : List ℕ → Type 0
  Last = IsAdded head limit records r image (end + 6 + length r.payload)

  -- the record was stored, or a part of it
  record_steps : {T F : Type 0} (old new : S) (answer : Result T F) → Stored m old new (end + 1) (staged r) answer → Steps m old new image During (λ last. last ≡ staged_image head image r limit records end right fits first) answer
  record_steps old new answer stored =
      steps_weaker m old new image _ _ _ _ answer (torn_record head image r limit records end right fits first) (λ last is. is ∙ record_written head image r limit records end right fits first) (stored.steps image)

  pub append_stopped : {T U F G : Type 0} (old new : S) (e : G) (answer : Result T F) → IsErr answer → Stored m {T = U} {F = G} old new (end + 1) (staged r) (Err e) → Steps m old new image During Last answer
  append_stopped old new e answer bad stored = steps_err m old new image _ _ _ e answer bad (record_steps old new (Err e) stored)

  pub append_done : {T U F G : Type 0} (old mid new : S) (x : U) (answer : Result T F) → Stored m {T = U} {F = G} old mid (end + 1) (staged r) (Ok x) → Stored m mid new end (1 ∷ []) answer → Steps m old new image During Last answer
  append_done old mid new x answer stored then = steps_then m old mid new image _ _ _ x answer stored.puts.on_store.sent stored.settled (record_steps old mid (Ok x) stored) (λ middle is.
      steps_weaker m mid new middle _ _ _ _ answer
      (λ left torn. torn_open head image r limit records end right fits first left (subst (λ (l : List ℕ). Torn end 1 l left) is torn))
      (λ last e. subst Last (sym (e ∙ ap (written end (1 ∷ [])) is)) (gate_written head image r limit records end right fits first))
      (then.steps middle))
