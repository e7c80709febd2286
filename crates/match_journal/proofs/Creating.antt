-- A creation over a station.
use Rattle.std.proofs.Common.{◌≡◌, ℕ, ◌+◌, ◌<◌, ◌≤◌, max, List, [], ◌∷◌, length, get_or, Some, Result, Ok, Err, OnOk, IsErr, sym, ◌∙◌, ap, subst, arith}
use Rattle.gx_station.specs.Disk.{Torn, written}
use Rattle.gx_station.specs.Stations.{StationMeanings}
use Rattle.match_journal.specs.Steps.{Steps, HoldsOne}
use Rattle.match_journal.specs.Journal.{Header, Record, IsJournal}
use Rattle.match_journal.specs.Texts.{HasLastText}
use Rattle.match_journal.specs.Classes.{HasOpenGate, IsSealed, Keeps}
use Rattle.match_journal.specs.Opening.{IsOpening}
use Rattle.match_journal.specs.Inner.Stores.{Stored}
use Rattle.match_journal.specs.Inner.Fronts.{IsClosed, IsMade}
use Rattle.match_journal.specs.declared.limits.TheConstants.{MOST_TEXT, MOST_UNFINISHED, LEAST_LIMIT}
use Rattle.match_journal.proofs.Stepping.{steps_then, steps_err, steps_weaker, steps_none}
use Rattle.match_journal.proofs.Created.{IsNew, IsReady, heading, torn_empty, written_empty, torn_header, written_header, torn_first, written_first, empty_keeps, closed_keeps, closed_of, sealed_ready, written_sealed, none_kept, opened_keeps}

opening_new : (text : List ℕ) (limit : ℕ) (image left : List ℕ) → IsNew text limit left → IsOpening text limit [] image left
opening_new text limit image left new = record { keeps = new.keeps; no_longer = omega (arith, new.few) }

-- what keeps some records of a text is left as it is
pub opening_itself : (text : List ℕ) (limit : ℕ) (head : Header) (records : List Record) (image : List ℕ) → HasLastText head records text → Keeps head limit records image → IsOpening text limit records image image
opening_itself text limit head records image last keeps = record { keeps = record { head = head; last = last; keeps = keeps }; no_longer = omega arith }

-- a journal stays as it is
pub open_done : {S T F : Type 0} (m : StationMeanings S) (text : List ℕ) (limit : ℕ) (head : Header) (records : List Record) (old : S) (image : List ℕ) (r : Result T F) → HasLastText head records text → HasOpenGate image → 1 < length image → Keeps head limit records image
    → Steps m old old image (IsOpening text limit records image) (IsJournal head limit records) r
open_done m text limit head records old image r last opened long keeps =
    steps_none m old image _ _ r (opening_itself text limit head records image last keeps) (opened_keeps head limit image records keeps opened long)

-- the same steps, by one header and by an equal one
pub same_steps : {S T F : Type 0} (m : StationMeanings S) (text : List ℕ) (limit : ℕ) (records : List Record) (a b : Header) (old new : S) (image : List ℕ) (r : Result T F) → a ≡ b
    → (Keeps b limit records image → Steps m old new image (IsOpening text limit records image) (IsJournal b limit records) r) → Keeps a limit records image → Steps m old new image (IsOpening text limit records image) (IsJournal a limit records) r
same_steps m text limit records a b old new image r same steps keeps =
    subst (λ (h : Header). Steps m old new image (IsOpening text limit records image) (IsJournal h limit records) r) (sym same) (steps (subst (λ (h : Header). Keeps h limit records image) same keeps))

module _ {S : Type 0} (m : StationMeanings S) (head : Header) (limit : ℕ) (short : length head.text ≤ MOST_TEXT) (fits : LEAST_LIMIT ≤ limit) where
  in_limit : 13 + length head.text < limit
  in_limit = omega (arith, short, fits)

  -- the first gate is opened
  pub ready_steps : {T F : Type 0} (old new : S) (image : List ℕ) (known : ℕ) (r : Result T F) → IsReady head known image → Stored m old new 0 (1 ∷ []) r → Steps m old new image (IsOpening head.text limit [] image) (IsMade head limit known) r
  ready_steps old new image known r ready stored =
      steps_weaker m old new image _ _ _ _ r (λ left torn. opening_new head.text limit image left (torn_first head limit known image left short in_limit ready torn)) (λ last is. subst (IsMade head limit known) (sym is) (written_first head limit known image in_limit ready)) (stored.steps image)

  header_steps : {T F : Type 0} (old new : S) (image : List ℕ) (r : Result T F) → IsClosed image → Stored m old new 1 (heading head) r → Steps m old new image (IsOpening head.text limit [] image) (IsReady head (max (length image) (14 + length head.text))) r
  header_steps old new image r closed stored =
      steps_weaker m old new image _ _ _ _ r (λ left torn. opening_new head.text limit image left (torn_header head limit image left short closed torn)) (λ last is. subst (IsReady head (max (length image) (14 + length head.text))) (sym is) (written_header head image short closed)) (stored.steps image)

  pub create_stopped : {T U F G : Type 0} (old new : S) (image bytes : List ℕ) (known : ℕ) (e : G) (r : Result T F) → bytes ≡ heading head → IsClosed image → IsErr r → Stored m {T = U} {F = G} old new 1 bytes (Err e) → Steps m old new image (IsOpening head.text limit [] image) (IsMade head limit known) r
  create_stopped {T} {U} {F} {G} old new image bytes known e r is closed bad stored =
      steps_err m old new image _ _ _ e r bad (header_steps old new image (Err e) closed (subst (λ (l : List ℕ). Stored m {T = U} {F = G} old new 1 l (Err e)) is stored))

  pub create_done : {T U F G : Type 0} (old mid new : S) (image bytes : List ℕ) (x : U) (r : Result T F) → bytes ≡ heading head → IsClosed image → Stored m {T = U} {F = G} old mid 1 bytes (Ok x) → Stored m mid new 0 (1 ∷ []) r
      → Steps m old new image (IsOpening head.text limit [] image) (IsMade head limit (max (length image) (14 + length head.text))) r
  create_done {T} {U} {F} {G} old mid new image bytes x r is closed stored then = steps_then m old mid new image _ _ _ x r stored.puts.on_store.sent stored.settled (header_steps old mid image (Ok x) closed (subst (λ (l : List ℕ). Stored m {T = U} {F = G} old mid 1 l (Ok x)) is stored)) (λ middle ready.
      steps_weaker m mid new middle _ _ _ _ r (λ left opening. record { keeps = opening.keeps; no_longer = omega (arith, opening.no_longer, ready.few) }) (λ last made. made) (ready_steps mid new middle _ r ready then))

  -- ---- by the class

  abbrev Finishes : {T F : Type 0} → S → S → List ℕ → List Record → Result T F → Type 0
  Finishes old new image records r = Steps m old new image (IsOpening head.text limit records image) (IsJournal head limit records) r

  -- where nothing was kept
  none_kept_steps : {T F : Type 0} (old new : S) (image : List ℕ) (records : List Record) (known : ℕ) (r : Result T F) → records ≡ [] → Steps m old new image (IsOpening head.text limit [] image) (IsMade head limit known) r → Finishes old new image records r
  none_kept_steps old new image records known r none steps =
      subst (λ (ps : List Record). Finishes old new image ps r) (sym none) (steps_weaker m old new image _ _ _ _ r (λ left opening. opening) (λ last made. made.journal) steps)

  empty_steps : {T F : Type 0} (old new : S) (image : List ℕ) (r : Result T F) → length image ≤ 1 → Stored m old new 0 (0 ∷ []) r → Steps m old new image (IsOpening head.text limit [] image) (λ last. last ≡ 0 ∷ []) r
  empty_steps old new image r small stored =
      steps_weaker m old new image _ _ _ _ r (λ left torn. opening_new head.text limit image left (torn_empty head.text limit image left small torn)) (λ last is. is ∙ written_empty image small) (stored.steps image)

  pub empty_stopped : {T U F G : Type 0} (old new : S) (image : List ℕ) (records : List Record) (e : G) (r : Result T F) → length image ≤ 1 → Keeps head limit records image → IsErr r → Stored m {T = U} {F = G} old new 0 (0 ∷ []) (Err e) → Finishes old new image records r
  empty_stopped old new image records e r small keeps bad stored =
      none_kept_steps old new image records 0 r (empty_keeps head limit image records keeps small) (steps_err m old new image _ _ _ e r bad (empty_steps old new image (Err e) small stored))

  abbrev Creates : {T F : Type 0} → S → S → Result T F → Type 0
  Creates mid new r = (image : List ℕ) (limit : ℕ) → LEAST_LIMIT ≤ limit → IsClosed image → Steps m mid new image (IsOpening head.text limit [] image) (IsMade head limit (max (length image) (14 + length head.text))) r

  one_closed : (middle : List ℕ) → middle ≡ 0 ∷ [] → IsClosed middle
  one_closed middle is = record { rest = []; is = is; few = omega (arith, ap length is) }

  empty_made : {T U F G : Type 0} (old mid new : S) (image : List ℕ) (x : U) (r : Result T F) → length image ≤ 1 → Stored m {T = U} {F = G} old mid 0 (0 ∷ []) (Ok x) → Creates mid new r
      → Steps m old new image (IsOpening head.text limit [] image) (IsMade head limit (14 + length head.text)) r
  empty_made old mid new image x r small stored then =
      steps_then m old mid new image _ _ _ x r stored.puts.on_store.sent stored.settled (empty_steps old mid image (Ok x) small stored) (λ middle is.
      steps_weaker m mid new middle _ _ _ _ r (λ left opening. record { keeps = opening.keeps; no_longer = omega (arith, opening.no_longer, ap length is) })
      (λ last made. record { journal = made.journal; length_is = omega (arith, made.length_is, ap length is) })
      (then middle limit fits (one_closed middle is)))

  pub empty_done : {T U F G : Type 0} (old mid new : S) (image : List ℕ) (records : List Record) (x : U) (r : Result T F) → length image ≤ 1 → Keeps head limit records image → Stored m {T = U} {F = G} old mid 0 (0 ∷ []) (Ok x) → Creates mid new r → Finishes old new image records r
  empty_done old mid new image records x r small keeps stored then =
      none_kept_steps old new image records (14 + length head.text) r (empty_keeps head limit image records keeps small) (empty_made old mid new image x r small stored then)

  pub blank_done : {T F : Type 0} (old new : S) (image : List ℕ) (records : List Record) (r : Result T F) → 1 ≤ length image → get_or image 0 0 ≡ 0 → length image ≤ MOST_UNFINISHED → Keeps head limit records image → Creates old new r → Finishes old new image records r
  blank_done old new image records r some zero few keeps then =
      none_kept_steps old new image records _ r (closed_keeps head limit image records keeps zero) (then image limit fits (closed_of image some zero few))

  pub sealed_done : {T F : Type 0} (old new : S) (image : List ℕ) (records : List Record) (r : Result T F) → IsSealed head image → Keeps head limit records image → Stored m old new 0 (1 ∷ []) r → Finishes old new image records r
  sealed_done old new image records r sealed keeps stored =
      let none = none_kept head limit image records keeps sealed.not_open in
      none_kept_steps old new image records _ r none.0 (ready_steps old new image _ r (sealed_ready head image sealed none.1.few) stored)

  -- it is made a journal, however long it is
  pub sealed_made : {T F : Type 0} (old new : S) (image : List ℕ) (r : Result T F) → IsSealed head image → m.holds old ≡ Some image → Stored m old new 0 (1 ∷ []) r → OnOk r (HoldsOne m (IsJournal head limit []) new)
  sealed_made {T} {F} old new image r sealed read stored = ended r ((stored.steps image).ends read)
    where
      ended : (r : Result T F) → OnOk r (HoldsOne m (λ last. Torn 0 1 image last × (last ≡ written 0 (1 ∷ []) image)) new) → OnOk r (HoldsOne m (IsJournal head limit []) new)
      ended (Ok x) held = record { image = held.image; read = held.read; has = subst (IsJournal head limit []) (sym held.has.1) (written_sealed head limit image in_limit sealed) }
      ended (Err e) held = tt

  -- ---- the journal that was made, and how long it is

  abbrev Told : {T F : Type 0} → S → ℕ → Result T F → Type 0
  Told new known r = OnOk r (HoldsOne m (IsMade head limit known) new)

  told_made : {T F : Type 0} (new : S) (During : List ℕ → Type 0) (known long : ℕ) (r : Result T F) → known ≡ long → OnOk r (HoldsOne m (λ last. During last × IsMade head limit known last) new) → Told new long r
  told_made new During known long (Ok x) is held = record { image = held.image; read = held.read; has = record { journal = held.has.1.journal; length_is = held.has.1.length_is ∙ is } }
  told_made new During known long (Err e) is held = tt

  pub empty_told : {T U F G : Type 0} (old mid new : S) (image : List ℕ) (long : ℕ) (x : U) (r : Result T F) → length image ≤ 1 → m.holds old ≡ Some image → long ≡ 14 + length head.text → Stored m {T = U} {F = G} old mid 0 (0 ∷ []) (Ok x) → Creates mid new r → Told new long r
  empty_told old mid new image long x r small read is stored then = told_made new _ _ long r (sym is) ((empty_made old mid new image x r small stored then).ends read)

  pub blank_told : {T F : Type 0} (old new : S) (image : List ℕ) (long : ℕ) (r : Result T F) → 1 ≤ length image → get_or image 0 0 ≡ 0 → length image ≤ MOST_UNFINISHED → m.holds old ≡ Some image → long ≡ max (length image) (14 + length head.text) → Creates old new r → Told new long r
  blank_told old new image long r some zero few read is then = told_made new _ _ long r (sym is) ((then image limit fits (closed_of image some zero few)).ends read)

  -- a gate that is written into an image leaves its length
  pub sealed_told : {T F : Type 0} (old new : S) (image : List ℕ) (long : ℕ) (r : Result T F) → IsSealed head image → m.holds old ≡ Some image → long ≡ length image → Stored m old new 0 (1 ∷ []) r → Told new long r
  sealed_told {T} {F} old new image long r sealed read is stored = ended r ((stored.steps image).ends read)
    where
      journal : (last : List ℕ) → last ≡ written 0 (1 ∷ []) image → IsJournal head limit [] last
      journal last whole = subst (IsJournal head limit []) (sym whole) (written_sealed head limit image in_limit sealed)

      ended : (r : Result T F) → OnOk r (HoldsOne m (λ last. Torn 0 1 image last × (last ≡ written 0 (1 ∷ []) image)) new) → Told new long r
      ended (Ok x) held = record {
        image = held.image;
        read = held.read;
        has = record { journal = journal held.image held.has.1; length_is = omega (arith, held.has.0.no_shorter, held.has.0.no_longer, sealed.header.inside, is) };
      }
      ended (Err e) held = tt
