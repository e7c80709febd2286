-- `amend` where the image is an unfinished creation.
use Rattle.std.proofs.Common.{◌≡◌, ◌⊎◌, inl, inr, ⊎_elim, ℕ, ◌+◌, ◌<◌, List, [], length, Option, Some, None, Result, Ok, Err, sym, ap, subst, ◌∙◌, arith, refl}
use Rattle.std.specs.List.{flat_map}
use Rattle.gx_station.specs.Stations.{StationMeanings}
use Rattle.gx_station.specs.Counts.{Rose}
use Rattle.gx_station.specs.Honest.{KeepsImage}
use Rattle.gx_station.specs.Moments.{AddsOnly}
use Rattle.product_file.specs.Products.{ProductLists, IsRightProduct}
use Rattle.product_file.specs.ProductTexts.{product_of}
use Rattle.product_file.proofs.RightTexts.{product_of_text_is_right}
use Rattle.match_journal.specs.Journal.{Header, IsJournal, Record, in_version, journal_front, open_record}
use Rattle.match_journal.specs.HeaderLaws.{one_header}
use Rattle.match_journal.specs.Classes.{HasOpenGate, IsBlank, IsSealed, IsSealedOf, IsUnfinished, Keeps, first_difference}
use Rattle.match_journal.specs.Texts.{PlacedText, HasLastText}
use Rattle.match_journal.specs.Opening.{IsOpening, Looks, IsStartFault, IsLookFault, IsRefusal, HasOtherText}
use Rattle.match_journal.specs.Causes.{ReadsOnly, SendsNothing}
use Rattle.match_journal.specs.StepLaws.{adds_weaker}
use Rattle.match_journal.specs.Steps.{StepsFrom, HoldsOne}
use Rattle.match_journal.specs.declared.limits.TheConstants.{MOST_LIMIT}
use Rattle.match_journal.specs.declared.standing.Standing.{Standing}
use Rattle.match_journal.specs.declared.faults.StartFault.{StartFault}
use Rattle.match_journal.specs.declared.faults.StartFault.TheVariants as start
use Rattle.match_journal.proofs.Unique.{journal_headed}
use Rattle.order_kinds.specs.Histories.{History, of_product, length_kept}
use Rattle.book_recovery.specs.Histories.{history_behind}
use Rattle.book_recovery.specs.Kept.{IsStartable}
use Rattle.globex_run.specs.Amends.{IsSealedOfOther}
use Rattle.globex_run.specs.Inner.OneHeader.{KeepsUnder}
use Rattle.globex_run.specs.Inner.Amending.{unamended_without, AnswersAmend, IsRefusedAmend, IsAmendCrash, EndsAmend, AmendFrom, AmendsJournal}
use Rattle.globex_run.specs.Inner.AmendParts.{unopened_by}
use Rattle.globex_run.specs.declared.unamended.Unamended.{Unamended}
use Rattle.globex_run.specs.declared.unamended.Unamended.TheVariants.{NoMemory, Store}
use Rattle.globex_run.proofs.LastTexts.{last-of-none}
use Rattle.globex_run.proofs.ProductReads.{short-text}
use Rattle.globex_run.proofs.Limits.{front-length, keeps-within}
use Rattle.globex_run.proofs.Openings.{blank_closed}
use Rattle.globex_run.proofs.AmendReads.{ComesUnwritten, refuses}

-- ---- why a journal was not opened

-- the reason for a fault
abbrev pub reason_by : StartFault → Unamended
reason_by f = unamended_without (unopened_by f)

pub store-alone : (f : StartFault) → reason_by f ≡ Store → f ≡ start.Store
store-alone start.Store is = refl
store-alone (start.NotAJournal at) is = absurd (cc is)
store-alone (start.Bad at) is = absurd (cc is)
store-alone (start.ProductDiffers at) is = absurd (cc is)

never-memory : (f : StartFault) → reason_by f ≡ NoMemory → ⊥
never-memory start.Store is = absurd (cc is)
never-memory (start.NotAJournal at) is = absurd (cc is)
never-memory (start.Bad at) is = absurd (cc is)
never-memory (start.ProductDiffers at) is = absurd (cc is)

-- an image that has no open gate, because its creation was not finished
abbrev pub IsBegun : List ℕ → Type 0
IsBegun image = IsBlank image ⊎ ((head : Header) × IsSealed head image)

pub begun-closed : (image : List ℕ) → IsBegun image → HasOpenGate image → ⊥
begun-closed image begun gate = ⊎_elim (λ blank. blank_closed image blank gate) (λ sealed. sealed.1.not_open gate.opened) begun

pub begun-of : (text image : List ℕ) → IsBlank image ⊎ IsSealedOf text image → IsBegun image
begun-of text image (inl blank) = inl blank
begun-of text image (inr sealed) = inr (in_version sealed.0 text, sealed.1)

module _ (product : ProductLists) (text : List ℕ) where
  sealed-other : (image : List ℕ) (at : ℕ) → IsBegun image → HasOtherText text MOST_LIMIT image at → IsSealedOfOther product text image at
  sealed-other image at begun has = ⊎_elim
      (λ opened. absurd (begun-closed image begun opened.gate))
      (λ sealed. record {
        head = has.head;
        sealed = sealed.0;
        other = λ same. has.other (ap (λ (t : PlacedText). t.bytes) sealed.1 ∙ same);
        place = subst (λ (t : PlacedText). at ≡ t.at + first_difference t.bytes text) sealed.1 has.place;
      })
      has.found

  -- a fault tells what the image of an unfinished creation is
  pub fault-answers : (f : StartFault) (image : List ℕ) → IsBegun image → IsStartFault text MOST_LIMIT image f → AnswersAmend product text image (Err (reason_by f))
  fault-answers start.Store image begun is = tt
  fault-answers (start.NotAJournal at) image begun is = is
  fault-answers (start.Bad at) image begun is = inl is
  fault-answers (start.ProductDiffers at) image begun is = sealed-other image at begun is

  -- and so it does where no text is asked for
  pub look-answers : (f : StartFault) (image : List ℕ) → IsLookFault MOST_LIMIT image f → AnswersAmend product text image (Err (reason_by f))
  look-answers start.Store image is = tt
  look-answers (start.NotAJournal at) image is = is
  look-answers (start.Bad at) image is = inl is
  look-answers (start.ProductDiffers at) image is = absurd is

  unwritten-reason : {S : Type 0} (m : StationMeanings S) (f : StartFault) → ComesUnwritten m product text (reason_by f)
  unwritten-reason m start.Store = tt
  unwritten-reason m (start.NotAJournal at) = tt
  unwritten-reason m (start.Bad at) = tt
  unwritten-reason m (start.ProductDiffers at) = tt

  -- the image was read, and not opened
  pub not-opened : {S : Type 0} (m : StationMeanings S) (a b : S) (f : StartFault) → ReadsOnly m a b → (f ≡ start.Store → Rose (m.store_faults a) (m.store_faults b)) → ((f ≡ start.Store → ⊥) → m.store_faults b ≡ m.store_faults a)
      → ((image : List ℕ) → m.holds a ≡ Some image → AnswersAmend product text image (Err (reason_by f))) → AmendsJournal m product text a b (Err (reason_by f))
  not-opened m a b f reads store none answers = refuses m product text a b (reason_by f) (unwritten-reason m f) reads (λ is. store (store-alone f is)) (λ other. none (λ is. other (ap reason_by is))) answers

-- ---- an unfinished creation is made a journal

-- the reason is not that of a refusal
never-refused : (f : StartFault) → IsRefusedAmend {T = ℕ} (Err (reason_by f)) → IsRefusal f
never-refused start.Store refused = refused
never-refused (start.NotAJournal at) refused = tt
never-refused (start.Bad at) refused = tt
never-refused (start.ProductDiffers at) refused = tt

module _ {S : Type 0} (m : StationMeanings S) (product : ProductLists) (right : IsRightProduct product) (text : List ℕ) (old new : S) (unfinished : (image : List ℕ) → m.holds old ≡ Some image → IsBlank image ⊎ IsSealedOf text image) where
  -- what an opening ensures
  abbrev pub Starting : Result Standing StartFault → Type 0
  Starting result = (image : List ℕ) (head : Header) (records : List Record) → HasLastText head records text → Keeps head MOST_LIMIT records image
      → StepsFrom m old new image (IsOpening text MOST_LIMIT records image) (IsJournal head MOST_LIMIT records) result

  abbrev pub Keeping : Type 0
  Keeping = (image : List ℕ) (head : Header) (records : List Record) → m.is_honest old → m.holds old ≡ Some image → HasLastText head records text → Keeps head MOST_LIMIT records image
      → HoldsOne m (IsOpening text MOST_LIMIT records image) new

  module _ (image kept_text : List ℕ) (kept_product : ProductLists) (kept : History) (gives : product_of kept_text ≡ Ok kept_product) (can : IsStartable kept_product kept_text kept image) (held : m.holds old ≡ Some image) (blank : IsBlank image → kept_text ≡ text) where
    begun : IsBegun image
    begun = begun-of text image (unfinished image held)

    creation : (can.records ≡ []) × IsUnfinished can.head image
    creation = ⊎_elim
        (λ journal. absurd (begun-closed image begun (journal_headed can.head kept_product.journal_limit image can.records (short-text can.head.text can.first can.gives) journal).0))
        (λ unfinished. unfinished)
        can.keeps

    header-text : can.head.text ≡ kept_text
    header-text = last-of-none can.head kept_text can.records creation.0 can.last

    -- it is of the text handed in
    same-text : kept_text ≡ text
    same-text = ⊎_elim
        blank
        (λ sealed. ⊎_elim
        (λ before. blank before.0)
        (λ before. sym header-text ∙ ap (λ (h : Header). h.text) (one_header image can.head (in_version sealed.0 text) before.header sealed.1.header))
        creation.1.unfinished)
        (unfinished image held)

    last : HasLastText can.head can.records text
    last = subst (HasLastText can.head can.records) same-text can.last

    keeps : Keeps can.head MOST_LIMIT can.records image
    keeps = inr creation

    -- no record is kept, so that the front ends within each limit
    ends-within : (found : Header) → found.text ≡ can.head.text → length (journal_front found can.records) < kept_product.journal_limit
    ends-within found to = omega (
      arith,
      front-length found can.records,
      ap (λ (rs : List Record). length (flat_map open_record rs)) creation.0,
      ap (λ (l : List ℕ). length l) to,
      short-text can.head.text can.first can.gives,
      (product_of_text_is_right kept_text kept_product gives).least_limit,
    )

    none-left : (left : List ℕ) → IsOpening text MOST_LIMIT can.records image left → KeepsUnder can.head.text kept_product.journal_limit can.records left
    none-left left here =
        let found = here.keeps.head in
        let to : found.text ≡ can.head.text = last-of-none found text can.records creation.0 here.keeps.last ∙ sym (last-of-none can.head text can.records creation.0 last) in
        (found.version, subst (λ (l : List ℕ). Keeps (in_version found.version l) kept_product.journal_limit can.records left) to (keeps-within MOST_LIMIT kept_product.journal_limit found can.records left (ends-within found to) here.keeps.keeps))

    no-message : 0 ≡ length_kept kept
    no-message = sym (ap length_kept can.are ∙ ap (λ (rs : List Record). length_kept (history_behind (of_product can.first []) rs)) creation.0)

    crash : (left out : List ℕ) → IsOpening text MOST_LIMIT can.records image left × (m.sent old ≡ Some out) → IsAmendCrash m product text old new image kept_text kept_product kept can left out
    crash left out here = record { keeps = inl (none-left left here.0); no_longer = omega (arith, here.0.no_longer, right.least_limit); sent = here.1 }

    moments : (result : Result Standing StartFault) → Starting result → m.is_honest old → AddsOnly m old new (IsAmendCrash m product text old new image kept_text kept_product kept can)
    moments result starts honest = adds_weaker m old new _ _ (λ h left out here. crash left out here) ((starts image can.head can.records last keeps).moments honest held)

    created-from : (journal : Standing) → Starting (Ok journal) → m.is_honest old → AmendFrom m product text old new image kept_text kept_product kept can (Ok 0)
    created-from journal starts honest =
        let made = (starts image can.head can.records last keeps).ends held in
        record {
          moments = moments (Ok journal) starts honest;
          ends = (inl (same-text, record { image = made.image; read = made.read; has = none-left made.image made.has.0 }, λ gate. absurd (begun-closed image begun gate)), no-message);
        }

    holds-none : Keeping → m.is_honest old → HoldsOne m (KeepsUnder can.head.text kept_product.journal_limit can.records) new
    holds-none keeping honest =
        let left = keeping image can.head can.records honest held last keeps in
        record { image = left.image; read = left.read; has = none-left left.image left.has }

    ends-by : (f : StartFault) → HoldsOne m (KeepsUnder can.head.text kept_product.journal_limit can.records) new → EndsAmend m product text old new image kept_text kept_product kept can (Err (reason_by f))
    ends-by start.Store holds = record { image = holds.image; read = holds.read; has = inl holds.has }
    ends-by (start.NotAJournal at) holds = holds
    ends-by (start.Bad at) holds = holds
    ends-by (start.ProductDiffers at) holds = holds

    failed-from : (f : StartFault) → Starting (Err f) → Keeping → m.is_honest old → AmendFrom m product text old new image kept_text kept_product kept can (Err (reason_by f))
    failed-from f starts keeping honest = record { moments = moments (Err f) starts honest; ends = ends-by f (holds-none keeping honest) }

  -- it was made one
  pub created : (journal : Standing) → SendsNothing m old new → m.store_faults new ≡ m.store_faults old → Starting (Ok journal) → AmendsJournal m product text old new (Ok 0)
  created journal silent none starts = record {
    silent = silent;
    store = λ is. cc is;
    no_store = λ other. none;
    memory = λ is. cc is;
    answers = λ image held. inl (inl (unfinished image held));
    stays = λ image held refused. absurd refused;
    from = λ image kept_text kept_product kept honest held gives can blank. created-from image kept_text kept_product kept gives can held blank journal starts honest;
  }

  -- a call on the store has failed
  pub not-created : (f : StartFault) → SendsNothing m old new → (f ≡ start.Store → Rose (m.store_faults old) (m.store_faults new)) → ((f ≡ start.Store → ⊥) → m.store_faults new ≡ m.store_faults old)
      → ((image : List ℕ) → m.holds old ≡ Some image → IsStartFault text MOST_LIMIT image f) → (IsRefusal f → KeepsImage m old new) → Starting (Err f) → Keeping → AmendsJournal m product text old new (Err (reason_by f))
  not-created f silent store none answers stays starts keeping = record {
    silent = silent;
    store = λ is. store (store-alone f (cc is));
    no_store = λ other. none (λ is. other (ap (λ (g : StartFault). Err (reason_by g)) is));
    memory = λ is. absurd (never-memory f (cc is));
    answers = λ image held. fault-answers product text f image (begun-of text image (unfinished image held)) (answers image held);
    stays = λ image held refused. stays (never-refused f refused);
    from = λ image kept_text kept_product kept honest held gives can blank. failed-from image kept_text kept_product kept gives can held blank f starts keeping honest;
  }

-- an image without an open gate was looked at, and no other text found
pub no-journal : (text image : List ℕ) (found : Option Standing) → IsBegun image → Looks text MOST_LIMIT image (Ok found) → IsBlank image ⊎ IsSealedOf text image
no-journal text image None closed looks = looks
no-journal text image (Some s) closed looks = absurd (begun-closed image closed looks.0.opened.gate)
