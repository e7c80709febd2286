-- `amend` where a station is read alone: to the end, or before all else.
use Rattle.std.proofs.Common.{◌≡◌, inl, inr, ⊎_elim, ℕ, ◌≤◌, List, Some, Result, Ok, Err, sym, ap, subst, ◌∙◌, arith}
use Rattle.gx_station.specs.Stations.{StationMeanings}
use Rattle.gx_station.specs.Counts.{Rose}
use Rattle.gx_station.specs.Honest.{KeepsImage}
use Rattle.gx_station.specs.Moments.{AddsOnly}
use Rattle.product_file.specs.Products.{ProductLists}
use Rattle.product_file.specs.ProductTexts.{product_of}
use Rattle.match_journal.specs.Journal.{Header, IsJournal}
use Rattle.match_journal.specs.Classes.{HasOpenGate}
use Rattle.match_journal.specs.Texts.{PlacedText}
use Rattle.match_journal.specs.Opening.{IsOpened}
use Rattle.match_journal.specs.Causes.{ReadsOnly}
use Rattle.match_journal.specs.LookLaws.{silent_then, keeps_then, reads_of}
use Rattle.match_journal.specs.StepLaws.{adds_then, adds_weaker}
use Rattle.match_journal.specs.Steps.{HoldsOne}
use Rattle.match_journal.specs.declared.limits.TheConstants.{MOST_LIMIT}
use Rattle.match_journal.proofs.LastTexts.{one_last_text}
use Rattle.order_kinds.specs.Histories.{History}
use Rattle.book_recovery.specs.Kept.{IsStartable}
use Rattle.globex_run.specs.Inner.OneHeader.{KeepsUnder}
use Rattle.globex_run.specs.Inner.Amending.{AnswersAmend, IsAmendCrash, KeepsEither, EndsAmended, EndsAmend, AmendFrom, AmendsJournal}
use Rattle.globex_run.specs.declared.unamended.Unamended.{Unamended}
use Rattle.globex_run.specs.declared.unamended.Unamended.TheVariants.{NoMemory, Store, NotAJournal, Bad, ProductDiffers, Full, NotAmendable}
use Rattle.product_file.proofs.RightTexts.{product_of_text_is_right}
use Rattle.globex_run.proofs.Limits.{journal-wider}
use Rattle.globex_run.proofs.Openings.{journal_header, unfinished_closed}

-- ---- what an image from which a run can start is to one who opened it

module _ (image kept_text : List ℕ) (kept_product : ProductLists) (gives : product_of kept_text ≡ Ok kept_product) (kept : History) (start : IsStartable kept_product kept_text kept image) where
  -- the limit of its product is none greater than the greatest
  pub start-limit : kept_product.journal_limit ≤ MOST_LIMIT
  start-limit = omega (arith, (product_of_text_is_right kept_text kept_product gives).most_limit)

  -- it is a journal, if its first gate is open
  pub start-journal : HasOpenGate image → IsJournal start.head kept_product.journal_limit start.records image
  start-journal gate = ⊎_elim (λ journal. journal) (λ unfinished. absurd (unfinished_closed start.head image unfinished.1 gate)) start.keeps

  pub start-wide : HasOpenGate image → IsJournal start.head MOST_LIMIT start.records image
  start-wide gate = journal-wider kept_product.journal_limit MOST_LIMIT start-limit start.head start.records image (start-journal gate)

  -- what was opened is of its header, and has its last text
  module _ (head : Header) (placed : PlacedText) (opened : IsOpened head MOST_LIMIT placed image) where
    pub start-head : head ≡ start.head
    start-head = journal_header head start.head MOST_LIMIT start.records image (omega arith) opened.header (start-wide opened.gate)

    pub start-opened : IsOpened start.head MOST_LIMIT placed image
    start-opened = subst (λ (h : Header). IsOpened h MOST_LIMIT placed image) start-head opened

    pub start-text : kept_text ≡ placed.bytes
    start-text =
        sym start.last.is
        ∙ ap (λ (t : PlacedText). t.bytes) (one_last_text start.head image MOST_LIMIT start.records placed start-opened (start-wide opened.gate)).0

-- ---- a station that was read

module _ {S : Type 0} (m : StationMeanings S) (product : ProductLists) (text : List ℕ) where
  -- a look adds no image
  module _ (a b c : S) (keeps : KeepsImage m a b) (image kept_text : List ℕ) (kept_product : ProductLists) (kept : History) (start : IsStartable kept_product kept_text kept image) where
    pub no-crash : AddsOnly m a b (IsAmendCrash m product text a c image kept_text kept_product kept start)
    no-crash = adds_weaker m a b _ _ (λ h left out none. absurd none) keeps.moments

    pub holds-old : m.holds a ≡ Some image → HoldsOne m (KeepsUnder start.head.text kept_product.journal_limit start.records) b
    holds-old held = record { image = image; read = keeps.holds ∙ held; has = (start.head.version, start.keeps) }

    pub holds-either : m.holds a ≡ Some image → HoldsOne m (KeepsEither m product text a c image kept_text kept_product kept start) b
    holds-either held = record { image = image; read = keeps.holds ∙ held; has = inl (start.head.version, start.keeps) }

  -- ---- to the end

  -- a reason that may come where the station was only read
  abbrev pub ComesUnwritten : Unamended → Type 0
  ComesUnwritten (Full at) = ⊥
  ComesUnwritten why = Unit {0}

  unwritten-ends : (a b : S) (why : Unamended) → ComesUnwritten why → KeepsImage m a b → (image kept_text : List ℕ) (kept_product : ProductLists) (kept : History) (start : IsStartable kept_product kept_text kept image) → m.holds a ≡ Some image
      → EndsAmend m product text a b image kept_text kept_product kept start (Err why)
  unwritten-ends a b NoMemory comes keeps image kept_text kept_product kept start held = holds-old a b b keeps image kept_text kept_product kept start held
  unwritten-ends a b Store comes keeps image kept_text kept_product kept start held = holds-either a b b keeps image kept_text kept_product kept start held
  unwritten-ends a b (NotAJournal at) comes keeps image kept_text kept_product kept start held = holds-old a b b keeps image kept_text kept_product kept start held
  unwritten-ends a b (Bad at) comes keeps image kept_text kept_product kept start held = holds-old a b b keeps image kept_text kept_product kept start held
  unwritten-ends a b (ProductDiffers at) comes keeps image kept_text kept_product kept start held = holds-old a b b keeps image kept_text kept_product kept start held
  unwritten-ends a b (Full at) comes keeps image kept_text kept_product kept start held = absurd comes
  unwritten-ends a b (NotAmendable at) comes keeps image kept_text kept_product kept start held = holds-old a b b keeps image kept_text kept_product kept start held

  -- whatever the reason, where the image stays as it is
  pub unwritten-from : (a b : S) (why : Unamended) → ComesUnwritten why → KeepsImage m a b → (image kept_text : List ℕ) (kept_product : ProductLists) (kept : History) (start : IsStartable kept_product kept_text kept image) → m.holds a ≡ Some image
      → AmendFrom m product text a b image kept_text kept_product kept start (Err why)
  unwritten-from a b why comes keeps image kept_text kept_product kept start held = record {
    moments = no-crash a b b keeps image kept_text kept_product kept start;
    ends = unwritten-ends a b why comes keeps image kept_text kept_product kept start held;
  }

  pub refuses : (a b : S) (why : Unamended) → ComesUnwritten why → ReadsOnly m a b → (why ≡ Store → Rose (m.store_faults a) (m.store_faults b)) → ((why ≡ Store → ⊥) → m.store_faults b ≡ m.store_faults a)
      → ((image : List ℕ) → m.holds a ≡ Some image → AnswersAmend product text image (Err why)) → AmendsJournal m product text a b (Err why)
  refuses a b why comes reads store none answers = record {
    silent = reads.looks.silent;
    store = λ is. store (cc is);
    no_store = λ other. none (λ is. other (ap Err is));
    memory = λ is. reads;
    answers = answers;
    stays = λ image held refused. reads.looks.keeps;
    from = λ image kept_text kept_product kept honest held gives start blank. unwritten-from a b why comes reads.looks.keeps image kept_text kept_product kept start held;
  }

  -- ---- before all else

  module _ (a b c : S) (reads : ReadsOnly m a b) where
    then-reads : ReadsOnly m b c → ReadsOnly m a c
    then-reads then = reads_of m a b c reads.most then.most reads.looks then.looks

    module _ (image kept_text : List ℕ) (kept_product : ProductLists) (kept : History) (start : IsStartable kept_product kept_text kept image) where
      ends-amended : EndsAmended m product text b c image kept_text kept_product kept start → EndsAmended m product text a c image kept_text kept_product kept start
      ends-amended (inl same) = inl (same.0, same.1, λ gate. then-reads (same.2 gate))
      ends-amended (inr added) = inr added

      ends-first : (answer : Result ℕ Unamended) → EndsAmend m product text b c image kept_text kept_product kept start answer → EndsAmend m product text a c image kept_text kept_product kept start answer
      ends-first (Ok count) ends = (ends-amended ends.0, ends.1)
      ends-first (Err NoMemory) ends = ends
      ends-first (Err Store) ends = ends
      ends-first (Err (NotAJournal at)) ends = ends
      ends-first (Err (Bad at)) ends = ends
      ends-first (Err (ProductDiffers at)) ends = ends
      ends-first (Err (Full at)) ends = (record { other = ends.0.other; place_is = ends.0.place_is; too_long = ends.0.too_long }, ends.1)
      ends-first (Err (NotAmendable at)) ends = ends

      crash-first : (left out : List ℕ) → IsAmendCrash m product text b c image kept_text kept_product kept start left out → IsAmendCrash m product text a c image kept_text kept_product kept start left out
      crash-first left out here = record { keeps = here.keeps; no_longer = here.no_longer; sent = sym reads.looks.silent.sent ∙ here.sent }

      from-first : (answer : Result ℕ Unamended) → AmendFrom m product text b c image kept_text kept_product kept start answer → AmendFrom m product text a c image kept_text kept_product kept start answer
      from-first answer then = record {
        moments = adds_then m a b c _ _ (λ h left out here. crash-first left out here) (no-crash a b c reads.looks.keeps image kept_text kept_product kept start) then.moments;
        ends = ends-first answer then.ends;
      }

    -- what is done after reads
    pub reads-first : (answer : Result ℕ Unamended) → m.store_faults b ≡ m.store_faults a → AmendsJournal m product text b c answer → AmendsJournal m product text a c answer
    reads-first answer none then = record {
      silent = silent_then m a b c reads.looks.silent then.silent;
      store = λ is. subst (λ n. Rose n (m.store_faults c)) none (then.store is);
      no_store = λ other. then.no_store other ∙ none;
      memory = λ is. then-reads (then.memory is);
      answers = λ image held. then.answers image (reads.looks.keeps.holds ∙ held);
      stays = λ image held refused. keeps_then m a b c reads.looks.keeps (then.stays image (reads.looks.keeps.holds ∙ held) refused);
      from = λ image kept_text kept_product kept honest held gives start blank.
          from-first image kept_text kept_product kept start answer (then.from image kept_text kept_product kept (reads.looks.keeps.moments.honest honest) (reads.looks.keeps.holds ∙ held) gives start blank);
    }
