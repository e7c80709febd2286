-- `amend` where the journal has the text handed in: it is recovered from, and stays as it is.
use Rattle.std.proofs.Common.{◌≡◌, inl, inr, ℕ, ◌≤◌, List, Some, Result, Ok, Err, sym, ap, subst, ◌∙◌, arith, refl}
use Rattle.gx_station.specs.Stations.{StationMeanings}
use Rattle.gx_station.specs.Counts.{Rose}
use Rattle.product_file.specs.Products.{ProductLists}
use Rattle.product_file.specs.ProductTexts.{product_of}
use Rattle.match_journal.specs.Journal.{Header, IsJournal, Record}
use Rattle.match_journal.specs.Texts.{PlacedText}
use Rattle.match_journal.specs.Opening.{IsOpened, StandsIn}
use Rattle.match_journal.specs.Causes.{ReadsOnly}
use Rattle.match_journal.specs.declared.limits.TheConstants.{MOST_LIMIT, LEAST_LIMIT}
use Rattle.match_journal.specs.declared.standing.Standing.{Standing}
use Rattle.match_journal.proofs.LastTexts.{one_last_text}
use Rattle.match_journal.proofs.Unique.{one_list_of}
use Rattle.order_kinds.specs.State.{State}
use Rattle.order_kinds.specs.Histories.{History, length_kept}
use Rattle.book_recovery.specs.Kept.{IsStartable, CanBeRecovered}
use Rattle.book_recovery.specs.Recovering.{Recovers, KeptFrom}
use Rattle.book_recovery.specs.declared.recovery.Recovered.{Recovered}
use Rattle.book_recovery.specs.declared.recovery.RecoverFault.{RecoverFault}
use Rattle.book_recovery.specs.declared.recovery.RecoverFault.TheVariants as fault
use Rattle.globex_run.specs.Inner.Amending.{AnswersAmend, AmendFrom, AmendsJournal}
use Rattle.globex_run.specs.Inner.AmendParts.{IsLooked}
use Rattle.globex_run.specs.declared.unamended.Unamended.TheVariants.{Store, Bad}
use Rattle.globex_run.proofs.AmendReads.{start-text, start-opened, start-wide, no-crash, holds-old, refuses}

module _ {S : Type 0} (m : StationMeanings S) (product : ProductLists) (text : List ℕ) (gives : product_of text ≡ Ok product) (old new : S) (journal : Standing) (looked : IsLooked m old journal text) (reads : ReadsOnly m old new) (gate : ℕ) (state : State) (result : Result Recovered RecoverFault)
    (recovers : (head : Header) (placed : PlacedText) (image : List ℕ) → m.holds old ≡ Some image → StandsIn journal image → LEAST_LIMIT ≤ journal.limit → IsOpened head journal.limit placed image → product_of placed.bytes ≡ Ok product
    → Recovers product head journal.limit image gate state result) where
  -- what is recovered under a header
  module _ (image : List ℕ) (held : m.holds old ≡ Some image) where
    stands : StandsIn journal image
    stands = looked.at.stands image held

    opened : IsOpened stands.head MOST_LIMIT stands.text image
    opened = subst (λ k. IsOpened stands.head k stands.text image) looked.at.limit stands.opened

    of-text : stands.text.bytes ≡ text
    of-text = looked.is image held stands

    answered : (head : Header) → IsOpened head MOST_LIMIT stands.text image → Recovers product head MOST_LIMIT image gate state result
    answered head here =
        subst (λ k. Recovers product head k image gate state result) looked.at.limit
        (recovers head stands.text image held stands (omega (arith, looked.at.limit)) (subst (λ k. IsOpened head k stands.text image) (sym looked.at.limit) here) (ap product_of of-text ∙ gives))

    recovered-answers : (recovered : Recovered) → result ≡ Ok recovered → CanBeRecovered product text MOST_LIMIT image
    recovered-answers recovered is =
        let found = subst (Recovers product stands.head MOST_LIMIT image gate state) is (answered stands.head opened) in
        let last_is = one_last_text stands.head image MOST_LIMIT found.records stands.text opened found.journal.journal in
        inr record {
          head = stands.head;
          few = opened.header.few;
          records = found.records;
          journal = found.journal.journal;
          last = record { is = ap (λ (t : PlacedText). t.bytes) last_is.0 ∙ of-text; inside = last_is.1 };
          good = found.good;
        }

    bad-answers : (at : ℕ) → result ≡ Err (fault.Bad at) → AnswersAmend product text image (Err (Bad at))
    bad-answers at is =
        inr (inl (record { head = stands.head; placed = stands.text; opened = opened; is = of-text }, subst (Recovers product stands.head MOST_LIMIT image gate state) is (answered stands.head opened)))

    module _ (kept_text : List ℕ) (kept_product : ProductLists) (kept : History) (kept_gives : product_of kept_text ≡ Ok kept_product) (can : IsStartable kept_product kept_text kept image) where
      same-text : kept_text ≡ text
      same-text = start-text image kept_text kept_product kept_gives kept can stands.head stands.text opened ∙ of-text

      wide : IsJournal can.head MOST_LIMIT can.records image
      wide = start-wide image kept_text kept_product kept_gives kept can opened.gate

      -- all messages were counted
      counted : (recovered : Recovered) → result ≡ Ok recovered → state.desk.messages ≡ length_kept kept
      counted recovered is =
          let found = subst (Recovers product can.head MOST_LIMIT image gate state) is (answered can.head (start-opened image kept_text kept_product kept_gives kept can stands.head stands.text opened)) in
          let one : found.records ≡ can.records = one_list_of can.head MOST_LIMIT image found.records can.records (inl found.journal.journal) (inl wide) in
          (subst (λ (rs : List Record). KeptFrom can.head rs state) one found.kept can.first can.gives can.good can.are_true).count_is ∙ sym (ap length_kept can.are)

      kept-from : (recovered : Recovered) → result ≡ Ok recovered → (count : ℕ) → count ≡ state.desk.messages → AmendFrom m product text old new image kept_text kept_product kept can (Ok count)
      kept-from recovered is count counts = record {
        moments = no-crash m product text old new new reads.looks.keeps image kept_text kept_product kept can;
        ends = (inl (same-text, holds-old m product text old new new reads.looks.keeps image kept_text kept_product kept can held, λ gate. reads), counts ∙ counted recovered is);
      }

  pub kept : (recovered : Recovered) → result ≡ Ok recovered → (count : ℕ) → count ≡ state.desk.messages → m.store_faults new ≡ m.store_faults old → AmendsJournal m product text old new (Ok count)
  kept recovered is count counts none = record {
    silent = reads.looks.silent;
    store = λ is. cc is;
    no_store = λ other. none;
    memory = λ is. reads;
    answers = λ image held. inl (recovered-answers image held recovered is);
    stays = λ image held refused. absurd refused;
    from = λ image kept_text kept_product kept honest held kept_gives can blank. kept-from image held kept_text kept_product kept kept_gives can recovered is count counts;
  }

  pub bad-kept : (at : ℕ) → result ≡ Err (fault.Bad at) → m.store_faults new ≡ m.store_faults old → AmendsJournal m product text old new (Err (Bad at))
  bad-kept at is none = refuses m product text old new (Bad at) tt reads (λ is. cc is) (λ other. none) (λ image held. bad-answers image held at is)

  pub unread-kept : Rose (m.store_faults old) (m.store_faults new) → AmendsJournal m product text old new (Err Store)
  unread-kept rose = refuses m product text old new Store tt reads (λ is. rose) (λ other. absurd (other refl)) (λ image held. tt)
