-- `amend` where the product handed in may follow: the journal is opened with its own text, and the amendment appended.
use Rattle.std.proofs.Common.{◌≡◌, ◌≢◌, inl, inr, ⊎_elim, ℕ, ◌+◌, ◌<◌, ◌≤◌, List, [], ◌∷◌, ◌++◌, length, Some, Result, Ok, Err, refl, sym, ap, subst, ◌∙◌, arith}
use Rattle.gx_station.specs.Stations.{StationMeanings}
use Rattle.gx_station.specs.Counts.{Rose}
use Rattle.gx_station.specs.Honest.{IsHonestNow, KeepsImage}
use Rattle.gx_station.specs.Moments.{AddsOnly}
use Rattle.product_file.specs.Products.{ProductLists, IsRightProduct}
use Rattle.product_file.specs.ProductTexts.{product_of}
use Rattle.product_file.specs.Amendments.{may_follow}
use Rattle.match_journal.specs.Journal.{Header, IsJournal, Record, has_kind, journal_front}
use Rattle.match_journal.specs.HeaderLaws.{one_header}
use Rattle.match_journal.specs.Classes.{HasHeader, HasOpenGate}
use Rattle.match_journal.specs.Texts.{PlacedText, HasLastText}
use Rattle.match_journal.specs.Opening.{HasOtherText}
use Rattle.match_journal.specs.Appending.{IsJournalTo, IsBeforeOrAfter, IsAdded}
use Rattle.match_journal.specs.Causes.{SendsNothing}
use Rattle.match_journal.specs.LookLaws.{silent_then}
use Rattle.match_journal.specs.StepLaws.{adds_then, adds_weaker, steps_hold}
use Rattle.match_journal.specs.Steps.{Steps, HoldsOne}
use Rattle.match_journal.specs.declared.entry.EntryKind.TheVariants.{Amendment}
use Rattle.match_journal.specs.declared.limits.TheConstants.{MOST_LIMIT}
use Rattle.match_journal.specs.declared.standing.Standing.{Standing}
use Rattle.match_journal.specs.declared.version.Version.{Version}
use Rattle.match_journal.specs.declared.version.Version.TheVariants.{First, Second}
use Rattle.match_journal.specs.declared.faults.AppendFault.{AppendFault}
use Rattle.match_journal.specs.declared.faults.AppendFault.TheVariants as append
use Rattle.match_journal.proofs.Heads.{length-push}
use Rattle.match_journal.proofs.LastTexts.{one_opened}
use Rattle.order_kinds.specs.State.{State, state_numbered}
use Rattle.order_kinds.specs.Amendments.{amended_state}
use Rattle.order_kinds.specs.Histories.{History, amended, length_kept, state_kept}
use Rattle.order_kinds.proofs.Amended.{amended-numbered}
use Rattle.book_image.specs.Image.{image_of}
use Rattle.book_recovery.specs.Records.{amendment_of}
use Rattle.book_recovery.specs.Kept.{IsStartable, IsStartableWithin, CanBeRecovered}
use Rattle.book_recovery.specs.BadPlaces.{IsBadPlace}
use Rattle.globex_run.specs.Amends.{CanFollow, amendment_record}
use Rattle.globex_run.specs.Inner.OneHeader.{KeepsUnder, IsOpeningUnder}
use Rattle.globex_run.specs.Inner.Sessions.{AnswersOpening, IsRefusedOpening, Opens}
use Rattle.globex_run.specs.Inner.Openings.{AnswersAny, OpensAny}
use Rattle.globex_run.specs.Inner.Amending.{unamended_without, AnswersAmend, IsRefusedAmend, KeepsEither, IsAmendCrash, AmendFrom, AmendsJournal}
use Rattle.globex_run.specs.Inner.AmendParts.{IsSecondOf, AddsRecord, IsAppended}
use Rattle.globex_run.specs.declared.open.Unopened.{Unopened}
use Rattle.globex_run.specs.declared.open.Unopened.TheVariants as unopened
use Rattle.globex_run.specs.declared.unamended.Unamended.{Unamended}
use Rattle.globex_run.specs.declared.unamended.Unamended.TheVariants.{NoMemory, Store, NotAJournal, Bad, ProductDiffers, Full, NotAmendable}
use Rattle.globex_run.proofs.Limits.{journal-within, under-within, keeps-wider}
use Rattle.globex_run.proofs.AmendReads.{start-limit, start-head, start-text, start-journal}

pub store-only : (why : Unopened) → unamended_without why ≡ Store → why ≡ unopened.Store
store-only unopened.Store is = refl
store-only (unopened.NotAJournal at) is = absurd (cc is)
store-only (unopened.Bad at) is = absurd (cc is)
store-only (unopened.ProductDiffers at) is = absurd (cc is)

no-memory : (why : Unopened) → unamended_without why ≡ NoMemory → ⊥
no-memory unopened.Store is = absurd (cc is)
no-memory (unopened.NotAJournal at) is = absurd (cc is)
no-memory (unopened.Bad at) is = absurd (cc is)
no-memory (unopened.ProductDiffers at) is = absurd (cc is)

as-refused : (why : Unopened) → IsRefusedAmend {T = ℕ} (Err (unamended_without why)) → IsRefusedOpening {J = Standing} (Err why)
as-refused unopened.Store refused = refused
as-refused (unopened.NotAJournal at) refused = tt
as-refused (unopened.Bad at) refused = tt
as-refused (unopened.ProductDiffers at) refused = tt

not-first : (v : Version) → v ≡ First → v ≡ Second → ⊥
not-first v first second = let e : First ≡ Second = sym first ∙ second in cc e

module _ {S : Type 0} (m : StationMeanings S) (product : ProductLists) (right : IsRightProduct product) (text kept_text : List ℕ) (kept_product : ProductLists) (gives : product_of kept_text ≡ Ok kept_product) (may : may_follow kept_product product ≡ Ok tt) (other : kept_text ≢ text)
    (old mid : S) (second : (image : List ℕ) → m.holds old ≡ Some image → IsSecondOf kept_text image) where
  -- ---- the image at entry

  module _ (image : List ℕ) (held : m.holds old ≡ Some image) where
    abbrev it : IsSecondOf kept_text image
    it = second image held

    abbrev can-follow : CanFollow product text image
    can-follow = record {
      kept = record {
        found = record { head = it.head; placed = it.placed; opened = it.opened; other = λ same. other (sym it.is ∙ same); records = it.records; heads = it.heads };
        product = kept_product;
        gives = ap product_of it.is ∙ gives;
      };
      second = it.second;
      may = may;
    }

    recovered : CanBeRecovered kept_product kept_text MOST_LIMIT image → CanBeRecovered kept_product it.placed.bytes MOST_LIMIT image
    recovered can = subst (λ (l : List ℕ). CanBeRecovered kept_product l MOST_LIMIT image) (sym it.is) can

    -- it has the text that it was opened with
    one-text : (at : ℕ) → HasOtherText kept_text MOST_LIMIT image at → ⊥
    one-text at has = ⊎_elim
        (λ opened. has.other (ap (λ (t : PlacedText). t.bytes) (one_opened MOST_LIMIT image has.head it.head has.text it.placed opened it.opened).1 ∙ it.is))
        (λ sealed. sealed.0.not_open it.opened.gate.opened)
        has.found

    unopened-answers : (why : Unopened) → AnswersOpening kept_product MOST_LIMIT kept_text image (Err why) → AnswersAmend product text image (Err (unamended_without why))
    unopened-answers unopened.Store is = tt
    unopened-answers (unopened.NotAJournal at) is = is
    unopened-answers (unopened.Bad at) (inl bad) = inl bad
    unopened-answers (unopened.Bad at) (inr bad) =
        inr (inr (inr (inr (can-follow, subst (λ (h : Header). IsBadPlace kept_product h MOST_LIMIT image at) (one_header image bad.0.head it.head bad.0.opened.header it.opened.header) bad.1))))
    unopened-answers (unopened.ProductDiffers at) is = absurd (one-text at is)

    -- ---- from which a run can start

    module _ (start_text : List ℕ) (start_product : ProductLists) (kept : History) (start_gives : product_of start_text ≡ Ok start_product) (can : IsStartable start_product start_text kept image) where
      same-text : start_text ≡ kept_text
      same-text = start-text image start_text start_product start_gives kept can it.head it.placed it.opened ∙ it.is

      another : start_text ≢ text
      another same = other (sym same-text ∙ same)

      same-head : it.head ≡ can.head
      same-head = start-head image start_text start_product start_gives kept can it.head it.placed it.opened

      -- the front of its records ends within the limit of its product
      ends-in : length (journal_front can.head can.records) < start_product.journal_limit
      ends-in = (start-journal image start_text start_product start_gives kept can it.opened.gate).in_limit

      abbrev start-within : IsStartableWithin MOST_LIMIT kept_text kept image
      start-within = record {
        head = can.head;
        records = can.records;
        keeps = keeps-wider start_product.journal_limit MOST_LIMIT (start-limit image start_text start_product start_gives kept can) can.head can.records image can.keeps;
        last = subst (HasLastText can.head can.records) same-text can.last;
        first = can.first;
        gives = can.gives;
        good = can.good;
        are_true = can.are_true;
        are = can.are;
      }

      narrower : (left : List ℕ) → KeepsUnder can.head.text MOST_LIMIT can.records left → KeepsUnder can.head.text start_product.journal_limit can.records left
      narrower left keeps = under-within MOST_LIMIT start_product.journal_limit can.head.version can.head.text can.records left ends-in keeps

      -- while it is opened
      opening : (new : S) (left out : List ℕ) → IsOpeningUnder can.head.text MOST_LIMIT can.records image left × (m.sent old ≡ Some out) → IsAmendCrash m product text old new image start_text start_product kept can left out
      opening new left out here = record { keeps = inl (narrower left here.0.keeps); no_longer = omega (arith, here.0.no_longer, right.least_limit); sent = here.1 }

      opened-moments : (new : S) → AddsOnly m old mid (λ left out. IsOpeningUnder can.head.text MOST_LIMIT can.records image left × (m.sent old ≡ Some out)) → AddsOnly m old mid (IsAmendCrash m product text old new image start_text start_product kept can)
      opened-moments new adds = adds_weaker m old mid _ _ (λ h left out here. opening new left out here) adds

      holds-before : HoldsOne m (IsOpeningUnder can.head.text MOST_LIMIT can.records image) mid → HoldsOne m (KeepsUnder can.head.text start_product.journal_limit can.records) mid
      holds-before holds = record { image = holds.image; read = holds.read; has = narrower holds.image holds.has.keeps }

      -- the store failed before it was open
      stopped-from : (state : State) → Opens m MOST_LIMIT can.head old mid image can.records kept state (Err unopened.Store) → AmendFrom m product text old mid image start_text start_product kept can (Err Store)
      stopped-from state opens = record {
        moments = opened-moments mid opens.moments;
        ends = let holds = holds-before opens.keeps in record { image = holds.image; read = holds.read; has = inl holds.has };
      }

      unopened-from : (why : Unopened) (state : State) → Opens m MOST_LIMIT can.head old mid image can.records kept state (Err why) → AmendFrom m product text old mid image start_text start_product kept can (Err (unamended_without why))
      unopened-from unopened.Store state opens = stopped-from state opens
      unopened-from (unopened.NotAJournal at) state opens = absurd (opens.accepted tt)
      unopened-from (unopened.Bad at) state opens = absurd (opens.accepted tt)
      unopened-from (unopened.ProductDiffers at) state opens = absurd (opens.accepted tt)

      -- ---- it was opened

      module _ (journal : Standing) (limit_is : journal.limit ≡ MOST_LIMIT) (core core' : State) (amends : core' ≡ amended_state product core) (at : Opens m MOST_LIMIT can.head old mid image can.records kept core (Ok journal)) (silent : m.sent mid ≡ m.sent old) (new : S) where
        abbrev added : Record
        added = record { kind = Amendment; payload = amendment_of text (image_of (state_numbered core')) }

        abbrev record-to-add : Record
        record-to-add = amendment_record text (amended kept product [])

        -- the image is that of the state with the product handed in
        state_is : state_numbered core' ≡ state_kept (amended kept product [])
        state_is = ap state_numbered amends ∙ amended-numbered product core ∙ ap (amended_state product) at.is_state.state_is

        record_is : added ≡ record-to-add
        record_is = ap (λ (s : State). record { kind = Amendment; payload = amendment_of text (image_of s) }) state_is

        counted : core'.desk.messages ≡ length_kept kept
        counted = ap (λ (s : State). s.desk.messages) amends ∙ at.is_state.count_is

        size_is : length added.payload ≡ length record-to-add.payload
        size_is = ap (λ (r : Record). length r.payload) record_is

        -- no room
        full-from : new ≡ mid → (place : ℕ) → place ≡ journal.gate → product.journal_limit < place + 7 + length added.payload → AmendFrom m product text old new image start_text start_product kept can (Err (Full place))
        full-from same place place_is long = record {
          moments = subst (λ (s : S). AddsOnly m old s (IsAmendCrash m product text old new image start_text start_product kept can)) (sym same) (opened-moments new at.moments);
          ends = (
            record { other = another; place_is = place_is ∙ at.at_end.journal.gate_is; too_long = omega (arith, long, size_is) },
            subst (HoldsOne m (KeepsUnder can.head.text start_product.journal_limit can.records)) (sym same) (holds-before at.keeps),
          );
        }

        module _ {T F : Type 0} (result : Result T F) (fits : journal.gate + 7 + length added.payload ≤ product.journal_limit)
            (steps : Steps m mid new at.at_end.image (IsBeforeOrAfter can.head journal.limit can.records added at.at_end.image (journal.gate + 6 + length added.payload)) (IsAdded can.head journal.limit can.records added at.at_end.image (journal.gate + 6 + length added.payload)) result) where
          abbrev During : List ℕ → Type 0
          During left = IsBeforeOrAfter can.head journal.limit can.records added at.at_end.image (journal.gate + 6 + length added.payload) left

          -- the amended journal is one within the limit of the product handed in
          amended-journal : (left : List ℕ) → IsJournal can.head journal.limit (can.records ++ added ∷ []) left → IsJournal can.head product.journal_limit (can.records ++ record-to-add ∷ []) left
          amended-journal left longer =
              subst (λ (r : Record). IsJournal can.head product.journal_limit (can.records ++ r ∷ []) left) record_is
              (journal-within journal.limit product.journal_limit can.head (can.records ++ added ∷ []) left (omega (arith, length-push can.head can.records added, at.at_end.journal.gate_is, fits)) longer)

          kept-so : (left : List ℕ) → During left → KeepsEither m product text old new image start_text start_product kept can left
          kept-so left here = ⊎_elim
              (λ before. inl (can.head.version, inl (journal-within journal.limit start_product.journal_limit can.head can.records left ends-in before)))
              (λ after. inr ((can-follow, another), amended-journal left after))
              here.keeps

          appending : (left out : List ℕ) → During left × (m.sent mid ≡ Some out) → IsAmendCrash m product text old new image start_text start_product kept can left out
          appending left out here = record {
            keeps = kept-so left here.0;
            no_longer = omega (arith, here.0.no_longer, at.at_end.short, fits, right.least_limit);
            sent = sym silent ∙ here.1;
          }

          moments : AddsOnly m mid new (λ left out. During left × (m.sent mid ≡ Some out))
          moments = steps.moments at.at_end.honest at.at_end.rests

          adds : AddsOnly m old new (IsAmendCrash m product text old new image start_text start_product kept can)
          adds = adds_then m old mid new _ _ (λ h left out here. appending left out here) (opened-moments new at.moments) moments

          failed-from : ((s : S) → m.is_honest s → IsHonestNow m s) → AmendFrom m product text old new image start_text start_product kept can (Err Store)
          failed-from now =
              let before : IsJournal can.head journal.limit can.records at.at_end.image = subst (λ k. IsJournal can.head k can.records at.at_end.image) (sym limit_is) at.at_end.journal.journal in
              let here : During at.at_end.image = record { keeps = inl before; no_longer = omega arith } in
              let left = steps_hold m now mid new at.at_end.image During here at.at_end.honest at.at_end.rests moments in
              record { moments = adds; ends = record { image = left.image; read = left.read; has = kept-so left.image left.has } }

        added-from : (fits : journal.gate + 7 + length added.payload ≤ product.journal_limit)
            → Steps m {T = Unit {0}} {F = AppendFault} mid new at.at_end.image (IsBeforeOrAfter can.head journal.limit can.records added at.at_end.image (journal.gate + 6 + length added.payload)) (IsAdded can.head journal.limit can.records added at.at_end.image (journal.gate + 6 + length added.payload)) (Ok tt)
            → (count : ℕ) → count ≡ core'.desk.messages → AmendFrom m product text old new image start_text start_product kept can (Ok count)
        added-from fits steps count is =
            let done = steps.ends at.at_end.rests.read in
            record {
              moments = adds {T = Unit {0}} {F = AppendFault} (Ok tt) fits steps;
              ends = (inr ((can-follow, another), record { image = done.image; read = done.read; has = amended-journal {T = Unit {0}} {F = AppendFault} (Ok tt) fits steps done.image done.has.1.journal.journal }), is ∙ counted);
            }

        -- whatever was answered
        module _ (now : (s : S) → m.is_honest s → IsHonestNow m s) (version : journal.version ≡ can.head.version) where
          appended : {result : Result (Unit {0}) AppendFault} → IsAppended m mid new journal product.journal_limit core'.desk.messages added result
              → Steps m mid new at.at_end.image (IsBeforeOrAfter can.head journal.limit can.records added at.at_end.image (journal.gate + 6 + length added.payload)) (IsAdded can.head journal.limit can.records added at.at_end.image (journal.gate + 6 + length added.payload)) result
          appended says =
              says can.head at.at_end.image can.records
              (ap (λ (v : Version). has_kind v Amendment) (ap (λ (h : Header). h.version) (sym same-head) ∙ it.second))
              (subst (λ k. IsJournalTo can.head k can.records journal.gate at.at_end.image) (sym limit_is) at.at_end.journal)

          answered-from : (answer : Result ℕ Unamended) → AddsRecord m mid new journal product.journal_limit core'.desk.messages added answer → AmendFrom m product text old new image start_text start_product kept can answer
          answered-from (Ok count) (is, fits, says) = added-from fits (appended says) count is
          answered-from (Err NoMemory) says = absurd says
          answered-from (Err Store) (fits, says) = failed-from (Err append.Store) fits (appended says) now
          answered-from (Err (NotAJournal at)) says = absurd says
          answered-from (Err (Bad at)) says = absurd says
          answered-from (Err (ProductDiffers at)) says = absurd says
          answered-from (Err (Full place)) (same, place_is, long) = full-from same place place_is long
          answered-from (Err (NotAmendable at)) (same, first) = absurd (not-first can.head.version (sym version ∙ first) (ap (λ (h : Header). h.version) (sym same-head) ∙ it.second))

    -- ---- what is answered over any image

    module _ (journal : Standing) (version : journal.version ≡ it.head.version) (new : S) (count : ℕ) (added : Record) where
      added-answers : (answer : Result ℕ Unamended) → AddsRecord m mid new journal product.journal_limit count added answer → CanBeRecovered kept_product kept_text MOST_LIMIT image → AnswersAmend product text image answer
      added-answers (Ok messages) says can = inr (can-follow, recovered can)
      added-answers (Err NoMemory) says can = absurd says
      added-answers (Err Store) says can = tt
      added-answers (Err (NotAJournal at)) says can = absurd says
      added-answers (Err (Bad at)) says can = absurd says
      added-answers (Err (ProductDiffers at)) says can = absurd says
      added-answers (Err (Full place)) says can = (can-follow, recovered can)
      added-answers (Err (NotAmendable at)) (same, first) can = absurd (not-first it.head.version (sym version ∙ first) it.second)

      never-refused : (answer : Result ℕ Unamended) → AddsRecord m mid new journal product.journal_limit count added answer → IsRefusedAmend answer → ⊥
      never-refused (Ok messages) says refused = refused
      never-refused (Err NoMemory) says refused = says
      never-refused (Err Store) says refused = refused
      never-refused (Err (NotAJournal at)) says refused = says
      never-refused (Err (Bad at)) says refused = says
      never-refused (Err (ProductDiffers at)) says refused = says
      never-refused (Err (Full place)) says refused = refused
      never-refused (Err (NotAmendable at)) (same, first) refused = not-first it.head.version (sym version ∙ first) it.second

  -- ---- the whole

  -- the journal was not opened
  pub not-opened : (why : Unopened) (state : State) → SendsNothing m old mid → (why ≡ unopened.Store → Rose (m.store_faults old) (m.store_faults mid)) → ((why ≡ unopened.Store → ⊥) → m.store_faults mid ≡ m.store_faults old)
      → AnswersAny m kept_product MOST_LIMIT kept_text old (Err why) → ((image : List ℕ) → m.holds old ≡ Some image → IsRefusedOpening {J = Standing} (Err why) → KeepsImage m old mid) → OpensAny m MOST_LIMIT kept_text old mid state (Err why)
      → AmendsJournal m product text old mid (Err (unamended_without why))
  not-opened why state silent store none answers stays opens = record {
    silent = silent;
    store = λ is. store (store-only why (cc is));
    no_store = λ other. none (λ is. other (ap (λ (w : Unopened). Err (unamended_without w)) is));
    memory = λ is. absurd (no-memory why (cc is));
    answers = λ image held. unopened-answers image held why (answers image held);
    stays = λ image held refused. stays image held (as-refused why refused);
    from = λ image start_text start_product kept honest held start_gives can blank.
        unopened-from image held start_text start_product kept start_gives can why state (opens image kept honest held (start-within image held start_text start_product kept start_gives can));
  }

  -- it was opened, and a record appended or not
  pub amended-by : (journal : Standing) → journal.limit ≡ MOST_LIMIT → ((image : List ℕ) (head : Header) → m.holds old ≡ Some image → HasOpenGate image → HasHeader head image → journal.version ≡ head.version)
      → (core core' : State) → core' ≡ amended_state product core → SendsNothing m old mid → m.store_faults mid ≡ m.store_faults old → AnswersAny m kept_product MOST_LIMIT kept_text old (Ok journal) → OpensAny m MOST_LIMIT kept_text old mid core (Ok journal)
      → (new : S) (answer : Result ℕ Unamended) → ((s : S) → m.is_honest s → IsHonestNow m s) → SendsNothing m mid new → (answer ≡ Err Store → Rose (m.store_faults mid) (m.store_faults new)) → ((answer ≡ Err Store → ⊥) → m.store_faults new ≡ m.store_faults mid)
      → AddsRecord m mid new journal product.journal_limit core'.desk.messages (record { kind = Amendment; payload = amendment_of text (image_of (state_numbered core')) }) answer
      → AmendsJournal m product text old new answer
  amended-by journal limit_is version core core' amends silent none answers opens new answer now silent' store none' says = record {
    silent = silent_then m old mid new silent silent';
    store = λ is. subst (λ n. Rose n (m.store_faults new)) none (store is);
    no_store = λ other. none' other ∙ none;
    memory = λ is. absurd (subst (AddsRecord m mid new journal product.journal_limit core'.desk.messages (record { kind = Amendment; payload = amendment_of text (image_of (state_numbered core')) })) is says);
    answers = λ image held. added-answers image held journal (its-version image held) new core'.desk.messages (record { kind = Amendment; payload = amendment_of text (image_of (state_numbered core')) }) answer says (answers image held);
    stays = λ image held refused. absurd (never-refused image held journal (its-version image held) new core'.desk.messages (record { kind = Amendment; payload = amendment_of text (image_of (state_numbered core')) }) answer says refused);
    from = λ image start_text start_product kept honest held start_gives can blank.
        answered-from image held start_text start_product kept start_gives can journal limit_is core core' amends (opens image kept honest held (start-within image held start_text start_product kept start_gives can)) silent.sent new now
        (its-version image held ∙ ap (λ (h : Header). h.version) (same-head image held start_text start_product kept start_gives can)) answer says;
  }
    where
      its-version : (image : List ℕ) (held : m.holds old ≡ Some image) → journal.version ≡ (second image held).head.version
      its-version image held = version image (second image held).head held (second image held).opened.gate (second image held).opened.header
