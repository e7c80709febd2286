-- What `opening` comes to, from the entry on: a state is recovered first, then the messages of the input are collected, and then the openings
-- are sent.
use Rattle.std.proofs.Common.{◌≡◌, ℕ, ◌+◌, ◌-◌, List, [], ◌∷◌, Some, Result, Ok, Err, refl, sym, ap, subst, ◌∙◌, arith}
use Rattle.std.specs.Prelude.{IsErrOf}
use Rattle.std.proofs.lemmas.List.{take_all, length-take-le}
use Rattle.gx_base.specs.KnownBytes.{IsKnownPrefix}
use Rattle.gx_station.specs.Counts.{Rose}
use Rattle.gx_station.specs.Stations.{StationMeanings, sent_and}
use Rattle.gx_station.specs.Quiet.{Sends}
use Rattle.fix_frame.specs.Stream.{messages_of}
use Rattle.match_journal.specs.Causes.{ReadsOnly}
use Rattle.product_file.specs.Products.{ProductLists}
use Rattle.exec_report.specs.declared.texts.SendFault.{SendFault as SendFailed}
use Rattle.plain_book.specs.Book.{AllDiffer}
use Rattle.plain_book.specs.Numbers.{numbered}
use Rattle.plain_book.specs.declared.entry.Entry.{Entry}
use Rattle.plain_book.proofs.Levels.{AllDiffer-front}
use Rattle.order_kinds.specs.State.{State, state_numbered}
use Rattle.order_kinds.specs.Histories.{History, length_kept, state_kept}
use Rattle.order_kinds.specs.Collecting.{collected}
use Rattle.open_auction.specs.OpeningText.{opening_text}
use Rattle.open_auction.specs.OpeningLaws.{opening_text-numbered}
use Rattle.book_recovery.specs.Kept.{IsTrueImage}
use Rattle.book_recovery.specs.Recovering.{IsStateAfter}
use Rattle.journal_print.specs.KeptStates.{IsKeptState, RecoversKept}
use Rattle.journal_print.specs.Reading.{ReadsAndSends}
use Rattle.journal_print.specs.ReadingLaws.{reading_only, reading_then, sending_only}
use Rattle.journal_print.specs.declared.unprinted.Unprinted.{Unprinted}
use Rattle.journal_print.specs.declared.unprinted.Unprinted.TheVariants as unprinted
use Rattle.globex_run.specs.Outside.{SourceAt, Streams, station_at}
use Rattle.globex_run.specs.Outcomes.{outcome_of}
use Rattle.globex_run.specs.Prints.{ending_sent}
use Rattle.globex_run.specs.OpeningPrices.{collected_on, EndsCollecting, IsCounted, CountsRecovered, FitsOpening, SendsOpenings}
use Rattle.globex_run.specs.RunResult.{IsUnread, EndsAs, first_messages}
use Rattle.globex_run.specs.Inner.Collecting.{ending_unread, CollectsInput, IsOfInput, ShowsWithCause, input_alone}
use Rattle.globex_run.specs.Inner.Serving.{CausedBy}
use Rattle.globex_run.specs.declared.outcome.Outcome.{Outcome}
use Rattle.globex_run.specs.declared.ending.Ending.{Ending}
use Rattle.globex_run.specs.declared.ending.Ending.TheVariants.{Done, ReadFault, StoreFault, SendFault, BadFrame, Truncated, NotAJournal, JournalBad, ProductDiffers, Full}
use Rattle.globex_run.proofs.AnswerMessages.{count-of}
use Rattle.globex_run.proofs.Lists.{and_left-none}

abbrev refused : Unprinted → Result ℕ Unprinted
refused why = Err why

-- orders that are named by their numbers are named so already
numbered-twice : (es : List Entry) → numbered (numbered es) ≡ numbered es
numbered-twice [] = refl
numbered-twice (e ∷ es) = ap (λ (l : List Entry). record e { slot = e.order.number } ∷ l) (numbered-twice es)

module _ {I S : Type 0} (m : StationMeanings S) (product : ProductLists) (text : List ℕ) (source : SourceAt I) (old mid : S) (only : ReadsOnly m old mid) where
  abbrev before : Streams I S
  before = record { input = source; station = station_at m old }

  abbrev between : SourceAt I → Streams I S
  between input = record { input = input; station = station_at m mid }

  same_sent : m.sent mid ≡ m.sent old
  same_sent = only.looks.silent.sent

  same_sends : m.send_faults mid ≡ m.send_faults old
  same_sends = only.looks.silent.send_faults

  -- ---- no state was recovered

  module _ (outcome : Outcome) where
    stops : (ending : Ending) → outcome ≡ outcome_of ending 0 → ((n : ℕ) → IsUnread before (between source) n [] → EndsCollecting before (between source) ending n []) → ((image : List ℕ) → m.holds old ≡ Some image → FitsOpening product text image ending 0)
        → ((n : ℕ) → IsCounted ending n) → (m.sent mid ≡ m.sent old → SendsOpenings product text before (between source) ending []) → CausedBy ending before (between source) → ShowsWithCause m product text before (between source) outcome
    stops ending is ends fits counted sends cause =
        let none : outcome.messages ≡ 0 = ap (λ (o : Outcome). o.messages) is ∙ count-of ending 0 in
        record {
          shows = record {
            ending = ending;
            is = is ∙ ap (outcome_of ending) (sym none);
            taken = [];
            took = and_left-none source.left;
            some = omega (arith, none);
            ends = ends outcome.messages (record { none = none; nothing = refl; input = refl });
            image = λ image known. subst (FitsOpening product text image ending) (sym none) (fits image known);
            counted = λ image known kept is_true. counted (length_kept kept + outcome.messages);
            sends = sends same_sent;
          };
          reads = reading_only m old mid only;
          cause = cause;
        }

    abbrev Recovers : Unprinted → Type 0
    Recovers why = (image : List ℕ) → m.holds old ≡ Some image → (state : State) × RecoversKept product text image state (Err why)

    pub not-recovered : (why : Unprinted) → outcome ≡ outcome_of (ending_unread why) 0 → (IsErrOf (refused why) unprinted.Send → ⊥) → (IsErrOf (refused why) unprinted.NoMemory → ⊥)
        → (IsErrOf (refused why) unprinted.Store → Rose (m.store_faults old) (m.store_faults mid)) → ((IsErrOf (refused why) unprinted.Store → ⊥) → m.store_faults mid ≡ m.store_faults old) → Recovers why → ShowsWithCause m product text before (between source) outcome
    not-recovered unprinted.Store is send memory store no_store recovers =
        stops StoreFault is (λ n unread. unread) (λ image known. tt) (λ n. tt) (λ same. same) (refl, store refl, same_sends)
    not-recovered unprinted.Send is send memory store no_store recovers = absurd (send refl)
    not-recovered unprinted.NoMemory is send memory store no_store recovers = absurd (memory refl)
    not-recovered (unprinted.NotAJournal at) is send memory store no_store recovers =
        stops (NotAJournal at) is (λ n unread. unread) (λ image known. (recovers image known).1) (λ n. tt) (λ same. same) (refl, no_store (λ e. cc e), same_sends)
    not-recovered (unprinted.Bad at) is send memory store no_store recovers =
        stops (JournalBad at) is (λ n unread. unread) (λ image known. (recovers image known).1) (λ n. tt) (λ same. same) (refl, no_store (λ e. cc e), same_sends)
    not-recovered (unprinted.ProductDiffers at) is send memory store no_store recovers =
        stops (ProductDiffers at) is (λ n unread. unread) (λ image known. (recovers image known).1) (λ n. tt) (λ same. same) (refl, no_store (λ e. cc e), same_sends)

  -- ---- a state was recovered, and the messages of the input collected

  module _ (steady : m.store_faults mid ≡ m.store_faults old) (n : ℕ) (core last : State) (kept : (image : List ℕ) → m.holds old ≡ Some image → IsKeptState product text image core n) (then : SourceAt I) (ending : Ending) (all : CollectsInput product source then core last ending) where
    abbrev count : ℕ
    count = all.count

    counts : last.desk.messages ≡ core.desk.messages + count
    counts = omega (arith, all.collects.count, length-take-le all.count (messages_of all.taken) all.some)

    -- what is counted, by the image, and by a history
    by-image : (image : List ℕ) → m.holds old ≡ Some image → CountsRecovered product text image ending count
    by-image image known =
        let here = kept image known in
        (here.recovered, subst (IsCounted ending) (omega (arith, counts, here.count_is, here.counted)) all.counted)

    by-history : (image : List ℕ) → m.holds old ≡ Some image → (history : History) → IsTrueImage product text history image → IsCounted ending (length_kept history + count)
    by-history image known history is_true =
        subst (IsCounted ending) (omega (arith, counts, ((kept image known).kept history is_true).count_is)) all.counted

    -- so many messages were collected
    pub collected-count : last.desk.messages - core.desk.messages ≡ count
    collected-count = omega (arith, counts)

    -- ---- how it ended

    module _ (outcome : Outcome) (new : S) (by : Ending) (is : outcome ≡ outcome_of by count) where
      abbrev after : Streams I S
      after = record { input = then; station = station_at m new }

      messages : outcome.messages ≡ count
      messages = ap (λ (o : Outcome). o.messages) is ∙ count-of by count

      shows-by : ReadsAndSends m old new → EndsCollecting before after by count all.taken → ((image : List ℕ) → m.holds old ≡ Some image → FitsOpening product text image by count)
          → ((image : List ℕ) → m.holds old ≡ Some image → (history : History) → IsTrueImage product text history image → IsCounted by (length_kept history + count))
          → SendsOpenings product text before after by all.taken → CausedBy by before after → ShowsWithCause m product text before after outcome
      shows-by reads ends fits counted sends cause = record {
        shows = record {
          ending = by;
          is = is ∙ ap (outcome_of by) (sym messages);
          taken = all.taken;
          took = all.took;
          some = omega (arith, messages, all.some);
          ends = subst (λ k. EndsCollecting before after by k all.taken) (sym messages) ends;
          image = λ image known. subst (FitsOpening product text image by) (sym messages) (fits image known);
          counted = λ image known history is_true. subst (λ k. IsCounted by (length_kept history + k)) (sym messages) (counted image known history is_true);
          sends = sends;
        };
        reads = reads;
        cause = cause;
      }

    -- the input was not read to its end, or not all of it collected: nothing was sent
    module _ (outcome : Outcome) where
      abbrev Shows : Type 0
      Shows = ShowsWithCause m product text before (record { input = then; station = station_at m mid }) outcome

      unsent-by : (e : Ending) → ending ≡ e → outcome ≡ outcome_of e count → (e ≡ Done → ⊥) → IsOfInput e → EndsAs (input_alone source) (input_alone then) e count all.taken → CausedBy e (input_alone source) (input_alone then)
          → ((image : List ℕ) → m.holds old ≡ Some image → CountsRecovered product text image e count)
          → ((image : List ℕ) → m.holds old ≡ Some image → (history : History) → IsTrueImage product text history image → IsCounted e (length_kept history + count)) → Shows
      unsent-by Done same is other of_input ends cause image history = absurd (other refl)
      unsent-by (ReadFault place) same is other of_input ends cause image history =
          shows-by outcome mid (ReadFault place) is (reading_only m old mid only) ends image history same_sent (cause.0, steady, same_sends)
      unsent-by StoreFault same is other of_input ends cause image history = absurd of_input
      unsent-by SendFault same is other of_input ends cause image history = absurd of_input
      unsent-by (BadFrame place) same is other of_input ends cause image history =
          shows-by outcome mid (BadFrame place) is (reading_only m old mid only) ends image history same_sent (cause.0, steady, same_sends)
      unsent-by (Truncated place) same is other of_input ends cause image history =
          shows-by outcome mid (Truncated place) is (reading_only m old mid only) ends image history same_sent (cause.0, steady, same_sends)
      unsent-by (NotAJournal place) same is other of_input ends cause image history = absurd of_input
      unsent-by (JournalBad place) same is other of_input ends cause image history = absurd of_input
      unsent-by (ProductDiffers place) same is other of_input ends cause image history = absurd of_input
      unsent-by (Full place) same is other of_input ends cause image history =
          shows-by outcome mid (Full place) is (reading_only m old mid only) ends image history same_sent (cause.0, steady, same_sends)

      pub not-sent : (k : ℕ) → outcome ≡ outcome_of ending k → k ≡ last.desk.messages - core.desk.messages → (ending ≡ Done → ⊥) → Shows
      not-sent k is k_is other =
          unsent-by ending refl (is ∙ ap (outcome_of ending) (k_is ∙ collected-count)) other all.of_input all.ends all.cause by-image by-history

    -- all of the input was collected: the openings are sent
    module _ (done : ending ≡ Done) (outcome : Outcome) (new : S) (result : Result (Unit {0}) SendFailed) (sent : Sends m mid new (opening_text product last) result) where
      abbrev Shown : Type 0
      Shown = ShowsWithCause m product text before (record { input = then; station = station_at m new }) outcome

      ends-done : EndsAs (input_alone source) (input_alone then) Done count all.taken
      ends-done = subst (λ (e : Ending). EndsAs (input_alone source) (input_alone then) e count all.taken) done all.ends

      cause-done : CausedBy Done (input_alone source) (input_alone then)
      cause-done = subst (λ (e : Ending). CausedBy e (input_alone source) (input_alone then)) done all.cause

      -- all messages of the input
      all-messages : first_messages count all.taken ≡ messages_of all.taken
      all-messages = take_all count (messages_of all.taken) (omega (arith, ends-done.1))

      reads-sends : ReadsAndSends m old new
      reads-sends = reading_then m old mid new (reading_only m old mid only) (sending_only m mid new sent.quiet)

      module _ (image : List ℕ) (known : m.holds old ≡ Some image) (history : History) (is_true : IsTrueImage product text history image) where
        recovered : IsStateAfter history core
        recovered = (kept image known).kept history is_true

        -- the core's state is that of the engine, but for the slots
        state-is : state_numbered last ≡ collected_on product history (messages_of all.taken)
        state-is =
            all.collects.state recovered.numbered
            ∙ ap (λ (s : State). collected product s (first_messages count all.taken)) recovered.state_is
            ∙ ap (collected product (state_kept history)) all-messages

        text-is : sent_and (m.sent mid) (opening_text product last) ≡ sent_and (m.sent old) (opening_text product (collected_on product history (messages_of all.taken)))
        text-is =
            ap (λ s. sent_and s (opening_text product last)) same_sent
            ∙ ap (sent_and (m.sent old)) (sym (opening_text-numbered product last) ∙ ap (opening_text product) state-is)

        -- no two orders have one number
        differ : AllDiffer (numbered (collected_on product history (messages_of all.taken)).book.resting)
        differ =
            subst (λ (s : State). AllDiffer (numbered s.book.resting)) state-is
            (subst AllDiffer (sym (numbered-twice last.book.resting)) (AllDiffer-front (numbered last.book.resting) (numbered last.book.waiting) (all.collects.numbered recovered.numbered).differ))

      by-sent : (r : Result (Unit {0}) SendFailed) → result ≡ r → outcome ≡ outcome_of (ending_sent r) count → Shown
      by-sent (Ok t) same is =
          let told = subst (λ (r : Result (Unit {0}) SendFailed). Sends m mid new (opening_text product last) r) same sent in
          shows-by outcome new Done is reads-sends ends-done
          (λ image known. subst (λ (e : Ending). CountsRecovered product text image e count) done (by-image image known))
          (λ image known history is_true. subst (λ (e : Ending). IsCounted e (length_kept history + count)) done (by-history image known history is_true))
          (λ image known history is_true. record { sent = told.all ∙ text-is image known history is_true; differ = differ image known history is_true })
          (cause-done.0, told.quiet.store_faults ∙ steady, told.cause.ok ∙ same_sends)
      by-sent (Err fault) same is =
          let told = subst (λ (r : Result (Unit {0}) SendFailed). Sends m mid new (opening_text product last) r) same sent in
          shows-by outcome new SendFault is reads-sends ends-done
          (λ image known. subst (λ (e : Ending). CountsRecovered product text image e count) done (by-image image known))
          (λ image known history is_true. subst (λ (e : Ending). IsCounted e (length_kept history + count)) done (by-history image known history is_true))
          (λ image known history is_true. subst (λ s. IsKnownPrefix (m.sent new) s) (text-is image known history is_true) told.part)
          (cause-done.0, told.quiet.store_faults ∙ steady, subst (λ k. Rose k (m.send_faults new)) same_sends told.cause.failed)

      pub sent-openings : (k : ℕ) → outcome ≡ outcome_of (ending_sent result) k → k ≡ last.desk.messages - core.desk.messages → Shown
      sent-openings k is k_is = by-sent result refl (is ∙ ap (outcome_of (ending_sent result)) (k_is ∙ collected-count))
