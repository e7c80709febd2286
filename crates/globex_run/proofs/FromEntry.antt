-- A session from the image of entry on: its journal is opened, and the input served.
use Rattle.std.proofs.Common.{◌≡◌, ◌⊎◌, inl, inr, ⊎_elim, ℕ, ◌+◌, ◌-◌, ◌≤◌, max, List, [], ◌∷◌, ◌++◌, length, take, Option, Some, None, Ok, Err, IfSome, refl, sym, ap, subst, ◌∙◌, arith, length-append}
use Rattle.std.proofs.lemmas.List.{append-nil}
use Rattle.gx_base.specs.KnownBytes.{IsKnownPrefix, known_itself}
use Rattle.gx_station.specs.Counts.{Rose}
use Rattle.gx_station.specs.Sources.{SourceMeanings}
use Rattle.gx_station.specs.Stations.{StationMeanings, sent_and}
use Rattle.gx_station.specs.Moments.{AddsOnly}
use Rattle.match_journal.specs.Journal.{Record, Header}
use Rattle.match_journal.specs.Causes.{SendsNothing, ReadsAtMost}
use Rattle.match_journal.specs.Steps.{HoldsOne}
use Rattle.match_journal.specs.StepLaws.{adds_then, adds_weaker}
use Rattle.match_journal.specs.declared.standing.Standing.{Standing}
use Rattle.book_recovery.specs.Records.{AreWhole, messages_in}
use Rattle.book_recovery.specs.Kept.{CanBeRecovered}
use Rattle.match_journal.specs.declared.limits.TheConstants.{MOST_UNFINISHED}
use Rattle.product_file.specs.declared.limits.TheConstants.{LEAST_JOURNAL}
use Rattle.product_file.specs.Products.{ProductLists, IsRightProduct}
use Rattle.order_kinds.specs.State.{State, state_numbered}
use Rattle.order_kinds.specs.Cores.{AreNumbered}
use Rattle.exec_report.specs.Forms.{LineText}
use Rattle.gx_base.specs.declared.event.Event.{Event}
use Rattle.order_kinds.specs.Step.{state_after, events_from}
use Rattle.globex_run.specs.Outside.{Streams, AreWithinReads, streams_at}
use Rattle.globex_run.specs.Outcomes.{outcome_of}
use Rattle.globex_run.specs.Journals.{AnswersImage, bytes_in, most_read}
use Rattle.globex_run.specs.RunResult.{EndsAs}
use Rattle.globex_run.specs.Inner.OneHeader.{KeepsUnder, IsOpeningUnder}
use Rattle.globex_run.specs.Inner.Recording.{lines_from, IsRecordCrash, Serves, AllKept, Served}
use Rattle.globex_run.specs.Inner.Serving.{IsDone, CausedBy, HasNoRoomAt, IsLastCounted, EndsServing, ServesInput}
use Rattle.globex_run.specs.Inner.Openings.{OpensAny, RestsAny}
use Rattle.globex_run.specs.Inner.Sessions.{ending_without, AnswersOpening, IsRefusedOpening, Opens, RestsBehind, IsFullBehind, IsAllServed, EndsSession, SessionFrom, SessionResult, IsAtRest}
use Rattle.globex_run.specs.declared.ending.Ending.{Ending}
use Rattle.globex_run.specs.declared.ending.Ending.TheVariants.{Done, ReadFault, StoreFault, SendFault, BadFrame, Truncated, NotAJournal, JournalBad, ProductDiffers, Full}
use Rattle.globex_run.specs.declared.outcome.Outcome.{Outcome}
use Rattle.globex_run.specs.declared.open.Unopened.{Unopened}
use Rattle.globex_run.specs.declared.open.Unopened.TheVariants as unopened
use Rattle.globex_run.proofs.Lists.{and_left-none}
use Rattle.globex_run.proofs.SentReports.{known_more}
use Rattle.globex_run.proofs.Folds.{messages_in-append}
use Rattle.globex_run.proofs.KeptMore.{length-startable, never-last}
use Rattle.globex_run.proofs.TakenBytes.{taken_by}
use Rattle.globex_run.proofs.Endings.{when_done}
use Rattle.order_kinds.specs.Histories.{History, state_kept}

-- one of two holds of the image that a read gives
holds_either : {S : Type 0} (m : StationMeanings S) (P Q : List ℕ → Type 0) (s : S) → HoldsOne m (λ image. P image ⊎ Q image) s → HoldsOne m P s ⊎ HoldsOne m Q s
holds_either m P Q s holds = ⊎_elim
    (λ p. inl record { image = holds.image; read = holds.read; has = p })
    (λ q. inr record { image = holds.image; read = holds.read; has = q })
    holds.has

holds_weaker : {S : Type 0} (m : StationMeanings S) (P Q : List ℕ → Type 0) (s : S) → ((image : List ℕ) → P image → Q image) → HoldsOne m P s → HoldsOne m Q s
holds_weaker m P Q s weaker holds = record { image = holds.image; read = holds.read; has = weaker holds.image holds.has }

module _ {I S : Type 0} (inputs : SourceMeanings I) (m : StationMeanings S) (line : LineText) (Published : List Event → Type 0) (product : ProductLists) (head : Header) (image : List ℕ) (records : List Record) (kept : History) (old : S) (right : IsRightProduct product) where
  large : LEAST_JOURNAL ≤ product.journal_limit
  large = right.least_limit

  abbrev Crash : List Record → List ℕ → List ℕ → Type 0
  Crash added = IsRecordCrash line product (state_kept kept) head product.journal_limit records added (length image) (m.sent old)

  -- while the journal is opened
  opening_crash : (added : List Record) (left out : List ℕ) → IsOpeningUnder head.text product.journal_limit records image left → m.sent old ≡ Some out → Crash added left out
  opening_crash added left out here sent = record {
    count = 0;
    within = omega arith;
    keeps = subst (λ (rs : List Record). KeepsUnder head.text product.journal_limit rs left) (sym (append-nil records)) here.keeps;
    sent_is = record {
      low = subst (λ o. IsKnownPrefix (m.sent old) o) sent (known_itself (m.sent old));
      high = subst (λ o. IsKnownPrefix o (sent_and (m.sent old) [])) sent (known_more (m.sent old) []);
    };
    no_longer = omega (arith, here.no_longer, large);
  }

  opening_adds : (added : List Record) (new : S) → AddsOnly m old new (λ left out. IsOpeningUnder head.text product.journal_limit records image left × (m.sent old ≡ Some out)) → AddsOnly m old new (Crash added)
  opening_adds added new adds = adds_weaker m old new _ _ (λ h left out pair. opening_crash added left out pair.0 pair.1) adds

  -- the journal was not opened
  pub from_unopened : (input : I) (new : S) (state after : State) → Opens m product.journal_limit head old new image records kept state (Err unopened.Store) → m.sent new ≡ m.sent old
      → SessionFrom m line product head (streams_at inputs m input old) (streams_at inputs m input new) Published after image records kept [] StoreFault 0
  from_unopened input new state after opens silent =
      let same : records ≡ records ++ [] = sym (append-nil records) in
      record {
        right = right;
        added = [];
        behind = [];
        are = refl;
        reads = inl (omega arith);
        bytes = opens.bytes;
        whole = tt;
        part = subst (λ o. IsKnownPrefix o (sent_and (m.sent old) [])) (sym silent) (known_more (m.sent old) []);
        adds = opening_adds [] new opens.moments;
        ends = record {
          served = [];
          others = [];
          are = refl;
          one = omega arith;
          sent = silent ∙ sent_and_itself (m.sent old);
          keeps = inl (holds_weaker m _ _ new (λ left here. subst (λ (rs : List Record). KeepsUnder head.text product.journal_limit rs left) same here.keeps) opens.keeps);
          messages = refl;
        };
        at_rest = λ done. absurd done;
        is_state = λ done. absurd done;
        published = λ done. absurd done;
      }
    where
      sent_and_itself : (sent : Option (List ℕ)) → sent ≡ sent_and sent []
      sent_and_itself None = refl
      sent_and_itself (Some out) = ap Some (sym (append-nil out))

  -- the journal was opened, and the input served
  module _ (mid : S) (core state : State) (Numbered : Type 0) (numbered : Numbered) (journal : Standing) (opens : Opens m product.journal_limit head old mid image records kept core (Ok journal)) (silent : m.sent mid ≡ m.sent old) (state_is : state ≡ state_kept kept) (state_count : state.desk.messages ≡ length (messages_in records))
      (input input' : I) (new : S) (end : ℕ) (then : State) (added : List Record) (behind : List ℕ) (serves : Serves m Numbered line product product.journal_limit mid new journal.gate state added) (count : ℕ) (counted : then.desk.messages ≡ state.desk.messages + count) where
    abbrev most : ℕ
    most = max (length image) MOST_UNFINISHED

    sent_as : (messages : List (List ℕ)) → sent_and (m.sent mid) (lines_from line product state messages) ≡ sent_and (m.sent old) (lines_from line product (state_kept kept) messages)
    sent_as messages = ap (λ o. sent_and o (lines_from line product state messages)) silent ∙ ap (λ (s : State). sent_and (m.sent old) (lines_from line product s messages)) state_is

    part : IsKnownPrefix (m.sent new) (sent_and (m.sent old) (lines_from line product (state_kept kept) (messages_in added)))
    part = subst (λ o. IsKnownPrefix (m.sent new) o) (sent_as (messages_in added)) (serves.part numbered)

    crash : (left out : List ℕ) → IsRecordCrash line product state head product.journal_limit records added most (m.sent mid) left out → Crash added left out
    crash left out here = record {
      count = here.count;
      within = here.within;
      keeps = here.keeps;
      sent_is = record {
        low = subst (λ o. IsKnownPrefix o (Some out)) silent here.sent_is.low;
        high = subst (λ o. IsKnownPrefix (Some out) o) (sent_as (messages_in (take here.count added))) here.sent_is.high;
      };
      no_longer = omega (arith, here.no_longer, large);
    }

    adds : AddsOnly m old new (Crash added)
    adds = adds_then m old mid new _ _ (λ h left out here. crash left out here) (opening_adds added mid opens.moments) (serves.adds head records most opens.at_end numbered)

    all_kept : AllKept m product.journal_limit mid new journal.gate end added → HoldsOne m (KeepsUnder head.text product.journal_limit (records ++ added)) new
    all_kept kept_all =
        let rests = kept_all.at_end head records most opens.at_end in
        record { image = rests.image; read = rests.rests.read; has = (head.version, inl rests.journal.journal) }

    abbrev at_entry : Streams I S
    at_entry = streams_at inputs m input old

    abbrev at_exit : Streams I S
    at_exit = streams_at inputs m input' new

    all_served : Served m Numbered line product product.journal_limit mid new journal.gate end state then added → IsAllServed m line product head at_entry at_exit records kept added count
    all_served served = record { sent = served.sent numbered ∙ sent_as (messages_in added); keeps = all_kept served.all_kept; messages = omega (arith, served.count, counted) }

    -- so many messages have no room in a journal that not one more can be counted
    has_no_room : Served m Numbered line product product.journal_limit mid new journal.gate end state then added → HasNoRoomAt product.journal_limit end behind ⊎ IsLastCounted then.desk.messages behind → HasNoRoomAt product.journal_limit end behind
    has_no_room served full = ⊎_elim
        (λ long. long)
        (λ last.
        let rests = served.all_kept.at_end head records most opens.at_end in
        absurd (never-last product right head (records ++ added) rests.image rests.journal.journal
        (omega (arith, last.0, served.count, state_count, ap (λ (l : List (List ℕ)). length l) (messages_in-append records added), length-append (messages_in records) (messages_in added)))))
        full

    -- what serving came to
    abbrev Ends : Ending → Type 0
    Ends ending = EndsServing m Numbered line product product.journal_limit (streams_at inputs m input mid) at_exit journal.gate end state then ending added behind

    ends_session : (ending : Ending) → Ends ending → EndsSession m line product head at_entry at_exit ending count records kept added behind
    ends_session Done ends = all_served ends.0
    ends_session (ReadFault place) ends = all_served ends.0
    ends_session StoreFault ends = record {
      served = ends.served;
      others = ends.last ∷ [];
      are = ends.are;
      one = omega arith;
      sent = ends.sent numbered ∙ sent_as (messages_in ends.served);
      keeps = holds_either m _ _ new (holds_weaker m _ _ new (λ left. ⊎_elim (λ journal. inl (head.version, inl journal)) (λ journal. inr (head.version, inl journal))) (ends.keeps head records most opens.at_end));
      messages = omega (arith, ends.count, counted);
    }
    ends_session SendFault ends = record { keeps = all_kept ends.all_kept; messages = omega (arith, ends.count, counted) }
    ends_session (BadFrame place) ends = all_served ends.0
    ends_session (Truncated place) ends = all_served ends.0
    ends_session (NotAJournal place) ends = ends
    ends_session (JournalBad place) ends = ends
    ends_session (ProductDiffers place) ends = ends
    ends_session (Full place) ends =
        let rests = ends.0.all_kept.at_end head records most opens.at_end in (
          all_served ends.0,
          record {
            end = end;
            end_is = omega (arith, ends.0.all_kept.grown, opens.at_end.journal.gate_is);
            journal = record { image = rests.image; read = rests.rests.read; has = rests.journal };
            no_room = has_no_room ends.0 ends.2;
          },
        )

    rests_done : Ends Done → IsAtRest m line product head at_entry at_exit (max (length image) product.journal_limit)
    rests_done ends =
        let rests = ends.0.all_kept.at_end head records most opens.at_end in
        record { image = rests.image; read = rests.rests.read; settled = rests.rests.settled; short = omega (arith, rests.short, large) }

    done_rests : (ending : Ending) → IsDone ending → Ends ending → IsAtRest m line product head at_entry at_exit (max (length image) product.journal_limit)
    done_rests ending done = when_done (λ (e : Ending). Ends e → IsAtRest m line product head at_entry at_exit (max (length image) product.journal_limit)) rests_done ending done

    done_state : (ending : Ending) → IsDone ending → Ends ending → then ≡ state_after product state (messages_in added)
    done_state ending done = when_done (λ (e : Ending). Ends e → then ≡ state_after product state (messages_in added)) (λ ends. ends.0.is_state numbered) ending done

    pub from_opened : (ending : Ending) → AreWithinReads at_entry.input at_exit.input (length added) → m.bytes_read new ≡ m.bytes_read mid → (Numbered → IsDone ending → Published (events_from product state (messages_in added))) → Ends ending
        → SessionFrom m line product head at_entry at_exit Published then image records kept (bytes_in added ++ behind) ending count
    from_opened ending reads bytes published ends = record {
      right = right;
      at_rest = λ done. done_rests ending done ends;
      is_state = λ done. done_state ending done ends ∙ ap (λ (s : State). state_after product s (messages_in added)) state_is;
      added = added;
      behind = behind;
      are = refl;
      reads = reads;
      bytes = subst (λ (count : Option ℕ). ReadsAtMost (most_read records) (m.bytes_read old) count) (sym bytes) opens.bytes;
      whole = serves.whole;
      part = part;
      adds = adds;
      ends = ends_session ending ends;
      published = λ done. subst (λ (s : State). Published (events_from product s (messages_in added))) state_is (published numbered done);
    }

-- ---- what else a session tells

-- what holds of the image, where that is told
pub where_told : (told : Option (List ℕ)) (P : List ℕ → Type 0) → ((image : List ℕ) → told ≡ Some image → P image) → IfSome told P
where_told None P says = tt
where_told (Some image) P says = says image refl

module _ {I S : Type 0} (inputs : SourceMeanings I) (m : StationMeanings S) (line : LineText) (Published : List Event → Type 0) (product : ProductLists) (text : List ℕ) (old : S) where
  -- opening raised no count of faults
  pub caused_by : (ending : Ending) (mid : S) (input : I) (after : Streams I S) → m.store_faults mid ≡ m.store_faults old → m.send_faults mid ≡ m.send_faults old → CausedBy ending (streams_at inputs m input mid) after → CausedBy ending (streams_at inputs m input old) after
  caused_by Done mid input after store send cause = (cause.0, cause.1 ∙ store, cause.2 ∙ send)
  caused_by (ReadFault place) mid input after store send cause = (cause.0, cause.1 ∙ store, cause.2 ∙ send)
  caused_by StoreFault mid input after store send cause = (cause.0, subst (λ k. Rose k after.station.store_faults) store cause.1, cause.2 ∙ send)
  caused_by SendFault mid input after store send cause = (cause.0, cause.1 ∙ store, subst (λ k. Rose k after.station.send_faults) send cause.2)
  caused_by (BadFrame place) mid input after store send cause = (cause.0, cause.1 ∙ store, cause.2 ∙ send)
  caused_by (Truncated place) mid input after store send cause = (cause.0, cause.1 ∙ store, cause.2 ∙ send)
  caused_by (NotAJournal place) mid input after store send cause = (cause.0, cause.1 ∙ store, cause.2 ∙ send)
  caused_by (JournalBad place) mid input after store send cause = (cause.0, cause.1 ∙ store, cause.2 ∙ send)
  caused_by (ProductDiffers place) mid input after store send cause = (cause.0, cause.1 ∙ store, cause.2 ∙ send)
  caused_by (Full place) mid input after store send cause = (cause.0, cause.1 ∙ store, cause.2 ∙ send)

  -- what was opened stays what it was, however serving ends
  pub answers_by : (Numbered : Type 0) (limit : ℕ) (mid : Streams I S) (after : Streams I S) (gate end : ℕ) (state then : State) (added : List Record) (behind image : List ℕ) (ending : Ending) → EndsServing m Numbered line product limit mid after gate end state then ending added behind
      → CanBeRecovered product text product.journal_limit image → AnswersImage product text image ending
  answers_by Numbered limit mid after gate end state then added behind image Done ends was = was
  answers_by Numbered limit mid after gate end state then added behind image (ReadFault place) ends was = was
  answers_by Numbered limit mid after gate end state then added behind image StoreFault ends was = tt
  answers_by Numbered limit mid after gate end state then added behind image SendFault ends was = was
  answers_by Numbered limit mid after gate end state then added behind image (BadFrame place) ends was = was
  answers_by Numbered limit mid after gate end state then added behind image (Truncated place) ends was = was
  answers_by Numbered limit mid after gate end state then added behind image (NotAJournal place) ends was = absurd ends
  answers_by Numbered limit mid after gate end state then added behind image (JournalBad place) ends was = absurd ends
  answers_by Numbered limit mid after gate end state then added behind image (ProductDiffers place) ends was = absurd ends
  answers_by Numbered limit mid after gate end state then added behind image (Full place) ends was = was

  -- the journal was not opened, and the store has failed or the image was refused
  module _ (input : I) (new : S) (send : m.send_faults new ≡ m.send_faults old) where
    pub caused_unopened : (reason : Unopened) → (reason ≡ unopened.Store → Rose (m.store_faults old) (m.store_faults new)) → ((reason ≡ unopened.Store → ⊥) → m.store_faults new ≡ m.store_faults old)
        → CausedBy (ending_without reason) (streams_at inputs m input old) (streams_at inputs m input new)
    caused_unopened unopened.Store store none = (refl, store refl, send)
    caused_unopened (unopened.NotAJournal at) store none = (refl, none (λ e. cc e), send)
    caused_unopened (unopened.Bad at) store none = (refl, none (λ e. cc e), send)
    caused_unopened (unopened.ProductDiffers at) store none = (refl, none (λ e. cc e), send)

    pub ends_unopened : (reason : Unopened) → EndsAs (streams_at inputs m input old) (streams_at inputs m input new) (ending_without reason) 0 []
    ends_unopened unopened.Store = tt
    ends_unopened (unopened.NotAJournal at) = record { none = refl; nothing = refl; input = refl }
    ends_unopened (unopened.Bad at) = record { none = refl; nothing = refl; input = refl }
    ends_unopened (unopened.ProductDiffers at) = record { none = refl; nothing = refl; input = refl }

    pub from_unopened_by : (head : Header) (image : List ℕ) (records : List Record) (kept : History) (state after : State) (reason : Unopened) → IsRightProduct product → m.sent new ≡ m.sent old → Opens m product.journal_limit head old new image records kept state (Err reason)
        → SessionFrom m line product head (streams_at inputs m input old) (streams_at inputs m input new) Published after image records kept [] (ending_without reason) 0
    from_unopened_by head image records kept state after unopened.Store right silent opens = from_unopened inputs m line Published product head image records kept old right input new state after opens silent
    from_unopened_by head image records kept state after (unopened.NotAJournal at) right silent opens = absurd (opens.accepted tt)
    from_unopened_by head image records kept state after (unopened.Bad at) right silent opens = absurd (opens.accepted tt)
    from_unopened_by head image records kept state after (unopened.ProductDiffers at) right silent opens = absurd (opens.accepted tt)

-- ---- the outcome

-- an outcome tells its count, whatever the ending
count_told : (ending : Ending) (count : ℕ) → (outcome_of ending count).messages ≡ count
count_told Done count = refl
count_told (ReadFault place) count = refl
count_told StoreFault count = refl
count_told SendFault count = refl
count_told (BadFrame place) count = refl
count_told (Truncated place) count = refl
count_told (NotAJournal place) count = refl
count_told (JournalBad place) count = refl
count_told (ProductDiffers place) count = refl
count_told (Full place) count = refl

pub count_is : (outcome : Outcome) (ending : Ending) (count : ℕ) → outcome ≡ outcome_of ending count → outcome.messages ≡ count
count_is outcome ending count is = ap (λ (o : Outcome). o.messages) is ∙ count_told ending count

-- a status that refuses the image comes only where it was refused
pub refused_by : (reason : Unopened) (outcome : Outcome) → outcome ≡ outcome_of (ending_without reason) 0 → (outcome.status ≡ 9) ⊎ ((outcome.status ≡ 10) ⊎ (outcome.status ≡ 11)) → IsRefusedOpening {J = Standing} (Err reason)
refused_by unopened.Store outcome is refused =
    let status : outcome.status ≡ 5 = ap (λ (o : Outcome). o.status) is in
    ⊎_elim (λ e. omega (arith, e, status)) (λ other. ⊎_elim (λ e. omega (arith, e, status)) (λ e. omega (arith, e, status)) other) refused
refused_by (unopened.NotAJournal at) outcome is refused = tt
refused_by (unopened.Bad at) outcome is refused = tt
refused_by (unopened.ProductDiffers at) outcome is refused = tt

-- serving counts no fewer messages than before
pub no_fewer : {I S : Type 0} (m : StationMeanings S) (Numbered : Type 0) (line : LineText) (product : ProductLists) (limit : ℕ) (mid after : Streams I S) (gate end : ℕ) (state then : State) (added : List Record) (behind : List ℕ) (ending : Ending) → EndsServing m Numbered line product limit mid after gate end state then ending added behind
    → state.desk.messages ≤ then.desk.messages
no_fewer m Numbered line product limit mid after gate end state then added behind Done ends = omega (arith, ends.0.count)
no_fewer m Numbered line product limit mid after gate end state then added behind (ReadFault place) ends = omega (arith, ends.0.count)
no_fewer m Numbered line product limit mid after gate end state then added behind StoreFault ends = omega (arith, ends.count)
no_fewer m Numbered line product limit mid after gate end state then added behind SendFault ends = omega (arith, ends.count)
no_fewer m Numbered line product limit mid after gate end state then added behind (BadFrame place) ends = omega (arith, ends.0.count)
no_fewer m Numbered line product limit mid after gate end state then added behind (Truncated place) ends = omega (arith, ends.0.count)
no_fewer m Numbered line product limit mid after gate end state then added behind (NotAJournal place) ends = absurd ends
no_fewer m Numbered line product limit mid after gate end state then added behind (JournalBad place) ends = absurd ends
no_fewer m Numbered line product limit mid after gate end state then added behind (ProductDiffers place) ends = absurd ends
no_fewer m Numbered line product limit mid after gate end state then added behind (Full place) ends = omega (arith, ends.0.count)

-- what is told of an image that was not opened within the product's limit is what the ending tells of it
pub answers_ending : (product : ProductLists) (text image : List ℕ) (reason : Unopened) → AnswersOpening product product.journal_limit text image (Err reason) → AnswersImage product text image (ending_without reason)
answers_ending product text image unopened.Store told = told
answers_ending product text image (unopened.NotAJournal at) told = told
answers_ending product text image (unopened.Bad at) told = told
answers_ending product text image (unopened.ProductDiffers at) told = told

-- a run whose journal was not opened is not full
never_full : (reason : Unopened) (place : ℕ) → ending_without reason ≡ Full place → ⊥
never_full unopened.Store place e = cc e
never_full (unopened.NotAJournal at) place e = cc e
never_full (unopened.Bad at) place e = cc e
never_full (unopened.ProductDiffers at) place e = cc e

module _ {I S : Type 0} (inputs : SourceMeanings I) (m : StationMeanings S) (line : LineText) (Published : List Event → Type 0) (product : ProductLists) (text : List ℕ) (old mid : S) (input : I) (core : State) (right : IsRightProduct product) (silent : SendsNothing m old mid) where
  pub unopened_session : (after : State) (reason : Unopened) (outcome : Outcome) → outcome ≡ outcome_of (ending_without reason) 0 → (reason ≡ unopened.Store → Rose (m.store_faults old) (m.store_faults mid)) → ((reason ≡ unopened.Store → ⊥) → m.store_faults mid ≡ m.store_faults old)
      → ((image : List ℕ) → m.holds old ≡ Some image → AnswersOpening product product.journal_limit text image (Err reason)) → OpensAny m product.journal_limit text old mid core (Err reason) → SessionResult m line product text (streams_at inputs m input old) (streams_at inputs m input mid) Published after outcome
  unopened_session after reason outcome is store none answers opens =
      let count = count_is outcome (ending_without reason) 0 is in
      record {
        right = right;
        ending = ending_without reason;
        is = is ∙ ap (outcome_of (ending_without reason)) (sym count);
        cause = caused_unopened inputs m line Published product text old input mid silent.send_faults reason store none;
        image = where_told (m.holds old) _ (λ image read. answers_ending product text image reason (answers image read));
        serving = record {
          taken = [];
          took = and_left-none (inputs.left input);
          some = omega (arith, count);
          ends = subst (λ n. EndsAs (streams_at inputs m input old) (streams_at inputs m input mid) (ending_without reason) n []) (sym count) (ends_unopened inputs m line Published product text old input mid silent.send_faults reason);
        };
        from = λ image kept honest read startable.
            subst (λ n. SessionFrom m line product startable.head (streams_at inputs m input old) (streams_at inputs m input mid) Published after image startable.records kept [] (ending_without reason) n) (sym count)
            (from_unopened_by inputs m line Published product text old input mid silent.send_faults startable.head image startable.records kept core after reason right silent.sent (opens image kept honest read startable));
        full = λ image head records honest read text_is keeps place last. absurd (never_full reason place last);
      }

  -- the next message has no room, or cannot be counted
  full_opened : (journal : Standing) (image : List ℕ) (head : Header) (records : List Record) → RestsBehind m product.journal_limit head mid image records core journal → (input' : I) (new : S) (end : ℕ) (then : State) (added : List Record) (behind : List ℕ) → AreWhole added → (count : ℕ) → then.desk.messages ≡ (state_numbered core).desk.messages + count → (place : ℕ)
      → EndsServing m (AreNumbered core) line product product.journal_limit (streams_at inputs m input mid) (streams_at inputs m input' new) journal.gate end (state_numbered core) then (Full place) added behind
      → IsFullBehind m line product head (streams_at inputs m input old) (streams_at inputs m input' new) records (bytes_in added ++ behind) place count
  full_opened journal image head records rests input' new end then added behind whole count counted place ends =
      let last = ends.0.all_kept.at_end head records (max (length image) MOST_UNFINISHED) rests.at_end in
      record {
        added = added;
        behind = behind;
        are = refl;
        whole = whole;
        messages = omega (arith, ends.0.count, counted);
        place_is = ends.1;
        end = end;
        end_is = omega (arith, ends.0.all_kept.grown, rests.at_end.journal.gate_is);
        journal = record { image = last.image; read = last.rests.read; has = last.journal };
        why = ⊎_elim (λ long. inl long) (λ most. inr (omega (arith, most.0, counted, rests.count), most.1)) ends.2;
      }

  pub opened_session : (journal : Standing) (limit_is : journal.limit ≡ product.journal_limit) (store : m.store_faults mid ≡ m.store_faults old) (answers : (image : List ℕ) → m.holds old ≡ Some image → AnswersOpening product product.journal_limit text image (Ok journal)) (opens : OpensAny m product.journal_limit text old mid core (Ok journal)) (rests : RestsAny m product.journal_limit text old mid core (Ok journal)) (input' : I) (new : S) (end : ℕ)
      (then : State) (ending : Ending) → ServesInput m (AreNumbered core) line product journal.limit (streams_at inputs m input mid) (streams_at inputs m input' new) journal.gate end (state_numbered core) then Published ending → CausedBy ending (streams_at inputs m input mid) (streams_at inputs m input' new) → m.bytes_read new ≡ m.bytes_read mid
      → (outcome : Outcome) (counts : ℕ) → counts ≡ then.desk.messages - core.desk.messages → outcome ≡ outcome_of ending counts → SessionResult m line product text (streams_at inputs m input old) (streams_at inputs m input' new) Published then outcome
  opened_session journal limit_is store answers opens rests input' new end then ending serves cause bytes outcome counts more is =
      let before = streams_at inputs m input mid in
      let after = streams_at inputs m input' new in
      let Numbered = AreNumbered core in
      let state = state_numbered core in
      let served = subst (λ k. ServesInput m Numbered line product k before after journal.gate end state then Published ending) limit_is serves in
      let count = count_is outcome ending counts is in
      let counted : then.desk.messages ≡ state.desk.messages + outcome.messages =
      omega (arith, count, more, no_fewer m Numbered line product product.journal_limit before after journal.gate end state then served.added served.behind ending served.ends) in
      let taken = taken_by m Numbered line product product.journal_limit (streams_at inputs m input old) before after journal.gate end state then served.added served.behind served.serves.whole outcome.messages counted ending served.ends in
      record {
        right = right;
        ending = ending;
        is = is ∙ ap (outcome_of ending) (sym count);
        cause = caused_by inputs m line Published product text old ending mid input after store silent.send_faults cause;
        image = where_told (m.holds old) _ (λ image read. answers_by inputs m line Published product text old Numbered product.journal_limit before after journal.gate end state then served.added served.behind image ending served.ends (answers image read));
        serving = record { taken = bytes_in served.added ++ served.behind; took = served.took; some = taken.0; ends = taken.1 };
        from = λ image kept honest read startable.
            let from_image = opens image kept honest read startable in
            let at_start = from_image.is_state in
            from_opened inputs m line Published product startable.head image startable.records kept old right mid core state Numbered at_start.numbered journal from_image silent.sent at_start.state_is (at_start.count_is ∙ length-startable product.journal_limit text kept image startable) input input' new end then served.added served.behind served.serves outcome.messages counted ending served.reads bytes served.published
            served.ends;
        full = λ image head records honest read text_is keeps place last.
            full_opened journal image head records (rests image head records honest read text_is keeps) input' new end then served.added served.behind served.serves.whole outcome.messages counted place
            (subst (λ (e : Ending). EndsServing m Numbered line product product.journal_limit before after journal.gate end state then e served.added served.behind) last served.ends);
      }
