-- What a drill keeps, sends and leaves, from what its session and its summary did.
use Rattle.globex_run.specs.Inner.Keeping.{KeepsEvents}
use Rattle.std.proofs.Common.{◌≡◌, ◌≢◌, ◌⊎◌, inl, inr, ⊎_elim, ℕ, ◌+◌, ◌<◌, ◌≤◌, ◌==◌, Bool, true, cond, List, [], ◌∷◌, ◌++◌, length, take, drop, flat_map, Option, Some, None, Result, Ok, Err, refl, sym, ap, subst, ◌∙◌, length-append, length-drop, append_assoc, arith}
use Rattle.std.specs.List.{concat}
use Rattle.std.proofs.lemmas.Bool.Decides.{nat_tests, eqb_tells}
use Rattle.std.proofs.lemmas.List.{append-nil, take-append-le, take_all, drop-append-le}
use Rattle.std.proofs.lemmas.Option.{same_Some}
use Rattle.gx_base.specs.KnownBytes.{IsPrefix, IsKnownPrefix, known_then}
use Rattle.gx_base.specs.declared.event.Event.{Event}
use Rattle.gx_station.specs.Sources.{and_left}
use Rattle.gx_station.specs.Stations.{StationMeanings, IsBetween, sent_and}
use Rattle.gx_station.specs.SendLaws.{sent_and_none}
use Rattle.gx_station.specs.Honest.{IsHonestNow}
use Rattle.gx_station.specs.Moments.{AddsOnly}
use Rattle.match_journal.specs.StepLaws.{adds_then, adds_weaker}
use Rattle.fix_frame.specs.Grammar.{IsFrameFront}
use Rattle.fix_frame.specs.Stream.{messages_of, rest_of}
use Rattle.fix_frame.specs.StreamLaws.{messages_of-append}
use Rattle.product_file.specs.Products.{ProductLists}
use Rattle.order_kinds.specs.State.{State}
use Rattle.order_kinds.specs.Step.{state_after, events_from}
use Rattle.plain_book.specs.Book.{live_orders}
use Rattle.match_journal.specs.Journal.{Record, Header}
use Rattle.match_journal.specs.declared.limits.TheConstants.{MOST_PAYLOAD}
use Rattle.match_journal.specs.Classes.{Keeps}
use Rattle.match_journal.specs.Texts.{HasLastText}
use Rattle.book_recovery.specs.Records.{messages_in, from_last_image, count_behind_all}
use Rattle.book_recovery.specs.Kept.{IsStartable}
use Rattle.order_maker.specs.Stream.{MadeStream, generator_meanings, made_stream}
use Rattle.book_print.specs.TallyText.{no_tally, tally_line, tally_of}
use Rattle.book_print.specs.Printing.{tally_form}
use Rattle.book_print.specs.declared.tally.Tally.{Tally}
use Rattle.book_print.specs.declared.tally.Tally.{Tally}
use Rattle.globex_run.specs.Outside.{SourceAt, Outside, source_at, station_at, streams_at}
use Rattle.globex_run.specs.Outcomes.{outcome_of}
use Rattle.exec_report.specs.declared.texts.SendFault.{SendFault as SendFailed}
use Rattle.gx_station.specs.Quiet.{Sends}
use Rattle.fix_frame.specs.FrameLaws.{frame_least}
use Rattle.globex_run.specs.Journals.{records_length, end_of_journal}
use Rattle.globex_run.specs.RunResult.{EndsAs, first_messages}
use Rattle.globex_run.specs.Headline.{Premises, AddsMessages, KeepsNow, KeepsCounted, IsCrashPrefix}
use Rattle.globex_run.specs.Drills.{summary, summary_of_all, KeepsAndSumsUp, DrillEndsOtherwise, DrillLeavesCrashPrefixes, DrillBeforeTheFirstSync}
use Rattle.globex_run.specs.Inner.Recording.{lines_from}
use Rattle.globex_run.specs.Inner.Sessions.{IsAllServed, SessionFrom}
use Rattle.globex_run.specs.Inner.Serving.{IsDone, CausedBy}
use Rattle.globex_run.specs.FullJournals.{IsFullJournal}
use Rattle.globex_run.specs.Prints.{outcome_sent}
use Rattle.globex_run.specs.Inner.Drilling.{DrillResult, DrillsMade, SumsUp}
use Rattle.globex_run.specs.declared.outcome.Outcome.{Outcome}
use Rattle.globex_run.specs.declared.ending.Ending.{Ending}
use Rattle.globex_run.specs.declared.ending.Ending.TheVariants.{Done, ReadFault, StoreFault, SendFault, BadFrame, Truncated, NotAJournal, JournalBad, ProductDiffers, Full}
use Rattle.globex_run.proofs.KeptMore.{keeps-of}
use Rattle.globex_run.proofs.Headlines as headline
use Rattle.globex_run.proofs.Complete.{broken_more}
use Rattle.globex_run.proofs.FullJournals.{session-full}
use Rattle.globex_run.proofs.ReadRecords.{KeepsNoMore, keeps_no_more, whole-front}
use Rattle.globex_run.proofs.Reported.{front-between}
use Rattle.globex_run.proofs.SentReports.{sends_at_most}
use Rattle.globex_run.proofs.Told.{outside_of}
use Rattle.globex_run.proofs.Endings.{status_of, when_done}
use Rattle.order_kinds.specs.Histories.{History, with_messages, state_kept}

-- nothing is sent of any events
no_lines : (product : ProductLists) (state : State) (messages : List (List ℕ)) → lines_from (tally_form.text no_tally) product state messages ≡ []
no_lines product state messages = none (events_from product state messages)
  where
    none : (events : List Event) → flat_map ((tally_form.text no_tally) product.names) events ≡ []
    none [] = refl
    none (event ∷ events) = none events

-- so an output on the way to it is what was sent
unsent : (sent : Option (List ℕ)) (out lines : List ℕ) → lines ≡ [] → IsBetween sent out (sent_and sent lines) → Some out ≡ sent_and sent []
unsent None out lines none between = absurd between.low
unsent (Some s) out lines none between =
    let high : s ++ lines ≡ out ++ between.high.rest = between.high.is in
    let low : out ≡ s ++ between.low.rest = between.low.is in
    let same : length s + length lines ≡ length out + length between.high.rest = omega (arith, ap (λ (l : List ℕ). length l) high, length-append s lines, length-append out between.high.rest) in
    let empty : length between.low.rest ≡ 0 = omega (arith, same, ap (λ (l : List ℕ). length l) low, length-append s between.low.rest, ap (λ (l : List ℕ). length l) none) in
    ap Some (low ∙ ap (λ (l : List ℕ). s ++ l) (nil between.low.rest empty))
  where
    nil : (xs : List ℕ) → length xs ≡ 0 → xs ≡ []
    nil [] e = refl
    nil (x ∷ xs) e = absurd (omega (arith, e))

-- an output is what was sent, and nothing more
nothing_more : (product : ProductLists) (state : State) (sent : Option (List ℕ)) (sends' : List (List ℕ) → List ℕ) (messages : List (List ℕ)) (out : List ℕ) → IsBetween sent out (sent_and sent (lines_from (tally_form.text no_tally) product state messages))
    → (front : List ℕ) × IsPrefix front (sends' messages) × (Some out ≡ sent_and sent front)
nothing_more product state sent sends' messages out between =
    ([], record { rest = sends' messages; is = refl }, unsent sent out (lines_from (tally_form.text no_tally) product state messages) (no_lines product state messages) between)

-- what was sent, where it is what was sent and no lines
still_sent : (product : ProductLists) (state : State) (messages : List (List ℕ)) (before after : Option (List ℕ)) → after ≡ sent_and before (lines_from (tally_form.text no_tally) product state messages) → after ≡ before
still_sent product state messages before after is = is ∙ ap (λ (l : List ℕ). sent_and before l) (no_lines product state messages) ∙ sent_and_none before

-- all of them are sent, where they are all
summary_sent : (product : ProductLists) (kept : History) (all first : List (List ℕ)) → length first ≡ length all → summary_of_all product kept all first ≡ summary product kept all
summary_sent product kept all first same = same_if (length first == length all) (summary product kept all) (grind (arith, nat_tests, same))
  where
    same_if : (b : Bool) (xs : List ℕ) → b ≡ true → cond b xs [] ≡ xs
    same_if b xs is = rw is refl

-- nothing is the front of a frame: here of a shortest one
pub empty_front : IsFrameFront []
empty_front = (56 ∷ 61 ∷ 70 ∷ 73 ∷ 88 ∷ 46 ∷ 52 ∷ 46 ∷ 50 ∷ 1 ∷ 57 ∷ 61 ∷ 49 ∷ 1 ∷ 1 ∷ 49 ∷ 48 ∷ 61 ∷ 50 ∷ 48 ∷ 48 ∷ 1 ∷ [], refl)

-- a made stream that was read to some place
module _ (all taken rest : List ℕ) (whole : rest_of all ≡ []) (parts : all ≡ taken ++ rest) where
  -- its first messages are those of the bytes taken
  firsts : (messages_of all ≡ messages_of taken ++ messages_of (rest_of taken ++ rest))
  firsts = ap messages_of parts ∙ messages_of-append taken rest

  pub front-same : (n : ℕ) → n ≤ length (messages_of taken) → take n (messages_of all) ≡ take n (messages_of taken)
  front-same n few = ap (λ (l : List (List ℕ)). take n l) firsts ∙ take-append-le n (messages_of taken) (messages_of (rest_of taken ++ rest)) few

  pub fewer : length (messages_of taken) ≤ length (messages_of all)
  fewer = omega (arith, ap (λ (l : List (List ℕ)). length l) firsts, length-append (messages_of taken) (messages_of (rest_of taken ++ rest)))

-- an ending is none of the three
not-ended : {A B : Type 0} {C : ℕ → Type 0} → (A → ⊥) → (B → ⊥) → ((place : ℕ) → C place → ⊥) → A ⊎ (B ⊎ ((place : ℕ) × C place)) → ⊥
not-ended a b c how = ⊎_elim a (λ other. ⊎_elim b (λ here. c here.0 here.1) other) how

-- a place with something after it is inside
shorter : (n : ℕ) (bytes frame more : List ℕ) → 22 ≤ length frame → drop n bytes ≡ frame ++ more → n ≤ length bytes
shorter n bytes frame more least is = omega (arith, least, length-drop n bytes, ap (λ (l : List ℕ). length l) is, length-append frame more)

-- ---- a drill

module _ {P I S : Type 0} (m : StationMeanings S) (p q : SourceAt P) (i j : SourceAt I) (old new : S) (outcome : Outcome) (given : Premises m (outside_of m p i old) (outside_of m q j new) outcome.status) (first count : ℕ) where
  abbrev entry : Outside P I S
  entry = outside_of m p i old

  abbrev exit : Outside P I S
  exit = outside_of m q j new

  -- the stream of the product
  abbrev stream : List ℕ
  stream = made_stream given.product first count

  abbrev at_first : MadeStream
  at_first = record { left = stream; reads = 0 }

  -- what is sent where these messages are kept
  abbrev sums : List (List ℕ) → List ℕ
  sums messages = summary_of_all given.product given.kept (messages_of stream) messages

  module _ (whole : rest_of stream ≡ []) (end : MadeStream) (did : DrillResult m given.product given.text at_first end old new outcome) where
    -- the station after the session, and the outcome of the session
    abbrev mid : S
    mid = did.mid

    abbrev served : Outcome
    served = did.served

    abbrev Counted : List Event → Type 0
    Counted events = KeepsEvents tally_form no_tally did.tally events

    -- the outside of the session
    abbrev before : Outside P MadeStream S
    before = outside_of m p (source_at generator_meanings at_first) old

    abbrev after : Outside P MadeStream S
    after = outside_of m q (source_at generator_meanings end) mid

    -- the bytes that the session took, and the rest
    abbrev taken : List ℕ
    taken = did.session.serving.taken

    parts : stream ≡ taken ++ end.left
    parts = same_bytes did.session.serving.took
      where
        same_bytes : Some stream ≡ and_left taken (Some end.left) → stream ≡ taken ++ end.left
        same_bytes e = same_Some stream (taken ++ end.left) e

    -- the premises of the session
    abbrev session-given : served.status ≢ 1 → served.status ≢ 2 → served.status ≢ 3 → served.status ≢ 4 → Premises m before after served.status
    session-given memory words right read = record {
      text = given.text;
      product = given.product;
      text_known = given.text_known;
      gives = given.gives;
      honest = given.honest;
      image = given.image;
      image_known = given.image_known;
      kept = given.kept;
      startable = given.startable;
      memory = memory;
      words = words;
      product_right = right;
      product_read = λ four. absurd (read four);
    }

    -- what it came to from the image of entry
    abbrev From : Ending → Type 0
    From ending = SessionFrom m (tally_form.text no_tally) given.product given.startable.head before.streams after.streams Counted did.then given.image given.startable.records given.kept taken ending served.messages

    from : From did.session.ending
    from = did.session.from given.image given.kept given.honest given.image_known given.startable

    -- ---- the messages of the bytes taken are the first of the made ones

    counted-same : served.messages ≤ length (messages_of taken) → first_messages served.messages taken ≡ take served.messages (messages_of stream)
    counted-same few = sym (front-same stream taken end.left whole parts served.messages few)

    -- ---- how the session ended

    -- all was served, a call on the store failed, or a message had no room
    abbrev Ended : Ending → Type 0
    Ended ending = IsDone ending ⊎ ((ending ≡ StoreFault) ⊎ ((place : ℕ) × (ending ≡ Full place)))

    -- the stream is made of whole messages, so that it ends after one, and what it gives does not fail
    ended : (ending : Ending) → served ≡ outcome_of ending served.messages → CausedBy ending before.streams after.streams → EndsAs before.streams after.streams ending served.messages taken → From ending → Ended ending
    ended Done is cause ends here = inl tt
    ended (ReadFault place) is cause ends here = absurd (omega (arith, cause.0))
    ended StoreFault is cause ends here = inr (inl refl)
    ended SendFault is cause ends here = absurd (did.silent (status_of served SendFault is))
    ended (BadFrame place) is cause ends here = absurd (broken_more taken end.left ends.2 (subst (λ (l : List ℕ). IsFrameFront (rest_of l)) parts (subst (λ (l : List ℕ). IsFrameFront l) (sym whole) empty_front)))
    ended (Truncated place) is cause ends here =
        let all : stream ≡ taken = parts ∙ ap (λ (l : List ℕ). taken ++ l) ends.0 ∙ append-nil taken in
        absurd (ends.3.0 (ap rest_of (sym all) ∙ whole))
    ended (NotAJournal place) is cause ends here = absurd here.ends
    ended (JournalBad place) is cause ends here = absurd here.ends
    ended (ProductDiffers place) is cause ends here = absurd here.ends
    ended (Full place) is cause ends here = inr (inr (place, refl))

    how : Ended did.session.ending
    how = ended did.session.ending did.session.is did.session.cause did.session.serving.ends from

    -- its status, by how it ended
    done_status : IsDone did.session.ending → served.status ≡ 0
    done_status done = when_done (λ (e : Ending). served ≡ outcome_of e served.messages → served.status ≡ 0) (λ is. status_of served Done is) did.session.ending done did.session.is

    store_status : did.session.ending ≡ StoreFault → served.status ≡ 5
    store_status e = status_of served StoreFault (did.session.is ∙ ap (λ (x : Ending). outcome_of x served.messages) e)

    full_status : (place : ℕ) → did.session.ending ≡ Full place → served.status ≡ 12
    full_status place e = status_of served (Full place) (did.session.is ∙ ap (λ (x : Ending). outcome_of x served.messages) e)

    statuses : (served.status ≡ 0) ⊎ ((served.status ≡ 5) ⊎ (served.status ≡ 12))
    statuses = ⊎_elim
        (λ done. inl (done_status done))
        (λ other. inr (⊎_elim (λ e. inl (store_status e)) (λ e. inr (full_status e.0 e.1)) other))
        how

    no_other : (n : ℕ) → n ≢ 0 → n ≢ 5 → n ≢ 12 → served.status ≢ n
    no_other n zero five twelve e = elim statuses [
      | inl at ↦ zero (sym e ∙ at)
      | inr other ↦
          elim other [
            | inl at ↦ five (sym e ∙ at)
            | inr at ↦ twelve (sym e ∙ at)
          ]
    ]

    -- it is no status of words, memory or a product
    none_of_product : (served.status ≢ 1) × (served.status ≢ 2) × (served.status ≢ 3) × (served.status ≢ 4)
    none_of_product = (
      no_other 1 (λ e. cc e) (λ e. cc e) (λ e. cc e),
      no_other 2 (λ e. cc e) (λ e. cc e) (λ e. cc e),
      no_other 3 (λ e. cc e) (λ e. cc e) (λ e. cc e),
      no_other 4 (λ e. cc e) (λ e. cc e) (λ e. cc e),
    )

    abbrev given-then : Premises m before after served.status
    given-then = session-given none_of_product.0 none_of_product.1 none_of_product.2 none_of_product.3

    -- ---- at every moment of the session

    crash-same : (left out : List ℕ) → IsCrashPrefix m before after served given-then (messages_of taken) sums left out → IsCrashPrefix m entry exit outcome given (messages_of stream) sums left out
    crash-same left out at =
        let same : take at.count (messages_of taken) ≡ take at.count (messages_of stream) = sym (front-same stream taken end.left whole parts at.count at.within) in
        record {
          count = at.count;
          within = omega (arith, at.within, fewer stream taken end.left whole parts);
          keeps = subst (λ (l : List (List ℕ)). IsStartable given.product given.text (with_messages given.kept l) left) same at.keeps;
          no_longer = at.no_longer;
          output = at.output;
          front = subst (λ (l : List (List ℕ)). IsPrefix at.output (sums l)) same at.front;
          sent = at.sent;
        }

    session-moments : AddsOnly m old mid (IsCrashPrefix m entry exit outcome given (messages_of stream) sums)
    session-moments =
        adds_weaker m old mid _ _ (λ h left out at. crash-same left out at)
        (headline.every-moment m p q (source_at generator_meanings at_first) (source_at generator_meanings end) old mid (tally_form.text no_tally) Counted did.then served given-then taken sums did.session.ending from
        (λ messages out between. nothing_more given.product (state_kept given.kept) (m.sent old) sums (messages_in messages) out between))

    -- ---- what is kept

    -- what the session says of it, where the outcome is that of the session, and the image as it left it
    kept-same : outcome ≡ served → m.holds new ≡ m.holds mid → KeepsCounted m before after served given-then (messages_of taken) sums → KeepsCounted m entry exit outcome given (messages_of stream) sums
    kept-same is same kept =
        let few : served.messages ≤ length (messages_of taken) = kept.some in
        let count : outcome.messages ≡ served.messages = ap (λ (o : Outcome). o.messages) is in
        let status : outcome.status ≡ served.status = ap (λ (o : Outcome). o.status) is in
        record {
          some = omega (arith, few, count, fewer stream taken end.left whole parts);
          keeps = λ other.
              now-same same (first_messages served.messages taken) (take outcome.messages (messages_of stream)) (counted-same few ∙ ap (λ (n : ℕ). take n (messages_of stream)) (sym count))
              (kept.keeps (λ five. other (status ∙ five)));
          keeps_more = λ five.
              let more = kept.keeps_more (sym status ∙ five) in
              let are : take more.count (messages_of taken) ≡ take more.count (messages_of stream) = sym (front-same stream taken end.left whole parts more.count more.within) in
              record {
                count = more.count;
                counted = omega (arith, more.counted, count);
                within = omega (arith, more.within, fewer stream taken end.left whole parts);
                keeps = now-same same (take more.count (messages_of taken)) (take more.count (messages_of stream)) are more.keeps;
                one_record =
                    subst (λ (n : ℕ). length (concat (drop n (take more.count (messages_of stream)))) ≤ MOST_PAYLOAD) (sym count)
                    (subst (λ (l : List (List ℕ)). length (concat (drop served.messages l)) ≤ MOST_PAYLOAD) are more.one_record);
              };
        }
      where
        now-same : m.holds new ≡ m.holds mid → (xs ys : List (List ℕ)) → xs ≡ ys → KeepsNow m before after served given-then (messages_of taken) sums xs → KeepsNow m entry exit outcome given (messages_of stream) sums ys
        now-same same xs ys are now = record {
          image = now.image;
          image_known = same ∙ now.image_known;
          keeps = subst (λ (l : List (List ℕ)). IsStartable given.product given.text (with_messages given.kept l) now.image) are now.keeps;
        }

    -- all messages of the records added were counted: the session kept them, and sent nothing
    record DidAll : Type 0 where
      pub counted : served.messages ≡ length (messages_in from.added)
      pub kept : KeepsNow m before after served given-then (messages_of taken) sums (first_messages served.messages taken)
      pub silent : m.sent mid ≡ m.sent old

    did-all : (ending : Ending) (here : From ending) → here.added ≡ from.added → IsAllServed m (tally_form.text no_tally) given.product given.startable.head before.streams after.streams given.startable.records given.kept here.added served.messages → DidAll
    did-all ending here same all =
        let first = headline.first m p q (source_at generator_meanings at_first) (source_at generator_meanings end) old mid (tally_form.text no_tally) Counted did.then served given-then taken sums ending here here.added [] (sym (append-nil here.added)) served.messages all.messages in
        record {
          counted = all.messages ∙ ap (λ (l : List Record). length (messages_in l)) same;
          kept = headline.keeps_now m p q (source_at generator_meanings at_first) (source_at generator_meanings end) old mid (tally_form.text no_tally) Counted did.then served given-then taken sums ending here here.added [] (sym (append-nil here.added)) (first_messages served.messages taken) first all.keeps;
          silent = still_sent given.product (state_kept given.kept) (messages_in here.added) (m.sent old) (m.sent mid) all.sent;
        }

    -- the messages of this session are no more than were taken
    few-served : served.messages ≤ length (messages_of taken)
    few-served = did.session.serving.some

    -- ---- the session did not come to its end

    module _ (stopped : served.status ≢ 0) where
      same-end : (new ≡ mid) × (outcome ≡ served)
      same-end = did.otherwise stopped

      moments-stopped : DrillLeavesCrashPrefixes m entry exit outcome given first count
      moments-stopped = subst (λ (s : S). AddsOnly m old s (IsCrashPrefix m entry exit outcome given (messages_of stream) sums)) (sym same-end.0) session-moments

      -- by its ending
      stopped-by : (ending : Ending) (here : From ending) → here.added ≡ from.added → served ≡ outcome_of ending served.messages → Ended ending → KeepsCounted m before after served given-then (messages_of taken) sums × (m.sent mid ≡ m.sent old)
      stopped-by Done here same is how = absurd (stopped (status_of served Done is))
      stopped-by StoreFault here same is how = (
        headline.keeps-front m p q (source_at generator_meanings at_first) (source_at generator_meanings end) old mid (tally_form.text no_tally) Counted did.then served given-then taken sums StoreFault here (status_of served StoreFault is) few-served here.ends,
        still_sent given.product (state_kept given.kept) (messages_in here.ends.served) (m.sent old) (m.sent mid) here.ends.sent,
      )
      stopped-by (Full place) here same is how =
          let all = did-all (Full place) here same here.ends.0 in
          (headline.keeps-counted m p q (source_at generator_meanings at_first) (source_at generator_meanings end) old mid (tally_form.text no_tally) Counted did.then served given-then taken sums (Full place) here few-served all.kept, all.silent)
      stopped-by (ReadFault place) here same is how = absurd (not-ended (λ none. none) (λ e. cc e) (λ at e. cc e) how)
      stopped-by SendFault here same is how = absurd (not-ended (λ none. none) (λ e. cc e) (λ at e. cc e) how)
      stopped-by (BadFrame place) here same is how = absurd (not-ended (λ none. none) (λ e. cc e) (λ at e. cc e) how)
      stopped-by (Truncated place) here same is how = absurd (not-ended (λ none. none) (λ e. cc e) (λ at e. cc e) how)
      stopped-by (NotAJournal place) here same is how = absurd here.ends
      stopped-by (JournalBad place) here same is how = absurd here.ends
      stopped-by (ProductDiffers place) here same is how = absurd here.ends

      stopped-session : KeepsCounted m before after served given-then (messages_of taken) sums × (m.sent mid ≡ m.sent old)
      stopped-session = stopped-by did.session.ending from refl did.session.is how

      pub otherwise-stopped : DrillEndsOtherwise m entry exit outcome given first count
      otherwise-stopped =
          let status : outcome.status ≡ served.status = ap (λ (o : Outcome). o.status) same-end.1 in
          let no_six : outcome.status ≢ 6 = λ six. no_other 6 (λ e. cc e) (λ e. cc e) (λ e. cc e) (sym status ∙ six) in
          record {
            keeps = kept-same same-end.1 (ap m.holds same-end.0) stopped-session.0;
            silent = λ other. ap m.sent same-end.0 ∙ stopped-session.1;
            all = λ six. absurd (no_six six);
            part = λ six. absurd (no_six six);
          }

    -- ---- the session came to its end, and the summary was sent

    module _ (zero : served.status ≡ 0) where
      sums-up : SumsUp m mid new did.tally did.then served.messages outcome
      sums-up = did.sums_up zero

      is-done : IsDone did.session.ending
      is-done = elim how [
        | inl done ↦ done
        | inr other ↦
            elim other [
              | inl e ↦ absurd (omega (arith, zero, store_status e))
              | inr e ↦ absurd (omega (arith, zero, full_status e.0 e.1))
            ]
      ]

      -- what a session that came to its end did
      record AtEnd : Type 0 where
        pub all : DidAll
        pub all_taken : stream ≡ taken
        pub all_counted : served.messages ≡ length (messages_of taken)

      at-done : (here : From Done) → here.added ≡ from.added → EndsAs before.streams after.streams Done served.messages taken → AtEnd
      at-done here same ends = record { all = did-all Done here same here.ends; all_taken = parts ∙ ap (λ (l : List ℕ). taken ++ l) ends.0 ∙ append-nil taken; all_counted = ends.1 }

      at-end : AtEnd
      at-end = when_done (λ (e : Ending). (here : From e) → here.added ≡ from.added → EndsAs before.streams after.streams e served.messages taken → AtEnd) at-done did.session.ending is-done from refl did.session.serving.ends

      -- as many as were made
      all-count : served.messages ≡ length (messages_of stream)
      all-count = at-end.all_counted ∙ ap (λ (l : List ℕ). length (messages_of l)) (sym at-end.all_taken)

      -- the messages of the records are the made ones
      made-in : messages_in from.added ≡ messages_of stream
      made-in =
          sym (headline.first m p q (source_at generator_meanings at_first) (source_at generator_meanings end) old mid (tally_form.text no_tally) Counted did.then served given-then taken sums did.session.ending from from.added [] (sym (append-nil from.added)) served.messages at-end.all.counted)
          ∙ take_all served.messages (messages_of taken) (omega (arith, at-end.all_counted))
          ∙ ap messages_of (sym at-end.all_taken)

      -- the line is the summary
      line-is : tally_line served.messages did.tally (length (live_orders did.then.book)) ≡ summary given.product given.kept (messages_of stream)
      line-is =
          let state = state_kept given.kept in
          ap (λ (n : ℕ). tally_line n did.tally (length (live_orders did.then.book))) all-count
          ∙ ap (λ (t : Tally). tally_line (length (messages_of stream)) t (length (live_orders did.then.book))) (from.published is-done (λ form p frame. refl) ∙ ap (λ (l : List (List ℕ)). tally_of (events_from given.product state l)) made-in)
          ∙ ap (λ (s : State). tally_line (length (messages_of stream)) (tally_of (events_from given.product state (messages_of stream))) (length (live_orders s.book))) (from.is_state is-done ∙ ap (λ (l : List (List ℕ)). state_after given.product state l) made-in)

      -- no more of it was sent than all, after what had been sent
      at-most : IsKnownPrefix (m.sent new) (sent_and (m.sent old) (summary given.product given.kept (messages_of stream)))
      at-most =
          subst (λ (o : Option (List ℕ)). IsKnownPrefix (m.sent new) (sent_and o (summary given.product given.kept (messages_of stream)))) at-end.all.silent
          (subst (λ (l : List ℕ). IsKnownPrefix (m.sent new) (sent_and (m.sent mid) l)) line-is (sends_at_most m mid new (tally_line served.messages did.tally (length (live_orders did.then.book))) sums-up.result sums-up.sends))

      -- all made messages are kept
      keeps-at : (image : List ℕ) → m.holds mid ≡ Some image → IsStartable given.product given.text (with_messages given.kept (messages_of stream)) image
      keeps-at image read =
          let now = at-end.all.kept in
          let all : first_messages served.messages taken ≡ messages_of stream = take_all served.messages (messages_of taken) (omega (arith, at-end.all_counted)) ∙ ap messages_of (sym at-end.all_taken) in
          subst (λ (x : List ℕ). IsStartable given.product given.text (with_messages given.kept (messages_of stream)) x) (same_Some now.image image (sym now.image_known ∙ read))
          (subst (λ (l : List (List ℕ)). IsStartable given.product given.text (with_messages given.kept l) now.image) all now.keeps)

      now-all : (messages : List (List ℕ)) → messages ≡ messages_of stream → KeepsNow m entry exit outcome given (messages_of stream) sums messages
      now-all messages are =
          let now = at-end.all.kept in
          record {
            image = now.image;
            image_known = sums-up.sends.quiet.holds ∙ now.image_known;
            keeps = subst (λ (l : List (List ℕ)). IsStartable given.product given.text (with_messages given.kept l) now.image) (sym are) (keeps-at now.image now.image_known);
          }

      -- while the summary is sent, a crash leaves all of them and a front of it
      summary-crash : (left out : List ℕ) → m.is_honest mid → m.may_leave mid left → IsBetween (m.sent mid) out (m.sent new) → IsCrashPrefix m entry exit outcome given (messages_of stream) sums left out
      summary-crash left out honest may between =
          let rest = from.at_rest is-done in
          let read : m.holds mid ≡ Some left = rest.settled left may in
          let same : rest.image ≡ left = same_Some rest.image left (sym rest.read ∙ read) in
          let all : take (length (messages_of stream)) (messages_of stream) ≡ messages_of stream = take_all (length (messages_of stream)) (messages_of stream) (omega arith) in
          let front = front-between (m.sent old) out (summary given.product given.kept (messages_of stream))
          (record {
            low = subst (λ (o : Option (List ℕ)). IsKnownPrefix o (Some out)) at-end.all.silent between.low;
            high = known_then (Some out) (m.sent new) (sent_and (m.sent old) (summary given.product given.kept (messages_of stream))) between.high at-most;
          }) in
          record {
            count = length (messages_of stream);
            within = omega arith;
            keeps = subst (λ (l : List (List ℕ)). IsStartable given.product given.text (with_messages given.kept l) left) (sym all) (keeps-at left read);
            no_longer = omega (arith, rest.short, ap (λ (l : List ℕ). length l) same);
            output = front.0;
            front = subst (λ (l : List ℕ). IsPrefix front.0 l) (sym (summary_sent given.product given.kept (messages_of stream) (take (length (messages_of stream)) (messages_of stream)) (ap (λ (l : List (List ℕ)). length l) all))) front.1;
            sent = front.2;
          }

      moments-summed : DrillLeavesCrashPrefixes m entry exit outcome given first count
      moments-summed =
          adds_then m old mid new _ _ (λ h left out pair. summary-crash left out (session-moments.honest h) pair.0 pair.1) session-moments sums-up.sends.quiet.moments

      -- by what became of the summary
      summed-all : (result : Result (Unit {0}) SendFailed) → outcome ≡ outcome_sent served.messages result → Sends m mid new (tally_line served.messages did.tally (length (live_orders did.then.book))) result → outcome.status ≡ 0 → KeepsAndSumsUp m entry exit outcome given first count
      summed-all (Ok t) is sent none = record {
        sent =
            sent.all
            ∙ ap (λ (l : List ℕ). sent_and (m.sent mid) l) line-is
            ∙ ap (λ (o : Option (List ℕ)). sent_and o (summary given.product given.kept (messages_of stream))) at-end.all.silent
            ∙ ap (λ (l : List ℕ). sent_and (m.sent old) l) (sym (summary_sent given.product given.kept (messages_of stream) (messages_of stream) refl));
        keeps = now-all (messages_of stream) refl;
        count = ap (λ (o : Outcome). o.messages) is ∙ all-count;
      }
      summed-all (Err fault) is sent none = absurd (omega (arith, none, ap (λ (o : Outcome). o.status) is))

      summed-part : (result : Result (Unit {0}) SendFailed) → outcome ≡ outcome_sent served.messages result → outcome.status ≢ 0 → DrillEndsOtherwise m entry exit outcome given first count
      summed-part (Ok t) is other = absurd (other (ap (λ (o : Outcome). o.status) is))
      summed-part (Err fault) is other =
          let six : outcome.status ≡ 6 = ap (λ (o : Outcome). o.status) is in
          let all : outcome.messages ≡ length (messages_of stream) = ap (λ (o : Outcome). o.messages) is ∙ all-count in
          let now = now-all (take outcome.messages (messages_of stream)) (take_all outcome.messages (messages_of stream) (omega (arith, all))) in
          record {
            keeps = record {
              some = omega (arith, all);
              keeps = λ five. now;
              keeps_more = λ five. absurd (omega (arith, five, six));
            };
            silent = λ no. absurd (no six);
            all = λ here. all;
            part = λ here. at-most;
          }

    -- ---- which records were added

    keeping : KeepsNoMore m given.startable.head.text given.product.journal_limit mid given.startable.records from.added
    keeping = keeps_no_more m (tally_form.text no_tally) given.product given.startable.head before.streams after.streams served.messages given.startable.records given.kept from.added from.behind did.session.ending from.ends

    -- the summary is sent, and the image stays
    adds-of : m.holds new ≡ m.holds mid → AddsMessages m entry exit outcome given
    adds-of same = record {
      image = keeping.holds.image;
      image_known = same ∙ keeping.holds.read;
      added = keeping.more;
      keeps = keeps-of given.product given.text given.kept given.image given.startable keeping.more (whole-front keeping.more keeping.rest from.added keeping.are from.whole) keeping.holds.image keeping.holds.has;
      whole = whole-front keeping.more keeping.rest from.added keeping.are from.whole;
    }

    -- ---- the clauses, one by one

    -- whether the session came to its end
    either : (served.status ≡ 0) ⊎ (served.status ≢ 0)
    either = elim statuses [
      | inl zero ↦ inl zero
      | inr other ↦
          elim other [
            | inl at ↦ inr (λ zero. omega (arith, zero, at))
            | inr at ↦ inr (λ zero. omega (arith, zero, at))
          ]
    ]

    -- status 0
    pub drill-all : outcome.status ≡ 0 → KeepsAndSumsUp m entry exit outcome given first count
    drill-all none = elim either [
      | inl zero ↦ summed-all zero (sums-up zero).result (sums-up zero).outcome_is (sums-up zero).sends none
      | inr other ↦ absurd (other (sym (ap (λ (o : Outcome). o.status) (did.otherwise other).1) ∙ none))
    ]

    -- any other status
    pub drill-otherwise : outcome.status ≢ 0 → DrillEndsOtherwise m entry exit outcome given first count
    drill-otherwise other = elim either [
      | inl zero ↦ summed-part zero (sums-up zero).result (sums-up zero).outcome_is other
      | inr stopped ↦ otherwise-stopped stopped
    ]

    -- no image was added
    pub drill-adds : AddsMessages m entry exit outcome given
    drill-adds = elim either [
      | inl zero ↦ adds-of (sums-up zero).sends.quiet.holds
      | inr stopped ↦ adds-of (ap m.holds (did.otherwise stopped).0)
    ]

    -- at every moment
    pub drill-moments : DrillLeavesCrashPrefixes m entry exit outcome given first count
    drill-moments = elim either [
      | inl zero ↦ moments-summed zero
      | inr stopped ↦ moments-stopped stopped
    ]

    -- before the first sync
    pub drill-first-sync : IsHonestNow m old → DrillBeforeTheFirstSync m entry exit outcome given first count
    drill-first-sync now = headline.first-sync m p q i j old new (tally_form.text no_tally) Counted did.then outcome given stream sums (record { rest = sums []; is = refl }) drill-moments now

-- ---- the next message has no room, or cannot be counted

module _ {S : Type 0} (m : StationMeanings S) (product : ProductLists) (text : List ℕ) (head : Header) (image : List ℕ) (records : List Record) (text_is : HasLastText head records text) (first count : ℕ) (old new : S) (outcome : Outcome) (made : DrillsMade m product text first count old new outcome) where
  abbrev all_made : List ℕ
  all_made = made_stream product first count

  not-summed : outcome.status ≡ 12 → (result : Result (Unit {0}) SendFailed) → outcome ≡ outcome_sent made.did.served.messages result → ⊥
  not-summed twelve (Ok t) is = omega (arith, twelve, ap (λ (o : Outcome). o.status) is)
  not-summed twelve (Err fault) is = omega (arith, twelve, ap (λ (o : Outcome). o.status) is)

  -- what holds of the bytes that its session took holds of all that were made
  full-of-all : new ≡ made.did.mid → outcome ≡ made.did.served → IsFullJournal product text head image records (station_at m made.did.mid) made.did.served made.did.session.serving.taken → IsFullJournal product text head image records (station_at m new) outcome all_made
  full-of-all station is full =
      let served = made.did.served in
      let taken = made.did.session.serving.taken in
      let count-is : outcome.messages ≡ served.messages = ap (λ (o : Outcome). o.messages) is in
      let at : outcome.at ≡ served.at = ap (λ (o : Outcome). o.at) is in
      let parts : all_made ≡ taken ++ made.end.left = same_Some all_made (taken ++ made.end.left) made.did.session.serving.took in
      let firsts-are : first_messages served.messages taken ≡ first_messages outcome.messages all_made =
      sym (front-same all_made taken made.end.left made.whole parts served.messages made.did.session.serving.some) ∙ ap (λ (n : ℕ). take n (messages_of all_made)) (sym count-is) in
      record {
        place = at ∙ full.place ∙ ap (λ (l : List (List ℕ)). length (concat l)) firsts-are;
        next = full.next;
        more = full.more ++ made.end.left;
        is_frame = full.is_frame;
        follows =
            ap (λ (n : ℕ). drop n all_made) at
            ∙ ap (λ (l : List ℕ). drop served.at l) parts
            ∙ drop-append-le served.at taken made.end.left (shorter served.at taken full.next full.more (frame_least full.next full.is_frame) full.follows)
            ∙ ap (λ (l : List ℕ). l ++ made.end.left) full.follows
            ∙ append_assoc full.next full.more made.end.left;
        why = ⊎_elim
            (λ no_room. inl record {
              each_alone = subst (λ (l : List (List ℕ)). product.journal_limit < end_of_journal head records + records_length (l ++ full.next ∷ [])) firsts-are no_room.each_alone;
              records_now = no_room.records_now;
              image_now = no_room.image_now;
              image_known = ap m.holds station ∙ no_room.image_known;
              journal = no_room.journal;
              now = no_room.now;
            })
            (λ last. inr record { last = ap (λ (n : ℕ). count_behind_all 0 (from_last_image records) + n + 1) count-is ∙ last.last; not_startable = last.not_startable })
            full.why;
      }

  pub drill-full : m.is_honest old → m.holds old ≡ Some image → Keeps head product.journal_limit records image → outcome.status ≡ 12 → IsFullJournal product text head image records (station_at m new) outcome all_made
  drill-full honest known keeps twelve = elim (eqb_tells made.did.served.status 0) [
    | inl none ↦ let sums = made.did.sums_up none.1 in absurd (not-summed twelve sums.result sums.outcome_is)
    | inr other ↦
        let same = made.did.otherwise other.1 in
        full-of-all same.0 same.1
        (session-full m (tally_form.text no_tally) product made.did.session.right text head image records text_is keeps (streams_at {S = S} generator_meanings m (record { left = all_made; reads = 0 }) old) (streams_at {S = S} generator_meanings m made.end made.did.mid) refl made.did.served made.did.session.serving.taken _ made.did.then made.did.session refl honest known
        (sym (ap (λ (o : Outcome). o.status) same.1) ∙ twelve))
  ]
