-- How answering goes on, turn by turn, and how it ends.
use Rattle.std.proofs.Common.{◌≡◌, ℕ, ◌+◌, ◌<◌, ◌≤◌, List, [], ◌++◌, length, Option, Ok, Err, refl, sym, ap, subst, ◌∙◌, length-append, arith}
use Rattle.std.specs.List.{All}
use Rattle.gx_base.specs.KnownBytes.{IsKnownPrefix, known_then}
use Rattle.gx_station.specs.Counts.{Rose}
use Rattle.gx_station.specs.Sources.{and_left, IsAtEnd}
use Rattle.gx_station.specs.Stations.{StationMeanings, sent_and}
use Rattle.gx_station.specs.SendLaws.{sent_and_none, sent_and-append, known_front}
use Rattle.fix_frame.specs.Framing.{Framing}
use Rattle.fix_frame.specs.Grammar.{IsFrame, IsPartOfFrame, IsNoFrameFront}
use Rattle.fix_frame.specs.Stream.{messages_of}
use Rattle.product_file.specs.Products.{ProductLists}
use Rattle.fix_session.specs.declared.sessions.FirmSession.{FirmSession}
use Rattle.fix_session.specs.SessionOut.{first_sessions, session_out, sessions_after}
use Rattle.fix_session.proofs.SessionLaws.{out-append, after-append}
use Rattle.order_kinds.specs.Histories.{History, state_kept}
use Rattle.order_kinds.specs.declared.core_state.TheConstants.{MOST_MESSAGES}
use Rattle.journal_print.specs.NoteWorks.{sessions_noted}
use Rattle.journal_print.specs.ReadingLaws.{reading_itself, reading_then}
use Rattle.journal_print.specs.Reading.{ReadsAndSends}
use Rattle.journal_print.specs.declared.kept.KeptJournal.{KeptJournal}
use Rattle.globex_run.specs.Outside.{SourceAt, Streams, station_at}
use Rattle.globex_run.specs.Answering.{lines_again, answers_to, AnswersFirst, AnswersPart, AnswersBy}
use Rattle.globex_run.specs.RunResult.{BeginsWithFrame, EndsAs}
use Rattle.globex_run.specs.Inner.AnswerSteps.{ShowsHistory, FaultsBy, Turns, AnswersAll}
use Rattle.globex_run.specs.Inner.Serving.{TakesMore, GivesFrames, IsEmptyFramer, CausedBy}
use Rattle.globex_run.specs.declared.resender.Resender.{Resender}
use Rattle.globex_run.specs.declared.resender.Unanswered.{Unanswered}
use Rattle.globex_run.specs.declared.resender.Unanswered.TheVariants as unanswered
use Rattle.globex_run.specs.declared.give_frames.Behind.{Behind}
use Rattle.globex_run.specs.declared.ending.Ending.{Ending}
use Rattle.globex_run.specs.declared.ending.Ending.TheVariants.{Done, ReadFault, StoreFault, SendFault, BadFrame, Truncated, Full}
use Rattle.globex_run.proofs.FrameTurns.{HasTaken, taken_first, taken_read, taken_given, taken, messages_are, first_are, some_taken, took_all, nothing_read, none_left, taken-read-fault, taken-done, taken-truncated, taken-broken, taken-full}
use Rattle.globex_run.proofs.Stepping.{done, failed, faults-then}

-- ---- turns

module _ {I S : Type 0} (m : StationMeanings S) (product : ProductLists) (lines : List ℕ) (start : List FirmSession) (kept : Option KeptJournal) (source : SourceAt I) (old : S) where
  abbrev out : History → List FirmSession → List (List ℕ) → List ℕ
  out h sessions frames = session_out product.names lines (lines_again h) sessions frames

  -- Some frames were answered, and the framer holds what was read after them. No fault has come, and nothing waits.
  pub record IsAnswering (input : SourceAt I) (now : S) (sessions : List FirmSession) (still : Option KeptJournal) (count : ℕ) (framing : Framing) : Type 0 where
    pub answered : List (List ℕ)
    pub taken : HasTaken source input answered framing
    pub sessions_are : sessions ≡ sessions_after product.names lines start answered
    pub count_is : count ≡ length answered
    pub few : count < MOST_MESSAGES
    pub reads : ReadsAndSends m old now
    pub quiet : FaultsBy m old now done
    pub shows : (h : History) → ShowsHistory m kept old h → ShowsHistory m still now h
    pub sent : (h : History) → ShowsHistory m kept old h → m.sent now ≡ sent_and (m.sent old) (out h start answered)

  pub turn_first : (framing : Framing) → IsEmptyFramer framing → IsAnswering source old start kept 0 framing
  turn_first framing empty = record {
    answered = [];
    taken = taken_first source framing empty;
    sessions_are = refl;
    count_is = refl;
    few = omega arith;
    reads = reading_itself m old;
    quiet = (refl, refl);
    shows = λ h is. is;
    sent = λ h is. sym (sent_and_none (m.sent old));
  }

  module _ (input : SourceAt I) (now : S) (sessions : List FirmSession) (still : Option KeptJournal) (count : ℕ) (framing : Framing) (turn : IsAnswering input now sessions still count framing) where
    -- more was read
    pub turn_read : {F : Type 0} (then : SourceAt I) (next : Framing) (n : ℕ) → TakesMore {F = F} input then framing next (Ok n) → IsAnswering then now sessions still count next
    turn_read then next n takes = record {
      answered = turn.answered;
      taken = taken_read source input turn.answered framing turn.taken then next n takes;
      sessions_are = turn.sessions_are;
      count_is = turn.count_is;
      few = turn.few;
      reads = turn.reads;
      quiet = turn.quiet;
      shows = turn.shows;
      sent = turn.sent;
    }

    -- ---- no more was answered

    abbrev bytes_taken : List ℕ
    bytes_taken = taken source input turn.answered framing turn.taken

    module _ (h : History) (lines_are : lines ≡ (state_kept h).desk.lines) (start_is : start ≡ sessions_noted first_sessions h) where
      pub as_defined : (frames : List (List ℕ)) → out h start frames ≡ answers_to product h frames
      as_defined frames =
          ap (λ (l : List ℕ). session_out product.names l (lines_again h) start frames) lines_are
          ∙ ap (λ (s : List FirmSession). session_out product.names (state_kept h).desk.lines (lines_again h) s frames) start_is

      first_sent : ShowsHistory m kept old h → AnswersFirst m product h old now count bytes_taken
      first_sent is =
          turn.sent h is
          ∙ ap (λ (l : List ℕ). sent_and (m.sent old) l) (as_defined turn.answered ∙ ap (λ (l : List (List ℕ)). answers_to product h l) (sym (first_are source input turn.answered framing turn.taken count turn.count_is)))

    abbrev Ends : SourceAt I → Ending → Type 0
    Ends then ending = AnswersAll m product lines start kept source then old now ending count

    abbrev before : Streams I S
    before = record { input = source; station = station_at m old }

    abbrev after : SourceAt I → Streams I S
    after then = record { input = then; station = station_at m now }

    -- it ends so, and no count of faults rose but that of the input
    ends_as : (then : SourceAt I) (ending : Ending) → source.left ≡ and_left bytes_taken then.left → EndsAs before (after then) ending count bytes_taken → CausedBy ending before (after then)
        → ((h : History) → AnswersFirst m product h old now count bytes_taken → AnswersBy m product h old now ending count bytes_taken) → Ends then ending
    ends_as then ending took ends cause answers = record {
      serving = record { taken = bytes_taken; took = took; some = some_taken source input turn.answered framing turn.taken count turn.count_is; ends = ends };
      few = turn.few;
      reads = turn.reads;
      cause = cause;
      answers = λ h is lines_are start_is. answers h (first_sent h lines_are start_is is);
    }

    module _ {F : Type 0} (then : SourceAt I) (next : Framing) where
      pub ends_read_fault : (fault : F) (at : ℕ) → TakesMore input then framing next (Err fault) → IsPartOfFrame framing.rest → at ≡ framing.offset + length framing.rest → Ends then (ReadFault at)
      ends_read_fault fault at takes front is =
          ends_as then (ReadFault at) (took_all source input turn.answered framing turn.taken then (nothing_read source input turn.answered framing turn.taken then next (Err fault) takes takes.none))
          (taken-read-fault source input turn.answered framing turn.taken count turn.count_is before (after then) at front is)
          (subst (λ k. Rose k then.faults) turn.taken.faults takes.cause.failed, turn.quiet.0, turn.quiet.1) (λ h did. did)

      -- the source is at its end
      module _ (n : ℕ) (zero : n ≡ 0) (takes : TakesMore {F = F} input then framing next (Ok n)) where
        abbrev at_end : (input.left ≡ then.left) × IsAtEnd then.left
        at_end = none_left source input turn.answered framing turn.taken then next n zero takes

        pub ends_done : length framing.rest ≡ 0 → Ends then Done
        ends_done empty =
            ends_as then Done (took_all source input turn.answered framing turn.taken then at_end.0) (taken-done source input turn.answered framing turn.taken count turn.count_is before (after then) at_end.1 empty)
            (takes.cause.ok ∙ turn.taken.faults, turn.quiet.0, turn.quiet.1) (λ h did. did)

        pub ends_truncated : (at : ℕ) → at ≡ framing.offset → (length framing.rest ≡ 0 → ⊥) → IsPartOfFrame framing.rest → Ends then (Truncated at)
        ends_truncated at is holds front =
            ends_as then (Truncated at) (took_all source input turn.answered framing turn.taken then at_end.0) (taken-truncated source input turn.answered framing turn.taken count turn.count_is before (after then) at at_end.1 is holds front)
            (takes.cause.ok ∙ turn.taken.faults, turn.quiet.0, turn.quiet.1) (λ h did. did)

    -- after the frames stand bytes that are the front of none
    pub ends_broken : (at : ℕ) → at ≡ framing.offset → IsNoFrameFront framing.rest → Ends input (BadFrame at)
    ends_broken at is broken =
        ends_as input (BadFrame at) turn.taken.took (taken-broken source input turn.answered framing turn.taken count turn.count_is before (after input) at is broken)
        (turn.taken.faults, turn.quiet.0, turn.quiet.1) (λ h did. did)

    -- or one more frame than may be answered
    pub ends_full : (at : ℕ) → at ≡ framing.offset → (count + 1 ≡ 16777216) × BeginsWithFrame framing.rest → Ends input (Full at)
    ends_full at is last =
        ends_as input (Full at) turn.taken.took (taken-full source input turn.answered framing turn.taken count turn.count_is before (after input) at is last.1)
        (turn.taken.faults, turn.quiet.0, turn.quiet.1) (λ h did. (did, last.0))

  -- ---- frames were given

  module _ {B : Type 0} (input : SourceAt I) (now : S) (sessions : List FirmSession) (resender after : Resender B) (count : ℕ) (framing : Framing) (turn : IsAnswering input now sessions resender.kept count framing) (room most : ℕ) (next : Framing) (stands : Behind) (gives : GivesFrames room most framing next stands) (are : All IsFrame next.given) (then : S) where
    abbrev given : List (List ℕ)
    given = next.given

    abbrev bytes : History → List ℕ
    bytes h = out h sessions given

    -- all that was sent by then, and these bytes
    sent_parts : (h : History) → ShowsHistory m kept old h → sent_and (m.sent now) (bytes h) ≡ sent_and (m.sent old) (out h start (turn.answered ++ given))
    sent_parts h is =
        ap (λ s. sent_and s (bytes h)) (turn.sent h is)
        ∙ ap (λ (s : List FirmSession). sent_and (sent_and (m.sent old) (out h start turn.answered)) (out h s given)) turn.sessions_are
        ∙ sym (sent_and-append (m.sent old) (out h start turn.answered) (out h (sessions_after product.names lines start turn.answered) given))
        ∙ ap (λ (l : List ℕ). sent_and (m.sent old) l) (sym (out-append product.names lines (lines_again h) start turn.answered given))

    abbrev both : HasTaken source input (turn.answered ++ given) next
    both = taken_given source input turn.answered framing turn.taken room most next stands gives are

    -- and all answered
    pub turn_more : (behind : List FirmSession) (n : ℕ) → n ≡ length given → count + n < MOST_MESSAGES → Turns m resender after now then bytes done → behind ≡ sessions_after product.names lines sessions given → IsAnswering input then behind after.kept (count + n) next
    turn_more behind n n_is few did behind_is = record {
      answered = turn.answered ++ given;
      taken = both;
      sessions_are =
          behind_is
          ∙ ap (λ (s : List FirmSession). sessions_after product.names lines s given) turn.sessions_are
          ∙ sym (after-append product.names lines start turn.answered given);
      count_is = omega (arith, n_is, turn.count_is, length-append turn.answered given);
      few = few;
      reads = reading_then m old now then turn.reads did.reads;
      quiet = faults-then m old now then done turn.quiet did.faults;
      shows = λ h is. did.shows h (turn.shows h is);
      sent = λ h is. did.all h (turn.shows h is) ∙ sent_parts h is;
    }

    -- or a part of the answers was sent
    abbrev Stops : Ending → ℕ → Type 0
    Stops ending answered = AnswersAll m product lines start kept source input old then ending answered

    abbrev whole : List ℕ
    whole = taken source input (turn.answered ++ given) next both

    messages_whole : messages_of whole ≡ (turn.answered ++ given) ++ messages_of next.rest
    messages_whole = messages_are source input (turn.answered ++ given) next both

    -- of all of them
    part_sent : (why : Unanswered) → Turns m resender after now then bytes (failed why) → (h : History) → ShowsHistory m kept old h → lines ≡ (state_kept h).desk.lines → start ≡ sessions_noted first_sessions h → AnswersPart m product h old then whole
    part_sent why did h is lines_are start_is =
        let more = messages_of next.rest in
        let first = out h start (turn.answered ++ given) in
        let others = out h (sessions_after product.names lines start (turn.answered ++ given)) more in
        let all : first ++ others ≡ answers_to product h (messages_of whole) =
        sym (out-append product.names lines (lines_again h) start (turn.answered ++ given) more)
        ∙ as_defined input now sessions resender.kept count framing turn h lines_are start_is ((turn.answered ++ given) ++ more)
        ∙ ap (λ (l : List (List ℕ)). answers_to product h l) (sym messages_whole) in
        subst (λ (l : List ℕ). IsKnownPrefix (m.sent then) (sent_and (m.sent old) l)) all
        (known_then (m.sent then) (sent_and (m.sent old) first) (sent_and (m.sent old) (first ++ others))
        (subst (λ s. IsKnownPrefix (m.sent then) s) (sent_parts h is) (did.part h (turn.shows h is)))
        (known_front (m.sent old) first others))

    few_of : count ≤ length (messages_of whole)
    few_of = omega (arith, turn.count_is, ap length messages_whole, length-append (turn.answered ++ given) (messages_of next.rest), length-append turn.answered given)

    stored : Turns m resender after now then bytes (failed unanswered.Store) → Stops StoreFault 0
    stored did = record {
      serving = record { taken = whole; took = both.took; some = omega arith; ends = tt };
      few = omega arith;
      reads = reading_then m old now then turn.reads did.reads;
      cause = let faults = faults-then m old now then (failed unanswered.Store) turn.quiet did.faults in (turn.taken.faults, faults.0, faults.1);
      answers = λ h is lines_are start_is. (part_sent unanswered.Store did h is lines_are start_is, refl);
    }

    pub stops_store : (why : Unanswered) → why ≡ unanswered.Store → Turns m resender after now then bytes (failed why) → Stops StoreFault 0
    stops_store why is did = stored (subst (λ (w : Unanswered). Turns m resender after now then bytes (failed w)) is did)

    unsent : Turns m resender after now then bytes (failed unanswered.Send) → Stops SendFault count
    unsent did = record {
      serving = record { taken = whole; took = both.took; some = few_of; ends = tt };
      few = turn.few;
      reads = reading_then m old now then turn.reads did.reads;
      cause = let faults = faults-then m old now then (failed unanswered.Send) turn.quiet did.faults in (turn.taken.faults, faults.0, faults.1);
      answers = λ h is lines_are start_is. part_sent unanswered.Send did h is lines_are start_is;
    }

    pub stops_send : (why : Unanswered) → why ≡ unanswered.Send → Turns m resender after now then bytes (failed why) → Stops SendFault count
    stops_send why is did = unsent (subst (λ (w : Unanswered). Turns m resender after now then bytes (failed w)) is did)
