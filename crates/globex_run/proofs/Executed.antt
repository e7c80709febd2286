-- What executing a command comes to.
use Rattle.std.proofs.Common.{◌≡◌, ◌≢◌, ◌==◌, ◌||◌, inl, inr, ⊎_elim, ℕ, ◌<◌, List, ◌++◌, Bool, true, false, Result, Ok, Err, IfOk, Some, refl, sym, ap, subst, ◌∙◌, arith, ◌⊎◌}
use Rattle.std.proofs.lemmas.Bool.Decides.{eqb_tells}
use Rattle.std.proofs.lemmas.List.{append-nil}
use Rattle.std.proofs.lemmas.Option.{same_Some}
use Rattle.gx_base.specs.declared.event.Event.{Event}
use Rattle.gx_station.specs.Counts.{Rose, HasCause}
use Rattle.gx_station.specs.Stations.{StationMeanings}
use Rattle.gx_station.specs.Quiet.{quiet_itself}
use Rattle.gx_station.specs.Honest.{KeepsImage}
use Rattle.match_journal.specs.Causes.{ReadsOnly}
use Rattle.fix_frame.specs.Grammar.{IsFrameFront}
use Rattle.fix_frame.specs.Stream.{rest_of}
use Rattle.product_file.specs.Products.{ProductLists, IsRightProduct}
use Rattle.order_kinds.specs.State.{State}
use Rattle.order_maker.specs.Stream.{generator_meanings, made_stream}
use Rattle.exec_report.specs.declared.texts.SendFault.{SendFault as SendFailed}
use Rattle.exec_report.specs.Forms.{LineText}
use Rattle.journal_print.specs.ReadingLaws.{sending_only, reading_only}
use Rattle.journal_print.specs.Reading.{ReadsAndSends}
use Rattle.journal_print.specs.declared.unprinted.Unprinted.{Unprinted}
use Rattle.journal_print.specs.declared.unprinted.Unprinted.TheVariants as unprinted
use Rattle.command_words.specs.declared.command.Command.{Command}
use Rattle.command_words.specs.declared.command.Command.TheVariants.{Run, Book, Steps, Drill, Checkpoint, Session}
use Rattle.globex_run.specs.Outside.{SourceAt, Streams, streams_at, station_at}
use Rattle.globex_run.specs.Outcomes.{outcome_of, is_outcome}
use Rattle.globex_run.specs.Words.{IsWriting, ReadsInput, TakesKeptProducts}
use Rattle.globex_run.specs.Memory.{HasKeptProducts, LeavesAtNoMemory}
use Rattle.globex_run.specs.Refusals.{IsRefusal}
use Rattle.globex_run.specs.Prints.{PrintsAs, PrintsBookOnce, PrintsJournal, PrintsSteps, outcome_sent, outcome_printed}
use Rattle.globex_run.specs.RunResult.{EndsAs}
use Rattle.globex_run.specs.Answering.{IsUnreadable}
use Rattle.globex_run.specs.Inner.Serving.{CausedBy}
use Rattle.globex_run.specs.Inner.Answers.{StopsWithCause, AnswersWithCauses}
use Rattle.globex_run.specs.Inner.Sessions.{SessionResult}
use Rattle.globex_run.specs.Inner.Drilling.{DrillResult, DrillsMade, SumsUp}
use Rattle.globex_run.specs.Inner.Executing.{Executes, HasCauses, IsExecuted, Prints, Runs}
use Rattle.globex_run.specs.Inner.Checkpointing.{CheckpointResult, IsCheckpointEnding}
use Rattle.globex_run.specs.Inner.Printing.{PrintsKept}
use Rattle.globex_run.specs.declared.outcome.Outcome.{Outcome}
use Rattle.globex_run.specs.declared.ending.Ending.{Ending}
use Rattle.globex_run.specs.declared.ending.Ending.TheVariants.{Done, ReadFault, StoreFault, SendFault, BadFrame, Truncated, NotAJournal, JournalBad, ProductDiffers, Full}
use Rattle.globex_run.proofs.Answered.{unprinted-answer}
use Rattle.globex_run.proofs.Complete.{broken_more}
use Rattle.globex_run.proofs.Drills.{empty_front}
use Rattle.globex_run.proofs.Statuses.{ending-low, sent-low}

-- a session, whatever was published
pub any-published : {I S : Type 0} (m : StationMeanings S) (line : LineText) (product : ProductLists) (text : List ℕ) (before after : Streams I S) (Published : List Event → Type 0) (then : State) (outcome : Outcome)
    → SessionResult m line product text before after Published then outcome → SessionResult m line product text before after (λ (events : List Event). Unit {0}) then outcome
any-published m line product text before after Published then outcome session = record {
  right = session.right;
  ending = session.ending;
  is = session.is;
  cause = session.cause;
  image = session.image;
  serving = session.serving;
  from = λ image kept honest read startable.
      let from = session.from image kept honest read startable in
      record {
        right = from.right;
        added = from.added;
        behind = from.behind;
        are = from.are;
        reads = from.reads;
        bytes = from.bytes;
        whole = from.whole;
        part = from.part;
        adds = from.adds;
        ends = from.ends;
        at_rest = from.at_rest;
        is_state = from.is_state;
        published = λ done. tt;
      };
  full = session.full;
}

-- ---- an outcome that speaks of the station alone

-- the statuses of such an outcome
abbrev pub is_of_station : ℕ → Bool
is_of_station n = (n == 0) || (n == 5) || (n == 6) || (n == 9) || (n == 10) || (n == 11) || (n == 12) || (n == 13)

-- an ending that says nothing of the input
abbrev IsOfStation : Ending → Type 0
IsOfStation (ReadFault place) = ⊥
IsOfStation (BadFrame place) = ⊥
IsOfStation (Truncated place) = ⊥
IsOfStation ending = Unit {0}

module _ {I S : Type 0} (m : StationMeanings S) (product : ProductLists) (text : List ℕ) (before after : Streams I S) (outcome : Outcome) (command : Command) (right : IsRightProduct product) where
  -- it tells of faults of the station alone
  pub station-causes : after.input.faults ≡ before.input.faults → (n : ℕ) → outcome.status ≡ n → is_of_station n ≡ true → is_outcome outcome ≡ true
      → (n ≡ 5 → Rose before.station.store_faults after.station.store_faults) → (n ≢ 5 → after.station.store_faults ≡ before.station.store_faults)
      → (n ≡ 6 → Rose before.station.send_faults after.station.send_faults) → (n ≢ 6 → after.station.send_faults ≡ before.station.send_faults)
      → HasCauses m product text before after outcome command
  station-causes unread n is told placed store no_store send no_send = record {
    right = right;
    outcome_is = placed;
    words = other 2 refl;
    product_right = other 3 refl;
    memory = λ e. absurd (other 1 refl e);
    memory_reads = λ e. absurd (other 1 refl e);
    read = λ e. absurd (other 4 refl e);
    no_read = λ no. unread;
    store = λ e. store (sym is ∙ e);
    no_store = λ no. no_store (λ e. no (is ∙ e));
    send = λ e. send (sym is ∙ e);
    no_send = λ no. no_send (λ e. no (is ∙ e));
    frames = λ either. absurd (⊎_elim (other 7 refl) (other 8 refl) either);
  }
    where
      other : (k : ℕ) → is_of_station k ≡ false → outcome.status ≡ k → ⊥
      other k off e = let on : is_of_station k ≡ true = subst (λ (x : ℕ). is_of_station x ≡ true) (sym is ∙ e) told in cc (off, on)

  -- there was no memory, and no fault came
  pub memory-causes : outcome ≡ record { status = 1; at = 0; messages = 0 } → LeavesAtNoMemory m before after product text command → ReadsAndSends m before.station.object after.station.object
      → after.input.faults ≡ before.input.faults → (after.station.store_faults ≡ before.station.store_faults) × (after.station.send_faults ≡ before.station.send_faults) → HasCauses m product text before after outcome command
  memory-causes is leaves reads unread same =
      let status : outcome.status ≡ 1 = ap (λ (o : Outcome). o.status) is in
      record {
        right = right;
        outcome_is = ap is_outcome is;
        words = λ e. omega (arith, e, status);
        product_right = λ e. omega (arith, e, status);
        memory = λ e. (leaves, ap (λ (o : Outcome). o.messages) is);
        memory_reads = λ e. reads;
        read = λ e. absurd (omega (arith, e, status));
        no_read = λ other. unread;
        store = λ e. absurd (omega (arith, e, status));
        no_store = λ other. same.0;
        send = λ e. absurd (omega (arith, e, status));
        no_send = λ other. same.1;
        frames = λ either. absurd (⊎_elim (λ e. omega (arith, e, status)) (λ e. omega (arith, e, status)) either);
      }

  -- and nothing was touched
  pub lacks-causes : outcome ≡ record { status = 1; at = 0; messages = 0 } → after ≡ before → HasCauses m product text before after outcome command
  lacks-causes is same =
      memory-causes is (inl same) (subst (λ (s : Streams I S). ReadsAndSends m before.station.object s.station.object) (sym same) (sending_only m _ _ (quiet_itself m before.station.object))) (ap (λ (s : Streams I S). s.input.faults) same)
      (ap (λ (s : Streams I S). s.station.store_faults) same, ap (λ (s : Streams I S). s.station.send_faults) same)

  -- a refusal, or a full journal: no call has failed
  stored : after.input.faults ≡ before.input.faults → (n : ℕ) → outcome.status ≡ n → is_of_station n ≡ true → is_outcome outcome ≡ true → (n ≢ 5) × (n ≢ 6)
      → (after.station.store_faults ≡ before.station.store_faults) × (after.station.send_faults ≡ before.station.send_faults) → HasCauses m product text before after outcome command
  stored unread n is told placed some same = station-causes unread n is told placed (λ e. absurd (some.0 e)) (λ no. same.0) (λ e. absurd (some.1 e)) (λ no. same.1)

  pub ending-causes : (ending : Ending) → IsOfStation ending → (count : ℕ) → outcome ≡ outcome_of ending count → CausedBy ending before after → HasCauses m product text before after outcome command
  ending-causes Done told count is cause = stored cause.0 0 (ap (λ (o : Outcome). o.status) is) refl (ap is_outcome is) (λ e. cc e, λ e. cc e) (cause.1, cause.2)
  ending-causes (ReadFault place) told count is cause = absurd told
  ending-causes StoreFault told count is cause =
      station-causes cause.0 5 (ap (λ (o : Outcome). o.status) is) refl (ap is_outcome is) (λ e. cause.1) (λ no. absurd (no refl)) (λ e. cc e) (λ no. cause.2)
  ending-causes SendFault told count is cause =
      station-causes cause.0 6 (ap (λ (o : Outcome). o.status) is) refl (ap is_outcome is) (λ e. cc e) (λ no. cause.1) (λ e. cause.2) (λ no. absurd (no refl))
  ending-causes (BadFrame place) told count is cause = absurd told
  ending-causes (Truncated place) told count is cause = absurd told
  ending-causes (NotAJournal place) told count is cause = stored cause.0 9 (ap (λ (o : Outcome). o.status) is) refl (ap is_outcome is) (λ e. cc e, λ e. cc e) (cause.1, cause.2)
  ending-causes (JournalBad place) told count is cause = stored cause.0 10 (ap (λ (o : Outcome). o.status) is) refl (ap is_outcome is) (λ e. cc e, λ e. cc e) (cause.1, cause.2)
  ending-causes (ProductDiffers place) told count is cause = stored cause.0 11 (ap (λ (o : Outcome). o.status) is) refl (ap is_outcome is) (λ e. cc e, λ e. cc e) (cause.1, cause.2)
  ending-causes (Full place) told count is cause = stored cause.0 12 (ap (λ (o : Outcome). o.status) is) refl (ap is_outcome is) (λ e. cc e, λ e. cc e) (cause.1, cause.2)

-- ---- each command

-- a command was stopped by what stands in its input
input-stopped : {I S : Type 0} (m : StationMeanings S) (product : ProductLists) (text : List ℕ) (before after : Streams I S) (outcome : Outcome) (command : Command) (reads : ReadsInput command) (right : IsRightProduct product) (n : ℕ) → outcome.status ≡ n → is_outcome outcome ≡ true → (n ≡ 7) ⊎ (n ≡ 8)
    → (after.input.faults ≡ before.input.faults) × (after.station.store_faults ≡ before.station.store_faults) × (after.station.send_faults ≡ before.station.send_faults) → HasCauses m product text before after outcome command
input-stopped m product text before after outcome command reads right n is placed either same = record {
  right = right;
  outcome_is = placed;
  words = λ e. absurd (low (omega (arith, e, is)));
  product_right = λ e. absurd (low (omega (arith, e, is)));
  memory = λ e. absurd (low (omega (arith, e, is)));
  memory_reads = λ e. absurd (low (omega (arith, e, is)));
  read = λ e. absurd (low (omega (arith, e, is)));
  no_read = λ other. same.0;
  store = λ e. absurd (low (omega (arith, e, is)));
  no_store = λ other. same.1;
  send = λ e. absurd (low (omega (arith, e, is)));
  no_send = λ other. same.2;
  frames = λ either. reads;
}
  where
    low : n < 7 → ⊥
    low few = ⊎_elim (λ e. omega (arith, e, few)) (λ e. omega (arith, e, few)) either

-- a command that reads its input
pub input-causes : {I S : Type 0} (m : StationMeanings S) (product : ProductLists) (text : List ℕ) (before after : Streams I S) (outcome : Outcome) (command : Command) (reads : ReadsInput command) (right : IsRightProduct product) (ending : Ending) → outcome ≡ outcome_of ending outcome.messages → CausedBy ending before after → HasCauses m product text before after outcome command
input-causes m product text before after outcome command reads right (ReadFault place) is cause =
    let status : outcome.status ≡ 4 = ap (λ (o : Outcome). o.status) is in
    record {
      right = right;
      outcome_is = ap is_outcome is;
      words = λ e. omega (arith, e, status);
      product_right = λ e. omega (arith, e, status);
      memory = λ e. absurd (omega (arith, e, status));
      memory_reads = λ e. absurd (omega (arith, e, status));
      read = λ e. (reads, cause.0);
      no_read = λ other. absurd (other status);
      store = λ e. absurd (omega (arith, e, status));
      no_store = λ other. cause.1;
      send = λ e. absurd (omega (arith, e, status));
      no_send = λ other. cause.2;
      frames = λ either. reads;
    }
input-causes m product text before after outcome command reads right (BadFrame place) is cause = input-stopped m product text before after outcome command reads right 7 (ap (λ (o : Outcome). o.status) is) (ap is_outcome is) (inl refl) cause
input-causes m product text before after outcome command reads right (Truncated place) is cause = input-stopped m product text before after outcome command reads right 8 (ap (λ (o : Outcome). o.status) is) (ap is_outcome is) (inr refl) cause
input-causes m product text before after outcome command reads right Done is cause = ending-causes m product text before after outcome command right Done tt outcome.messages is cause
input-causes m product text before after outcome command reads right StoreFault is cause = ending-causes m product text before after outcome command right StoreFault tt outcome.messages is cause
input-causes m product text before after outcome command reads right SendFault is cause = ending-causes m product text before after outcome command right SendFault tt outcome.messages is cause
input-causes m product text before after outcome command reads right (NotAJournal place) is cause = ending-causes m product text before after outcome command right (NotAJournal place) tt outcome.messages is cause
input-causes m product text before after outcome command reads right (JournalBad place) is cause = ending-causes m product text before after outcome command right (JournalBad place) tt outcome.messages is cause
input-causes m product text before after outcome command reads right (ProductDiffers place) is cause = ending-causes m product text before after outcome command right (ProductDiffers place) tt outcome.messages is cause
input-causes m product text before after outcome command reads right (Full place) is cause = ending-causes m product text before after outcome command right (Full place) tt outcome.messages is cause

module _ {I S : Type 0} (m : StationMeanings S) (product : ProductLists) (text : List ℕ) (source : SourceAt I) (old new : S) (outcome : Outcome) (command : Command) (right : IsRightProduct product) where
  abbrev was : Streams I S
  was = record { input = source; station = station_at m old }

  abbrev now : Streams I S
  now = record { input = source; station = station_at m new }

  abbrev Causes : Type 0
  Causes = HasCauses m product text was now outcome command

  causes-at : (n : ℕ) → outcome.status ≡ n → is_of_station n ≡ true → is_outcome outcome ≡ true
      → (n ≡ 5 → Rose (m.store_faults old) (m.store_faults new)) → (n ≢ 5 → m.store_faults new ≡ m.store_faults old)
      → (n ≡ 6 → Rose (m.send_faults old) (m.send_faults new)) → (n ≢ 6 → m.send_faults new ≡ m.send_faults old) → Causes
  causes-at = station-causes m product text was now outcome command right refl

  -- of the sending of a text, after which nothing else happened
  pub sent-causes : (count : ℕ) (result : Result (Unit {0}) SendFailed) → outcome ≡ outcome_sent count result → HasCause (m.send_faults old) (m.send_faults new) result → m.store_faults new ≡ m.store_faults old → Causes
  sent-causes count (Ok t) is cause same =
      causes-at 0 (ap (λ (o : Outcome). o.status) is) refl (ap is_outcome is) (λ e. cc e) (λ no. same) (λ e. cc e) (λ no. cause.ok)
  sent-causes count (Err fault) is cause same =
      causes-at 6 (ap (λ (o : Outcome). o.status) is) refl (ap is_outcome is) (λ e. cc e) (λ no. same) (λ e. cause.failed) (λ no. absurd (no refl))

  -- of printing a journal
  pub printed-causes : (AtNoMemory : Type 0) (Printed : List ℕ → Result ℕ Unprinted → Type 0) (printed : PrintsKept m old new outcome AtNoMemory Printed)
      → (printed.answer ≡ Err unprinted.NoMemory → LeavesAtNoMemory m was now product text command) → Causes
  printed-causes AtNoMemory Printed printed lacks = by-answer printed.answer printed.outcome_is lacks printed.store printed.no_store printed.send printed.no_send
    where
      refused : (n place : ℕ) (why : Unprinted) → outcome ≡ record { status = n; at = place; messages = 0 } → is_of_station n ≡ true → is_outcome (record { status = n; at = place; messages = 0 }) ≡ true → (n ≢ 5) × (n ≢ 6) → (why ≢ unprinted.Store) × (why ≢ unprinted.Send)
          → ((◌≡◌ {A = Result ℕ Unprinted} (Err why) (Err unprinted.Store) → ⊥) → m.store_faults new ≡ m.store_faults old) → ((◌≡◌ {A = Result ℕ Unprinted} (Err why) (Err unprinted.Send) → ⊥) → m.send_faults new ≡ m.send_faults old) → Causes
      refused n place why is told placed some other no_store no_send =
          causes-at n (ap (λ (o : Outcome). o.status) is) told (ap is_outcome is ∙ placed) (λ e. absurd (some.0 e)) (λ no. no_store (λ e. other.0 (cc e))) (λ e. absurd (some.1 e)) (λ no. no_send (λ e. other.1 (cc e)))

      by-answer : (answer : Result ℕ Unprinted) → outcome ≡ outcome_printed answer → (answer ≡ Err unprinted.NoMemory → LeavesAtNoMemory m was now product text command) → (answer ≡ Err unprinted.Store → Rose (m.store_faults old) (m.store_faults new)) → ((answer ≡ Err unprinted.Store → ⊥) → m.store_faults new ≡ m.store_faults old)
          → (answer ≡ Err unprinted.Send → Rose (m.send_faults old) (m.send_faults new)) → ((answer ≡ Err unprinted.Send → ⊥) → m.send_faults new ≡ m.send_faults old) → Causes
      by-answer (Ok count) is lacks store no_store send no_send =
          causes-at 0 (ap (λ (o : Outcome). o.status) is) refl (ap is_outcome is) (λ e. cc e) (λ no. no_store (λ e. cc e)) (λ e. cc e) (λ no. no_send (λ e. cc e))
      by-answer (Err unprinted.Store) is lacks store no_store send no_send =
          causes-at 5 (ap (λ (o : Outcome). o.status) is) refl (ap is_outcome is) (λ e. store refl) (λ no. absurd (no refl)) (λ e. cc e) (λ no. no_send (λ e. cc e))
      by-answer (Err unprinted.Send) is lacks store no_store send no_send =
          causes-at 6 (ap (λ (o : Outcome). o.status) is) refl (ap is_outcome is) (λ e. cc e) (λ no. no_store (λ e. cc e)) (λ e. send refl) (λ no. absurd (no refl))
      by-answer (Err unprinted.NoMemory) is lacks store no_store send no_send =
          memory-causes m product text was now outcome command right is (lacks refl) printed.reads refl (no_store (λ e. cc e), no_send (λ e. cc e))
      by-answer (Err (unprinted.NotAJournal place)) is lacks store no_store send no_send = refused 9 place (unprinted.NotAJournal place) is refl refl (λ e. cc e, λ e. cc e) (λ e. cc e, λ e. cc e) no_store no_send
      by-answer (Err (unprinted.Bad place)) is lacks store no_store send no_send = refused 10 place (unprinted.Bad place) is refl refl (λ e. cc e, λ e. cc e) (λ e. cc e, λ e. cc e) no_store no_send
      by-answer (Err (unprinted.ProductDiffers place)) is lacks store no_store send no_send = refused 11 place (unprinted.ProductDiffers place) is refl refl (λ e. cc e, λ e. cc e) (λ e. cc e, λ e. cc e) no_store no_send

-- ---- which fault a drill's outcome tells of

module _ {I S : Type 0} (m : StationMeanings S) (product : ProductLists) (text : List ℕ) (source : SourceAt I) (first count : ℕ) (old new : S) (outcome : Outcome) (drilled : DrillsMade m product text first count old new outcome) where
  abbrev did : DrillResult m product text (record { left = made_stream product first count; reads = 0 }) drilled.end old new outcome
  did = drilled.did

  abbrev stream : List ℕ
  stream = made_stream product first count

  abbrev Cause : Ending → Type 0
  Cause ending = CausedBy ending (streams_at generator_meanings m (record { left = stream; reads = 0 }) old) (streams_at generator_meanings m drilled.end did.mid)

  abbrev Ends : Ending → Type 0
  Ends ending = EndsAs (streams_at generator_meanings m (record { left = stream; reads = 0 }) old) (streams_at generator_meanings m drilled.end did.mid) ending did.served.messages did.session.serving.taken

  abbrev Told : S → Outcome → Type 0
  Told now told = Causes m product text source old now told (Drill first count) did.session.right

  abbrev at : S → Streams I S
  at now = record { input = source; station = station_at m now }

  -- the bytes taken, and the rest
  parts : stream ≡ did.session.serving.taken ++ drilled.end.left
  parts = same_Some stream (did.session.serving.taken ++ drilled.end.left) did.session.serving.took

  -- what the session's status tells, where it did not come to its end: of the store alone
  stored-by : (ending : Ending) → IsOfStation ending → did.served ≡ outcome_of ending did.served.messages → CausedBy ending (at old) (at did.mid) → Told did.mid did.served
  stored-by ending told is cause = ending-causes m product text (at old) (at did.mid) did.served (Drill first count) did.session.right ending told did.served.messages is cause

  stopped-by : (ending : Ending) → did.served ≡ outcome_of ending did.served.messages → Cause ending → Ends ending → did.served.status ≢ 0 → Told did.mid did.served
  stopped-by Done is cause ends some = absurd (some (ap (λ (o : Outcome). o.status) is))
  stopped-by (ReadFault place) is cause ends some = absurd (omega (arith, cause.0))
  stopped-by StoreFault is cause ends some = stored-by StoreFault tt is (refl, cause.1, cause.2)
  stopped-by SendFault is cause ends some = absurd (did.silent (ap (λ (o : Outcome). o.status) is))
  stopped-by (BadFrame place) is cause ends some =
      absurd (broken_more did.session.serving.taken drilled.end.left ends.2 (subst (λ (l : List ℕ). IsFrameFront (rest_of l)) parts (subst (λ (l : List ℕ). IsFrameFront l) (sym drilled.whole) empty_front)))
  stopped-by (Truncated place) is cause ends some =
      let all : stream ≡ did.session.serving.taken = parts ∙ ap (λ (l : List ℕ). did.session.serving.taken ++ l) ends.0 ∙ append-nil did.session.serving.taken in
      absurd (ends.3.0 (ap rest_of (sym all) ∙ drilled.whole))
  stopped-by (NotAJournal place) is cause ends some = stored-by (NotAJournal place) tt is (refl, cause.1, cause.2)
  stopped-by (JournalBad place) is cause ends some = stored-by (JournalBad place) tt is (refl, cause.1, cause.2)
  stopped-by (ProductDiffers place) is cause ends some = stored-by (ProductDiffers place) tt is (refl, cause.1, cause.2)
  stopped-by (Full place) is cause ends some = stored-by (Full place) tt is (refl, cause.1, cause.2)

  -- where it came to its end no call on the station failed
  quiet-by : (ending : Ending) → did.served ≡ outcome_of ending did.served.messages → Cause ending → did.served.status ≡ 0 → (m.store_faults did.mid ≡ m.store_faults old) × (m.send_faults did.mid ≡ m.send_faults old)
  quiet-by Done is cause none = (cause.1, cause.2)
  quiet-by (ReadFault place) is cause none = absurd (omega (arith, none, ap (λ (o : Outcome). o.status) is))
  quiet-by StoreFault is cause none = absurd (omega (arith, none, ap (λ (o : Outcome). o.status) is))
  quiet-by SendFault is cause none = absurd (omega (arith, none, ap (λ (o : Outcome). o.status) is))
  quiet-by (BadFrame place) is cause none = absurd (omega (arith, none, ap (λ (o : Outcome). o.status) is))
  quiet-by (Truncated place) is cause none = absurd (omega (arith, none, ap (λ (o : Outcome). o.status) is))
  quiet-by (NotAJournal place) is cause none = absurd (omega (arith, none, ap (λ (o : Outcome). o.status) is))
  quiet-by (JournalBad place) is cause none = absurd (omega (arith, none, ap (λ (o : Outcome). o.status) is))
  quiet-by (ProductDiffers place) is cause none = absurd (omega (arith, none, ap (λ (o : Outcome). o.status) is))
  quiet-by (Full place) is cause none = absurd (omega (arith, none, ap (λ (o : Outcome). o.status) is))

  -- the summary was sent, or a part of it
  summed : did.served.status ≡ 0 → SumsUp m did.mid new did.tally did.then did.served.messages outcome → Told new outcome
  summed none sums =
      let silent = quiet-by did.session.ending did.session.is did.session.cause none in
      let cause = sums.sends.cause in
      sent-causes m product text source old new outcome (Drill first count) did.session.right did.served.messages sums.result sums.outcome_is
      (subst (λ (n : ℕ). HasCause n (m.send_faults new) sums.result) silent.1 cause) (sums.sends.quiet.store_faults ∙ silent.0)

  pub drill-causes : Told new outcome
  drill-causes = elim (eqb_tells did.served.status 0) [
    | inl none ↦ summed none.1 (did.sums_up none.1)
    | inr some ↦
        let same = did.otherwise some.1 in
        subst (λ (o : Outcome). Told new o) (sym same.1) (subst (λ (s : S). Told s did.served) (sym same.0) (stopped-by did.session.ending did.session.is did.session.cause did.session.serving.ends some.1))
  ]

-- ---- what each command comes to

-- what holds of a value that there is, led on
pub if-ok : {T E : Type 0} (r : Result T E) (P W : T → Type 0) → ((t : T) → P t → W t) → IfOk r P → IfOk r W
if-ok (Ok t) P W f p = f t p
if-ok (Err e) P W f p = tt

module _ {I S : Type 0} (m : StationMeanings S) (product : ProductLists) (text : List ℕ) (before after : Streams I S) (outcome : Outcome) where
  abbrev pub StaysRefused : Type 0
  StaysRefused = (image : List ℕ) → before.station.image ≡ Some image → IsRefusal outcome.status → KeepsImage m before.station.object after.station.object

  abbrev pub UnsentRefused : Type 0
  UnsentRefused = IsRefusal outcome.status → after.station.sent ≡ before.station.sent

  -- 13 is a refusal of `amend` alone
  pub low-refusal : outcome.status < 13 → IsRefusal outcome.status ⊎ (outcome.status ≡ 13) → IsRefusal outcome.status
  low-refusal low either = ⊎_elim (λ refusal. refusal) (λ e. absurd (omega (arith, e, low))) either

  pub run-executed : Runs m product text before after outcome → StaysRefused → UnsentRefused → IsExecuted m product text before after outcome Run
  run-executed runs stays refused =
      let low : outcome.status < 13 = ending-low outcome runs.session.ending outcome.messages runs.session.is in
      record {
        executes = runs;
        causes = input-causes m product text before after outcome Run tt runs.session.right runs.session.ending runs.session.is runs.session.cause;
        stays = λ image writes known either. stays image known (low-refusal low either);
        refused = λ writes either. refused (low-refusal low either);
      }

  pub only-printed : (command : Command) → (IsWriting command → ⊥) → Executes m product text before after outcome command → HasCauses m product text before after outcome command → IsExecuted m product text before after outcome command
  only-printed command never executes causes = record {
    executes = executes;
    causes = causes;
    stays = λ image writes. absurd (never writes);
    refused = λ writes. absurd (never writes);
  }

module _ {I S : Type 0} (m : StationMeanings S) (product : ProductLists) (text : List ℕ) (source : SourceAt I) (old new : S) (outcome : Outcome) where
  abbrev from : Streams I S
  from = record { input = source; station = station_at m old }

  abbrev to : Streams I S
  to = record { input = source; station = station_at m new }

  pub drill-low : (first count : ℕ) → DrillsMade m product text first count old new outcome → outcome.status < 13
  drill-low first count drilled = elim (eqb_tells drilled.did.served.status 0) [
    | inl none ↦ let sums = drilled.did.sums_up none.1 in sent-low outcome drilled.did.served.messages sums.result sums.outcome_is
    | inr some ↦
        let same = drilled.did.otherwise some.1 in
        subst (λ (o : Outcome). o.status < 13) (sym same.1) (ending-low drilled.did.served drilled.did.session.ending drilled.did.served.messages drilled.did.session.is)
  ]

  pub drill-executed : (first count : ℕ) → DrillsMade m product text first count old new outcome → StaysRefused m product text from to outcome → UnsentRefused m product text from to outcome → IsExecuted m product text from to outcome (Drill first count)
  drill-executed first count drilled stays refused =
      let low = drill-low first count drilled in
      record {
        executes = (drilled, refl);
        causes = drill-causes m product text source first count old new outcome drilled;
        stays = λ image writes known either. stays image known (low-refusal m product text from to outcome low either);
        refused = λ writes either. refused (low-refusal m product text from to outcome low either);
      }

  checkpoint-told : (ending : Ending) → IsCheckpointEnding ending → (ending ≡ StoreFault → Rose (m.store_faults old) (m.store_faults new)) → ((ending ≡ StoreFault → ⊥) → m.store_faults new ≡ m.store_faults old) → m.send_faults new ≡ m.send_faults old → IsOfStation ending × CausedBy ending from to
  checkpoint-told Done possible store no_store send = (tt, (refl, no_store (λ e. cc e), send))
  checkpoint-told (ReadFault place) possible store no_store send = absurd possible
  checkpoint-told StoreFault possible store no_store send = (tt, (refl, store refl, send))
  checkpoint-told SendFault possible store no_store send = absurd possible
  checkpoint-told (BadFrame place) possible store no_store send = absurd possible
  checkpoint-told (Truncated place) possible store no_store send = absurd possible
  checkpoint-told (NotAJournal place) possible store no_store send = (tt, (refl, no_store (λ e. cc e), send))
  checkpoint-told (JournalBad place) possible store no_store send = (tt, (refl, no_store (λ e. cc e), send))
  checkpoint-told (ProductDiffers place) possible store no_store send = (tt, (refl, no_store (λ e. cc e), send))
  checkpoint-told (Full place) possible store no_store send = (tt, (refl, no_store (λ e. cc e), send))

  pub checkpoint-executed : CheckpointResult m product text old new outcome → StaysRefused m product text from to outcome → IsExecuted m product text from to outcome Checkpoint
  checkpoint-executed did stays =
      let told = checkpoint-told did.ending did.possible did.store did.no_store did.silent.send_faults in
      record {
        executes = (did, refl);
        causes = ending-causes m product text from to outcome Checkpoint did.right did.ending told.0 outcome.messages did.is told.1;
        stays = λ image writes known either. stays image known (low-refusal m product text from to outcome (ending-low outcome did.ending outcome.messages did.is) either);
        refused = λ writes refusal. did.silent.sent;
      }

  pub steps-executed : IsRightProduct product → PrintsSteps m product old new outcome → IsExecuted m product text from to outcome Steps
  steps-executed right printed =
      only-printed m product text from to outcome Steps (λ never. never) (record { form = printed; reads = sending_only m old new printed.sends.quiet; input = refl })
      (sent-causes m product text source old new outcome Steps right 0 printed.result printed.outcome_is printed.sends.cause printed.sends.quiet.store_faults)

  -- a journal was printed in the form of a command
  journal-executed : IsRightProduct product → (command : Command) → (IsWriting command → ⊥) → (AtNoMemory : Type 0) (Printed : List ℕ → Result ℕ Unprinted → Type 0) (printed : PrintsKept m old new outcome AtNoMemory Printed)
      → (printed.answer ≡ Err unprinted.NoMemory → LeavesAtNoMemory m from to product text command)
      → (Prints m product text from to outcome command → Executes m product text from to outcome command) → PrintsAs m product text (station_at m old) (station_at m new) outcome command → IsExecuted m product text from to outcome command
  journal-executed right command never AtNoMemory Printed printed lacks lift form =
      only-printed m product text from to outcome command never (lift (record { form = form; reads = printed.reads; input = refl })) (printed-causes m product text source old new outcome command right AtNoMemory Printed printed lacks)

  -- by a command that begins with the last book image: it takes all its memory before
  pub book-executed : IsRightProduct product → PrintsKept m old new outcome ⊥ (PrintsBookOnce m product text (station_at m old) (station_at m new) outcome) → IsExecuted m product text from to outcome Book
  book-executed right printed =
      journal-executed right Book (λ never. never) _ _ printed (λ e. absurd (printed.memory e)) (λ prints. prints) (record { answer = printed.answer; outcome_is = printed.outcome_is; prints = printed.prints })

  -- By a command that reads each record. Where there is no memory for the products, the journal has an amendment.
  pub each-executed : IsRightProduct product → (command : Command) → (IsWriting command → ⊥) → (Printed : List ℕ → Result ℕ Unprinted → Type 0) → PrintsKept m old new outcome (ReadsOnly m old new) Printed
      → TakesKeptProducts command → ((image : List ℕ) → Printed image (Err unprinted.NoMemory) → HasKeptProducts command product text image)
      → (Prints m product text from to outcome command → Executes m product text from to outcome command)
      → (PrintsJournal (station_at m old) outcome Printed → PrintsAs m product text (station_at m old) (station_at m new) outcome command) → IsExecuted m product text from to outcome command
  each-executed right command never Printed printed takes needs lift form =
      journal-executed right command never _ Printed printed (λ e. inr (takes, record { input = refl; reads = printed.memory e; has = λ image known. needs image (subst (Printed image) e (printed.prints image known)) })) lift
      (form (record { answer = printed.answer; outcome_is = printed.outcome_is; prints = printed.prints }))

-- one reason for one answer
same-why : (a b : Unprinted) → unprinted-answer a ≡ unprinted-answer b → a ≡ b
same-why a b e = cc

-- by `session`: the journal was not read to its end, or the messages of the input were answered
module _ {I S : Type 0} (m : StationMeanings S) (product : ProductLists) (text : List ℕ) (i j : SourceAt I) (old new : S) (outcome : Outcome) (right : IsRightProduct product) where
  abbrev at-entry : Streams I S
  at-entry = record { input = i; station = station_at m old }

  abbrev at-exit : SourceAt I → Streams I S
  at-exit input = record { input = input; station = station_at m new }

  module _ (stopped : StopsWithCause m product text at-entry (at-exit j) outcome) where
    abbrev why : Unprinted
    why = stopped.stops.why

    abbrev kept : PrintsKept m old new outcome (ReadsOnly m old new) (λ image answer. Unit {0})
    kept = record {
      answer = Err why;
      outcome_is = stopped.stops.is;
      reads = reading_only m old new stopped.reads;
      store = λ e. stopped.store (cc e);
      no_store = λ other. stopped.no_store (λ e. other (ap (λ (w : Unprinted). unprinted-answer w) e));
      send = λ e. absurd (stopped.stops.no_send (cc e));
      no_send = λ other. stopped.send_faults;
      memory = λ e. stopped.reads;
      prints = λ image known. tt;
    }

    lacks-products : kept.answer ≡ Err unprinted.NoMemory → LeavesAtNoMemory m at-entry (at-exit i) product text Session
    lacks-products e =
        let is : why ≡ unprinted.NoMemory = same-why why unprinted.NoMemory e in
        inr (tt, record { input = refl; reads = stopped.reads; has = λ image known. subst (IsUnreadable product text image) is (stopped.stops.fits image known) })

    pub stopped-causes : HasCauses m product text at-entry (at-exit j) outcome Session
    stopped-causes =
        subst (λ (input : SourceAt I). HasCauses m product text at-entry (at-exit input) outcome Session) (sym stopped.stops.input)
        (printed-causes m product text i old new outcome Session right _ _ kept lacks-products)

  pub session-executed : AnswersWithCauses m product text at-entry (at-exit j) outcome → IsExecuted m product text at-entry (at-exit j) outcome Session
  session-executed (inl stopped) =
      only-printed m product text at-entry (at-exit j) outcome Session (λ never. never) (record { form = inl stopped.stops; reads = reading_only m old new stopped.reads }) (stopped-causes stopped)
  session-executed (inr answered) =
      only-printed m product text at-entry (at-exit j) outcome Session (λ never. never) (record { form = inr answered.did; reads = answered.reads })
      (input-causes m product text at-entry (at-exit j) outcome Session tt right answered.did.ending answered.did.is answered.cause)

-- what was done as a command of this name was done as the one that it is
pub of-command : {I S : Type 0} (m : StationMeanings S) (product : ProductLists) (text : List ℕ) (before after : Streams I S) (outcome : Outcome) (command given : Command)
    → given ≡ command → IsExecuted m product text before after outcome command → IsExecuted m product text before after outcome given
of-command m product text before after outcome command given same did = subst (λ (x : Command). IsExecuted m product text before after outcome x) (sym same) did

-- what was done over the product and the text of a session was done over those that it was taken for
pub over-taken : {I S : Type 0} (m : StationMeanings S) (product other : ProductLists) (text bytes : List ℕ) (before after : Streams I S) (outcome : Outcome) (command : Command)
    → product ≡ other → text ≡ bytes → IsExecuted m product text before after outcome command → IsExecuted m other bytes before after outcome command
over-taken m product other text bytes before after outcome command same_product same_text did =
    subst (λ (x : ProductLists). IsExecuted m x bytes before after outcome command) same_product
    (subst (λ (x : List ℕ). IsExecuted m product x before after outcome command) same_text did)
