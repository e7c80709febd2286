-- What was sent by a `LineEmit` from its making to its last flush, and what its form is then.
use Rattle.std.proofs.Common.{◌≡◌, inl, inr, ℕ, true, false, List, [], ◌++◌, Option, Result, Ok, Err, IsOk, OnOk, take, drop, fold, refl, sym, ◌∙◌, ap, subst}
use Rattle.std.proofs.lemmas.Bool.{cases_Bool}
use Rattle.std.proofs.lemmas.List.{take-append-drop}
use Rattle.std.specs.List.{flat_map}
use Rattle.std.proofs.lemmas.Grind.{flat_map-append}
use Rattle.std.specs.Borrow.{MutBor}
use Rattle.gx_base.specs.KnownBytes.{IsKnownPrefix, known_then, known_itself}
use Rattle.gx_base.specs.NameLists.{NameLists}
use Rattle.gx_base.specs.Emits.{Emits}
use Rattle.gx_base.specs.declared.event.Event.{Event}
use Rattle.gx_station.specs.Stations.{StationMeanings, sent_and}
use Rattle.gx_station.specs.Quiet.{Sends}
use Rattle.gx_station.specs.SendLaws.{sent_and_none, known_front}
use Rattle.exec_report.specs.Forms.{FormMeanings}
use Rattle.exec_report.specs.FormLaws.{printed_all, text-after-all}
use Rattle.exec_report.specs.LineEmits.{Printed, with_event, bytes_out, printed, IsLaterEmit, IsNew, Flushes, later_then, line_meanings}
use Rattle.exec_report.specs.declared.line_emit.LineEmit.{LineEmit}

module _ {F S : Type 0} (f : FormMeanings F) (m : StationMeanings S) where
  out_working : (e : LineEmit F S) → e.stopped ≡ false → bytes_out m e ≡ sent_and (m.sent e.station.now) e.buffer.now
  out_working e works = rw works refl

  out_stopped : (e : LineEmit F S) → e.stopped ≡ true → bytes_out m e ≡ m.sent e.station.now
  out_stopped e stopped = rw stopped refl

  module _ (a b c : LineEmit F S) (events : List Event) (empty : a.buffer.now ≡ []) (works : a.stopped ≡ false) (run : Emits (line_meanings f m) a b events) where
    abbrev form : F
    form = a.form.now

    abbrev sent : Option (List ℕ)
    sent = m.sent a.station.now

    abbrev text : Event → List ℕ
    text = f.text form a.names.now

    first : printed m a ≡ record { form = form; bytes = sent }
    first = ap (λ (bytes : Option (List ℕ)). record { form = form; bytes = bytes }) (out_working a works ∙ ap (sent_and sent) empty ∙ sent_and_none sent)

    -- what is seen after some events
    seen_then : (xs : List Event) → fold (with_event f a.names.now) (printed m a) xs ≡ record { form = fold f.after form xs; bytes = sent_and sent (flat_map text xs) }
    seen_then xs = ap (λ (p : Printed F). fold (with_event f a.names.now) p xs) first ∙ printed_all f a.names.now form sent xs

    -- of all events a part
    seen_part : (k : ℕ) → IsKnownPrefix (sent_and sent (flat_map text (take k events))) (sent_and sent (flat_map text events))
    seen_part k =
        let whole : flat_map text (take k events) ++ flat_map text (drop k events) ≡ flat_map text events =
        sym (flat_map-append text (take k events) (drop k events)) ∙ ap (λ (l : List Event). flat_map text l) (take-append-drop k events) in
        subst (λ l. IsKnownPrefix (sent_and sent (flat_map text (take k events))) (sent_and sent l)) whole (known_front sent (flat_map text (take k events)) (flat_map text (drop k events)))

    all_out : b.stopped ≡ false → bytes_out m b ≡ sent_and sent (flat_map text events)
    all_out going = ap (λ (p : Printed F). p.bytes) (run.all going ∙ seen_then events)

    at_most : IsKnownPrefix (bytes_out m b) (sent_and sent (flat_map text events))
    at_most = elim (cases_Bool b.stopped) [
      | inl stopped ↦
          let p = run.part stopped in
          known_then _ _ _ (subst (λ (s : Printed F). IsKnownPrefix (bytes_out m b) s.bytes) (seen_then (take p.0 events)) p.2.bytes) (seen_part p.0)
      | inr going ↦ subst (λ s. IsKnownPrefix (bytes_out m b) s) (all_out going) (known_itself (bytes_out m b))
    ]

    delivered_lem : {T E : Type 0} (result : Result T E) → Flushes f m b c result → Sends m a.station.now c.station.now (flat_map text events) result
    delivered_lem (Ok x) flush =
        let late = flush.later.steady flush.ok.2 in
        let early = run.later.steady late.0 in
        let quiet = (later_then f m a b c run.later flush.later).quiet in
        record {
          quiet = quiet;
          cause = record { never_falls = quiet.send_faults; ok = late.1 ∙ early.1; failed = tt };
          all =
              sym (sent_and_none (m.sent c.station.now)) ∙ ap (λ (l : List ℕ). sent_and (m.sent c.station.now) l) (sym flush.ok.1) ∙ sym (out_working c flush.ok.2) ∙ flush.ok.0 ∙ all_out late.0;
          part = tt;
        }
    delivered_lem (Err e) flush =
        let all = later_then f m a b c run.later flush.later in
        record {
          quiet = all.quiet;
          cause = record { never_falls = all.quiet.send_faults; ok = tt; failed = all.rose works flush.failed.1 };
          all = tt;
          part = subst (λ s. IsKnownPrefix s (sent_and sent (flat_map text events))) (out_stopped c flush.failed.1) (known_then _ _ _ flush.failed.0 at_most);
        }

    kept_lem : {T E : Type 0} (result : Result T E) → Flushes f m b c result → OnOk result (c.form.now ≡ fold f.after form events)
    kept_lem (Ok x) flush =
        ap (λ (lent : MutBor F). lent.now) flush.form ∙ ap (λ (p : Printed F). p.form) (run.all (flush.later.steady flush.ok.2).0 ∙ seen_then events)
    kept_lem (Err e) flush = tt

  -- the form prints as before, whatever became of the lines
  pub text_stays : (a b : LineEmit F S) (events : List Event) → Emits (line_meanings f m) a b events → f.text b.form.now ≡ f.text a.form.now
  text_stays a b events run = elim (cases_Bool b.stopped) [
    | inl stopped ↦
        let p = run.part stopped in
        ap f.text (p.2.form ∙ ap (λ (s : Printed F). s.form) (printed_all f a.names.now a.form.now (bytes_out m a) (take p.0 events))) ∙ text-after-all f a.form.now (take p.0 events)
    | inr going ↦
        ap f.text (ap (λ (s : Printed F). s.form) (run.all going ∙ printed_all f a.names.now a.form.now (bytes_out m a) events)) ∙ text-after-all f a.form.now events
  ]

  -- from the making to the last flush
  module _ {T E : Type 0} (a b c : LineEmit F S) (buffer : MutBor (List ℕ)) (station : MutBor S) (names : NameLists) (lent : MutBor F) (made : IsNew a buffer station names lent) (result : Result T E) where
    -- these events are sent as lines, or a part of them
    pub delivered : (events : List Event) → Emits (line_meanings f m) a b events → Flushes f m b c result → Sends m station.now c.station.now (flat_map (f.text lent.now names) events) result
    delivered events run flush =
        subst (λ (g : F). Sends m station.now c.station.now (flat_map (f.text g names) events) result) made.form
        (subst (λ (n : NameLists). Sends m station.now c.station.now (flat_map (f.text a.form.now n) events) result) made.names
        (subst (λ (s : S). Sends m s c.station.now (flat_map (f.text a.form.now a.names.now) events) result) made.station
        (delivered_lem a b c events made.buffer made.works run result flush)))

    -- and the form keeps them
    pub kept : (events : List Event) → Emits (line_meanings f m) a b events → Flushes f m b c result → OnOk result (c.form.now ≡ fold f.after lent.now events)
    kept events run flush = subst (λ (g : F). OnOk result (c.form.now ≡ fold f.after g events)) made.form (kept_lem a b c events made.buffer made.works run result flush)

    -- nothing waits at the flush: the station is not called
    idle_lem : b.stopped ≡ false → b.buffer.now ≡ [] → b.station.now ≡ station.now → (b.stopped ≡ false → b.buffer.now ≡ [] → IsOk result × (c ≡ b)) → IsOk result × (c.station.now ≡ station.now)
    idle_lem works empty same idle =
        let stays = idle works empty in
        (stays.0, ap (λ (e : LineEmit F S). e.station.now) stays.1 ∙ same)

    -- where nothing was put
    pub idle_where_none : b ≡ a → (b.stopped ≡ false → b.buffer.now ≡ [] → IsOk result × (c ≡ b)) → IsOk result × (c.station.now ≡ station.now)
    idle_where_none same idle =
        idle_lem (ap (λ (e : LineEmit F S). e.stopped) same ∙ made.works) (ap (λ (e : LineEmit F S). e.buffer.now) same ∙ made.buffer) (ap (λ (e : LineEmit F S). e.station.now) same ∙ made.station) idle

    -- and where the form is silent
    pub idle_where_silent : f.is_silent ≡ true → IsLaterEmit f m a b → (b.stopped ≡ false → b.buffer.now ≡ [] → IsOk result × (c ≡ b)) → IsOk result × (c.station.now ≡ station.now)
    idle_where_silent silent later idle =
        let is = later.silent silent made.works made.buffer in
        idle_lem is.works is.empty (is.station ∙ made.station) idle
