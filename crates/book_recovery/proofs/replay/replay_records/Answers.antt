use Rattle.std.proofs.Common.{◌≡◌, ◌+◌, ◌-◌, ◌++◌, length, arith, refl, sym, ◌∙◌, ap, subst}
use Rattle.std.proofs.lemmas.Result.{err_from_is_err_and}
use Rattle.match_journal.specs.Journal.{IsJournal, journal_front}
use Rattle.match_journal.specs.LookLaws.{looks_more}
use Rattle.match_journal.specs.Standing.{Fits}
use Rattle.match_journal.specs.declared.standing.Standing.{Standing}
use Rattle.match_journal.specs.declared.entry.Entry.{Entry}
use Rattle.book_recovery.specs.BadPlaces.{HasBadPayloadAt}
use Rattle.book_recovery.specs.Records.{before_last_image}
use Rattle.book_recovery.specs.Inner.Ahead.{front, IsAhead}
use Rattle.book_recovery.specs.Inner.Replays.{AreReplayed}
use Rattle.book_recovery.specs.Inner.Starting.{CanBegin, begins_from}
use Rattle.book_recovery.proofs.Ahead.{looks_itself, goes_then, looks_ahead, looks_to_end, begun_ahead}
use Rattle.book_recovery.proofs.Starting.{none_begun, can_begin, begins_at, first_next, none_replayed}
use Rattle.book_recovery.proofs.Standings.{stands_moved, moved_itself, moved_then, some_moved, none_moved, entry_found}
use Rattle.book_recovery.proofs.Replaying.{replaying_first, journal_left, last_left, next_gives, replaying_more, replaying_done, next_found, none_found, none_bad}
use Rattle.book_recovery.proofs.Passes.{stopped_one}
use Rattle.book_recovery.proofs.replay.replay_records.Goals as goal

-- ---- nothing to replay

pub returns-in_default-clause-replays : goal.returns-in_default-clause-replays
returns-in_default-clause-replays g c = λ head image records read known journal first last gives walks.
    let none = none_begun c.args.start c.in_default.not-Some in
    none_replayed head image c.args.journal.now.limit records c.args.start journal walks c.args.product.now c.args.journal.now.first c.args.journal.now.gate c.args.core.now none first (subst (CanBegin c.args.journal.now) none c.requires.start) c.requires.new gives

-- ---- the first record

pub overflow_add-end : goal.overflow_add-end
overflow_add-end g c =
    let can = can_begin c.args.journal.now c.args.start c.in-Some.first c.in-Some.is c.requires.start in
    omega (arith, can.in_limit, c.requires.stands.in_limit, c.end-gate.ensures.value, c.head_len.ensures.value)

pub overflow_add-place : goal.overflow_add-place
overflow_add-place g c =
    let can = can_begin c.args.journal.now c.args.start c.in-Some.first c.in-Some.is c.requires.start in
    omega (arith, can.in_limit, can.ends, c.requires.stands.in_limit)

pub replay_entry-requires-clause-reach : goal.replay_entry-requires-clause-reach
replay_entry-requires-clause-reach g c = omega (arith, c.requires.reach, c.requires.stands.gate, c.end-gate.ensures.value, c.head_len.ensures.value)

pub replay_entry-requires-clause-inside : goal.replay_entry-requires-clause-inside
replay_entry-requires-clause-inside g c =
    let can = can_begin c.args.journal.now c.args.start c.in-Some.first c.in-Some.is c.requires.start in
    omega (arith, can.ends, c.end-gate.ensures.value)

pub replay_entry-requires-clause-length : goal.replay_entry-requires-clause-length
replay_entry-requires-clause-length g c = (can_begin c.args.journal.now c.args.start c.in-Some.first c.in-Some.is c.requires.start).fits.few

pub replay_entry-requires-clause-ahead : goal.replay_entry-requires-clause-ahead
replay_entry-requires-clause-ahead g c =
    let can = can_begin c.args.journal.now c.args.start c.in-Some.first c.in-Some.is c.requires.start in
    begun_ahead g.S.Station.meanings c.args.station.now c.begin.new.self _ _ c.begin.ensures.at c.begin.ensures.none (omega (arith, can.ends, c.end-gate.ensures.value))

pub go_behind-requires : goal.go_behind-requires
go_behind-requires g c =
    let can = can_begin c.args.journal.now c.args.start c.in-Some.first c.in-Some.is c.requires.start in
    omega (arith, can.fits.inside)

pub returns-in_default-clause-looks : goal.returns-in_default-clause-looks
returns-in_default-clause-looks g c = looks_itself g.S.Station.meanings c.args.station.now _

pub returns-in_err-replay_entry-clause-looks : goal.returns-in_err-replay_entry-clause-looks
returns-in_err-replay_entry-clause-looks g c =
    let goes = c.replay_entry.ensures.goes in
    let begins = begins_at c.args.journal.now c.args.start c.in-Some.first c.in-Some.is in
    looks_more g.S.Station.meanings _ _ (front c.replay_entry.new.scratch.ahead - front c.begin.new.self) _
    (omega (arith, goes.ends, c.begin.ensures.at, c.begin.ensures.none, begins, c.end-gate.ensures.value, c.head_len.ensures.value)) goes.looks

pub returns-in_err-replay_entry-clause-replays : goal.returns-in_err-replay_entry-clause-replays
returns-in_err-replay_entry-clause-replays g c = λ head image records read known journal first last gives walks.
    let product = c.args.product.now in
    let limit = c.args.journal.now.limit in
    let place = length (journal_front head (before_last_image records)) in
    let at = replaying_first product head records place c.args.core.now refl c.requires.new gives in
    let next = first_next head image limit records c.args.start journal walks _ c.in-Some.first c.in-Some.is refl in
    let did = c.in_err-replay_entry.ensures.replays image read (omega (arith, known.known, c.requires.stands.gate, c.end-gate.ensures.value, c.head_len.ensures.value)) (next_gives head records place at.passing image _ c.in-Some.first next product gives) in
    let p = err_from_is_err_and c.from_residual.result c.from_residual.ensures.1 in
    rw (p.1, p.2)
    (stopped_one product head image limit records place _ c.args.journal.now.gate c.args.core.now c.replay_entry.new.core c.replay_entry.new.core c.in-Some.first at next c.in_err-replay_entry.field-0.0 journal did)

pub records-init : goal.records-init
records-init g c =
    let product = c.args.product.now in
    let entry = c.in-Some.first in
    let can = can_begin c.args.journal.now c.args.start entry c.in-Some.is c.requires.start in
    let begins = begins_at c.args.journal.now c.args.start entry c.in-Some.is in
    let moves = c.go_behind.ensures in
    let gate = ap (λ (s : Standing). s.gate) moves in
    record {
      looks = looks_more g.S.Station.meanings _ _ (front c.replay_entry.new.scratch.ahead - front c.begin.new.self) _ (omega (arith, c.begin.ensures.at, c.begin.ensures.none, begins)) c.replay_entry.ensures.goes.looks;
      from = omega (arith, gate, begins);
      ahead = subst (λ k. IsAhead g.S.Station.meanings c.replay_entry.new.station c.replay_entry.new.scratch.ahead k (c.end-gate.result + c.head_len.result)) (sym gate) c.in_ok-replay_entry.ensures.ahead;
      within = omega (arith, gate, can.ends, c.end-gate.ensures.value);
      reach = c.replay_entry.ensures.goes.reach;
      faults = c.in_ok-replay_entry.ensures.none (λ e. cc e);
      same = moved_itself c.args.journal.now c.go_behind.new.self _ _ moves;
      in_limit = omega (arith, gate, can.fits.in_limit);
      room = c.replay_entry.ensures.room;
      fits = c.replay_entry.ensures.fits;
      few = c.in_ok-replay_entry.ensures.few;
      replaying = λ head image records read known journal last gives walks.
          let limit = c.args.journal.now.limit in
          let place = length (journal_front head (before_last_image records)) in
          let at = replaying_first product head records place c.args.core.now refl c.requires.new gives in
          let next = first_next head image limit records c.args.start journal walks c.go_behind.new.self.gate entry c.in-Some.is gate in
          let did = c.in_ok-replay_entry.ensures.replays image read (omega (arith, known.known, c.requires.stands.gate, c.end-gate.ensures.value, c.head_len.ensures.value)) (next_gives head records place at.passing image c.go_behind.new.self.gate entry next product gives) in
          replaying_more product head image limit records place c.args.core.now at c.go_behind.new.self.gate entry next journal c.requires.stands.in_limit gives c.replay_entry.new.core did;
    }

-- ---- one record more

pub next_ahead-requires-clause-reach : goal.next_ahead-requires-clause-reach
next_ahead-requires-clause-reach g c = omega (arith, c.records.invariant.reach, c.requires.reach, c.requires.stands.gate, c.end-gate.ensures.value, c.head_len.ensures.value)

pub next_ahead-requires-clause-end : goal.next_ahead-requires-clause-end
next_ahead-requires-clause-end g c = omega (arith, c.end-gate.ensures.value, c.head_len.ensures.value, ap (λ (s : Standing). s.known) c.records.invariant.same)

pub replay_entry-requires-in-Ok-Some-clause-reach : goal.replay_entry-requires-in-Ok-Some-clause-reach
replay_entry-requires-in-Ok-Some-clause-reach g c =
    omega (arith, c.next_ahead.ensures.goes.reach, c.records.invariant.reach, c.requires.reach, c.requires.stands.gate, c.end-gate.ensures.value, c.head_len.ensures.value)

pub replay_entry-requires-in-Ok-Some-clause-inside : goal.replay_entry-requires-in-Ok-Some-clause-inside
replay_entry-requires-in-Ok-Some-clause-inside g c =
    let step = some_moved c.records.journal c.next_ahead.new.journal c.in-Ok-Some.field-0 c.in-Ok-Some.entry c.in-Ok-Some.field-0-is c.in-Ok-Some.ensures.moves in
    let entry = entry_found (λ (e : Entry). (e.at ≡ c.records.journal.gate) × Fits c.records.journal.known c.records.journal.limit e) c.in-Ok-Some.field-0 c.in-Ok-Some.entry c.in-Ok-Some.field-0-is c.in-Ok-Some.ensures.entry in
    omega (arith, ap (λ (s : Standing). s.gate) step, entry.0, c.in-Ok-Some.ensures.within)

pub replay_entry-requires-in-Ok-Some-clause-length : goal.replay_entry-requires-in-Ok-Some-clause-length
replay_entry-requires-in-Ok-Some-clause-length g c =
    (entry_found (λ (e : Entry). (e.at ≡ c.records.journal.gate) × Fits c.records.journal.known c.records.journal.limit e) c.in-Ok-Some.field-0 c.in-Ok-Some.entry c.in-Ok-Some.field-0-is c.in-Ok-Some.ensures.entry).1.few

pub replay_entry-requires-in-Ok-Some-clause-ahead : goal.replay_entry-requires-in-Ok-Some-clause-ahead
replay_entry-requires-in-Ok-Some-clause-ahead g c =
    entry_found (λ (e : Entry). IsAhead g.S.Station.meanings c.next_ahead.new.station c.next_ahead.new.ahead (e.at + 6) (c.end-gate.result + c.head_len.result)) c.in-Ok-Some.field-0 c.in-Ok-Some.entry c.in-Ok-Some.field-0-is c.in-Ok-Some.ensures.ahead

pub records-preserved : goal.records-preserved
records-preserved g c =
    let m = g.S.Station.meanings in
    let before = c.records.invariant in
    let step = some_moved c.records.journal c.next_ahead.new.journal c.in-Ok-Some.field-0 c.in-Ok-Some.entry c.in-Ok-Some.field-0-is c.in-Ok-Some.ensures.moves in
    let gate = ap (λ (s : Standing). s.gate) step in
    let limit = ap (λ (s : Standing). s.limit) before.same in
    let entry = entry_found (λ (e : Entry). (e.at ≡ c.records.journal.gate) × Fits c.records.journal.known c.records.journal.limit e) c.in-Ok-Some.field-0 c.in-Ok-Some.entry c.in-Ok-Some.field-0-is c.in-Ok-Some.ensures.entry in
    let goes = goes_then m _ _ _ _ _ _ _ c.next_ahead.ensures.goes c.replay_entry-in-Ok-Some.ensures.goes in
    record {
      looks = looks_ahead m _ _ _ _ _ (begins_from c.args.journal.now c.args.start + 6) _ (omega (arith, before.from, before.ahead.ready)) before.looks goes;
      from = omega (arith, gate, before.from);
      ahead = subst (λ k. IsAhead m c.replay_entry-in-Ok-Some.new.station c.replay_entry-in-Ok-Some.new.scratch.ahead k (c.end-gate.result + c.head_len.result)) (omega (arith, gate, entry.0)) c.in_ok-replay_entry-in-Ok-Some.ensures.ahead;
      within = c.in-Ok-Some.ensures.within;
      reach = goes.reach ∙ before.reach;
      faults = c.in_ok-replay_entry-in-Ok-Some.ensures.none (λ e. cc e) ∙ c.in-Ok-Some.ensures.none (λ e. cc e) ∙ before.faults;
      same = moved_then c.args.journal.now c.records.journal c.next_ahead.new.journal _ _ before.same step;
      in_limit = omega (arith, gate, limit, entry.0, entry.1.in_limit);
      room = c.replay_entry-in-Ok-Some.ensures.room;
      fits = c.replay_entry-in-Ok-Some.ensures.fits;
      few = c.in_ok-replay_entry-in-Ok-Some.ensures.few;
      replaying = λ head image records read known journal last gives walks.
          let product = c.args.product.now in
          let at = before.replaying head image records read known journal last gives walks in
          let held = before.looks.keeps.holds ∙ read in
          let long = stands_moved c.args.journal.now c.records.journal _ _ image before.same known in
          let left = journal_left head records c.records.journal.gate at.passing image c.records.journal.limit (subst (λ k. IsJournal head k records image) (sym limit) journal) in
          let ends = last_left head records c.records.journal.gate at.passing c.end-gate.result (c.end-gate.ensures.value ∙ last) in
          let told = c.in-Ok-Some.ensures.in_order head image (before_last_image records ++ at.passing.done) at.passing.left held long left at.passing.place ends in
          let found = next_found head image (before_last_image records ++ at.passing.done) at.passing.left _ c.in-Ok-Some.field-0 c.in-Ok-Some.entry c.in-Ok-Some.field-0-is told in
          let did = c.in_ok-replay_entry-in-Ok-Some.ensures.replays image (c.next_ahead.ensures.goes.looks.keeps.holds ∙ held) (omega (arith, known.known, c.requires.stands.gate, c.end-gate.ensures.value, c.head_len.ensures.value))
          (next_gives head records c.records.journal.gate at.passing image _ c.in-Ok-Some.entry found product gives) in
          replaying_more product head image c.args.journal.now.limit records c.records.journal.gate c.records.core at _ c.in-Ok-Some.entry found journal c.requires.stands.in_limit gives c.replay_entry-in-Ok-Some.new.core did;
    }

pub returns-in_err-replay_entry-in-Ok-Some-clause-looks : goal.returns-in_err-replay_entry-in-Ok-Some-clause-looks
returns-in_err-replay_entry-in-Ok-Some-clause-looks g c =
    let m = g.S.Station.meanings in
    let before = c.records.invariant in
    let goes = goes_then m _ _ _ _ _ _ _ c.next_ahead.ensures.goes c.replay_entry-in-Ok-Some.ensures.goes in
    let from = begins_from c.args.journal.now c.args.start in
    looks_to_end m _ _ c.replay_entry-in-Ok-Some.new.scratch.ahead from c.args.journal.now.gate _ goes.ends (omega (arith, c.end-gate.ensures.value, c.head_len.ensures.value))
    (looks_ahead m _ _ _ _ _ (from + 6) _ (omega (arith, before.from, before.ahead.ready)) before.looks goes)

pub returns-in_err-replay_entry-in-Ok-Some-clause-replays : goal.returns-in_err-replay_entry-in-Ok-Some-clause-replays
returns-in_err-replay_entry-in-Ok-Some-clause-replays g c = λ head image records read known journal first last gives walks.
    let product = c.args.product.now in
    let before = c.records.invariant in
    let at = before.replaying head image records read known journal last gives walks in
    let held = before.looks.keeps.holds ∙ read in
    let limit = ap (λ (s : Standing). s.limit) before.same in
    let long = stands_moved c.args.journal.now c.records.journal _ _ image before.same known in
    let left = journal_left head records c.records.journal.gate at.passing image c.records.journal.limit (subst (λ k. IsJournal head k records image) (sym limit) journal) in
    let ends = last_left head records c.records.journal.gate at.passing c.end-gate.result (c.end-gate.ensures.value ∙ last) in
    let told = c.in-Ok-Some.ensures.in_order head image (before_last_image records ++ at.passing.done) at.passing.left held long left at.passing.place ends in
    let found = next_found head image (before_last_image records ++ at.passing.done) at.passing.left _ c.in-Ok-Some.field-0 c.in-Ok-Some.entry c.in-Ok-Some.field-0-is told in
    let did = c.in_err-replay_entry-in-Ok-Some.ensures.replays image (c.next_ahead.ensures.goes.looks.keeps.holds ∙ held) (omega (arith, known.known, c.requires.stands.gate, c.end-gate.ensures.value, c.head_len.ensures.value))
    (next_gives head records c.records.journal.gate at.passing image _ c.in-Ok-Some.entry found product gives) in
    let p = err_from_is_err_and c.from_residual-in_err-replay_entry-in-Ok-Some.result c.from_residual-in_err-replay_entry-in-Ok-Some.ensures.1 in
    rw (p.1, p.2)
    (stopped_one product head image c.args.journal.now.limit records c.records.journal.gate c.next_ahead.new.journal.gate c.next_ahead.new.journal.gate c.records.core c.replay_entry-in-Ok-Some.new.core c.replay_entry-in-Ok-Some.new.core c.in-Ok-Some.entry at found c.in_err-replay_entry-in-Ok-Some.field-0.0 journal did)

-- ---- the end

pub returns-in-Ok-None-clause-looks : goal.returns-in-Ok-None-clause-looks
returns-in-Ok-None-clause-looks g c =
    let m = g.S.Station.meanings in
    let before = c.records.invariant in
    let goes = c.next_ahead.ensures.goes in
    let from = begins_from c.args.journal.now c.args.start in
    looks_to_end m _ _ c.next_ahead.new.ahead from c.args.journal.now.gate _ goes.ends (omega (arith, c.end-gate.ensures.value, c.head_len.ensures.value))
    (looks_ahead m _ _ _ _ _ (from + 6) _ (omega (arith, before.from, before.ahead.ready)) before.looks goes)

pub returns-in-Ok-None-clause-last : goal.returns-in-Ok-None-clause-last
returns-in-Ok-None-clause-last g c = c.in-Ok-None.ensures.last c.in-Ok-None.field-0-is ∙ c.end-gate.ensures.value

pub returns-in-Ok-None-clause-replays : goal.returns-in-Ok-None-clause-replays
returns-in-Ok-None-clause-replays g c = λ head image records read known journal first last gives walks.
    let product = c.args.product.now in
    let before = c.records.invariant in
    let at = before.replaying head image records read known journal last gives walks in
    let held = before.looks.keeps.holds ∙ read in
    let limit = ap (λ (s : Standing). s.limit) before.same in
    let long = stands_moved c.args.journal.now c.records.journal _ _ image before.same known in
    let left = journal_left head records c.records.journal.gate at.passing image c.records.journal.limit (subst (λ k. IsJournal head k records image) (sym limit) journal) in
    let ends = last_left head records c.records.journal.gate at.passing c.end-gate.result (c.end-gate.ensures.value ∙ last) in
    let told = c.in-Ok-None.ensures.in_order head image (before_last_image records ++ at.passing.done) at.passing.left held long left at.passing.place ends in
    let step = none_moved c.records.journal c.next_ahead.new.journal c.in-Ok-None.field-0 c.in-Ok-None.field-0-is c.in-Ok-None.ensures.moves in
    let done = replaying_done product head image c.args.journal.now.limit records c.records.journal.gate c.records.core at journal (none_found head image (before_last_image records ++ at.passing.done) at.passing.left _ c.in-Ok-None.field-0 c.in-Ok-None.field-0-is told) in
    subst (λ k. AreReplayed product head c.args.journal.now.limit image records k c.records.core) (sym (ap (λ (s : Standing). s.gate) step)) done

pub returns-in-Err-Store-clause-looks : goal.returns-in-Err-Store-clause-looks
returns-in-Err-Store-clause-looks g c =
    let m = g.S.Station.meanings in
    let before = c.records.invariant in
    let goes = c.next_ahead.ensures.goes in
    let from = begins_from c.args.journal.now c.args.start in
    looks_to_end m _ _ c.next_ahead.new.ahead from c.args.journal.now.gate _ goes.ends (omega (arith, c.end-gate.ensures.value, c.head_len.ensures.value))
    (looks_ahead m _ _ _ _ _ (from + 6) _ (omega (arith, before.from, before.ahead.ready)) before.looks goes)

pub returns-in-Err-Bad-clause-looks : goal.returns-in-Err-Bad-clause-looks
returns-in-Err-Bad-clause-looks g c =
    let m = g.S.Station.meanings in
    let before = c.records.invariant in
    let goes = c.next_ahead.ensures.goes in
    let from = begins_from c.args.journal.now c.args.start in
    looks_to_end m _ _ c.next_ahead.new.ahead from c.args.journal.now.gate _ goes.ends (omega (arith, c.end-gate.ensures.value, c.head_len.ensures.value))
    (looks_ahead m _ _ _ _ _ (from + 6) _ (omega (arith, before.from, before.ahead.ready)) before.looks goes)

pub returns-in-Err-Bad-clause-replays : goal.returns-in-Err-Bad-clause-replays
returns-in-Err-Bad-clause-replays g c = λ head image records read known journal first last gives walks.
    let product = c.args.product.now in
    let before = c.records.invariant in
    let at = before.replaying head image records read known journal last gives walks in
    let held = before.looks.keeps.holds ∙ read in
    let limit = ap (λ (s : Standing). s.limit) before.same in
    let long = stands_moved c.args.journal.now c.records.journal _ _ image before.same known in
    let left = journal_left head records c.records.journal.gate at.passing image c.records.journal.limit (subst (λ k. IsJournal head k records image) (sym limit) journal) in
    let ends = last_left head records c.records.journal.gate at.passing c.end-gate.result (c.end-gate.ensures.value ∙ last) in
    let told = c.in-Err-Bad.ensures.in_order head image (before_last_image records ++ at.passing.done) at.passing.left held long left at.passing.place ends in
    subst (HasBadPayloadAt product head c.args.journal.now.limit image) (sym c.in-Err-Bad.at-is)
    (none_bad product head image c.args.journal.now.limit (before_last_image records ++ at.passing.done) at.passing.left c.next_ahead.new.journal.gate c.in-Err-Bad.field-0 c.in-Err-Bad.at c.in-Err-Bad.field-0-is told)
