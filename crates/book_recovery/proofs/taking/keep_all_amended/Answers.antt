use Rattle.std.proofs.Common.{◌≡◌, ◌⊎◌, ◌++◌, inl, inr, false, List, Err, arith, refl, sym, subst, ap, ◌∙◌}
use Rattle.std.proofs.lemmas.Result.{err_from_is_err_and}
use Rattle.match_journal.specs.Journal.{IsJournal, Record}
use Rattle.match_journal.specs.LookLaws.{reads_itself, reads_look}
use Rattle.match_journal.specs.Walking.{InOrder}
use Rattle.match_journal.specs.declared.faults.WalkFault.{WalkFault}
use Rattle.match_journal.specs.declared.standing.Standing.{Standing}
use Rattle.book_recovery.specs.Histories.{is_amendment}
use Rattle.book_recovery.proofs.KeepingAll.{IsKeeping, keeping-first, keeping-passed, keeping-kept, keeping-failed, keeping-done}
use Rattle.book_recovery.proofs.Replaying.{next_found, none_found}
use Rattle.book_recovery.proofs.Standings.{stands_moved, moved_then, some_moved}
use Rattle.book_recovery.proofs.taking.keep_all_amended.Goals as goal
use Rattle.book_recovery.proofs.taking.keep_all_amended.Goals.{else-is_amendment-via-then-is_amendment+else-entry-last_at, else-is_amendment-via-else-is_amendment}

pub records-init : goal.records-init
records-init g c = record {
  reads = reads_itself g.S.Station.meanings _;
  reach = refl;
  faults = refl;
  same = refl;
  room = refl;
  follow = c.requires.follow;
  keeping = λ head image records split read known journal place kept. keeping-first head records _ split _ _ place kept;
}

-- the product of an amendment was kept
pub records-preserved-then-entry-last_at : goal.records-preserved-then-entry-last_at
records-preserved-then-entry-last_at g c =
    let m = g.S.Station.meanings in
    let before = c.records.invariant in
    let step = c.keep_amended.ensures.stays ∙ some_moved c.records.journal c.next_known.new.journal c.in-Ok-Some.field-0 c.in-Ok-Some.entry c.in-Ok-Some.field-0-is c.in-Ok-Some.ensures.moves in
    record {
      reads = reads_look m _ _ _ _ (reads_look m _ _ _ 6 before.reads c.next_known.ensures.looks) c.keep_amended.ensures.reads.looks;
      reach = c.keep_amended.ensures.reach ∙ c.next_known.ensures.reach ∙ before.reach;
      faults = c.in_ok-keep_amended-in-Ok-Some.ensures.none (λ e. cc e) ∙ c.in-Ok-Some.ensures.none (λ e. cc e) ∙ before.faults;
      same = moved_then c.args.journal.now c.records.journal c.keep_amended.new.journal _ _ before.same step;
      room = c.keep_amended.ensures.room ∙ before.room;
      follow = c.in_ok-keep_amended-in-Ok-Some.ensures.follow;
      keeping = λ head image records split read known journal place kept.
          let at = before.keeping head image records split read known journal place kept in
          let held = before.reads.looks.keeps.holds ∙ read in
          let long = stands_moved c.args.journal.now c.records.journal _ _ image before.same known in
          let limit = ap (λ (s : Standing). s.limit) before.same in
          let all = subst (λ (l : List Record). IsJournal head c.args.journal.now.limit l image) at.are journal in
          let left = subst (λ k. IsJournal head k (at.before ++ at.after) image) (sym limit) all in
          let entry = c.in-Ok-Some.entry in
          let one = next_found head image at.before at.after _ c.in-Ok-Some.field-0 entry c.in-Ok-Some.field-0-is (c.in-Ok-Some.ensures.in_order head image at.before at.after held long left at.place) in
          let moves = some_moved c.records.journal c.next_known.new.journal c.in-Ok-Some.field-0 entry c.in-Ok-Some.field-0-is c.in-Ok-Some.ensures.moves in
          let there = stands_moved c.records.journal c.next_known.new.journal _ _ image moves long in
          let amends = sym c.is_amendment.ensures ∙ c.if-is_amendment.true in
          subst (λ k. IsKeeping head records c.args.last_at split k c.keep_amended.new.earlier.items) (sym (ap (λ (s : Standing). s.gate) c.keep_amended.ensures.stays))
          (keeping-kept head records c.args.last_at split image c.records.journal.gate _ c.records.earlier.items at entry one amends (λ is. omega (arith, is, c.if-entry-last_at.true)) c.keep_amended.new.earlier.items
          (c.in_ok-keep_amended-in-Ok-Some.ensures.keeps image (c.next_known.ensures.looks.keeps.holds ∙ held) there.known));
    }

-- the record is no amendment, or the last one
pub records-preserved : goal.records-preserved
records-preserved g c =
    let m = g.S.Station.meanings in
    let before = c.records.invariant in
    let step = some_moved c.records.journal c.next_known.new.journal c.in-Ok-Some.field-0 c.in-Ok-Some.entry c.in-Ok-Some.field-0-is c.in-Ok-Some.ensures.moves in
    let passed : (is_amendment c.in-Ok-Some.entry.kind ≡ false) ⊎ (c.in-Ok-Some.entry.at ≡ c.args.last_at) = elim c.else-is_amendment.branch [
      | else-is_amendment-via-then-is_amendment+else-entry-last_at w ↦ inr (omega (arith, w.if-entry-last_at.false))
      | else-is_amendment-via-else-is_amendment w ↦ inl (sym c.is_amendment.ensures ∙ w.if-is_amendment.false)
    ] in
    record {
      reads = reads_look m _ _ _ 6 before.reads c.next_known.ensures.looks;
      reach = c.next_known.ensures.reach ∙ before.reach;
      faults = c.in-Ok-Some.ensures.none (λ e. cc e) ∙ before.faults;
      same = moved_then c.args.journal.now c.records.journal c.next_known.new.journal _ _ before.same step;
      room = before.room;
      follow = before.follow;
      keeping = λ head image records split read known journal place kept.
          let at = before.keeping head image records split read known journal place kept in
          let held = before.reads.looks.keeps.holds ∙ read in
          let long = stands_moved c.args.journal.now c.records.journal _ _ image before.same known in
          let limit = ap (λ (s : Standing). s.limit) before.same in
          let all = subst (λ (l : List Record). IsJournal head c.args.journal.now.limit l image) at.are journal in
          let left = subst (λ k. IsJournal head k (at.before ++ at.after) image) (sym limit) all in
          let entry = c.in-Ok-Some.entry in
          let one = next_found head image at.before at.after _ c.in-Ok-Some.field-0 entry c.in-Ok-Some.field-0-is (c.in-Ok-Some.ensures.in_order head image at.before at.after held long left at.place) in
          keeping-passed head records c.args.last_at split image c.records.journal.gate _ c.records.earlier.items at entry one passed;
    }

pub returns-in_err-keep_amended-in-Ok-Some-clause-reads : goal.returns-in_err-keep_amended-in-Ok-Some-clause-reads
returns-in_err-keep_amended-in-Ok-Some-clause-reads g c =
    let m = g.S.Station.meanings in
    reads_look m _ _ _ _ (reads_look m _ _ _ 6 c.records.invariant.reads c.next_known.ensures.looks) c.keep_amended.ensures.reads.looks

pub returns-in_err-keep_amended-in-Ok-Some-clause-keeps : goal.returns-in_err-keep_amended-in-Ok-Some-clause-keeps
returns-in_err-keep_amended-in-Ok-Some-clause-keeps g c = λ head image records split read known journal place kept.
    let before = c.records.invariant in
    let at = before.keeping head image records split read known journal place kept in
    let held = before.reads.looks.keeps.holds ∙ read in
    let long = stands_moved c.args.journal.now c.records.journal _ _ image before.same known in
    let limit = ap (λ (s : Standing). s.limit) before.same in
    let all = subst (λ (l : List Record). IsJournal head c.args.journal.now.limit l image) at.are journal in
    let left = subst (λ k. IsJournal head k (at.before ++ at.after) image) (sym limit) all in
    let entry = c.in-Ok-Some.entry in
    let one = next_found head image at.before at.after _ c.in-Ok-Some.field-0 entry c.in-Ok-Some.field-0-is (c.in-Ok-Some.ensures.in_order head image at.before at.after held long left at.place) in
    let moves = some_moved c.records.journal c.next_known.new.journal c.in-Ok-Some.field-0 entry c.in-Ok-Some.field-0-is c.in-Ok-Some.ensures.moves in
    let there = stands_moved c.records.journal c.next_known.new.journal _ _ image moves long in
    let amends = sym c.is_amendment.ensures ∙ c.if-is_amendment.true in
    let told = c.in_err-keep_amended-in-Ok-Some.ensures.keeps image (c.next_known.ensures.looks.keeps.holds ∙ held) there.known in
    let p = err_from_is_err_and c.from_residual.result c.from_residual.ensures.1 in
    rw (p.1, p.2)
    (keeping-failed head records c.args.last_at split image c.records.journal.gate _ c.records.earlier.items at entry one amends (λ is. omega (arith, is, c.if-entry-last_at.true)) c.args.journal.now.limit c.keep_amended.new.earlier.items journal c.in_err-keep_amended-in-Ok-Some.field-0.0 told)

pub returns-in-Ok-None-clause-reads : goal.returns-in-Ok-None-clause-reads
returns-in-Ok-None-clause-reads g c = reads_look g.S.Station.meanings _ _ _ 6 c.records.invariant.reads c.next_known.ensures.looks

pub returns-in-Ok-None-clause-keeps : goal.returns-in-Ok-None-clause-keeps
returns-in-Ok-None-clause-keeps g c = λ head image records split read known journal place kept.
    let before = c.records.invariant in
    let at = before.keeping head image records split read known journal place kept in
    let held = before.reads.looks.keeps.holds ∙ read in
    let long = stands_moved c.args.journal.now c.records.journal _ _ image before.same known in
    let limit = ap (λ (s : Standing). s.limit) before.same in
    let all = subst (λ (l : List Record). IsJournal head c.args.journal.now.limit l image) at.are journal in
    let left = subst (λ k. IsJournal head k (at.before ++ at.after) image) (sym limit) all in
    let told = c.in-Ok-None.ensures.in_order head image at.before at.after held long left at.place in
    keeping-done head records c.args.last_at split c.records.journal.gate c.records.earlier.items at (none_found head image at.before at.after _ c.in-Ok-None.field-0 c.in-Ok-None.field-0-is told)

pub returns-in-Err-Store-clause-reads : goal.returns-in-Err-Store-clause-reads
returns-in-Err-Store-clause-reads g c = reads_look g.S.Station.meanings _ _ _ 6 c.records.invariant.reads c.next_known.ensures.looks

pub returns-in-Err-Bad-clause-reads : goal.returns-in-Err-Bad-clause-reads
returns-in-Err-Bad-clause-reads g c = reads_look g.S.Station.meanings _ _ _ 6 c.records.invariant.reads c.next_known.ensures.looks

-- a journal has no bad head
pub returns-in-Err-Bad-clause-keeps : goal.returns-in-Err-Bad-clause-keeps
returns-in-Err-Bad-clause-keeps g c = λ head image records split read known journal place kept.
    let before = c.records.invariant in
    let at = before.keeping head image records split read known journal place kept in
    let held = before.reads.looks.keeps.holds ∙ read in
    let long = stands_moved c.args.journal.now c.records.journal _ _ image before.same known in
    let limit = ap (λ (s : Standing). s.limit) before.same in
    let all = subst (λ (l : List Record). IsJournal head c.args.journal.now.limit l image) at.are journal in
    let left = subst (λ k. IsJournal head k (at.before ++ at.after) image) (sym limit) all in
    let told = c.in-Err-Bad.ensures.in_order head image at.before at.after held long left at.place in
    absurd (subst (λ (e : WalkFault). InOrder head image at.before at.after c.next_known.new.journal.gate (Err e)) c.in-Err-Bad.field-0-is told)
