use Rattle.std.proofs.Common.{◌≡◌, ◌*◌, arith, ℕ, Ok, Err, sym, ◌∙◌, ap, subst}
use Rattle.match_journal.specs.Standing.{Fits}
use Rattle.match_journal.specs.Walking.{IsHead, IsBadHead}
use Rattle.match_journal.specs.declared.entry.Entry.{Entry}
use Rattle.match_journal.specs.declared.standing.Standing.{Standing}
use Rattle.match_journal.specs.BadRecords.{HasBadHeadAt}
use Rattle.book_recovery.specs.Inner.Counting.{AreRecords}
use Rattle.match_journal.specs.LookLaws.{looks_by, reads_of}
use Rattle.match_journal.proofs.Heads.{journal_begins_none}
use Rattle.book_recovery.proofs.FewBytes.{heads_read, ended_read, ended_bytes, ended_reads}
use Rattle.book_recovery.proofs.Starting.{begins_then}
use Rattle.book_recovery.proofs.Standings.{stands_moved, moved_then, some_moved, none_moved, entry_found, ended}
use Rattle.book_recovery.proofs.Counting.{entries_more, counting_more, counting_done, counting_bad, head_found, gate_found, bad_found, bad_counts, walks_there}
use Rattle.book_recovery.proofs.recovery.read_heads.Goals as goal

pub heads-preserved : goal.heads-preserved
heads-preserved g c =
    let m = g.S.Station.meanings in
    let before = c.heads.invariant in
    let step = some_moved c.heads.journal c.next_met.new.journal c.in-Ok-Some.field-0 c.in-Ok-Some.entry c.in-Ok-Some.field-0-is c.in-Ok-Some.ensures.moves in
    let gate = ap (λ (s : Standing). s.gate) step in
    let more = entries_more c.heads.heads c.pass.new.self c.in-Ok-Some.entry c.pass.ensures in
    let entry = entry_found (λ (e : Entry). (e.at ≡ c.heads.journal.gate) × Fits c.heads.journal.known c.heads.journal.limit e) c.in-Ok-Some.field-0 c.in-Ok-Some.entry c.in-Ok-Some.field-0-is c.in-Ok-Some.ensures.entry in
    record {
      looks = looks_by m _ _ _ (6 * c.heads.heads.entries) 6 _ before.looks c.next_met.ensures.looks (omega (arith, more));
      reach = c.next_met.ensures.reach ∙ before.reach;
      faults = c.in-Ok-Some.ensures.none (λ e. cc e) ∙ before.faults;
      same = moved_then c.args.journal.now c.heads.journal c.next_met.new.journal _ _ before.same step;
      few = omega (arith, before.few, gate, more);
      start = begins_then c.heads.journal c.next_met.new.journal c.heads.heads c.pass.new.self c.in-Ok-Some.entry _ step before.start entry c.pass.ensures;
      counting = λ head image read known begins first.
          let at = before.counting head image read known begins first in
          let walks = walks_there head image c.args.journal.now c.heads.journal _ _ c.heads.heads (Ok c.in-Ok-Some.field-0) before.same known first at (λ b. c.in-Ok-Some.ensures.walks head image b (before.looks.keeps.holds ∙ read)) in
          let at_head = head_found image _ _ c.in-Ok-Some.field-0 c.in-Ok-Some.entry c.in-Ok-Some.field-0-is walks in
          counting_more head _ image _ _ at c.in-Ok-Some.entry _ c.pass.new.self (subst (λ k. IsHead image k c.heads.journal.gate c.in-Ok-Some.entry) (ap (λ (s : Standing). s.limit) before.same) at_head) gate c.pass.ensures;
    }

pub returns-in-Ok-None-clause-reads : goal.returns-in-Ok-None-clause-reads
returns-in-Ok-None-clause-reads g c = reads_of g.S.Station.meanings _ _ _ _ _ c.heads.invariant.looks c.next_met.ensures.looks

pub returns-in-Ok-None-clause-counts : goal.returns-in-Ok-None-clause-counts
returns-in-Ok-None-clause-counts g c = λ head image read known begins first.
    let before = c.heads.invariant in
    let at = before.counting head image read known begins first in
    let walks = walks_there head image c.args.journal.now c.heads.journal _ _ c.heads.heads (Ok c.in-Ok-None.field-0) before.same known first at (λ b. c.in-Ok-None.ensures.walks head image b (before.looks.keeps.holds ∙ read)) in
    let step = none_moved c.heads.journal c.next_met.new.journal c.in-Ok-None.field-0 c.in-Ok-None.field-0-is c.in-Ok-None.ensures.moves in
    let done = counting_done head _ image _ _ at (gate_found image _ _ c.in-Ok-None.field-0 c.in-Ok-None.field-0-is walks) in
    subst (λ (k : ℕ). AreRecords head c.args.journal.now.limit image k c.heads.heads) (sym (ap (λ (s : Standing). s.gate) step)) done

pub returns-in-Err-Store-clause-reads : goal.returns-in-Err-Store-clause-reads
returns-in-Err-Store-clause-reads g c = reads_of g.S.Station.meanings _ _ _ _ _ c.heads.invariant.looks c.next_met.ensures.looks

pub returns-in-Ok-None-clause-few_bytes : goal.returns-in-Ok-None-clause-few_bytes
returns-in-Ok-None-clause-few_bytes g c = λ head image records read known journal first.
    let before = c.heads.invariant in
    let at = before.counting head image read known (journal_begins_none head c.args.journal.now.limit records image journal) first in
    heads_read g.S.Station.meanings head image c.args.journal.now.limit c.heads.journal.gate records c.heads.heads c.args.station.now c.heads.station c.next_met.new.station journal at before.looks c.next_met.ensures.looks

pub returns-in-Err-Store-clause-few_bytes : goal.returns-in-Err-Store-clause-few_bytes
returns-in-Err-Store-clause-few_bytes g c = λ head image records read known journal first.
    let before = c.heads.invariant in
    let at = before.counting head image read known (journal_begins_none head c.args.journal.now.limit records image journal) first in
    heads_read g.S.Station.meanings head image c.args.journal.now.limit c.heads.journal.gate records c.heads.heads c.args.station.now c.heads.station c.next_met.new.station journal at before.looks c.next_met.ensures.looks

-- ---- a bad head

pub returns-in-Ok-clause-reads : goal.returns-in-Ok-clause-reads
returns-in-Ok-clause-reads g c = ended_reads g.S.Station.meanings _ _ _ _ _ c.heads.invariant.looks c.next_met.ensures.looks c.end_at_bad.ensures.looks

pub returns-in-Ok-clause-bytes : goal.returns-in-Ok-clause-bytes
returns-in-Ok-clause-bytes g c = ended_bytes g.S.Station.meanings c.heads.heads.entries _ _ _ _ c.heads.invariant.looks c.next_met.ensures.looks c.end_at_bad.ensures.looks

pub returns-in-Ok-clause-few_bytes : goal.returns-in-Ok-clause-few_bytes
returns-in-Ok-clause-few_bytes g c = λ head image records read known journal first.
    let before = c.heads.invariant in
    let at = before.counting head image read known (journal_begins_none head c.args.journal.now.limit records image journal) first in
    ended_read g.S.Station.meanings head image c.args.journal.now.limit c.heads.journal.gate records c.heads.heads c.args.station.now c.heads.station c.next_met.new.station _ journal at before.looks c.next_met.ensures.looks c.end_at_bad.ensures.looks

pub returns-in-Ok-clause-same : goal.returns-in-Ok-clause-same
returns-in-Ok-clause-same g c = moved_then c.args.journal.now c.heads.journal c.end_at_bad.new.journal _ _ c.heads.invariant.same (ended c.heads.journal c.next_met.new.journal c.end_at_bad.new.journal _ c.in-Err-Bad.field-0 c.in-Err-Bad.ensures.moves c.end_at_bad.ensures.same)

-- no image that the journal was opened in has grown
pub returns-in-Ok-clause-counts : goal.returns-in-Ok-clause-counts
returns-in-Ok-clause-counts g c = λ head image read known begins first.
    let before = c.heads.invariant in
    let stays = c.in-Err-Bad.ensures.moves ∙ before.same in
    absurd (c.in-Ok.ensures.stays image (c.next_met.ensures.looks.keeps.holds ∙ before.looks.keeps.holds ∙ read) (stands_moved c.args.journal.now c.next_met.new.journal _ _ image stays known))

pub returns-in-Err-clause-reads : goal.returns-in-Err-clause-reads
returns-in-Err-clause-reads g c = ended_reads g.S.Station.meanings _ _ _ _ _ c.heads.invariant.looks c.next_met.ensures.looks c.end_at_bad.ensures.looks

pub returns-in-Err-clause-few_bytes : goal.returns-in-Err-clause-few_bytes
returns-in-Err-clause-few_bytes g c = λ head image records read known journal first.
    let before = c.heads.invariant in
    let at = before.counting head image read known (journal_begins_none head c.args.journal.now.limit records image journal) first in
    ended_read g.S.Station.meanings head image c.args.journal.now.limit c.heads.journal.gate records c.heads.heads c.args.station.now c.heads.station c.next_met.new.station _ journal at before.looks c.next_met.ensures.looks c.end_at_bad.ensures.looks

pub returns-in-Err-clause-same : goal.returns-in-Err-clause-same
returns-in-Err-clause-same g c = moved_then c.args.journal.now c.heads.journal c.end_at_bad.new.journal _ _ c.heads.invariant.same (ended c.heads.journal c.next_met.new.journal c.end_at_bad.new.journal _ c.in-Err-Bad.field-0 c.in-Err-Bad.ensures.moves c.end_at_bad.ensures.same)

pub returns-in-Err-clause-counts : goal.returns-in-Err-clause-counts
returns-in-Err-clause-counts g c = λ head image read known begins first.
    let before = c.heads.invariant in
    let at = before.counting head image read known begins first in
    let walks = walks_there head image c.args.journal.now c.heads.journal _ _ c.heads.heads (Err c.in-Err-Bad.field-0) before.same known first at (λ b. c.in-Err-Bad.ensures.walks head image b (before.looks.keeps.holds ∙ read)) in
    let bad = bad_found image _ _ c.in-Err-Bad.field-0 c.in-Err-Bad.at c.in-Err-Bad.field-0-is walks in
    bad_counts head c.args.journal.now.limit image c.end_at_bad.new.journal.gate c.in-Err-Bad.at c.in-Err.fault c.in-Err.ensures.fault
    (counting_bad head c.args.journal.now.limit image _ _ at c.in-Err-Bad.at (subst (λ k. IsBadHead image k c.heads.journal.gate c.in-Err-Bad.at) (ap (λ (s : Standing). s.limit) before.same) bad))
