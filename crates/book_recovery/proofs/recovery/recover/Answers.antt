use Rattle.std.proofs.Common.{length, ◌+◌, ◌-◌, ◌*◌, Ok, Err, arith, refl, ◌∙◌, ap}
use Rattle.std.proofs.lemmas.Result.{err_from_is_err_and}
use Rattle.match_journal.specs.LookLaws.{reads_more, reads_look, reads_then}
use Rattle.match_journal.specs.declared.standing.Standing.{Standing}
use Rattle.match_journal.specs.Journal.{journal_front}
use Rattle.book_recovery.specs.Records.{before_last_image}
use Rattle.book_recovery.specs.Recovering.{first_read, most_to_recover}
use Rattle.book_recovery.specs.Inner.Starting.{begins_from}
use Rattle.book_recovery.proofs.FewBytes.{passes_read}
use Rattle.match_journal.proofs.Heads.{opened_begins, journal_begins_none}
use Rattle.match_journal.proofs.LastTexts.{one_last_text}
use Rattle.match_journal.specs.Texts.{PlacedText}
use Rattle.product_file.specs.ProductTexts.{product_of}
use Rattle.book_recovery.proofs.Starting.{begins_first}
use Rattle.book_recovery.proofs.Standings.{stands_first, moved_then}
use Rattle.book_recovery.proofs.Passes.{stopped_counting, stopped_replaying, recovered, replays_after}
use Rattle.book_recovery.proofs.recovery.recover.Goals as goal

pub returns-in_err-heads-clause-recovers : goal.returns-in_err-heads-clause-recovers
returns-in_err-heads-clause-recovers g c = λ head text image read known least opened gives.
    let first = stands_first c.args.journal.now head image known opened.header in
    let counts = c.in_err-heads.ensures.counts head image read known (opened_begins head c.args.journal.now.limit image opened.gate opened.header least) first in
    let p = err_from_is_err_and c.from_residual.result c.from_residual.ensures.1 in
    rw (p.1, p.2) (stopped_counting c.args.product.now head image c.args.journal.now.limit c.read_heads.new.journal.gate c.read_heads.new.journal.gate c.args.core.now c.in_err-heads.field-0.0 counts)

pub returns-in_err-replay_records-clause-reads : goal.returns-in_err-replay_records-clause-reads
returns-in_err-replay_records-clause-reads g c = reads_look g.S.Station.meanings _ _ _ _ c.read_heads.ensures.reads c.replay_records.ensures.looks

pub returns-in_err-replay_records-clause-recovers : goal.returns-in_err-replay_records-clause-recovers
returns-in_err-replay_records-clause-recovers g c = λ head text image read known least opened gives.
    let first = stands_first c.args.journal.now head image known opened.header in
    let records = c.in_ok-heads.ensures.counts head image read known (opened_begins head c.args.journal.now.limit image opened.gate opened.header least) first in
    let p = err_from_is_err_and c.from_residual-in_err-replay_records.result c.from_residual-in_err-replay_records.ensures.1 in
    let last = ap (λ (t : PlacedText). product_of t.bytes) (one_last_text head image c.args.journal.now.limit records.records text opened records.journal.journal).0 ∙ gives in
    let told = replays_after c.args.product.now head image c.args.journal.now.limit c.args.journal.now c.read_heads.new.journal records.records (length (journal_front head (before_last_image records.records))) c.replay_records.new.journal.gate c.replay_records.new.core c.in_ok-heads.heads.start (Err c.in_err-replay_records.field-0.0) refl c.read_heads.ensures.same
    (λ known' journal' first' gives' walks'. c.in_err-replay_records.ensures.replays head image records.records (c.read_heads.ensures.reads.looks.keeps.holds ∙ read) known' journal' first' records.journal.gate_is gives' walks') known records.journal.journal first last records.start in
    rw (p.1, p.2) (stopped_replaying c.args.product.now head image c.args.journal.now.limit records.records c.replay_records.new.journal.gate c.replay_records.new.journal.gate c.replay_records.new.core c.replay_records.new.core c.in_err-replay_records.field-0.0 told)

pub returns-in_err-replay_records-clause-same : goal.returns-in_err-replay_records-clause-same
returns-in_err-replay_records-clause-same g c = moved_then c.args.journal.now c.read_heads.new.journal c.replay_records.new.journal _ _ c.read_heads.ensures.same c.replay_records.ensures.same

pub returns-clause-same : goal.returns-clause-same
returns-clause-same g c = moved_then c.args.journal.now c.read_heads.new.journal c.replay_records.new.journal _ _ c.read_heads.ensures.same c.replay_records.ensures.same

pub returns-clause-reads : goal.returns-clause-reads
returns-clause-reads g c = reads_look g.S.Station.meanings _ _ _ _ c.read_heads.ensures.reads c.replay_records.ensures.looks

pub returns-clause-recovers : goal.returns-clause-recovers
returns-clause-recovers g c = λ head text image read known least opened gives.
    let first = stands_first c.args.journal.now head image known opened.header in
    let records = c.in_ok-heads.ensures.counts head image read known (opened_begins head c.args.journal.now.limit image opened.gate opened.header least) first in
    let last = ap (λ (t : PlacedText). product_of t.bytes) (one_last_text head image c.args.journal.now.limit records.records text opened records.journal.journal).0 ∙ gives in
    let told = replays_after c.args.product.now head image c.args.journal.now.limit c.args.journal.now c.read_heads.new.journal records.records (length (journal_front head (before_last_image records.records))) c.replay_records.new.journal.gate c.replay_records.new.core c.in_ok-heads.heads.start (Ok tt) refl c.read_heads.ensures.same
    (λ known' journal' first' gives' walks'. c.in_ok-replay_records.ensures.replays head image records.records (c.read_heads.ensures.reads.looks.keeps.holds ∙ read) known' journal' first' records.journal.gate_is gives' walks') known records.journal.journal first last records.start in
    recovered c.args.product.now head image c.args.journal.now.limit c.read_heads.new.journal.gate c.replay_records.new.journal.gate c.messages.result c.in_ok-heads.heads c.replay_records.new.core records told c.messages.ensures.count

pub returns-clause-bytes : goal.returns-clause-bytes
returns-clause-bytes g c =
    let m = g.S.Station.meanings in
    let mid = c.read_heads.new.journal in
    let heads = c.in_ok-heads.heads in
    let begins = begins_first mid heads c.in_ok-heads.ensures.start ∙ ap (λ (s : Standing). first_read heads.image_at s.first) c.read_heads.ensures.same in
    reads_more _ _ _ _ (omega (arith, begins, c.in_ok-replay_records.ensures.last)) (reads_then (6 * (heads.entries + 1)) (mid.gate - begins_from mid heads.start) (m.bytes_read c.args.station.now) (m.bytes_read c.read_heads.new.station) (m.bytes_read c.replay_records.new.station)
    c.in_ok-heads.ensures.bytes c.replay_records.ensures.looks.bytes_read)

pub replay_records-requires-clause-start : goal.replay_records-requires-clause-start
replay_records-requires-clause-start g c = c.in_ok-heads.ensures.start.can

pub returns-in_err-heads-clause-few_bytes : goal.returns-in_err-heads-clause-few_bytes
returns-in_err-heads-clause-few_bytes g c = λ head image records read known journal first.
    reads_more (6 * (length records + 1)) (most_to_recover records) _ _ (omega arith) (c.read_heads.ensures.few_bytes head image records read known journal first)

pub returns-in_err-replay_records-clause-few_bytes : goal.returns-in_err-replay_records-clause-few_bytes
returns-in_err-replay_records-clause-few_bytes g c = λ head image records read known journal first.
    let counted = c.in_ok-heads.ensures.counts head image read known (journal_begins_none head c.args.journal.now.limit records image journal) first in
    passes_read head image c.args.journal.now c.read_heads.new.journal records c.in_ok-heads.heads _ _ _ journal counted (c.read_heads.ensures.few_bytes head image records read known journal first) c.replay_records.ensures.looks.bytes_read

pub returns-clause-few_bytes : goal.returns-clause-few_bytes
returns-clause-few_bytes g c = λ head image records read known journal first.
    let counted = c.in_ok-heads.ensures.counts head image read known (journal_begins_none head c.args.journal.now.limit records image journal) first in
    passes_read head image c.args.journal.now c.read_heads.new.journal records c.in_ok-heads.heads _ _ _ journal counted (c.read_heads.ensures.few_bytes head image records read known journal first) c.replay_records.ensures.looks.bytes_read
