use Rattle.std.proofs.Common.{◌+◌, ◌*◌, length, ◌∙◌, arith}
use Rattle.match_journal.specs.LookLaws.{reads_look, reads_then, reads_more}
use Rattle.match_journal.specs.Opening.{most_to_open}
use Rattle.match_journal.specs.declared.limits.TheConstants.{MOST_TEXT}
use Rattle.match_journal.proofs.Found.{found_looks}
use Rattle.match_journal.proofs.journal.Journal.look.Goals as goal

pub returns-in-Err-clause-few_bytes : goal.returns-in-Err-clause-few_bytes
returns-in-Err-clause-few_bytes g c = λ head image records read journal.
    reads_more (18 + 6 * (length records + 1)) (most_to_open records) _ _ (omega arith) (c.look_at.ensures.few_bytes head image records read journal)

pub returns-in-Ok-hold_text-clause-reads : goal.returns-in-Ok-hold_text-clause-reads
returns-in-Ok-hold_text-clause-reads g c = reads_look g.S.Station.meanings _ _ _ MOST_TEXT c.look_at.ensures.reads c.hold_text.ensures.looks

pub returns-in-Ok-hold_text-clause-few_bytes : goal.returns-in-Ok-hold_text-clause-few_bytes
returns-in-Ok-hold_text-clause-few_bytes g c = λ head image records read journal.
    reads_more (18 + 6 * (length records + 1) + MOST_TEXT) (most_to_open records) _ _ (omega arith)
    (reads_then (18 + 6 * (length records + 1)) MOST_TEXT _ _ _ (c.look_at.ensures.few_bytes head image records read journal) c.hold_text.ensures.looks.bytes_read)

pub returns-in-Err-hold_text-clause-reads : goal.returns-in-Err-hold_text-clause-reads
returns-in-Err-hold_text-clause-reads g c = reads_look g.S.Station.meanings _ _ _ MOST_TEXT c.look_at.ensures.reads c.hold_text.ensures.looks

pub returns-in-Err-hold_text-clause-few_bytes : goal.returns-in-Err-hold_text-clause-few_bytes
returns-in-Err-hold_text-clause-few_bytes g c = λ head image records read journal.
    reads_more (18 + 6 * (length records + 1) + MOST_TEXT) (most_to_open records) _ _ (omega arith)
    (reads_then (18 + 6 * (length records + 1)) MOST_TEXT _ _ _ (c.look_at.ensures.few_bytes head image records read journal) c.hold_text.ensures.looks.bytes_read)

pub returns-in-Ok-hold_text-clause-answers : goal.returns-in-Ok-hold_text-clause-answers
returns-in-Ok-hold_text-clause-answers g c = λ image read.
    let found = c.in-Ok.ensures.found image read in
    let has = c.in-Ok-hold_text.ensures.text image c.args.limit (c.look_at.ensures.reads.looks.keeps.holds ∙ read) found in
    found_looks c.args.product.now c.args.limit image c.in-Ok.found.class c.in-Ok.found.text c.in-Ok.found.len c.journal_of.result found.class found.len has c.journal_of.ensures
