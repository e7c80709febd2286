use Rattle.std.proofs.Common.{◌+◌, ◌*◌, length, ◌∙◌, arith}
use Rattle.match_journal.specs.LookLaws.{reads_look, reads_then, reads_more}
use Rattle.match_journal.proofs.LastPlaces.{last_header, last_amended}
use Rattle.match_journal.proofs.look.last_text.Goals as goal

pub returns-in-Ok-None-clause-few_bytes : goal.returns-in-Ok-None-clause-few_bytes
returns-in-Ok-None-clause-few_bytes g c = λ head image records read known second long journal.
    reads_more (6 * (length records + 1)) _ _ _ (omega arith) (c.last_amendment.ensures.few_bytes head image records read known second long journal)

pub returns-in-Err-clause-few_bytes : goal.returns-in-Err-clause-few_bytes
returns-in-Err-clause-few_bytes g c = λ head image records read known second long journal.
    reads_more (6 * (length records + 1)) _ _ _ (omega arith) (c.last_amendment.ensures.few_bytes head image records read known second long journal)

pub returns-in-Ok-Some-clause-few_bytes : goal.returns-in-Ok-Some-clause-few_bytes
returns-in-Ok-Some-clause-few_bytes g c = λ head image records read known second long journal.
    reads_more (6 * (length records + 1) + 4) _ _ _ (omega arith) (reads_then (6 * (length records + 1)) 4 _ _ _ (c.last_amendment.ensures.few_bytes head image records read known second long journal) c.amended_text.ensures.looks.bytes_read)

pub returns-in-Ok-Some-clause-reads : goal.returns-in-Ok-Some-clause-reads
returns-in-Ok-Some-clause-reads g c = reads_look g.S.Station.meanings _ _ _ 4 c.last_amendment.ensures.reads c.amended_text.ensures.looks

pub returns-in-Ok-None-clause-text : goal.returns-in-Ok-None-clause-text
returns-in-Ok-None-clause-text g c = λ head image read known gate headed second long.
    last_header head c.args.limit image c.args.size c.header_text.result c.in-Ok-None.field-0 c.in-Ok-None.field-0-is (c.in-Ok-None.ensures.heads head image read known gate headed second long) headed long c.header_text.ensures

pub returns-in-Ok-Some-clause-text : goal.returns-in-Ok-Some-clause-text
returns-in-Ok-Some-clause-text g c = λ head image read known gate headed second long.
    last_amended head c.args.limit image c.in-Ok-Some.field-0 c.in-Ok-Some.entry c.in-Ok-Some.field-0-is (c.in-Ok-Some.ensures.heads head image read known gate headed second long) c.amended_text.result
    (λ payload size is. c.amended_text.ensures.text image payload (c.last_amendment.ensures.reads.looks.keeps.holds ∙ read) size is)
