use Rattle.std.proofs.Common.{◌+◌, ◌*◌, length, arith}
use Rattle.match_journal.specs.LookLaws.{reads_more}
use Rattle.match_journal.specs.Opening.{most_to_open}
use Rattle.match_journal.proofs.Found.{found_any}
use Rattle.match_journal.proofs.journal.Journal.look_any.Goals as goal

pub returns-in-Err-clause-few_bytes : goal.returns-in-Err-clause-few_bytes
returns-in-Err-clause-few_bytes g c = λ head image records read journal.
    reads_more (18 + 6 * (length records + 1)) (most_to_open records) _ _ (omega arith) (c.look_at.ensures.few_bytes head image records read journal)

pub returns-in-Ok-clause-few_bytes : goal.returns-in-Ok-clause-few_bytes
returns-in-Ok-clause-few_bytes g c = λ head image records read journal.
    reads_more (18 + 6 * (length records + 1)) (most_to_open records) _ _ (omega arith) (c.look_at.ensures.few_bytes head image records read journal)

pub returns-in-Ok-clause-answers : goal.returns-in-Ok-clause-answers
returns-in-Ok-clause-answers g c = λ image read.
    let found = c.in-Ok.ensures.found image read in
    found_any c.args.limit image c.in-Ok.found.class c.in-Ok.found.text c.in-Ok.found.len c.journal_of.result found.class found.len c.journal_of.ensures
