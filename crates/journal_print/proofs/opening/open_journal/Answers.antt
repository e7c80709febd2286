use Rattle.std.proofs.Common.{ℕ, subst, sym}
use Rattle.match_journal.specs.Journal.{IsJournal}
use Rattle.journal_print.proofs.opening.open_journal.Goals as goal

pub returns-in-Ok-clause-few_bytes : goal.returns-in-Ok-clause-few_bytes
returns-in-Ok-clause-few_bytes g c = λ head image records read journal. c.look.ensures.few_bytes head image records read (subst (λ (k : ℕ). IsJournal head k records image) (sym c.journal_limit.ensures.limit) journal)

pub returns-in-Err-Store-clause-few_bytes : goal.returns-in-Err-Store-clause-few_bytes
returns-in-Err-Store-clause-few_bytes g c = λ head image records read journal. c.look.ensures.few_bytes head image records read (subst (λ (k : ℕ). IsJournal head k records image) (sym c.journal_limit.ensures.limit) journal)

pub returns-in-Err-Bad-clause-few_bytes : goal.returns-in-Err-Bad-clause-few_bytes
returns-in-Err-Bad-clause-few_bytes g c = λ head image records read journal. c.look.ensures.few_bytes head image records read (subst (λ (k : ℕ). IsJournal head k records image) (sym c.journal_limit.ensures.limit) journal)

pub returns-in-Err-ProductDiffers-clause-few_bytes : goal.returns-in-Err-ProductDiffers-clause-few_bytes
returns-in-Err-ProductDiffers-clause-few_bytes g c = λ head image records read journal. c.look.ensures.few_bytes head image records read (subst (λ (k : ℕ). IsJournal head k records image) (sym c.journal_limit.ensures.limit) journal)
