use Rattle.match_journal.proofs.Heads.{opened_begins}
use Rattle.book_recovery.proofs.Standings.{stands_first}
use Rattle.book_recovery.proofs.Passes.{heads_checked}
use Rattle.book_recovery.proofs.recovery.check_heads.Goals as goal

pub returns-in-Ok-clause-checks : goal.returns-in-Ok-clause-checks
returns-in-Ok-clause-checks g c = λ head text image read known least opened.
    let first = stands_first c.args.journal.now head image known opened.header in
    let counted = c.in-Ok.ensures.counts head image read known (opened_begins head c.args.journal.now.limit image opened.gate opened.header least) first in
    (counted.records, counted.journal.journal)

pub returns-in-Err-clause-checks : goal.returns-in-Err-clause-checks
returns-in-Err-clause-checks g c = λ head text image read known least opened.
    let first = stands_first c.args.journal.now head image known opened.header in
    heads_checked head image c.args.journal.now.limit c.read_heads.new.journal.gate c.in-Err.why
    (c.in-Err.ensures.counts head image read known (opened_begins head c.args.journal.now.limit image opened.gate opened.header least) first)
