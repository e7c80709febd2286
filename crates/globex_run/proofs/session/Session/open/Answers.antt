use Rattle.std.proofs.Common.{ℕ, subst}
use Rattle.globex_run.specs.Inner.Openings.{OpensAny}
use Rattle.globex_run.proofs.session.Session.open.Goals as goal

pub returns-clause-opens : goal.returns-clause-opens
returns-clause-opens g c =
    subst (λ (limit : ℕ). OpensAny g.S.Station.meanings limit c.args.self.now.text.now c.args.station.now c.open_journal.new.station c.open_journal.new.core c.open_journal.result)
    c.journal_limit.ensures.limit c.open_journal.ensures.opens
