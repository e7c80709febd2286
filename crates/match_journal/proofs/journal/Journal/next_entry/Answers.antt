use Rattle.match_journal.specs.declared.faults.WalkFault.TheVariants.{Store}
use Rattle.std.proofs.Common.{◌≡◌, IsErrOf, sym, subst}
use Rattle.match_journal.specs.Walking.{Walks}
use Rattle.match_journal.proofs.Walked.{walked, went_on}
use Rattle.match_journal.proofs.journal.Journal.next_entry.Goals as goal

pub returns-clause-in_order : goal.returns-clause-in_order
returns-clause-in_order g c = λ header image before after read known journal place.
    let walks = walked image c.self.inside.standing c.args.self.now c.self.view_is known c.read_head-found.result (c.read_head-found.ensures.walks image read) in
    went_on header image before after c.args.self.now journal place c.read_head-found.result c.go_on.result c.go_on.new.self c.go_on.ensures.same c.go_on.ensures.moves walks

pub returns-clause-reach : goal.returns-clause-reach
returns-clause-reach g c = c.read_head-found.ensures.reach

pub returns-clause-none : goal.returns-clause-none
returns-clause-none g c = subst (λ r. (IsErrOf r Store → ⊥) → g.S.Station.meanings.store_faults c.read_head-found.new.station ≡ g.S.Station.meanings.store_faults c.args.station.now) (sym c.go_on.ensures.same) c.read_head-found.ensures.none

pub returns-clause-walks : goal.returns-clause-walks
returns-clause-walks g c = λ image read known.
    let seen = c.args.self.now in
    let walks = walked image c.self.inside.standing seen c.self.view_is known c.read_head-found.result (c.read_head-found.ensures.walks image read) in
    subst (λ r. Walks image seen.limit seen.gate r) (sym c.go_on.ensures.same) walks
