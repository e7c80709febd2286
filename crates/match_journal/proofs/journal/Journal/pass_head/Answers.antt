use Rattle.std.proofs.Common.{◌≡◌, length, take, drop, sym, subst}
use Rattle.match_journal.specs.Walking.{Walks}
use Rattle.match_journal.specs.declared.standing.Standing.{Standing}
use Rattle.match_journal.proofs.Walked.{walked, went_on}
use Rattle.match_journal.proofs.journal.Journal.pass_head.Goals as goal

pub returns-clause-in_order : goal.returns-clause-in_order
returns-clause-in_order c = λ header image before after known is journal place.
    let there = subst (λ (s : Standing). c.args.head.now ≡ take (length c.args.head.now) (drop s.gate image)) (sym c.self.view_is) is in
    let walks = walked image c.self.inside.standing c.args.self.now c.self.view_is known c.head_in-found.result (λ long version. c.head_in-found.ensures.walks image long version there) in
    went_on header image before after c.args.self.now journal place c.head_in-found.result c.go_on.result c.go_on.new.self c.go_on.ensures.same c.go_on.ensures.moves walks

pub returns-clause-walks : goal.returns-clause-walks
returns-clause-walks c = λ image known is.
    let seen = c.args.self.now in
    let there = subst (λ (s : Standing). c.args.head.now ≡ take (length c.args.head.now) (drop s.gate image)) (sym c.self.view_is) is in
    let walks = walked image c.self.inside.standing seen c.self.view_is known c.head_in-found.result (λ long version. c.head_in-found.ensures.walks image long version there) in
    subst (λ r. Walks image seen.limit seen.gate r) (sym c.go_on.ensures.same) walks
