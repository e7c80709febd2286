use Rattle.std.proofs.Common.{◌≡◌, ◌-◌, ◌≤◌, Some, sym, subst, ◌∙◌, ap}
use Rattle.match_journal.specs.declared.limits.TheConstants.{MOST_LIMIT}
use Rattle.match_journal.specs.declared.standing.Standing.{Standing}
use Rattle.match_journal.proofs.AmendedAt.{none_amended, last_amended}
use Rattle.match_journal.proofs.journal.Journal.amended_at.Goals as goal

pub returns-then-text_at-clause-gate : goal.returns-then-text_at-clause-gate
returns-then-text_at-clause-gate c = λ image head records stands journal.
    none_amended c.args.self.now image head records (subst (λ (s : Standing). s.limit ≤ MOST_LIMIT) c.self.view_is c.self.invariant.in_limit) stands journal
    (ap (λ (s : Standing). s.text_at) (sym c.self.view_is) ∙ c.if-text_at.true)

pub returns-clause-gate : goal.returns-clause-gate
returns-clause-gate c = λ image head records stands journal.
    let same : c.self.inside.standing.text_at ≡ c.args.self.now.text_at = ap (λ (s : Standing). s.text_at) c.self.view_is in
    ap Some (c.saturating_sub.ensures ∙ ap (λ n. n - 10) same)
    ∙ last_amended c.args.self.now image head records (subst (λ (s : Standing). s.limit ≤ MOST_LIMIT) c.self.view_is c.self.invariant.in_limit) stands journal
    (λ first. c.if-text_at.false (same ∙ first))
