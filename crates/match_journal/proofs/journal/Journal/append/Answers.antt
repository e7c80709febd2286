use Rattle.std.proofs.Common.{refl, sym, ◌∙◌, ap, subst, arith, rules}
use Rattle.match_journal.specs.Journal.{Record}
use Rattle.match_journal.specs.declared.standing.Standing.{Standing}
use Rattle.match_journal.proofs.Appended.{AppendsAt}
use Rattle.match_journal.proofs.Stepping.{steps_ok, steps_failed}
use Rattle.match_journal.proofs.journal.Journal.append.Goals as goal

pub returns-then-saturating_sub-count-clause-full : goal.returns-then-saturating_sub-count-clause-full
returns-then-saturating_sub-count-clause-full g c =
    let seen = c.self.view_is in
    (λ is. omega (arith, c.if-saturating_sub-count.true, c.saturating_sub.ensures, ap (λ (s : Standing). s.limit) seen, ap (λ (s : Standing). s.gate) seen), λ less. refl)

pub put_record-requires-clause-reach : goal.put_record-requires-clause-reach
put_record-requires-clause-reach g c = omega (arith, c.self.invariant.gate, c.requires.reach, ap (λ (s : Standing). s.known) c.self.view_is)

pub put_record-requires-clause-small : goal.put_record-requires-clause-small
put_record-requires-clause-small g c = omega (arith, c.if-saturating_sub-count.false, c.saturating_sub.ensures, c.self.invariant.in_limit)

-- ---- a store that has failed

pub returns-then-is_err-clause-full : goal.returns-then-is_err-clause-full
returns-then-is_err-clause-full g c =
    let seen = c.self.view_is in
    (λ is. absurd (cc is), λ less. absurd (omega (arith, less, c.if-saturating_sub-count.false, c.saturating_sub.ensures, ap (λ (s : Standing). s.limit) seen, ap (λ (s : Standing). s.gate) seen)))

pub returns-then-is_err-clause-nothing : goal.returns-then-is_err-clause-nothing
returns-then-is_err-clause-nothing g c = λ is. absurd (cc is)

pub returns-then-is_err-clause-none : goal.returns-then-is_err-clause-none
returns-then-is_err-clause-none g c = λ other. absurd (other refl)

pub returns-then-is_err-clause-reach : goal.returns-then-is_err-clause-reach
returns-then-is_err-clause-reach g c = omega (arith, c.requires.reach, c.put_record.ensures.puts.reach, ap (λ (s : Standing). s.known) c.self.view_is)

pub returns-then-is_err-clause-appends : goal.returns-then-is_err-clause-appends
returns-then-is_err-clause-appends g c =
    let added : Record = record { kind = c.args.kind; payload = c.args.payload.now } in
    subst (AppendsAt g.S.Station.meanings c.args.station.now c.put_record.new.station added _) c.self.view_is (λ head image records kind journal.
    steps_failed g.S.Station.meanings _ _ image _ _ _ _ (sym c.is_err.ensures.value ∙ c.if-is_err.true) (c.put_record.ensures.appends head image _ records record { known = kind; some = c.requires.some; few = c.requires.few } (omega (arith, c.if-saturating_sub-count.false, c.saturating_sub.ensures)) journal))

-- ---- a record that was put

pub returns-clause-full : goal.returns-clause-full
returns-clause-full g c =
    let seen = c.self.view_is in
    (λ is. absurd (cc is), λ less. absurd (omega (arith, less, c.if-saturating_sub-count.false, c.saturating_sub.ensures, ap (λ (s : Standing). s.limit) seen, ap (λ (s : Standing). s.gate) seen)))

pub returns-clause-nothing : goal.returns-clause-nothing
returns-clause-nothing g c = λ is. absurd (cc is)

pub returns-clause-appends : goal.returns-clause-appends
returns-clause-appends g c =
    let added : Record = record { kind = c.args.kind; payload = c.args.payload.now } in
    subst (AppendsAt g.S.Station.meanings c.args.station.now c.put_record.new.station added _) c.self.view_is (λ head image records kind journal.
    steps_ok g.S.Station.meanings _ _ image _ _ _ _ (sym c.is_err.ensures.value ∙ c.if-is_err.false) (c.put_record.ensures.appends head image _ records record { known = kind; some = c.requires.some; few = c.requires.few } (omega (arith, c.if-saturating_sub-count.false, c.saturating_sub.ensures)) journal))

pub invariant_of-self-2 : goal.invariant_of-self-2
invariant_of-self-2 g c = search rules

pub returns-clause-grows : goal.returns-clause-grows
returns-clause-grows g c = search rules

pub returns-clause-stands : goal.returns-clause-stands
returns-clause-stands g c = search rules
