use Rattle.std.proofs.Common.{◌≡◌, ◌++◌, ◌∷◌, sym, ◌∙◌, arith}
use Rattle.book_recovery.proofs.Added.{amends_kind, not_before, not_less, not_none}
use Rattle.book_recovery.proofs.known.is_added.Goals as goal

pub returns-in-Some-clause-known : goal.returns-in-Some-clause-known
returns-in-Some-clause-known c = λ image head before after r known journal kind place.
    let amends = kind ∙ amends_kind c.args.entry.now.kind (sym c.is_amendment.ensures ∙ c.if-not-is_amendment.false) in
    let told = c.in-Some.ensures.gate image head (before ++ r ∷ after) known journal in
    not_less c.in-Some.last_at c.args.entry.now.at (λ less. not_before head before after r amends c.in-Some.last_at told (omega (arith, less, place)))

pub returns-in-None-clause-known : goal.returns-in-None-clause-known
returns-in-None-clause-known c = λ image head before after r known journal kind place.
    let amends = kind ∙ amends_kind c.args.entry.now.kind (sym c.is_amendment.ensures ∙ c.if-not-is_amendment.false) in
    absurd (not_none head before after r amends (c.in-None.ensures.gate image head (before ++ r ∷ after) known journal))
