use Rattle.std.proofs.Common.{ℕ, Option, ap, ◌∙◌}
use Rattle.std.specs.Option.{unwrap_or}
use Rattle.match_journal.specs.Texts.{last_amendment}
use Rattle.globex_run.proofs.AmendFollowed.{gate-or}
use Rattle.globex_run.proofs.amend.without_product.Goals as goal

pub returns-in_default : goal.returns-in_default
returns-in_default c = (
  c.in_default.not-NoMemory,
  λ image head records stands heads. c.unwrap_or.ensures ∙ ap (λ (gate : Option ℕ). unwrap_or gate 9) (c.amended_at.ensures.gate image head records stands heads) ∙ gate-or (last_amendment head records),
)
