use Rattle.std.proofs.Common.{ap, ◌∙◌}
use Rattle.globex_run.specs.Outcomes.{outcome_of}
use Rattle.globex_run.specs.declared.ending.Ending.{Ending}
use Rattle.globex_run.proofs.printing.list_steps.Goals as goal

pub returns-clause-steps : goal.returns-clause-steps
returns-clause-steps g c = record {
  result = c.print_steps-sent.result;
  outcome_is = c.outcome.ensures ∙ ap (λ (e : Ending). outcome_of e 0) c.of_sent.ensures;
  sends = c.print_steps-sent.ensures.sends;
}
