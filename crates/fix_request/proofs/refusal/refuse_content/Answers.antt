use Rattle.std.proofs.Common.{◌∙◌, false}
use Rattle.fix_request.proofs.Answering.{late_refusal}
use Rattle.fix_request.proofs.refusal.refuse_content.Goals as goal

pub returns : goal.returns
returns c = c.refused_by_content.ensures ∙ late_refusal false c.args.sender.now c.args.fault.rule c.args.fault.reason c.args.fault.tag c.requires
