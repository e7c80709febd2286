use Rattle.std.proofs.Common.{false, ap, ◌∙◌}
use Rattle.fix_request.specs.Requests.{refusal_of}
use Rattle.fix_session.proofs.Names.{refused_name}
use Rattle.fix_session.proofs.needs.name_of.Goals as goal

pub returns-in-None : goal.returns-in-None
returns-in-None c =
    refused_name c.args.sender.now c.args.tag c.args.text.now c.refuse_content.result c.in-None.ensures (c.refuse_content.ensures ∙ ap (refusal_of false c.args.sender.now) c.ill_formed.ensures)
