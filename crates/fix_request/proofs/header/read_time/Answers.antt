use Rattle.std.proofs.Common.{◌≡◌, Option, List, ℕ, ap, ◌∙◌}
use Rattle.std.specs.Option.{ok_or}
use Rattle.gx_base.specs.Texts.{is_time_text}
use Rattle.fix_request.specs.Inner.Rules.{where_passes}
use Rattle.fix_request.specs.Inner.Requests.{time_of, fault_of_time}
use Rattle.fix_request.specs.Inner.Views.{text_in}
use Rattle.fix_request.proofs.Times.{timed, given_if}
use Rattle.fix_request.proofs.header.read_time.Goals as goal

pub returns : goal.returns
unfolding time_of
returns c =
    let text = text_in c.args.values.now 5 in
    let given : c.new.result ≡ where_passes is_time_text c.time.result.now = given_if c.new.result is_time_text c.time.result.now c.new.ensures in
    ap (λ (o : Option (List ℕ)). ok_or o (fault_of_time text)) (given ∙ ap (where_passes is_time_text) c.time.ensures) ∙ timed text
