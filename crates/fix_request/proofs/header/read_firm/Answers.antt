use Rattle.std.proofs.Common.{◌≡◌, ℕ, List, Option, Some, None, Err, bytes_eq, sym, ap, ◌∙◌}
use Rattle.std.specs.Prelude.{position}
use Rattle.std.specs.Option.{ok_or}
use Rattle.std.proofs.lemmas.Bool.{cond-false}
use Rattle.gx_base.specs.NameLists.{NameLists}
use Rattle.fix_request.specs.Faults.{fault}
use Rattle.fix_request.specs.Inner.Values.{Values}
use Rattle.fix_request.specs.Inner.Rules.{◌>>=◌}
use Rattle.fix_request.specs.Inner.Requests.{firm_of}
use Rattle.fix_request.specs.Inner.Views.{if_not_empty, values_view}
use Rattle.fix_request.proofs.header.read_firm.Goals as goal

-- the firm of a sender that is there
firm_by : (names : NameLists) (values : Values) (text : List ℕ) → values.sender ≡ Some text → ok_or (position (λ firm. bytes_eq firm text) names.firms) (fault 4 9 49) ≡ firm_of names values
unfolding firm_of
firm_by names values text e =
    ap (λ (o : Option (List ℕ)). ok_or o (fault 4 1 49) >>= (λ t. ok_or (position (λ firm. bytes_eq firm t) names.firms) (fault 4 9 49))) (sym e)

pub returns-in-None : goal.returns-in-None
returns-in-None c =
    let text = c.sender-sender.result.now in
    let there = ap if_not_empty (sym c.sender-sender.ensures) ∙ cond-false _ None (Some text) (sym c.is_empty.ensures ∙ c.if-is_empty.false) in
    ap Err c.comp_id.ensures
    ∙ ap (λ (o : Option ℕ). ok_or o (fault 4 9 49)) c.in-None.ensures
    ∙ firm_by c.args.names.now (values_view c.args.values.now) text there
