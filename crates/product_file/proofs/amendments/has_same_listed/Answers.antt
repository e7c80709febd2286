use Rattle.std.proofs.Common.{◌≡◌, true, false, not, sym, ◌∙◌}
use Rattle.product_file.specs.Amendments.{is_same_listed}
use Rattle.product_file.proofs.SameLists.{both_one_more, refused_here, passed_here}
use Rattle.product_file.proofs.amendments.has_same_listed.Goals as goal

pub returns-then-not-is_same_listed : goal.returns-then-not-is_same_listed
returns-then-not-is_same_listed c =
    let before = c.listed.result.now in
    let after = c.listed-in-loop-number.result.now in
    let differ : not (is_same_listed before after) ≡ true = cc in
    sym (c.loop-number.invariant ∙ both_one_more is_same_listed c.args.before.now.instruments c.args.after.now.instruments c.loop-number.number before after c.listed.ensures.listed c.listed-in-loop-number.ensures.listed
    ∙ refused_here (is_same_listed before after) _ differ)

pub loop-number-preserved : goal.loop-number-preserved
loop-number-preserved c =
    let before = c.listed.result.now in
    let after = c.listed-in-loop-number.result.now in
    let same : not (is_same_listed before after) ≡ false = cc in
    c.loop-number.invariant ∙ both_one_more is_same_listed c.args.before.now.instruments c.args.after.now.instruments c.loop-number.number before after c.listed.ensures.listed c.listed-in-loop-number.ensures.listed
    ∙ passed_here (is_same_listed before after) _ same
