use Rattle.std.proofs.Common.{◌≡◌, true, false, not, bytes_eq, sym, ◌∙◌, arith}
use Rattle.product_file.proofs.SameLists.{one_more, too_short, begins_at_end, refused_here, passed_here}
use Rattle.product_file.proofs.amendments.begins_with_firms.Goals as goal

pub returns-then-firm_count : goal.returns-then-firm_count
returns-then-firm_count c = sym (too_short bytes_eq c.args.before.now.firms c.args.after.now.firms (omega arith))

pub returns-then-ne : goal.returns-then-ne
returns-then-ne c =
    let before = c.firm.result.now in
    let after = c.firm-in-loop-number.result.now in
    let differ : not (bytes_eq before after) ≡ true = cc in
    sym (c.loop-number.invariant ∙ one_more bytes_eq c.args.before.now.firms c.args.after.now.firms c.loop-number.number before after c.firm.ensures c.firm-in-loop-number.ensures
    ∙ refused_here (bytes_eq before after) _ differ)

pub loop-number-preserved : goal.loop-number-preserved
loop-number-preserved c =
    let before = c.firm.result.now in
    let after = c.firm-in-loop-number.result.now in
    let same : not (bytes_eq before after) ≡ false = cc in
    c.loop-number.invariant ∙ one_more bytes_eq c.args.before.now.firms c.args.after.now.firms c.loop-number.number before after c.firm.ensures c.firm-in-loop-number.ensures
    ∙ passed_here (bytes_eq before after) _ same

pub returns : goal.returns
returns c = sym (c.loop-number.invariant ∙ begins_at_end bytes_eq c.args.before.now.firms c.args.after.now.firms c.loop-number.number (omega arith))
