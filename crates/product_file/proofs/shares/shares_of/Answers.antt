use Rattle.std.proofs.Common.{◌+◌, List, map, drop, ap, sym, ◌∙◌, arith, rules}
use Rattle.toml.specs.View.{view}
use Rattle.gx_base.specs.declared.order.LmmShare.{LmmShare}
use Rattle.product_file.specs.Inner.Shares.{shares_after}
use Rattle.product_file.proofs.SharesAfter.{next_share, no_share}
use Rattle.product_file.proofs.shares.shares_of.Goals as goal

pub returns-in_err-share : goal.returns-in_err-share
returns-in_err-share c =
    let fails = rw c.deref.ensures.0 at c.in_err-share.ensures in
    rw (no_share c.args.firms.now c.in_ok-entries.entries.now c.loop-entry.shares.items c.loop-entry.entry-index c.entry-item.result c.loop-entry-test.true c.entry-item.is c.loop-entry.invariant.rest (view c.args.table.now) c.in_err-share.field-0.0 c.in_ok-entries.ensures (omega arith) fails) (search rules)

pub loop-entry-preserved : goal.loop-entry-preserved
loop-entry-preserved c =
    let gives = rw c.deref.ensures.0 at c.in_ok-share.ensures in
    let next = next_share c.args.firms.now c.in_ok-entries.entries.now c.loop-entry.shares.items c.loop-entry.entry-index c.entry-item.result c.loop-entry-test.true c.entry-item.is c.loop-entry.invariant.rest c.in_ok-share.share gives in
    record {
      rest = next ∙ ap (λ (shares : List LmmShare). shares_after c.args.firms.now shares (drop (c.loop-entry.entry-index + 1) (map view c.in_ok-entries.entries.now))) (sym c.push.ensures.items);
      count = omega (arith, c.push.ensures.len);
    }
