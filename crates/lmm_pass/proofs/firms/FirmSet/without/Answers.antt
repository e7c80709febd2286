use Rattle.std.proofs.Common.{◌≤◌, ◌<◌, arith}
use Rattle.lmm_pass.specs.FirmSets.{has_firm}
use Rattle.lmm_pass.proofs.FirmSets.{high-out, cleared-in}
use Rattle.lmm_pass.proofs.firms.FirmSet.without.Goals as goal

pub returns-then-from-ge-MOST_FIRMS : goal.returns-then-from-ge-MOST_FIRMS
unfolding has_firm
returns-then-from-ge-MOST_FIRMS c f =
    let high : 64 ≤ c.args.firm = omega (arith, c.from.ensures, c.if-from-ge-MOST_FIRMS.true) in high-out c.args.self.bits c.args.firm f high

pub returns : goal.returns
unfolding has_firm
returns c f = let low : c.args.firm < 64 = omega (arith, c.from.ensures, c.if-from-ge-MOST_FIRMS.false) in cleared-in c.args.self.bits c.args.firm f low
