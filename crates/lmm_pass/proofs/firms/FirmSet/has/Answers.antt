use Rattle.std.proofs.Common.{◌≤◌, ◌<◌, sym, arith}
use Rattle.lmm_pass.specs.FirmSets.{has_firm}
use Rattle.lmm_pass.proofs.FirmSets.{high-none, shifted-in}
use Rattle.lmm_pass.proofs.firms.FirmSet.has.Goals as goal

pub returns-then-from-ge-MOST_FIRMS : goal.returns-then-from-ge-MOST_FIRMS
unfolding has_firm
returns-then-from-ge-MOST_FIRMS c =
    let high : 64 ≤ c.args.firm = omega (arith, c.from.ensures, c.if-from-ge-MOST_FIRMS.true) in sym (high-none c.args.self.bits c.args.firm high)

pub returns : goal.returns
unfolding has_firm
returns c = let low : c.args.firm < 64 = omega (arith, c.from.ensures, c.if-from-ge-MOST_FIRMS.false) in shifted-in c.args.self.bits c.args.firm low
