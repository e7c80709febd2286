use Rattle.std.proofs.lemmas.Bool.{eqb-true}
use Rattle.lmm_pass.proofs.Spends.{spent-none}
use Rattle.lmm_pass.proofs.pass.SpentOnFirmShareRule.is_spent.Goals as goal

pub returns : goal.returns
returns c = λ spent orders. let left = c.args.self.now.left in spent-none c.args.self.now.firm left orders (eqb-true left 0 spent)
