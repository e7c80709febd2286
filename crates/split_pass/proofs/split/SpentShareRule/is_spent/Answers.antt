use Rattle.std.proofs.lemmas.Bool.{eqb-true}
use Rattle.split_pass.proofs.Spends.{spent-none}
use Rattle.split_pass.proofs.split.SpentShareRule.is_spent.Goals as goal

pub returns : goal.returns
returns c = λ spent orders. let left = c.args.self.now.left in spent-none left orders (eqb-true left 0 spent)
