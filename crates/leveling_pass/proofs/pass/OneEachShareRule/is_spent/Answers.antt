use Rattle.std.proofs.lemmas.Bool.{eqb-true}
use Rattle.leveling_pass.proofs.Ones.{ones-none}
use Rattle.leveling_pass.proofs.pass.OneEachShareRule.is_spent.Goals as goal

pub returns : goal.returns
returns c = λ spent orders. let left = c.args.self.now.left in ones-none left orders (eqb-true left 0 spent)
