use Rattle.std.proofs.Common.{◌++◌, ℕ, List, take, ◌∙◌, ap, arith}
use Rattle.gx_base.proofs.Written.{front_of}
use Rattle.gx_base.proofs.text.Text.append_to.Goals as goal

pub returns-clause-bytes : goal.returns-clause-bytes
returns-clause-bytes g c =
    front_of c.args.at c.self.inside.len c.append_few.result c.args.into.now c.append_few.new.into c.self.inside.bytes (omega arith) (omega (arith, c.append_few.ensures.end)) c.append_few.ensures.bytes
    ∙ ap (λ (xs : List ℕ). take c.args.at c.args.into.now ++ xs) c.self.view_is
