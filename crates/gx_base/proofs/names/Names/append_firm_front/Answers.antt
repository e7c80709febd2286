use Rattle.std.proofs.Common.{ℕ, List, map, ◌++◌, take, ◌∙◌, ap}
use Rattle.gx_base.specs.Fronts.{firm_front}
use Rattle.gx_base.specs.NameLists.{NameLists}
use Rattle.gx_base.proofs.NameFronts.{firm_front_of}
use Rattle.gx_base.proofs.names.Names.append_firm_front.Goals as goal

pub returns-clause-bytes : goal.returns-clause-bytes
returns-clause-bytes c =
    let names = c.args.self.now in
    let fronts = c.deref.ensures.0 ∙ c.self.invariant.1.firms ∙ ap (λ (names : NameLists). map firm_front names.firms) c.self.view_is in
    c.append_to.ensures.bytes
    ∙ ap (λ (front : List ℕ). take c.args.at c.args.into.now ++ front) (firm_front_of names c.deref.result.now c.args.number c.index-deref-number.result fronts c.requires.listed c.index-deref-number.is)
