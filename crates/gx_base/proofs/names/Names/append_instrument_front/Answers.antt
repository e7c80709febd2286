use Rattle.std.proofs.Common.{ℕ, List, map, ◌++◌, take, ◌∙◌, ap}
use Rattle.gx_base.specs.Fronts.{side_fronts}
use Rattle.gx_base.specs.NameLists.{NameLists}
use Rattle.gx_base.proofs.NameFronts.{side_front_of}
use Rattle.gx_base.proofs.names.Names.append_instrument_front.Goals as goal

pub returns-clause-bytes : goal.returns-clause-bytes
returns-clause-bytes c =
    let names = c.args.self.now in
    let fronts = c.deref.ensures.0 ∙ c.self.invariant.1.instruments ∙ ap (λ (names : NameLists). map side_fronts names.instruments) c.self.view_is in
    let front = side_front_of names c.deref.result.now c.args.number c.args.side c.index-deref-number.result c.of_side.result.now fronts c.requires.listed c.index-deref-number.is c.of_side.ensures in
    c.append_to.ensures.bytes
    ∙ ap (λ (text : List ℕ). take c.args.at c.args.into.now ++ text) front
