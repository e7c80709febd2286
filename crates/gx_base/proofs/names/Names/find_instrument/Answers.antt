use Rattle.std.proofs.Common.{bytes_eq, rules}
use Rattle.gx_base.proofs.Places.{position-map}
use Rattle.gx_base.specs.declared.names.Listed.{Listed}
use Rattle.gx_base.proofs.names.Names.find_instrument.Goals as goal

pub returns-in_err-n : goal.returns-in_err-n
returns-in_err-n c =
    let e = position-map (λ name. bytes_eq name c.args.name.now) (λ (l : Listed). l.name) c.args.self.now.instruments in
    rw e (search rules)

pub returns : goal.returns
returns c =
    let e = position-map (λ name. bytes_eq name c.args.name.now) (λ (l : Listed). l.name) c.args.self.now.instruments in
    rw e (search rules)
