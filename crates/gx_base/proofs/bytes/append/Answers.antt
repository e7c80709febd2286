use Rattle.std.proofs.Common.{◌+◌, ◌-◌, length, ap, arith}
use Rattle.std.proofs.lemmas.Slice.{drop-put_mid}
use Rattle.gx_base.proofs.bytes.append.Goals as goal

pub returns-clause-behind : goal.returns-clause-behind
returns-clause-behind c =
    let end = c.args.at + length c.args.bytes.now in
    drop-put_mid c.args.at (end - c.args.at) c.args.into.now c.copy_from_slice.new.self end (omega arith) (omega arith) (omega (arith, ap length c.copy_from_slice.ensures.after))
