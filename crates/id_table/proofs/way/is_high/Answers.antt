use Rattle.std.proofs.Common.{ℕ, ◌/◌, ◌%◌, ◌^◌, ◌==◌, ap}
use Rattle.id_table.specs.Inner.Ways.{is_high}
use Rattle.id_table.proofs.way.is_high.Goals as goal

pub returns : goal.returns
unfolding is_high
returns c =
    ap (λ (byte : ℕ). byte / 2 ^ (c.args.depth % 8) % 2 == 1)
    c.byte_from_end-byte.ensures
