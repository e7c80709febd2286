use Rattle.gx_base.proofs.Ends.{copied}
use Rattle.gx_base.proofs.text.copy_ends.Goals as goal

pub returns : goal.returns
returns c =
    rw (c.copy_from_slice.ensures.after, c.copy_from_slice-2.ensures.after) (copied c.args.width c.args.bytes.now c.args.room.now c.requires.wide c.requires.narrow)
