use Rattle.std.proofs.Common.{◌-◌, ◌==◌, length, refl, ◌∙◌}
use Rattle.std.proofs.lemmas.List.{drop-replicate}
use Rattle.gx_base.specs.Frames.{soh}
use Rattle.gx_base.proofs.Marks.{padded}
use Rattle.gx_base.proofs.bytes.short_marks.Goals as goal

pub returns : goal.returns
returns c =
    c.marks_of.ensures ∙ rw (c.copy_from_slice.ensures.after, drop-replicate) (padded (λ c. c == soh) c.args.bytes.now (64 - length c.args.bytes.now) refl)
