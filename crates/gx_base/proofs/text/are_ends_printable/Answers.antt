use Rattle.std.proofs.Common.{sym, ◌∙◌}
use Rattle.gx_base.specs.Texts.{is_name_byte}
use Rattle.gx_base.proofs.Ends.{tried_last}
use Rattle.gx_base.proofs.text.are_ends_printable.Goals as goal

pub returns-then-are_sixteen_printable : goal.returns-then-are_sixteen_printable
returns-then-are_sixteen_printable c =
    c.are_sixteen_printable-then-are_sixteen_printable.ensures
    ∙ tried_last is_name_byte 16 c.args.bytes.now c.requires.wide c.requires.narrow (sym c.are_sixteen_printable.ensures ∙ c.if-are_sixteen_printable.true)
