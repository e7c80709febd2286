use Rattle.std.proofs.Common.{ap, ◌∙◌, arith}
use Rattle.std.specs.List.{list_all}
use Rattle.gx_base.specs.Texts.{is_name_byte}
use Rattle.gx_base.proofs.Ends.{tried_as_one}
use Rattle.gx_base.proofs.text.are_printable.Goals as goal

pub returns-in-4-to-7 : goal.returns-in-4-to-7
returns-in-4-to-7 c =
    c.are_eight_printable.ensures ∙ ap (list_all is_name_byte) c.ends_of_four.ensures ∙ tried_as_one is_name_byte 4 c.args.bytes.now (omega arith) (omega arith)

pub returns-in-8-to-16 : goal.returns-in-8-to-16
returns-in-8-to-16 c =
    c.are_sixteen_printable.ensures ∙ ap (list_all is_name_byte) c.ends_of_eight.ensures ∙ tried_as_one is_name_byte 8 c.args.bytes.now (omega arith) (omega arith)
