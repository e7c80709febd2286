use Rattle.gx_base.specs.Numbers.{price_text}
use Rattle.line_parts.proofs.RowLaws.{field_ended}
use Rattle.line_parts.proofs.rows.price.Goals as goal

pub returns-clause-field : goal.returns-clause-field
returns-clause-field c =
    field_ended c.args.into.now c.append_few-end.new.into _ c.args.front.now (price_text c.args.price c.args.decimals) c.args.at c.append_few-end.result _ c.requires.begins c.append_few-end.ensures.bytes c.append_price.ensures.text
