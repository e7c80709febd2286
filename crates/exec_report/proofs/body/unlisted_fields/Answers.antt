use Rattle.std.proofs.Common.{[], ◌∷◌, ◌++◌, codes, decimal, sym}
use Rattle.gx_base.specs.Frames.{field}
use Rattle.gx_base.specs.Line.{kind_text, life_text, price_fields}
use Rattle.line_parts.specs.Rows.{ended}
use Rattle.exec_report.proofs.Rows.{two_in_a_row, terms_in_a_row}
use Rattle.exec_report.proofs.body.unlisted_fields.Goals as goal

pub returns-clause-fields : goal.returns-clause-fields
returns-clause-fields c =
    let order = c.args.order.now in
    let old = ended c.args.at c.args.into.now in
    let front = field "55" (codes "UNKNOWN") ++ field "54" (c.side_digit.result ∷ []) in
    let quantity = field "38" (decimal c.from.result) in
    rw (sym c.side_digit.ensures, sym c.from.ensures)
    (terms_in_a_row old front quantity (field "40" (kind_text order.kind)) (price_fields order.kind order.price order.trigger 0) (field "59" (life_text order.life)) _ _
    (two_in_a_row old front quantity _ _ c.letter-at.ensures.field c.number-at.ensures.field) c.term_fields.ensures.fields)
