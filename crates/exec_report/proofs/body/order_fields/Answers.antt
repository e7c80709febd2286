use Rattle.std.proofs.Common.{◌≡◌, ℕ, ◌++◌, codes, decimal, refl, sym, ap, ◌∙◌}
use Rattle.gx_base.specs.Frames.{field}
use Rattle.gx_base.specs.Line.{kind_text, life_text, side_text, instrument_name, decimals_of, price_fields}
use Rattle.line_parts.specs.Rows.{ended}
use Rattle.exec_report.specs.Inner.{term_fields}
use Rattle.exec_report.proofs.Rows.{fronted, terms_in_a_row}
use Rattle.exec_report.proofs.body.order_fields.Goals as goal

pub returns-then-order-instrument_count-clause-fields : goal.returns-then-order-instrument_count-clause-fields
returns-then-order-instrument_count-clause-fields c =
    let names = c.args.names.now in
    let order = c.args.order.now in
    let front = field "55" (instrument_name names order.instrument) ++ field "54" (side_text order.side) in
    let count = decimal c.from.result in
    let decimals = decimals_of names order.instrument in
    let listed : decimals_of names order.instrument ≡ c.listed.result.now.decimals = rw c.listed.ensures.listed refl in
    let sized =
    fronted c.args.into.now c.append_instrument_front-at.new.into c.number_value-at.new.into front (codes "38=") count c.args.at c.append_instrument_front-at.result _
    c.append_instrument_front-at.ensures.bytes c.number_value-at.ensures.value in
    rw (sym c.from.ensures)
    (terms_in_a_row (ended c.args.at c.args.into.now) front (field "38" count) (field "40" (kind_text order.kind)) (price_fields order.kind order.price order.trigger decimals) (field "59" (life_text order.life)) _ _
    sized (c.term_fields.ensures.fields ∙ ap (λ (k : ℕ). ended c.number_value-at.result c.number_value-at.new.into ++ term_fields order k) (sym listed)))
