use Rattle.fix_session.proofs.Parts.{again_parts, six_in_a_row}
use Rattle.fix_session.proofs.again.write_again_body.Goals as goal

pub returns-clause-body : goal.returns-clause-body
returns-clause-body c =
    again_parts c.args.body.now c.args.new_time.now c.split_at_byte.result.0.now c.split_at_byte-2.result.0.now c.split_at_byte-3.result.0.now c.split_at_byte-4.result.1.now c.split_at_byte.result.1.now c.split_at_byte-2.result.1.now c.split_at_byte-3.result.1.now _
    c.split_at_byte.ensures.before c.split_at_byte.ensures.behind c.split_at_byte-2.ensures.before c.split_at_byte-2.ensures.behind c.split_at_byte-3.ensures.before c.split_at_byte-3.ensures.behind c.split_at_byte-4.ensures.behind
    (six_in_a_row _ _ _ _ _ _ _ _ _ _ _ _ c.end_field-at.ensures.field c.end_field-at-2.ensures.field c.word-at.ensures.field c.end_field-at-3.ensures.field c.time-at.ensures.field c.append.ensures.bytes)
