use Rattle.std.proofs.Common.{arith}
use Rattle.globex_run.proofs.AmendFollowed.{payload-has-text}
use Rattle.globex_run.proofs.amend.add_record.Goals as goal

-- the longest amendment is far shorter than the head of a record can say
pub append-requires-clause-few : goal.append-requires-clause-few
append-requires-clause-few g c = omega (arith, c.write_amendment-payload.ensures.few, c.requires.right.few_instruments, c.requires.right.few_orders)

pub append-requires-clause-text : goal.append-requires-clause-text
append-requires-clause-text g c = λ is. payload-has-text c.write_amendment-payload.result.now c.args.taken.now.text.now _ c.args.taken.now.short c.write_amendment-payload.ensures.payload
