use Rattle.std.proofs.Common.{arith, ◌∙◌}
use Rattle.match_journal.proofs.Staging.{staged_in}
use Rattle.match_journal.proofs.append.stage.Goals as goal

pub returns : goal.returns
returns c = staged_in c.args.buffer.now (record { kind = c.args.kind; payload = c.args.payload.now }) c.byte_of.result c.copy_from_slice.new.self c.copy_from_slice-2.new.self (omega (arith, c.requires)) c.byte_of.ensures (c.copy_from_slice.ensures.after ∙ c.to_be_bytes.ensures) c.copy_from_slice-2.ensures.after
