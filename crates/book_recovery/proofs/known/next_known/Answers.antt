use Rattle.std.proofs.Common.{Err, ◌∙◌, sym, ap, subst}
use Rattle.match_journal.specs.Walking.{InOrder}
use Rattle.match_journal.specs.declared.faults.WalkFault.{WalkFault}
use Rattle.book_recovery.proofs.known.next_known.Goals as goal

-- a journal has no bad head
pub returns-then-is_shared-clause-in_order : goal.returns-then-is_shared-clause-in_order
returns-then-is_shared-clause-in_order g c = λ head image before after read known journal place.
    absurd (subst (λ (e : WalkFault). InOrder head image before after c.next_met.new.journal.gate (Err e)) c.in-Err-Bad.field-0-is (c.in-Err-Bad.ensures.in_order head image before after read known journal place))

pub returns-else-is_shared-clause-in_order : goal.returns-else-is_shared-clause-in_order
returns-else-is_shared-clause-in_order g c = λ head image before after read known journal place.
    absurd (subst (λ (e : WalkFault). InOrder head image before after c.next_met.new.journal.gate (Err e)) c.in-Err-Bad.field-0-is (c.in-Err-Bad.ensures.in_order head image before after read known journal place))
