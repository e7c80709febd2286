use Rattle.std.proofs.Common.{◌≡◌, [], refl, Option, Ok, sym, subst, ◌∙◌, arith}
use Rattle.gx_station.specs.AnswerLaws.{on_ok}
use Rattle.match_journal.specs.Walking.{InOrder}
use Rattle.match_journal.specs.declared.entry.Entry.{Entry}
use Rattle.book_recovery.proofs.Added.{stopped}
use Rattle.book_recovery.proofs.Ahead.{goes_none, head_bytes, next_inside, none_inside, none_more}
use Rattle.book_recovery.proofs.next_ahead.next_ahead.Goals as goal

-- a record that ends after the last gate
pub returns-then-end-last-clause-in_order : goal.returns-then-end-last-clause-in_order
returns-then-end-last-clause-in_order g c = λ head image before after read known journal place last.
    let fine = sym c.is_err.ensures.value ∙ c.if-is_err.false in
    let at = c.end-gate.ensures.value in
    let bytes = on_ok c.take.result fine c.take.ensures.bytes image read in
    let is = head_bytes c.take.new.into _ _ image c.head_len-count.result c.end-gate.result c.args.journal.now.gate c.take.ensures.size (omega (arith, c.head_len-count.ensures.value)) at bytes in
    let told = c.in-Ok-Some.ensures.in_order head image before after known is journal place in
    let next = subst (λ (o : Option Entry). InOrder head image before after c.pass_head.new.self.gate (Ok o)) c.in-Ok-Some.field-0-is told in
    absurd (omega (arith, next_inside head image before after c.pass_head.new.self.gate c.args.last.gate c.in-Ok-Some.entry next last, c.if-end-last.true, c.end.ensures.value))

-- a closed gate before it
pub returns-then-gate-last-2-clause-in_order : goal.returns-then-gate-last-2-clause-in_order
returns-then-gate-last-2-clause-in_order g c = λ head image before after read known journal place last.
    let fine = sym c.is_err.ensures.value ∙ c.if-is_err.false in
    let at = c.end-gate.ensures.value in
    let bytes = on_ok c.take.result fine c.take.ensures.bytes image read in
    let is = head_bytes c.take.new.into _ _ image c.head_len-count.result c.end-gate.result c.args.journal.now.gate c.take.ensures.size (omega (arith, c.head_len-count.ensures.value)) at bytes in
    let told = c.in-Ok-None.ensures.in_order head image before after known is journal place in
    let none : after ≡ [] = subst (λ (o : Option Entry). InOrder head image before after c.pass_head.new.self.gate (Ok o)) c.in-Ok-None.field-0-is told in
    absurd (c.if-gate-last-2.true (at ∙ place ∙ sym (none_inside head before after c.args.last.gate none last)))

pub returns-else-end-last-clause-in_order : goal.returns-else-end-last-clause-in_order
returns-else-end-last-clause-in_order g c = λ head image before after read known journal place last.
    let fine = sym c.is_err.ensures.value ∙ c.if-is_err.false in
    let at = c.end-gate.ensures.value in
    let bytes = on_ok c.take.result fine c.take.ensures.bytes image read in
    let is = head_bytes c.take.new.into _ _ image c.head_len-count.result c.end-gate.result c.args.journal.now.gate c.take.ensures.size (omega (arith, c.head_len-count.ensures.value)) at bytes in
    let told = c.in-Ok-Some.ensures.in_order head image before after known is journal place in
    subst (λ (o : Option Entry). InOrder head image before after c.pass_head.new.self.gate (Ok o)) c.in-Ok-Some.field-0-is told

pub returns-else-gate-last-2-clause-in_order : goal.returns-else-gate-last-2-clause-in_order
returns-else-gate-last-2-clause-in_order g c = λ head image before after read known journal place last.
    let fine = sym c.is_err.ensures.value ∙ c.if-is_err.false in
    let at = c.end-gate.ensures.value in
    let bytes = on_ok c.take.result fine c.take.ensures.bytes image read in
    let is = head_bytes c.take.new.into _ _ image c.head_len-count.result c.end-gate.result c.args.journal.now.gate c.take.ensures.size (omega (arith, c.head_len-count.ensures.value)) at bytes in
    let told = c.in-Ok-None.ensures.in_order head image before after known is journal place in
    subst (λ (o : Option Entry). InOrder head image before after c.pass_head.new.self.gate (Ok o)) c.in-Ok-None.field-0-is told

pub returns-in-Err-clause-in_order : goal.returns-in-Err-clause-in_order
returns-in-Err-clause-in_order g c = λ head image before after read known journal place last.
    let fine = sym c.is_err.ensures.value ∙ c.if-is_err.false in
    let at = c.end-gate.ensures.value in
    let bytes = on_ok c.take.result fine c.take.ensures.bytes image read in
    let is = head_bytes c.take.new.into _ _ image c.head_len-count.result c.end-gate.result c.args.journal.now.gate c.take.ensures.size (omega (arith, c.head_len-count.ensures.value)) at bytes in
    let told = c.in-Err.ensures.in_order head image before after known is journal place in
    told

-- the walk ends at the last gate

pub returns-then-is_shared-clause-goes : goal.returns-then-is_shared-clause-goes
returns-then-is_shared-clause-goes g c = goes_none g.S.Station.meanings c.args.station.now c.args.ahead.now c.args.last.end c.requires.ahead.ends

pub returns-then-is_shared-clause-moves : goal.returns-then-is_shared-clause-moves
returns-then-is_shared-clause-moves g c = stopped c.args.journal.now c.args.journal.now c.stop_at.new.self c.end-gate.result _ _ refl c.stop_at.ensures c.end-gate.ensures.value

pub returns-then-is_shared-clause-in_order : goal.returns-then-is_shared-clause-in_order
returns-then-is_shared-clause-in_order g c = λ head image before after read known journal place last.
    none_more head before after (sym place ∙ sym c.end-gate.ensures.value ∙ c.if-gate-last.true ∙ last)
