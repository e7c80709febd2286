use Rattle.std.proofs.Common.{◌≡◌, ◌≤◌, ℕ, ◌++◌, ◌∷◌, List, length, Option, Ok, refl, sym, subst, ap, ◌∙◌, arith}
use Rattle.match_journal.specs.Journal.{IsJournal, Record, journal_front}
use Rattle.match_journal.specs.Walking.{InOrder, IsHead}
use Rattle.match_journal.specs.declared.entry.Entry.{Entry}
use Rattle.match_journal.specs.declared.limits.TheConstants.{MOST_TEXT}
use Rattle.match_journal.specs.declared.standing.Standing.{Standing}
use Rattle.book_recovery.proofs.Added.{opened_amendment, stopped}
use Rattle.book_recovery.proofs.Counting.{gate_found, head_found}
use Rattle.book_recovery.proofs.Replaying.{next_found, none_found}
use Rattle.book_recovery.proofs.Standings.{stands_moved, some_moved}
use Rattle.book_recovery.proofs.known.next_met.Goals as goal

pub returns-then-is_added-clause-moves : goal.returns-then-is_added-clause-moves
returns-then-is_added-clause-moves g c =
    let step = some_moved c.args.journal.now c.next_entry.new.self c.in-Ok-Some.field-0 c.in-Ok-Some.entry c.in-Ok-Some.field-0-is c.in-Ok-Some.ensures.moves in
    stopped c.args.journal.now c.next_entry.new.self c.stop_at.new.self c.end-gate.result _ _ step c.stop_at.ensures c.end-gate.ensures.value

-- an amendment of an image that the journal was opened in is not after the last one
pub returns-then-is_added-clause-walks : goal.returns-then-is_added-clause-walks
returns-then-is_added-clause-walks g c = λ head image before read known first begins place.
    let s = c.args.journal.now in
    let entry = c.in-Ok-Some.entry in
    let step = some_moved s c.next_entry.new.self c.in-Ok-Some.field-0 entry c.in-Ok-Some.field-0-is c.in-Ok-Some.ensures.moves in
    let limit : c.next_entry.new.self.limit ≡ s.limit = ap (λ (x : Standing). x.limit) step in
    let at_head = subst (λ (k : ℕ). IsHead image s.limit k entry) place (head_found image s.limit s.gate c.in-Ok-Some.field-0 entry c.in-Ok-Some.field-0-is (c.in-Ok-Some.ensures.walks image read known)) in
    let short : length head.text ≤ MOST_TEXT = omega (arith, c.next_entry.ensures.stands.short, ap (λ (x : Standing). x.first) step, first) in
    let one = opened_amendment s head image before entry s.version refl known short begins at_head (c.is_added.ensures.amendment c.if-is_added.true) in
    let none = c.is_added.ensures.known image head before one.after one.found (stands_moved s c.next_entry.new.self _ _ image step known)
    (subst (λ (k : ℕ). IsJournal head k (before ++ one.found ∷ one.after) image) (sym limit) one.journal) one.kind at_head.at_is in
    absurd (cc (sym c.if-is_added.true ∙ none))

pub returns-then-is_added-clause-in_order : goal.returns-then-is_added-clause-in_order
returns-then-is_added-clause-in_order g c = λ head image before after read known journal place.
    let s = c.args.journal.now in
    let entry = c.in-Ok-Some.entry in
    let step = some_moved s c.next_entry.new.self c.in-Ok-Some.field-0 entry c.in-Ok-Some.field-0-is c.in-Ok-Some.ensures.moves in
    let limit : c.next_entry.new.self.limit ≡ s.limit = ap (λ (x : Standing). x.limit) step in
    let one = next_found head image before after _ c.in-Ok-Some.field-0 entry c.in-Ok-Some.field-0-is (c.in-Ok-Some.ensures.in_order head image before after read known journal place) in
    let whole = subst (λ (l : List Record). IsJournal head s.limit (before ++ l) image) one.is journal in
    let none = c.is_added.ensures.known image head before one.more one.found (stands_moved s c.next_entry.new.self _ _ image step known)
    (subst (λ (k : ℕ). IsJournal head k (before ++ one.found ∷ one.more) image) (sym limit) whole) (sym one.kind) one.at_is in
    absurd (cc (sym c.if-is_added.true ∙ none))

-- ---- what is met otherwise

pub returns-else-is_added-clause-walks : goal.returns-else-is_added-clause-walks
returns-else-is_added-clause-walks g c = λ head image before read known first begins place.
    head_found image c.args.journal.now.limit c.args.journal.now.gate c.in-Ok-Some.field-0 c.in-Ok-Some.entry c.in-Ok-Some.field-0-is (c.in-Ok-Some.ensures.walks image read known)

pub returns-else-is_added-clause-in_order : goal.returns-else-is_added-clause-in_order
returns-else-is_added-clause-in_order g c = λ head image before after read known journal place.
    subst (λ (o : Option Entry). InOrder head image before after c.next_entry.new.self.gate (Ok o)) c.in-Ok-Some.field-0-is (c.in-Ok-Some.ensures.in_order head image before after read known journal place)

pub returns-in-Ok-None-clause-walks : goal.returns-in-Ok-None-clause-walks
returns-in-Ok-None-clause-walks g c = λ head image before read known first begins place.
    gate_found image c.args.journal.now.limit c.args.journal.now.gate c.in-Ok-None.field-0 c.in-Ok-None.field-0-is (c.in-Ok-None.ensures.walks image read known)

pub returns-in-Ok-None-clause-in_order : goal.returns-in-Ok-None-clause-in_order
returns-in-Ok-None-clause-in_order g c = λ head image before after read known journal place.
    none_found head image before after _ c.in-Ok-None.field-0 c.in-Ok-None.field-0-is (c.in-Ok-None.ensures.in_order head image before after read known journal place)
