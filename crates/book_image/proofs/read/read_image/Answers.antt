use Rattle.std.proofs.Common.{◌≡◌, ℕ, length, Option, Some, None, option_map, sym, ap, subst, ◌∙◌}
use Rattle.gx_base.specs.FirstFault.{unless_fault}
use Rattle.order_kinds.specs.Cores.{FitsProduct}
use Rattle.order_kinds.proofs.EmptyStates.{fits-empty}
use Rattle.book_image.specs.declared.read.ImageBad.{ImageBad}
use Rattle.book_image.proofs.ReadFaults.{state-is, fault-of-parts, fault-of-session, fault-of-tops}
use Rattle.book_image.proofs.read.read_image.Goals as goal

-- what is answered, by what is found
answered : (found fault : Option ℕ) → fault ≡ found
    → unless_fault {A = Unit {0}} (option_map (λ at. let bad : ImageBad = record { 0 = at } in bad) found) tt
    ≡ unless_fault {A = Unit {0}} (option_map (λ at. let bad : ImageBad = record { 0 = at } in bad) fault) tt
answered found fault is = ap (λ (o : Option ℕ). unless_fault {A = Unit {0}} (option_map (λ at. let bad : ImageBad = record { 0 = at } in bad) o) tt) (sym is)

pub returns-in-Some-clause-reads : goal.returns-in-Some-clause-reads
returns-in-Some-clause-reads g c =
    answered (Some c.in-Some.at) _
    (fault-of-parts c.args.kind c.args.payload.now c.part_of-part.result.now c.session_of-session.result c.trading_of-trading.result
    c.part_of-part.ensures c.session_of-session.ensures c.trading_of-trading.ensures c.args.product.now c.parts_fault.result c.parts_fault.ensures.fault c.in-Some.at c.in-Some.is)

pub returns-in-Some-clause-fits : goal.returns-in-Some-clause-fits
returns-in-Some-clause-fits g c = subst (FitsProduct c.args.product.now) (sym (c.parts_fault.ensures.new ∙ c.requires.new)) (fits-empty c.args.product.now)

pub returns-then-session-gt-OPEN-clause-reads : goal.returns-then-session-gt-OPEN-clause-reads
returns-then-session-gt-OPEN-clause-reads g c =
    answered (Some (length c.part_of-part.result.now)) _
    (fault-of-session c.args.kind c.args.payload.now c.part_of-part.result.now c.session_of-session.result c.trading_of-trading.result
    c.part_of-part.ensures c.session_of-session.ensures c.trading_of-trading.ensures c.args.product.now c.parts_fault.result c.parts_fault.ensures.fault
    c.in_default.is c.if-session-gt-OPEN.true)

pub returns-then-session-gt-OPEN-clause-fits : goal.returns-then-session-gt-OPEN-clause-fits
returns-then-session-gt-OPEN-clause-fits g c = subst (FitsProduct c.args.product.now) (sym (c.parts_fault.ensures.new ∙ c.requires.new)) (fits-empty c.args.product.now)

pub tops_fault-requires : goal.tops_fault-requires
tops_fault-requires g c = c.parts_fault.ensures.whole c.in_default.is

pub returns-in-Some-tops_fault-clause-reads : goal.returns-in-Some-tops_fault-clause-reads
returns-in-Some-tops_fault-clause-reads g c =
    answered (Some c.in-Some-tops_fault.at) _
    (fault-of-tops c.args.kind c.args.payload.now c.part_of-part.result.now c.session_of-session.result c.trading_of-trading.result
    c.part_of-part.ensures c.session_of-session.ensures c.trading_of-trading.ensures c.args.product.now c.parts_fault.result c.parts_fault.ensures.fault
    c.tops_fault.result (Some c.in-Some-tops_fault.at) c.tops_fault.ensures c.in_default.is c.if-session-gt-OPEN.false c.in-Some-tops_fault.is)

pub returns-in-Some-tops_fault-clause-fits : goal.returns-in-Some-tops_fault-clause-fits
returns-in-Some-tops_fault-clause-fits g c = subst (FitsProduct c.args.product.now) (sym (c.parts_fault.ensures.new ∙ c.requires.new)) (fits-empty c.args.product.now)

pub load_image-requires-clause-new : goal.load_image-requires-clause-new
load_image-requires-clause-new g c = c.parts_fault.ensures.new ∙ c.requires.new

pub load_image-requires-clause-right : goal.load_image-requires-clause-right
load_image-requires-clause-right g c = sym c.parts_fault.ensures.fault ∙ c.in_default.is

pub load_image-requires-clause-tops : goal.load_image-requires-clause-tops
load_image-requires-clause-tops g c = sym c.tops_fault.ensures ∙ c.in_default-tops_fault.is

pub returns-clause-reads : goal.returns-clause-reads
returns-clause-reads g c =
    answered None _
    (fault-of-tops c.args.kind c.args.payload.now c.part_of-part.result.now c.session_of-session.result c.trading_of-trading.result
    c.part_of-part.ensures c.session_of-session.ensures c.trading_of-trading.ensures c.args.product.now c.parts_fault.result c.parts_fault.ensures.fault
    c.tops_fault.result None c.tops_fault.ensures c.in_default.is c.if-session-gt-OPEN.false c.in_default-tops_fault.is)

pub returns-clause-state : goal.returns-clause-state
returns-clause-state g c =
    c.load_image.ensures.state
    ∙ state-is c.args.kind c.args.payload.now c.part_of-part.result.now c.session_of-session.result c.trading_of-trading.result
    c.part_of-part.ensures c.session_of-session.ensures c.trading_of-trading.ensures c.args.product.now
