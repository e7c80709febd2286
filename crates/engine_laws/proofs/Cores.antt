-- The law for the state of a core, which names its orders by slots.
use Rattle.std.proofs.Common.{◌≡◌, ℕ, Bool, false, cond, List, [], ◌∷◌, filter, refl, sym, ap, subst, ◌∙◌, inl}
use Rattle.gx_base.specs.declared.order.Order.{Order}
use Rattle.product_file.specs.Products.{ProductLists}
use Rattle.fix_request.specs.declared.request.Request.{Request}
use Rattle.fix_request.specs.declared.request.Request.TheVariants.{New, Cancel, Replace, Session, Passed, Refused}
use Rattle.plain_book.specs.declared.entry.Entry.{Entry}
use Rattle.plain_book.specs.Orders.{Level, HasSlot, is_at, is_named, order_of, slot_of, slot_named}
use Rattle.plain_book.specs.Book.{AllDiffer, live_orders}
use Rattle.plain_book.specs.Numbers.{numbered}
use Rattle.plain_book.proofs.Levels.{same, order_of-filter}
use Rattle.level_sweep.proofs.Numbered.{filter-order}
use Rattle.level_sweep.proofs.Renamed.{live-numbered}
use Rattle.order_kinds.specs.State.{State, state_numbered}
use Rattle.order_kinds.specs.Cores.{AreNumbered}
use Rattle.order_kinds.specs.Step.{with_message, request_step}
use Rattle.engine_laws.specs.LevelsTold.{is_told, is_slot_at, asks_at, IsSameLevel}
use Rattle.engine_laws.proofs.LevelSums.{numbered-same}
use Rattle.engine_laws.proofs.LevelSteps.{levels-stay}

-- ---- the order that a replace asks for

abbrev is_first_at : Level → List Entry → Bool
is_first_at k [] = false
is_first_at k (e ∷ es) = is_at k e

first-numbered : (k : Level) (es : List Entry) → is_first_at k (numbered es) ≡ is_first_at k es
first-numbered k [] = refl
first-numbered k (e ∷ es) = refl

-- the order of the first slot that passes a test is the first order that does
first-at : (k : Level) (p : Entry → Bool) (es xs : List Entry) → AllDiffer es → filter p es ≡ xs → is_slot_at k (slot_of xs) es ≡ is_first_at k xs
first-at k p es [] d is = refl
first-at k p es (x ∷ xs) d is =
    let has : HasSlot x.slot (filter p es) = subst (HasSlot x.slot) (sym is) (inl refl) in
    let head : order_of x.slot (x ∷ xs) ≡ x.order = ap (λ (b : Bool). cond b x.order (order_of x.slot xs)) (same x.slot) in
    let order : order_of x.slot es ≡ x.order = sym (order_of-filter p x.slot es d has) ∙ ap (order_of x.slot) is ∙ head in
    ap (λ (o : Order). is_at k (record { slot = x.slot; order = o; is_top = x.is_top })) order

named-at : (k : Level) (firm : ℕ) (id : List ℕ) (es : List Entry) → AllDiffer es → is_slot_at k (slot_named firm id es) es ≡ is_first_at k (filter (is_named firm id) es)
named-at k firm id es d = first-at k (is_named firm id) es (filter (is_named firm id) es) d refl

named-numbered : (k : Level) (firm : ℕ) (id : List ℕ) (es : List Entry) → AllDiffer es → AllDiffer (numbered es)
    → is_slot_at k (slot_named firm id (numbered es)) (numbered es) ≡ is_slot_at k (slot_named firm id es) es
named-numbered k firm id es slots numbers =
    named-at k firm id (numbered es) numbers
    ∙ ap (is_first_at k) (filter-order (is_named firm id) (λ e. refl) es)
    ∙ first-numbered k (filter (is_named firm id) es)
    ∙ sym (named-at k firm id es slots)

-- a replace asks for an order of the same level, whether slots or numbers name it
pub asks-numbered : (k : Level) (request : Request) (state : State) → AllDiffer (live_orders state.book) → AreNumbered state
    → asks_at k request (with_message (state_numbered state)) ≡ asks_at k request state
asks-numbered k (Replace order) state slots are =
    let firm = order.sender.firm in
    let numbers = live-numbered state.book in
    ap (λ (es : List Entry). is_slot_at k (slot_named firm order.old es) es) numbers
    ∙ named-numbered k firm order.old (live_orders state.book) slots (subst AllDiffer numbers are.differ)
asks-numbered k (New order) state slots are = refl
asks-numbered k (Cancel order) state slots are = refl
asks-numbered k (Session change) state slots are = refl
asks-numbered k (Passed sender) state slots are = refl
asks-numbered k (Refused refusal) state slots are = refl

-- ---- the law

-- a core that took the step of the engine has the level as before
pub levels-stay-in-cores : (product : ProductLists) (request : Request) (old new : State) (k : Level) → AllDiffer (live_orders old.book) → AreNumbered old
    → let step = request_step product request (with_message (state_numbered old)) in state_numbered new ≡ step.0
    → asks_at k request old ≡ false → is_told k step.1 ≡ false → IsSameLevel k old.book.resting new.book.resting
levels-stay-in-cores product request old new k slots are took asks told =
    let kept = levels-stay product request old k are (asks-numbered k request old slots are ∙ asks) told in
    let now = ap (λ (s : State). s.book.resting) took in
    let there : IsSameLevel k old.book.resting (numbered new.book.resting) = subst (IsSameLevel k old.book.resting) (sym now) kept in
    let same = numbered-same k new.book.resting in
    record { shown = sym same.shown ∙ there.shown; orders = sym same.orders ∙ there.orders }
