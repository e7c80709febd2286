-- The slot and the number of each order go together, and stay together while orders trade.
use Rattle.std.proofs.Common.{◌≡◌, ◌≢◌, ℕ, false, List, [], ◌∷◌, sym, subst, ◌∙◌, inl, inr, ◌⊎◌}
use Rattle.std.specs.Prelude.{◌==◌}
use Rattle.std.specs.List.{AllByRecursion}
use Rattle.std.proofs.lemmas.Bool.Decides.{eqb_tells}
use Rattle.gx_base.specs.declared.price.Price.{Price}
use Rattle.gx_base.specs.declared.order.Order.{Order}
use Rattle.gx_base.specs.declared.event.StepName.{StepName}
use Rattle.step_config.specs.declared.step.Step.{Step}
use Rattle.plain_book.specs.declared.entry.Entry.{Entry}
use Rattle.plain_book.specs.Orders.{HasSlot, order_of, no_order}
use Rattle.plain_book.specs.Book.{AllDiffer}
use Rattle.plain_book.specs.Match.{MatchState, share_noted, trade_share}
use Rattle.plain_book.specs.Steps.{trade_head}
use Rattle.plain_book.proofs.Levels.{same}
use Rattle.plain_book.proofs.Pairs.{all-with, all-both}
use Rattle.level_sweep.specs.Sweep.{wanted_step, level_match}
use Rattle.level_sweep.proofs.EachOrder.{StaysTrue, AllStay, all-kept, found}
use Rattle.level_sweep.proofs.EachTrade.{Relation, IsKept, each-marked, each-share, each-head, each-wanted, each-match}
use Rattle.plain_book.specs.Numbers.{numbered}

-- P holds of the slot and the number of each order
abbrev pub Names : (ℕ → ℕ → Type 0) → List Entry → Type 0
Names P es = AllByRecursion (λ (e : Entry). P e.slot e.order.number) es

-- a slot is s exactly where the number is k
abbrev pub GoesWith : ℕ → ℕ → ℕ → ℕ → Type 0
GoesWith s k slot number = (slot == s) ≡ (number == k)

abbrev pub Agree : ℕ → ℕ → List Entry → Type 0
Agree s k es = Names (GoesWith s k) es

-- the slot of each order goes with its number
abbrev pub Matched : List Entry → Type 0
Matched es = Names (λ s k. Agree s k es) es

abbrev NamesHold : (ℕ → ℕ → Type 0) → Entry → Type 0
NamesHold P e = P e.slot e.order.number

-- no trade gives an order another name
names : (P : ℕ → ℕ → Type 0) → StaysTrue (NamesHold P)
names P = record {
  fills = λ n e x p q is some. subst (λ (s : ℕ). P s e.order.number) (sym is) p;
  refreshes = λ n e p some none. p;
  marks = λ n e x p q is. subst (λ (s : ℕ). P s e.order.number) (sym is) p;
}

-- there is no order, or P holds of its name
pub found-name : (P : ℕ → ℕ → Type 0) (s : ℕ) (es : List Entry) → Names P es → ((HasSlot s es → ⊥) × (order_of s es ≡ no_order)) ⊎ P s (order_of s es).number
found-name P s es h = elim (found (NamesHold P) s es h) [
  | inl g ↦ inl g
  | inr f ↦ inr (subst (λ (o : Order). P s o.number) f.order (subst (λ (k : ℕ). P k f.entry.order.number) f.slot f.holds))
]

-- ---- what the steps keep

-- what holds of the names of all orders holds of them afterwards
abbrev pub KeepsNames : (MatchState → MatchState) → Type 1
KeepsNames f = (P : ℕ → ℕ → Type 0) (m : MatchState) → Names P m.book.resting → Names P (f m).book.resting

abbrev NamesStay : (ℕ → ℕ → Type 0) → Relation
NamesStay P = AllStay (NamesHold P) (names P)

names-kept : (P : ℕ → ℕ → Type 0) → IsKept (NamesStay P)
names-kept P = all-kept (NamesHold P) (names P)

pub keeps-marked : (step : StepName) (s n : ℕ) → KeepsNames (share_noted step s n)
keeps-marked step s n P m a = each-marked (NamesStay P) (names-kept P) step s n m a

pub keeps-share : (step : StepName) (s n : ℕ) → KeepsNames (trade_share step s n)
keeps-share step s n P m a = each-share (NamesStay P) (names-kept P) step s n m a

pub keeps-head : (es : List Entry) → KeepsNames (trade_head es)
keeps-head es P m a = each-head (NamesStay P) (names-kept P) es m a

pub keeps-wanted : (s : Step) (price : Price) → KeepsNames (wanted_step s price)
keeps-wanted s price P m a = each-wanted (NamesStay P) (names-kept P) s price m a

pub keeps-match : (steps : List Step) (price : Price) → KeepsNames (level_match steps price)
keeps-match steps price P m a = each-match (NamesStay P) (names-kept P) steps price m a

-- ---- slots and numbers that go together

pub matched-kept : (f : MatchState → MatchState) → KeepsNames f → (m : MatchState) → Matched m.book.resting → Matched (f m).book.resting
matched-kept f k m h =
    let es = m.book.resting in
    let es' = (f m).book.resting in
    all-with (λ (e : Entry). Agree e.slot e.order.number es) (λ (e : Entry). Agree e.slot e.order.number es') (λ e a. k (GoesWith e.slot e.order.number) m a) es' (k (λ s n. Agree s n es) m h)

other-test : (m n : ℕ) → m ≢ n → (m == n) ≡ false
other-test m n h = elim (eqb_tells m n) [ inl t ↦ absurd (h t.1) | inr t ↦ t.0 ]

abbrev Differs : Entry → Entry → Type 0
Differs e x = (x.slot ≢ e.slot) × (x.order.number ≢ e.order.number)

all-differ : (e : Entry) (es : List Entry) → (HasSlot e.slot es → ⊥) → (HasSlot e.order.number (numbered es) → ⊥) → AllByRecursion (Differs e) es
all-differ e [] h k = tt
all-differ e (x ∷ es) h k = (((λ a. h (inl a)), (λ a. k (inl a))), all-differ e es (λ a. h (inr a)) (λ a. k (inr a)))

-- where slots differ and numbers differ
pub matched-from : (es : List Entry) → AllDiffer es → AllDiffer (numbered es) → Matched es
matched-from [] d n = tt
matched-from (e ∷ es) d n =
    let apart : AllByRecursion (Differs e) es = all-differ e es d.0 n.0 in
    let none : Agree e.slot e.order.number es =
    all-with (Differs e) (λ (x : Entry). GoesWith e.slot e.order.number x.slot x.order.number) (λ x a. other-test x.slot e.slot a.0 ∙ sym (other-test x.order.number e.order.number a.1)) es apart in
    let rest = matched-from es d.1 n.1 in (
      (same e.slot ∙ sym (same e.order.number), none),
      all-with (λ (x : Entry). Differs e x × Agree x.slot x.order.number es) (λ (x : Entry). Agree x.slot x.order.number (e ∷ es))
          (λ x a. (other-test e.slot x.slot (λ k. a.0.0 (sym k)) ∙ sym (other-test e.order.number x.order.number (λ k. a.0.1 (sym k))), a.1)) es
          (all-both (Differs e) (λ (x : Entry). Agree x.slot x.order.number es) es apart rest),
    )
