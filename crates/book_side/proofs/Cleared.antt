-- All orders leave, an instrument at a time.
use Rattle.std.proofs.Common.{◌≡◌, ◌≢◌, ℕ, ◌+◌, ◌<◌, ◌≤◌, Bool, true, false, cond, not, ◌&&◌, List, [], ◌∷◌, ◌++◌, filter, length, refl, sym, ap, subst, ◌∙◌, arith, inl, inr}
use Rattle.std.proofs.lemmas.Bool.Decides.{eqb_tells, Decides-int_eq}
use Rattle.std.specs.Prelude.{◌==◌, Option, None, Some, option_map, MatchOption}
use Rattle.std.specs.List.{AllByRecursion}
use Rattle.std.specs.Ordering.{int_eq}
use Rattle.gx_base.specs.declared.order.Slot.{Slot}
use Rattle.gx_base.specs.declared.price.Price.{Price}
use Rattle.gx_base.specs.declared.order.Side.{Side}
use Rattle.gx_base.specs.declared.order.Side.TheVariants.{Buy, Sell}
use Rattle.plain_book.specs.declared.entry.Entry.{Entry}
use Rattle.plain_book.specs.Orders.{HasSlot, level, is_on, is_of, is_at, is_side, side_of, stops_of, orders_at, best_of, price_of, slot_of}
use Rattle.plain_book.specs.Book.{Book, live_orders, slot_number, IsRight, IsResting, IsWaiting, book_without, empty_book}
use Rattle.plain_book.proofs.Levels.{and-left, and-right}
use Rattle.plain_book.proofs.Pairs.{all-with, all-both, all-append, all-front, all-back, all-filter}
use Rattle.plain_book.proofs.Live.{first-has}
use Rattle.plain_book.proofs.Levels.{HasSlot-filter, HasSlot-left, HasSlot-right}
use Rattle.plain_book.proofs.Right.{live-without, length-without}
use Rattle.book_side.specs.Inner.Steps.{AreFrom}

-- ---- no order is found

none-passes : (p : Entry → Bool) (es : List Entry) → slot_of (filter p es) ≡ None → AllByRecursion (λ (e : Entry). p e ≡ false) es
none-passes p [] h = tt
none-passes p (e ∷ es) h =
    let go : (b : Bool) → p e ≡ b → slot_of (cond b (e ∷ filter p es) (filter p es)) ≡ None → AllByRecursion (λ (e : Entry). p e ≡ false) (e ∷ es) = elim [
      | true ↦ λ t n. absurd (let m : Some e.slot ≡ None = n in cc)
      | false ↦ λ t n. (t, none-passes p es n)
    ] in go (p e) refl h

pub none-best : (i : ℕ) (d : Side) (es : List Entry) → best_of i d es ≡ None → AllByRecursion (λ (e : Entry). is_on i d e ≡ false) es
none-best i d [] h = tt
none-best i d (e ∷ es) h =
    let go : (b : Bool) → is_on i d e ≡ b → price_of (cond b (e ∷ side_of i d es) (side_of i d es)) ≡ None → AllByRecursion (λ (e : Entry). is_on i d e ≡ false) (e ∷ es) = elim [
      | true ↦ λ t n. absurd (let m : Some e.order.price ≡ None = n in cc)
      | false ↦ λ t n. (t, none-best i d es n)
    ] in go (is_on i d e) refl h

-- an order stands at the best price
best-stands : (i : ℕ) (d : Side) (x : Price) (es : List Entry) → best_of i d es ≡ Some x → slot_of (orders_at (level i d x) es) ≢ None
best-stands i d x [] h n = absurd (let m : None ≡ Some x = h in cc)
best-stands i d x (e ∷ es) h n =
    let F = orders_at (level i d x) es in
    let go : (b : Bool) → is_on i d e ≡ b → price_of (cond b (e ∷ side_of i d es) (side_of i d es)) ≡ Some x → slot_of (cond (is_at (level i d x) e) (e ∷ F) F) ≡ None → ⊥ = elim [
      | true ↦ λ t s m.
          let p : e.order.price ≡ x = (let q : Some e.order.price ≡ Some x = s in cc) in
          let yes_at : is_at (level i d x) e ≡ true =
          ap (λ (b : Bool). (e.order.instrument == i) && (b && int_eq e.order.price.0 x.0)) (and-right (e.order.instrument == i) (is_side e.order.side d) t)
          ∙ ap (λ (b : Bool). b && int_eq e.order.price.0 x.0) (and-left (e.order.instrument == i) (is_side e.order.side d) t)
          ∙ (Decides-int_eq e.order.price.0 x.0).1 (ap (λ (y : Price). y.0) p) in
          let some : Some e.slot ≡ None = sym (ap (λ (b : Bool). slot_of (cond b (e ∷ F) F)) yes_at) ∙ m in
          (let z : ⊥ = cc in z)
      | false ↦ λ t s m. best-stands i d x es s (behind (is_at (level i d x) e) e F m)
    ] in go (is_on i d e) refl h n
  where
    behind : (b : Bool) (e : Entry) (F : List Entry) → slot_of (cond b (e ∷ F) F) ≡ None → slot_of F ≡ None
    behind true e F m = absurd (let z : Some e.slot ≡ None = m in cc)
    behind false e F m = m

-- an order on neither side is of another instrument
not-of : (i : ℕ) (e : Entry) → is_on i Buy e ≡ false → is_on i Sell e ≡ false → e.order.instrument ≢ i
not-of i e b s h =
    let yes_of : (e.order.instrument == i) ≡ true = elim (eqb_tells e.order.instrument i) [ inl t ↦ t.0 | inr t ↦ absurd (t.1 h) ] in
    neither e.order.side (sym (ap (λ (c : Bool). c && is_side e.order.side Buy) yes_of) ∙ b) (sym (ap (λ (c : Bool). c && is_side e.order.side Sell) yes_of) ∙ s)
  where
    neither : (d : Side) → is_side d Buy ≡ false → is_side d Sell ≡ false → ⊥
    neither Buy b s = cc
    neither Sell b s = cc

abbrev AreOther : ℕ → List Entry → Type 0
AreOther i es = AllByRecursion (λ (e : Entry). e.order.instrument ≢ i) es

none-live : (i : ℕ) (es ws : List Entry) → AllByRecursion (λ (e : Entry). is_on i Buy e ≡ false) es → AllByRecursion (λ (e : Entry). is_on i Sell e ≡ false) es → slot_of (stops_of i ws) ≡ None → AreOther i (es ++ ws)
none-live i es ws b s w =
    all-append (λ (e : Entry). e.order.instrument ≢ i) es ws
    (all-with (λ (e : Entry). (is_on i Buy e ≡ false) × (is_on i Sell e ≡ false)) (λ (e : Entry). e.order.instrument ≢ i) (λ e h. not-of i e h.0 h.1) es (all-both (λ (e : Entry). is_on i Buy e ≡ false) (λ (e : Entry). is_on i Sell e ≡ false) es b s))
    (all-with (λ (e : Entry). is_of i e ≡ false) (λ (e : Entry). e.order.instrument ≢ i) (λ e h is. elim (eqb_tells e.order.instrument i) [ inl t ↦ (let z : true ≡ false = sym t.0 ∙ h in let y : ⊥ = cc in y) | inr t ↦ t.1 is ]) ws (none-passes (is_of i) ws w))

-- what is found on a side is its best order
pub first-stands : (i : ℕ) (d : Side) (x : Price) (es ws : List Entry) → best_of i d es ≡ Some x → (o : Option Slot) → option_map slot_number o ≡ slot_of (orders_at (level i d x) es)
    → MatchOption o (AllByRecursion (λ (e : Entry). is_on i d e ≡ false) es) (λ s. HasSlot s.0 (es ++ ws))
first-stands i d x es ws h None f = absurd (best-stands i d x es h (sym f))
first-stands i d x es ws h (Some s) f = HasSlot-left s.0 es ws (HasSlot-filter (is_at (level i d x)) s.0 es (first-has s.0 (orders_at (level i d x) es) (sym f)))

-- and where none is, the first stop
pub stop-stands : (i : ℕ) (es ws : List Entry) → AllByRecursion (λ (e : Entry). is_on i Buy e ≡ false) es → AllByRecursion (λ (e : Entry). is_on i Sell e ≡ false) es
    → (o : Option Slot) → option_map slot_number o ≡ slot_of (stops_of i ws) → MatchOption o (AreOther i (es ++ ws)) (λ s. HasSlot s.0 (es ++ ws))
stop-stands i es ws b s None f = none-live i es ws b s (sym f)
stop-stands i es ws b s (Some t) f = HasSlot-right t.0 es ws (HasSlot-filter (is_of i) t.0 ws (first-has t.0 (stops_of i ws) (sym f)))

-- ---- the calls

pub next-from : (i : ℕ) (es : List Entry) → AreFrom i es → AreOther i es → AreFrom (i + 1) es
next-from i es a o =
    all-with (λ (e : Entry). (i ≤ e.order.instrument) × (e.order.instrument ≢ i)) (λ (e : Entry). i + 1 ≤ e.order.instrument)
    (λ e h. let le : i ≤ e.order.instrument = h.0 in let ne : e.order.instrument ≢ i = h.1 in omega arith) es (all-both (λ (e : Entry). i ≤ e.order.instrument) (λ (e : Entry). e.order.instrument ≢ i) es a o)

pub from-without : (i s : ℕ) (b : Book) → AreFrom i (live_orders b) → AreFrom i (live_orders (book_without s b))
from-without i s b a = subst (AreFrom i) (sym (live-without s b)) (all-filter (λ (e : Entry). i ≤ e.order.instrument) (λ e. not (e.slot == s)) (live_orders b) a)

pub fewer-without : (s : ℕ) (b : Book) → IsRight b → HasSlot s (live_orders b) → length (live_orders (book_without s b)) < length (live_orders b)
fewer-without s b r h = omega (arith, ap (λ (l : List Entry). length l) (live-without s b), length-without s (live_orders b) r.differ h)

pub cleared : (b : Book) → IsRight b → AreFrom b.instruments (live_orders b) → b ≡ empty_book b.capacity b.instruments
cleared b r a =
    let n = b.instruments in
    let resting : b.resting ≡ [] =
    none-in b.resting (all-both (λ (e : Entry). n ≤ e.order.instrument) (λ (e : Entry). e.order.instrument < n) b.resting (all-front (λ (e : Entry). n ≤ e.order.instrument) b.resting b.waiting a)
    (all-with (λ (e : Entry). IsResting n e.order) (λ (e : Entry). e.order.instrument < n) (λ e f. f.fit.listed) b.resting r.rest)) in
    let waiting : b.waiting ≡ [] =
    none-in b.waiting (all-both (λ (e : Entry). n ≤ e.order.instrument) (λ (e : Entry). e.order.instrument < n) b.waiting (all-back (λ (e : Entry). n ≤ e.order.instrument) b.resting b.waiting a)
    (all-with (λ (e : Entry). IsWaiting n e.order) (λ (e : Entry). e.order.instrument < n) (λ e f. f.fit.listed) b.waiting r.wait)) in
    ap (λ (l : List Entry). (let y : Book = record b { resting = l } in y)) resting ∙ ap (λ (l : List Entry). (let y : Book = record b { resting = []; waiting = l } in y)) waiting
  where
    none-in : (es : List Entry) → AllByRecursion (λ (e : Entry). (b.instruments ≤ e.order.instrument) × (e.order.instrument < b.instruments)) es → es ≡ []
    none-in [] h = refl
    none-in (e ∷ es) h = absurd (let x : b.instruments ≤ e.order.instrument = h.0.0 in let y : e.order.instrument < b.instruments = h.0.1 in omega arith)
