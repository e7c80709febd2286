-- What is true of every book stays true: when an order comes, goes or changes.
use Rattle.std.proofs.Common.{◌≡◌, ℕ, ◌<◌, ◌≤◌, Bool, true, false, cond, not, List, [], ◌∷◌, ◌++◌, length, Option, refl, sym, ap, subst, ◌∙◌, arith, inl, inr, append_assoc, length-append}
use Prim.Native.Nat.{suc}
use Rattle.std.proofs.lemmas.List.{length-map, map-append}
use Rattle.std.proofs.lemmas.List.Elements.{filter-append}
use Rattle.std.proofs.lemmas.Bool.Decides.{eqb_tells}
use Rattle.std.specs.Prelude.{◌==◌, nat_lt}
use Rattle.std.specs.List.{AllByRecursion}
use Rattle.gx_base.specs.declared.order.Order.{Order}
use Rattle.gx_base.specs.declared.order.Side.{Side}
use Rattle.plain_book.specs.declared.entry.Entry.{Entry}
use Rattle.plain_book.specs.Orders.{Level, level_of, HasSlot, order_of, is_on, is_before, is_at_earlier_level, is_of_earlier_instrument, without, with_order, reordered, placed, lined_up, with_top, topped}
use Rattle.plain_book.specs.Book.{Book, live_orders, IsRight, IsResting, IsWaiting, AllDiffer, EachPair, AreNamedApart, AreInBookOrder, AreInLine, MayPrecedeTop, CanBeTop, book_without, book_with_order, book_with_top}
use Rattle.plain_book.proofs.Levels.{AllDiffer-filter, AllDiffer-front, slots-apart, order_of-left, without-none, with_order-none, renewed}
use Rattle.plain_book.proofs.Walks.{AllDiffer-with_order}
use Rattle.plain_book.proofs.Pairs.{all-with, all-filter, all-map, all-from, all-front, all-back, pairs-filter, pairs-map}
use Rattle.plain_book.proofs.Live.{AllOrders, orders-with_order}
use Rattle.plain_book.proofs.Named.{Unnamed, named-inserted, named-changed}
use Rattle.plain_book.proofs.Sorted.{book-order, line-order, put-in, ordered-put, IsInserted, inserted-differ, inserted-length, inserted-all}
use Rattle.plain_book.proofs.Tops.{NoTopBehind, tops-put, tops-mapped, tops-set}

-- ---- an order goes

abbrev pub other_slot : ℕ → Entry → Bool
other_slot s e = not (e.slot == s)

pub live-without : (s : ℕ) (b : Book) → live_orders (book_without s b) ≡ without s (live_orders b)
live-without s b = sym (filter-append (other_slot s) b.resting b.waiting)

pub length-without : (s : ℕ) (es : List Entry) → AllDiffer es → HasSlot s es → suc (length (without s es)) ≡ length es
length-without s [] d h = absurd h
length-without s (e ∷ es) d h = elim (eqb_tells e.slot s) [
  | inl t ↦
      ap (λ (b : Bool). suc (length (cond (not b) (e ∷ without s es) (without s es)))) t.0
      ∙ ap (λ (q : List Entry). suc (length q)) (without-none s es (λ k. d.0 (subst (λ (n : ℕ). HasSlot n es) (sym t.1) k)))
  | inr t ↦
      ap (λ (b : Bool). suc (length (cond (not b) (e ∷ without s es) (without s es)))) t.0
      ∙ ap suc (length-without s es d.1 (elim h [ inl a ↦ absurd (t.1 a) | inr a ↦ a ]))
]

pub length-front : (xs ys : List Entry) → length xs ≤ length (xs ++ ys)
length-front xs ys = omega (arith, length-append xs ys)

-- the slot is gone
pub without-gone : (s : ℕ) (es : List Entry) → HasSlot s (without s es) → ⊥
without-gone s [] h = h
without-gone s (e ∷ es) h = elim (eqb_tells e.slot s) [
  | inl t ↦ without-gone s es (subst (λ (b : Bool). HasSlot s (cond (not b) (e ∷ without s es) (without s es))) t.0 h)
  | inr t ↦ elim (let k : HasSlot s (e ∷ without s es) = subst (λ (b : Bool). HasSlot s (cond (not b) (e ∷ without s es) (without s es))) t.0 h in k) [ inl a ↦ t.1 a | inr a ↦ without-gone s es a ]
]

pub right-without : (b : Book) (s : ℕ) → IsRight b → HasSlot s (live_orders b) → IsRight (book_without s b)
right-without b s r h =
    let p = other_slot s in
    let live = live-without s b in
    record {
      rest = all-filter (λ (e : Entry). IsResting b.instruments e.order) p b.resting r.rest;
      wait = all-filter (λ (e : Entry). IsWaiting b.instruments e.order) p b.waiting r.wait;
      differ = subst AllDiffer (sym live) (AllDiffer-filter p (live_orders b) r.differ);
      named = subst (EachPair AreNamedApart) (sym live) (pairs-filter AreNamedApart p (live_orders b) r.named);
      ordered = pairs-filter AreInBookOrder p b.resting r.ordered;
      lined = pairs-filter AreInLine p b.waiting r.lined;
      tops = pairs-filter MayPrecedeTop p b.resting r.tops;
      few = omega (arith, ap (λ (q : List Entry). length q) live, length-without s (live_orders b) r.differ h, r.few);
      small = r.small;
    }

-- ---- an order comes

-- a book with other orders
abbrev pub resting_as : Book → List Entry → Book
resting_as b es = record b { resting = es }

abbrev pub waiting_as : Book → List Entry → Book
waiting_as b es = record b { waiting = es }

pub live-placed : (b : Book) (n : Entry) → EachPair AreInBookOrder b.resting → IsInserted n (live_orders b) (live_orders (resting_as b (placed n b.resting)))
live-placed b n o =
    let p = put-in is_at_earlier_level book-order n b.resting o in
    record {
      front = p.front;
      back = p.back ++ b.waiting;
      whole = ap (λ (q : List Entry). q ++ b.waiting) p.whole ∙ append_assoc p.front p.back b.waiting;
      is = ap (λ (q : List Entry). q ++ b.waiting) p.place ∙ append_assoc p.front (n ∷ p.back) b.waiting;
    }

pub live-lined : (b : Book) (n : Entry) → EachPair AreInLine b.waiting → IsInserted n (live_orders b) (live_orders (waiting_as b (lined_up n b.waiting)))
live-lined b n o =
    let p = put-in is_of_earlier_instrument line-order n b.waiting o in
    record {
      front = b.resting ++ p.front;
      back = p.back;
      whole = ap (λ (q : List Entry). b.resting ++ q) p.whole ∙ sym (append_assoc b.resting p.front p.back);
      is = ap (λ (q : List Entry). b.resting ++ q) p.place ∙ sym (append_assoc b.resting p.front (n ∷ p.back));
    }

module _ (b : Book) (n : Entry) (r : IsRight b) (room : length (live_orders b) < b.capacity) (fresh : HasSlot n.slot (live_orders b) → ⊥) (unnamed : AllOrders (Unnamed n.order) (live_orders b)) where
  pub right-placed : IsResting b.instruments n.order
      → AllByRecursion (λ (x : Entry). n.is_top ≡ true → is_on n.order.instrument n.order.side x ≡ true → is_at_earlier_level n x ≡ true) b.resting
      → AllByRecursion (NoTopBehind n) b.resting
      → IsRight (resting_as b (placed n b.resting))
  right-placed fit first none =
      let p = put-in is_at_earlier_level book-order n b.resting r.ordered in
      let ins : IsInserted n b.resting (placed n b.resting) = record { front = p.front; back = p.back; whole = p.whole; is = p.place } in
      let live = live-placed b n r.ordered in
      record {
        rest = inserted-all ins (λ (e : Entry). IsResting b.instruments e.order) r.rest fit;
        wait = r.wait;
        differ = inserted-differ live r.differ fresh;
        named = named-inserted n (live_orders b) (live_orders (resting_as b (placed n b.resting))) live r.named unnamed;
        ordered = ordered-put is_at_earlier_level book-order n b.resting r.ordered;
        lined = r.lined;
        tops = tops-put n b.resting r.ordered r.tops first none;
        few = omega (arith, inserted-length live, room);
        small = r.small;
      }

  pub right-lined : IsWaiting b.instruments n.order → IsRight (waiting_as b (lined_up n b.waiting))
  right-lined fit =
      let p = put-in is_of_earlier_instrument line-order n b.waiting r.lined in
      let ins : IsInserted n b.waiting (lined_up n b.waiting) = record { front = p.front; back = p.back; whole = p.whole; is = p.place } in
      let live = live-lined b n r.lined in
      record {
        rest = r.rest;
        wait = inserted-all ins (λ (e : Entry). IsWaiting b.instruments e.order) r.wait fit;
        differ = inserted-differ live r.differ fresh;
        named = named-inserted n (live_orders b) (live_orders (waiting_as b (lined_up n b.waiting))) live r.named unnamed;
        ordered = r.ordered;
        lined = ordered-put is_of_earlier_instrument line-order n b.waiting r.lined;
        tops = r.tops;
        few = omega (arith, inserted-length live, room);
        small = r.small;
      }

-- ---- an order changes

mark-reordered : (s : ℕ) (o : Order) (e : Entry) → (reordered s o e).is_top ≡ e.is_top
mark-reordered s o e = elim (e.slot == s) as (λ c. (cond c (renewed e o) e).is_top ≡ e.is_top) [ true ↦ refl | false ↦ refl ]

-- the level of an entry stays
abbrev pub KeepsLevel : ℕ → Order → Entry → Type 0
KeepsLevel s o e = level_of (reordered s o e).order ≡ level_of e.order

pub levels-kept : (s : ℕ) (o : Order) (es : List Entry) → AllDiffer es → (HasSlot s es → level_of o ≡ level_of (order_of s es)) → AllByRecursion (KeepsLevel s o) es
levels-kept s o [] d l = tt
levels-kept s o (e ∷ es) d l = elim (eqb_tells e.slot s) [
  | inl t ↦ (
    ap (λ (b : Bool). level_of (cond b (renewed e o) e).order) t.0 ∙ l (inl t.1) ∙ ap (λ (b : Bool). level_of (cond b e.order (order_of s es))) t.0,
    levels-kept s o es d.1 (λ h. absurd (d.0 (subst (λ (n : ℕ). HasSlot n es) (sym t.1) h))),
  )
  | inr t ↦ (
    ap (λ (b : Bool). level_of (cond b (renewed e o) e).order) t.0,
    levels-kept s o es d.1 (λ h. l (inr h) ∙ ap (λ (b : Bool). level_of (cond b e.order (order_of s es))) t.0),
  )
]

pub ordered-changed : (s : ℕ) (o : Order) (es : List Entry) → AllByRecursion (KeepsLevel s o) es → EachPair AreInBookOrder es → EachPair AreInBookOrder (with_order s o es)
ordered-changed s o es l h =
    pairs-map AreInBookOrder AreInBookOrder (KeepsLevel s o) (reordered s o) (λ a b la lb r.
    ap (λ (k : Level). is_before k (level_of (reordered s o a).order)) lb ∙ ap (is_before (level_of b.order)) la ∙ r) es l h

lined-changed : (s : ℕ) (o : Order) (es : List Entry) → AllByRecursion (KeepsLevel s o) es → EachPair AreInLine es → EachPair AreInLine (with_order s o es)
lined-changed s o es l h =
    pairs-map AreInLine AreInLine (KeepsLevel s o) (reordered s o) (λ a b la lb r.
    ap (λ (k : Level). nat_lt k.instrument (reordered s o a).order.instrument) lb ∙ ap (λ (k : Level). nat_lt b.order.instrument k.instrument) la ∙ r) es l h

-- an order in both lists, of which only one has it
abbrev pub book_reordered : ℕ → Order → Book → Book
book_reordered s o b = record b { resting = with_order s o b.resting; waiting = with_order s o b.waiting }

pub live-reordered : (s : ℕ) (o : Order) (b : Book) → live_orders (book_reordered s o b) ≡ with_order s o (live_orders b)
live-reordered s o b = sym (map-append (reordered s o) b.resting b.waiting)

pub right-reordered : (b : Book) (s : ℕ) (o : Order) → IsRight b → level_of o ≡ level_of (order_of s (live_orders b))
    → EachPair AreNamedApart (with_order s o (live_orders b))
    → (HasSlot s b.resting → IsResting b.instruments o) → (HasSlot s b.waiting → IsWaiting b.instruments o)
    → IsRight (book_reordered s o b)
right-reordered b s o r l named rest wait =
    let live = live-reordered s o b in
    let levels = levels-kept s o (live_orders b) r.differ (λ _. l) in
    let front = all-front (KeepsLevel s o) b.resting b.waiting levels in
    let back = all-back (KeepsLevel s o) b.resting b.waiting levels in
    record {
      rest = orders-with_order (IsResting b.instruments) s o b.resting rest r.rest;
      wait = orders-with_order (IsWaiting b.instruments) s o b.waiting wait r.wait;
      differ = subst AllDiffer (sym live) (AllDiffer-with_order s o (live_orders b) r.differ);
      named = subst (EachPair AreNamedApart) (sym live) named;
      ordered = ordered-changed s o b.resting front r.ordered;
      lined = lined-changed s o b.waiting back r.lined;
      tops = tops-mapped (reordered s o) (mark-reordered s o) b.resting front r.tops;
      few = omega (arith, ap (λ (q : List Entry). length q) live, length-map (live_orders b) (reordered s o), r.few);
      small = r.small;
    }

-- a resting order changes, and nothing that waits
pub waiting-same : (b : Book) (s : ℕ) (o : Order) → IsRight b → HasSlot s b.resting → book_reordered s o b ≡ book_with_order s o b
waiting-same b s o r h =
    ap (λ (q : List Entry). record b { resting = with_order s o b.resting; waiting = q }) (with_order-none s o b.waiting (λ k. slots-apart s b.resting b.waiting r.differ h k))

pub right-with_order : (b : Book) (s : ℕ) (o : Order) → IsRight b → HasSlot s b.resting
    → level_of o ≡ level_of (order_of s b.resting) → o.firm ≡ (order_of s b.resting).firm → o.id ≡ (order_of s b.resting).id
    → IsResting b.instruments o → IsRight (book_with_order s o b)
right-with_order b s o r h l f i fit =
    let is : order_of s (live_orders b) ≡ order_of s b.resting = order_of-left s b.resting b.waiting h in
    subst IsRight (waiting-same b s o r h)
    (right-reordered b s o r (l ∙ ap level_of (sym is))
    (named-changed s o (live_orders b) r.differ r.named (f ∙ ap (λ (q : Order). q.firm) (sym is)) (i ∙ ap (λ (q : Order). q.id) (sym is)))
    (λ _. fit) (λ k. absurd (slots-apart s b.resting b.waiting r.differ h k)))

-- ---- TOP is set

pub slots-marked : (i : ℕ) (d : Side) (top : Option ℕ) (s : ℕ) (es ws : List Entry) → HasSlot s (with_top i d top es ++ ws) → HasSlot s (es ++ ws)
slots-marked i d top s [] ws h = h
slots-marked i d top s (e ∷ es) ws h = elim h [ inl a ↦ inl a | inr a ↦ inr (slots-marked i d top s es ws a) ]

differ-marked : (i : ℕ) (d : Side) (top : Option ℕ) (es ws : List Entry) → AllDiffer (es ++ ws) → AllDiffer (with_top i d top es ++ ws)
differ-marked i d top [] ws h = h
differ-marked i d top (e ∷ es) ws h = ((λ k. h.0 (slots-marked i d top e.slot es ws k)), differ-marked i d top es ws h.1)

unnamed-marked : (e : Entry) (i : ℕ) (d : Side) (top : Option ℕ) (es ws : List Entry) → AllByRecursion (AreNamedApart e) (es ++ ws) → AllByRecursion (AreNamedApart (topped i d top e)) (with_top i d top es ++ ws)
unnamed-marked e i d top [] ws h = all-with (AreNamedApart e) (AreNamedApart (topped i d top e)) (λ x k. k) ws h
unnamed-marked e i d top (x ∷ es) ws h = (h.0, unnamed-marked e i d top es ws h.1)

named-marked : (i : ℕ) (d : Side) (top : Option ℕ) (es ws : List Entry) → EachPair AreNamedApart (es ++ ws) → EachPair AreNamedApart (with_top i d top es ++ ws)
named-marked i d top [] ws h = h
named-marked i d top (e ∷ es) ws h = (unnamed-marked e i d top es ws h.0, named-marked i d top es ws h.1)

pub ordered-marked : (i : ℕ) (d : Side) (top : Option ℕ) (es : List Entry) → EachPair AreInBookOrder es → EachPair AreInBookOrder (with_top i d top es)
ordered-marked i d top es h =
    pairs-map AreInBookOrder AreInBookOrder (λ (e : Entry). Unit {0}) (topped i d top) (λ a b _ _ r. r) es (all-from (λ (e : Entry). Unit {0}) (λ x. tt) es) h

pub length-marked : (i : ℕ) (d : Side) (top : Option ℕ) (es ws : List Entry) → length (with_top i d top es ++ ws) ≡ length (es ++ ws)
length-marked i d top [] ws = refl
length-marked i d top (e ∷ es) ws = ap suc (length-marked i d top es ws)

pub right-marked : (b : Book) (i : ℕ) (d : Side) (top : Option ℕ) → IsRight b → CanBeTop i d top b.resting → IsRight (book_with_top i d top b)
right-marked b i d top r can = record {
  rest = all-map (λ (e : Entry). IsResting b.instruments e.order) (λ (e : Entry). IsResting b.instruments e.order) (topped i d top) (λ x k. k) b.resting r.rest;
  wait = r.wait;
  differ = differ-marked i d top b.resting b.waiting r.differ;
  named = named-marked i d top b.resting b.waiting r.named;
  ordered = ordered-marked i d top b.resting r.ordered;
  lined = r.lined;
  tops = tops-set i d top b.resting (AllDiffer-front b.resting b.waiting r.differ) r.ordered r.tops can;
  few = omega (arith, length-marked i d top b.resting b.waiting, r.few);
  small = r.small;
}

-- ---- all orders go
