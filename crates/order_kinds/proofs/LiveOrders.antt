-- One live order of a book: whose it is, what it is fit for, and the book that it leaves or in which it is changed.
use Rattle.std.proofs.Common.{◌≡◌, ℕ, ◌<◌, ◌≤◌, Bool, true, false, cond, not, List, [], ◌∷◌, filter, length, Some, None, suc, refl, sym, ap, subst, ◌∙◌, arith, inl, inr, ◌⊎◌}
use Rattle.std.specs.Prelude.{◌==◌, bytes_eq}
use Rattle.std.proofs.lemmas.Bool.Decides.{eqb_tells, Decides-eqb}
use Rattle.gx_base.specs.declared.limits.TheConstants.{MOST_FIRMS}
use Rattle.gx_base.specs.declared.order.Order.{Order}
use Rattle.plain_book.specs.declared.entry.Entry.{Entry}
use Rattle.plain_book.specs.Orders.{HasSlot, order_of, slot_of, slot_named, is_named, is_live, without, with_order, reordered}
use Rattle.plain_book.specs.Book.{Book, IsRight, IsResting, IsWaiting, AllDiffer, live_orders, book_without, book_changed, changed_to}
use Rattle.plain_book.proofs.Pairs.{all-filter, all-append, all-with, none-any, any-none}
use Rattle.plain_book.proofs.Levels.{renewed, and-left}
use Rattle.plain_book.proofs.Live.{orders-at}
use Rattle.plain_book.proofs.Right.{live-without, length-without, live-reordered}
use Rattle.order_kinds.proofs.Numbering.{named-has}

-- ---- whose it is

-- the order that is found by a firm and an id is the firm's
pub named-own : (firm : ℕ) (id : List ℕ) (s : ℕ) (es : List Entry) → AllDiffer es → slot_named firm id es ≡ Some s → (order_of s es).firm ≡ firm
named-own firm id s [] d h = absurd (let k : None ≡ Some s = h in cc)
named-own firm id s (e ∷ es) d h =
    let go : (b : Bool) → is_named firm id e ≡ b → slot_of (cond b (e ∷ filter (is_named firm id) es) (filter (is_named firm id) es)) ≡ Some s → (order_of s (e ∷ es)).firm ≡ firm = elim [
      | true ↦ λ is k.
          let f : Some e.slot ≡ Some s = k in
          let here : e.slot ≡ s = cc in
          elim (eqb_tells e.slot s) [
            | inl t ↦ ap (λ (c : Bool). (cond c e.order (order_of s es)).firm) t.0 ∙ (Decides-eqb e.order.firm firm).0 (and-left (e.order.firm == firm) (bytes_eq e.order.id id) is)
            | inr t ↦ absurd (t.1 here)
          ]
      | false ↦ λ is k.
          let later : HasSlot s es = named-has firm id s es k in
          elim (eqb_tells e.slot s) [
            | inl t ↦ absurd (d.0 (subst (λ (n : ℕ). HasSlot n es) (sym t.1) later))
            | inr t ↦ ap (λ (c : Bool). (cond c e.order (order_of s es)).firm) t.0 ∙ named-own firm id s es d.1 k
          ]
    ] in go (is_named firm id e) refl h

-- ---- what it is fit for

-- an order that rests, or a stop that waits
abbrev pub IsFit : ℕ → Order → Type 0
IsFit instruments o = IsResting instruments o ⊎ IsWaiting instruments o

pub live-fits : (b : Book) (s : ℕ) → IsRight b → HasSlot s (live_orders b) → IsFit b.instruments (order_of s (live_orders b))
live-fits b s right has =
    let n = b.instruments in
    let Fits = λ (e : Entry). IsFit n e.order in
    orders-at (IsFit n) s (live_orders b)
    (all-append Fits b.resting b.waiting (all-with (λ (e : Entry). IsResting n e.order) Fits (λ e r. inl r) b.resting right.rest) (all-with (λ (e : Entry). IsWaiting n e.order) Fits (λ e w. inr w) b.waiting right.wait)) has

pub fit-firm : (n : ℕ) (o : Order) → IsFit n o → o.firm < MOST_FIRMS
fit-firm n o fit = elim fit [ inl r ↦ r.fit.firm | inr w ↦ w.fit.firm ]

pub fit-listed : (n : ℕ) (o : Order) → IsFit n o → o.instrument < n
fit-listed n o fit = elim fit [ inl r ↦ r.fit.listed | inr w ↦ w.fit.listed ]

-- ---- it leaves

pub left-unnamed : (firm : ℕ) (id : List ℕ) (s : ℕ) (b : Book) → is_live firm id (live_orders b) ≡ false → is_live firm id (live_orders (book_without s b)) ≡ false
left-unnamed firm id s b h =
    ap (is_live firm id) (live-without s b)
    ∙ any-none (is_named firm id) (without s (live_orders b)) (all-filter (λ (e : Entry). is_named firm id e ≡ false) (λ e. not (e.slot == s)) (live_orders b) (none-any (is_named firm id) (live_orders b) h))

pub left-room : (s : ℕ) (b : Book) → IsRight b → HasSlot s (live_orders b) → length (live_orders (book_without s b)) < b.capacity
left-room s b right has =
    let gone : length (live_orders (book_without s b)) ≡ length (without s (live_orders b)) = ap (λ (es : List Entry). length es) (live-without s b) in
    omega (arith, gone, length-without s (live_orders b) right.differ has, right.few)

pub fewer-left : (s : ℕ) (es : List Entry) → length (without s es) ≤ length es
fewer-left s [] = omega arith
fewer-left s (e ∷ es) =
    let rest = without s es in
    let go : (b : Bool) → length (cond b (e ∷ rest) rest) ≤ suc (length es) = elim [ true ↦ omega (arith, fewer-left s es) | false ↦ omega (arith, fewer-left s es) ] in
    go (not (e.slot == s))

-- ---- it is changed in its place

slot-kept : (s : ℕ) (o : Order) (e : Entry) → (reordered s o e).slot ≡ e.slot
slot-kept s o e = elim (e.slot == s) as (λ c. (cond c (renewed e o) e).slot ≡ e.slot) [ true ↦ refl | false ↦ refl ]

with_order-has : (s : ℕ) (o : Order) (es : List Entry) → HasSlot s es → HasSlot s (with_order s o es)
with_order-has s o [] h = absurd h
with_order-has s o (e ∷ es) h = elim h [ inl a ↦ inl (slot-kept s o e ∙ a) | inr a ↦ inr (with_order-has s o es a) ]

with_order-is : (s : ℕ) (o : Order) (es : List Entry) → HasSlot s es → order_of s (with_order s o es) ≡ o
with_order-is s o [] h = absurd h
with_order-is s o (e ∷ es) h =
    let rest = order_of s (with_order s o es) in
    elim (eqb_tells e.slot s) [
      | inl t ↦ ap (λ (c : Bool). cond ((cond c (renewed e o) e).slot == s) (cond c (renewed e o) e).order rest) t.0 ∙ ap (λ (c : Bool). cond c o rest) t.0
      | inr t ↦
          ap (λ (c : Bool). cond ((cond c (renewed e o) e).slot == s) (cond c (renewed e o) e).order rest) t.0 ∙ ap (λ (c : Bool). cond c e.order rest) t.0
          ∙ with_order-is s o es (elim h [ inl a ↦ absurd (t.1 a) | inr a ↦ a ])
    ]

module _ (s : ℕ) (id : List ℕ) (quantity least : ℕ) (b : Book) (has : HasSlot s (live_orders b)) where
  abbrev changed : Order
  changed = changed_to id quantity least (order_of s (live_orders b))

  pub changed-has : HasSlot s (live_orders (book_changed s id quantity least b))
  changed-has = subst (HasSlot s) (sym (live-reordered s changed b)) (with_order-has s changed (live_orders b) has)

  pub changed-is : order_of s (live_orders (book_changed s id quantity least b)) ≡ changed
  changed-is = ap (order_of s) (live-reordered s changed b) ∙ with_order-is s changed (live_orders b) has
