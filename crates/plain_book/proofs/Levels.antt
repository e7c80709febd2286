-- The levels of a list of orders, and one order of them.
use Rattle.std.proofs.Common.{◌≡◌, ℕ, Bool, true, false, cond, not, List, [], ◌∷◌, ◌++◌, filter, refl, sym, ap, subst, ◌∙◌, inl, inr, ◌⊎◌, eqb}
use Rattle.std.proofs.lemmas.List.Elements.{filter-append}
use Rattle.std.proofs.lemmas.Bool.Decides.{eqb_tells}
use Rattle.std.specs.Prelude.{◌==◌}
use Rattle.gx_base.specs.declared.order.Order.{Order}
use Rattle.plain_book.specs.declared.entry.Entry.{Entry}
use Rattle.plain_book.specs.Orders.{Level, level_of, is_level, is_at, is_before, is_at_earlier_level, HasSlot, order_of, slot_of, slot_after, without, with_order, reordered, placed}
use Rattle.plain_book.specs.Book.{AllDiffer}
pub use Rattle.book_order.proofs.Levels.{same, is_side-same, is_side-refl, and-left, and-right, level_at, is_level-same, is_level-refl, nat_lt-irrefl, is_better-irrefl, side_before-irrefl, is_before-irrefl}
use Rattle.plain_book.proofs.Filters.{filter-under, filter-apart}

-- ---- one slot in a list

pub HasSlot-filter : (p : Entry → Bool) (s : ℕ) (es : List Entry) → HasSlot s (filter p es) → HasSlot s es
HasSlot-filter p s [] h = h
HasSlot-filter p s (e ∷ es) h = let go : (b : Bool) → HasSlot s (cond b (e ∷ filter p es) (filter p es)) → HasSlot s (e ∷ es) = elim [
  | true ↦ λ k. elim k [ inl a ↦ inl a | inr a ↦ inr (HasSlot-filter p s es a) ]
  | false ↦ λ k. inr (HasSlot-filter p s es k)
] in go (p e) h

pub AllDiffer-filter : (p : Entry → Bool) (es : List Entry) → AllDiffer es → AllDiffer (filter p es)
AllDiffer-filter p [] d = d
AllDiffer-filter p (e ∷ es) d = elim (p e) as (λ b. AllDiffer (cond b (e ∷ filter p es) (filter p es))) [
  | true ↦ ((λ h. d.0 (HasSlot-filter p e.slot es h)), AllDiffer-filter p es d.1)
  | false ↦ AllDiffer-filter p es d.1
]

pub HasSlot-middle : (xs ys : List Entry) (e : Entry) → HasSlot e.slot (xs ++ e ∷ ys)
HasSlot-middle [] ys e = inl refl
HasSlot-middle (x ∷ xs) ys e = inr (HasSlot-middle xs ys e)

-- a test of a slot against one that a list lacks
pub other : (x e : Entry) (xs ys : List Entry) → AllDiffer (x ∷ (xs ++ e ∷ ys)) → eqb x.slot e.slot ≡ false
other x e xs ys d = elim (eqb_tells x.slot e.slot) [
  | inl t ↦ absurd (d.0 (subst (λ (n : ℕ). HasSlot n (xs ++ e ∷ ys)) (sym t.1) (HasSlot-middle xs ys e)))
  | inr t ↦ t.0
]

pub order_of-middle : (xs ys : List Entry) (e : Entry) → AllDiffer (xs ++ e ∷ ys) → order_of e.slot (xs ++ e ∷ ys) ≡ e.order
order_of-middle [] ys e d = ap (λ (b : Bool). cond b e.order (order_of e.slot ys)) (same e.slot)
order_of-middle (x ∷ xs) ys e d = ap (λ (b : Bool). cond b x.order (order_of e.slot (xs ++ e ∷ ys))) (other x e xs ys d) ∙ order_of-middle xs ys e d.1

pub slot_after-middle : (xs ys : List Entry) (e : Entry) → AllDiffer (xs ++ e ∷ ys) → slot_after e.slot (xs ++ e ∷ ys) ≡ slot_of ys
slot_after-middle [] ys e d = ap (λ (b : Bool). cond b (slot_of ys) (slot_after e.slot ys)) (same e.slot)
slot_after-middle (x ∷ xs) ys e d = ap (λ (b : Bool). cond b (slot_of (xs ++ e ∷ ys)) (slot_after e.slot (xs ++ e ∷ ys))) (other x e xs ys d) ∙ slot_after-middle xs ys e d.1

-- the order of a slot is the same in any part that has the slot
pub order_of-filter : (p : Entry → Bool) (s : ℕ) (es : List Entry) → AllDiffer es → HasSlot s (filter p es) → order_of s (filter p es) ≡ order_of s es
order_of-filter p s [] d h = refl
order_of-filter p s (e ∷ es) d h =
    let go : (b : Bool) → HasSlot s (cond b (e ∷ filter p es) (filter p es)) → order_of s (cond b (e ∷ filter p es) (filter p es)) ≡ order_of s (e ∷ es) = elim [
      | true ↦ λ k. elim k [
        | inl a ↦ ap (λ (c : Bool). cond c e.order (order_of s (filter p es))) (is_here a) ∙ sym (ap (λ (c : Bool). cond c e.order (order_of s es)) (is_here a))
        | inr a ↦ ap (λ (q : _). cond (eqb e.slot s) e.order q) (order_of-filter p s es d.1 a)
      ]
      | false ↦ λ k. order_of-filter p s es d.1 k ∙ sym (ap (λ (c : Bool). cond c e.order (order_of s es)) (not_here k))
    ] in go (p e) h
  where
    is_here : e.slot ≡ s → eqb e.slot s ≡ true
    is_here a = elim (eqb_tells e.slot s) [ inl t ↦ t.0 | inr t ↦ absurd (t.1 a) ]

    not_here : HasSlot s (filter p es) → eqb e.slot s ≡ false
    not_here k = elim (eqb_tells e.slot s) [
      | inl t ↦ absurd (d.0 (subst (λ (n : ℕ). HasSlot n es) (sym t.1) (HasSlot-filter p s es k)))
      | inr t ↦ t.0
    ]

-- e is not the slot that the list lacks
pub lacks : (s : ℕ) (e : Entry) (es : List Entry) → (HasSlot s (e ∷ es) → ⊥) → eqb e.slot s ≡ false
lacks s e es h = elim (eqb_tells e.slot s) [ inl t ↦ absurd (h (inl t.1)) | inr t ↦ t.0 ]

pub without-none : (s : ℕ) (es : List Entry) → (HasSlot s es → ⊥) → without s es ≡ es
without-none s [] h = refl
without-none s (e ∷ es) h = ap (λ (b : Bool). cond (not b) (e ∷ without s es) (without s es)) (lacks s e es h) ∙ ap (λ (q : List Entry). e ∷ q) (without-none s es (λ k. h (inr k)))

pub without-middle : (xs ys : List Entry) (e : Entry) → AllDiffer (xs ++ e ∷ ys) → without e.slot (xs ++ e ∷ ys) ≡ xs ++ ys
without-middle [] ys e d = ap (λ (b : Bool). cond (not b) (e ∷ without e.slot ys) (without e.slot ys)) (same e.slot) ∙ without-none e.slot ys d.0
without-middle (x ∷ xs) ys e d = ap (λ (b : Bool). cond (not b) (x ∷ without e.slot (xs ++ e ∷ ys)) (without e.slot (xs ++ e ∷ ys))) (other x e xs ys d) ∙ ap (λ (q : List Entry). x ∷ q) (without-middle xs ys e d.1)

abbrev pub renewed : Entry → Order → Entry
renewed e o = record e { order = o }

pub with_order-none : (s : ℕ) (o : Order) (es : List Entry) → (HasSlot s es → ⊥) → with_order s o es ≡ es
with_order-none s o [] h = refl
with_order-none s o (e ∷ es) h =
    ap (λ (b : Bool). cond b (renewed e o) e ∷ with_order s o es) (lacks s e es h) ∙ ap (λ (q : List Entry). e ∷ q) (with_order-none s o es (λ k. h (inr k)))

pub with_order-middle : (xs ys : List Entry) (e : Entry) (o : Order) → AllDiffer (xs ++ e ∷ ys) → with_order e.slot o (xs ++ e ∷ ys) ≡ xs ++ renewed e o ∷ ys
with_order-middle [] ys e o d = ap (λ (b : Bool). cond b (renewed e o) e ∷ with_order e.slot o ys) (same e.slot) ∙ ap (λ (q : List Entry). renewed e o ∷ q) (with_order-none e.slot o ys d.0)
with_order-middle (x ∷ xs) ys e o d = ap (λ (b : Bool). cond b (renewed x o) x ∷ with_order e.slot o (xs ++ e ∷ ys)) (other x e xs ys d) ∙ ap (λ (q : List Entry). x ∷ q) (with_order-middle xs ys e o d.1)

-- ---- levels

-- an order that is placed stands last in its level
pub placed-level : (n : Entry) (es : List Entry) → filter (is_at (level_of n.order)) (placed n es) ≡ filter (is_at (level_of n.order)) es ++ n ∷ []
placed-level n es =
    let k = level_of n.order in
    let here : (x : Entry) → is_at k x ≡ true → is_at_earlier_level n x ≡ false = λ x h. subst (λ (q : Level). is_before k q ≡ false) (sym (is_level-same _ _ h)) (is_before-irrefl k) in
    filter-append (is_at k) (filter (λ e. not (is_at_earlier_level n e)) es) (n ∷ filter (is_at_earlier_level n) es)
    ∙ ap (λ (q : List Entry). q ++ filter (is_at k) (n ∷ filter (is_at_earlier_level n) es)) (filter-under (is_at k) (λ e. not (is_at_earlier_level n e)) (λ x h. ap not (here x h)) es)
    ∙ ap (λ (b : Bool). filter (is_at k) es ++ cond b (n ∷ filter (is_at k) (filter (is_at_earlier_level n) es)) (filter (is_at k) (filter (is_at_earlier_level n) es))) (is_level-refl k)
    ∙ ap (λ (q : List Entry). filter (is_at k) es ++ n ∷ q) (filter-apart (is_at k) (is_at_earlier_level n) here es)

with_order-first : (b : Bool) (s : ℕ) (o : Order) (e x : Entry) (es ys : List Entry) → reordered s o e ≡ x → with_order s o es ≡ ys → with_order s o (cond b (e ∷ es) es) ≡ cond b (x ∷ ys) ys
with_order-first true s o e x es ys h t = ap (λ (q : Entry). q ∷ with_order s o es) h ∙ ap (λ (q : List Entry). x ∷ q) t
with_order-first false s o e x es ys h t = t

-- an order changes, and keeps its level
pub with_order-level : (k : Level) (s : ℕ) (o : Order) (es : List Entry) → AllDiffer es → level_of o ≡ level_of (order_of s es) → filter (is_at k) (with_order s o es) ≡ with_order s o (filter (is_at k) es)
with_order-level k s o [] d l = refl
with_order-level k s o (e ∷ es) d l =
    let F = filter (is_at k) es in
    elim (eqb_tells e.slot s) [
      | inl t ↦
          let lack : HasSlot s es → ⊥ = λ h. d.0 (subst (λ (n : ℕ). HasSlot n es) (sym t.1) h) in
          let lv : level_of o ≡ level_of e.order = l ∙ ap (λ (b : Bool). level_of (cond b e.order (order_of s es))) t.0 in
          let here : reordered s o e ≡ renewed e o = ap (λ (b : Bool). cond b (renewed e o) e) t.0 in
          ap (λ (x : Entry). filter (is_at k) (x ∷ with_order s o es)) here
          ∙ ap (λ (xs : List Entry). filter (is_at k) (renewed e o ∷ xs)) (with_order-none s o es lack)
          ∙ ap (λ (q : Level). cond (is_level q k) (renewed e o ∷ F) F) lv
          ∙ sym (with_order-first (is_at k e) s o e (renewed e o) F F here (with_order-none s o F (λ h. lack (HasSlot-filter (is_at k) s es h))))
      | inr t ↦
          let lv : level_of o ≡ level_of (order_of s es) = l ∙ ap (λ (b : Bool). level_of (cond b e.order (order_of s es))) t.0 in
          let here : reordered s o e ≡ e = ap (λ (b : Bool). cond b (renewed e o) e) t.0 in
          ap (λ (x : Entry). filter (is_at k) (x ∷ with_order s o es)) here
          ∙ ap (λ (xs : List Entry). cond (is_at k e) (e ∷ xs) xs) (with_order-level k s o es d.1 lv)
          ∙ sym (with_order-first (is_at k e) s o e e F (with_order s o F) here refl)
    ]

-- ---- a part of a list

pub HasSlot-left : (s : ℕ) (xs ys : List Entry) → HasSlot s xs → HasSlot s (xs ++ ys)
HasSlot-left s [] ys h = absurd h
HasSlot-left s (x ∷ xs) ys h = elim h [ inl a ↦ inl a | inr a ↦ inr (HasSlot-left s xs ys a) ]

pub HasSlot-right : (s : ℕ) (xs ys : List Entry) → HasSlot s ys → HasSlot s (xs ++ ys)
HasSlot-right s [] ys h = h
HasSlot-right s (x ∷ xs) ys h = inr (HasSlot-right s xs ys h)

pub HasSlot-either : (s : ℕ) (xs ys : List Entry) → HasSlot s (xs ++ ys) → HasSlot s xs ⊎ HasSlot s ys
HasSlot-either s [] ys h = inr h
HasSlot-either s (x ∷ xs) ys h = elim h [ inl a ↦ inl (inl a) | inr a ↦ elim (HasSlot-either s xs ys a) [ inl b ↦ inl (inr b) | inr b ↦ inr b ] ]

pub AllDiffer-front : (xs ys : List Entry) → AllDiffer (xs ++ ys) → AllDiffer xs
AllDiffer-front [] ys d = tt
AllDiffer-front (x ∷ xs) ys d = ((λ h. d.0 (HasSlot-left x.slot xs ys h)), AllDiffer-front xs ys d.1)

pub AllDiffer-back : (xs ys : List Entry) → AllDiffer (xs ++ ys) → AllDiffer ys
AllDiffer-back [] ys d = d
AllDiffer-back (x ∷ xs) ys d = AllDiffer-back xs ys d.1

-- no slot stands in both parts
pub slots-apart : (s : ℕ) (xs ys : List Entry) → AllDiffer (xs ++ ys) → HasSlot s xs → HasSlot s ys → ⊥
slots-apart s [] ys d h k = h
slots-apart s (x ∷ xs) ys d h k = elim h [
  | inl a ↦ d.0 (subst (λ (n : ℕ). HasSlot n (xs ++ ys)) (sym a) (HasSlot-right s xs ys k))
  | inr a ↦ slots-apart s xs ys d.1 a k
]

pub order_of-left : (s : ℕ) (xs ys : List Entry) → HasSlot s xs → order_of s (xs ++ ys) ≡ order_of s xs
order_of-left s [] ys h = absurd h
order_of-left s (x ∷ xs) ys h = elim (eqb_tells x.slot s) [
  | inl t ↦ ap (λ (b : Bool). cond b x.order (order_of s (xs ++ ys))) t.0 ∙ sym (ap (λ (b : Bool). cond b x.order (order_of s xs)) t.0)
  | inr t ↦ ap (λ (o : Order). cond (x.slot == s) x.order o) (order_of-left s xs ys (elim h [ inl a ↦ absurd (t.1 a) | inr a ↦ a ]))
]

pub order_of-right : (s : ℕ) (xs ys : List Entry) → (HasSlot s xs → ⊥) → order_of s (xs ++ ys) ≡ order_of s ys
order_of-right s [] ys h = refl
order_of-right s (x ∷ xs) ys h = ap (λ (b : Bool). cond b x.order (order_of s (xs ++ ys))) (lacks s x xs h) ∙ order_of-right s xs ys (λ k. h (inr k))
