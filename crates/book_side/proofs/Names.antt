-- What ids and TOP find in a list of orders into which one is put, or whose marks change.
use Rattle.std.proofs.Common.{◌≡◌, ℕ, Bool, true, false, cond, List, [], ◌∷◌, ◌++◌, filter, refl, sym, ap, subst, ◌∙◌, inl, inr}
use Rattle.std.proofs.lemmas.List.Elements.{filter-append}
use Rattle.std.proofs.lemmas.Bool.Decides.{Decides-eqb}
use Rattle.std.proofs.lemmas.Slice.Eq.{bytes_eq-Decides}
use Rattle.std.specs.Prelude.{◌==◌, Option, None, Some}
use Rattle.std.specs.List.{AllByRecursion}
use Rattle.gx_base.specs.declared.order.Side.{Side}
use Rattle.plain_book.specs.declared.entry.Entry.{Entry}
use Rattle.plain_book.specs.Orders.{is_on, is_named, is_live, side_of, slot_of, slot_named, topped, with_top, HasSlot}
use Rattle.plain_book.proofs.Levels.{HasSlot-left, HasSlot-right, HasSlot-either, HasSlot-middle, and-left, and-right}
use Rattle.plain_book.proofs.Pairs.{none-any}
use Rattle.plain_book.proofs.Sorted.{IsInserted}
use Rattle.book_side.specs.Inner.Linked.{IsTopOf}

-- ---- ids

pub names-none : (f : ℕ) (i : List ℕ) (es : List Entry) → AllByRecursion (λ (e : Entry). is_named f i e ≡ false) es → filter (is_named f i) es ≡ []
names-none f i [] h = refl
names-none f i (e ∷ es) h = ap (λ (b : Bool). cond b (e ∷ filter (is_named f i) es) (filter (is_named f i) es)) h.0 ∙ names-none f i es h.1

pub unnamed-looked : (f : ℕ) (i : List ℕ) (es : List Entry) → is_live f i es ≡ false → slot_named f i es ≡ None
unnamed-looked f i es h = ap slot_of (names-none f i es (none-any (is_named f i) es h))

front-of : (P : Entry → Type 0) (xs ys : List Entry) → AllByRecursion P (xs ++ ys) → AllByRecursion P xs
front-of P [] ys h = tt
front-of P (x ∷ xs) ys h = (h.0, front-of P xs ys h.1)

-- an order comes whose name no order has
pub inserted-named : (n : Entry) (es fs : List Entry) → IsInserted n es fs → AllByRecursion (λ (e : Entry). is_named n.order.firm n.order.id e ≡ false) es
    → (f : ℕ) (i : List ℕ) → slot_named f i fs ≡ cond (is_named f i n) (Some n.slot) (slot_named f i es)
inserted-named n es fs r u f i =
    let X = filter (is_named f i) r.front in
    let Y = filter (is_named f i) r.back in
    let split : slot_named f i fs ≡ slot_of (X ++ cond (is_named f i n) (n ∷ Y) Y) = ap (slot_named f i) r.is ∙ ap slot_of (filter-append (is_named f i) r.front (n ∷ r.back)) in
    let go : (b : Bool) → is_named f i n ≡ b → slot_of (X ++ cond b (n ∷ Y) Y) ≡ cond b (Some n.slot) (slot_named f i es) = elim [
      | true ↦ λ h.
          let ef : n.order.firm ≡ f = (Decides-eqb n.order.firm f).0 (and-left _ _ h) in
          let ei : n.order.id ≡ i = (bytes_eq-Decides n.order.id i).0 (and-right (n.order.firm == f) _ h) in
          let none : AllByRecursion (λ (e : Entry). is_named f i e ≡ false) es = subst (λ (g : ℕ). AllByRecursion (λ (e : Entry). is_named g i e ≡ false) es) ef (subst (λ (j : List ℕ). AllByRecursion (λ (e : Entry). is_named n.order.firm j e ≡ false) es) ei u) in
          ap (λ (l : List Entry). slot_of (l ++ n ∷ Y)) (names-none f i r.front (front-of (λ (e : Entry). is_named f i e ≡ false) r.front r.back (subst (AllByRecursion (λ (e : Entry). is_named f i e ≡ false)) r.whole none)))
      | false ↦ λ h. ap slot_of (sym (filter-append (is_named f i) r.front r.back)) ∙ ap (slot_named f i) (sym r.whole)
    ] in split ∙ go (is_named f i n) refl

pub marked-named : (a : ℕ) (d : Side) (t : Option ℕ) (f : ℕ) (i : List ℕ) (es ws : List Entry) → slot_named f i (with_top a d t es ++ ws) ≡ slot_named f i (es ++ ws)
marked-named a d t f i [] ws = refl
marked-named a d t f i (e ∷ es) ws =
    let x = topped a d t e in
    let go : (b : Bool) → slot_of (cond b (x ∷ filter (is_named f i) (with_top a d t es ++ ws)) (filter (is_named f i) (with_top a d t es ++ ws))) ≡ slot_of (cond b (e ∷ filter (is_named f i) (es ++ ws)) (filter (is_named f i) (es ++ ws))) = elim [
      | true ↦ refl
      | false ↦ marked-named a d t f i es ws
    ] in go (is_named f i e)

-- ---- TOP

has-first : (s : ℕ) (b : Bool) (e : Entry) (es : List Entry) → HasSlot s es → HasSlot s (cond b (e ∷ es) es)
has-first s true e es h = inr h
has-first s false e es h = h

pub inserted-side : (n : Entry) (es fs : List Entry) → IsInserted n es fs → (i : ℕ) (d : Side) (s : ℕ) → HasSlot s (side_of i d es) → HasSlot s (side_of i d fs)
inserted-side n es fs r i d s h =
    let X = side_of i d r.front in
    let Y = side_of i d r.back in
    let k : HasSlot s (X ++ Y) = subst (HasSlot s) (ap (side_of i d) r.whole ∙ filter-append (is_on i d) r.front r.back) h in
    subst (HasSlot s) (sym (ap (side_of i d) r.is ∙ filter-append (is_on i d) r.front (n ∷ r.back)))
    (elim (HasSlot-either s X Y k) [
      | inl e ↦ HasSlot-left s X (cond (is_on i d n) (n ∷ Y) Y) e
      | inr e ↦ HasSlot-right s X (cond (is_on i d n) (n ∷ Y) Y) (has-first s (is_on i d n) n Y e)
    ])

pub inserted-on : (n : Entry) (es fs : List Entry) → IsInserted n es fs → (i : ℕ) (d : Side) → is_on i d n ≡ true → HasSlot n.slot (side_of i d fs)
inserted-on n es fs r i d on =
    let X = side_of i d r.front in
    let Y = side_of i d r.back in
    subst (HasSlot n.slot) (sym (ap (side_of i d) r.is ∙ filter-append (is_on i d) r.front (n ∷ r.back) ∙ ap (λ (b : Bool). X ++ cond b (n ∷ Y) Y) on)) (HasSlot-middle X Y n)

pub marked-side : (a : ℕ) (b : Side) (t : Option ℕ) (i : ℕ) (d : Side) (s : ℕ) (es : List Entry) → HasSlot s (side_of i d es) → HasSlot s (side_of i d (with_top a b t es))
marked-side a b t i d s [] h = h
marked-side a b t i d s (e ∷ es) h =
    let go : (c : Bool) → HasSlot s (cond c (e ∷ side_of i d es) (side_of i d es)) → HasSlot s (cond c (topped a b t e ∷ side_of i d (with_top a b t es)) (side_of i d (with_top a b t es))) = elim [
      | true ↦ λ k. elim k [ inl x ↦ inl x | inr x ↦ inr (marked-side a b t i d s es x) ]
      | false ↦ λ k. marked-side a b t i d s es k
    ] in go (is_on i d e) h

pub top-through : (o : Option ℕ) (es fs : List Entry) → ((s : ℕ) → HasSlot s es → HasSlot s fs) → IsTopOf o es → IsTopOf o fs
top-through None es fs f h = tt
top-through (Some s) es fs f h = f s h
