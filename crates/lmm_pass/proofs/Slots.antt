-- Slots still differ after a trade.
use Rattle.std.proofs.Common.{◌≡◌, ℕ, Bool, true, false, cond, not, List, [], ◌∷◌, ◌++◌, filter, sym, subst, inl, inr, ◌⊎◌}
use Rattle.std.proofs.lemmas.Bool.Decides.{eqb_tells}
use Rattle.std.specs.Prelude.{◌==◌}
use Rattle.gx_base.specs.declared.order.Order.{Order}
use Rattle.plain_book.specs.declared.entry.Entry.{Entry}
use Rattle.plain_book.specs.Orders.{is_at_earlier_level, HasSlot, without, with_order, placed, settled, refreshed}
use Rattle.plain_book.specs.Book.{AllDiffer}
use Rattle.plain_book.proofs.Levels.{HasSlot-filter, HasSlot-either, AllDiffer-filter}
use Rattle.plain_book.proofs.Walks.{AllDiffer-with_order}

HasSlot-insert : (s : ℕ) (xs ys : List Entry) (n : Entry) → HasSlot s (xs ++ n ∷ ys) → (n.slot ≡ s) ⊎ HasSlot s (xs ++ ys)
HasSlot-insert s [] ys n h = h
HasSlot-insert s (x ∷ xs) ys n h = elim h [ inl a ↦ inr (inl a) | inr a ↦ elim (HasSlot-insert s xs ys n a) [ inl b ↦ inl b | inr b ↦ inr (inr b) ] ]

differ-insert : (xs ys : List Entry) (n : Entry) → AllDiffer (xs ++ ys) → (HasSlot n.slot (xs ++ ys) → ⊥) → AllDiffer (xs ++ n ∷ ys)
differ-insert [] ys n d h = (h, d)
differ-insert (x ∷ xs) ys n d h = ((λ k. elim (HasSlot-insert x.slot xs ys n k) [ inl a ↦ h (inl (sym a)) | inr a ↦ d.0 a ]), differ-insert xs ys n d.1 (λ k. h (inr k)))

-- the two parts of a list that a test tells apart
abbrev parted : (Entry → Bool) → List Entry → List Entry
parted p es = filter (λ e. not (p e)) es ++ filter p es

parted-slots : (p : Entry → Bool) (s : ℕ) (es : List Entry) → HasSlot s (parted p es) → HasSlot s es
parted-slots p s es h = elim (HasSlot-either s (filter (λ e. not (p e)) es) (filter p es) h) [ inl a ↦ HasSlot-filter (λ e. not (p e)) s es a | inr a ↦ HasSlot-filter p s es a ]

parted-differ : (p : Entry → Bool) (es : List Entry) → AllDiffer es → AllDiffer (parted p es)
parted-differ p [] d = tt
parted-differ p (e ∷ es) d =
    let rest = parted-differ p es d.1 in
    let new : HasSlot e.slot (parted p es) → ⊥ = λ h. d.0 (parted-slots p e.slot es h) in
    elim (p e) as (λ b. AllDiffer (cond (not b) (e ∷ filter (λ x. not (p x)) es) (filter (λ x. not (p x)) es) ++ cond b (e ∷ filter p es) (filter p es))) [
      | true ↦ differ-insert (filter (λ x. not (p x)) es) (filter p es) e rest new
      | false ↦ (new, rest)
    ]

placed-differ : (n : Entry) (es : List Entry) → AllDiffer es → (HasSlot n.slot es → ⊥) → AllDiffer (placed n es)
placed-differ n es d h =
    differ-insert (filter (λ e. not (is_at_earlier_level n e)) es) (filter (is_at_earlier_level n) es) n (parted-differ (is_at_earlier_level n) es d) (λ k. h (parted-slots (is_at_earlier_level n) n.slot es k))

without-lacks : (s : ℕ) (es : List Entry) → HasSlot s (without s es) → ⊥
without-lacks s [] h = h
without-lacks s (e ∷ es) h = elim (eqb_tells e.slot s) [
  | inl t ↦ without-lacks s es (subst (λ (b : Bool). HasSlot s (cond (not b) (e ∷ without s es) (without s es))) t.0 h)
  | inr t ↦ elim (let k : HasSlot s (e ∷ without s es) = subst (λ (b : Bool). HasSlot s (cond (not b) (e ∷ without s es) (without s es))) t.0 h in k) [ inl a ↦ t.1 a | inr a ↦ without-lacks s es a ]
]

pub settled-differ : (s : ℕ) (o : Order) (es : List Entry) → AllDiffer es → AllDiffer (settled s o es)
settled-differ s o es d =
    let n : Entry = record { slot = s; order = refreshed o; is_top = false } in
    let gone = AllDiffer-filter (λ (e : Entry). not (e.slot == s)) es d in
    let go : (a b : Bool) → AllDiffer (cond a (without s es) (cond b (placed n (without s es)) (with_order s o es))) = elim [
      | true ↦ λ b. gone
      | false ↦ elim [ true ↦ placed-differ n (without s es) gone (without-lacks s es) | false ↦ AllDiffer-with_order s o es d ]
    ] in go (o.leaves == 0) (o.shown == 0)
