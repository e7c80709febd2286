-- An order keeps its slot while another one trades.
use Rattle.std.proofs.Common.{◌≢◌, ℕ, Bool, true, false, cond, not, List, [], ◌∷◌, filter, sym, subst, ◌∙◌, inl, inr, ◌⊎◌}
use Rattle.std.specs.Prelude.{◌==◌}
use Rattle.std.proofs.lemmas.Bool.Decides.{eqb_tells}
use Rattle.gx_base.specs.declared.order.Order.{Order}
use Rattle.plain_book.specs.declared.entry.Entry.{Entry}
use Rattle.plain_book.specs.Orders.{HasSlot, without, with_order, placed, settled, refreshed, is_at_earlier_level}
use Rattle.plain_book.proofs.Levels.{HasSlot-left, HasSlot-right}
use Rattle.plain_book.proofs.Walks.{HasSlot-with_order}

-- slot s leaves
pub HasSlot-without : (t s : ℕ) (es : List Entry) → t ≢ s → HasSlot t es → HasSlot t (without s es)
HasSlot-without t s [] other h = h
HasSlot-without t s (e ∷ es) other h = elim (eqb_tells e.slot s) [
  | inl u ↦ subst (λ (b : Bool). HasSlot t (cond (not b) (e ∷ without s es) (without s es))) (sym u.0) (elim h [ inl is ↦ absurd (other (sym is ∙ u.1)) | inr more ↦ HasSlot-without t s es other more ])
  | inr u ↦ subst (λ (b : Bool). HasSlot t (cond (not b) (e ∷ without s es) (without s es))) (sym u.0) (elim h [ inl is ↦ inl is | inr more ↦ inr (HasSlot-without t s es other more) ])
]

-- it passes a test, or it does not
HasSlot-half : (p : Entry → Bool) (t : ℕ) (es : List Entry) → HasSlot t es → HasSlot t (filter (λ e. not (p e)) es) ⊎ HasSlot t (filter p es)
HasSlot-half p t [] h = absurd h
HasSlot-half p t (e ∷ es) h =
    let F = filter (λ x. not (p x)) es in
    let G = filter p es in
    let go : (b : Bool) → HasSlot t (cond (not b) (e ∷ F) F) ⊎ HasSlot t (cond b (e ∷ G) G) = elim [
      | true ↦ elim h [ inl is ↦ inr (inl is) | inr more ↦ elim (HasSlot-half p t es more) [ inl f ↦ inl f | inr g ↦ inr (inr g) ] ]
      | false ↦ elim h [ inl is ↦ inl (inl is) | inr more ↦ elim (HasSlot-half p t es more) [ inl f ↦ inl (inr f) | inr g ↦ inr g ] ]
    ] in go (p e)

pub HasSlot-placed : (t : ℕ) (n : Entry) (es : List Entry) → HasSlot t es → HasSlot t (placed n es)
HasSlot-placed t n es h =
    let p = is_at_earlier_level n in
    let F = filter (λ e. not (p e)) es in
    let G = filter p es in
    elim (HasSlot-half p t es h) [ inl f ↦ HasSlot-left t F (n ∷ G) f | inr g ↦ HasSlot-right t F (n ∷ G) (inr g) ]

-- slot s trades
pub HasSlot-settled : (t s : ℕ) (o : Order) (es : List Entry) → t ≢ s → HasSlot t es → HasSlot t (settled s o es)
HasSlot-settled t s o es other h =
    let n : Entry = record { slot = s; order = refreshed o; is_top = false } in
    let left = HasSlot-without t s es other h in
    let go : (x y : Bool) → HasSlot t (cond x (without s es) (cond y (placed n (without s es)) (with_order s o es))) = elim [
      | true ↦ λ y. left
      | false ↦ elim [ true ↦ HasSlot-placed t n (without s es) left | false ↦ HasSlot-with_order s t o es h ]
    ] in go (o.leaves == 0) (o.shown == 0)
