-- TOP beside the orders: the marks that it makes, and what they become.
use Rattle.std.proofs.Common.{◌≡◌, ℕ, Bool, true, false, cond, ◌&&◌, List, [], ◌∷◌, map, refl, sym, ap, ◌∙◌, inr}
use Rattle.std.specs.Prelude.{◌==◌, Option, None, Some}
use Rattle.gx_base.specs.declared.order.Side.{Side}
use Rattle.plain_book.specs.declared.entry.Entry.{Entry}
use Rattle.plain_book.specs.Orders.{is_side, is_on, is_slot_in, topped, with_top, HasSlot}
use Rattle.plain_book.proofs.Levels.{lacks}
use Rattle.price_level.specs.declared.row.LevelRow.{LevelRow}
use Rattle.book_side.specs.Inner.Flat.{queues_of}
use Rattle.book_side.specs.Inner.Content.{Held, marked, resting_of}
use Rattle.book_side.proofs.Flat.{flat-map, flat-same}

-- TOP of one side is another
abbrev pub IsTopSet : (ℕ → Side → Option ℕ) → (ℕ → Side → Option ℕ) → ℕ → Side → Option ℕ → Type 0
IsTopSet T U instrument side top = (i : ℕ) → (s : Side) → U i s ≡ cond ((i == instrument) && is_side s side) top (T i s)

module _ (T U : ℕ → Side → Option ℕ) (i : ℕ) (d : Side) (t : Option ℕ) (set : IsTopSet T U i d t) where
  marked-set : (h : Held) → marked U h ≡ topped i d t (marked T h)
  marked-set h =
      let on = (h.1.instrument == i) && is_side h.1.side d in
      let go : (c : Bool) → is_slot_in (cond c t (T h.1.instrument h.1.side)) h.0 ≡ cond c (is_slot_in t h.0) (is_slot_in (T h.1.instrument h.1.side) h.0) = elim [ true ↦ refl | false ↦ refl ] in
      ap (λ (b : Bool). let e : Entry = record { slot = h.0; order = h.1; is_top = b } in e) (ap (λ (o : Option ℕ). is_slot_in o h.0) (set h.1.instrument h.1.side) ∙ go on)

  pub marks-set : (hs : List Held) → map (marked U) hs ≡ with_top i d t (map (marked T) hs)
  marks-set [] = refl
  marks-set (h ∷ hs) = ap (λ (e : Entry). e ∷ map (marked U) hs) (marked-set h) ∙ ap (λ (l : List Entry). topped i d t (marked T h) ∷ l) (marks-set hs)

  pub resting-set : (P : ℕ → List Held) (rs : List LevelRow) → resting_of U P rs ≡ with_top i d t (resting_of T P rs)
  resting-set P rs =
      flat-same (λ q. map (marked U) (P q)) (λ q. with_top i d t (map (marked T) (P q))) (queues_of rs) (λ q. marks-set (P q))
      ∙ sym (flat-map (topped i d t) (λ q. map (marked T) (P q)) (queues_of rs))

-- a slot that no order has marks none
pub top-none : (i : ℕ) (d : Side) (s : ℕ) (es : List Entry) → (HasSlot s es → ⊥) → with_top i d (Some s) es ≡ with_top i d None es
top-none i d s [] h = refl
top-none i d s (e ∷ es) h =
    ap (λ (b : Bool). record e { is_top = cond (is_on i d e) b e.is_top } ∷ with_top i d (Some s) es) (lacks s e es h)
    ∙ ap (λ (l : List Entry). record e { is_top = cond (is_on i d e) false e.is_top } ∷ l) (top-none i d s es (λ k. h (inr k)))

-- the marks of a list are those that TOP makes
abbrev pub IsMarked : (ℕ → Side → Option ℕ) → Entry → Type 0
IsMarked T e = e.is_top ≡ is_slot_in (T e.order.instrument e.order.side) e.slot
