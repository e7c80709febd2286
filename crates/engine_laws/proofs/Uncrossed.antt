-- No sweep crosses a book, and no order does that comes to rest after it.
use Rattle.std.proofs.Common.{◌≡◌, ℕ, ◌≤◌, Bool, true, false, cond, not, ◌&&◌, List, refl, sym, ap, subst, ◌∙◌, arith, inl, inr, Option, Some, None}
use Rattle.std.specs.Prelude.{◌==◌}
use Rattle.std.specs.List.{AllByRecursion}
use Rattle.std.proofs.lemmas.Bool.Decides.{eqb_tells}
use Rattle.gx_base.specs.declared.price.Price.{Price}
use Rattle.gx_base.specs.declared.order.Order.{Order}
use Rattle.gx_base.specs.declared.order.Side.{Side}
use Rattle.gx_base.specs.declared.order.Side.TheVariants.{Buy, Sell}
use Rattle.gx_base.specs.declared.order.Taker.{Taker}
use Rattle.step_config.specs.declared.step.Step.{Step}
use Rattle.plain_book.specs.declared.entry.Entry.{Entry}
use Rattle.plain_book.specs.Orders.{Level, level_of, opposite, is_side, is_on, is_better, is_best_price, is_new_best, is_at_earlier_level, best_of, placed, with_top, topped}
use Rattle.plain_book.specs.Book.{Book, IsRight, EachPair, AreInBookOrder, first_shown, makes_top, resting_placed, book_placed}
use Rattle.plain_book.specs.Match.{MatchState}
use Rattle.plain_book.proofs.Levels.{same, is_side-refl}
use Rattle.plain_book.proofs.Pairs.{all-with, all-both, all-map}
use Rattle.plain_book.proofs.Live.{orders-placed}
use Rattle.plain_book.proofs.Tops.{behind-on, new-best-all}
use Rattle.level_sweep.specs.Sweep.{sweep, within_limit, IsSweepDone}
use Rattle.engine_laws.specs.MatchLaws.{AreApart, IsUncrossed}
use Rattle.level_sweep.proofs.Standing.{right-in-order}
use Rattle.engine_laws.proofs.SweptBooks.{Levels, sweep-levels, sweep-in-order}
use Rattle.level_sweep.proofs.Swept.{sweep-order}

-- where no level is added, none is crossed
pub uncrossed-moved : (es fs : List Entry) → ((P : Level → Type 0) → Levels P es → Levels P fs) → IsUncrossed es → IsUncrossed fs
uncrossed-moved es fs keep h =
    let half : Levels (λ k. Levels (AreApart k) es) fs = keep (λ k. Levels (AreApart k) es) h in
    all-with (λ (e : Entry). Levels (AreApart (level_of e.order)) es) (λ (e : Entry). Levels (AreApart (level_of e.order)) fs) (λ e a. keep (AreApart (level_of e.order)) a) fs half

pub sweep-uncrossed : (steps : List Step) (limit : Price) (m : MatchState) → IsUncrossed m.book.resting → IsUncrossed (sweep steps limit m).book.resting
sweep-uncrossed steps limit m h = uncrossed-moved m.book.resting (sweep steps limit m).book.resting (λ P a. sweep-levels P steps limit m a) h

levels-topped : (i : ℕ) (s : Side) (top : Option ℕ) (P : Level → Type 0) (es : List Entry) → Levels P es → Levels P (with_top i s top es)
levels-topped i s top P es h = all-map (λ (e : Entry). P (level_of e.order)) (λ (e : Entry). P (level_of e.order)) (topped i s top) (λ x k. k) es h

-- ---- an order that comes to rest

-- two levels are apart, either way round
abbrev AreClear : Level → Level → Type 0
AreClear k l = AreApart k l × AreApart l k

apart-self : (k : Level) → AreApart k k
apart-self k i b s = absurd (let e : Buy ≡ Sell = sym b ∙ s in cc)

-- an order that is apart from all of an uncrossed list
uncrossed-placed : (n : Entry) (es : List Entry) → Levels (AreClear (level_of n.order)) es → IsUncrossed es → IsUncrossed (placed n es)
uncrossed-placed n es clear h =
    let k = level_of n.order in
    let here : Levels (AreApart k) (placed n es) =
    orders-placed (λ (o : Order). AreApart k (level_of o)) n es (apart-self k)
    (all-with (λ (e : Entry). AreClear k (level_of e.order)) (λ (e : Entry). AreApart k (level_of e.order)) (λ e c. c.0) es clear) in
    let A = λ (e : Entry). AreClear k (level_of e.order) in
    let B = λ (e : Entry). Levels (AreApart (level_of e.order)) es in
    let C = λ (e : Entry). Levels (AreApart (level_of e.order)) (placed n es) in
    let there : AllByRecursion C es =
    all-with (λ (e : Entry). A e × B e) C (λ e c. orders-placed (λ (o : Order). AreApart (level_of e.order) (level_of o)) n es c.0.1 c.1) es (all-both A B es clear h) in
    orders-placed (λ (o : Order). Levels (AreApart (level_of o)) (placed n es)) n es here there

-- ---- the orders that an incoming one meets

-- the incoming order, as if it stood on the other side
abbrev as_facing : Order → Entry
as_facing o = record { slot = 0; order = record o { side = opposite o.side }; is_top = false }

on-facing : (i j : ℕ) (s t : Side) → i ≡ j → s ≡ t → ((j == i) && is_side t s) ≡ true
on-facing i j s t e f =
    ap (λ (n : ℕ). (j == n) && is_side t s) e ∙ ap (λ (d : Side). (j == j) && is_side t d) f ∙ ap (λ (b : Bool). b && is_side t t) (same j) ∙ is_side-refl t

-- no price is within the limit
none-within : (d : Side) (limit : Price) (best : Option Price) → within_limit d limit best ≡ None → is_best_price d limit.0 best ≡ true
none-within d limit None h = refl
none-within d limit (Some p) h =
    let go : (b : Bool) → cond (not b) (Some p) None ≡ None → b ≡ true = elim [
      | true ↦ λ k. refl
      | false ↦ λ k. absurd (let e : Some p ≡ None = k in cc)
    ] in go (is_better d limit.0 p.0) h

-- so it is apart from each order
abbrev IsBeyond : Order → Entry → Type 0
IsBeyond o x = is_on o.instrument (opposite o.side) x ≡ true → is_better (opposite o.side) o.price.0 x.order.price.0 ≡ true

beyond-all : (o : Order) (es : List Entry) → EachPair AreInBookOrder es → is_best_price (opposite o.side) o.price.0 (best_of o.instrument (opposite o.side) es) ≡ true → AllByRecursion (IsBeyond o) es
beyond-all o es r h =
    let n = as_facing o in
    all-with (λ (x : Entry). is_on o.instrument (opposite o.side) x ≡ true → is_at_earlier_level n x ≡ true) (IsBeyond o) (λ x b on. sym (behind-on n x on) ∙ b on) es (new-best-all n es r h)

beyond-clear : (o : Order) (x : Entry) → IsBeyond o x → AreClear (level_of o) (level_of x.order)
beyond-clear o x h = (
  (λ i b s.
      let on : is_on o.instrument (opposite o.side) x ≡ true = on-facing _ _ _ _ i (ap opposite b ∙ sym s) in
      subst (λ (d : Side). is_better (opposite d) o.price.0 x.order.price.0 ≡ true) b (h on)),
  (λ i b s.
      let on : is_on o.instrument (opposite o.side) x ≡ true = on-facing _ _ _ _ (sym i) (ap opposite s ∙ sym b) in
      subst (λ (d : Side). is_better (opposite d) o.price.0 x.order.price.0 ≡ true) s (h on)),
)

resting-uncrossed : (slot : ℕ) (o : Order) (top_min : Option ℕ) (es : List Entry) → Levels (AreClear (level_of o)) es → IsUncrossed es → IsUncrossed (resting_placed slot o top_min es)
resting-uncrossed slot o top_min es clear h =
    let marked = with_top o.instrument o.side None es in
    let keep : (P : Level → Type 0) → Levels P es → Levels P marked = λ P a. levels-topped o.instrument o.side None P es a in
    let newcomer = λ (top : Bool). let n : Entry = record { slot = slot; order = record o { shown = first_shown o }; is_top = top } in n in
    let go : (c : Bool) → IsUncrossed (placed (newcomer (c && makes_top top_min o.leaves)) (cond c marked es)) = elim [
      | true ↦ uncrossed-placed (newcomer (makes_top top_min o.leaves)) marked (keep (AreClear (level_of o)) clear) (uncrossed-moved es marked keep h)
      | false ↦ uncrossed-placed (newcomer false) es clear h
    ] in go (is_new_best o es)

-- where a sweep to its limit is done, an order crosses nothing
pub done-uncrossed : (slot : ℕ) (limit : Price) (t : Taker) (top_min : Option ℕ) (b : Book) → t.order.price ≡ limit → EachPair AreInBookOrder b.resting → IsUncrossed b.resting → IsSweepDone limit b t → 1 ≤ t.order.leaves
    → IsUncrossed (book_placed slot t.order top_min b).resting
done-uncrossed slot limit t top_min b is r h done some =
    let d = opposite t.order.side in
    let best = best_of t.order.instrument d b.resting in
    let within : within_limit d limit best ≡ None = elim (eqb_tells t.order.leaves 0) [
      | inl z ↦ absurd (omega (arith, z.1, some))
      | inr z ↦ sym (ap (λ (c : Bool). cond c None (within_limit d limit best)) z.0) ∙ done
    ] in
    let beyond : AllByRecursion (IsBeyond t.order) b.resting = beyond-all t.order b.resting r (ap (λ (p : Price). is_best_price d p.0 best) is ∙ none-within d limit best within) in
    resting-uncrossed slot t.order top_min b.resting (all-with (IsBeyond t.order) (λ (e : Entry). AreClear (level_of t.order) (level_of e.order)) (λ e k. beyond-clear t.order e k) b.resting beyond) h

pub rested-uncrossed : (steps : List Step) (m : MatchState) (slot : ℕ) (top_min : Option ℕ) → IsRight m.book → IsUncrossed m.book.resting
    → IsSweepDone m.taker.order.price (sweep steps m.taker.order.price m).book (sweep steps m.taker.order.price m).taker
    → 1 ≤ (sweep steps m.taker.order.price m).taker.order.leaves
    → IsUncrossed (book_placed slot (sweep steps m.taker.order.price m).taker.order top_min (sweep steps m.taker.order.price m).book).resting
rested-uncrossed steps m slot top_min right h done some =
    let limit = m.taker.order.price in
    let end = sweep steps limit m in
    done-uncrossed slot limit end.taker top_min end.book (ap (λ (o : Order). o.price) (sweep-order steps limit m)) (sweep-in-order steps limit m (right-in-order m.book right)).ordered (sweep-uncrossed steps limit m h) done some
