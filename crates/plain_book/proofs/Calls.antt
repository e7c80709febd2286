-- What is true of every book stays true through each call of it, whatever keeps the book.
use Rattle.std.proofs.Common.{◌≡◌, ℕ, ◌<◌, Bool, true, false, cond, ◌&&◌, List, [], ◌∷◌, ◌++◌, length, Option, None, refl, sym, ap, subst, ◌∙◌, arith}
use Prim.Native.Nat.{suc}
use Rattle.std.proofs.lemmas.Bool.{true≢false}
use Rattle.std.specs.List.{AllByRecursion}
use Rattle.gx_base.specs.declared.order.Order.{Order}
use Rattle.gx_base.specs.declared.order.Side.{Side}
use Rattle.plain_book.specs.declared.entry.Entry.{Entry}
use Rattle.plain_book.specs.Orders.{level_of, HasSlot, order_of, is_live, is_named, is_on, is_at_earlier_level, is_new_best, without, placed, with_top, topped}
use Rattle.plain_book.specs.Book.{Book, live_orders, IsRight, IsResting, IsFitToRest, IsFitToWait, first_shown, makes_top, book_placed, book_waited, book_without}
use Rattle.plain_book.proofs.Levels.{HasSlot-left, slots-apart, order_of-left, without-none}
use Rattle.plain_book.proofs.Pairs.{all-from, all-filter, all-map, all-with, none-any}
use Rattle.plain_book.proofs.Live.{AllOrders}
use Rattle.plain_book.proofs.Named.{Unnamed, unnamed-without}
use Rattle.plain_book.proofs.Tops.{NoTopBehind, not-best-none, new-best-all, standing-not-best, on-sym}
use Rattle.plain_book.proofs.Right.{other_slot, live-without, length-without, without-gone, right-without, resting_as, right-placed, right-lined, slots-marked, length-marked, right-marked}
use Rattle.plain_book.proofs.Fits.{fit-placed, fit-waited}

-- ---- an order comes

pub orders-marked : (P : Order → Type 0) (i : ℕ) (d : Side) (top : Option ℕ) (es ws : List Entry) → AllOrders P (es ++ ws) → AllOrders P (with_top i d top es ++ ws)
orders-marked P i d top [] ws h = h
orders-marked P i d top (e ∷ es) ws h = (h.0, orders-marked P i d top es ws h.1)

-- where a new best has ended TOP, no order of its side is marked
pub none-marked : (n : Entry) (es : List Entry) → AllByRecursion (NoTopBehind n) (with_top n.order.instrument n.order.side None es)
none-marked n [] = tt
none-marked n (e ∷ es) = (
  (λ behind top on.
      let mine : is_on n.order.instrument n.order.side e ≡ true = on-sym e n on in
      true≢false (sym top ∙ ap (λ (c : Bool). cond c false e.is_top) mine)),
  none-marked n es,
)

module _ (b : Book) (s : ℕ) (r : IsRight b) (room : length (live_orders b) < b.capacity) (fresh : HasSlot s (live_orders b) → ⊥) where
  pub right-book_placed : (o : Order) (least : Option ℕ) → IsFitToRest b.instruments o → is_live o.firm o.id (live_orders b) ≡ false → IsRight (book_placed s o least b)
  right-book_placed o least p u =
      let i = o.instrument in
      let d = o.side in
      let enough = makes_top least o.leaves in
      let rests : Order = record o { shown = first_shown o } in
      let newcomer : Bool → Entry = λ (top : Bool). record { slot = s; order = rests; is_top = top } in
      let unnamed : AllOrders (Unnamed rests) (live_orders b) = none-any (is_named o.firm o.id) (live_orders b) u in
      let fit = fit-placed b.instruments o p in
      let go : (c : Bool) → is_new_best o b.resting ≡ c → IsRight (resting_as b (placed (newcomer (c && enough)) (cond c (with_top i d None b.resting) b.resting))) = elim [
        | true ↦ λ best.
            let n = newcomer enough in
            let marked = with_top i d None b.resting in
            let F = λ (x : Entry). is_on i d x ≡ true → is_at_earlier_level n x ≡ true in
            let G = λ (x : Entry). enough ≡ true → is_on i d x ≡ true → is_at_earlier_level n x ≡ true in
            right-placed (resting_as b marked) n (right-marked b i d None r tt) (omega (arith, length-marked i d None b.resting b.waiting, room))
            (λ h. fresh (slots-marked i d None s b.resting b.waiting h))
            (orders-marked (Unnamed rests) i d None b.resting b.waiting unnamed) fit
            (all-map F G (topped i d None) (λ x h _ on. h on) b.resting (new-best-all n b.resting r.ordered best))
            (none-marked n b.resting)
        | false ↦ λ worse.
            let n = newcomer false in
            right-placed b n r room fresh unnamed fit
            (all-from (λ (x : Entry). false ≡ true → is_on i d x ≡ true → is_at_earlier_level n x ≡ true) (λ x t. absurd (true≢false (sym t))) b.resting)
            (not-best-none n b.resting r.tops worse)
      ] in go (is_new_best o b.resting) refl

  pub right-book_waited : (o : Order) → IsFitToWait b.instruments o → is_live o.firm o.id (live_orders b) ≡ false → IsRight (book_waited s o b)
  right-book_waited o p u =
      let waits : Order = record o { shown = 0 } in
      let n : Entry = record { slot = s; order = waits; is_top = false } in
      right-lined b n r room fresh (none-any (is_named o.firm o.id) (live_orders b) u) (fit-waited b.instruments o p)

-- ---- an order goes after the others of its level

module _ (b : Book) (k : IsRight b) where
  -- an order that rests does not wait
  pub rests-alone : (s : ℕ) → HasSlot s b.resting → book_without s b ≡ resting_as b (without s b.resting)
  rests-alone s h = ap (λ (q : List Entry). record b { resting = without s b.resting; waiting = q }) (without-none s b.waiting (λ w. slots-apart s b.resting b.waiting k.differ h w))

  pub right-back : (s : ℕ) (o : Order) → HasSlot s b.resting → level_of o ≡ level_of (order_of s b.resting) → o.firm ≡ (order_of s b.resting).firm → o.id ≡ (order_of s b.resting).id → IsResting b.instruments o
      → IsRight (resting_as b (placed (record { slot = s; order = o; is_top = false }) (without s b.resting)))
  right-back s o has l f i fit =
      let n : Entry = record { slot = s; order = o; is_top = false } in
      let h = HasSlot-left s b.resting b.waiting has in
      let old = order_of s (live_orders b) in
      let is : old ≡ order_of s b.resting = order_of-left s b.resting b.waiting has in
      let one = resting_as b (without s b.resting) in
      let same = rests-alone s has in
      let live : live_orders one ≡ without s (live_orders b) = ap live_orders (sym same) ∙ live-without s b in
      let right : IsRight one = subst IsRight same (right-without b s k h) in
      let shorter : suc (length (live_orders one)) ≡ length (live_orders b) = ap (λ (q : List Entry). suc (length q)) live ∙ length-without s (live_orders b) k.differ h in
      let gone : HasSlot s (live_orders one) → ⊥ = λ q. without-gone s (live_orders b) (subst (HasSlot s) live q) in
      let unnamed : AllOrders (Unnamed o) (live_orders one) =
      subst (AllOrders (Unnamed o)) (sym live) (unnamed-as old o (without s (live_orders b)) (f ∙ ap (λ (x : Order). x.firm) (sym is)) (i ∙ ap (λ (x : Order). x.id) (sym is)) (unnamed-without s (live_orders b) k.named h)) in
      let none : AllByRecursion (NoTopBehind n) (without s b.resting) =
      all-filter (NoTopBehind n) (other_slot s) b.resting (not-best-none n b.resting k.tops (standing-not-best n s b.resting k.ordered has (sym l))) in
      right-placed one n right (omega (arith, shorter, k.few)) gone unnamed fit (all-from (λ (x : Entry). false ≡ true → is_on o.instrument o.side x ≡ true → is_at_earlier_level n x ≡ true) (λ x t. absurd (true≢false (sym t))) (without s b.resting)) none
    where
      unnamed-as : (p q : Order) (es : List Entry) → q.firm ≡ p.firm → q.id ≡ p.id → AllOrders (Unnamed p) es → AllOrders (Unnamed q) es
      unnamed-as p q es f i h = all-with (λ (e : Entry). Unnamed p e.order) (λ (e : Entry). Unnamed q e.order) (λ e u. ap (λ (n : ℕ). is_named n q.id e) f ∙ ap (λ (n : List ℕ). is_named p.firm n e) i ∙ u) es h
