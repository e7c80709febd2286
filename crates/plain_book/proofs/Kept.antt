-- How a book that keeps its two lists keeps its slots, its room, and what is true of every book.
use Rattle.std.proofs.Common.{◌≡◌, ℕ, ◌+◌, ◌<◌, ◌≤◌, Bool, true, false, cond, ◌&&◌, List, [], ◌∷◌, ◌++◌, length, Option, None, refl, sym, ap, subst, ◌∙◌, arith, inl, inr, ◌⊎◌, length-append}
use Prim.Native.Nat.{suc}
use Rattle.std.proofs.lemmas.List.{length-map}
use Rattle.std.proofs.lemmas.Bool.Decides.{eqb_tells}
use Rattle.gx_base.specs.declared.order.Order.{Order}
use Rattle.gx_base.specs.declared.order.Side.{Side}
use Rattle.plain_book.specs.declared.entry.Entry.{Entry}
use Rattle.plain_book.specs.Orders.{level_of, HasSlot, order_of, is_live, is_named, is_new_best, without, with_order, reordered, placed, lined_up, settled, refreshed, filled_by, with_top}
use Rattle.plain_book.specs.Book.{EachPair, AreInBookOrder, Book, live_orders, IsRight, IsResting, IsWaiting, IsFitToRest, IsFitToWait, CanBeTop, first_shown, makes_top, book_placed, book_waited, book_traded, book_with_order, book_without, book_changed, book_with_top, changed_to}
use Rattle.plain_book.specs.Inner.FreeSlots.{IsAmong, AreFree, IsKept, IsFreeList, freed}
use Rattle.plain_book.proofs.Levels.{HasSlot-filter, HasSlot-left, slots-apart, order_of-left, order_of-right}
use Rattle.plain_book.proofs.Walks.{HasSlot-before}
use Rattle.plain_book.proofs.Pairs.{none-any}
use Rattle.plain_book.proofs.Live.{orders-at, fit_of}
use Rattle.plain_book.proofs.Named.{named-renamed}
use Rattle.plain_book.proofs.Sorted.{inserted-slots, inserted-length}
use Rattle.plain_book.proofs.Settled.{settled-gone, settled-back, settled-stays}
use Rattle.plain_book.proofs.Fits.{fit-stays, fit-back, rest-changed, wait-changed}
use Rattle.plain_book.proofs.Calls.{right-book_placed, right-book_waited, rests-alone, right-back}
use Rattle.plain_book.proofs.Right.{other_slot, live-without, length-without, without-gone, right-without, resting_as, waiting_as, live-placed, live-lined, book_reordered, live-reordered, right-reordered, waiting-same, right-with_order, slots-marked, length-marked, right-marked}

-- ---- the free slots

free-fewer : (ss : List ℕ) (es fs : List Entry) → ((s : ℕ) → HasSlot s fs → HasSlot s es) → AreFree ss es → AreFree ss fs
free-fewer [] es fs h f = tt
free-fewer (s ∷ ss) es fs h f = ((λ k. f.0 (h s k)), f.1, free-fewer ss es fs h f.2)

among-push : (t s : ℕ) (ss : List ℕ) → IsAmong t (ss ++ s ∷ []) → IsAmong t ss ⊎ (s ≡ t)
among-push t s [] h = elim h [ inl a ↦ inr a | inr a ↦ absurd a ]
among-push t s (x ∷ ss) h = elim h [ inl a ↦ inl (inl a) | inr a ↦ elim (among-push t s ss a) [ inl b ↦ inl (inr b) | inr b ↦ inr b ] ]

among-left : (t s : ℕ) (ss : List ℕ) → IsAmong t ss → IsAmong t (ss ++ s ∷ [])
among-left t s [] h = absurd h
among-left t s (x ∷ ss) h = elim h [ inl a ↦ inl a | inr a ↦ inr (among-left t s ss a) ]

among-last : (s : ℕ) (ss : List ℕ) → IsAmong s (ss ++ s ∷ [])
among-last s [] = inl refl
among-last s (x ∷ ss) = inr (among-last s ss)

free-push : (s : ℕ) (ss : List ℕ) (es : List Entry) → AreFree ss es → (HasSlot s es → ⊥) → (IsAmong s ss → ⊥) → AreFree (ss ++ s ∷ []) es
free-push s [] es f h n = (h, (λ a. a), tt)
free-push s (t ∷ ss) es f h n =
    (f.0, (λ k. elim (among-push t s ss k) [ inl a ↦ f.1 a | inr a ↦ n (inl (sym a)) ]), free-push s ss es f.2 h (λ a. n (inr a)))

-- the last of the free slots
pub free-last : (s : ℕ) (ss : List ℕ) (es : List Entry) → AreFree (ss ++ s ∷ []) es → HasSlot s es → ⊥
free-last s [] es f = f.0
free-last s (t ∷ ss) es f = free-last s ss es f.2

free-front : (s : ℕ) (ss : List ℕ) (es : List Entry) → AreFree (ss ++ s ∷ []) es → AreFree ss es
free-front s [] es f = tt
free-front s (t ∷ ss) es f = (f.0, (λ a. f.1 (among-left t s ss a)), free-front s ss es f.2)

last-apart : (s : ℕ) (ss : List ℕ) (es : List Entry) → AreFree (ss ++ s ∷ []) es → IsAmong s ss → ⊥
last-apart s [] es f a = a
last-apart s (t ∷ ss) es f a = elim a [ inl b ↦ f.1 (subst (λ (x : ℕ). IsAmong x (ss ++ s ∷ [])) (sym b) (among-last s ss)) | inr b ↦ last-apart s ss es f.2 b ]

-- a slot that an order has is not free
taken : (s : ℕ) (ss : List ℕ) (es : List Entry) → AreFree ss es → HasSlot s es → IsAmong s ss → ⊥
taken s [] es f h a = a
taken s (t ∷ ss) es f h a = elim a [ inl b ↦ f.0 (subst (λ (x : ℕ). HasSlot x es) (sym b) h) | inr b ↦ taken s ss es f.2 h b ]

free-other : (s : ℕ) (ss : List ℕ) (es fs : List Entry) → (IsAmong s ss → ⊥) → ((t : ℕ) → HasSlot t fs → (s ≡ t) ⊎ HasSlot t es) → AreFree ss es → AreFree ss fs
free-other s [] es fs n h f = tt
free-other s (t ∷ ss) es fs n h f = ((λ k. elim (h t k) [ inl a ↦ n (inl (sym a)) | inr a ↦ f.0 a ]), f.1, free-other s ss es fs (λ a. n (inr a)) h f.2)

-- ---- the calls

abbrev Room : ℕ → ℕ → Type 0
Room old new = old ≤ new

kept-of : (b b' : Book) (rr wr fr rr' wr' fr' : ℕ) (ss ss' : List ℕ) → IsKept b rr wr ss fr → Room rr rr' → Room wr wr' → Room fr fr' → b'.capacity ≡ b.capacity
    → IsRight b' → length ss' + length (live_orders b') ≡ b.capacity → AreFree ss' (live_orders b') → IsKept b' rr' wr' ss' fr'
kept-of b b' rr wr fr rr' wr' fr' ss ss' k lr lw lf c right all free = record {
  right = right;
  resting = omega (arith, k.resting, lr, c);
  waiting = omega (arith, k.waiting, lw, c);
  fits = omega (arith, k.fits, lf, c);
  all = omega (arith, all, c);
  free = free;
}

module _ (b : Book) (rr wr : ℕ) (ss : List ℕ) (fr rr' wr' fr' : ℕ) (k : IsKept b rr wr ss fr) (lr : rr ≤ rr') (lw : wr ≤ wr') (lf : fr ≤ fr') where
  kept-reordered : (s : ℕ) (o : Order) → IsRight (book_reordered s o b) → IsKept (book_reordered s o b) rr' wr' ss fr'
  kept-reordered s o right =
      let live = live-reordered s o b in
      kept-of b (book_reordered s o b) rr wr fr rr' wr' fr' ss ss k lr lw lf refl right
      (omega (arith, k.all, ap (λ (q : List Entry). length q) live, length-map (live_orders b) (reordered s o)))
      (subst (AreFree ss) (sym live) (free-fewer ss (live_orders b) (with_order s o (live_orders b)) (λ t h. HasSlot-before s t o (live_orders b) h) k.free))

  pub kept-with_order : (s : ℕ) (o : Order) → HasSlot s b.resting → level_of o ≡ level_of (order_of s b.resting) → o.firm ≡ (order_of s b.resting).firm → o.id ≡ (order_of s b.resting).id → IsResting b.instruments o → IsKept (book_with_order s o b) rr' wr' ss fr'
  kept-with_order s o h l f i fit =
      let same = waiting-same b s o k.right h in
      subst (λ (x : Book). IsKept x rr' wr' ss fr') same (kept-reordered s o (subst IsRight (sym same) (right-with_order b s o k.right h l f i fit)))

  pub kept-changed : (s : ℕ) (id : List ℕ) (quantity least : ℕ) → HasSlot s (live_orders b)
      → (order_of s (live_orders b)).filled < quantity → quantity ≤ (order_of s (live_orders b)).quantity → (order_of s (live_orders b)).show ≤ quantity
      → is_live (order_of s (live_orders b)).firm id (live_orders b) ≡ false → (HasSlot s b.resting → least ≡ 0)
      → IsKept (book_changed s id quantity least b) rr' wr' ss fr'
  kept-changed s id quantity least h a q w u z =
      let old = order_of s (live_orders b) in
      let o : Order = changed_to id quantity least old in
      let right : IsRight (book_reordered s o b) = right-reordered b s o k.right refl
      (named-renamed s o (live_orders b) k.right.differ k.right.named (none-any (is_named old.firm id) (live_orders b) u))
      (λ has.
      let is = order_of-left s b.resting b.waiting has in
      rest-changed b.instruments id quantity least old (subst (IsResting b.instruments) (sym is) (fit_of b.instruments s b.resting k.right.rest has)) a q w (z has))
      (λ has.
      let is = order_of-right s b.resting b.waiting (λ r. slots-apart s b.resting b.waiting k.right.differ r has) in
      wait-changed b.instruments id quantity least old (subst (IsWaiting b.instruments) (sym is) (orders-at (IsWaiting b.instruments) s b.waiting k.right.wait has)) a q w) in
      kept-reordered s o right

  pub kept-without : (s : ℕ) → HasSlot s (live_orders b) → IsKept (book_without s b) rr' wr' (ss ++ s ∷ []) fr'
  kept-without s h =
      let live = live-without s b in
      let fewer : AreFree ss (without s (live_orders b)) = free-fewer ss (live_orders b) (without s (live_orders b)) (λ t q. HasSlot-filter (other_slot s) t (live_orders b) q) k.free in
      kept-of b (book_without s b) rr wr fr rr' wr' fr' ss (ss ++ s ∷ []) k lr lw lf refl (right-without b s k.right h)
      (omega (arith, k.all, ap (λ (q : List Entry). length q) live, length-without s (live_orders b) k.right.differ h, length-append ss (s ∷ [])))
      (subst (AreFree (ss ++ s ∷ [])) (sym live) (free-push s ss (without s (live_orders b)) fewer (without-gone s (live_orders b)) (taken s ss (live_orders b) k.free h)))

  kept-back : (s : ℕ) (o : Order) → HasSlot s b.resting → level_of o ≡ level_of (order_of s b.resting) → o.firm ≡ (order_of s b.resting).firm → o.id ≡ (order_of s b.resting).id → IsResting b.instruments o
      → IsKept (resting_as b (placed (record { slot = s; order = o; is_top = false }) (without s b.resting))) rr' wr' ss fr'
  kept-back s o has l f i fit =
      let n : Entry = record { slot = s; order = o; is_top = false } in
      let h = HasSlot-left s b.resting b.waiting has in
      let one = resting_as b (without s b.resting) in
      let same = rests-alone b k.right s has in
      let live : live_orders one ≡ without s (live_orders b) = ap live_orders (sym same) ∙ live-without s b in
      let right : IsRight one = subst IsRight same (right-without b s k.right h) in
      let shorter : suc (length (live_orders one)) ≡ length (live_orders b) = ap (λ (q : List Entry). suc (length q)) live ∙ length-without s (live_orders b) k.right.differ h in
      let ins = live-placed one n right.ordered in
      kept-of b (resting_as b (placed n (without s b.resting))) rr wr fr rr' wr' fr' ss ss k lr lw lf refl (right-back b k.right s o has l f i fit)
      (omega (arith, k.all, shorter, inserted-length ins))
      (free-other s ss (live_orders b) (live_orders (resting_as b (placed n (without s b.resting)))) (taken s ss (live_orders b) k.free h)
      (λ t q. elim (inserted-slots ins t q) [ inl a ↦ inl a | inr a ↦ inr (HasSlot-filter (other_slot s) t (live_orders b) (subst (HasSlot t) live a)) ]) k.free)

  pub kept-traded : (s n : ℕ) → HasSlot s b.resting → 1 ≤ n → n ≤ (order_of s b.resting).shown → IsKept (book_traded s n b) rr' wr' (freed s n b.resting ss) fr'
  kept-traded s n h some shown =
      let es = b.resting in
      let old = order_of s es in
      let o : Order = filled_by n old in
      let f = fit_of b.instruments s es k.right.rest h in
      let test = λ (c : Bool). cond c (ss ++ s ∷ []) ss in
      elim (eqb_tells o.leaves 0) [
        | inl t ↦
            subst (λ (q : List ℕ). IsKept (resting_as b (settled s o es)) rr' wr' q fr') (sym (ap test t.0))
            (subst (λ (q : List Entry). IsKept (resting_as b q) rr' wr' (ss ++ s ∷ []) fr') (sym (settled-gone s o es t.1))
            (subst (λ (x : Book). IsKept x rr' wr' (ss ++ s ∷ []) fr') (rests-alone b k.right s h) (kept-without s (HasSlot-left s es b.waiting h))))
        | inr t ↦
            subst (λ (q : List ℕ). IsKept (resting_as b (settled s o es)) rr' wr' q fr') (sym (ap test t.0))
            (elim (eqb_tells o.shown 0) [
              | inl u ↦ subst (λ (q : List Entry). IsKept (resting_as b q) rr' wr' ss fr') (sym (settled-back s o es t.1 u.1)) (kept-back s (refreshed o) h refl refl refl (fit-back b.instruments n old f shown t.1 u.1))
              | inr u ↦ subst (λ (q : List Entry). IsKept (resting_as b q) rr' wr' ss fr') (sym (settled-stays s o es t.1 u.1)) (kept-with_order s o h refl refl refl (fit-stays b.instruments n old f shown t.1 u.1))
            ])
      ]

  pub kept-marked : (i : ℕ) (d : Side) (top : Option ℕ) → CanBeTop i d top b.resting → IsKept (book_with_top i d top b) rr' wr' ss fr'
  kept-marked i d top can =
      kept-of b (book_with_top i d top b) rr wr fr rr' wr' fr' ss ss k lr lw lf refl (right-marked b i d top k.right can)
      (omega (arith, k.all, length-marked i d top b.resting b.waiting))
      (free-fewer ss (live_orders b) (live_orders (book_with_top i d top b)) (λ t h. slots-marked i d top t b.resting b.waiting h) k.free)

-- an order comes, and takes the last of the free slots
module _ (b : Book) (rr wr : ℕ) (ss : List ℕ) (fr rr' wr' fr' s : ℕ) (k : IsKept b rr wr (ss ++ s ∷ []) fr) (lr : rr ≤ rr') (lw : wr ≤ wr') (lf : fr ≤ fr') where
  one-more : length ss + 1 + length (live_orders b) ≡ b.capacity
  one-more = omega (arith, k.all, length-append ss (s ∷ []))

  room : length (live_orders b) < b.capacity
  room = omega (arith, one-more)

  kept-put : (es : List Entry) (n : Entry) → n.slot ≡ s → EachPair AreInBookOrder es → length (live_orders (resting_as b es)) ≡ length (live_orders b) → ((t : ℕ) → HasSlot t (live_orders (resting_as b es)) → HasSlot t (live_orders b))
      → IsRight (resting_as b (placed n es)) → IsKept (resting_as b (placed n es)) rr' wr' ss fr'
  kept-put es n at ordered long slots right =
      let ins = live-placed (resting_as b es) n ordered in
      kept-of b (resting_as b (placed n es)) rr wr fr rr' wr' fr' (ss ++ s ∷ []) ss k lr lw lf refl right
      (omega (arith, one-more, long, inserted-length ins))
      (free-other s ss (live_orders b) (live_orders (resting_as b (placed n es))) (last-apart s ss (live_orders b) k.free)
      (λ t q. elim (inserted-slots ins t q) [ inl a ↦ inl (sym at ∙ a) | inr a ↦ inr (slots t a) ]) (free-front s ss (live_orders b) k.free))

  pub kept-placed : (o : Order) (least : Option ℕ) → IsFitToRest b.instruments o → is_live o.firm o.id (live_orders b) ≡ false → IsKept (book_placed s o least b) rr' wr' ss fr'
  kept-placed o least p u =
      let i = o.instrument in
      let d = o.side in
      let n : Bool → Entry = λ (top : Bool). record { slot = s; order = record o { shown = first_shown o }; is_top = top && makes_top least o.leaves } in
      let placed_if : Bool → Book = λ (best : Bool). resting_as b (placed (n best) (cond best (with_top i d None b.resting) b.resting)) in
      let go : (best : Bool) → IsRight (placed_if best) → IsKept (placed_if best) rr' wr' ss fr' = elim [
        | true ↦ kept-put (with_top i d None b.resting) (n true) refl (right-marked b i d None k.right tt).ordered (length-marked i d None b.resting b.waiting) (λ t h. slots-marked i d None t b.resting b.waiting h)
        | false ↦ kept-put b.resting (n false) refl k.right.ordered refl (λ t h. h)
      ] in go (is_new_best o b.resting) (right-book_placed b s k.right room (free-last s ss (live_orders b) k.free) o least p u)

  pub kept-waited : (o : Order) → IsFitToWait b.instruments o → is_live o.firm o.id (live_orders b) ≡ false → IsKept (book_waited s o b) rr' wr' ss fr'
  kept-waited o p u =
      let n : Entry = record { slot = s; order = record o { shown = 0 }; is_top = false } in
      let ins = live-lined b n k.right.lined in
      kept-of b (waiting_as b (lined_up n b.waiting)) rr wr fr rr' wr' fr' (ss ++ s ∷ []) ss k lr lw lf refl (right-book_waited b s k.right room (free-last s ss (live_orders b) k.free) o p u)
      (omega (arith, one-more, inserted-length ins))
      (free-other s ss (live_orders b) (live_orders (waiting_as b (lined_up n b.waiting))) (last-apart s ss (live_orders b) k.free) (inserted-slots ins) (free-front s ss (live_orders b) k.free))

-- ---- the free slots of a new book

pub free_list-more : (n : ℕ) (ss : List ℕ) (room room' : ℕ) → IsFreeList n ss room → n < room' → IsFreeList (n + 1) (ss ++ n ∷ []) room'
free_list-more n ss room room' f lt = record {
  free = free-push n ss [] f.free (λ h. h) (λ a. let below : n < n = f.below n a in absurd (omega arith));
  below = λ s h. elim (among-push s n ss h) [ inl a ↦ (let below : s < n = f.below s a in omega arith) | inr a ↦ omega arith ];
  all = omega (arith, f.all, length-append ss (n ∷ []));
  room = omega arith;
}
