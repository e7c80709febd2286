-- A sweep, and what places and removes orders, do the same where each order is named by its number in place of its slot.
use Rattle.std.proofs.Common.{◌≡◌, ℕ, ◌+◌, ◌-◌, ◌*◌, ◌/◌, min, Bool, true, false, cond, not, ◌&&◌, List, [], ◌∷◌, ◌++◌, map, filter, sum_by, refl, sym, ap, subst, ◌∙◌, inl, inr, Option, Some, None}
use Prim.Native.Nat.{zero, suc}
use Rattle.std.specs.Prelude.{◌==◌}
use Rattle.std.specs.List.{AllByRecursion, fold}
use Rattle.std.proofs.lemmas.List.{map-append}
use Rattle.gx_base.specs.declared.price.Price.{Price}
use Rattle.gx_base.specs.declared.order.Order.{Order}
use Rattle.gx_base.specs.declared.order.Side.{Side}
use Rattle.gx_base.specs.declared.order.LmmShare.{LmmShare}
use Rattle.gx_base.specs.declared.event.StepName.{StepName}
use Rattle.gx_base.specs.declared.event.StepName.TheVariants as name
use Rattle.step_config.specs.declared.step.Step.{Step}
use Rattle.step_config.specs.declared.step.Step.TheVariants.{Top, Lmm, Split, ProRata, Leveling, Fifo}
use Rattle.plain_book.specs.declared.entry.Entry.{Entry}
use Rattle.plain_book.specs.Orders.{HasSlot, order_of, without, is_at, is_on, is_slot, opposite, side_of, slot_of, top_of, topped, with_top, is_best_price, is_new_best, placed, is_of_earlier_instrument}
use Rattle.plain_book.specs.Book.{Book, AllDiffer, live_orders, first_shown, makes_top, book_placed, book_waited, book_without}
use Rattle.plain_book.specs.Match.{MatchState, Share, trade_shares}
use Rattle.plain_book.specs.Steps.{facing, level_now, trade_head, fifo_rounds, spent, ones, top_shares, lmm_shares, split_shares, leveling_shares, prorata_shares, prorata_share}
use Rattle.plain_book.proofs.Levels.{same, AllDiffer-front}
use Rattle.plain_book.proofs.Pairs.{all-filter, all-with, all-front, all-back}
use Rattle.level_sweep.specs.Sweep.{after_step, wanted_step, level_match, within_limit, next_price, match_next, sweep_rounds, sweep}
use Rattle.plain_book.specs.Numbers.{entry_numbered, numbered, book_numbered, match_numbered}
use Rattle.level_sweep.proofs.Names.{found-name, GoesWith, Agree, Matched, matched-from, matched-kept, keeps-head, keeps-wanted, keeps-match}
use Rattle.level_sweep.proofs.Numbered.{SameShares, test-is, filter-numbered, filter-order, level-numbered, side-numbered, best-numbered, placed-numbered, without-numbered, share-numbered, shares-numbered}

-- ---- the shares of each step

-- some orders of a list, whose slots go with their numbers
abbrev AllIn : List Entry → List Entry → Type 0
AllIn es xs = AllByRecursion (λ (e : Entry). Agree e.slot e.order.number es) xs

in-level : (price : Price) (m : MatchState) → Matched m.book.resting → AllIn m.book.resting (level_now price m)
in-level price m h = all-filter (λ (e : Entry). Agree e.slot e.order.number m.book.resting) (is_at (facing price m.taker)) m.book.resting h

module _ (es : List Entry) where
  spent-same : (lots : ℕ) (xs : List Entry) → AllIn es xs → SameShares es (spent lots xs) (spent lots (numbered xs))
  spent-same lots [] h = tt
  spent-same lots (x ∷ xs) h = (refl, h.0, spent-same (lots - min lots x.order.shown) xs h.1)

  ones-same : (q : ℕ) (xs : List Entry) → AllIn es xs → SameShares es (ones q xs) (ones q (numbered xs))
  ones-same q [] h = tt
  ones-same q (x ∷ xs) h = (refl, h.0, ones-same (q - 1) xs h.1)

  map-same : (f : Order → ℕ) (xs : List Entry) → AllIn es xs → SameShares es (map (λ (e : Entry). (e.slot, f e.order)) xs) (map (λ (e : Entry). (e.slot, f e.order)) (numbered xs))
  map-same f [] h = tt
  map-same f (x ∷ xs) h = (refl, h.0, map-same f xs h.1)

  append-same : (xs ys xs' ys' : List Share) → SameShares es xs ys → SameShares es xs' ys' → SameShares es (xs ++ xs') (ys ++ ys')
  append-same [] [] xs' ys' h k = k
  append-same [] (y ∷ ys) xs' ys' h k = absurd h
  append-same (x ∷ xs) [] xs' ys' h k = absurd h
  append-same (x ∷ xs) (y ∷ ys) xs' ys' h k = (h.0, h.1, append-same xs ys xs' ys' h.2 k)

  only-in : (p : Entry → Bool) (xs : List Entry) → AllIn es xs → AllIn es (filter p xs)
  only-in p xs h = all-filter (λ (e : Entry). Agree e.slot e.order.number es) p xs h

  lmm-same : (shares : List LmmShare) (q : ℕ) (xs : List Entry) → AllIn es xs → SameShares es (lmm_shares shares q xs) (lmm_shares shares q (numbered xs))
  lmm-same [] q xs h = tt
  lmm-same (f ∷ fs) q xs h =
      let n = q * f.percent / 100 in
      let p : Entry → Bool = λ e. e.order.firm == f.firm in
      append-same (spent n (filter p xs)) (spent n (filter p (numbered xs))) (lmm_shares fs q xs) (lmm_shares fs q (numbered xs))
      (subst (λ (l : List Entry). SameShares es (spent n (filter p xs)) (spent n l)) (sym (filter-order p (λ e. refl) xs)) (spent-same n (filter p xs) (only-in p xs h)))
      (lmm-same fs q xs h)

  leveling-same : (q : ℕ) (xs : List Entry) → AllIn es xs → SameShares es (leveling_shares q xs) (leveling_shares q (numbered xs))
  leveling-same q xs h =
      let p : Entry → Bool = λ e. e.order.prorated == 0 in
      subst (λ (l : List Entry). SameShares es (ones q (filter p xs)) (ones q l)) (sym (filter-order p (λ e. refl) xs)) (ones-same q (filter p xs) (only-in p xs h))

  top-same : (most q : ℕ) (tops xs : List Entry) → AllIn es tops → AllIn es xs → ((s k : ℕ) → Agree s k es → Agree s k xs) → SameShares es (top_shares most (slot_of tops) q xs) (top_shares most (slot_of (numbered tops)) q (numbered xs))
  top-same most q [] xs t h sub = tt
  top-same most q (e ∷ tops) xs t h sub =
      let s = e.slot in
      let k = e.order.number in
      let f : Order → ℕ = λ o. min q (min o.shown most) in
      let only : filter (is_slot k) (numbered xs) ≡ numbered (filter (is_slot s) xs) =
      filter-numbered (is_slot s) (is_slot k) xs (all-with (λ (x : Entry). GoesWith s k x.slot x.order.number) (λ (x : Entry). (x.order.number == k) ≡ (x.slot == s)) (λ x a. sym a) xs (sub s k t.0)) in
      subst (λ (l : List Entry). SameShares es (map (λ (x : Entry). (x.slot, f x.order)) (filter (is_slot s) xs)) (map (λ (x : Entry). (x.slot, f x.order)) l)) (sym only)
      (map-same f (filter (is_slot s) xs) (only-in (is_slot s) xs h))

  total-from : (n : ℕ) (xs : List Entry) → fold (λ (a : ℕ) (e : Entry). a + e.order.shown) n (numbered xs) ≡ fold (λ (a : ℕ) (e : Entry). a + e.order.shown) n xs
  total-from n [] = refl
  total-from n (x ∷ xs) = total-from (n + x.order.shown) xs

  total-same : (xs : List Entry) → sum_by (λ (e : Entry). e.order.shown) (numbered xs) ≡ sum_by (λ (e : Entry). e.order.shown) xs
  total-same xs = total-from 0 xs

  prorata-same : (least q : ℕ) (xs : List Entry) → AllIn es xs → SameShares es (prorata_shares least q xs) (prorata_shares least q (numbered xs))
  prorata-same least q xs h =
      let total = sum_by (λ (e : Entry). e.order.shown) xs in
      let f : ℕ → Order → ℕ = λ n o. prorata_share least (min q n) n o.shown in
      subst (λ (n : ℕ). SameShares es (prorata_shares least q xs) (map (λ (e : Entry). (e.slot, f n e.order)) (numbered xs))) (sym (total-same xs)) (map-same (f total) xs h)

-- ---- the steps

-- what is done is the same
abbrev pub IsSame : (MatchState → MatchState) → Type 0
IsSame f = (m : MatchState) → Matched m.book.resting → f (match_numbered m) ≡ match_numbered (f m)

choice : (b : Bool) (f g : MatchState → MatchState) (m : MatchState) → Matched m.book.resting → IsSame f → IsSame g → cond b (f (match_numbered m)) (g (match_numbered m)) ≡ match_numbered (cond b (f m) (g m))
choice true f g m h p q = p m h
choice false f g m h p q = q m h

by-level : (step : StepName) (price : Price) (F : List Entry → List Share) (m : MatchState) → SameShares m.book.resting (F (level_now price m)) (F (numbered (level_now price m)))
    → trade_shares step (F (level_now price (match_numbered m))) (match_numbered m) ≡ match_numbered (trade_shares step (F (level_now price m)) m)
by-level step price F m h =
    ap (λ (l : List Entry). trade_shares step (F l) (match_numbered m)) (level-numbered price m)
    ∙ shares-numbered step (F (level_now price m)) (F (numbered (level_now price m))) m h

top-step : (most : ℕ) (price : Price) (m : MatchState) → Matched m.book.resting
    → trade_shares name.Top (top_shares most (top_of m.taker.order.instrument (opposite m.taker.order.side) (numbered m.book.resting)) m.taker.order.leaves (level_now price (match_numbered m))) (match_numbered m)
    ≡ match_numbered (trade_shares name.Top (top_shares most (top_of m.taker.order.instrument (opposite m.taker.order.side) m.book.resting) m.taker.order.leaves (level_now price m)) m)
top-step most price m h =
    let i = m.taker.order.instrument in
    let d = opposite m.taker.order.side in
    let q = m.taker.order.leaves in
    let es = m.book.resting in
    let p : Entry → Bool = λ e. e.is_top in
    let tops = filter p (side_of i d es) in
    let same : top_of i d (numbered es) ≡ slot_of (numbered tops) = ap (λ (l : List Entry). slot_of (filter p l)) (side-numbered i d es) ∙ ap slot_of (filter-order p (λ e. refl) (side_of i d es)) in
    ap (λ (t : Option ℕ). trade_shares name.Top (top_shares most t q (level_now price (match_numbered m))) (match_numbered m)) same
    ∙ ap (λ (l : List Entry). trade_shares name.Top (top_shares most (slot_of (numbered tops)) q l) (match_numbered m)) (level-numbered price m)
    ∙ shares-numbered name.Top (top_shares most (slot_of tops) q (level_now price m)) (top_shares most (slot_of (numbered tops)) q (numbered (level_now price m))) m
    (top-same es most q tops (level_now price m) (only-in es p (side_of i d es) (only-in es (is_on i d) es h)) (in-level price m h)
    (λ s k a. all-filter (λ (e : Entry). GoesWith s k e.slot e.order.number) (is_at (facing price m.taker)) es a))

head-same : (xs : List Entry) (m : MatchState) → AllIn m.book.resting xs → trade_head (numbered xs) (match_numbered m) ≡ match_numbered (trade_head xs m)
head-same [] m h = refl
head-same (x ∷ xs) m h = share-numbered x.slot x.order.number name.Fifo (min m.taker.order.leaves x.order.shown) m h.0

fifo-same : (price : Price) (n : ℕ) → IsSame (fifo_rounds n price)
fifo-same price zero m h = refl
fifo-same price (suc n) m h =
    let level = level_now price m in
    ap (λ (l : List Entry). fifo_rounds n price (trade_head l (match_numbered m))) (level-numbered price m)
    ∙ ap (fifo_rounds n price) (head-same level m (in-level price m h))
    ∙ fifo-same price n (trade_head level m) (matched-kept (trade_head level) (keeps-head level) m h)

prorata-step : (least : ℕ) (price : Price) (m : MatchState) → Matched m.book.resting
    → trade_shares name.ProRata (prorata_shares least m.taker.order.leaves (level_now price (match_numbered m))) (match_numbered m) ≡ match_numbered (trade_shares name.ProRata (prorata_shares least m.taker.order.leaves (level_now price m)) m)
prorata-step least price m h =
    let q = m.taker.order.leaves in
    let level = level_now price m in
    ap (λ (l : List Entry). trade_shares name.ProRata (prorata_shares least q l) (match_numbered m)) (level-numbered price m)
    ∙ shares-numbered name.ProRata (prorata_shares least q level) (prorata_shares least q (numbered level)) m (prorata-same m.book.resting least q level (in-level price m h))

step-same : (s : Step) (price : Price) → IsSame (after_step s price)
step-same (Top rule) price m h = top-step rule.max price m h
step-same (Lmm shares) price m h = by-level name.Lmm price (lmm_shares shares.items m.taker.order.leaves) m (lmm-same m.book.resting shares.items m.taker.order.leaves (level_now price m) (in-level price m h))
step-same (Split percent) price m h = by-level name.Split price (split_shares percent m.taker.order.leaves) m (spent-same m.book.resting (m.taker.order.leaves * percent / 100) (level_now price m) (in-level price m h))
step-same (ProRata least) price m h =
    let go : (b : Bool) → cond b (match_numbered m) (trade_shares name.ProRata (prorata_shares least m.taker.order.leaves (level_now price (match_numbered m))) (match_numbered m)) ≡ match_numbered (cond b m (trade_shares name.ProRata (prorata_shares least m.taker.order.leaves (level_now price m)) m)) = elim [
      | true ↦ refl
      | false ↦ prorata-step least price m h
    ] in go (m.taker.order.leaves == 0)
step-same Leveling price m h = by-level name.Leveling price (leveling_shares m.taker.order.leaves) m (leveling-same m.book.resting m.taker.order.leaves (level_now price m) (in-level price m h))
step-same Fifo price m h = fifo-same price m.taker.order.leaves m h

-- ---- level matches and sweeps

wanted-same : (s : Step) (price : Price) → IsSame (wanted_step s price)
wanted-same s price m h = choice (m.taker.order.leaves == 0) (λ x. x) (after_step s price) m h (λ n k. refl) (step-same s price)

pub match-same : (steps : List Step) (price : Price) → IsSame (level_match steps price)
match-same [] price m h = refl
match-same (s ∷ ss) price m h =
    ap (level_match ss price) (wanted-same s price m h)
    ∙ match-same ss price (wanted_step s price m) (matched-kept (wanted_step s price) (keeps-wanted s price) m h)

next-same : (limit : Price) (m : MatchState) → next_price limit (book_numbered m.book) m.taker ≡ next_price limit m.book m.taker
next-same limit m =
    let d = opposite m.taker.order.side in
    ap (λ (best : Option Price). cond (m.taker.order.leaves == 0) None (within_limit d limit best)) (best-numbered m.taker.order.instrument d m.book.resting)

rounds-same : (n : ℕ) (steps : List Step) (limit : Price) → IsSame (sweep_rounds n steps limit)
rounds-same zero steps limit m h = refl
rounds-same (suc n) steps limit m h =
    let at : (next : Option Price) → sweep_rounds n steps limit (match_next steps next (match_numbered m)) ≡ match_numbered (sweep_rounds n steps limit (match_next steps next m)) = elim [
      | None ↦ rounds-same n steps limit m h
      | Some price ↦ ap (sweep_rounds n steps limit) (match-same steps price m h) ∙ rounds-same n steps limit (level_match steps price m) (matched-kept (level_match steps price) (keeps-match steps price) m h)
    ] in
    ap (λ (next : Option Price). sweep_rounds n steps limit (match_next steps next (match_numbered m))) (next-same limit m) ∙ at (next_price limit m.book m.taker)

sweep-same : (steps : List Step) (limit : Price) → IsSame (sweep steps limit)
sweep-same steps limit m h = rounds-same m.taker.order.leaves steps limit m h

-- ---- live orders

pub live-numbered : (b : Book) → live_orders (book_numbered b) ≡ numbered (live_orders b)
live-numbered b = sym (map-append entry_numbered b.resting b.waiting)

matched-live : (b : Book) → AllDiffer (live_orders b) → AllDiffer (live_orders (book_numbered b)) → Matched (live_orders b)
matched-live b d n = matched-from (live_orders b) d (subst AllDiffer (live-numbered b) n)

matched-resting : (b : Book) → AllDiffer (live_orders b) → AllDiffer (live_orders (book_numbered b)) → Matched b.resting
matched-resting b d n = matched-from b.resting (AllDiffer-front b.resting b.waiting d) (AllDiffer-front (numbered b.resting) (numbered b.waiting) n)

-- a sweep does the same by number as by slot
pub sweep-numbered : (steps : List Step) (limit : Price) (m : MatchState) → AllDiffer (live_orders m.book) → AllDiffer (live_orders (book_numbered m.book)) → sweep steps limit (match_numbered m) ≡ match_numbered (sweep steps limit m)
sweep-numbered steps limit m d n = sweep-same steps limit m (matched-resting m.book d n)

-- ---- numbers still differ

has-number : (s k : ℕ) (es : List Entry) → Agree s k es → HasSlot k (numbered es) → HasSlot s es
has-number s k [] a h = h
has-number s k (e ∷ es) a h = elim h [
  | inl x ↦ inl (test-is e.slot s (a.0 ∙ ap (λ (n : ℕ). n == k) x ∙ same k))
  | inr x ↦ inr (has-number s k es a.1 x)
]

numbers-differ : (es : List Entry) → AllDiffer es → Matched es → AllDiffer (numbered es)
numbers-differ [] d h = tt
numbers-differ (e ∷ es) d h = (
  (λ k. d.0 (has-number e.slot e.order.number es h.0.1 k)),
  numbers-differ es d.1 (all-with (λ (x : Entry). Agree x.slot x.order.number (e ∷ es)) (λ (x : Entry). Agree x.slot x.order.number es) (λ x a. a.1) es h.1),
)

-- ---- what places and removes orders

top-none : (i : ℕ) (d : Side) (es : List Entry) → with_top i d None (numbered es) ≡ numbered (with_top i d None es)
top-none i d [] = refl
top-none i d (e ∷ es) = ap (λ (l : List Entry). topped i d None (entry_numbered e) ∷ l) (top-none i d es)

-- an order is placed by its number as by its slot
pub placed-same : (slot : ℕ) (o : Order) (top_min : Option ℕ) (b : Book) → book_placed o.number o top_min (book_numbered b) ≡ book_numbered (book_placed slot o top_min b)
placed-same slot o top_min b =
    let es = b.resting in
    let enough = makes_top top_min o.leaves in
    let entry : ℕ → Bool → Entry = λ s best. record { slot = s; order = record o { shown = first_shown o }; is_top = best && enough } in
    let clear : Bool → List Entry → List Entry = λ best l. cond best (with_top o.instrument o.side None l) l in
    let best = is_new_best o es in
    let best_is : is_new_best o (numbered es) ≡ best = ap (is_best_price o.side o.price.0) (best-numbered o.instrument o.side es) in
    let cleared : (x : Bool) → clear x (numbered es) ≡ numbered (clear x es) = elim [ true ↦ top-none o.instrument o.side es | false ↦ refl ] in
    let into : List Entry → Book = λ l. record (book_numbered b) { resting = l } in
    ap (λ (x : Bool). into (placed (entry o.number x) (clear x (numbered es)))) best_is
    ∙ ap (λ (l : List Entry). into (placed (entry o.number best) l)) (cleared best)
    ∙ ap into (placed-numbered (entry slot best) (clear best es))

-- a stop waits by its number as by its slot
pub waited-same : (slot : ℕ) (o : Order) (b : Book) → book_waited o.number o (book_numbered b) ≡ book_numbered (book_waited slot o b)
waited-same slot o b =
    let n : Entry = record { slot = slot; order = record o { shown = 0 }; is_top = false } in
    let es = b.waiting in
    let into : List Entry → Book = λ l. record (book_numbered b) { waiting = l } in
    ap (λ (l : List Entry). into (l ++ entry_numbered n ∷ filter (is_of_earlier_instrument n) (numbered es))) (filter-order (λ e. not (is_of_earlier_instrument n e)) (λ e. refl) es)
    ∙ ap (λ (l : List Entry). into (numbered (filter (λ e. not (is_of_earlier_instrument n e)) es) ++ entry_numbered n ∷ l)) (filter-order (is_of_earlier_instrument n) (λ e. refl) es)
    ∙ ap into (sym (map-append entry_numbered (filter (λ e. not (is_of_earlier_instrument n e)) es) (n ∷ filter (is_of_earlier_instrument n) es)))

-- the slot and the number of a live order go together
pub named-live : (s : ℕ) (b : Book) → AllDiffer (live_orders b) → AllDiffer (live_orders (book_numbered b)) → HasSlot s (live_orders b) → Agree s (order_of s (live_orders b)).number (live_orders b)
named-live s b d n has =
    let es = live_orders b in
    elim (found-name (λ s k. Agree s k es) s es (matched-live b d n)) [ inl g ↦ absurd (g.0 has) | inr a ↦ a ]

-- an order is removed by its number as by its slot
pub removed-same : (s : ℕ) (b : Book) → AllDiffer (live_orders b) → AllDiffer (live_orders (book_numbered b)) → HasSlot s (live_orders b)
    → book_without (order_of s (live_orders b)).number (book_numbered b) ≡ book_numbered (book_without s b)
removed-same s b d n has =
    let k = (order_of s (live_orders b)).number in
    let a = named-live s b d n has in
    let Q = λ (e : Entry). GoesWith s k e.slot e.order.number in
    ap (λ (l : List Entry). record (book_numbered b) { resting = l; waiting = without k (numbered b.waiting) }) (without-numbered s k b.resting (all-front Q b.resting b.waiting a))
    ∙ ap (λ (l : List Entry). record (book_numbered b) { resting = numbered (without s b.resting); waiting = l }) (without-numbered s k b.waiting (all-back Q b.resting b.waiting a))
