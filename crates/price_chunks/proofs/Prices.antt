-- The best prices of the sides, which are kept beside the chunks.
use Rattle.std.proofs.Common.{◌≡◌, ℕ, ◌+◌, ◌<◌, Bool, cond, true, false, not, List, [], ◌∷◌, length, filter, take, get_or, set, map, replicate, Option, Some, None, refl, sym, ap, subst, ◌∙◌, arith, inl, inr}
use Prim.Native.Nat.{zero, suc}
use Rattle.std.proofs.lemmas.Bool.{cases_Bool}
use Rattle.std.proofs.lemmas.List.{take_all, take_more, drop_all, map-set, set-get_or, get_or-map, get_or_read, length-set, length-map, length-replicate}
use Rattle.gx_base.specs.declared.price.Price.{Price}
use Rattle.gx_base.specs.declared.order.Side.{Side}
use Rattle.price_chunks.specs.declared.place.Step.{Step}
use Rattle.price_chunks.specs.Steps.{no_step, step_at, AreWorstFirst, is_worse_step, is_step_at, with_step, opened, with_open, price_of_last, SideLists, list_at}
use Rattle.price_chunks.specs.Inner.Chunks.{flat}
use Rattle.price_chunks.specs.Inner.Pool.{SideChunks, chunks_at, with_side, lists_of, AreBest, best_with}
use Rattle.price_chunks.proofs.Steps.{place_up, front, price_of_last-push}
use Rattle.price_chunks.proofs.Asked.{last-append}
use Rattle.price_chunks.proofs.Enough.{listed, list_is}

-- ---- a price stays where lots change

same_price : (price : Price) (leaves : ℕ) (s : Step) → (opened price leaves s).price ≡ s.price
same_price price leaves s =
    elim (is_step_at price s) as (λ b. (cond b (record s { leaves = leaves }) s).price ≡ s.price) [
      | true ↦ refl
      | false ↦ refl
    ]

pub last_open : (price : Price) (leaves : ℕ) (xs : List Step) → price_of_last (with_open price leaves xs) ≡ price_of_last xs
last_open price leaves [] = refl
last_open price leaves (x ∷ []) = ap (λ (p : Price). Some p) (same_price price leaves x)
last_open price leaves (x ∷ (y ∷ xs)) = last_open price leaves (y ∷ xs)

-- ---- the best price when a level comes

-- where the last level passes, it is the last of those that pass
kept_last : (r : Step → Bool) (xs : List Step) (k : ℕ) → k + 1 ≡ length xs → r (step_at xs k) ≡ true → (0 < length (filter r xs)) × (price_of_last (filter r xs) ≡ price_of_last xs)
kept_last r [] k e h = absurd (omega arith)
kept_last r (x ∷ []) zero e h = (subst (λ (b : Bool). 0 < length (cond b (x ∷ []) [])) (sym h) (omega arith), ap (λ (b : Bool). price_of_last (cond b (x ∷ []) [])) h)
kept_last r (x ∷ []) (suc k) e h = absurd (omega arith)
kept_last r (x ∷ (y ∷ xs)) zero e h = absurd (omega arith)
kept_last r (x ∷ (y ∷ xs)) (suc k) e h =
    let F = filter r (y ∷ xs) in
    let i = kept_last r (y ∷ xs) k (omega arith) h in
    elim (r x) as (λ b. (0 < length (cond b (x ∷ F) F)) × (price_of_last (cond b (x ∷ F) F) ≡ price_of_last (y ∷ xs))) [
      | true ↦ (omega arith, last-append (x ∷ []) F i.0 ∙ i.1)
      | false ↦ i
    ]

module _ (side : Side) (s : Step) (xs : List Step) (k : ℕ) (e : k + 1 ≡ length xs) where
  abbrev q : Step → Bool
  q = is_worse_step side s.price

  last_is : price_of_last xs ≡ Some (step_at xs k).price
  last_is = ap price_of_last (sym (take_all (k + 1) xs (omega arith)) ∙ take_more xs k no_step (omega arith)) ∙ price_of_last-push (take k xs) (step_at xs k)

  -- the level is better than each, or not better than the best
  last_better : AreWorstFirst side xs → q (step_at xs k) ≡ true → price_of_last (with_step side s xs) ≡ Some s.price
  last_better o h =
      let f = front q xs (k + 1) (place_up side s.price xs k o (omega arith) h) (λ j le lt. absurd (omega arith)) in
      last-append (filter q xs) (s ∷ filter (λ t. not (q t)) xs) (omega arith)
      ∙ ap (λ (l : List Step). price_of_last (s ∷ l)) (f.1 ∙ drop_all (k + 1) xs (omega arith))

  last_stays : q (step_at xs k) ≡ false → price_of_last (with_step side s xs) ≡ Some (step_at xs k).price
  last_stays h =
      let G = filter (λ t. not (q t)) xs in
      let i = kept_last (λ t. not (q t)) xs k e (ap not h) in
      last-append (filter q xs) (s ∷ G) (omega arith) ∙ last-append (s ∷ []) G i.0 ∙ i.1 ∙ last_is

  last_come : AreWorstFirst side xs → price_of_last (with_step side s xs) ≡ best_with side s.price (price_of_last xs)
  last_come o =
      let last = step_at xs k in
      elim (cases_Bool (q last)) [
        | inl h ↦ last_better o h ∙ sym (ap (best_with side s.price) last_is ∙ ap (λ (b : Bool). cond b (Some s.price) (Some last.price)) h)
        | inr h ↦ last_stays h ∙ sym (ap (best_with side s.price) last_is ∙ ap (λ (b : Bool). cond b (Some s.price) (Some last.price)) h)
      ]

pub last_with : (side : Side) (s : Step) (xs : List Step) → AreWorstFirst side xs → price_of_last (with_step side s xs) ≡ best_with side s.price (price_of_last xs)
last_with side s [] o = refl
last_with side s (x ∷ xs) o = last_come side s (x ∷ xs) (length xs) (omega arith) o

-- ---- the row of best prices

module _ (p : SideChunks) (best : List (Option Price)) (room : ℕ) (h : AreBest p best room) (k : ℕ) (lt : k < length p.sides) where
  pub priced : k < length best
  priced = omega (arith, ap {B = ℕ} length h.prices, length-map (lists_of p.sides) price_of_last, length-map p.sides flat)

  pub best_is : get_or best k None ≡ price_of_last (flat (chunks_at p.sides k))
  best_is =
      ap (λ (l : List (Option Price)). get_or l k None) h.prices
      ∙ get_or-map price_of_last (lists_of p.sides) k [] None (omega (arith, length-map p.sides flat, lt))
      ∙ ap price_of_last (get_or-map flat p.sides k [] [] lt)

  pub best_set : (new : SideChunks) (chunks : List (List Step)) (price : Option Price) → new ≡ with_side p k chunks → price ≡ price_of_last (flat chunks) → AreBest new (set best k price) room
  best_set new chunks price e is =
      let prices = ap (λ (l : List (Option Price)). set l k price) h.prices ∙ ap (set (map price_of_last (lists_of p.sides)) k) is ∙ sym (map-set price_of_last (lists_of p.sides) k (flat chunks)) ∙ ap (map price_of_last) (sym (map-set flat p.sides k chunks)) in
      subst (λ (x : SideChunks). AreBest x (set best k price) room) (sym e) (record {
        prices = prices;
        full = h.full ∙ sym (length-set best k price);
      })

  pub best_kept : (new : SideChunks) (chunks : List (List Step)) → new ≡ with_side p k chunks → price_of_last (flat chunks) ≡ price_of_last (flat (chunks_at p.sides k)) → AreBest new best room
  best_kept new chunks e is =
      subst (λ (l : List (Option Price)). AreBest new l room) (set-get_or best k None) (best_set new chunks (get_or best k None) e (best_is ∙ sym is))

-- ---- what a caller sees

module _ (capacity : ℕ) (p : SideChunks) (now : SideLists) (view : record { capacity = capacity; lists = lists_of p.sides } ≡ now) (best : List (Option Price)) (room : ℕ) (h : AreBest p best room) (k : ℕ) (lt : k < length now.lists) where
  pub kept_here : k < length best
  kept_here = priced p best room h k (listed capacity p now view k lt)

  pub read_best : (price : Option Price) → price ≡ get_or best k price → price ≡ price_of_last (flat (chunks_at p.sides k))
  read_best price e = get_or_read best k price kept_here e None ∙ best_is p best room h k (listed capacity p now view k lt)

  pub seen_best : (price : Option Price) → price ≡ get_or best k price → price ≡ price_of_last (list_at now.lists k)
  seen_best price e =
      read_best price e ∙ ap (λ (l : List Step). price_of_last l) (list_is capacity p now view k lt)

-- ---- at the start

none_best : (count : ℕ) → replicate count None ≡ map price_of_last (lists_of (replicate count ([] ∷ [])))
none_best zero = refl
none_best (suc n) = ap (λ (l : List (Option Price)). None ∷ l) (none_best n)

pub fresh_best : (count room : ℕ) (best : List (Option Price)) (full : ℕ) → best ≡ replicate count None → full ≡ count → AreBest (record { room = room; sides = replicate count ([] ∷ []) }) best full
fresh_best count room best full e f = record {
  prices = e ∙ none_best count;
  full = f ∙ sym (ap {B = ℕ} length e ∙ length-replicate count None);
}
