-- The first order of a side that has a number: where a walk along the best price finds it, and what marking it makes.
use Rattle.std.proofs.Common.{◌≡◌, ◌≢◌, ℕ, ◌<◌, ◌≤◌, Bool, true, false, cond, ◌&&◌, ◌||◌, List, [], ◌∷◌, ◌++◌, filter, Option, Some, None, refl, sym, ap, subst, ◌∙◌, arith, inl, inr, append_assoc}
use Prim.Native.Nat.{zero, suc}
use Rattle.std.specs.Prelude.{◌==◌, nat_le, ℤ}
use Rattle.std.specs.Ordering.{int_eq}
use Rattle.std.specs.List.{AllByRecursion, list_any}
use Rattle.std.proofs.lemmas.Bool.{true≢false}
use Rattle.std.proofs.lemmas.Bool.Decides.{eqb_tells, nat_tests, Decides-eqb}
use Rattle.std.proofs.lemmas.List.Elements.{filter-append}
use Rattle.gx_base.specs.declared.price.Price.{Price}
use Rattle.gx_base.specs.declared.order.Side.{Side}
use Rattle.gx_base.specs.declared.order.Side.TheVariants.{Buy, Sell}
use Rattle.gx_base.specs.declared.order.Order.{Order}
use Rattle.gx_base.proofs.Tests.{not-both}
use Rattle.book_order.specs.Levels.{Level, is_side, is_better, is_level, is_before}
use Rattle.plain_book.specs.declared.entry.Entry.{Entry}
use Rattle.plain_book.specs.Orders.{level, level_of, is_on, is_at, HasSlot, order_of, slot_of, slot_after, side_of, orders_at, best_of, price_of, with_top, topped}
use Rattle.plain_book.specs.Book.{Book, IsRight, AllDiffer, EachPair, AreInBookOrder, CanBeTop, live_orders, book_with_top}
use Rattle.plain_book.specs.Numbers.{entry_numbered, numbered, book_numbered}
use Rattle.plain_book.proofs.Levels.{HasSlot-filter, HasSlot-left, AllDiffer-filter, AllDiffer-front, order_of-left, order_of-filter, same, lacks, and-left, and-right, is_level-same, is_level-refl, is_side-same, is_side-refl}
use Rattle.plain_book.proofs.Live.{first-has, orders-at}
use Rattle.plain_book.proofs.Pairs.{all-passing, all-with}
use Rattle.plain_book.proofs.Walks.{Stands, stands-has, stands-order, stands-after}
use Rattle.plain_book.proofs.Tops.{best-is-best, behind-on}
use Rattle.book_image.specs.Faults.{is_order_on, has_price, is_at_best, top_at}
use Rattle.book_image.specs.Reading.{with_first_top, with_all_tops}
use Rattle.book_image.specs.Inner.Loading.{has_number, orders_of, NoneTop, NoneTopOn, HasResting}
use Rattle.book_walks.proofs.OrderWalks.{left_from, Next, next-of, none-of, fewer-behind}
use Rattle.book_image.proofs.LoadLevels.{before-total}

-- ---- a walk along a level

-- none of the orders that the walk has passed has the number, and the next order is that of this slot
pub record IsPassed (number : ℕ) (es : List Entry) (at : Option ℕ) : Type 0 where
  pub done : List Entry
  pub rest : List Entry
  pub whole : es ≡ done ++ rest
  pub next : at ≡ slot_of rest
  pub none : filter (has_number number) done ≡ []

pub passed-none : (number : ℕ) (es : List Entry) (at : Option ℕ) → at ≡ slot_of es → IsPassed number es at
passed-none number es at h = record { done = []; rest = es; whole = refl; next = h; none = refl }

filter-head : (number : ℕ) (done behind : List Entry) (e : Entry) (b : Bool) → filter (has_number number) done ≡ [] → has_number number e ≡ b
    → filter (has_number number) (done ++ e ∷ behind) ≡ cond b (e ∷ filter (has_number number) behind) (filter (has_number number) behind)
filter-head number done behind e b none h =
    let p = has_number number in
    filter-append p done (e ∷ behind) ∙ ap (λ (l : List Entry). l ++ filter p (e ∷ behind)) none ∙ ap (λ (c : Bool). cond c (e ∷ filter p behind) (filter p behind)) h

module _ (b : Book) (right : IsRight b) (k : Level) (number : ℕ) (at : Option ℕ) (w : IsPassed number (orders_at k b.resting) at) where
  -- the walk has passed all
  pub passed-all : at ≡ None → None ≡ slot_of (filter (has_number number) (orders_at k b.resting))
  passed-all is =
      let rest : w.rest ≡ [] = none-of at w.rest w.next is in
      let p = has_number number in
      sym (ap (λ (l : List Entry). slot_of (filter p l)) (w.whole ∙ ap (λ (l : List Entry). w.done ++ l) rest)
      ∙ ap slot_of (filter-append p w.done [] ∙ ap (λ (l : List Entry). l ++ []) w.none))

  module _ (slot : ℕ) (is : at ≡ Some slot) where
    next : Next w.rest slot
    next = next-of at slot w.rest w.next is

    abbrev parts : List Entry → Type 0
    parts l = l ≡ w.done ++ next.e ∷ next.behind

    all-parts : orders_at k b.resting ≡ w.done ++ next.e ∷ next.behind
    all-parts = w.whole ∙ ap (λ (l : List Entry). w.done ++ l) next.is

    here : Stands k b.resting w.done next.e next.behind
    here = record { differ = AllDiffer-front b.resting b.waiting right.differ; is = all-parts }

    pub next-has : HasSlot slot b.resting
    next-has = subst (λ (n : ℕ). HasSlot n b.resting) next.named (stands-has here)

    pub next-live : HasSlot slot (live_orders b)
    next-live = HasSlot-left slot b.resting b.waiting next-has

    next-order : order_of slot (live_orders b) ≡ next.e.order
    next-order = order_of-left slot b.resting b.waiting next-has ∙ ap (λ (n : ℕ). order_of n b.resting) (sym next.named) ∙ stands-order here

    next-after : slot_after slot (orders_at (level_of (order_of slot b.resting)) b.resting) ≡ slot_of next.behind
    next-after = ap (λ (n : ℕ). slot_after n (orders_at (level_of (order_of n b.resting)) b.resting)) (sym next.named) ∙ stands-after here

    -- the walk has found the order
    pub next-found : (o : Order) → o ≡ order_of slot (live_orders b) → o.number ≡ number → at ≡ slot_of (filter (has_number number) (orders_at k b.resting))
    next-found o o-is num =
        let hit : has_number number next.e ≡ true = (Decides-eqb next.e.order.number number).1 (ap (λ (q : Order). q.number) (sym (o-is ∙ next-order)) ∙ num) in
        is ∙ ap (λ (n : ℕ). Some n) (sym next.named)
        ∙ sym (ap (λ (l : List Entry). slot_of (filter (has_number number) l)) all-parts ∙ ap slot_of (filter-head number w.done next.behind next.e true w.none hit))

    module _ (then : Option ℕ) (then-is : then ≡ slot_after slot (orders_at (level_of (order_of slot b.resting)) b.resting)) where
      -- or it goes on
      pub next-passed : (o : Order) → o ≡ order_of slot (live_orders b) → o.number ≢ number → IsPassed number (orders_at k b.resting) then
      next-passed o o-is num =
          let miss : has_number number next.e ≡ false = elim (eqb_tells next.e.order.number number) [
            | inl t ↦ absurd (num (ap (λ (q : Order). q.number) (o-is ∙ next-order) ∙ t.1))
            | inr t ↦ t.0
          ] in
          record {
            done = w.done ++ next.e ∷ [];
            rest = next.behind;
            whole = all-parts ∙ sym (append_assoc w.done (next.e ∷ []) next.behind);
            next = then-is ∙ next-after;
            none = filter-head number w.done [] next.e false w.none miss;
          }

      pub next-fewer : left_from then (orders_at k b.resting) < left_from at (orders_at k b.resting)
      next-fewer =
          let L = orders_at k b.resting in
          let d : AllDiffer L = AllDiffer-filter (is_at k) b.resting (AllDiffer-front b.resting b.waiting right.differ) in
          fewer-behind L w.done w.rest slot at then d w.whole w.next next (then-is ∙ next-after)

-- ---- the best price

filter-both : (p q : Entry → Bool) (es : List Entry) → filter q (filter p es) ≡ filter (λ e. p e && q e) es
filter-both p q [] = refl
filter-both p q (e ∷ es) =
    let F = filter q (filter p es) in
    let go : (b : Bool) → filter q (cond b (e ∷ filter p es) (filter p es)) ≡ cond (b && q e) (e ∷ filter (λ e. p e && q e) es) (filter (λ e. p e && q e) es) = elim [
      | true ↦ ap (λ (l : List Entry). cond (q e) (e ∷ l) l) (filter-both p q es)
      | false ↦ filter-both p q es
    ] in
    go (p e)

some-first : (p : Entry → Bool) (es : List Entry) → list_any p es ≡ true → slot_of (filter p es) ≡ None → ⊥
some-first p [] h n = true≢false (sym h)
some-first p (e ∷ es) h n =
    let F = filter p es in
    let go : (c : Bool) → p e ≡ c → ⊥ = elim [
      | true ↦ λ k. (let f : Some e.slot ≡ None = ap (λ (c : Bool). slot_of (cond c (e ∷ F) F)) (sym k) ∙ n in absurd cc)
      | false ↦ λ k. some-first p es (ap (λ (c : Bool). c || list_any p es) (sym k) ∙ h) (ap (λ (c : Bool). slot_of (cond c (e ∷ F) F)) (sym k) ∙ n)
    ] in
    go (p e) refl

module _ (i : ℕ) (s : Side) (number : ℕ) where
  -- an order of the side that has the number
  abbrev pub is_marked_by : Entry → Bool
  is_marked_by e = is_on i s e && (e.order.number == number)

  module _ (p : Price) where
    abbrev pub is_found : Entry → Bool
    is_found e = is_at (level i s p) e && has_number number e

    at-is : (e : Entry) → is_on i s e ≡ false → is_at (level i s p) e ≡ false
    at-is e off = and-off (e.order.instrument == i) (is_side e.order.side s) (int_eq e.order.price.0 p.0) off
      where
        and-off : (a b c : Bool) → (a && b) ≡ false → (a && (b && c)) ≡ false
        and-off true true c h = cc
        and-off true false c h = refl
        and-off false b c h = refl

    -- after a worse price no order stands at the best one
    behind-worse : (e : Entry) (es : List Entry) → is_before (level i s p) (level_of e.order) ≡ true → AllByRecursion (AreInBookOrder e) es → filter is_found es ≡ []
    behind-worse e [] worse o = refl
    behind-worse e (x ∷ es) worse o =
        let F = filter is_found es in
        let go : (c : Bool) → is_at (level i s p) x ≡ c → cond (c && has_number number x) (x ∷ F) F ≡ [] = elim [
          | true ↦ λ h. not-both (is_before (level i s p) (level_of e.order)) worse (ap (λ (l : Level). is_before l (level_of e.order)) (sym (is_level-same _ _ h)) ∙ o.0)
          | false ↦ λ h. behind-worse e es worse o.1
        ] in
        ap (λ (c : Bool). cond (c && has_number number x) (x ∷ F) F) refl ∙ go (is_at (level i s p) x) refl

    -- the first order at the best price that has the number is the first one of the side
    pub first-at-best : (slot : ℕ) (es : List Entry) → EachPair AreInBookOrder es → AllByRecursion (λ (x : Entry). is_on i s x ≡ true → is_better s x.order.price.0 p.0 ≡ false) es
        → slot_of (filter is_found es) ≡ Some slot → slot_of (filter is_marked_by es) ≡ Some slot
    first-at-best slot [] o best h = h
    first-at-best slot (e ∷ es) o best h =
        let F = filter is_found es in
        let G = filter is_marked_by es in
        let test : Bool → Option ℕ = λ c. slot_of (cond (c && has_number number e) (e ∷ F) F) in
        let goal : Bool → Option ℕ = λ c. slot_of (cond (c && has_number number e) (e ∷ G) G) in
        let on : (c : Bool) → is_on i s e ≡ c → goal c ≡ Some slot = elim [
          | false ↦ λ off. first-at-best slot es o.1 best.1 (ap test (sym (at-is e off)) ∙ h)
          | true ↦ λ yes.
              let at : (c : Bool) → is_at (level i s p) e ≡ c → goal true ≡ Some slot = elim [
                | true ↦ λ here.
                    let num : (c : Bool) → has_number number e ≡ c → slot_of (cond c (e ∷ G) G) ≡ Some slot = elim [
                      | true ↦ λ n. ap (λ (c : Bool). slot_of (cond c (e ∷ F) F)) (sym n) ∙ ap test (sym here) ∙ h
                      | false ↦ λ n. first-at-best slot es o.1 best.1 (ap (λ (c : Bool). slot_of (cond c (e ∷ F) F)) (sym n) ∙ ap test (sym here) ∙ h)
                    ] in
                    num (has_number number e) refl
                | false ↦ λ there.
                    let inst : e.order.instrument ≡ i = (Decides-eqb e.order.instrument i).0 (and-left _ _ yes) in
                    let side : e.order.side ≡ s = is_side-same _ _ (and-right (e.order.instrument == i) _ yes) in
                    let worse : is_before (level i s p) (level_of e.order) ≡ true = stands-behind e inst side there (best.0 yes) in
                    let none : F ≡ [] = behind-worse e es worse o.0 in
                    absurd (let k : None ≡ Some slot = sym (ap slot_of none) ∙ ap test (sym there) ∙ h in cc)
              ] in
              at (is_at (level i s p) e) refl
        ] in
        on (is_on i s e) refl
      where
        stands-behind : (e : Entry) → e.order.instrument ≡ i → e.order.side ≡ s → is_at (level i s p) e ≡ false → is_better s e.order.price.0 p.0 ≡ false → is_before (level i s p) (level_of e.order) ≡ true
        stands-behind e inst side there best =
            let best_order : Order = record e.order { instrument = i; side = s; price = p } in
            let x : Entry = record { slot = e.slot; order = best_order; is_top = false } in
            let n = e.order in
            let on : is_on n.instrument n.side x ≡ true =
            ap (λ (j : ℕ). (i == j) && is_side s n.side) inst ∙ ap (λ (d : Side). (i == i) && is_side s d) side ∙ ap (λ (c : Bool). c && is_side s s) (same i) ∙ is_side-refl s in
            let after : is_before (level_of n) (level i s p) ≡ false = behind-on e x on ∙ ap (λ (d : Side). is_better d n.price.0 p.0) side ∙ best in
            let apart : (c : Bool) → is_level (level i s p) (level_of n) ≡ c → c ≡ false = elim [
              | true ↦ λ h. not-both (is_level (level_of n) (level_of n)) (is_level-refl (level_of n)) (ap (is_level (level_of n)) (sym (is_level-same _ _ h)) ∙ there)
              | false ↦ λ h. refl
            ] in
            before-total (level i s p) (level_of n) (apart (is_level (level i s p) (level_of n)) refl) after

    -- some order at the best price has the number
    pub found-some : (es : List Entry) → best_of i s es ≡ Some p → is_at_best i s number (orders_of es) ≡ true → list_any is_found es ≡ true
    found-some [] best h = absurd (let k : None ≡ Some p = best in cc)
    found-some (e ∷ es) best h =
        let first : Bool → Option Price = λ c. price_of (cond c (e ∷ side_of i s es) (side_of i s es)) in
        let among = list_any (λ (x : Order). is_order_on i s x && has_price e.order.price x && (x.number == number)) (orders_of (e ∷ es)) in
        let test : Bool → Bool = λ c. cond c among (is_at_best i s number (orders_of es)) in
        let go : (c : Bool) → is_on i s e ≡ c → list_any is_found (e ∷ es) ≡ true = elim [
          | true ↦ λ on.
              let k : Some e.order.price ≡ Some p = ap first (sym on) ∙ best in
              let price : e.order.price ≡ p = cc in
              any-same (e ∷ es)
              ∙ ap (λ (r : Price). list_any (λ (x : Order). is_order_on i s x && has_price r x && (x.number == number)) (orders_of (e ∷ es))) (sym price)
              ∙ ap test (sym on) ∙ h
          | false ↦ λ off.
              ap (λ (c : Bool). (c && has_number number e) || list_any is_found es) (at-is e off)
              ∙ found-some es (ap first (sym off) ∙ best) (ap test (sym off) ∙ h)
        ] in
        go (is_on i s e) refl
      where
        shuffle : (a b c d : Bool) → ((a && (b && c)) && d) ≡ (((a && b) && c) && d)
        shuffle true true c d = refl
        shuffle true false c d = refl
        shuffle false b c d = refl

        any-same : (es : List Entry) → list_any is_found es ≡ list_any (λ (x : Order). is_order_on i s x && has_price p x && (x.number == number)) (orders_of es)
        any-same [] = refl
        any-same (e ∷ es) =
            let o = e.order in
            ap (λ (c : Bool). c || list_any is_found es) (shuffle (o.instrument == i) (is_side o.side s) (int_eq o.price.0 p.0) (o.number == number))
            ∙ ap (λ (c : Bool). (is_order_on i s o && has_price p o && (o.number == number)) || c) (any-same es)

  pub best-some : (es : List Entry) → best_of i s es ≡ None → is_at_best i s number (orders_of es) ≡ false
  best-some [] best = refl
  best-some (e ∷ es) best =
      let first : Bool → Option Price = λ c. price_of (cond c (e ∷ side_of i s es) (side_of i s es)) in
      let among = list_any (λ (x : Order). is_order_on i s x && has_price e.order.price x && (x.number == number)) (orders_of (e ∷ es)) in
      let test : Bool → Bool = λ c. cond c among (is_at_best i s number (orders_of es)) in
      let go : (c : Bool) → is_on i s e ≡ c → test c ≡ false = elim [
        | true ↦ λ on. absurd (let k : Some e.order.price ≡ None = ap first (sym on) ∙ best in cc)
        | false ↦ λ off. best-some es (ap first (sym off) ∙ best)
      ] in
      go (is_on i s e) refl

-- ---- marking it

topped-same : (i : ℕ) (s : Side) (slot : ℕ) (e : Entry) → (e.slot == slot) ≡ false → (is_on i s e ≡ true → e.is_top ≡ false) → topped i s (Some slot) e ≡ e
topped-same i s slot e off none =
    let mark : Bool → Entry = λ t. record e { is_top = t } in
    let go : (c : Bool) → is_on i s e ≡ c → cond c (e.slot == slot) e.is_top ≡ e.is_top = elim [ true ↦ λ on. off ∙ sym (none on) | false ↦ λ on. refl ] in
    ap mark (go (is_on i s e) refl)

unmarked-rest : (i : ℕ) (s : Side) (slot : ℕ) (es : List Entry) → (HasSlot slot es → ⊥) → NoneTopOn i s es → with_top i s (Some slot) es ≡ es
unmarked-rest i s slot [] lack none = refl
unmarked-rest i s slot (e ∷ es) lack none =
    ap (λ (x : Entry). x ∷ with_top i s (Some slot) es) (topped-same i s slot e (lacks slot e es lack) none.0)
    ∙ ap (λ (l : List Entry). e ∷ l) (unmarked-rest i s slot es (λ h. lack (inr h)) none.1)

pub marked-first : (i : ℕ) (s : Side) (number slot : ℕ) (es : List Entry) → AllDiffer es → NoneTopOn i s es → slot_of (filter (is_marked_by i s number) es) ≡ Some slot
    → numbered (with_top i s (Some slot) es) ≡ with_first_top i s number (numbered es)
marked-first i s number slot [] d none h = refl
marked-first i s number slot (e ∷ es) d none h =
    let F = filter (is_marked_by i s number) es in
    let q = is_marked_by i s number e in
    let W = with_first_top i s number (numbered es) in
    let top : Entry = record (entry_numbered e) { is_top = true } in
    let marked = with_top i s (Some slot) es in
    let go : (c : Bool) → q ≡ c → entry_numbered (topped i s (Some slot) e) ∷ numbered marked ≡ cond c (top ∷ numbered es) (entry_numbered e ∷ W) = elim [
      | true ↦ λ hit.
          let k : Some e.slot ≡ Some slot = ap (λ (c : Bool). slot_of (cond c (e ∷ F) F)) (sym hit) ∙ h in
          let here : e.slot ≡ slot = cc in
          let on : is_on i s e ≡ true = and-left _ _ hit in
          let mark : (topped i s (Some slot) e).is_top ≡ true = ap (λ (c : Bool). cond c (e.slot == slot) e.is_top) on ∙ (Decides-eqb e.slot slot).1 here in
          ap (λ (t : Bool). (record (entry_numbered e) { is_top = t }) ∷ numbered marked) mark
          ∙ ap (λ (l : List Entry). top ∷ numbered l) (unmarked-rest i s slot es (subst (λ (n : ℕ). HasSlot n es → ⊥) here d.0) none.1)
      | false ↦ λ miss.
          let later : slot_of F ≡ Some slot = ap (λ (c : Bool). slot_of (cond c (e ∷ F) F)) (sym miss) ∙ h in
          let has : HasSlot slot es = HasSlot-filter (is_marked_by i s number) slot es (first-has slot F later) in
          let off : (e.slot == slot) ≡ false = elim (eqb_tells e.slot slot) [
            | inl t ↦ absurd (d.0 (subst (λ (n : ℕ). HasSlot n es) (sym t.1) has))
            | inr t ↦ t.0
          ] in
          ap (λ (x : Entry). entry_numbered x ∷ numbered marked) (topped-same i s slot e off none.0)
          ∙ ap (λ (l : List Entry). entry_numbered e ∷ l) (marked-first i s number slot es d.1 none.1 later)
    ] in
    go q refl

-- the order of a slot is at the level that the slot was found at
level-price : (k : Level) (slot : ℕ) (es : List Entry) → AllDiffer es → HasSlot slot (orders_at k es) → level_of (order_of slot es) ≡ k
level-price k slot es d has =
    let P = λ (o : Order). is_level (level_of o) k ≡ true in
    is_level-same _ _ (subst P (order_of-filter (is_at k) slot es d has) (orders-at P slot (orders_at k es) (all-passing (λ (e : Entry). P e.order) (is_at k) (λ e h. h) es) has))

HasSlot-weaker : (p q : Entry → Bool) → ((e : Entry) → p e ≡ true → q e ≡ true) → (slot : ℕ) (es : List Entry) → HasSlot slot (filter p es) → HasSlot slot (filter q es)
HasSlot-weaker p q w slot [] h = h
HasSlot-weaker p q w slot (e ∷ es) h =
    let F = filter p es in
    let G = filter q es in
    let go : (c : Bool) → p e ≡ c → HasSlot slot (cond c (e ∷ F) F) → HasSlot slot (cond (q e) (e ∷ G) G) = elim [
      | true ↦ λ is k. subst (λ (c : Bool). HasSlot slot (cond c (e ∷ G) G)) (sym (w e is)) (elim k [ inl a ↦ inl a | inr a ↦ inr (HasSlot-weaker p q w slot es a) ])
      | false ↦ λ is k. behind (q e) (HasSlot-weaker p q w slot es k)
    ] in
    go (p e) refl h
  where
    behind : (c : Bool) → HasSlot slot (filter q es) → HasSlot slot (cond c (e ∷ filter q es) (filter q es))
    behind true h = inr h
    behind false h = h

module _ (b : Book) (right : IsRight b) (i : ℕ) (s : Side) (number : ℕ) (p : Price) (best : best_of i s b.resting ≡ Some p) (top : Option ℕ)
    (top-is : top ≡ slot_of (filter (has_number number) (orders_at (level i s p) b.resting))) where
  can-of : (found : Option ℕ) → found ≡ slot_of (filter (has_number number) (orders_at (level i s p) b.resting)) → CanBeTop i s found b.resting
  can-of None is = tt
  can-of (Some slot) is =
      let d = AllDiffer-front b.resting b.waiting right.differ in
      let has : HasSlot slot (orders_at (level i s p) b.resting) =
      HasSlot-filter (has_number number) slot (orders_at (level i s p) b.resting) (first-has slot (filter (has_number number) (orders_at (level i s p) b.resting)) (sym is)) in
      let lev : level_of (order_of slot b.resting) ≡ level i s p = level-price (level i s p) slot b.resting d has in
      let mk : ℤ → Price = λ z. record { 0 = z } in
      let price : (order_of slot b.resting).price ≡ p = ap (λ (l : Level). mk l.price) lev in
      (HasSlot-weaker (is_at (level i s p)) (is_on i s) on-side slot b.resting has, best ∙ ap (λ (q : Price). Some q) (sym price))
    where
      three : (a c d : Bool) → (a && (c && d)) ≡ true → (a && c) ≡ true
      three true true d h = refl
      three true false d h = h
      three false c d h = h

      on-side : (e : Entry) → is_at (level i s p) e ≡ true → is_on i s e ≡ true
      on-side e h = three (e.order.instrument == i) (is_side e.order.side s) (int_eq e.order.price.0 p.0) h

  pub can-be-top : CanBeTop i s top b.resting
  can-be-top = can-of top top-is

  module _ (h : is_at_best i s number (orders_of b.resting) ≡ true) (none : NoneTopOn i s b.resting) where
    marked-by : (found : Option ℕ) → found ≡ slot_of (filter (has_number number) (orders_at (level i s p) b.resting)) → numbered (with_top i s found b.resting) ≡ with_first_top i s number (numbered b.resting)
    marked-by None is =
        let both = filter-both (is_at (level i s p)) (has_number number) b.resting in
        absurd (some-first (is_found i s number p) b.resting (found-some i s number p b.resting best h) (sym (is ∙ ap slot_of both)))
    marked-by (Some slot) is =
        let both = filter-both (is_at (level i s p)) (has_number number) b.resting in
        marked-first i s number slot b.resting (AllDiffer-front b.resting b.waiting right.differ) none
        (first-at-best i s number p slot b.resting right.ordered (best-is-best i s p b.resting right.ordered best) (sym (is ∙ ap slot_of both)))

    pub marked-top : (new : Book) → new ≡ book_with_top i s top b → HasResting b new (with_first_top i s number (numbered b.resting))
    marked-top new is =
        let with_list : List Entry → Book = λ es. record (book_numbered b) { resting = es } in
        ap book_numbered is ∙ ap with_list (marked-by top top-is)

-- ---- no mark

pub unmarked-zero : (i : ℕ) (s : Side) (es : List Entry) → AllByRecursion (λ (o : Order). 1 ≤ o.number) (orders_of es) → with_first_top i s 0 (numbered es) ≡ numbered es
unmarked-zero i s [] h = refl
unmarked-zero i s (e ∷ es) h =
    let W = with_first_top i s 0 (numbered es) in
    let top : Entry = record (entry_numbered e) { is_top = true } in
    let off : (e.order.number == 0) ≡ false = elim (eqb_tells e.order.number 0) [ inl t ↦ (let z : e.order.number ≡ 0 = t.1 in absurd (omega (arith, h.0))) | inr t ↦ t.0 ] in
    let never : (a : Bool) → (a && false) ≡ false = elim [ true ↦ refl | false ↦ refl ] in
    ap (λ (c : Bool). cond (is_on i s e && c) (top ∷ numbered es) (entry_numbered e ∷ W)) off
    ∙ ap (λ (c : Bool). cond c (top ∷ numbered es) (entry_numbered e ∷ W)) (never (is_on i s e))
    ∙ ap (λ (l : List Entry). entry_numbered e ∷ l) (unmarked-zero i s es h.1)

-- ---- the marks of all instruments

pub first-top-orders : (i : ℕ) (s : Side) (number : ℕ) (es : List Entry) → orders_of (with_first_top i s number es) ≡ orders_of es
first-top-orders i s number [] = refl
first-top-orders i s number (e ∷ es) =
    let W = with_first_top i s number es in
    let top : Entry = record e { is_top = true } in
    let go : (c : Bool) → orders_of (cond c (top ∷ es) (e ∷ W)) ≡ orders_of (e ∷ es) = elim [
      | true ↦ refl
      | false ↦ ap (λ (os : List Order). e.order ∷ os) (first-top-orders i s number es)
    ] in
    go (is_on i s e && (e.order.number == number))

pub all-tops-orders : (payload : List ℕ) (n : ℕ) (es : List Entry) → orders_of (with_all_tops payload n es) ≡ orders_of es
all-tops-orders payload zero es = refl
all-tops-orders payload (suc n) es =
    let W = with_all_tops payload n es in
    let buys = with_first_top n Buy (top_at payload n Buy) W in
    first-top-orders n Sell (top_at payload n Sell) buys ∙ first-top-orders n Buy (top_at payload n Buy) W ∙ all-tops-orders payload n es

-- what is not marked where a side of an instrument is
abbrev Unmarked : (Entry → Bool) → List Entry → Type 0
Unmarked p es = AllByRecursion (λ (e : Entry). p e ≡ true → e.is_top ≡ false) es

other-unmarked : (p : Entry → Bool) → ((e : Entry) (t : Bool) → p (record e { is_top = t }) ≡ p e) → (i : ℕ) (s : Side) (number : ℕ) → ((e : Entry) → is_on i s e ≡ true → p e ≡ false)
    → (es : List Entry) → Unmarked p es → Unmarked p (with_first_top i s number es)
other-unmarked p keeps i s number apart [] h = tt
other-unmarked p keeps i s number apart (e ∷ es) h =
    let W = with_first_top i s number es in
    let top : Entry = record e { is_top = true } in
    let go : (c : Bool) → (is_on i s e && (e.order.number == number)) ≡ c → Unmarked p (cond c (top ∷ es) (e ∷ W)) = elim [
      | true ↦ λ k. ((λ yes. not-both (p e) (sym (keeps e true) ∙ yes) (apart e (and-left _ _ k))), h.1)
      | false ↦ λ k. (h.0, other-unmarked p keeps i s number apart es h.1)
    ] in
    go (is_on i s e && (e.order.number == number)) refl

-- an order of an instrument from this one on
abbrev is_from : ℕ → Entry → Bool
is_from k e = nat_le k e.order.instrument

later-apart : (i k : ℕ) (s : Side) (e : Entry) → i < k → is_on i s e ≡ true → is_from k e ≡ false
later-apart i k s e lt on =
    let is : e.order.instrument ≡ i = (Decides-eqb e.order.instrument i).0 (and-left _ _ on) in
    grind (arith, nat_tests)

more-unmarked : (p q : Entry → Bool) → ((e : Entry) → q e ≡ true → p e ≡ true) → (es : List Entry) → Unmarked p es → Unmarked q es
more-unmarked p q w [] h = tt
more-unmarked p q w (e ∷ es) h = ((λ k. h.0 (w e k)), more-unmarked p q w es h.1)

all-tops-unmarked : (payload : List ℕ) (n k : ℕ) (es : List Entry) → n ≤ k → NoneTop es → Unmarked (is_from k) (with_all_tops payload n es)
all-tops-unmarked payload zero k es le none = all-with (λ (e : Entry). e.is_top ≡ false) (λ (e : Entry). is_from k e ≡ true → e.is_top ≡ false) (λ e h _. h) es none
all-tops-unmarked payload (suc n) k es le none =
    let W = with_all_tops payload n es in
    let lt : n < k = omega (arith, le) in
    let buys = with_first_top n Buy (top_at payload n Buy) W in
    other-unmarked (is_from k) (λ e t. refl) n Sell (top_at payload n Sell) (λ e on. later-apart n k Sell e lt on) buys
    (other-unmarked (is_from k) (λ e t. refl) n Buy (top_at payload n Buy) (λ e on. later-apart n k Buy e lt on) W (all-tops-unmarked payload n k es (omega (arith, le)) none))

on-from : (k : ℕ) (s : Side) (e : Entry) → is_on k s e ≡ true → is_from k e ≡ true
on-from k s e on =
    let is : e.order.instrument ≡ k = (Decides-eqb e.order.instrument k).0 (and-left _ _ on) in
    grind (arith, nat_tests)

-- no order of an instrument is TOP where only those before it are marked
pub buys-unmarked : (payload : List ℕ) (k : ℕ) (es : List Entry) (s : Side) → NoneTop es → NoneTopOn k s (with_all_tops payload k es)
buys-unmarked payload k es s none = more-unmarked (is_from k) (is_on k s) (on-from k s) (with_all_tops payload k es) (all-tops-unmarked payload k k es (omega arith) none)

-- and no sell of it where its buys are marked too
pub sells-unmarked : (payload : List ℕ) (k number : ℕ) (es : List Entry) → NoneTop es → NoneTopOn k Sell (with_first_top k Buy number (with_all_tops payload k es))
sells-unmarked payload k number es none =
    other-unmarked (is_on k Sell) (λ e t. refl) k Buy number (λ e on. other-side (e.order.instrument == k) e.order.side on) (with_all_tops payload k es) (buys-unmarked payload k es Sell none)
  where
    other-side : (b : Bool) (s : Side) → (b && is_side s Buy) ≡ true → (b && is_side s Sell) ≡ false
    other-side true Buy h = refl
    other-side true Sell h = cc
    other-side false s h = refl

pub none-numbered : (i : ℕ) (s : Side) (es : List Entry) → NoneTopOn i s (numbered es) → NoneTopOn i s es
none-numbered i s [] h = tt
none-numbered i s (e ∷ es) h = (h.0, none-numbered i s es h.1)

pub none-top-numbered : (es : List Entry) → NoneTop es → NoneTop (numbered es)
none-top-numbered [] h = tt
none-top-numbered (e ∷ es) h = (h.0, none-top-numbered es h.1)
