-- A sweep by steps that look at no firm does the same where orders are of other firms.
use Rattle.std.proofs.Common.{◌≡◌, ℕ, min, Bool, true, false, cond, not, List, [], ◌∷◌, ◌++◌, map, filter, Option, Some, None, refl, sym, ap, subst, ◌∙◌, inl, inr, ◌⊎◌}
use Prim.Native.Nat.{zero, suc}
use Rattle.std.specs.Prelude.{◌==◌}
use Rattle.std.specs.List.{AllByRecursion}
use Rattle.std.proofs.lemmas.List.{map-append}
use Rattle.std.proofs.lemmas.Bool.Decides.{eqb_tells}
use Rattle.gx_base.specs.declared.price.Price.{Price}
use Rattle.gx_base.specs.declared.order.Side.{Side}
use Rattle.gx_base.specs.declared.order.Order.{Order}
use Rattle.gx_base.specs.declared.event.Event.{Event}
use Rattle.gx_base.specs.declared.event.StepName.{StepName}
use Rattle.gx_base.specs.declared.event.StepName.TheVariants as name
use Rattle.step_config.specs.declared.step.Step.{Step}
use Rattle.step_config.specs.declared.step.Step.TheVariants.{Top, Lmm, Split, ProRata, Leveling, Fifo}
use Rattle.plain_book.specs.declared.entry.Entry.{Entry}
use Rattle.plain_book.specs.Orders.{no_order, Level, is_at, is_on, orders_at, side_of, best_of, price_of, slot_of, top_of, opposite, HasSlot, order_of, without, with_order, reordered, placed, settled, traded, refreshed, filled_by, is_at_earlier_level}
use Rattle.plain_book.specs.Match.{MatchState, Share, taken_by, trade, is_prorata, book_share_noted, share_noted, trade_share, trade_shares}
use Rattle.plain_book.specs.Steps.{facing, level_now, trade_head, fifo_rounds, prorata_shares}
use Rattle.level_sweep.specs.Sweep.{after_step, wanted_step, level_match, within_limit, next_price, match_next, sweep_rounds, sweep}
use Rattle.level_sweep.proofs.EachOrder.{none-traded}
use Rattle.market_laws.specs.Shares.{shares_of, of_firm, of_firms, IsBlind}
use Rattle.market_laws.specs.Firms.{Told, told, DifferInFirms}
use Rattle.market_laws.proofs.Proportion.{filter-firms, blind-shares}

module _ (firm : ℕ → ℕ) where
  abbrev pub by_slot : Entry → ℕ
  by_slot e = firm e.slot

  abbrev pub F : List Entry → List Entry
  F es = of_firms by_slot es

  abbrev pub with_firm : ℕ → Order → Order
  with_firm f o = record o { firm = f }

  -- ---- lists

  slot-same : (es : List Entry) → slot_of (F es) ≡ slot_of es
  slot-same [] = refl
  slot-same (e ∷ es) = refl

  price-same : (es : List Entry) → price_of (F es) ≡ price_of es
  price-same [] = refl
  price-same (e ∷ es) = refl

  pub side-same : (i : ℕ) (d : Side) (es : List Entry) → side_of i d (F es) ≡ F (side_of i d es)
  side-same i d es = filter-firms by_slot (is_on i d) (λ e. refl) es

  pub best-same : (i : ℕ) (d : Side) (es : List Entry) → best_of i d (F es) ≡ best_of i d es
  best-same i d es = ap price_of (side-same i d es) ∙ price-same (side_of i d es)

  top-same : (i : ℕ) (d : Side) (es : List Entry) → top_of i d (F es) ≡ top_of i d es
  top-same i d es =
      let top = λ (e : Entry). e.is_top in
      ap (λ (l : List Entry). slot_of (filter top l)) (side-same i d es) ∙ ap slot_of (filter-firms by_slot top (λ e. refl) (side_of i d es)) ∙ slot-same (filter top (side_of i d es))

  -- the order of a slot, of another firm
  order-same : (s : ℕ) (es : List Entry) → order_of s (F es) ≡ with_firm (order_of s (F es)).firm (order_of s es)
  order-same s [] = refl
  order-same s (e ∷ es) =
      let go : (b : Bool) → cond b (of_firm by_slot e).order (order_of s (F es)) ≡ with_firm (cond b (of_firm by_slot e).order (order_of s (F es))).firm (cond b e.order (order_of s es)) = elim [
        | true ↦ refl
        | false ↦ order-same s es
      ] in go (e.slot == s)

  firm-at : (s : ℕ) (es : List Entry) → HasSlot s es → (order_of s (F es)).firm ≡ firm s
  firm-at s [] h = absurd h
  firm-at s (e ∷ es) h = elim (eqb_tells e.slot s) [
    | inl t ↦ ap (λ (b : Bool). (cond b (of_firm by_slot e).order (order_of s (F es))).firm) t.0 ∙ ap firm t.1
    | inr t ↦ ap (λ (b : Bool). (cond b (of_firm by_slot e).order (order_of s (F es))).firm) t.0 ∙ firm-at s es (elim h [ inl is ↦ absurd (t.1 is) | inr k ↦ k ])
  ]

  pub order-at : (s : ℕ) (es : List Entry) → HasSlot s es → order_of s (F es) ≡ with_firm (firm s) (order_of s es)
  order-at s es h = order-same s es ∙ ap (λ (f : ℕ). with_firm f (order_of s es)) (firm-at s es h)

  pub without-same : (s : ℕ) (es : List Entry) → without s (F es) ≡ F (without s es)
  without-same s es = filter-firms by_slot (λ e. not (e.slot == s)) (λ e. refl) es

  pub with-same : (s : ℕ) (o now : Order) (es : List Entry) → (HasSlot s es → now ≡ with_firm (firm s) o) → with_order s now (F es) ≡ F (with_order s o es)
  with-same s o now [] h = refl
  with-same s o now (e ∷ es) h =
      let one : reordered s now (of_firm by_slot e) ≡ of_firm by_slot (reordered s o e) = elim (eqb_tells e.slot s) [
        | inl t ↦
            ap (λ (b : Bool). cond b (let x : Entry = record (of_firm by_slot e) { order = now } in x) (of_firm by_slot e)) t.0
            ∙ ap (λ (q : Order). (let x : Entry = record e { order = q } in x)) (h (inl t.1) ∙ ap (λ (n : ℕ). with_firm (firm n) o) (sym t.1))
            ∙ sym (ap (λ (b : Bool). of_firm by_slot (cond b (let x : Entry = record e { order = o } in x) e)) t.0)
        | inr t ↦
            ap (λ (b : Bool). cond b (let x : Entry = record (of_firm by_slot e) { order = now } in x) (of_firm by_slot e)) t.0
            ∙ sym (ap (λ (b : Bool). of_firm by_slot (cond b (let x : Entry = record e { order = o } in x) e)) t.0)
      ] in
      ap (λ (x : Entry). x ∷ with_order s now (F es)) one ∙ ap (λ (l : List Entry). of_firm by_slot (reordered s o e) ∷ l) (with-same s o now es (λ k. h (inr k)))

  pub placed-same : (n : Entry) (es : List Entry) → placed (of_firm by_slot n) (F es) ≡ F (placed n es)
  placed-same n es =
      let p = is_at_earlier_level n in
      let q = λ (e : Entry). not (p e) in
      ap (λ (l : List Entry). l ++ of_firm by_slot n ∷ filter p (F es)) (filter-firms by_slot q (λ e. refl) es)
      ∙ ap (λ (l : List Entry). F (filter q es) ++ of_firm by_slot n ∷ l) (filter-firms by_slot p (λ e. refl) es)
      ∙ sym (map-append (of_firm by_slot) (filter q es) (n ∷ filter p es))

  settled-same : (s : ℕ) (o now : Order) (es : List Entry) → now ≡ with_firm (firm s) o → settled s now (F es) ≡ F (settled s o es)
  settled-same s o now es h =
      let n : Entry = record { slot = s; order = refreshed o; is_top = false } in
      let left = without s es in
      let gone = without-same s es in
      let back : placed (record { slot = s; order = refreshed (with_firm (firm s) o); is_top = false }) (without s (F es)) ≡ F (placed n left) =
      ap (placed (of_firm by_slot n)) gone ∙ placed-same n left in
      let stays = with-same s o (with_firm (firm s) o) es (λ k. refl) in
      let go : (x y : Bool) → cond x (without s (F es)) (cond y (placed (record { slot = s; order = refreshed (with_firm (firm s) o); is_top = false }) (without s (F es))) (with_order s (with_firm (firm s) o) (F es))) ≡ F (cond x left (cond y (placed n left) (with_order s o es))) = elim [
        | true ↦ λ y. gone
        | false ↦ elim [ true ↦ back | false ↦ stays ]
      ] in ap (λ (q : Order). settled s q (F es)) h ∙ go (o.leaves == 0) (o.shown == 0)

  has-or-none : (s : ℕ) (es : List Entry) → HasSlot s es ⊎ ((order_of s es ≡ no_order) × (order_of s (F es) ≡ no_order))
  has-or-none s [] = inr (refl, refl)
  has-or-none s (e ∷ es) = elim (eqb_tells e.slot s) [
    | inl t ↦ inl (inl t.1)
    | inr t ↦ elim (has-or-none s es) [
      | inl h ↦ inl (inr h)
      | inr z ↦ inr (ap (λ (b : Bool). cond b e.order (order_of s es)) t.0 ∙ z.0, ap (λ (b : Bool). cond b (of_firm by_slot e).order (order_of s (F es))) t.0 ∙ z.1)
    ]
  ]

  traded-same : (s n : ℕ) (es : List Entry) → traded s n (F es) ≡ F (traded s n es)
  traded-same s n es = elim (has-or-none s es) [
    | inl h ↦ settled-same s (filled_by n (order_of s es)) (filled_by n (order_of s (F es))) es (ap (filled_by n) (order-at s es h))
    | inr z ↦ none-traded s s n (F es) (F es) z.1 ∙ without-same s es ∙ sym (ap F (none-traded s s n es es z.0))
  ]

  marked-same : (s n : ℕ) (es : List Entry) → with_order s (record (order_of s (F es)) { prorated = n }) (F es) ≡ F (with_order s (record (order_of s es) { prorated = n }) es)
  marked-same s n es = with-same s (record (order_of s es) { prorated = n }) (record (order_of s (F es)) { prorated = n }) es (λ h. ap (λ (o : Order). (let x : Order = record o { prorated = n } in x)) (order-at s es h))

  -- ---- a trade

  pub told-one : (xs ys : List Event) (x y : Event) → map told xs ≡ map told ys → told x ≡ told y → map told (xs ++ x ∷ []) ≡ map told (ys ++ y ∷ [])
  told-one xs ys x y h k =
      map-append told xs (x ∷ []) ∙ ap (λ (l : List (Option Told)). l ++ told x ∷ []) h ∙ ap (λ (t : Option Told). map told ys ++ t ∷ []) k ∙ sym (map-append told ys (y ∷ []))

  abbrev pub Alike : MatchState → MatchState → Type 0
  Alike a b = DifferInFirms firm a b

  pub number-same : (a b : MatchState) → Alike a b → b.taker.order.number ≡ a.taker.order.number
  number-same a b h = ap (λ (o : Order). o.number) h.incoming

  pub leaves-same : (a b : MatchState) → Alike a b → b.taker.order.leaves ≡ a.taker.order.leaves
  leaves-same a b h = ap (λ (o : Order). o.leaves) h.incoming

  trade-alike : (step : StepName) (s n : ℕ) (a b : MatchState) → Alike a b → Alike (trade step s n a) (trade step s n b)
  trade-alike step s n a b h =
      let es = a.book.resting in
      let given : order_of s b.book.resting ≡ with_firm (order_of s (F es)).firm (order_of s es) = ap (order_of s) h.resting ∙ order-same s es in
      let number = ap (λ (o : Order). o.number) given in
      let price = ap (λ (o : Order). o.price) given in
      let tell : ℕ → Price → Option Told = λ k p. Some (record { number = k; lots = n; price = p; step = step }) in
      let one : tell (order_of s b.book.resting).number (order_of s b.book.resting).price ≡ tell (order_of s es).number (order_of s es).price = ap (λ (k : ℕ). tell k (order_of s b.book.resting).price) number ∙ ap (tell (order_of s es).number) price in
      let two : tell b.taker.order.number (order_of s b.book.resting).price ≡ tell a.taker.order.number (order_of s es).price = ap (λ (k : ℕ). tell k (order_of s b.book.resting).price) (number-same a b h) ∙ ap (tell a.taker.order.number) price in
      record {
        resting = ap (traded s n) h.resting ∙ traded-same s n es;
        incoming = ap (taken_by n) h.incoming;
        fills = told-one _ _ _ _ (told-one b.events a.events _ _ h.fills one) two;
      }

  mark-alike : (step : StepName) (s n : ℕ) (a b : MatchState) → Alike a b → Alike (share_noted step s n a) (share_noted step s n b)
  mark-alike step s n a b h =
      let mark = λ (es : List Entry). with_order s (record (order_of s es) { prorated = n }) es in
      let go : (c : Bool) → Alike (record a { book = cond c (book_share_noted s n a.book) a.book }) (record b { book = cond c (book_share_noted s n b.book) b.book }) = elim [
        | true ↦ record { resting = ap mark h.resting ∙ marked-same s n a.book.resting; incoming = h.incoming; fills = h.fills }
        | false ↦ h
      ] in go (is_prorata step)

  share-alike : (step : StepName) (s n : ℕ) (a b : MatchState) → Alike a b → Alike (trade_share step s n a) (trade_share step s n b)
  share-alike step s n a b h =
      let x = share_noted step s n a in
      let y = share_noted step s n b in
      let k = mark-alike step s n a b h in
      let go : (c : Bool) → Alike (cond c x (trade step s n x)) (cond c y (trade step s n y)) = elim [ true ↦ k | false ↦ trade-alike step s n x y k ] in
      go (n == 0)

  shares-alike : (step : StepName) (xs : List Share) (a b : MatchState) → Alike a b → Alike (trade_shares step xs a) (trade_shares step xs b)
  shares-alike step [] a b h = h
  shares-alike step (x ∷ xs) a b h = shares-alike step xs (trade_share step x.0 x.1 a) (trade_share step x.0 x.1 b) (share-alike step x.0 x.1 a b h)

  -- ---- a level

  level-alike : (price : Price) (a b : MatchState) → Alike a b → level_now price b ≡ F (level_now price a)
  level-alike price a b h =
      let k : facing price b.taker ≡ facing price a.taker = ap (λ (o : Order). (let l : Level = record { instrument = o.instrument; side = opposite o.side; price = price.0 } in l)) h.incoming in
      ap (λ (l : Level). orders_at l b.book.resting) k ∙ ap (orders_at (facing price a.taker)) h.resting ∙ filter-firms by_slot (is_at (facing price a.taker)) (λ e. refl) a.book.resting

  top-alike : (a b : MatchState) → Alike a b → top_of b.taker.order.instrument (opposite b.taker.order.side) b.book.resting ≡ top_of a.taker.order.instrument (opposite a.taker.order.side) a.book.resting
  top-alike a b h =
      ap (λ (o : Order). top_of o.instrument (opposite o.side) b.book.resting) h.incoming
      ∙ ap (top_of a.taker.order.instrument (opposite a.taker.order.side)) h.resting
      ∙ top-same a.taker.order.instrument (opposite a.taker.order.side) a.book.resting

  -- the shares of a step
  now-alike : (step : Step) → IsBlind step → (price : Price) (a b : MatchState) → Alike a b
      → shares_of step (top_of b.taker.order.instrument (opposite b.taker.order.side) b.book.resting) b.taker.order.leaves (level_now price b)
      ≡ shares_of step (top_of a.taker.order.instrument (opposite a.taker.order.side) a.book.resting) a.taker.order.leaves (level_now price a)
  now-alike step blind price a b h =
      ap (λ (top : Option ℕ). shares_of step top b.taker.order.leaves (level_now price b)) (top-alike a b h)
      ∙ (let top = top_of a.taker.order.instrument (opposite a.taker.order.side) a.book.resting in
      ap (λ (q : ℕ). shares_of step top q (level_now price b)) (leaves-same a b h)
      ∙ ap (shares_of step top a.taker.order.leaves) (level-alike price a b h)
      ∙ blind-shares by_slot step blind top a.taker.order.leaves (level_now price a))

  by-shares : (name : StepName) (xs ys : List Share) (a b : MatchState) → ys ≡ xs → Alike a b → Alike (trade_shares name xs a) (trade_shares name ys b)
  by-shares name xs ys a b is h = subst (λ (zs : List Share). Alike (trade_shares name xs a) (trade_shares name zs b)) (sym is) (shares-alike name xs a b h)

  head-alike : (es : List Entry) (a b : MatchState) → Alike a b → Alike (trade_head es a) (trade_head (F es) b)
  head-alike [] a b h = h
  head-alike (e ∷ es) a b h =
      let n = min a.taker.order.leaves e.order.shown in
      let is : min b.taker.order.leaves e.order.shown ≡ n = ap (λ (q : ℕ). min q e.order.shown) (leaves-same a b h) in
      subst (λ (k : ℕ). Alike (trade_share name.Fifo e.slot n a) (trade_share name.Fifo e.slot k b)) (sym is) (share-alike name.Fifo e.slot n a b h)

  fifo-alike : (n : ℕ) (price : Price) (a b : MatchState) → Alike a b → Alike (fifo_rounds n price a) (fifo_rounds n price b)
  fifo-alike zero price a b h = h
  fifo-alike (suc n) price a b h =
      fifo-alike n price (trade_head (level_now price a) a) (trade_head (level_now price b) b)
      (subst (λ (l : List Entry). Alike (trade_head (level_now price a) a) (trade_head l b)) (sym (level-alike price a b h)) (head-alike (level_now price a) a b h))

  step-alike : (step : Step) → IsBlind step → (price : Price) (a b : MatchState) → Alike a b → Alike (after_step step price a) (after_step step price b)
  step-alike (Top rule) blind price a b h = by-shares name.Top _ _ a b (now-alike (Top rule) blind price a b h) h
  step-alike (Lmm shares) blind price a b h = absurd blind
  step-alike (Split percent) blind price a b h = by-shares name.Split _ _ a b (now-alike (Split percent) blind price a b h) h
  step-alike (ProRata least) blind price a b h =
      let done = by-shares name.ProRata _ _ a b (now-alike (ProRata least) blind price a b h) h in
      let go : (c : Bool) → Alike (cond c a (trade_shares name.ProRata (prorata_shares least a.taker.order.leaves (level_now price a)) a)) (cond c b (trade_shares name.ProRata (prorata_shares least b.taker.order.leaves (level_now price b)) b)) = elim [ true ↦ h | false ↦ done ] in
      subst (λ (q : ℕ). Alike (after_step (ProRata least) price a) (cond (q == 0) b (trade_shares name.ProRata (prorata_shares least b.taker.order.leaves (level_now price b)) b))) (sym (leaves-same a b h)) (go (a.taker.order.leaves == 0))
  step-alike Leveling blind price a b h = by-shares name.Leveling _ _ a b (now-alike Leveling blind price a b h) h
  step-alike Fifo blind price a b h = subst (λ (q : ℕ). Alike (fifo_rounds a.taker.order.leaves price a) (fifo_rounds q price b)) (sym (leaves-same a b h)) (fifo-alike a.taker.order.leaves price a b h)

  wanted-alike : (step : Step) → IsBlind step → (price : Price) (a b : MatchState) → Alike a b → Alike (wanted_step step price a) (wanted_step step price b)
  wanted-alike step blind price a b h =
      let go : (c : Bool) → Alike (cond c a (after_step step price a)) (cond c b (after_step step price b)) = elim [ true ↦ h | false ↦ step-alike step blind price a b h ] in
      subst (λ (q : ℕ). Alike (wanted_step step price a) (cond (q == 0) b (after_step step price b))) (sym (leaves-same a b h)) (go (a.taker.order.leaves == 0))

  match-alike : (steps : List Step) → AllByRecursion IsBlind steps → (price : Price) (a b : MatchState) → Alike a b → Alike (level_match steps price a) (level_match steps price b)
  match-alike [] blind price a b h = h
  match-alike (step ∷ steps) blind price a b h = match-alike steps blind.1 price (wanted_step step price a) (wanted_step step price b) (wanted-alike step blind.0 price a b h)

  -- ---- a sweep

  next-alike : (limit : Price) (a b : MatchState) → Alike a b → next_price limit b.book b.taker ≡ next_price limit a.book a.taker
  next-alike limit a b h =
      let next = λ (o : Order) (es : List Entry). cond (o.leaves == 0) None (within_limit (opposite o.side) limit (best_of o.instrument (opposite o.side) es)) in
      let o = a.taker.order in
      ap (λ (x : Order). next x b.book.resting) h.incoming
      ∙ ap (next o) h.resting
      ∙ ap (λ (best : Option Price). cond (o.leaves == 0) None (within_limit (opposite o.side) limit best)) (best-same o.instrument (opposite o.side) a.book.resting)

  to-next : (steps : List Step) → AllByRecursion IsBlind steps → (next : Option Price) (a b : MatchState) → Alike a b → Alike (match_next steps next a) (match_next steps next b)
  to-next steps blind None a b h = h
  to-next steps blind (Some price) a b h = match-alike steps blind price a b h

  rounds-alike : (n : ℕ) (steps : List Step) → AllByRecursion IsBlind steps → (limit : Price) (a b : MatchState) → Alike a b → Alike (sweep_rounds n steps limit a) (sweep_rounds n steps limit b)
  rounds-alike zero steps blind limit a b h = h
  rounds-alike (suc n) steps blind limit a b h =
      let x = next_price limit a.book a.taker in
      let y = next_price limit b.book b.taker in
      rounds-alike n steps blind limit (match_next steps x a) (match_next steps y b)
      (subst (λ (z : Option Price). Alike (match_next steps x a) (match_next steps z b)) (sym (next-alike limit a b h)) (to-next steps blind x a b h))

  pub sweep-alike : (steps : List Step) → AllByRecursion IsBlind steps → (limit : Price) (a b : MatchState) → Alike a b → Alike (sweep steps limit a) (sweep steps limit b)
  sweep-alike steps blind limit a b h =
      subst (λ (q : ℕ). Alike (sweep steps limit a) (sweep_rounds q steps limit b)) (sym (leaves-same a b h)) (rounds-alike a.taker.order.leaves steps blind limit a b h)
