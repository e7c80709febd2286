-- A step takes lots, or leaves as many orders at its price as there were.
use Rattle.std.proofs.Common.{◌≡◌, ◌≢◌, ℕ, ◌<◌, ◌≤◌, Bool, true, false, cond, List, [], ◌∷◌, length, refl, sym, ap, subst, ◌∙◌, arith, inl, inr, ◌⊎◌}
use Prim.Native.Nat.{zero, suc}
use Rattle.std.specs.Prelude.{min}
use Rattle.std.proofs.lemmas.List.{length-map}
use Rattle.std.proofs.lemmas.Bool.Decides.{eqb_tells}
use Rattle.gx_base.specs.declared.order.Order.{Order}
use Rattle.gx_base.specs.declared.order.Taker.{Taker}
use Rattle.gx_base.specs.declared.price.Price.{Price}
use Rattle.gx_base.specs.declared.event.StepName.{StepName}
use Rattle.gx_base.specs.declared.event.StepName.TheVariants as name
use Rattle.step_config.specs.declared.step.Step.{Step}
use Rattle.plain_book.specs.declared.entry.Entry.{Entry}
use Rattle.plain_book.specs.Orders.{order_of, reordered}
use Rattle.plain_book.specs.Book.{AllDiffer}
use Rattle.plain_book.specs.Match.{MatchState, Share, trade, is_prorata, book_share_noted, share_noted, trade_share, trade_shares}
use Rattle.plain_book.specs.Steps.{level_now, trade_head, fifo_rounds}
use Rattle.plain_book.proofs.Levels.{with_order-level}
use Rattle.plain_book.proofs.Walks.{AllDiffer-with_order}
use Rattle.plain_book.proofs.TradedShares.{share-leaves}
use Rattle.level_sweep.specs.Sweep.{level_match, wanted_step}
use Rattle.level_sweep.proofs.EachTrade.{Relation, IsKept, wanted-cases, each-shares, each-head, each-fifo, each-match}

abbrev wants : MatchState → ℕ
wants m = m.taker.order.leaves

-- ---- no more lots are wanted than before

abbrev WantsNoMore : Relation
WantsNoMore a b = wants b ≤ wants a

wanted : IsKept WantsNoMore
wanted = record {
  same = λ m. omega arith;
  both = λ a b c h k. omega (arith, h, k);
  trades = λ step s n m. omega arith;
  marks = λ s n m. omega arith;
}

shares-want : (step : StepName) (xs : List Share) (m : MatchState) → wants (trade_shares step xs m) ≤ wants m
shares-want step xs m = each-shares WantsNoMore wanted step xs m

pub head-wants : (es : List Entry) (m : MatchState) → wants (trade_head es m) ≤ wants m
head-wants es m = each-head WantsNoMore wanted es m

fifo-wants : (price : Price) (n : ℕ) (m : MatchState) → wants (fifo_rounds n price m) ≤ wants m
fifo-wants price n m = each-fifo WantsNoMore wanted price n m

pub match-wants : (steps : List Step) (price : Price) (m : MatchState) → wants (level_match steps price m) ≤ wants m
match-wants steps price m = each-match WantsNoMore wanted steps price m

-- ---- lots are taken, or the orders stay

-- as many orders stand at the price, and the incoming order is as it was
pub record KeepsLevel (price : Price) (m n : MatchState) : Type 0 where
  pub taker : n.taker ≡ m.taker
  pub many : length (level_now price n) ≡ length (level_now price m)
  pub differ : AllDiffer n.book.resting

-- lots are taken, or as many orders stand at the price
abbrev pub TakesLots : Price → MatchState → MatchState → Type 0
TakesLots price m n = (wants n < wants m) ⊎ KeepsLevel price m n

keeps-same : (price : Price) (m : MatchState) → AllDiffer m.book.resting → KeepsLevel price m m
keeps-same price m d = record { taker = refl; many = refl; differ = d }

-- one after the other
takes-then : (price : Price) (a b c : MatchState) → TakesLots price a b → wants c ≤ wants b → (KeepsLevel price a b → TakesLots price b c) → TakesLots price a c
takes-then price a b c h few more = elim h [
  | inl lt ↦ inl (omega (arith, lt, few))
  | inr k ↦ elim (more k) [
    | inl lt ↦ inl (omega (arith, lt, ap (λ (t : Taker). t.order.leaves) k.taker))
    | inr l ↦ inr (record { taker = l.taker ∙ k.taker; many = l.many ∙ k.many; differ = l.differ })
  ]
]

wants-some : (price : Price) (m n : MatchState) → KeepsLevel price m n → 0 < wants m → 0 < wants n
wants-some price m n k w = omega (arith, w, ap (λ (t : Taker). t.order.leaves) k.taker)

-- a noted share alone
marked-keeps : (price : Price) (step : StepName) (s n : ℕ) (m : MatchState) → AllDiffer m.book.resting → KeepsLevel price m (share_noted step s n m)
marked-keeps price step s n m d =
    let es = m.book.resting in
    let o : Order = record (order_of s es) { prorated = n } in
    let go : (c : Bool) → KeepsLevel price m (record m { book = cond c (book_share_noted s n m.book) m.book }) = elim [
      | true ↦ record { taker = refl; many = ap length (with_order-level _ s o es d refl) ∙ length-map (level_now price m) (reordered s o); differ = AllDiffer-with_order s o es d }
      | false ↦ keeps-same price m d
    ] in go (is_prorata step)

share-takes : (price : Price) (step : StepName) (s n : ℕ) (m : MatchState) → 0 < wants m → AllDiffer m.book.resting → TakesLots price m (trade_share step s n m)
share-takes price step s n m w d =
    let k = share_noted step s n m in
    elim (eqb_tells n 0) [
      | inl t ↦ inr (subst (λ (c : Bool). KeepsLevel price m (cond c k (trade step s n k))) (sym t.0) (marked-keeps price step s n m d))
      | inr t ↦ inl (let some : n ≢ 0 = t.1 in omega (arith, share-leaves step s n m, some, w))
    ]

shares-take : (price : Price) (step : StepName) (xs : List Share) (m : MatchState) → 0 < wants m → AllDiffer m.book.resting → TakesLots price m (trade_shares step xs m)
shares-take price step [] m w d = inr (keeps-same price m d)
shares-take price step (x ∷ xs) m w d =
    let n = trade_share step x.0 x.1 m in
    takes-then price m n (trade_shares step xs n) (share-takes price step x.0 x.1 m w d) (shares-want step xs n) (λ k. shares-take price step xs n (wants-some price m n k w) k.differ)

head-takes : (price : Price) (es : List Entry) (m : MatchState) → 0 < wants m → AllDiffer m.book.resting → TakesLots price m (trade_head es m)
head-takes price [] m w d = inr (keeps-same price m d)
head-takes price (e ∷ es) m w d = share-takes price name.Fifo e.slot (min m.taker.order.leaves e.order.shown) m w d

fifo-takes : (price : Price) (n : ℕ) (m : MatchState) → 0 < wants m → AllDiffer m.book.resting → TakesLots price m (fifo_rounds n price m)
fifo-takes price zero m w d = inr (keeps-same price m d)
fifo-takes price (suc n) m w d =
    let k = trade_head (level_now price m) m in
    takes-then price m k (fifo_rounds n price k) (head-takes price (level_now price m) m w d) (fifo-wants price n k) (λ h. fifo-takes price n k (wants-some price m k h w) h.differ)

wanted-takes : (s : Step) (price : Price) (m : MatchState) → AllDiffer m.book.resting → 0 < wants m → TakesLots price m (wanted_step s price m)
wanted-takes s price m d w =
    wanted-cases (λ _ n. TakesLots price m n) price [] m (λ step xs. shares-take price step xs m w d) (fifo-takes price m.taker.order.leaves m w d) (inr (keeps-same price m d)) s

-- a level match takes lots, or leaves as many orders at its price
pub match-takes : (steps : List Step) (price : Price) (m : MatchState) → 0 < wants m → AllDiffer m.book.resting → TakesLots price m (level_match steps price m)
match-takes [] price m w d = inr (keeps-same price m d)
match-takes (s ∷ ss) price m w d =
    let n = wanted_step s price m in
    takes-then price m n (level_match ss price n) (wanted-takes s price m d w) (match-wants ss price n) (λ k. match-takes ss price n (wants-some price m n k w) k.differ)
