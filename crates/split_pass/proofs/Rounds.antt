-- Rounds of FIFO, and how many are enough.
use Rattle.std.proofs.Common.{◌≡◌, ◌≢◌, ℕ, ◌+◌, ◌-◌, ◌≤◌, min, Bool, false, cond, List, [], ◌∷◌, refl, sym, ap, subst, ◌∙◌, arith, inl, inr}
use Prim.Native.Nat.{zero, suc}
use Rattle.std.proofs.lemmas.Bool.Decides.{eqb_tells}
use Rattle.std.specs.Prelude.{◌==◌}
use Rattle.gx_base.specs.declared.price.Price.{Price}
use Rattle.gx_base.specs.declared.order.Taker.{Taker}
use Rattle.gx_base.specs.declared.event.Event.{Event}
use Rattle.gx_base.specs.declared.event.StepName.TheVariants.{Fifo}
use Rattle.gx_base.specs.Emits.{EmitMeanings}
use Rattle.plain_book.specs.declared.entry.Entry.{Entry}
use Rattle.plain_book.specs.Book.{Book}
use Rattle.plain_book.specs.Match.{MatchState, trade, trade_share}
use Rattle.plain_book.specs.Matches.{MatchAt, start_at, Matches}
use Rattle.plain_book.specs.Steps.{facing, level_now, trade_head, fifo_rounds, fifo, IsLevelDone}
use Rattle.plain_book.proofs.TradedShares.{IgnoresEvents, with_events, share-ignores}
use Rattle.plain_book.proofs.Matching.{matches-then, matches-as}
use Rattle.split_pass.proofs.Heads.{IsHead}

abbrev pub next_round : Price → MatchState → MatchState
next_round price m = trade_head (level_now price m) m

head-ignores : (es : List Entry) (evs : List Event) (m : MatchState) → trade_head es (with_events evs m) ≡ with_events evs (trade_head es m)
head-ignores [] evs m = refl
head-ignores (e ∷ es) evs m = share-ignores Fifo e.slot (min m.taker.order.leaves e.order.shown) evs m

round-ignores : (price : Price) → IgnoresEvents (next_round price)
round-ignores price evs m = head-ignores (level_now price m) evs m

-- ---- how many are enough

fixed : (price : Price) (n : ℕ) (m : MatchState) → next_round price m ≡ m → fifo_rounds n price m ≡ m
fixed price zero m h = refl
fixed price (suc n) m h = ap (fifo_rounds n price) h ∙ fixed price n m h

-- where nothing is wanted, a round changes nothing
idle : (es : List Entry) (m : MatchState) → m.taker.order.leaves ≡ 0 → trade_head es m ≡ m
idle [] m h = refl
idle (e ∷ es) m h = ap (λ (n : ℕ). trade_share Fifo e.slot n m) (let none : min m.taker.order.leaves e.order.shown ≡ 0 = omega arith in none)

-- nor do more, once the level is done
pub done-fixed : (price : Price) (n : ℕ) (m : MatchState) → IsLevelDone price m.book m.taker → fifo_rounds n price m ≡ m
done-fixed price n m done = fixed price n m (elim done [
  | inl none ↦ idle (level_now price m) m none
  | inr empty ↦ ap (λ (es : List Entry). trade_head es m) empty
])

-- some rounds, and then more
rounds-more : (price : Price) (n k : ℕ) (m : MatchState) → fifo_rounds (n + k) price m ≡ fifo_rounds k price (fifo_rounds n price m)
rounds-more price zero k m = let same : 0 + k ≡ k = omega arith in ap (λ (i : ℕ). fifo_rounds i price m) same
rounds-more price (suc n) k m =
    let same : suc n + k ≡ suc (n + k) = omega arith in ap (λ (i : ℕ). fifo_rounds i price m) same ∙ rounds-more price n k (next_round price m)

-- ---- how far they have come

some-test : (n : ℕ) → n ≢ 0 → (n == 0) ≡ false
some-test n h = elim (eqb_tells n 0) [ inl t ↦ absurd (h t.1) | inr t ↦ t.0 ]

-- a trade of the first order is one round
trade-round : (price : Price) (m : MatchState) (slot lots : ℕ) (h : IsHead (facing price m.taker) m.book slot) → lots ≡ min m.taker.order.leaves h.entry.order.shown → 1 ≤ lots
    → trade Fifo slot lots m ≡ next_round price m
trade-round price m slot lots h share some =
    sym (ap (λ (es : List Entry). trade_head es m) h.is
    ∙ ap (λ (s : ℕ). trade_share Fifo s (min m.taker.order.leaves h.entry.order.shown) m) h.slot_is
    ∙ ap (λ (n : ℕ). trade_share Fifo slot n m) (sym share)
    ∙ ap (λ (c : Bool). cond c m (trade Fifo slot lots m)) (some-test lots (omega (arith, some))))

-- some rounds were done, each of which traded at least one lot
pub record IsRounding {E : Type 0} (m : EmitMeanings E) (price : Price) (before now : MatchAt E) : Type 0 where
  pub rounds : ℕ
  pub matches : Matches m (fifo_rounds rounds price) before now
  pub few : rounds + now.taker.order.leaves ≤ before.taker.order.leaves
  pub faces : facing price now.taker ≡ facing price before.taker

module _ {E : Type 0} (m : EmitMeanings E) (price : Price) where
  -- one more round
  pub rounding-more : (a b c : MatchAt E) (slot lots : ℕ) (h : IsHead (facing price b.taker) b.book slot) → lots ≡ min b.taker.order.leaves h.entry.order.shown → 1 ≤ lots
      → IsRounding m price a b → Matches m (trade Fifo slot lots) b c → IsRounding m price a c
  rounding-more a b c slot lots h share some r traded =
      let round = matches-as m (trade Fifo slot lots) (next_round price) b c (trade-round price (start_at b) slot lots h share some) traded in
      let both = matches-then m (fifo_rounds r.rounds price) (next_round price) a b c (round-ignores price) r.matches round in
      let left : c.taker.order.leaves ≡ b.taker.order.leaves - lots = ap (λ (t : Taker). t.order.leaves) traded.now.taker in
      record {
        rounds = r.rounds + 1;
        matches = matches-as m (λ s. next_round price (fifo_rounds r.rounds price s)) (fifo_rounds (r.rounds + 1) price) a c (sym (rounds-more price r.rounds 1 (start_at a))) both;
        few = omega (arith, r.few, left, share, some);
        faces = ap (facing price) traded.now.taker ∙ r.faces;
      }

  -- where the level is done, they were enough
  pub rounding-end : (a b : MatchAt E) → IsRounding m price a b → IsLevelDone price b.book b.taker → Matches m (fifo price) a b
  rounding-end a b r done =
      let end = fifo_rounds r.rounds price (start_at a) in
      let q = a.taker.order.leaves in
      let all : q ≡ r.rounds + (q - r.rounds) = omega (arith, r.few) in
      let is = r.matches.now in
      let finished : IsLevelDone price end.book end.taker = subst (λ (t : Taker). IsLevelDone price end.book t) is.taker (subst (λ (x : Book). IsLevelDone price x b.taker) is.book done) in
      matches-as m (fifo_rounds r.rounds price) (fifo price) a b
      (sym (ap (λ (n : ℕ). fifo_rounds n price (start_at a)) all ∙ rounds-more price r.rounds (q - r.rounds) (start_at a) ∙ done-fixed price (q - r.rounds) end finished)) r.matches
