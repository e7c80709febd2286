-- A level match whose list ends with FIFO works off its level, and a sweep by such a list goes as far as it can.
use Rattle.std.proofs.Common.{◌≡◌, ℕ, ◌<◌, ◌≤◌, Bool, true, false, cond, List, [], ◌∷◌, refl, sym, ap, subst, ◌∙◌, arith, inl, inr, Option, Some, None}
use Prim.Native.Nat.{zero, suc}
use Rattle.std.specs.Prelude.{min, ◌==◌}
use Rattle.std.proofs.lemmas.Bool.Decides.{eqb_tells}
use Rattle.gx_base.specs.declared.price.Price.{Price}
use Rattle.gx_base.specs.declared.event.StepName.TheVariants as name
use Rattle.step_config.specs.declared.step.Step.{Step}
use Rattle.step_config.specs.declared.step.Step.TheVariants.{Top, Lmm, Split, ProRata, Leveling, Fifo}
use Rattle.step_config.specs.Rules.{is_fifo, is_fifo_last}
use Rattle.plain_book.specs.declared.entry.Entry.{Entry}
use Rattle.plain_book.specs.Orders.{is_at, opposite}
use Rattle.plain_book.specs.Match.{MatchState, trade}
use Rattle.plain_book.specs.Steps.{IsLevelDone, level_now, facing, trade_head, fifo_rounds, fifo}
use Rattle.plain_book.proofs.Pairs.{all-filter}
use Rattle.plain_book.proofs.Live.{AllOrders}
use Rattle.plain_book.proofs.TradedShares.{share-leaves}
use Rattle.level_sweep.specs.Sweep.{IsSweepDone, wanted_step, level_match, within_limit, facing_best, next_price, match_next, sweep_rounds, sweep}
use Rattle.level_sweep.proofs.Done.{LastOr, last-more, last-first, next-takes}
use Rattle.level_sweep.proofs.Advance.{head-wants}
use Rattle.level_sweep.proofs.Rounds.{rounds-none, rounds-more}
use Rattle.level_sweep.proofs.Showing.{IsShowing, AreShowing}
use Rattle.engine_laws.proofs.SweptBooks.{showing-head, showing-wanted, showing-match}

abbrev LevelDone : Price → MatchState → Type 0
LevelDone price m = IsLevelDone price m.book m.taker

abbrev SweepDone : Price → MatchState → Type 0
SweepDone limit m = IsSweepDone limit m.book m.taker

-- ---- FIFO

-- where the level is done, the head of the queue trades nothing
head-none : (price : Price) (m : MatchState) → LevelDone price m → trade_head (level_now price m) m ≡ m
head-none price m h = elim h [
  | inl z ↦
      let go : (es : List Entry) → trade_head es m ≡ m = elim [
        | [] ↦ refl
        | e ∷ es ↦
            let n : min m.taker.order.leaves e.order.shown ≡ 0 = omega (arith, z) in
            ap (λ (lots : ℕ). cond (lots == 0) m (trade name.Fifo e.slot lots m)) n
      ] in go (level_now price m)
  | inr z ↦ ap (λ (es : List Entry). trade_head es m) z
]

fifo-none : (n : ℕ) (price : Price) (m : MatchState) → LevelDone price m → fifo_rounds n price m ≡ m
fifo-none zero price m h = refl
fifo-none (suc n) price m h = ap (fifo_rounds n price) (head-none price m h) ∙ fifo-none n price m h

-- as many rounds as lots are wanted are enough
fifo-done : (price : Price) (n : ℕ) (m : MatchState) → AreShowing m.book.resting → m.taker.order.leaves ≤ n → LevelDone price (fifo_rounds n price m)
fifo-done price zero m a h = inl (omega (arith, h))
fifo-done price (suc n) m a h =
    let shown : AllOrders IsShowing (level_now price m) = all-filter (λ (e : Entry). IsShowing e.order) (is_at (facing price m.taker)) m.book.resting a.each in
    let go : (es : List Entry) → level_now price m ≡ es → AllOrders IsShowing es → LevelDone price (fifo_rounds n price (trade_head es m)) = elim [
      | [] ↦ λ z k. subst (LevelDone price) (sym (fifo-none n price m (inr z))) (inr z)
      | e ∷ es ↦ λ z k. fifo-done price n (trade_head (e ∷ es) m) (showing-head (e ∷ es) m a) (omega (arith, share-leaves name.Fifo e.slot (min m.taker.order.leaves e.order.shown) m, k.0.0, h))
    ] in go (level_now price m) refl shown

-- more rounds do no more
fifo-more : (n k : ℕ) (price : Price) (m : MatchState) → k ≤ n → LevelDone price (fifo_rounds k price m) → fifo_rounds k price m ≡ fifo_rounds n price m
fifo-more n zero price m le h = sym (fifo-none n price m h)
fifo-more zero (suc k) price m le h = absurd (omega (arith, le))
fifo-more (suc n) (suc k) price m le h = fifo-more n k price (trade_head (level_now price m) m) (omega (arith, le)) h

-- where the level is done, FIFO does nothing
pub fifo-stays : (price : Price) (m : MatchState) → LevelDone price m → fifo price m ≡ m
fifo-stays price m h = fifo-none m.taker.order.leaves price m h

-- the head of the queue trades, and FIFO goes on
pub fifo-goes-on : (price : Price) (m : MatchState) → AreShowing m.book.resting → fifo price m ≡ fifo price (trade_head (level_now price m) m)
fifo-goes-on price m a =
    let wanted = m.taker.order.leaves in
    let head = trade_head (level_now price m) m in
    let enough : LevelDone price (fifo_rounds wanted price m) = fifo-done price wanted m a (omega arith) in
    let again : LevelDone price (fifo_rounds head.taker.order.leaves price head) = fifo-done price head.taker.order.leaves head (showing-head (level_now price m) m a) (omega arith) in
    fifo-more (suc wanted) wanted price m (omega arith) enough
    ∙ sym (fifo-more wanted head.taker.order.leaves price head (head-wants (level_now price m) m) again)

-- ---- a level match

wanted-done : (s : Step) (price : Price) (m : MatchState) → AreShowing m.book.resting → is_fifo s ≡ true → LevelDone price (wanted_step s price m)
wanted-done Fifo price m a h = elim (eqb_tells m.taker.order.leaves 0) [
  | inl t ↦ subst (λ (c : Bool). LevelDone price (cond c m (fifo price m))) (sym t.0) (inl t.1)
  | inr t ↦ subst (λ (c : Bool). LevelDone price (cond c m (fifo price m))) (sym t.0) (fifo-done price m.taker.order.leaves m a (omega arith))
]
wanted-done (Top rule) price m a h = absurd (let k : false ≡ true = h in cc)
wanted-done (Lmm shares) price m a h = absurd (let k : false ≡ true = h in cc)
wanted-done (Split percent) price m a h = absurd (let k : false ≡ true = h in cc)
wanted-done (ProRata least) price m a h = absurd (let k : false ≡ true = h in cc)
wanted-done Leveling price m a h = absurd (let k : false ≡ true = h in cc)

steps-done : (steps : List Step) (price : Price) (m : MatchState) → AreShowing m.book.resting → LastOr steps (LevelDone price m) → LevelDone price (level_match steps price m)
steps-done [] price m a h = h
steps-done (s ∷ ss) price m a h =
    let k = wanted_step s price m in steps-done ss price k (showing-wanted s price m a) (last-more s ss (LevelDone price m) (LevelDone price k) h (wanted-done s price m a))

-- where FIFO stands last, nothing more is wanted or no order is left at the price
pub match-done : (steps : List Step) (price : Price) (m : MatchState) → is_fifo_last steps ≡ true → AreShowing m.book.resting → LevelDone price (level_match steps price m)
match-done steps price m f a = steps-done steps price m a (last-first steps (LevelDone price m) f)

-- ---- a sweep

module _ (steps : List Step) (limit : Price) (fifo_last : is_fifo_last steps ≡ true) where
  abbrev Next : MatchState → Option Price → Type 0
  Next m next = next_price limit m.book m.taker ≡ next

  match-fewer : (price : Price) (m : MatchState) → AreShowing m.book.resting → Next m (Some price) → (level_match steps price m).taker.order.leaves < m.taker.order.leaves
  match-fewer price m a next =
      let end = level_match steps price m in
      next-takes steps limit price m end.book end.desk end.taker a.in_order.differ next (record { book = refl; desk = refl; taker = refl }) (match-done steps price m fifo_last a)

  nothing-wanted : (m : MatchState) → m.taker.order.leaves ≤ 0 → SweepDone limit m
  nothing-wanted m h =
      let z : m.taker.order.leaves ≡ 0 = omega (arith, h) in
      ap (λ (n : ℕ). cond (n == 0) None (within_limit (opposite m.taker.order.side) limit (facing_best m.book m.taker))) z

  -- as many rounds as lots are wanted are enough
  rounds-done : (n : ℕ) (m : MatchState) → AreShowing m.book.resting → m.taker.order.leaves ≤ n → SweepDone limit (sweep_rounds n steps limit m)
  rounds-done zero m a h = nothing-wanted m h
  rounds-done (suc n) m a h =
      let go : (next : Option Price) → Next m next → SweepDone limit (sweep_rounds n steps limit (match_next steps next m)) = elim [
        | None ↦ λ e. subst (SweepDone limit) (sym (rounds-none n steps limit m e)) e
        | Some price ↦ λ e. rounds-done n (level_match steps price m) (showing-match steps price m a) (omega (arith, match-fewer price m a e, h))
      ] in go (next_price limit m.book m.taker) refl

  -- where FIFO stands last, nothing more is wanted or no price within the limit is left
  pub sweep-done : (m : MatchState) → AreShowing m.book.resting → SweepDone limit (sweep steps limit m)
  sweep-done m a = rounds-done m.taker.order.leaves m a (omega arith)

  -- a level match at the next price, and the sweep goes on
  pub sweep-goes-on : (price : Price) (m : MatchState) → AreShowing m.book.resting → Next m (Some price) → sweep steps limit m ≡ sweep steps limit (level_match steps price m)
  sweep-goes-on price m a next =
      let wanted = m.taker.order.leaves in
      let end = level_match steps price m in
      let few : end.taker.order.leaves ≤ wanted = omega (arith, match-fewer price m a next) in
      rounds-more (suc wanted) wanted steps limit m (omega arith) (sweep-done m a)
      ∙ ap (λ (x : Option Price). sweep_rounds wanted steps limit (match_next steps x m)) next
      ∙ sym (rounds-more wanted end.taker.order.leaves steps limit end few (sweep-done end (showing-match steps price m a)))

-- where there is no next price, a sweep does nothing
pub sweep-stays : (steps : List Step) (limit : Price) (m : MatchState) → SweepDone limit m → sweep steps limit m ≡ m
sweep-stays steps limit m h = rounds-none m.taker.order.leaves steps limit m h
