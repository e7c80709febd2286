-- The steps of a level match, and the rounds of a sweep, one after the other.
use Rattle.std.proofs.Common.{◌≡◌, ℕ, ◌+◌, ◌≤◌, ◌<◌, List, [], ◌∷◌, ◌++◌, length, take, get_or, refl, sym, ap, ◌∙◌, arith, add-one, Option, Some}
use Prim.Native.Nat.{zero, suc}
use Rattle.std.proofs.Math.Seq.{take-suc}
use Rattle.gx_base.specs.declared.price.Price.{Price}
use Rattle.gx_base.specs.declared.order.Taker.{Taker}
use Rattle.gx_base.specs.Emits.{EmitMeanings}
use Rattle.step_config.specs.declared.step.Step.{Step}
use Rattle.plain_book.specs.Book.{Book}
use Rattle.plain_book.specs.Match.{MatchState}
use Rattle.plain_book.specs.Matches.{MatchAt, start_at, Matches}
use Rattle.plain_book.proofs.Matching.{matches-then, matches-as}
use Rattle.level_sweep.specs.Sweep.{wanted_step, level_match, next_price, match_next, sweep_rounds, sweep, IsSweepDone}
use Rattle.level_sweep.proofs.Events.{wanted-ignores, match-ignores}

-- ---- the steps of a level match

match-append : (steps : List Step) (s : Step) (price : Price) (m : MatchState) → wanted_step s price (level_match steps price m) ≡ level_match (steps ++ s ∷ []) price m
match-append [] s price m = refl
match-append (t ∷ ss) s price m = match-append ss s price (wanted_step t price m)

-- one more step was done
pub match-more : {E : Type 0} (m : EmitMeanings E) (steps : List Step) (i : ℕ) (s : Step) (price : Price) (a b c : MatchAt E) → i < length steps → get_or steps i s ≡ s
    → Matches m (level_match (take i steps) price) a b → Matches m (wanted_step s price) b c → Matches m (level_match (take (i + 1) steps) price) a c
match-more m steps i s price a b c lt is before step =
    let cut : take i steps ++ s ∷ [] ≡ take (i + 1) steps = sym (ap (λ (n : ℕ). take n steps) (add-one i) ∙ take-suc steps i s lt ∙ ap (λ (x : Step). take i steps ++ x ∷ []) is) in
    matches-as m (λ x. wanted_step s price (level_match (take i steps) price x)) (level_match (take (i + 1) steps) price) a c
    (match-append (take i steps) s price (start_at a) ∙ ap (λ (ss : List Step). level_match ss price (start_at a)) cut)
    (matches-then m (level_match (take i steps) price) (wanted_step s price) a b c (wanted-ignores s price) before step)

-- ---- the rounds of a sweep

next-none : (steps : List Step) (limit : Price) (m : MatchState) → IsSweepDone limit m.book m.taker → match_next steps (next_price limit m.book m.taker) m ≡ m
next-none steps limit m h = ap (λ (next : Option Price). match_next steps next m) h

-- the sweep is done, and stays as it is
pub rounds-none : (n : ℕ) (steps : List Step) (limit : Price) (m : MatchState) → IsSweepDone limit m.book m.taker → sweep_rounds n steps limit m ≡ m
rounds-none zero steps limit m h = refl
rounds-none (suc n) steps limit m h = ap (sweep_rounds n steps limit) (next-none steps limit m h) ∙ rounds-none n steps limit m h

-- one more round
rounds-last : (n : ℕ) (steps : List Step) (limit : Price) (m : MatchState) → let r = sweep_rounds n steps limit m in match_next steps (next_price limit r.book r.taker) r ≡ sweep_rounds (suc n) steps limit m
rounds-last zero steps limit m = refl
rounds-last (suc n) steps limit m = rounds-last n steps limit (match_next steps (next_price limit m.book m.taker) m)

-- more rounds than were needed
pub rounds-more : (n k : ℕ) (steps : List Step) (limit : Price) (m : MatchState) → k ≤ n → let r = sweep_rounds k steps limit m in IsSweepDone limit r.book r.taker → sweep_rounds k steps limit m ≡ sweep_rounds n steps limit m
rounds-more n zero steps limit m le h = sym (rounds-none n steps limit m h)
rounds-more zero (suc k) steps limit m le h = absurd (omega (arith, le))
rounds-more (suc n) (suc k) steps limit m le h = rounds-more n k steps limit (match_next steps (next_price limit m.book m.taker) m) (omega (arith, le)) h

-- some rounds of a sweep were done, each of which took lots
pub record IsSwept {E : Type 0} (m : EmitMeanings E) (steps : List Step) (limit : Price) (before now : MatchAt E) : Type 0 where
  pub rounds : ℕ
  pub few : rounds + now.taker.order.leaves ≤ before.taker.order.leaves
  pub matches : Matches m (sweep_rounds rounds steps limit) before now

module _ {E : Type 0} (m : EmitMeanings E) (steps : List Step) (limit : Price) where
  -- one more level match
  pub swept-more : (a b c : MatchAt E) (price : Price) → IsSwept m steps limit a b → next_price limit b.book b.taker ≡ Some price → Matches m (level_match steps price) b c → c.taker.order.leaves < b.taker.order.leaves → IsSwept m steps limit a c
  swept-more a b c price swept next done fewer =
      let n = swept.rounds in
      let r = sweep_rounds n steps limit (start_at a) in
      let now = swept.matches.now in
      let here : next_price limit r.book r.taker ≡ Some price =
      ap (λ (x : Book). next_price limit x r.taker) (sym now.book) ∙ ap (λ (x : Taker). next_price limit b.book x) (sym now.taker) ∙ next in
      record {
        rounds = suc n;
        few = omega (arith, swept.few, fewer);
        matches = matches-as m (λ s. level_match steps price (sweep_rounds n steps limit s)) (sweep_rounds (suc n) steps limit) a c
            (ap (λ (x : Option Price). match_next steps x r) (sym here) ∙ rounds-last n steps limit (start_at a))
            (matches-then m (sweep_rounds n steps limit) (level_match steps price) a b c (match-ignores steps price) swept.matches done);
      }

  -- nothing is left to do
  pub swept-end : (a b : MatchAt E) → IsSwept m steps limit a b → IsSweepDone limit b.book b.taker → Matches m (sweep steps limit) a b
  swept-end a b swept done =
      let r = sweep_rounds swept.rounds steps limit (start_at a) in
      let now = swept.matches.now in
      let here : IsSweepDone limit r.book r.taker = ap (λ (x : Book). next_price limit x r.taker) (sym now.book) ∙ ap (λ (x : Taker). next_price limit b.book x) (sym now.taker) ∙ done in
      let enough : swept.rounds ≤ a.taker.order.leaves = omega (arith, swept.few) in
      matches-as m (sweep_rounds swept.rounds steps limit) (sweep steps limit) a b (rounds-more a.taker.order.leaves swept.rounds steps limit (start_at a) enough here) swept.matches
