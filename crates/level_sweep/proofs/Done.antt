-- When a level match is done: where FIFO stands last. At the next price of a sweep, it has then taken lots.
use Rattle.std.proofs.Common.{◌≡◌, ◌≢◌, ℕ, ◌-◌, ◌<◌, Bool, true, false, cond, ◌&&◌, List, [], ◌∷◌, length, refl, sym, ap, subst, ◌∙◌, arith, inl, inr, ◌⊎◌, Option, Some, None, slice_get}
use Prim.Native.Nat.{suc}
use Rattle.std.specs.Prelude.{◌==◌}
use Rattle.std.specs.Ordering.{int_eq}
use Rattle.std.proofs.lemmas.Bool.Decides.{eqb_tells, Decides-int_eq}
use Rattle.gx_base.specs.declared.price.Price.{Price}
use Rattle.gx_base.specs.declared.order.Side.{Side}
use Rattle.gx_base.specs.declared.order.Desk.{Desk}
use Rattle.gx_base.specs.declared.order.Taker.{Taker}
use Rattle.step_config.specs.declared.step.Step.{Step}
use Rattle.step_config.specs.Rules.{is_fifo, is_some_fifo, is_fifo_last}
use Rattle.plain_book.specs.declared.entry.Entry.{Entry}
use Rattle.plain_book.specs.Orders.{level, is_at, is_on, is_side, is_within, opposite, orders_at, side_of, price_of, best_of}
use Rattle.plain_book.specs.Book.{Book, AllDiffer}
use Rattle.plain_book.specs.Match.{MatchState}
use Rattle.plain_book.specs.Matches.{IsNow}
use Rattle.plain_book.specs.Steps.{IsLevelDone, level_now}
use Rattle.level_sweep.specs.Sweep.{level_match, facing_best, within_limit, next_price}
use Rattle.level_sweep.proofs.Advance.{match-takes}

-- ---- the last step

-- the last of the steps is FIFO, or none is left and P holds
abbrev pub LastOr : List Step → Type 0 → Type 0
LastOr [] P = P
LastOr (s ∷ []) P = is_fifo s ≡ true
LastOr (s ∷ (t ∷ ss)) P = LastOr (t ∷ ss) P

last-same : (s : Step) (ss : List Step) (P Q : Type 0) → LastOr (s ∷ ss) P → LastOr (s ∷ ss) Q
last-same s [] P Q h = h
last-same s (t ∷ ss) P Q h = last-same t ss P Q h

pub last-more : (s : Step) (ss : List Step) (P Q : Type 0) → LastOr (s ∷ ss) P → (is_fifo s ≡ true → Q) → LastOr ss Q
last-more s [] P Q h f = f h
last-more s (t ∷ ss) P Q h f = last-same t ss P Q h

pub last-first : (ss : List Step) (P : Type 0) → is_fifo_last ss ≡ true → LastOr ss P
last-first [] P h = absurd (let k : false ≡ true = h in cc)
last-first (s ∷ []) P h = h
last-first (s ∷ (t ∷ ss)) P h =
    let e : suc (suc (length ss)) - 1 ≡ suc (suc (length ss) - 1) = omega arith in
    last-first (t ∷ ss) P (subst (λ (i : ℕ). is_some_fifo (slice_get (s ∷ (t ∷ ss)) i) ≡ true) e h)

-- ---- the level of the best price

and-three : (a b c : Bool) → (a && b) ≡ true → c ≡ true → (a && (b && c)) ≡ true
and-three true true c h k = k
and-three true false c h k = cc
and-three false b c h k = cc

at-from-on : (i : ℕ) (d : Side) (x : Entry) (p : Price) → is_on i d x ≡ true → x.order.price ≡ p → is_at (level i d p) x ≡ true
at-from-on i d x p h e = subst (λ (q : Price). is_at (level i d q) x ≡ true) e (and-three (x.order.instrument == i) (is_side x.order.side d) (int_eq x.order.price.0 x.order.price.0) h ((Decides-int_eq x.order.price.0 x.order.price.0).1 refl))

some-first : (b : Bool) (x : Entry) (xs : List Entry) → (b ≡ true) ⊎ (xs ≢ []) → cond b (x ∷ xs) xs ≢ []
some-first true x xs h e = cc
some-first false x xs h e = elim h [ inl k ↦ cc | inr k ↦ k e ]

-- it is not empty
level-of-best : (i : ℕ) (d : Side) (es : List Entry) (p : Price) → best_of i d es ≡ Some p → orders_at (level i d p) es ≢ []
level-of-best i d [] p h = absurd (let k : None ≡ Some p = h in cc)
level-of-best i d (x ∷ es) p h =
    let go : (b : Bool) → is_on i d x ≡ b → price_of (cond b (x ∷ side_of i d es) (side_of i d es)) ≡ Some p → (is_at (level i d p) x ≡ true) ⊎ (orders_at (level i d p) es ≢ []) = elim [
      | true ↦ λ on k. inl (at-from-on i d x p on (let q : Some x.order.price ≡ Some p = k in let r : x.order.price ≡ p = cc in r))
      | false ↦ λ on k. inr (level-of-best i d es p k)
    ] in some-first (is_at (level i d p) x) x (orders_at (level i d p) es) (go (is_on i d x) refl h)

no-length : (xs : List Entry) → length xs ≡ 0 → xs ≡ []
no-length [] h = refl
no-length (x ∷ xs) h = absurd (let k : suc (length xs) ≡ 0 = h in omega arith)

-- ---- the next price

within-some : (d : Side) (limit : Price) (best : Option Price) (p : Price) → within_limit d limit best ≡ Some p → best ≡ Some p
within-some d limit None p h = h
within-some d limit (Some q) p h =
    let go : (c : Bool) → cond c (Some q) None ≡ Some p → Some q ≡ Some p = elim [ true ↦ λ k. k | false ↦ λ k. absurd (let e : None ≡ Some p = k in cc) ] in
    go (is_within d limit.0 q.0) h

-- lots are wanted, and it is the best price
record IsBest (b : Book) (t : Taker) (price : Price) : Type 0 where
  some : 0 < t.order.leaves
  best : facing_best b t ≡ Some price

next-best : (limit : Price) (b : Book) (t : Taker) (price : Price) → next_price limit b t ≡ Some price → IsBest b t price
next-best limit b t price h =
    let within = within_limit (opposite t.order.side) limit (facing_best b t) in
    elim (eqb_tells t.order.leaves 0) [
      | inl z ↦ absurd (let k : None ≡ Some price = sym (ap (λ (c : Bool). cond c None within) z.0) ∙ h in cc)
      | inr z ↦
          let k : within ≡ Some price = sym (ap (λ (c : Bool). cond c None within) z.0) ∙ h in
          let n : t.order.leaves ≢ 0 = z.1 in
          record { some = omega (arith, n); best = within-some (opposite t.order.side) limit (facing_best b t) price k }
    ]

best-takes : (steps : List Step) (price : Price) (m : MatchState) → AllDiffer m.book.resting → IsBest m.book m.taker price → let end = level_match steps price m in IsLevelDone price end.book end.taker → end.taker.order.leaves < m.taker.order.leaves
best-takes steps price m differ best done = elim (match-takes steps price m best.some differ) [
  | inl lt ↦ lt
  | inr k ↦ elim done [
    | inl z ↦ absurd (omega (arith, z, best.some, ap (λ (t : Taker). t.order.leaves) k.taker))
    | inr z ↦
        let none : length (level_now price m) ≡ 0 = sym k.many ∙ ap length z in
        absurd (level-of-best m.taker.order.instrument (opposite m.taker.order.side) m.book.resting price best.best (no-length (level_now price m) none))
  ]
]

-- a level match at the next price that is done takes lots
pub next-takes : (steps : List Step) (limit price : Price) (m : MatchState) (b : Book) (d : Desk) (t : Taker) → AllDiffer m.book.resting → next_price limit m.book m.taker ≡ Some price
    → IsNow (level_match steps price m) b d t → IsLevelDone price b t → t.order.leaves < m.taker.order.leaves
next-takes steps limit price m b d t differ next now done =
    let end = level_match steps price m in
    let over : IsLevelDone price end.book end.taker =
    subst (λ (x : Book). IsLevelDone price x end.taker) now.book (subst (λ (x : Taker). IsLevelDone price b x) now.taker done) in
    omega (arith, best-takes steps price m differ (next-best limit m.book m.taker price next) over, ap (λ (x : Taker). x.order.leaves) now.taker)
