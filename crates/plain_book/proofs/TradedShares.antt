-- What the share of one order does to the state of a match: its level, its events, what is still wanted.
use Rattle.std.proofs.Common.{◌≡◌, ℕ, ◌+◌, ◌-◌, Bool, true, false, cond, List, [], ◌∷◌, ◌++◌, refl, sym, ap, ◌∙◌, arith, inl, inr, append_assoc}
use Rattle.std.proofs.lemmas.List.{append-nil}
use Rattle.std.proofs.lemmas.Bool.Decides.{eqb_tells}
use Rattle.std.specs.Prelude.{◌==◌}
use Rattle.gx_base.specs.declared.order.Order.{Order}
use Rattle.gx_base.specs.declared.order.Desk.{Desk}
use Rattle.gx_base.specs.declared.order.Taker.{Taker}
use Rattle.gx_base.specs.declared.event.Event.{Event}
use Rattle.gx_base.specs.declared.event.StepName.{StepName}
use Rattle.plain_book.specs.Orders.{order_of, filled_by}
use Rattle.plain_book.specs.Book.{Book}
use Rattle.plain_book.specs.Shares.{AreNone}
use Rattle.plain_book.specs.Match.{MatchState, match_start, Share, trade, trade_if_any, trade_share, trade_shares, fill, next_head, report_counted, taken_by, is_prorata, book_share_noted}

abbrev pub with_events : List Event → MatchState → MatchState
with_events es m = record m { events = es ++ m.events }

abbrev pub match_with : Book → Desk → Taker → List Event → MatchState
match_with b d t es = record { book = b; desk = d; taker = t; events = es }

-- what is done does not depend on the events so far
abbrev pub IgnoresEvents : (MatchState → MatchState) → Type 0
IgnoresEvents f = (es : List Event) (m : MatchState) → f (with_events es m) ≡ with_events es (f m)

any-events : (step : StepName) (s n : ℕ) (b : Book) (d : Desk) (t : Taker) (es : List Event) → trade_if_any step s n (match_with b d t es) ≡ with_events es (trade_if_any step s n (match_start b d t))
any-events step s n b d t es =
    let m = match_with b d t es in
    let r = trade step s n (match_start b d t) in
    let resting = order_of s b.resting in
    let given : Order = filled_by n resting in
    let taken : Order = taken_by n t.order in
    let counted : Desk = record d { trades = d.trades + 1 } in
    let first = fill n resting.price step (d.trades + 1) (next_head counted given.firm t.time) given in
    let second = fill n resting.price step (d.trades + 1) (next_head (report_counted counted given.firm) taken.firm t.time) taken in
    let go : (c : Bool) → cond c m (trade step s n m) ≡ with_events es (cond c (match_start b d t) r) = elim [
      | true ↦ ap (match_with b d t) (sym (append-nil es))
      | false ↦ ap (match_with r.book r.desk r.taker) (append_assoc es (first ∷ []) (second ∷ []))
    ] in go (n == 0)

-- the book with the mark of a step
abbrev pub marked_in : StepName → ℕ → ℕ → Book → Book
marked_in step slot lots b = cond (is_prorata step) (book_share_noted slot lots b) b

pub any-ignores : (step : StepName) (s n : ℕ) → IgnoresEvents (trade_if_any step s n)
any-ignores step s n es m =
    let given = trade_if_any step s n (match_start m.book m.desk m.taker) in
    any-events step s n m.book m.desk m.taker (es ++ m.events)
    ∙ ap (λ (q : List Event). record given { events = q }) (append_assoc es m.events given.events)
    ∙ ap (with_events es) (sym (any-events step s n m.book m.desk m.taker m.events))

pub share-ignores : (step : StepName) (s n : ℕ) → IgnoresEvents (trade_share step s n)
share-ignores step s n es m = any-ignores step s n es (match_with (marked_in step s n m.book) m.desk m.taker m.events)

pub shares-ignore : (step : StepName) (shares : List Share) → IgnoresEvents (trade_shares step shares)
shares-ignore step [] es m = refl
shares-ignore step (x ∷ xs) es m = ap (trade_shares step xs) (share-ignores step x.0 x.1 es m) ∙ shares-ignore step xs es (trade_share step x.0 x.1 m)

-- a share of 0 changes nothing, unless the step marks orders
share-none : (step : StepName) (s n : ℕ) (m : MatchState) → is_prorata step ≡ false → n ≡ 0 → trade_share step s n m ≡ m
share-none step s n m unmarked none =
    ap (λ (x : ℕ). trade_share step s x m) none
    ∙ ap (λ (c : Bool). trade_if_any step s 0 (record m { book = cond c (book_share_noted s 0 m.book) m.book })) unmarked

pub shares-none : (step : StepName) (shares : List Share) → is_prorata step ≡ false → AreNone shares → (m : MatchState) → trade_shares step shares m ≡ m
shares-none step [] unmarked none m = refl
shares-none step (x ∷ xs) unmarked none m = ap (trade_shares step xs) (share-none step x.0 x.1 m unmarked none.0) ∙ shares-none step xs unmarked none.1 m

-- one run of shares, and then another
pub shares-append : (step : StepName) (xs ys : List Share) (m : MatchState) → trade_shares step (xs ++ ys) m ≡ trade_shares step ys (trade_shares step xs m)
shares-append step [] ys m = refl
shares-append step (x ∷ xs) ys m = shares-append step xs ys (trade_share step x.0 x.1 m)

any-leaves : (step : StepName) (s n : ℕ) (m : MatchState) → (trade_if_any step s n m).taker.order.leaves ≡ m.taker.order.leaves - n
any-leaves step s n m = elim (eqb_tells n 0) [
  | inl t ↦ ap (λ (c : Bool). (cond c m (trade step s n m)).taker.order.leaves) t.0 ∙ omega (arith, t.1)
  | inr t ↦ ap (λ (c : Bool). (cond c m (trade step s n m)).taker.order.leaves) t.0
]

-- the lots are no longer wanted
pub share-leaves : (step : StepName) (s n : ℕ) (m : MatchState) → (trade_share step s n m).taker.order.leaves ≡ m.taker.order.leaves - n
share-leaves step s n m = any-leaves step s n (match_with (marked_in step s n m.book) m.desk m.taker m.events)
