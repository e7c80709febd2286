-- One step of a walk along a level: an order trades its share, and those that are still to come stay in their place.
use Rattle.std.proofs.Common.{◌≡◌, ◌≢◌, ℕ, ◌-◌, ◌<◌, ◌≤◌, Bool, true, false, cond, ◌&&◌, List, [], ◌∷◌, ◌++◌, Option, Some, None, refl, sym, ap, subst, ◌∙◌, arith, inl, inr, append_assoc}
use Rattle.std.proofs.lemmas.List.{append-nil}
use Rattle.std.proofs.lemmas.Bool.Decides.{eqb_tells, leb_tells}
use Prim.Native.Nat.{suc}
use Rattle.std.specs.Prelude.{◌==◌, nat_lt}
use Rattle.gx_base.specs.declared.order.Order.{Order}
use Rattle.gx_base.specs.declared.event.StepName.{StepName}
use Rattle.plain_book.specs.declared.entry.Entry.{Entry}
use Rattle.plain_book.specs.Orders.{Level, level_of, order_of, slot_of, without, with_order, placed, settled, refreshed, filled_by}
use Rattle.plain_book.specs.Book.{AllDiffer}
use Rattle.plain_book.specs.Match.{MatchState, trade, trade_if_any, trade_share, is_prorata, book_share_noted}
use Rattle.plain_book.specs.Inner.Walk.{is_refreshed_by, end_after, before_end}
use Rattle.plain_book.proofs.Levels.{renewed, same, other, AllDiffer-back}
use Rattle.plain_book.proofs.Walks.{Stands, Remains, stands-order, stands-without, stands-last, stands-with_order, AllDiffer-with_order}

-- what the trade of an order asks of it: some of it is shown, at most what is open
pub record IsShowing (lots : ℕ) (o : Order) : Type 0 where
  pub some : 1 ≤ o.shown
  pub within : o.shown ≤ o.leaves
  pub fits : lots ≤ o.shown

-- where nothing of the order was refreshed, or something was before
stays-end : (lots slot : ℕ) (o : Order) (end : Option ℕ) → is_refreshed_by lots o ≡ false → end_after end slot lots o ≡ end
stays-end lots slot o None h = ap (λ b. cond b (Some slot) None) h
stays-end lots slot o (Some s) h = refl

-- the first refreshed order
first-end : (lots slot : ℕ) (o : Order) (behind : List Entry) (n : Entry) → n.slot ≡ slot → is_refreshed_by lots o ≡ true → end_after (slot_of behind) slot lots o ≡ slot_of (behind ++ n ∷ [])
first-end lots slot o [] n e h = ap (λ b. cond b (Some slot) None) h ∙ ap Some (sym e)
first-end lots slot o (x ∷ xs) n e h = refl

not-shown : (lots : ℕ) (o : Order) → o.shown ≢ lots → is_refreshed_by lots o ≡ false
not-shown lots o h = elim (eqb_tells o.shown lots) [
  | inl t ↦ absurd (h t.1)
  | inr t ↦ ap (λ b. b && nat_lt lots o.leaves) t.0
]

and-false : (b : Bool) → (b && false) ≡ false
and-false true = refl
and-false false = refl

not-open : (lots : ℕ) (o : Order) → o.leaves ≤ lots → is_refreshed_by lots o ≡ false
not-open lots o h = elim (leb_tells (suc lots) o.leaves) [
  | inl t ↦ absurd (omega (arith, t.1))
  | inr t ↦ ap (λ b. (o.shown == lots) && b) t.0 ∙ and-false (o.shown == lots)
]

is-refreshed : (lots : ℕ) (o : Order) → o.shown ≡ lots → lots < o.leaves → is_refreshed_by lots o ≡ true
is-refreshed lots o h k =
    let a : (o.shown == lots) ≡ true = subst (λ n. (n == lots) ≡ true) (sym h) (same lots) in
    let b : nat_lt lots o.leaves ≡ true = elim (leb_tells (suc lots) o.leaves) [ inl t ↦ t.0 | inr t ↦ absurd (omega (arith, k, t.1)) ] in
    ap (λ c. c && nat_lt lots o.leaves) a ∙ b

module _ (k : Level) (es xs : List Entry) (e : Entry) (rest behind : List Entry) (s : Stands k es xs e (rest ++ behind)) (n : ℕ) (showing : IsShowing n e.order) (some : n ≢ 0) where
  order : order_of e.slot es ≡ e.order
  order = stands-order s

  o : Order
  o = filled_by n (order_of e.slot es)

  last : Entry
  last = record { slot = e.slot; order = refreshed o; is_top = false }

  level : level_of o ≡ level_of e.order
  unfolding o
  level = ap level_of order

  -- after the trade of an order, what is left of the walk stands in the level
  settled-remains : Remains k (settled e.slot o es) rest (end_after (slot_of behind) e.slot n e.order)
  unfolding o last
  settled-remains =
      let leaves_is : o.leaves ≡ e.order.leaves - n = ap (λ (x : Order). x.leaves - n) order in
      let shown_is : o.shown ≡ e.order.shown - n = ap (λ (x : Order). x.shown - n) order in
      let result : Bool → Bool → List Entry = λ a b. cond a (without e.slot es) (cond b (placed last (without e.slot es)) (with_order e.slot o es)) in
      let end = end_after (slot_of behind) e.slot n e.order in
      elim (eqb_tells o.leaves 0) [
        | inl t ↦
            let all : e.order.leaves ≤ n = omega (arith, leaves_is, t.1) in
            let gone : Remains k (without e.slot es) rest end =
            record { before = xs; behind = behind; is = stands-without s; ends = stays-end n e.slot e.order (slot_of behind) (not-open n e.order all) } in
            subst (λ a. Remains k (result a (o.shown == 0)) rest end) (sym t.0) gone
        | inr t ↦
            let some_open : n < e.order.leaves = omega (arith, leaves_is, t.1) in
            elim (eqb_tells o.shown 0) [
              | inl u ↦
                  let all : e.order.shown ≡ n = omega (arith, shown_is, u.1, showing.fits) in
                  let back : Remains k (placed last (without e.slot es)) rest end = record {
                    before = xs;
                    behind = behind ++ last ∷ [];
                    is = stands-last s last level ∙ append_assoc xs (rest ++ behind) (last ∷ []) ∙ ap (λ (q : List Entry). xs ++ q) (append_assoc rest behind (last ∷ []));
                    ends = first-end n e.slot e.order behind last refl (is-refreshed n e.order all some_open);
                  } in
                  subst (λ a. Remains k (result a (o.shown == 0)) rest end) (sym t.0) (subst (λ b. Remains k (result false b) rest end) (sym u.0) back)
              | inr u ↦
                  let part : e.order.shown ≢ n = λ h. u.1 (omega (arith, shown_is, h)) in
                  let stays : Remains k (with_order e.slot o es) rest end = record {
                    before = xs ++ renewed e o ∷ [];
                    behind = behind;
                    is = stands-with_order s o level ∙ sym (append_assoc xs (renewed e o ∷ []) (rest ++ behind));
                    ends = stays-end n e.slot e.order (slot_of behind) (not-shown n e.order part);
                  } in
                  subst (λ a. Remains k (result a (o.shown == 0)) rest end) (sym t.0) (subst (λ b. Remains k (result false b) rest end) (sym u.0) stays)
            ]
      ]

  pub traded-remains : Remains k (settled e.slot (filled_by n (order_of e.slot es)) es) rest (end_after (slot_of behind) e.slot n e.order)
  unfolding o
  traded-remains = settled-remains

-- ---- the share of an order

-- the same where the lots may be none
any-remains : (step : StepName) (k : Level) (m : MatchState) (xs : List Entry) (e : Entry) (rest behind : List Entry) (n : ℕ) → Stands k m.book.resting xs e (rest ++ behind) → IsShowing n e.order
    → Remains k (trade_if_any step e.slot n m).book.resting rest (end_after (slot_of behind) e.slot n e.order)
any-remains step k m xs e rest behind n s showing =
    let end = end_after (slot_of behind) e.slot n e.order in
    elim (eqb_tells n 0) [
      | inl t ↦
          let none : e.order.shown ≢ n = λ h. absurd (omega (arith, h, t.1, showing.some)) in
          let stays : Remains k m.book.resting rest end = record {
            before = xs ++ e ∷ [];
            behind = behind;
            is = s.is ∙ sym (append_assoc xs (e ∷ []) (rest ++ behind));
            ends = stays-end n e.slot e.order (slot_of behind) (not-shown n e.order none);
          } in
          subst (λ (c : Bool). Remains k (cond c m (trade step e.slot n m)).book.resting rest end) (sym t.0) stays
      | inr t ↦ subst (λ (c : Bool). Remains k (cond c m (trade step e.slot n m)).book.resting rest end) (sym t.0) (traded-remains k m.book.resting xs e rest behind s n showing t.1)
    ]

pub share-remains : (step : StepName) (k : Level) (m : MatchState) (xs : List Entry) (e : Entry) (rest behind : List Entry) (n : ℕ) → Stands k m.book.resting xs e (rest ++ behind) → IsShowing n e.order
    → Remains k (trade_share step e.slot n m).book.resting rest (end_after (slot_of behind) e.slot n e.order)
share-remains step k m xs e rest behind n s showing =
    let end = end_after (slot_of behind) e.slot n e.order in
    let o : Order = record (order_of e.slot m.book.resting) { prorated = n } in
    let same_shown : o.shown ≡ e.order.shown = ap (λ (x : Order). x.shown) (stands-order s) in
    let same_leaves : o.leaves ≡ e.order.leaves = ap (λ (x : Order). x.leaves) (stands-order s) in
    let stands : Stands k (book_share_noted e.slot n m.book).resting xs (renewed e o) (rest ++ behind) =
    record { differ = AllDiffer-with_order e.slot o m.book.resting s.differ; is = stands-with_order s o (ap level_of (stands-order s)) } in
    let shows : IsShowing n o = record { some = omega (arith, showing.some, same_shown); within = omega (arith, showing.within, same_shown, same_leaves); fits = omega (arith, showing.fits, same_shown) } in
    let same_end : end_after (slot_of behind) e.slot n o ≡ end = ap (λ (x : Order). end_after (slot_of behind) e.slot n (record x { prorated = n })) (stands-order s) in
    let go : (c : Bool) → Remains k (trade_if_any step e.slot n (record m { book = cond c (book_share_noted e.slot n m.book) m.book })).book.resting rest end = elim [
      | true ↦
          subst (λ (x : Option ℕ). Remains k (trade_if_any step e.slot n (record m { book = book_share_noted e.slot n m.book })).book.resting rest x) same_end
          (any-remains step k (record m { book = book_share_noted e.slot n m.book }) xs (renewed e o) rest behind n stands shows)
      | false ↦ any-remains step k m xs e rest behind n s showing
    ] in go (is_prorata step)

-- ---- the next order

-- the first of the orders that are still to come
pub record IsHead (slot : ℕ) (rest : List Entry) : Type 0 where
  pub entry : Entry
  pub more : List Entry
  pub is : rest ≡ entry ∷ more
  pub slot_is : slot ≡ entry.slot

pub head_of : (slot : ℕ) (rest : List Entry) → Some slot ≡ slot_of rest → IsHead slot rest
head_of slot [] h = absurd (let f : Some slot ≡ None = h in cc)
head_of slot (e ∷ es) h = record { entry = e; more = es; is = refl; slot_is = let f : Some slot ≡ Some e.slot = h in cc }

-- the order after this one, unless the refreshed ones begin there
pub next-is : (more behind : List Entry) → AllDiffer (more ++ behind) → before_end (slot_of behind) (slot_of (more ++ behind)) ≡ slot_of more
next-is [] [] d = refl
next-is [] (y ∷ ys) d = ap (λ (b : Bool). cond b None (Some y.slot)) (same y.slot)
next-is (x ∷ xs) [] d = refl
next-is (x ∷ xs) (y ∷ ys) d = ap (λ (b : Bool). cond b None (Some x.slot)) (other x y xs ys d)

-- ---- the measure: how many orders are still to come

abbrev pub from_slot : Option ℕ → List Entry → List Entry
from_slot None es = []
from_slot (Some s) [] = []
from_slot (Some s) (e ∷ es) = cond (e.slot == s) (e ∷ es) (from_slot (Some s) es)

abbrev pub up_to : Option ℕ → List Entry → List Entry
up_to None es = es
up_to (Some s) [] = []
up_to (Some s) (e ∷ es) = cond (e.slot == s) [] (e ∷ up_to (Some s) es)

-- from one slot on, up to another one
abbrev pub still_to_come : Option ℕ → Option ℕ → List Entry → List Entry
still_to_come at end es = up_to end (from_slot at es)

from-middle : (xs ys : List Entry) (e : Entry) → AllDiffer (xs ++ e ∷ ys) → from_slot (Some e.slot) (xs ++ e ∷ ys) ≡ e ∷ ys
from-middle [] ys e d = ap (λ (b : Bool). cond b (e ∷ ys) (from_slot (Some e.slot) ys)) (same e.slot)
from-middle (x ∷ xs) ys e d = ap (λ (b : Bool). cond b (x ∷ (xs ++ e ∷ ys)) (from_slot (Some e.slot) (xs ++ e ∷ ys))) (other x e xs ys d) ∙ from-middle xs ys e d.1

up_to-middle : (xs ys : List Entry) (e : Entry) → AllDiffer (xs ++ e ∷ ys) → up_to (Some e.slot) (xs ++ e ∷ ys) ≡ xs
up_to-middle [] ys e d = ap (λ (b : Bool). cond b [] (e ∷ up_to (Some e.slot) ys)) (same e.slot)
up_to-middle (x ∷ xs) ys e d = ap (λ (b : Bool). cond b [] (x ∷ up_to (Some e.slot) (xs ++ e ∷ ys))) (other x e xs ys d) ∙ ap (λ (q : List Entry). x ∷ q) (up_to-middle xs ys e d.1)

up_to-behind : (rest behind : List Entry) → AllDiffer (rest ++ behind) → up_to (slot_of behind) (rest ++ behind) ≡ rest
up_to-behind rest [] d = append-nil rest
up_to-behind rest (y ∷ ys) d = up_to-middle rest ys y d

up_to-none : (end : Option ℕ) → up_to end [] ≡ []
up_to-none None = refl
up_to-none (Some s) = refl

pub comes-rest : (before rest behind : List Entry) → AllDiffer (before ++ (rest ++ behind)) → still_to_come (slot_of rest) (slot_of behind) (before ++ (rest ++ behind)) ≡ rest
comes-rest before [] behind d = up_to-none (slot_of behind)
comes-rest before (e ∷ es) behind d =
    ap (up_to (slot_of behind)) (from-middle before (es ++ behind) e d) ∙ up_to-behind (e ∷ es) behind (AllDiffer-back before (e ∷ (es ++ behind)) d)
