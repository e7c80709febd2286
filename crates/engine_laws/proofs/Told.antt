-- What has been told of the orders that are open: of each how much is filled and how much is open, and so in total. What the
-- events do to it.
use Rattle.std.proofs.Common.{◌≡◌, ◌≢◌, ℕ, ◌+◌, ◌<◌, ◌≤◌, Bool, true, false, cond, List, [], ◌∷◌, ◌++◌, Option, Some, None, refl, sym, ap, subst, ◌∙◌, arith, inl, inr, sum_by}
use Rattle.std.proofs.lemmas.List.Sums.{sum_by-cons}
use Rattle.std.proofs.lemmas.List.Sorted.{IsPermutation-middle, sum_by-IsPermutation, All-permutation}
use Rattle.std.proofs.lemmas.List.Elements.{All-from_recursion, recursion_from_All}
use Rattle.std.proofs.lemmas.Bool.Decides.{eqb_tells}
use Rattle.std.specs.Prelude.{◌==◌, IfSome}
use Rattle.std.specs.List.{AllByRecursion}
use Rattle.std.specs.List.Sorted.{IsPermutation}
use Rattle.gx_base.specs.declared.order.Order.{Order}
use Rattle.gx_base.specs.declared.event.Event.{Event}
use Rattle.plain_book.proofs.Pairs.{all-append, all-both, all-with}
use Rattle.order_kinds.specs.Balance.{AddsUp, IsSpent, order_in, lots_in, lots_of, last_open, open_by, entered_with, total_entered, filled_in, total_filled, cancelled_in, total_cancelled}
use Rattle.engine_laws.proofs.Events.{lots-push, open-push, entered-push, filled-push, cancelled-push, lots-told, lots-within, AreFillsTold, fills-push}

-- the quantities of an order
pub record Account : Type 0 where
  pub number : ℕ
  pub quantity : ℕ
  pub filled : ℕ
  pub leaves : ℕ

abbrev pub account : Order → Account
account o = record { number = o.number; quantity = o.quantity; filled = o.filled; leaves = o.leaves }

abbrev pub is_of : ℕ → Account → ℕ
is_of k a = cond (a.number == k) 1 0

abbrev pub leaves_of : ℕ → Account → ℕ
leaves_of k a = cond (a.number == k) a.leaves 0

abbrev pub leaves_in : Account → ℕ
leaves_in a = a.leaves

-- The events tell this of the orders that are open, with so many order numbers given.
pub record IsTold (events : List Event) (orders : ℕ) (live : List Account) : Type 0 where
  pub single : (k : ℕ) → sum_by (is_of k) live ≤ 1
  pub given : AllByRecursion (λ (a : Account). a.number ≤ orders) live
  pub whole : AllByRecursion (λ (a : Account). a.quantity ≡ a.filled + a.leaves) live
  pub filled : AllByRecursion (λ (a : Account). a.filled ≡ lots_of a.number events) live
  pub leaves : (k : ℕ) → last_open k events ≡ sum_by (leaves_of k) live
  -- of an order whose number is not given yet, nothing
  pub fresh : (k : ℕ) → orders < k → lots_of k events ≡ 0
  pub reports : AllByRecursion AddsUp events
  pub spent : AllByRecursion IsSpent events
  pub fills : AreFillsTold [] events
  pub total : total_entered events ≡ total_filled events + (sum_by leaves_in live + total_cancelled events)

-- ---- in any order

all-shuffled : (P : Account → Type 0) (xs ys : List Account) → IsPermutation xs ys → AllByRecursion P xs → AllByRecursion P ys
all-shuffled P xs ys s h = recursion_from_All P ys (All-permutation P xs ys s (All-from_recursion P xs h))

pub told-shuffled : {events : List Event} {orders : ℕ} (xs ys : List Account) → IsPermutation xs ys → IsTold events orders xs → IsTold events orders ys
told-shuffled xs ys s h = record {
  single = λ k. omega (arith, h.single k, sum_by-IsPermutation (is_of k) xs ys s);
  given = all-shuffled _ xs ys s h.given;
  whole = all-shuffled _ xs ys s h.whole;
  filled = all-shuffled _ xs ys s h.filled;
  leaves = λ k. h.leaves k ∙ sym (sum_by-IsPermutation (leaves_of k) xs ys s);
  fresh = h.fresh;
  reports = h.reports;
  spent = h.spent;
  fills = h.fills;
  total = omega (arith, h.total, sum_by-IsPermutation leaves_in xs ys s);
}

pub swapped : (x y : Account) (xs : List Account) → IsPermutation (x ∷ (y ∷ xs)) (y ∷ (x ∷ xs))
swapped x y xs = IsPermutation-middle (x ∷ []) y xs

-- ---- one of them, and the others

of-none : (k : ℕ) (a : Account) → is_of k a ≡ 0 → a.number ≢ k
of-none k a h is = elim (eqb_tells a.number k) [
  | inl t ↦ (let one : is_of k a ≡ 1 = ap (λ (b : Bool). cond b 1 0) t.0 in omega (arith, one, h))
  | inr t ↦ t.1 is
]

none-of : (k : ℕ) (xs : List Account) → sum_by (is_of k) xs ≡ 0 → AllByRecursion (λ (a : Account). a.number ≢ k) xs
none-of k [] h = tt
none-of k (x ∷ xs) h = (of-none k x (omega (arith, sum_by-cons (is_of k) x xs, h)), none-of k xs (omega (arith, sum_by-cons (is_of k) x xs, h)))

leaves-other : (k : ℕ) (a : Account) → a.number ≢ k → leaves_of k a ≡ 0
leaves-other k a h = elim (eqb_tells a.number k) [ inl t ↦ absurd (h t.1) | inr t ↦ ap (λ (b : Bool). cond b a.leaves 0) t.0 ]

pub leaves-none : (k : ℕ) (xs : List Account) → AllByRecursion (λ (a : Account). a.number ≢ k) xs → sum_by (leaves_of k) xs ≡ 0
leaves-none k [] h = refl
leaves-none k (x ∷ xs) h = omega (arith, sum_by-cons (leaves_of k) x xs, leaves-other k x h.0, leaves-none k xs h.1)

is-one : (k : ℕ) (a : Account) → a.number ≡ k → is_of k a ≡ 1
is-one k a h = elim (eqb_tells a.number k) [ inl t ↦ ap (λ (b : Bool). cond b 1 0) t.0 | inr t ↦ absurd (t.1 h) ]

is-none : (k : ℕ) (a : Account) → a.number ≢ k → is_of k a ≡ 0
is-none k a h = elim (eqb_tells a.number k) [ inl t ↦ absurd (h t.1) | inr t ↦ ap (λ (b : Bool). cond b 1 0) t.0 ]

none-sum : (k : ℕ) (xs : List Account) → AllByRecursion (λ (a : Account). a.number ≢ k) xs → sum_by (is_of k) xs ≡ 0
none-sum k [] h = refl
none-sum k (x ∷ xs) h = omega (arith, sum_by-cons (is_of k) x xs, is-none k x h.0, none-sum k xs h.1)

-- no other has the number of the first
pub others-differ : {events : List Event} {orders : ℕ} (x : Account) (xs : List Account) → IsTold events orders (x ∷ xs) → AllByRecursion (λ (a : Account). a.number ≢ x.number) xs
others-differ x xs h = none-of x.number xs (omega (arith, h.single x.number, sum_by-cons (is_of x.number) x xs, is-one x.number x refl))

-- an order of which nothing is open is open no more
pub told-closed : {events : List Event} {orders : ℕ} (x : Account) (xs : List Account) → x.leaves ≡ 0 → IsTold events orders (x ∷ xs) → IsTold events orders xs
told-closed x xs none h = record {
  single = λ k. omega (arith, h.single k, sum_by-cons (is_of k) x xs);
  given = h.given.1;
  whole = h.whole.1;
  filled = h.filled.1;
  leaves = λ k. (let zero_left : leaves_of k x ≡ 0 = elim (x.number == k) as (λ b. cond b x.leaves 0 ≡ 0) [ true ↦ none | false ↦ refl ] in omega (arith, h.leaves k, sum_by-cons (leaves_of k) x xs, zero_left));
  fresh = h.fresh;
  reports = h.reports;
  spent = h.spent;
  fills = h.fills;
  total = omega (arith, h.total, sum_by-cons leaves_in x xs, none);
}

-- an order that has its number, and nothing else yet
abbrev pub unentered : ℕ → Account
unentered number = record { number = number; quantity = 0; filled = 0; leaves = 0 }

pub told-numbered : {events : List Event} (orders : ℕ) (xs : List Account) → IsTold events orders xs → IsTold events (orders + 1) (unentered (orders + 1) ∷ xs)
told-numbered orders xs h =
    let x = unentered (orders + 1) in
    let apart : AllByRecursion (λ (a : Account). a.number ≢ orders + 1) xs = all-with (λ (a : Account). a.number ≤ orders) (λ (a : Account). a.number ≢ orders + 1) (λ a le. omega (arith, le)) xs h.given in
    record {
      single = λ k. elim (eqb_tells (orders + 1) k) [
        | inl t ↦ (let none : sum_by (is_of k) xs ≡ 0 = none-sum k xs (subst (λ (n : ℕ). AllByRecursion (λ (a : Account). a.number ≢ n) xs) t.1 apart) in omega (arith, none, sum_by-cons (is_of k) x xs, is-one k x t.1))
        | inr t ↦ omega (arith, h.single k, sum_by-cons (is_of k) x xs, is-none k x t.1)
      ];
      given = (omega arith, all-with (λ (a : Account). a.number ≤ orders) (λ (a : Account). a.number ≤ orders + 1) (λ a le. omega (arith, le)) xs h.given);
      whole = (refl, h.whole);
      filled = (sym (h.fresh (orders + 1) (omega arith)), h.filled);
      leaves = λ k. (let none : leaves_of k x ≡ 0 = elim (orders + 1 == k) as (λ b. cond b x.leaves 0 ≡ 0) [ true ↦ refl | false ↦ refl ] in omega (arith, h.leaves k, sum_by-cons (leaves_of k) x xs, none));
      fresh = λ k lt. h.fresh k (omega (arith, lt));
      reports = h.reports;
      spent = h.spent;
      fills = h.fills;
      total = omega (arith, h.total, sum_by-cons leaves_in x xs);
    }

-- ---- an event

-- The event is on the order of x, which is y after it.
pub record TellsOf (e : Event) (o : Order) (x y : Account) : Type 0 where
  pub is : order_in e ≡ Some o
  pub number : o.number ≡ x.number
  pub same : y.number ≡ x.number
  pub whole : y.quantity ≡ y.filled + y.leaves
  pub filled : y.filled ≡ x.filled + filled_in e
  pub tells : o.filled ≡ y.filled
  pub left : o.leaves ≡ y.leaves
  pub adds : AddsUp e
  pub spent : IsSpent e
  pub enters : (total filled others cancelled : ℕ) → x.filled ≤ filled → total ≡ filled + ((x.leaves + others) + cancelled)
      → entered_with total e ≡ (filled + filled_in e) + ((y.leaves + others) + (cancelled + cancelled_in e))

pub told-after : {events : List Event} {orders : ℕ} (e : Event) (o : Order) (x y : Account) (xs : List Account) → TellsOf e o x y → IsTold events orders (x ∷ xs) → IsTold (events ++ e ∷ []) orders (y ∷ xs)
told-after {events} {orders} e o x y xs t h =
    let apart = others-differ x xs h in
    let lots = λ (k : ℕ). lots-push k events e ∙ ap (λ (n : ℕ). lots_of k events + n) (lots-told k e o t.is) in
    let own : lots_of x.number (events ++ e ∷ []) ≡ y.filled = elim (eqb_tells o.number x.number) [
      | inl d ↦ (let told : cond (o.number == x.number) (filled_in e) 0 ≡ filled_in e = ap (λ (b : Bool). cond b (filled_in e) 0) d.0 in omega (arith, lots x.number, told, h.filled.0, t.filled))
      | inr d ↦ absurd (d.1 t.number)
    ] in
    let unmoved : (k : ℕ) → k ≢ x.number → lots_of k (events ++ e ∷ []) ≡ lots_of k events = λ k other. elim (eqb_tells o.number k) [
      | inl d ↦ absurd (other (sym d.1 ∙ t.number))
      | inr d ↦ (let told : cond (o.number == k) (filled_in e) 0 ≡ 0 = ap (λ (b : Bool). cond b (filled_in e) 0) d.0 in omega (arith, lots k, told))
    ] in
    record {
      single = λ k. (let same : is_of k y ≡ is_of k x = ap (λ (n : ℕ). cond (n == k) 1 0) t.same in omega (arith, h.single k, same, sum_by-cons (is_of k) x xs, sum_by-cons (is_of k) y xs));
      given = (omega (arith, h.given.0, t.same), h.given.1);
      whole = (t.whole, h.whole.1);
      filled = (
        sym own ∙ ap (λ (n : ℕ). lots_of n (events ++ e ∷ [])) (sym t.same),
        all-with (λ (a : Account). (a.number ≢ x.number) × (a.filled ≡ lots_of a.number events)) (λ (a : Account). a.filled ≡ lots_of a.number (events ++ e ∷ [])) (λ a p. p.1 ∙ sym (unmoved a.number p.0)) xs
            (all-both (λ (a : Account). a.number ≢ x.number) (λ (a : Account). a.filled ≡ lots_of a.number events) xs apart h.filled.1),
      );
      leaves = λ k.
          let push : last_open k (events ++ e ∷ []) ≡ cond (o.number == k) o.leaves (last_open k events) = open-push k 0 events e ∙ ap (λ (x : Option Order). open_by k x (last_open k events)) t.is in
          elim (eqb_tells o.number k) [
            | inl d ↦
                let now : cond (o.number == k) o.leaves (last_open k events) ≡ o.leaves = ap (λ (b : Bool). cond b o.leaves (last_open k events)) d.0 in
                let mine : leaves_of k y ≡ y.leaves = ap (λ (n : ℕ). cond (n == k) y.leaves 0) (t.same ∙ sym t.number) ∙ ap (λ (b : Bool). cond b y.leaves 0) d.0 in
                let none : sum_by (leaves_of k) xs ≡ 0 = leaves-none k xs (subst (λ (n : ℕ). AllByRecursion (λ (a : Account). a.number ≢ n) xs) (sym t.number ∙ d.1) apart) in
                omega (arith, push, now, mine, none, t.left, sum_by-cons (leaves_of k) y xs)
            | inr d ↦
                let now : cond (o.number == k) o.leaves (last_open k events) ≡ last_open k events = ap (λ (b : Bool). cond b o.leaves (last_open k events)) d.0 in
                let before : leaves_of k x ≡ 0 = leaves-other k x (λ is. d.1 (t.number ∙ is)) in
                let after : leaves_of k y ≡ 0 = leaves-other k y (λ is. d.1 (t.number ∙ sym t.same ∙ is)) in
                omega (arith, push, now, before, after, h.leaves k, sum_by-cons (leaves_of k) x xs, sum_by-cons (leaves_of k) y xs)
          ];
      fresh = λ k lt. unmoved k (omega (arith, lt, h.given.0)) ∙ h.fresh k lt;
      reports = all-append AddsUp events (e ∷ []) h.reports (t.adds, tt);
      spent = all-append IsSpent events (e ∷ []) h.spent (t.spent, tt);
      fills = fills-push [] events e h.fills (subst (λ (q : Option Order). IfSome q (λ r. r.filled ≡ lots_of r.number (events ++ e ∷ []))) (sym t.is) (t.tells ∙ sym own ∙ ap (λ (n : ℕ). lots_of n (events ++ e ∷ [])) (sym t.number)));
      total =
          let within : x.filled ≤ total_filled events = omega (arith, h.filled.0, lots-within x.number events) in
          let was : total_entered events ≡ total_filled events + ((x.leaves + sum_by leaves_in xs) + total_cancelled events) = omega (arith, h.total, sum_by-cons leaves_in x xs) in
          let now = t.enters (total_entered events) (total_filled events) (sum_by leaves_in xs) (total_cancelled events) within was in
          omega (arith, entered-push 0 events e, filled-push events e, cancelled-push events e, now, sum_by-cons leaves_in y xs);
    }

-- an event that is on no order, and tells nothing
pub record TellsNothing (e : Event) : Type 0 where
  pub is : order_in e ≡ None
  pub lots : (k : ℕ) → lots_in k e ≡ 0
  pub adds : AddsUp e
  pub spent : IsSpent e
  pub filled : filled_in e ≡ 0
  pub cancelled : cancelled_in e ≡ 0
  pub enters : (total : ℕ) → entered_with total e ≡ total

pub told-none : {events : List Event} {orders : ℕ} (e : Event) (xs : List Account) → TellsNothing e → IsTold events orders xs → IsTold (events ++ e ∷ []) orders xs
told-none {events} {orders} e xs t h =
    let lots : (k : ℕ) → lots_of k (events ++ e ∷ []) ≡ lots_of k events = λ k. omega (arith, lots-push k events e, t.lots k) in
    record {
      single = h.single;
      given = h.given;
      whole = h.whole;
      filled = all-with (λ (a : Account). a.filled ≡ lots_of a.number events) (λ (a : Account). a.filled ≡ lots_of a.number (events ++ e ∷ [])) (λ a p. p ∙ sym (lots a.number)) xs h.filled;
      leaves = λ k. open-push k 0 events e ∙ ap (λ (x : Option Order). open_by k x (last_open k events)) t.is ∙ h.leaves k;
      fresh = λ k lt. lots k ∙ h.fresh k lt;
      reports = all-append AddsUp events (e ∷ []) h.reports (t.adds, tt);
      spent = all-append IsSpent events (e ∷ []) h.spent (t.spent, tt);
      fills = fills-push [] events e h.fills (subst (λ (q : Option Order). IfSome q (λ r. r.filled ≡ lots_of r.number (events ++ e ∷ []))) (sym t.is) tt);
      total = omega (arith, h.total, entered-push 0 events e, t.enters (total_entered events), filled-push events e, t.filled, cancelled-push events e, t.cancelled);
    }
