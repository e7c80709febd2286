-- The quantities of the orders of a book, when an order comes, goes or changes.
use Rattle.std.proofs.Common.{◌≡◌, ◌≢◌, ℕ, ◌≤◌, Bool, true, false, cond, not, List, [], ◌∷◌, ◌++◌, map, filter, Option, refl, sym, ap, subst, ◌∙◌, arith, inl, inr, sum_by}
use Rattle.std.proofs.lemmas.List.{map-append}
use Rattle.std.proofs.lemmas.List.Sums.{sum_by-cons}
use Rattle.std.proofs.lemmas.List.Sorted.{IsPermutation-refl, IsPermutation-sym, IsPermutation-cons, IsPermutation-trans, IsPermutation-middle, IsPermutation-map, IsPermutation-append_left, IsPermutation-append_right, IsPermutation-filter_both}
use Rattle.std.proofs.lemmas.Bool.Decides.{eqb_tells}
use Rattle.std.specs.Prelude.{◌==◌}
use Rattle.std.specs.List.{AllByRecursion}
use Rattle.std.specs.List.Sorted.{IsPermutation}
use Rattle.gx_base.specs.declared.order.Side.{Side}
use Rattle.gx_base.specs.declared.order.Order.{Order}
use Rattle.plain_book.specs.declared.entry.Entry.{Entry}
use Rattle.plain_book.specs.Orders.{HasSlot, order_of, no_order, is_at_earlier_level, is_of_earlier_instrument, without, with_order, placed, lined_up, with_top, settled, refreshed}
use Rattle.plain_book.specs.Book.{AllDiffer}
use Rattle.plain_book.proofs.Levels.{renewed, without-none, lacks}
use Rattle.plain_book.proofs.Walks.{HasSlot-with_order, AllDiffer-with_order, order_of-with_order}
use Rattle.engine_laws.proofs.Told.{Account, account, is_of, leaves_of, leaves_in, swapped}

abbrev pub accounts : List Entry → List Account
accounts es = map (λ (e : Entry). account e.order) es

pub accounts-append : (xs ys : List Entry) → accounts (xs ++ ys) ≡ accounts xs ++ accounts ys
accounts-append xs ys = map-append (λ (e : Entry). account e.order) xs ys

-- the same quantities, in any order
abbrev pub AreSame : List Account → List Account → Type 0
AreSame xs ys = IsPermutation xs ys

-- ---- an order comes

pub not-not : (b : Bool) → b ≡ not (not b)
not-not true = refl
not-not false = refl

put-in : (p : Entry → Bool) (n : Entry) (es : List Entry) → IsPermutation (filter (λ e. not (p e)) es ++ n ∷ filter p es) (n ∷ es)
put-in p n es =
    let front = filter (λ e. not (p e)) es in
    let back = filter p es in
    IsPermutation-trans (front ++ n ∷ back) (n ∷ (front ++ back)) (n ∷ es) (IsPermutation-middle front n back)
    (IsPermutation-cons n (front ++ back) es (IsPermutation-sym es (front ++ back) (IsPermutation-filter_both (λ e. not (p e)) p (λ e. not-not (p e)) es)))

abbrev account_in : Entry → Account
account_in e = account e.order

pub placed-same : (n : Entry) (es : List Entry) → AreSame (accounts (placed n es)) (account n.order ∷ accounts es)
placed-same n es = IsPermutation-map account_in (placed n es) (n ∷ es) (put-in (is_at_earlier_level n) n es)

pub lined-same : (n : Entry) (es : List Entry) → AreSame (accounts (lined_up n es)) (account n.order ∷ accounts es)
lined-same n es = IsPermutation-map account_in (lined_up n es) (n ∷ es) (put-in (is_of_earlier_instrument n) n es)

-- a TOP that is set changes no quantity
pub topped-same : (i : ℕ) (d : Side) (top : Option ℕ) (es : List Entry) → accounts (with_top i d top es) ≡ accounts es
topped-same i d top [] = refl
topped-same i d top (e ∷ es) = ap (λ (xs : List Account). account e.order ∷ xs) (topped-same i d top es)

-- ---- an order goes or changes

pub taken-same : (s : ℕ) (es : List Entry) → AllDiffer es → HasSlot s es → AreSame (accounts es) (account (order_of s es) ∷ accounts (without s es))
taken-same s [] d h = absurd h
taken-same s (e ∷ es) d h =
    let left = without s es in
    let At = λ (b : Bool). AreSame (account e.order ∷ accounts es) (account (cond b e.order (order_of s es)) ∷ accounts (cond (not b) (e ∷ left) left)) in
    elim (eqb_tells e.slot s) [
      | inl t ↦
          let same : accounts left ≡ accounts es = ap (λ (xs : List Entry). accounts xs) (without-none s es (λ k. d.0 (subst (λ (n : ℕ). HasSlot n es) (sym t.1) k))) in
          subst At (sym t.0) (subst (λ (xs : List Account). AreSame (account e.order ∷ accounts es) (account e.order ∷ xs)) (sym same) (IsPermutation-refl (account e.order ∷ accounts es)))
      | inr t ↦
          let o = order_of s es in
          let more : HasSlot s es = elim h [ inl is ↦ absurd (t.1 is) | inr m ↦ m ] in
          subst At (sym t.0)
          (IsPermutation-trans (account e.order ∷ accounts es) (account e.order ∷ (account o ∷ accounts left)) (account o ∷ (account e.order ∷ accounts left))
          (IsPermutation-cons (account e.order) (accounts es) (account o ∷ accounts left) (taken-same s es d.1 more)) (swapped (account e.order) (account o) (accounts left)))
    ]

without-changed : (s : ℕ) (o : Order) (es : List Entry) → without s (with_order s o es) ≡ without s es
without-changed s o [] = refl
without-changed s o (e ∷ es) =
    let more = without-changed s o es in
    let By = λ (x : Entry). cond (not (x.slot == s)) (x ∷ without s (with_order s o es)) (without s (with_order s o es)) in
    elim (eqb_tells e.slot s) [
      | inl t ↦
          ap (λ (b : Bool). By (cond b (renewed e o) e)) t.0
          ∙ ap (λ (b : Bool). cond (not b) (renewed e o ∷ without s (with_order s o es)) (without s (with_order s o es))) t.0
          ∙ more
          ∙ sym (ap (λ (b : Bool). cond (not b) (e ∷ without s es) (without s es)) t.0)
      | inr t ↦
          ap (λ (b : Bool). By (cond b (renewed e o) e)) t.0
          ∙ ap (λ (b : Bool). cond (not b) (e ∷ without s (with_order s o es)) (without s (with_order s o es))) t.0
          ∙ ap (λ (xs : List Entry). e ∷ xs) more
          ∙ sym (ap (λ (b : Bool). cond (not b) (e ∷ without s es) (without s es)) t.0)
    ]

pub changed-same : (s : ℕ) (o : Order) (es : List Entry) → AllDiffer es → HasSlot s es → AreSame (accounts (with_order s o es)) (account o ∷ accounts (without s es))
changed-same s o es d h =
    let now = with_order s o es in
    subst (λ (xs : List Entry). AreSame (accounts now) (account o ∷ accounts xs)) (without-changed s o es)
    (subst (λ (x : Order). AreSame (accounts now) (account x ∷ accounts (without s now))) (order_of-with_order s o es h) (taken-same s now (AllDiffer-with_order s o es d) (HasSlot-with_order s s o es h)))

-- an order that has traded leaves where nothing is open of it, and else stays, maybe in another place
pub settled-gone : (s : ℕ) (o : Order) (es : List Entry) → o.leaves ≡ 0 → settled s o es ≡ without s es
settled-gone s o es h =
    let back : Entry = record { slot = s; order = refreshed o; is_top = false } in
    elim (eqb_tells o.leaves 0) [
      | inl t ↦ ap (λ (b : Bool). cond b (without s es) (cond (o.shown == 0) (placed back (without s es)) (with_order s o es))) t.0
      | inr t ↦ absurd (t.1 h)
    ]

pub settled-same : (s : ℕ) (o : Order) (es : List Entry) → AllDiffer es → HasSlot s es → o.leaves ≢ 0 → AreSame (accounts (settled s o es)) (account o ∷ accounts (without s es))
settled-same s o es d h some =
    let back : Entry = record { slot = s; order = refreshed o; is_top = false } in
    let left = without s es in
    let By = λ (x y : Bool). AreSame (accounts (cond x left (cond y (placed back left) (with_order s o es)))) (account o ∷ accounts left) in
    elim (eqb_tells o.leaves 0) [
      | inl t ↦ absurd (some t.1)
      | inr t ↦ subst (λ (x : Bool). By x (o.shown == 0)) (sym t.0) (elim (o.shown == 0) as (λ y. By false y) [ true ↦ placed-same back left | false ↦ changed-same s o es d h ])
    ]

-- ---- with the orders after them

pub same-front : (xs ys : List Entry) (x : Account) (zs : List Entry) → AreSame (accounts xs) (x ∷ accounts ys) → AreSame (accounts (xs ++ zs)) (x ∷ accounts (ys ++ zs))
same-front xs ys x zs h =
    subst (λ (l : List Account). AreSame l (x ∷ accounts (ys ++ zs))) (sym (accounts-append xs zs))
    (subst (λ (l : List Account). AreSame (accounts xs ++ accounts zs) (x ∷ l)) (sym (accounts-append ys zs)) (IsPermutation-append_left (accounts zs) (accounts xs) (x ∷ accounts ys) h))

pub same-back : (xs ys : List Entry) (x : Account) (zs : List Entry) → AreSame (accounts xs) (x ∷ accounts ys) → AreSame (accounts (zs ++ xs)) (x ∷ accounts (zs ++ ys))
same-back xs ys x zs h =
    subst (λ (l : List Account). AreSame l (x ∷ accounts (zs ++ ys))) (sym (accounts-append zs xs))
    (IsPermutation-trans (accounts zs ++ accounts xs) (accounts zs ++ x ∷ accounts ys) (x ∷ accounts (zs ++ ys)) (IsPermutation-append_right (accounts zs) (accounts xs) (x ∷ accounts ys) h)
    (subst (λ (l : List Account). AreSame (accounts zs ++ x ∷ accounts ys) (x ∷ l)) (sym (accounts-append zs ys)) (IsPermutation-middle (accounts zs) x (accounts ys))))

-- ---- orders whose slots are their numbers

abbrev pub IsByNumber : Entry → Type 0
IsByNumber e = e.slot ≡ e.order.number

numbered-has : (s : ℕ) (es : List Entry) → AllByRecursion IsByNumber es → HasSlot s es → 1 ≤ sum_by (is_of s) (accounts es)
numbered-has s [] n h = absurd h
numbered-has s (e ∷ es) n h = elim h [
  | inl is ↦ elim (eqb_tells e.order.number s) [
    | inl t ↦ (let one : is_of s (account e.order) ≡ 1 = ap (λ (b : Bool). cond b 1 0) t.0 in omega (arith, one, sum_by-cons (is_of s) (account e.order) (accounts es)))
    | inr t ↦ absurd (t.1 (sym n.0 ∙ is))
  ]
  | inr more ↦ omega (arith, numbered-has s es n.1 more, sum_by-cons (is_of s) (account e.order) (accounts es))
]

-- where no number stands twice, no slot does
pub numbered-differ : (es : List Entry) → AllByRecursion IsByNumber es → ((k : ℕ) → sum_by (is_of k) (accounts es) ≤ 1) → AllDiffer es
numbered-differ [] n h = tt
numbered-differ (e ∷ es) n h = (
  (λ has. elim (eqb_tells e.order.number e.slot) [
    | inl t ↦ (let one : is_of e.slot (account e.order) ≡ 1 = ap (λ (b : Bool). cond b 1 0) t.0 in
        absurd (let two : 2 ≤ 1 = omega (arith, one, numbered-has e.slot es n.1 has, sum_by-cons (is_of e.slot) (account e.order) (accounts es), h e.slot) in omega (arith, two)))
    | inr t ↦ absurd (t.1 (sym n.0))
  ]),
  numbered-differ es n.1 (λ k. omega (arith, h k, sum_by-cons (is_of k) (account e.order) (accounts es))),
)

-- what is open of an order, by its number
pub numbered-leaves : (k : ℕ) (es : List Entry) → AllByRecursion IsByNumber es → AllDiffer es → sum_by (leaves_of k) (accounts es) ≡ (order_of k es).leaves
numbered-leaves k [] n d = refl
numbered-leaves k (e ∷ es) n d =
    let a = account e.order in
    let whole = sum_by-cons (leaves_of k) a (accounts es) in
    elim (eqb_tells e.slot k) [
      | inl t ↦
          let own : leaves_of k a ≡ e.order.leaves = ap (λ (m : ℕ). cond (m == k) e.order.leaves 0) (sym n.0) ∙ ap (λ (b : Bool). cond b e.order.leaves 0) t.0 in
          let none : sum_by (leaves_of k) (accounts es) ≡ 0 = numbered-leaves k es n.1 d.1 ∙ ap (λ (o : Order). o.leaves) (gone k es (λ h. d.0 (subst (λ (m : ℕ). HasSlot m es) (sym t.1) h))) in
          omega (arith, whole, own, none, ap (λ (b : Bool). (cond b e.order (order_of k es)).leaves) t.0)
      | inr t ↦
          let own : leaves_of k a ≡ 0 = ap (λ (m : ℕ). cond (m == k) e.order.leaves 0) (sym n.0) ∙ ap (λ (b : Bool). cond b e.order.leaves 0) t.0 in
          omega (arith, whole, own, numbered-leaves k es n.1 d.1, ap (λ (b : Bool). (cond b e.order (order_of k es)).leaves) t.0)
    ]
  where
    gone : (s : ℕ) (xs : List Entry) → (HasSlot s xs → ⊥) → order_of s xs ≡ no_order
    gone s [] h = refl
    gone s (x ∷ xs) h = ap (λ (b : Bool). cond b x.order (order_of s xs)) (lacks s x xs h) ∙ gone s xs (λ m. h (inr m))

-- what is open in total
pub total-leaves : (es : List Entry) → sum_by leaves_in (accounts es) ≡ sum_by (λ (e : Entry). e.order.leaves) es
total-leaves [] = refl
total-leaves (e ∷ es) = omega (arith, sum_by-cons leaves_in (account e.order) (accounts es), sum_by-cons (λ (x : Entry). x.order.leaves) e es, total-leaves es)
