-- What the last order and the best buy order tell of all that were before.
use Rattle.std.proofs.Common.{◌≡◌, ℕ, Bool, true, false, not, cond, ◌&&◌, ◌||◌, List, [], ◌∷◌, ◌++◌, Option, Some, None, refl, ap, sym, ◌∙◌, arith}
use Rattle.std.specs.Prelude.{ℤ, ◌==◌, nat_lt, nat_le, int_le, int_lt, pos, negsuc}
use Rattle.std.specs.List.{list_any}
use Rattle.std.proofs.lemmas.List.Folds.{list_any-append, list_all-append}
use Rattle.std.proofs.lemmas.Bool.Decides.{nat_tests}
use Rattle.gx_base.specs.declared.order.Side.{Side}
use Rattle.gx_base.specs.declared.order.Side.TheVariants.{Buy, Sell}
use Rattle.gx_base.specs.declared.order.Order.{Order}
use Rattle.book_order.specs.Levels.{Level, is_before, is_side, side_before, is_better}
use Rattle.book_order.proofs.Before.{before-past}
use Rattle.book_order.proofs.Levels.{is_before-irrefl, and-left, and-right}
use Rattle.plain_book.specs.Orders.{level_of}
use Rattle.book_image.specs.declared.check_rows.Front.{Front}
use Rattle.book_image.specs.Rules.{crosses, is_in_book_order, is_uncrossed, is_in_line}
use Rattle.book_image.specs.Inner.Checking.{is_behind, is_clear_of, is_of_instrument, front_with, fits_behind, IsBestOf, IsFrontOf}

-- ---- the last order

-- what does not stand before x does not stand before what x is not before
back-past : (a b c : Level) → is_before b a ≡ false → is_before c b ≡ false → is_before c a ≡ false
back-past a b c h g =
    let go : (w : Bool) → is_before c a ≡ w → w ≡ false = elim [
      | true ↦ λ e. let k : is_before c b ≡ true = before-past c a b e h in cc
      | false ↦ λ e. refl
    ] in go (is_before c a) refl

back-of-not : (a b : Level) → not (is_before a b) ≡ true → is_before a b ≡ false
back-of-not a b h = grind (arith)

-- what is after the new last order is after the old one
behind-past : (last : Option Order) (x o : Order) → is_behind last x ≡ true → is_behind (Some x) o ≡ true → is_behind last o ≡ true
behind-past None x o h g = refl
behind-past (Some l) x o h g =
    ap not (back-past (level_of l) (level_of x) (level_of o) (back-of-not (level_of x) (level_of l) h) (back-of-not (level_of o) (level_of x) g))

and-one : (b : Bool) → (b && true) ≡ b
and-one true = refl
and-one false = refl

and-under : (a b : Bool) → (b ≡ true → a ≡ true) → (a && b) ≡ b
and-under true b h = refl
and-under false true h = h refl
and-under false false h = refl

behind-next : (last : Option Order) (x o : Order) (orders : List Order) → is_in_book_order o orders ≡ is_behind last o
    → is_behind last x ≡ true → is_in_book_order o (orders ++ x ∷ []) ≡ is_behind (Some x) o
behind-next last x o orders h f =
    let p : Order → Bool = λ b. not (is_before (level_of o) (level_of b)) in
    list_all-append p orders (x ∷ [])
    ∙ ap (λ (b : Bool). b && (p x && true)) h
    ∙ ap (λ (b : Bool). is_behind last o && b) (and-one (p x))
    ∙ and-under (is_behind last o) (p x) (behind-past last x o f)

-- ---- the best buy order

not-or : (a b : Bool) → not (a || b) ≡ (not a && not b)
not-or true b = refl
not-or false b = refl

or-none : (b : Bool) → (b || false) ≡ b
or-none true = refl
or-none false = refl

uncrossed-append : (o x : Order) (orders : List Order) → is_uncrossed o (orders ++ x ∷ []) ≡ (is_uncrossed o orders && not (crosses o x))
uncrossed-append o x orders =
    ap not (list_any-append (crosses o) orders (x ∷ []))
    ∙ not-or (list_any (crosses o) orders) (crosses o x || false)
    ∙ ap (λ (b : Bool). is_uncrossed o orders && not b) (or-none (crosses o x))

second-false : (a b c d : Bool) → b ≡ false → (a && b && c && d) ≡ false
second-false true false c d h = refl
second-false true true c d h = cc
second-false false b c d h = refl

-- a sell crosses nothing that comes after it
sell-clear : (o x : Order) → is_side x.side Buy ≡ false → crosses o x ≡ false
sell-clear o x h = second-false (x.instrument == o.instrument) (is_side x.side Buy) (is_side o.side Sell) (int_le o.price.0 x.price.0) h

first-false : (a b c d : Bool) → a ≡ false → (a && b && c && d) ≡ false
first-false false b c d h = refl
first-false true b c d h = cc

or-left : (a b : Bool) → (a || b) ≡ false → a ≡ false
or-left false b h = refl
or-left true b h = cc

later : (a b c : ℕ) → nat_lt b a ≡ false → (a == b) ≡ false → nat_lt c b ≡ false → (a == c) ≡ false
later a b c h g f = grind (arith, nat_tests)

-- a buy order of an earlier instrument crosses nothing after a later one
other-clear : (o x best : Order) → is_before (level_of x) (level_of best) ≡ false → (best.instrument == x.instrument) ≡ false
    → is_before (level_of o) (level_of x) ≡ false → crosses o best ≡ false
other-clear o x best h g f =
    first-false (best.instrument == o.instrument) (is_side best.side Buy) (is_side o.side Sell) (int_le o.price.0 best.price.0)
    (later best.instrument x.instrument o.instrument (or-left (nat_lt x.instrument best.instrument) _ h) g (or-left (nat_lt o.instrument x.instrument) _ f))

nat-le-past : (a b c : ℕ) → nat_le a b ≡ true → nat_lt c b ≡ false → nat_le a c ≡ true
nat-le-past a b c h g = grind (arith, nat_tests)

nat-le-back : (a b c : ℕ) → nat_le b a ≡ true → nat_lt b c ≡ false → nat_le c a ≡ true
nat-le-back a b c h g = grind (arith, nat_tests)

int-le-past : (a b c : ℤ) → int_le a b ≡ true → int_lt c b ≡ false → int_le a c ≡ true
int-le-past (pos a) (pos b) (pos c) h g = nat-le-past a b c h g
int-le-past (pos a) (pos b) (negsuc c) h g = cc
int-le-past (pos a) (negsuc b) c h g = cc
int-le-past (negsuc a) (pos b) (pos c) h g = refl
int-le-past (negsuc a) (pos b) (negsuc c) h g = cc
int-le-past (negsuc a) (negsuc b) (pos c) h g = refl
int-le-past (negsuc a) (negsuc b) (negsuc c) h g = nat-le-back a b c h g

-- of one instrument and side, the later one has no better price
same-level : (a b : ℕ) (d e : Side) (p q : ℤ) → (b == a) ≡ true → is_side d Buy ≡ true → is_side e Buy ≡ true
    → (nat_lt a b || ((a == b) && (side_before d e || (is_side d e && is_better d p q)))) ≡ false → int_lt q p ≡ false
same-level a b Buy Buy p q i s t h = grind (arith, nat_tests)
same-level a b Sell e p q i s t h = cc
same-level a b Buy Sell p q i s t h = cc

third-false : (a b d : Bool) → (a && b && false && d) ≡ false
third-false true true d = refl
third-false true false d = refl
third-false false b d = refl

all-four : (a b d : Bool) → a ≡ true → b ≡ true → d ≡ true → (a && b && true && d) ≡ true
all-four true true true h g f = refl
all-four false b d h g f = cc
all-four true false d h g f = cc
all-four true true false h g f = cc

same-as : (a b c : ℕ) → (b == a) ≡ true → (a == c) ≡ true → (b == c) ≡ true
same-as a b c h g = grind (arith, nat_tests)

price-past : (a b c : ℕ) (x best side : Side) (p q r : ℤ) → (b == a) ≡ true → is_side best Buy ≡ true → int_lt q p ≡ false
    → ((a == c) && is_side x Buy && is_side side Sell && int_le r p) ≡ true
    → ((b == c) && is_side best Buy && is_side side Sell && int_le r q) ≡ true
price-past a b c x best Buy p q r i s l h = absurd (let f : false ≡ true = sym (third-false (a == c) (is_side x Buy) (int_le r p)) ∙ h in let g : ⊥ = cc in g)
price-past a b c x best Sell p q r i s l h = all-four _ _ _ (same-as a b c i (and-left _ _ (and-left _ _ (and-left _ _ h)))) s (int-le-past r p q (and-right _ _ h) l)

-- what a buy order after the best one of its instrument crosses, that one does
best-clear : (o x best : Order) → is_side best.side Buy ≡ true → is_side x.side Buy ≡ true → (best.instrument == x.instrument) ≡ true
    → is_before (level_of x) (level_of best) ≡ false → crosses o x ≡ true → crosses o best ≡ true
best-clear o x best b s i h f =
    price-past x.instrument best.instrument o.instrument x.side best.side o.side x.price.0 best.price.0 o.price.0 i b
    (same-level x.instrument best.instrument x.side best.side x.price.0 best.price.0 i s b h) f

and-implied : (a b : Bool) → (b ≡ true → a ≡ true) → (not a && not b) ≡ not a
and-implied true b h = refl
and-implied false true h = let e : false ≡ true = h refl in cc
and-implied false false h = refl

is_not-before : (o : Order) (x : Order) → is_behind (Some x) o ≡ true → is_before (level_of o) (level_of x) ≡ false
is_not-before o x h = back-of-not (level_of o) (level_of x) h

-- the last order is not before the best one, nor is one after it
best-behind : (last : Option Order) (best x : Order) → IsBestOf last (Some best) → is_behind last x ≡ true
    → is_before (level_of x) (level_of best) ≡ false
best-behind None best x k h = absurd k
best-behind (Some l) best x k h = back-past (level_of best) (level_of l) (level_of x) k.1 (is_not-before x l h)

best-buys : (last : Option Order) (best : Order) → IsBestOf last (Some best) → is_side best.side Buy ≡ true
best-buys None best k = absurd k
best-buys (Some l) best k = k.0

-- with the best order of before, if there is one, and whether the new one buys
clear-by : (last best : Option Order) (x o : Order) (buys known : Bool) → is_side x.side Buy ≡ buys → is_of_instrument x.instrument best ≡ known
    → IsBestOf last best → is_behind last x ≡ true → is_behind (Some x) o ≡ true
    → (is_clear_of best o && not (crosses o x)) ≡ is_clear_of (cond (buys && not known) (Some x) best) o
clear-by last best x o false known s i k h g = ap (λ (b : Bool). is_clear_of best o && not b) (sell-clear o x s) ∙ and-one (is_clear_of best o)
clear-by last None x o true false s i k h g = refl
clear-by last None x o true true s i k h g = cc
clear-by last (Some best) x o true false s i k h g =
    ap (λ (b : Bool). not b && not (crosses o x)) (other-clear o x best (best-behind last best x k h) i (is_not-before o x g))
clear-by last (Some best) x o true true s i k h g =
    and-implied (crosses o best) (crosses o x) (best-clear o x best (best-buys last best k) s i (best-behind last best x k h))

best-by : (last best : Option Order) (x : Order) (buys known : Bool) → is_side x.side Buy ≡ buys → IsBestOf last best → is_behind last x ≡ true
    → IsBestOf (Some x) (cond (buys && not known) (Some x) best)
best-by last best x true false s k h = (s, is_before-irrefl (level_of x))
best-by last None x true true s k h = tt
best-by last None x false known s k h = tt
best-by last (Some best) x true true s k h = (best-buys last best k, best-behind last best x k h)
best-by last (Some best) x false known s k h = (best-buys last best k, best-behind last best x k h)

-- ---- both

pub front-next : (front : Front) (x : Order) (orders : List Order) → IsFrontOf orders front → fits_behind front x ≡ true
    → IsFrontOf (orders ++ x ∷ []) (front_with front x)
front-next front x orders k h =
    let f : is_behind front.last x ≡ true = and-left (is_behind front.last x) (is_clear_of front.best_buy x) h in
    record {
      behind = λ o. behind-next front.last x o orders (k.behind o) f;
      clear = λ o g.
          uncrossed-append o x orders
          ∙ ap (λ (b : Bool). b && not (crosses o x)) (k.clear o (behind-past front.last x o f g))
          ∙ clear-by front.last front.best_buy x o (is_side x.side Buy) (is_of_instrument x.instrument front.best_buy) refl refl k.best f g;
      best = best-by front.last front.best_buy x (is_side x.side Buy) (is_of_instrument x.instrument front.best_buy) refl k.best f;
    }

-- whether a row fits, by the front
pub front-tells : (front : Front) (x : Order) (orders : List Order) → IsFrontOf orders front
    → fits_behind front x ≡ (is_in_book_order x orders && is_uncrossed x orders)
front-tells front x orders k =
    let go : (b : Bool) → is_behind front.last x ≡ b → (b && is_clear_of front.best_buy x) ≡ (b && is_uncrossed x orders) = elim [
      | true ↦ λ e. sym (k.clear x e)
      | false ↦ λ e. refl
    ] in go (is_behind front.last x) refl ∙ ap (λ (b : Bool). b && is_uncrossed x orders) (sym (k.behind x))

-- ---- waiting stops

nat_le-past : (a b c : ℕ) → nat_le a b ≡ true → nat_le b c ≡ true → nat_le a c ≡ true
nat_le-past a b c h g = grind (arith, nat_tests)

nat_le-under : (a b c : ℕ) → nat_le a b ≡ true → (nat_le a c && nat_le b c) ≡ nat_le b c
nat_le-under a b c h = and-under (nat_le a c) (nat_le b c) (λ (g : nat_le b c ≡ true). nat_le-past a b c h g)

-- the last instrument tells of each order whether it may come after these
pub line-next : (last : ℕ) (x : Order) (orders : List Order) → ((o : Order) → is_in_line o orders ≡ nat_le last o.instrument)
    → nat_le last x.instrument ≡ true
    → (o : Order) → is_in_line o (orders ++ x ∷ []) ≡ nat_le x.instrument o.instrument
line-next last x orders k h o =
    list_all-append (λ (b : Order). nat_le b.instrument o.instrument) orders (x ∷ [])
    ∙ ap (λ (b : Bool). b && (nat_le x.instrument o.instrument && true)) (k o)
    ∙ ap (λ (b : Bool). nat_le last o.instrument && b) (and-one (nat_le x.instrument o.instrument))
    ∙ nat_le-under last x.instrument o.instrument h
