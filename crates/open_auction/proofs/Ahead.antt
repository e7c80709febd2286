-- Which opening is ahead of which, and the one that no other is ahead of.
use Rattle.std.proofs.Common.{◌≡◌, ℕ, ◌≤◌, Bool, true, false, cond, ◌&&◌, ◌||◌, List, [], ◌∷◌, Option, Some, refl, sym, ap, subst, ◌∙◌, arith, inl, inr, ◌⊎◌}
use Rattle.std.specs.Prelude.{nat_lt, ◌==◌}
use Rattle.std.specs.List.{AllByRecursion, fold}
use Rattle.std.proofs.lemmas.Bool.Decides.{nat_tests}
use Rattle.gx_base.specs.declared.price.Price.{Price}
use Rattle.gx_base.proofs.Tests.{not-both}
use Rattle.book_walks.proofs.SideLevels.{either}
use Rattle.open_auction.specs.declared.quote.Opening.{Opening}
use Rattle.open_auction.specs.Openings.{is_ahead, chosen, difference, distance}
use Rattle.open_auction.proofs.Prices.{lt-past, lt-irrefl, lt-apart}

-- ---- by one number, and then by the rest

up-past : (a b c : ℕ) (p q r : Bool) → (p ≡ true → q ≡ false → r ≡ true) → (nat_lt a b || ((a == b) && p)) ≡ true → (nat_lt c b || ((c == b) && q)) ≡ false → (nat_lt a c || ((a == c) && r)) ≡ true
up-past a b c p q r k h g = grind (arith, nat_tests, k)

down-past : (a b c : ℕ) (p q r : Bool) → (p ≡ true → q ≡ false → r ≡ true) → (nat_lt b a || ((a == b) && p)) ≡ true → (nat_lt b c || ((c == b) && q)) ≡ false → (nat_lt c a || ((a == c) && r)) ≡ true
down-past a b c p q r k h g = grind (arith, nat_tests, k)

first-off : (a : ℕ) (p : Bool) → p ≡ false → (nat_lt a a || ((a == a) && p)) ≡ false
first-off a p h = grind (arith, nat_tests)

-- one that is ahead of b is ahead of whatever is not ahead of b
pub ahead-past : (last : Option Price) (a b c : Opening) → is_ahead last a b ≡ true → is_ahead last c b ≡ false → is_ahead last a c ≡ true
ahead-past last a b c h k =
    down-past a.volume b.volume c.volume _ _ _
    (up-past (difference a) (difference b) (difference c) _ _ _
    (up-past (distance last a) (distance last b) (distance last c) _ _ _ (lt-past a.price.0 b.price.0 c.price.0)))
    h k

pub ahead-irrefl : (last : Option Price) (a : Opening) → is_ahead last a a ≡ false
ahead-irrefl last a = first-off a.volume _ (first-off (difference a) _ (first-off (distance last a) _ (lt-irrefl a.price.0)))

up-apart : (a b : ℕ) (p q : Bool) → (p ≡ true → q ≡ false) → (nat_lt a b || ((a == b) && p)) ≡ true → (nat_lt b a || ((b == a) && q)) ≡ false
up-apart a b p q k h = grind (arith, nat_tests, k)

down-apart : (a b : ℕ) (p q : Bool) → (p ≡ true → q ≡ false) → (nat_lt b a || ((a == b) && p)) ≡ true → (nat_lt a b || ((b == a) && q)) ≡ false
down-apart a b p q k h = grind (arith, nat_tests, k)

pub ahead-apart : (last : Option Price) (a b : Opening) → is_ahead last a b ≡ true → is_ahead last b a ≡ false
ahead-apart last a b h =
    down-apart a.volume b.volume _ _
    (up-apart (difference a) (difference b) _ _ (up-apart (distance last a) (distance last b) _ _ (lt-apart a.price.0 b.price.0)))
    h

-- where o is not ahead of b, and b not of r, o is not ahead of r
not-then : (last : Option Price) (o b r : Opening) → is_ahead last o b ≡ false → is_ahead last b r ≡ false → is_ahead last o r ≡ false
not-then last o b r h k = elim (either (is_ahead last o r)) [ inl t ↦ not-both (is_ahead last o b) (ahead-past last o r b t k) h | inr f ↦ f ]

-- where o is ahead of b, and not ahead of r, neither is b
ahead-then : (last : Option Price) (o b r : Opening) → is_ahead last o b ≡ true → is_ahead last o r ≡ false → is_ahead last b r ≡ false
ahead-then last o b r h k = elim (either (is_ahead last b r)) [ inl t ↦ not-both (is_ahead last b o) (ahead-past last b r o t k) (ahead-apart last o b h) | inr f ↦ f ]

-- no more is traded at what is not ahead
pub not-ahead-volume : (last : Option Price) (a b : Opening) → is_ahead last a b ≡ false → a.volume ≤ b.volume
not-ahead-volume last a b h = volume-of a.volume b.volume _ h
  where
    volume-of : (m n : ℕ) (p : Bool) → (nat_lt n m || ((m == n) && p)) ≡ false → m ≤ n
    volume-of m n p h = grind (arith, nat_tests)

-- ---- the best of some

-- none of these is ahead of it
abbrev pub NoneAhead : Option Price → List Opening → Opening → Type 0
NoneAhead last os r = AllByRecursion (λ (o : Opening). is_ahead last o r ≡ false) os

-- it is one of these
abbrev pub IsOneOf : List Opening → Opening → Type 0
IsOneOf [] r = ⊥
IsOneOf (o ∷ os) r = (o ≡ r) ⊎ IsOneOf os r

-- the best of one and some more: it is one of them, and none of them is ahead of it
pub record IsBest (last : Option Price) (best : Opening) (os : List Opening) (r : Opening) : Type 0 where
  pub one : IsOneOf (best ∷ os) r
  pub here : is_ahead last best r ≡ false
  pub none : NoneAhead last os r

abbrev best-of : Option Price → Opening → List Opening → Option Opening
best-of last best os = fold (chosen last) (Some best) os

pub best-is : (last : Option Price) (best : Opening) (os : List Opening) (r : Opening) → fold (chosen last) (Some best) os ≡ Some r → IsBest last best os r
best-is last best [] r h =
    let same : best ≡ r = cc in
    record { one = inl same; here = subst (λ (x : Opening). is_ahead last best x ≡ false) same (ahead-irrefl last best); none = tt }
best-is last best (o ∷ os) r h =
    let F = λ (b : Bool). fold (chosen last) (cond b (Some o) (Some best)) os in
    elim (either (is_ahead last o best)) [
      | inl ahead ↦
          let rest : IsBest last o os r = best-is last o os r (sym (ap F ahead) ∙ h) in
          record { one = inr rest.one; here = ahead-then last o best r ahead rest.here; none = (rest.here, rest.none) }
      | inr behind ↦
          let rest : IsBest last best os r = best-is last best os r (sym (ap F behind) ∙ h) in
          record {
            one = elim rest.one [ inl x ↦ inl x | inr x ↦ inr (inr x) ];
            here = rest.here;
            none = (not-then last o best r behind rest.here, rest.none);
          }
    ]

-- there is a best of some
pub best-some : (last : Option Price) (best : Opening) (os : List Opening) → (r : Opening) × (fold (chosen last) (Some best) os ≡ Some r)
best-some last best [] = (best, refl)
best-some last best (o ∷ os) = elim (is_ahead last o best) as (λ (b : Bool). (r : Opening) × (fold (chosen last) (cond b (Some o) (Some best)) os ≡ Some r)) [ true ↦ best-some last o os | false ↦ best-some last best os ]
