-- The orders of the first instruments, in a walk over the instruments one after the other.
use Rattle.std.proofs.Common.{◌≡◌, ℕ, ◌+◌, ◌<◌, Bool, true, false, ◌||◌, List, [], ◌∷◌, ◌++◌, filter, refl, sym, ap, ◌∙◌, inl, inr, arith}
use Rattle.std.specs.Prelude.{nat_lt, ◌==◌}
use Rattle.std.specs.List.{AllByRecursion}
use Rattle.std.proofs.lemmas.Bool.Decides.{nat_tests}
use Rattle.plain_book.specs.declared.entry.Entry.{Entry}
use Rattle.plain_book.specs.Orders.{is_of}
use Rattle.plain_book.specs.Book.{Book, IsRight, EachPair, AreInBookOrder, AreInLine, IsResting, IsWaiting}
use Rattle.plain_book.proofs.Pairs.{all-with, all-from}
use Rattle.book_walks.proofs.SideLevels.{either, pass, stop, filter-all, filter-none}

-- an order of an instrument before this one
abbrev pub is_of_before : ℕ → Entry → Bool
is_of_before instrument e = nat_lt e.order.instrument instrument

before-more : (n i : ℕ) → nat_lt n i ≡ true → nat_lt n (i + 1) ≡ true
before-more n i h = grind (arith, nat_tests)

before-other : (n i : ℕ) → nat_lt n i ≡ true → (n == i) ≡ false
before-other n i h = grind (arith, nat_tests)

here-more : (n i : ℕ) → (n == i) ≡ true → nat_lt n (i + 1) ≡ true
here-more n i h = grind (arith, nat_tests)

past-more : (n i : ℕ) → nat_lt n i ≡ false → (n == i) ≡ false → nat_lt n (i + 1) ≡ false
past-more n i h k = grind (arith, nat_tests)

behind-not : (n m i : ℕ) → nat_lt m i ≡ false → nat_lt n m ≡ false → nat_lt n i ≡ false
behind-not n m i h k = grind (arith, nat_tests)

none-before : (i : ℕ) (e : Entry) (es : List Entry) → nat_lt e.order.instrument i ≡ false → AllByRecursion (AreInLine e) es → filter (is_of_before i) es ≡ []
none-before i e es h k = filter-none (is_of_before i) es (all-with (AreInLine e) (λ (x : Entry). is_of_before i x ≡ false) (λ x l. behind-not x.order.instrument e.order.instrument i h l) es k)

-- one instrument more
pub instrument-next : (i : ℕ) (es : List Entry) → EachPair AreInLine es
    → filter (is_of_before (i + 1)) es ≡ filter (is_of_before i) es ++ filter (is_of i) es
instrument-next i [] o = refl
instrument-next i (e ∷ es) o =
    let n = e.order.instrument in
    let tail = instrument-next i es o.1 in
    elim (either (is_of_before i e)) [
      | inl before ↦
          pass (is_of_before (i + 1)) e es (before-more n i before)
          ∙ ap (λ (q : List Entry). e ∷ q) tail
          ∙ sym (ap (λ (q : List Entry). q ++ filter (is_of i) es) (pass (is_of_before i) e es before))
          ∙ sym (ap (λ (q : List Entry). filter (is_of_before i) (e ∷ es) ++ q) (stop (is_of i) e es (before-other n i before)))
      | inr not_before ↦ elim (either (is_of i e)) [
        | inl here ↦
            let none : filter (is_of_before i) es ≡ [] = none-before i e es not_before o.0 in
            pass (is_of_before (i + 1)) e es (here-more n i here)
            ∙ ap (λ (q : List Entry). e ∷ q) (tail ∙ ap (λ (q : List Entry). q ++ filter (is_of i) es) none)
            ∙ sym (pass (is_of i) e es here)
            ∙ sym (ap (λ (q : List Entry). q ++ filter (is_of i) (e ∷ es)) (stop (is_of_before i) e es not_before ∙ none))
        | inr past ↦
            stop (is_of_before (i + 1)) e es (past-more n i not_before past)
            ∙ tail
            ∙ sym (ap (λ (q : List Entry). q ++ filter (is_of i) es) (stop (is_of_before i) e es not_before))
            ∙ sym (ap (λ (q : List Entry). filter (is_of_before i) (e ∷ es) ++ q) (stop (is_of i) e es past))
      ]
    ]

pub none-below : (n : ℕ) → nat_lt n 0 ≡ false
none-below n = grind (arith, nat_tests)

pub before-none : (es : List Entry) → filter (is_of_before 0) es ≡ []
before-none es = filter-none (is_of_before 0) es (all-from (λ (x : Entry). is_of_before 0 x ≡ false) (λ x. none-below x.order.instrument) es)

pub before-all : (n : ℕ) (es : List Entry) → AllByRecursion (λ (e : Entry). e.order.instrument < n) es → filter (is_of_before n) es ≡ es
before-all n es h = filter-all (is_of_before n) es (all-with (λ (e : Entry). e.order.instrument < n) (λ (x : Entry). is_of_before n x ≡ true) (λ x l. below x.order.instrument n l) es h)
  where
    below : (a b : ℕ) → a < b → nat_lt a b ≡ true
    below a b l = grind (arith, nat_tests)

or-front : (a b : Bool) → (a || b) ≡ false → a ≡ false
or-front a b h = grind arith

pub in-line : (es : List Entry) → EachPair AreInBookOrder es → EachPair AreInLine es
in-line [] o = tt
in-line (e ∷ es) o = (all-with (AreInBookOrder e) (AreInLine e) (λ x h. or-front _ _ h) es o.0, in-line es o.1)

pub all-listed : (b : Book) → IsRight b
    → AllByRecursion (λ (e : Entry). e.order.instrument < b.instruments) b.resting
all-listed b r = all-with (λ (e : Entry). IsResting b.instruments e.order) (λ (e : Entry). e.order.instrument < b.instruments) (λ e h. h.fit.listed) b.resting r.rest

pub all-listed-stops : (b : Book) → IsRight b
    → AllByRecursion (λ (e : Entry). e.order.instrument < b.instruments) b.waiting
all-listed-stops b r = all-with (λ (e : Entry). IsWaiting b.instruments e.order) (λ (e : Entry). e.order.instrument < b.instruments) (λ e h. h.fit.listed) b.waiting r.wait
