-- The queues of the stops, one for each instrument, one after the other.
use Rattle.std.proofs.Common.{◌≡◌, ◌≢◌, ℕ, ◌+◌, ◌<◌, ◌≤◌, Bool, true, false, List, [], ◌∷◌, ◌++◌, refl, sym, ap, subst, ◌∙◌, arith, inl, inr, append_assoc}
use Prim.Native.Nat.{zero, suc}
use Rattle.std.proofs.lemmas.List.Elements.{filter-append}
use Rattle.std.proofs.lemmas.Bool.Decides.{eqb_tells, nat_tests}
use Rattle.std.specs.Prelude.{nat_lt}
use Rattle.std.specs.List.{AllByRecursion, range_with_len}
use Rattle.plain_book.specs.declared.entry.Entry.{Entry}
use Rattle.plain_book.specs.Orders.{HasSlot, order_of, is_of, stops_of, is_of_earlier_instrument, lined_up}
use Rattle.plain_book.specs.Book.{AllDiffer}
use Rattle.plain_book.proofs.Levels.{HasSlot-left, HasSlot-right, HasSlot-either, order_of-left, order_of-right, slots-apart, AllDiffer-back}
use Rattle.plain_book.proofs.Pairs.{all-with, all-append}
use Rattle.book_side.specs.Inner.Flat.{flat}
use Rattle.book_side.proofs.Flat.{put-front, put-back}
use Rattle.book_side.proofs.Looks.{passes}

-- ---- one order, by its slot

-- an order stands in one of these queues
pub record IsAmong (s : ℕ) (E : ℕ → List Entry) (a n : ℕ) : Type 0 where
  pub queue : ℕ
  pub low : a ≤ queue
  pub high : queue < a + n
  pub has : HasSlot s (E queue)

module _ (s : ℕ) (E : ℕ → List Entry) where
  pub range-had : (a n : ℕ) → HasSlot s (flat E (range_with_len a n)) → IsAmong s E a n
  range-had a zero h = absurd h
  range-had a (suc n) h = elim (HasSlot-either s (E a) (flat E (range_with_len (a + 1) n)) h) [
    | inl e ↦ record { queue = a; low = omega arith; high = omega arith; has = e }
    | inr e ↦
        let k = range-had (a + 1) n e in
        let low : a + 1 ≤ k.queue = k.low in
        let high : k.queue < a + 1 + n = k.high in
        record { queue = k.queue; low = omega arith; high = omega arith; has = k.has }
  ]

  pub range-has : (q a n : ℕ) → a ≤ q → q < a + n → HasSlot s (E q) → HasSlot s (flat E (range_with_len a n))
  range-has q a zero low high h = absurd (omega arith)
  range-has q a (suc n) low high h = elim (eqb_tells q a) [
    | inl t ↦ HasSlot-left s (E a) (flat E (range_with_len (a + 1) n)) (subst (λ (p : ℕ). HasSlot s (E p)) t.1 h)
    | inr t ↦ let ne : q ≢ a = t.1 in HasSlot-right s (E a) (flat E (range_with_len (a + 1) n)) (range-has q (a + 1) n (omega arith) (omega arith) h)
  ]

  pub range-order : (q a n : ℕ) → a ≤ q → q < a + n → HasSlot s (E q) → AllDiffer (flat E (range_with_len a n)) → order_of s (flat E (range_with_len a n)) ≡ order_of s (E q)
  range-order q a zero low high h d = absurd (omega arith)
  range-order q a (suc n) low high h d =
      let F = flat E (range_with_len (a + 1) n) in
      elim (eqb_tells q a) [
        | inl t ↦ order_of-left s (E a) F (subst (λ (p : ℕ). HasSlot s (E p)) t.1 h) ∙ ap (λ (p : ℕ). order_of s (E p)) (sym t.1)
        | inr t ↦
            let ne : q ≢ a = t.1 in
            let later : HasSlot s F = range-has q (a + 1) n (omega arith) (omega arith) h in
            order_of-right s (E a) F (λ l. slots-apart s (E a) F d l later) ∙ range-order q (a + 1) n (omega arith) (omega arith) h (AllDiffer-back (E a) F d)
      ]

-- ---- the stops of an instrument

-- the orders of a queue are of its instrument
abbrev pub AreOf : (ℕ → List Entry) → ℕ → ℕ → Type 0
AreOf E c q = AllByRecursion (λ (e : Entry). c + e.order.instrument ≡ q) (E q)

is-of : (c i q : ℕ) (e : Entry) → c + e.order.instrument ≡ q → q ≡ c + i → is_of i e ≡ true
is-of c i q e h g = elim (eqb_tells e.order.instrument i) [ inl t ↦ t.0 | inr t ↦ absurd (let ne : e.order.instrument ≢ i = t.1 in omega arith) ]

not-of : (c i q : ℕ) (e : Entry) → c + e.order.instrument ≡ q → q ≢ c + i → is_of i e ≡ false
not-of c i q e h g = elim (eqb_tells e.order.instrument i) [ inl t ↦ absurd (let is : e.order.instrument ≡ i = t.1 in omega arith) | inr t ↦ t.0 ]

module _ (E : ℕ → List Entry) (c i : ℕ) where
  all-of : (q : ℕ) → q ≡ c + i → AreOf E c q → AllByRecursion (λ (e : Entry). is_of i e ≡ true) (E q)
  all-of q g h = all-with (λ (e : Entry). c + e.order.instrument ≡ q) (λ (e : Entry). is_of i e ≡ true) (λ e k. is-of c i q e k g) (E q) h

  none-of : (q : ℕ) → q ≢ c + i → AreOf E c q → AllByRecursion (λ (e : Entry). is_of i e ≡ false) (E q)
  none-of q g h = all-with (λ (e : Entry). c + e.order.instrument ≡ q) (λ (e : Entry). is_of i e ≡ false) (λ e k. not-of c i q e k g) (E q) h

  none-later : (a n : ℕ) → ((q : ℕ) → a ≤ q → q < a + n → AreOf E c q) → c + i < a → stops_of i (flat E (range_with_len a n)) ≡ []
  none-later a zero h lt = refl
  none-later a (suc n) h lt =
      let F = flat E (range_with_len (a + 1) n) in
      filter-append (is_of i) (E a) F
      ∙ ap (λ (l : List Entry). l ++ stops_of i F) (passes (is_of i) false (E a) (none-of a (omega arith) (h a (omega arith) (omega arith))))
      ∙ none-later (a + 1) n (λ q low high. h q (omega arith) (omega arith)) (omega arith)

  -- they are those of its queue
  pub stops-at : (a n : ℕ) → ((q : ℕ) → a ≤ q → q < a + n → AreOf E c q) → a ≤ c + i → c + i < a + n → stops_of i (flat E (range_with_len a n)) ≡ E (c + i)
  stops-at a zero h low high = absurd (omega arith)
  stops-at a (suc n) h low high =
      let F = flat E (range_with_len (a + 1) n) in
      let here = h a (omega arith) (omega arith) in
      let rest = λ (q : ℕ) (l : a + 1 ≤ q) (u : q < a + 1 + n). h q (omega arith) (omega arith) in
      filter-append (is_of i) (E a) F
      ∙ elim (eqb_tells a (c + i)) [
        | inl t ↦
            let is : a ≡ c + i = t.1 in
            ap (λ (l : List Entry). l ++ stops_of i F) (passes (is_of i) true (E a) (all-of a is here))
            ∙ ap (λ (l : List Entry). E a ++ l) (none-later (a + 1) n rest (omega arith))
            ∙ append-nil (E a) ∙ ap E is
        | inr t ↦
            let ne : a ≢ c + i = t.1 in
            ap (λ (l : List Entry). l ++ stops_of i F) (passes (is_of i) false (E a) (none-of a ne here))
            ∙ stops-at (a + 1) n rest (omega arith) (omega arith)
      ]
    where
      append-nil : (xs : List Entry) → xs ++ [] ≡ xs
      append-nil [] = refl
      append-nil (x ∷ xs) = ap (λ (l : List Entry). x ∷ l) (append-nil xs)

-- ---- a stop comes

stands : (c i : ℕ) (x e : Entry) (q : ℕ) → x.order.instrument ≡ i → c + e.order.instrument ≡ q → (b : Bool) → nat_lt (c + i) q ≡ b → is_of_earlier_instrument x e ≡ b
stands c i x e q xi h b t = grind (arith, nat_tests)

module _ (E E' : ℕ → List Entry) (c i : ℕ) (x : Entry) (mine : x.order.instrument ≡ i) (here : E' (c + i) ≡ E (c + i) ++ x ∷ []) (there : (q : ℕ) → q ≢ c + i → E' q ≡ E q) where
  all-stand : (b : Bool) (q : ℕ) → nat_lt (c + i) q ≡ b → AreOf E c q → AllByRecursion (λ (e : Entry). is_of_earlier_instrument x e ≡ b) (E q)
  all-stand b q t h = all-with (λ (e : Entry). c + e.order.instrument ≡ q) (λ (e : Entry). is_of_earlier_instrument x e ≡ b) (λ e k. stands c i x e q mine k b t) (E q) h

  behind : (a n : ℕ) → ((q : ℕ) → a ≤ q → q < a + n → AreOf E c q) → c + i < a → AllByRecursion (λ (e : Entry). is_of_earlier_instrument x e ≡ true) (flat E (range_with_len a n))
  behind a zero h lt = tt
  behind a (suc n) h lt =
      all-append (λ (e : Entry). is_of_earlier_instrument x e ≡ true) (E a) (flat E (range_with_len (a + 1) n))
      (all-stand true a (grind (arith, nat_tests)) (h a (omega arith) (omega arith)))
      (behind (a + 1) n (λ q low high. h q (omega arith) (omega arith)) (omega arith))

  same-later : (a n : ℕ) → c + i < a → flat E (range_with_len a n) ≡ flat E' (range_with_len a n)
  same-later a zero lt = refl
  same-later a (suc n) lt =
      ap (λ (l : List Entry). l ++ flat E (range_with_len (a + 1) n)) (sym (there a (omega arith))) ∙ ap (λ (l : List Entry). E' a ++ l) (same-later (a + 1) n (omega arith))

  -- at the end of its queue it is after the stops of its instrument, and of those before it
  pub stops-lined : (a n : ℕ) → ((q : ℕ) → a ≤ q → q < a + n → AreOf E c q) → a ≤ c + i → c + i < a + n → lined_up x (flat E (range_with_len a n)) ≡ flat E' (range_with_len a n)
  stops-lined a zero h low high = absurd (omega arith)
  stops-lined a (suc n) h low high =
      let p = is_of_earlier_instrument x in
      let F = flat E (range_with_len (a + 1) n) in
      let rest = λ (q : ℕ) (l : a + 1 ≤ q) (u : q < a + 1 + n). h q (omega arith) (omega arith) in
      put-front p x (E a) F (all-stand false a (grind (arith, nat_tests)) (h a (omega arith) (omega arith)))
      ∙ elim (eqb_tells a (c + i)) [
        | inl t ↦
            let is : a ≡ c + i = t.1 in
            ap (λ (l : List Entry). E a ++ l) (put-back p x F (behind (a + 1) n rest (omega arith)))
            ∙ sym (append_assoc (E a) (x ∷ []) F)
            ∙ ap (λ (l : List Entry). l ++ F) (ap (λ (q : ℕ). E q ++ x ∷ []) is ∙ sym here ∙ ap E' (sym is))
            ∙ ap (λ (l : List Entry). E' a ++ l) (same-later (a + 1) n (omega arith))
        | inr t ↦
            let ne : a ≢ c + i = t.1 in
            ap (λ (l : List Entry). E a ++ l) (stops-lined (a + 1) n rest (omega arith) (omega arith))
            ∙ ap (λ (l : List Entry). l ++ flat E' (range_with_len (a + 1) n)) (sym (there a ne))
      ]
