-- Lists in an order: where an entry is put in, and what stays in order. The order is that of a test, `before`.
use Rattle.std.proofs.Common.{◌≡◌, ℕ, ◌<◌, ◌≤◌, Bool, true, false, cond, not, List, [], ◌∷◌, ◌++◌, filter, length, take, drop, refl, sym, ap, subst, ◌∙◌, arith, inl, inr, ◌⊎◌}
use Prim.Native.Nat.{zero, suc}
use Rattle.std.specs.List.{AllByRecursion}
use Rattle.plain_book.specs.declared.entry.Entry.{Entry}
use Rattle.plain_book.specs.Orders.{level_of, is_at_earlier_level, is_of_earlier_instrument, entry_at, HasSlot}
use Rattle.plain_book.specs.Book.{EachPair, AllDiffer}
use Rattle.plain_book.proofs.Pairs.{pairs-insert, all-insert}
use Rattle.book_order.proofs.Before.{before-past, before-apart, nat-past, nat-apart}

-- a test that orders entries
pub record Orders (before : Entry → Entry → Bool) : Type 0 where
  -- what stands before b stands before whatever does not stand before b
  pub past : (a b c : Entry) → before a b ≡ true → before c b ≡ false → before a c ≡ true
  pub apart : (a b : Entry) → before a b ≡ true → before b a ≡ false

pub book-order : Orders is_at_earlier_level
book-order = record {
  past = λ a b c h g. before-past (level_of a.order) (level_of b.order) (level_of c.order) h g;
  apart = λ a b h. before-apart (level_of a.order) (level_of b.order) h;
}

pub line-order : Orders is_of_earlier_instrument
line-order = record {
  past = λ a b c h g. nat-past a.order.instrument b.order.instrument c.order.instrument h g;
  apart = λ a b h. nat-apart a.order.instrument b.order.instrument h;
}

module _ (before : Entry → Entry → Bool) where
  abbrev pub Follows : Entry → Entry → Type 0
  Follows a b = before b a ≡ false

  abbrev pub put : Entry → List Entry → List Entry
  put n es = filter (λ e. not (before n e)) es ++ n ∷ filter (before n) es

  -- n is put in between front and back
  pub record IsPutIn (n : Entry) (es : List Entry) : Type 0 where
    pub front : List Entry
    pub back : List Entry
    pub whole : es ≡ front ++ back
    pub place : put n es ≡ front ++ n ∷ back
    pub ahead : AllByRecursion (λ (x : Entry). before n x ≡ false) front
    pub behind : AllByRecursion (λ (x : Entry). before n x ≡ true) back

  module _ (laws : Orders before) where
    -- what stands after an entry that stands after n
    all-behind : (n e : Entry) (es : List Entry) → before n e ≡ true → AllByRecursion (Follows e) es → AllByRecursion (λ (x : Entry). before n x ≡ true) es
    all-behind n e [] b h = tt
    all-behind n e (x ∷ es) b h = (laws.past n e x b h.0, all-behind n e es b h.1)

    kept-all : (n : Entry) (es : List Entry) → AllByRecursion (λ (x : Entry). before n x ≡ true) es → filter (before n) es ≡ es
    kept-all n [] h = refl
    kept-all n (x ∷ es) h = ap (λ (c : Bool). cond c (x ∷ filter (before n) es) (filter (before n) es)) h.0 ∙ ap (λ (q : List Entry). x ∷ q) (kept-all n es h.1)

    kept-none : (n : Entry) (es : List Entry) → AllByRecursion (λ (x : Entry). before n x ≡ true) es → filter (λ x. not (before n x)) es ≡ []
    kept-none n [] h = refl
    kept-none n (x ∷ es) h = ap (λ (c : Bool). cond (not c) (x ∷ filter (λ x. not (before n x)) es) (filter (λ x. not (before n x)) es)) h.0 ∙ kept-none n es h.1

    abbrev parts : Entry → Entry → List Entry → Bool → List Entry
    parts n e es c =
        cond (not c) (e ∷ filter (λ x. not (before n x)) es) (filter (λ x. not (before n x)) es) ++ n ∷ cond c (e ∷ filter (before n) es) (filter (before n) es)

    at_head : (n e : Entry) (es : List Entry) → before n e ≡ true → AllByRecursion (λ (x : Entry). before n x ≡ true) es → put n (e ∷ es) ≡ n ∷ (e ∷ es)
    at_head n e es b h =
        ap (parts n e es) b
        ∙ ap (λ (q : List Entry). q ++ n ∷ (e ∷ filter (before n) es)) (kept-none n es h)
        ∙ ap (λ (q : List Entry). n ∷ (e ∷ q)) (kept-all n es h)

    -- none of the first i stands after it and the next one does, or there is none: so it is put in at i
    pub put_at : (n : Entry) (es : List Entry) (i : ℕ) → EachPair Follows es → i ≤ length es → ((k : ℕ) → k < i → before n (entry_at es k) ≡ false) → (i < length es → before n (entry_at es i) ≡ true) → put n es ≡ take i es ++ n ∷ drop i es
    put_at n [] zero o le h g = refl
    put_at n [] (suc i) o le h g = absurd (omega arith)
    put_at n (e ∷ es) zero o le h g =
        let b : before n e ≡ true = g (omega arith) in
        at_head n e es b (all-behind n e es b o.0)
    put_at n (e ∷ es) (suc i) o le h g =
        let b : before n e ≡ false = h 0 (omega arith) in
        let l : suc i ≤ suc (length es) = le in
        ap (parts n e es) b
        ∙ ap (λ (q : List Entry). e ∷ q) (put_at n es i o.1 (omega arith) (λ k lt. h (suc k) (omega arith)) (λ lt. g (let m : i < length es = lt in omega arith)))

    pub put-in : (n : Entry) (es : List Entry) → EachPair Follows es → IsPutIn n es
    put-in n [] o = record { front = []; back = []; whole = refl; place = refl; ahead = tt; behind = tt }
    put-in n (e ∷ es) o =
        let go : (c : Bool) → before n e ≡ c → IsPutIn n (e ∷ es) = elim [
          | true ↦ λ b.
              let h = all-behind n e es b o.0 in
              record { front = []; back = e ∷ es; whole = refl; place = at_head n e es b h; ahead = tt; behind = (b, h) }
          | false ↦ λ b.
              let r = put-in n es o.1 in
              record {
                front = e ∷ r.front;
                back = r.back;
                whole = ap (λ (q : List Entry). e ∷ q) r.whole;
                place = ap (parts n e es) b ∙ ap (λ (q : List Entry). e ∷ q) r.place;
                ahead = (b, r.ahead);
                behind = r.behind;
              }
        ] in go (before n e) refl

    apart-all : (n : Entry) (es : List Entry) → AllByRecursion (λ (x : Entry). before n x ≡ true) es → AllByRecursion (Follows n) es
    apart-all n [] h = tt
    apart-all n (x ∷ es) h = (laws.apart n x h.0, apart-all n es h.1)

    pub ordered-put : (n : Entry) (es : List Entry) → EachPair Follows es → EachPair Follows (put n es)
    ordered-put n es o =
        let r = put-in n es o in
        subst (EachPair Follows) (sym r.place) (pairs-insert Follows n r.front r.back (subst (EachPair Follows) r.whole o) r.ahead (apart-all n r.back r.behind))

-- ---- slots of a list into which an entry is put

HasSlot-insert : (s : ℕ) (n : Entry) (xs ys : List Entry) → HasSlot s (xs ++ n ∷ ys) → (n.slot ≡ s) ⊎ HasSlot s (xs ++ ys)
HasSlot-insert s n [] ys h = h
HasSlot-insert s n (x ∷ xs) ys h = elim h [ inl a ↦ inr (inl a) | inr a ↦ elim (HasSlot-insert s n xs ys a) [ inl b ↦ inl b | inr b ↦ inr (inr b) ] ]

AllDiffer-insert : (n : Entry) (xs ys : List Entry) → AllDiffer (xs ++ ys) → (HasSlot n.slot (xs ++ ys) → ⊥) → AllDiffer (xs ++ n ∷ ys)
AllDiffer-insert n [] ys d h = (h, d)
AllDiffer-insert n (x ∷ xs) ys d h =
    ((λ k. elim (HasSlot-insert x.slot n xs ys k) [ inl a ↦ h (inl (sym a)) | inr a ↦ d.0 a ]), AllDiffer-insert n xs ys d.1 (λ k. h (inr k)))

length-insert : (n : Entry) (xs ys : List Entry) → length (xs ++ n ∷ ys) ≡ suc (length (xs ++ ys))
length-insert n [] ys = refl
length-insert n (x ∷ xs) ys = ap suc (length-insert n xs ys)

-- a list with one more entry, somewhere
pub record IsInserted (n : Entry) (es fs : List Entry) : Type 0 where
  pub front : List Entry
  pub back : List Entry
  pub whole : es ≡ front ++ back
  pub is : fs ≡ front ++ n ∷ back

module _ {n : Entry} {es fs : List Entry} (r : IsInserted n es fs) where
  pub inserted-slots : (s : ℕ) → HasSlot s fs → (n.slot ≡ s) ⊎ HasSlot s es
  inserted-slots s h = elim (HasSlot-insert s n r.front r.back (subst (HasSlot s) r.is h)) [ inl a ↦ inl a | inr a ↦ inr (subst (HasSlot s) (sym r.whole) a) ]

  pub inserted-differ : AllDiffer es → (HasSlot n.slot es → ⊥) → AllDiffer fs
  inserted-differ d h = subst AllDiffer (sym r.is) (AllDiffer-insert n r.front r.back (subst AllDiffer r.whole d) (λ k. h (subst (HasSlot n.slot) (sym r.whole) k)))

  pub inserted-length : length fs ≡ suc (length es)
  inserted-length = ap length r.is ∙ length-insert n r.front r.back ∙ ap (λ (q : List Entry). suc (length q)) (sym r.whole)

  pub inserted-all : (P : Entry → Type 0) → AllByRecursion P es → P n → AllByRecursion P fs
  inserted-all P h k = subst (AllByRecursion P) (sym r.is) (all-insert P n r.front r.back (subst (AllByRecursion P) r.whole h) k)

  pub inserted-pairs : (R : Entry → Entry → Type 0) → EachPair R es → AllByRecursion (λ x. R x n) r.front → AllByRecursion (R n) r.back → EachPair R fs
  inserted-pairs R h f b = subst (EachPair R) (sym r.is) (pairs-insert R n r.front r.back (subst (EachPair R) r.whole h) f b)
