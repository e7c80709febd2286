-- The orders of a side as a chain of slots: the first of the best price, and after each order the next of its price, or else the
-- first of the next price.
use Rattle.std.proofs.Common.{◌≡◌, ℕ, Bool, true, false, cond, not, List, [], ◌∷◌, ◌++◌, filter, Option, Some, None, refl, sym, ap, ap₂, subst, ◌∙◌, inl, inr, ◌⊎◌}
use Rattle.std.specs.Prelude.{ℤ, ◌==◌}
use Rattle.std.specs.List.{AllByRecursion}
use Rattle.std.proofs.lemmas.Bool.Decides.{eqb_tells}
use Rattle.gx_base.specs.declared.price.Price.{Price}
use Rattle.gx_base.specs.declared.order.Side.{Side}
use Rattle.gx_base.specs.declared.order.Order.{Order}
use Rattle.gx_base.proofs.Tests.{not-both}
use Rattle.book_order.proofs.Before.{better-past}
use Rattle.plain_book.specs.declared.entry.Entry.{Entry}
use Rattle.plain_book.specs.Orders.{level, level_of, is_on, is_at, is_better, HasSlot, order_of, slot_of, slot_after, side_of, orders_at, price_of, best_of, worse_of}
use Rattle.plain_book.specs.Book.{AllDiffer, EachPair, AreInBookOrder}
use Rattle.plain_book.proofs.Levels.{AllDiffer-filter, HasSlot-left, slots-apart, is_better-irrefl, is_level-refl}
use Rattle.plain_book.proofs.Pairs.{all-with}
use Rattle.book_walks.proofs.SideLevels.{either, InPriceOrder, side-in-order, is_worse, not_better, pass, stop, filter-all, filter-none, level-first, level-of-side, ToComeFrom, prices-first, prices-level, prices-next, first-worse}

-- ---- one slot in a list of two parts

slot-in-first : (s : ℕ) (e : Entry) (es : List Entry) → HasSlot s (e ∷ es) → (e.slot == s) ≡ false → HasSlot s es
slot-in-first s e es h apart = elim h [
  | inl is ↦ elim (eqb_tells e.slot s) [ inl t ↦ absurd (not-both (e.slot == s) t.0 apart) | inr t ↦ absurd (t.1 is) ]
  | inr m ↦ m
]

-- the slot after the last of some is the first of the others
abbrev behind-part : Option ℕ → List Entry → Option ℕ
behind-part None ys = slot_of ys
behind-part (Some t) ys = Some t

slot-of-part : (xs ys : List Entry) → slot_of (xs ++ ys) ≡ behind-part (slot_of xs) ys
slot-of-part [] ys = refl
slot-of-part (x ∷ xs) ys = refl

after-first : (s : ℕ) (xs ys : List Entry) → HasSlot s xs → slot_after s (xs ++ ys) ≡ behind-part (slot_after s xs) ys
after-first s [] ys h = absurd h
after-first s (x ∷ xs) ys h = elim (either (x.slot == s)) [
  | inl is ↦
      ap (λ (b : Bool). cond b (slot_of (xs ++ ys)) (slot_after s (xs ++ ys))) is ∙ slot-of-part xs ys
      ∙ sym (ap (λ (b : Bool). behind-part (cond b (slot_of xs) (slot_after s xs)) ys) is)
  | inr apart ↦
      ap (λ (b : Bool). cond b (slot_of (xs ++ ys)) (slot_after s (xs ++ ys))) apart ∙ after-first s xs ys (slot-in-first s x xs h apart)
      ∙ sym (ap (λ (b : Bool). behind-part (cond b (slot_of xs) (slot_after s xs)) ys) apart)
]

after-second : (s : ℕ) (xs ys : List Entry) → (HasSlot s xs → ⊥) → slot_after s (xs ++ ys) ≡ slot_after s ys
after-second s [] ys none = refl
after-second s (x ∷ xs) ys none =
    let apart : (x.slot == s) ≡ false = elim (eqb_tells x.slot s) [ inl t ↦ absurd (none (inl t.1)) | inr t ↦ t.0 ] in
    ap (λ (b : Bool). cond b (slot_of (xs ++ ys)) (slot_after s (xs ++ ys))) apart ∙ after-second s xs ys (λ h. none (inr h))

-- ---- the better orders, and the others

abbrev better : Side → ℤ → Entry → Bool
better s p e = is_better s e.order.price.0 p

-- after an order that is not better than p
behind-others : (s : Side) (p : ℤ) (e : Entry) (es : List Entry) → better s p e ≡ false → AllByRecursion (InPriceOrder s e) es → AllByRecursion (λ (x : Entry). better s p x ≡ false) es
behind-others s p e [] h k = tt
behind-others s p e (x ∷ es) h k = (
  elim (either (better s p x)) [
    | inl t ↦ not-both (is_better s x.order.price.0 e.order.price.0) (better-past s x.order.price.0 p e.order.price.0 t h) k.0
    | inr f ↦ f
  ],
  behind-others s p e es h k.1,
)

abbrev both : List Entry → List Entry → List Entry
both xs ys = xs ++ ys

split-at : (s : Side) (p : ℤ) (es : List Entry) → EachPair (InPriceOrder s) es → es ≡ filter (better s p) es ++ filter (not_better s p) es
split-at s p [] o = refl
split-at s p (e ∷ es) o =
    let go : (better s p e ≡ true) ⊎ (better s p e ≡ false) → e ∷ es ≡ filter (better s p) (e ∷ es) ++ filter (not_better s p) (e ∷ es) = elim [
      | inl t ↦
          ap (λ (l : List Entry). e ∷ l) (split-at s p es o.1)
          ∙ sym (ap₂ both (pass (better s p) e es t) (stop (not_better s p) e es (ap not t)))
      | inr f ↦
          let none = behind-others s p e es f o.0 in
          sym (ap₂ both (stop (better s p) e es f ∙ filter-none (better s p) es none)
          (pass (not_better s p) e es (ap not f) ∙ ap (λ (l : List Entry). e ∷ l) (filter-all (not_better s p) es (all-with (λ (x : Entry). better s p x ≡ false) (λ (x : Entry). not_better s p x ≡ true) (λ x k. ap not k) es none))))
    ] in go (either (better s p e))

-- ---- the first order of a price from which on a side is to come

-- of a part that begins with a price the first order is the first of that price
first-at : (i : ℕ) (s : Side) (q : Price) (es rest : List Entry) → EachPair AreInBookOrder es → ToComeFrom s (side_of i s es) (Some q) rest → slot_of (orders_at (level i s q) es) ≡ slot_of rest
first-at i s q es rest ordered come =
    let whole = prices-level i s es ordered (Some q) q rest come refl in
    let go : (xs : List Entry) → rest ≡ xs ++ filter (is_worse s q.0) (side_of i s es) → slot_of xs ≡ slot_of rest = elim [
      | [] ↦ λ e. not-both (is_better s q.0 q.0) (first-worse s q.0 (side_of i s es) q (ap price_of (sym e) ∙ sym come.1)) (is_better-irrefl s q.0)
      | x ∷ xs ↦ λ e. sym (ap slot_of e)
    ] in go (orders_at (level i s q) es) whole

-- the first of a side, by its best price
pub first-by-best : (i : ℕ) (s : Side) (q : Price) (es : List Entry) → EachPair AreInBookOrder es → Some q ≡ best_of i s es → slot_of (orders_at (level i s q) es) ≡ slot_of (side_of i s es)
first-by-best i s q es ordered is = first-at i s q es (side_of i s es) ordered (prices-first i s es ordered (Some q) is)

pub none-by-best : (i : ℕ) (s : Side) (es : List Entry) → None ≡ best_of i s es → slot_of (side_of i s es) ≡ None
none-by-best i s es is =
    let go : (xs : List Entry) → None ≡ price_of xs → slot_of xs ≡ None = elim [
      | [] ↦ λ h. refl
      | x ∷ xs ↦ λ h. absurd (let k : None ≡ Some x.order.price = h in cc)
    ] in go (side_of i s es) is

-- ---- the next one

module _ (i : ℕ) (s : Side) (p : Price) (es : List Entry) (ordered : EachPair AreInBookOrder es) (differ : AllDiffer es) (slot : ℕ) (here : HasSlot slot (orders_at (level i s p) es)) where
  abbrev S : List Entry
  S = side_of i s es

  abbrev L : List Entry
  L = orders_at (level i s p) es

  abbrev W : List Entry
  W = filter (is_worse s p.0) S

  parts : S ≡ filter (better s p.0) S ++ (L ++ W)
  parts =
      split-at s p.0 S (side-in-order i s es ordered)
      ∙ ap (λ (l : List Entry). filter (better s p.0) S ++ l) (level-first s p.0 S (side-in-order i s es ordered) ∙ ap (λ (l : List Entry). l ++ W) (sym (level-of-side i s p es)))

  apart : HasSlot slot (filter (better s p.0) S) → ⊥
  apart h = slots-apart slot (filter (better s p.0) S) (L ++ W) (subst AllDiffer parts (AllDiffer-filter (is_on i s) es differ)) h (HasSlot-left slot L W here)

  after-is : slot_after slot S ≡ behind-part (slot_after slot L) W
  after-is = ap (slot_after slot) parts ∙ after-second slot (filter (better s p.0) S) (L ++ W) apart ∙ after-first slot L W here

  -- the next of the same price
  pub after-same : (t : ℕ) → slot_after slot L ≡ Some t → slot_after slot S ≡ Some t
  after-same t is = after-is ∙ ap (λ (o : Option ℕ). behind-part o W) is

  -- the first of the next price
  pub after-worse : (q : Price) → slot_after slot L ≡ None → Some q ≡ worse_of i s p.0 es → slot_after slot S ≡ slot_of (orders_at (level i s q) es)
  after-worse q last next =
      after-is ∙ ap (λ (o : Option ℕ). behind-part o W) last
      ∙ sym (first-at i s q es W ordered (prices-next i s es ordered p (Some q) next))

  -- or none
  pub after-none : slot_after slot L ≡ None → None ≡ worse_of i s p.0 es → slot_after slot S ≡ None
  after-none last next =
      let go : (xs : List Entry) → None ≡ price_of xs → slot_of xs ≡ None = elim [
        | [] ↦ λ h. refl
        | x ∷ xs ↦ λ h. absurd (let k : None ≡ Some x.order.price = h in cc)
      ] in
      after-is ∙ ap (λ (o : Option ℕ). behind-part o W) last ∙ go W next

-- an order stands at its own level
pub own-level : (s : ℕ) (es : List Entry) → HasSlot s es → HasSlot s (orders_at (level_of (order_of s es)) es)
own-level s [] h = absurd h
own-level s (e ∷ es) h =
    let In = λ (k : _) (b : Bool). HasSlot s (cond b (e ∷ orders_at k es) (orders_at k es)) in
    elim (eqb_tells e.slot s) [
      | inl t ↦
          let mine : order_of s (e ∷ es) ≡ e.order = ap (λ (b : Bool). cond b e.order (order_of s es)) t.0 in
          subst (λ (o : Order). HasSlot s (orders_at (level_of o) (e ∷ es))) (sym mine) (subst (In (level_of e.order)) (sym (is_level-refl (level_of e.order))) (inl t.1))
      | inr t ↦
          let others : order_of s (e ∷ es) ≡ order_of s es = ap (λ (b : Bool). cond b e.order (order_of s es)) t.0 in
          let behind : HasSlot s es = elim h [ inl k ↦ absurd (t.1 k) | inr k ↦ k ] in
          let k = level_of (order_of s es) in
          let either : (b : Bool) → In k b = elim [ true ↦ inr (own-level s es behind) | false ↦ own-level s es behind ] in
          subst (λ (o : Order). HasSlot s (orders_at (level_of o) (e ∷ es))) (sym others) (either (is_at k e))
    ]
