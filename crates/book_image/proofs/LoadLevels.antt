-- Levels of rows that stand in book order, and placing the orders of a level before those of all later ones.
use Rattle.std.proofs.Common.{◌≡◌, ℕ, ◌+◌, ◌-◌, ◌<◌, ◌≤◌, Bool, true, false, ◌&&◌, ◌||◌, List, [], ◌∷◌, ◌++◌, map, length, refl, sym, ap, subst, ◌∙◌, arith, inl, inr, ◌⊎◌, append_assoc, length-append}
use Rattle.std.specs.Prelude.{◌==◌, ℤ, int_lt, nat_lt, bytes_eq}
use Rattle.std.specs.Ordering.{int_eq}
use Rattle.std.specs.List.{AllByRecursion}
use Rattle.std.proofs.lemmas.List.{map-append}
use Rattle.std.proofs.lemmas.Bool.Decides.{nat_tests, Decides-eqb, Decides-int_eq}
use Rattle.std.proofs.lemmas.Slice.Eq.{bytes_eq-Decides}
use Rattle.gx_base.specs.declared.order.Order.{Order}
use Rattle.gx_base.specs.declared.order.Side.{Side}
use Rattle.gx_base.specs.declared.order.Side.TheVariants.{Buy, Sell}
use Rattle.gx_base.proofs.Tests.{not-both, int-same}
use Rattle.book_order.specs.Levels.{Level, is_side, side_before, is_better, is_level, is_before}
use Rattle.book_order.proofs.Before.{before-past}
use Rattle.plain_book.specs.declared.entry.Entry.{Entry}
use Rattle.plain_book.specs.Orders.{level_of, is_live, is_named, is_at_earlier_level, placed}
use Rattle.plain_book.specs.Book.{Book, live_orders}
use Rattle.plain_book.specs.Numbers.{numbered, book_numbered}
use Rattle.plain_book.proofs.Pairs.{any-none, all-append}
use Rattle.book_image.specs.Rules.{has_same_name}
use Rattle.book_image.specs.Reading.{entry_of}
use Rattle.book_image.specs.Inner.Loading.{orders_from, AreRightResting, IsLevelEnd, IsLevelStart, HasResting}
use Rattle.book_image.proofs.LoadLists.{from-append, from-last, length-from, all-from, as-orders, as-length, put-between}

-- ---- of two levels that differ one stands before the other

int-total : (a b : ℤ) → int_eq a b ≡ false → int_lt b a ≡ false → int_lt a b ≡ true
int-total a b h k =
    let go : (c : Bool) → int_lt a b ≡ c → c ≡ true = elim [
      | true ↦ λ e. refl
      | false ↦ λ e. not-both (int_eq a b) ((Decides-int_eq a b).1 (int-same a b e k)) h
    ] in
    go (int_lt a b) refl

int-total-back : (a b : ℤ) → int_eq a b ≡ false → int_lt a b ≡ false → int_lt b a ≡ true
int-total-back a b h k =
    let go : (c : Bool) → int_lt b a ≡ c → c ≡ true = elim [
      | true ↦ λ e. refl
      | false ↦ λ e. not-both (int_eq a b) ((Decides-int_eq a b).1 (int-same a b k e)) h
    ] in
    go (int_lt b a) refl

-- by side, and then by price
abbrev inner : Side → ℤ → Side → ℤ → Bool
inner s p t q = side_before s t || (is_side s t && is_better s p q)

inner-total : (s t : Side) (a b : ℤ) → (is_side s t && int_eq a b) ≡ false → inner t b s a ≡ false → inner s a t b ≡ true
inner-total Buy Buy a b h k = int-total-back a b h k
inner-total Buy Sell a b h k = refl
inner-total Sell Buy a b h k = cc
inner-total Sell Sell a b h k = int-total a b h k

lex-total : (a b : ℕ) (e p q : Bool) → (e ≡ false → q ≡ false → p ≡ true) → ((a == b) && e) ≡ false → (nat_lt b a || ((b == a) && q)) ≡ false → (nat_lt a b || ((a == b) && p)) ≡ true
lex-total a b e p q f h k = grind (arith, nat_tests, f)

pub before-total : (a b : Level) → is_level a b ≡ false → is_before b a ≡ false → is_before a b ≡ true
before-total a b h k = lex-total a.instrument b.instrument _ _ _ (inner-total a.side b.side a.price b.price) h k

-- what does not stand after a stands before whatever a stands before
pub before-front : (x a b : Level) → is_before a b ≡ true → is_before a x ≡ false → is_before x b ≡ true
before-front x a b h g =
    let go : (c : Bool) → is_before x b ≡ c → c ≡ true = elim [
      | true ↦ λ e. refl
      | false ↦ λ e. not-both (is_before a x) (before-past a b x h e) g
    ] in
    go (is_before x b) refl

-- ---- levels of rows

less-or-not : (a b : ℕ) → (a < b) ⊎ (b ≤ a)
less-or-not a b =
    let go : (c : Bool) → nat_lt a b ≡ c → (a < b) ⊎ (b ≤ a) = elim [ true ↦ λ e. inl (grind (arith, nat_tests)) | false ↦ λ e. inr (grind (arith, nat_tests)) ] in
    go (nat_lt a b) refl

-- the orders of a level up to this one, and those of all later levels
abbrev pub placed_so_far : (ℕ → Order) → ℕ → ℕ → ℕ → ℕ → List Order
placed_so_far f count start end k = orders_from f start (k - start) ++ orders_from f end (count - end)

module _ (instruments : ℕ) (f : ℕ → Order) (count : ℕ) (right : AreRightResting instruments f count) where
  -- where a level starts, those before it end
  pub start-ends : (start end : ℕ) → end ≤ count → IsLevelStart f start end → IsLevelEnd f end count → IsLevelEnd f start count
  start-ends start end le s h i k before from lt =
      let last = level_of (f (end - 1)) in
      let near = start - 1 in
      let b = s.before in
      let step : is_before (level_of (f near)) last ≡ true = before-total (level_of (f near)) last (s.other (omega arith)) (right.ordered near (end - 1) (omega arith) (omega arith)) in
      let first : is_before (level_of (f i)) last ≡ true = elim (less-or-not i near) [
        | inl l ↦ before-front (level_of (f i)) (level_of (f near)) last step (right.ordered i near l (omega arith))
        | inr l ↦ let e : near ≡ i = omega arith in subst (λ (n : ℕ). is_before (level_of (f n)) last ≡ true) e step
      ] in
      elim (less-or-not k end) [
        | inl l ↦ ap (is_before (level_of (f i))) (s.same k from l) ∙ first
        | inr l ↦ h i k (omega arith) l lt
      ]

  -- ---- placing

  all-entries : (P : Order → Type 0) (os : List Order) → AllByRecursion P os → AllByRecursion (λ (e : Entry). P e.order) (map entry_of os)
  all-entries P [] h = tt
  all-entries P (o ∷ os) h = (h.0, all-entries P os h.1)

  module _ (start end k : ℕ) (from : start ≤ k) (lt : k < end) (le : end ≤ count) (ends : IsLevelEnd f end count) where
    pub placed-next : placed (entry_of (f k)) (map entry_of (placed_so_far f count start end k)) ≡ map entry_of (placed_so_far f count start end (k + 1))
    placed-next =
        let A = orders_from f start (k - start) in
        let B = orders_from f end (count - end) in
        let n = entry_of (f k) in
        let width : k + 1 - start ≡ k - start + 1 = omega arith in
        let here : start + (k - start) ≡ k = omega arith in
        let ahead : AllByRecursion (λ (o : Order). is_before (level_of (f k)) (level_of o) ≡ false) A =
        all-from f (λ (o : Order). is_before (level_of (f k)) (level_of o) ≡ false) start (k - start) (λ i a b. right.ordered i k (omega arith) (omega arith)) in
        let behind : AllByRecursion (λ (o : Order). is_before (level_of (f k)) (level_of o) ≡ true) B =
        all-from f (λ (o : Order). is_before (level_of (f k)) (level_of o) ≡ true) end (count - end) (λ i a b. ends k i lt a (omega arith)) in
        let one : orders_from f start (k + 1 - start) ≡ A ++ f k ∷ [] =
        ap (orders_from f start) width ∙ from-last f start (k - start) ∙ ap (λ (a : ℕ). A ++ f a ∷ []) here in
        ap (placed n) (map-append entry_of A B)
        ∙ put-between (is_at_earlier_level n) n (map entry_of A) (map entry_of B)
        (all-entries (λ (o : Order). is_before (level_of (f k)) (level_of o) ≡ false) A ahead)
        (all-entries (λ (o : Order). is_before (level_of (f k)) (level_of o) ≡ true) B behind)
        ∙ sym (map-append entry_of A (f k ∷ B))
        ∙ ap (map entry_of) (sym (append_assoc A (f k ∷ []) B) ∙ ap (λ (os : List Order). os ++ B) (sym one))

    -- fewer are placed than there are
    pub placed-few : length (placed_so_far f count start end k) < count
    placed-few = omega (arith, length-append (orders_from f start (k - start)) (orders_from f end (count - end)), length-from f start (k - start), length-from f end (count - end))

  pub placed-none : (start end : ℕ) → placed_so_far f count start end start ≡ orders_from f end (count - end)
  placed-none start end = let e : start - start ≡ 0 = omega arith in ap (λ (n : ℕ). orders_from f start n ++ orders_from f end (count - end)) e

  pub placed-all : (start end : ℕ) → start ≤ end → end ≤ count → placed_so_far f count start end end ≡ orders_from f start (count - start)
  placed-all start end a b =
      let m = end - start in
      let n = count - end in
      let e : start + m ≡ end = omega arith in
      let w : m + n ≡ count - start = omega arith in
      sym (ap (orders_from f start) (sym w) ∙ from-append f start m n ∙ ap (λ (s : ℕ). orders_from f start m ++ orders_from f s n) e)

  -- no order that is placed has the name of this one
  same-test : (b c : Bool) → (b ≡ true → c ≡ true) → (c ≡ true → b ≡ true) → b ≡ c
  same-test true true f g = refl
  same-test true false f g = sym (f refl)
  same-test false true f g = g refl
  same-test false false f g = refl

  name-sym : (a b : Order) → has_same_name a b ≡ has_same_name b a
  name-sym a b =
      let firm : (b.firm == a.firm) ≡ (a.firm == b.firm) =
      same-test (b.firm == a.firm) (a.firm == b.firm) (λ h. (Decides-eqb a.firm b.firm).1 (sym ((Decides-eqb b.firm a.firm).0 h))) (λ h. (Decides-eqb b.firm a.firm).1 (sym ((Decides-eqb a.firm b.firm).0 h))) in
      let id : bytes_eq b.id a.id ≡ bytes_eq a.id b.id =
      same-test (bytes_eq b.id a.id) (bytes_eq a.id b.id) (λ h. (bytes_eq-Decides a.id b.id).1 (sym ((bytes_eq-Decides b.id a.id).0 h))) (λ h. (bytes_eq-Decides b.id a.id).1 (sym ((bytes_eq-Decides a.id b.id).0 h))) in
      ap (λ (x : Bool). x && bytes_eq b.id a.id) firm ∙ ap (λ (x : Bool). (a.firm == b.firm) && x) id

  pub placed-unnamed : (start end k : ℕ) → start ≤ k → k < end → end ≤ count → AllByRecursion (λ (o : Order). has_same_name (f k) o ≡ false) (placed_so_far f count start end k)
  placed-unnamed start end k from lt le =
      let P = λ (o : Order). has_same_name (f k) o ≡ false in
      all-append P (orders_from f start (k - start)) (orders_from f end (count - end))
      (all-from f P start (k - start) (λ i a b. right.named i k (omega arith) (omega arith)))
      (all-from f P end (count - end) (λ i a b. name-sym (f k) (f i) ∙ right.named k i (omega arith) (omega arith)))

-- ---- a book of which the resting orders are known

no-entries : (es : List Entry) → numbered es ≡ [] → es ≡ []
no-entries [] h = refl
no-entries (e ∷ es) h = absurd (let k : e ∷ numbered es ≡ [] = cc in cc)

module _ (old new : Book) (os : List Order) (h : HasResting old new (map entry_of os)) where
  pub resting-as : numbered new.resting ≡ map entry_of os
  resting-as = ap (λ (b : Book). b.resting) h

  pub capacity-same : new.capacity ≡ old.capacity
  capacity-same = ap (λ (b : Book). b.capacity) h

  pub instruments-same : new.instruments ≡ old.instruments
  instruments-same = ap (λ (b : Book). b.instruments) h

  module _ (none : old.waiting ≡ []) where
    pub waiting-none : new.waiting ≡ []
    waiting-none = no-entries new.waiting (ap (λ (b : Book). b.waiting) h ∙ ap numbered none)

    live-as : live_orders new ≡ new.resting
    live-as = ap (λ (es : List Entry). new.resting ++ es) waiting-none ∙ append-none new.resting
      where
        append-none : (es : List Entry) → es ++ [] ≡ es
        append-none [] = refl
        append-none (e ∷ es) = ap (λ (l : List Entry). e ∷ l) (append-none es)

    pub live-length : length (live_orders new) ≡ length os
    live-length = ap (λ (es : List Entry). length es) live-as ∙ as-length new.resting os resting-as

    pub live-unnamed : (o : Order) → AllByRecursion (λ (x : Order). has_same_name o x ≡ false) os → is_live o.firm o.id (live_orders new) ≡ false
    live-unnamed o u = ap (is_live o.firm o.id) live-as ∙ any-none (is_named o.firm o.id) new.resting (as-orders (λ (x : Order). has_same_name o x ≡ false) new.resting os resting-as u)

-- the row before a start stands at the level too
pub level-more : (f : ℕ → Order) (start end : ℕ) → 0 < start → ((k : ℕ) → start ≤ k → k < end → level_of (f k) ≡ level_of (f (end - 1)))
    → level_of (f (start - 1)) ≡ level_of (f (end - 1)) → (k : ℕ) → start - 1 ≤ k → k < end → level_of (f k) ≡ level_of (f (end - 1))
level-more f start end some same one k a b = elim (less-or-not k start) [
  | inl l ↦ let e : k ≡ start - 1 = omega arith in ap (λ (n : ℕ). level_of (f n)) e ∙ one
  | inr l ↦ same k l b
]

-- the orders that rest, after one change and then another
pub resting-then : (a b c : Book) (es fs : List Entry) → HasResting a b es → HasResting b c fs → HasResting a c fs
resting-then a b c es fs h k = let with_list : Book → Book = λ (x : Book). record x { resting = fs } in k ∙ ap with_list h

pub resting-start : (b : Book) (es : List Entry) → numbered b.resting ≡ es → HasResting b b es
resting-start b es h = let with_list : List Entry → Book = λ l. record (book_numbered b) { resting = l } in ap with_list h

pub resting-is : (a b : Book) (es fs : List Entry) → HasResting a b es → es ≡ fs → HasResting a b fs
resting-is a b es fs h e = subst (HasResting a b) e h

-- one more order of the level is placed
pub level-next : (b now last : Book) (f : ℕ → Order) (count start end k : ℕ) → AreRightResting b.instruments f count → start ≤ k → k < end → end ≤ count → IsLevelEnd f end count
    → HasResting b now (map entry_of (placed_so_far f count start end k)) → (o : Order) → o ≡ f k → HasResting now last (placed (entry_of o) (numbered now.resting))
    → HasResting b last (map entry_of (placed_so_far f count start end (k + 1)))
level-next b now last f count start end k right from lt le ends h o o-is put =
    let so_far = placed_so_far f count start end k in
    let then : placed (entry_of o) (numbered now.resting) ≡ map entry_of (placed_so_far f count start end (k + 1)) =
    ap (λ (q : Order). placed (entry_of q) (numbered now.resting)) o-is
    ∙ (ap (placed (entry_of (f k))) (resting-as b now so_far h)
    ∙ placed-next b.instruments f count right start end k from lt le ends) in
    resting-then b now last (map entry_of so_far) (map entry_of (placed_so_far f count start end (k + 1))) h
    (resting-is now last (placed (entry_of o) (numbered now.resting)) (map entry_of (placed_so_far f count start end (k + 1))) put then)
