-- What is read from the levels is what is read from the orders.
use Rattle.std.proofs.Common.{◌≡◌, ◌≢◌, ℕ, ◌≤◌, Bool, true, false, cond, ◌&&◌, List, [], ◌∷◌, ◌++◌, map, filter, length, refl, sym, ap, subst, ◌∙◌, arith, inl, inr}
use Rattle.std.proofs.lemmas.List.Elements.{filter-append}
use Rattle.std.proofs.lemmas.List.Sums.{sum_by-cons}
use Rattle.std.proofs.lemmas.List.{length-map}
use Rattle.std.proofs.lemmas.Bool.{true≢false}
use Rattle.std.specs.Prelude.{Option, None, Some, sum_by, ◌==◌}
use Rattle.std.specs.List.{AllByRecursion}
use Rattle.gx_base.specs.declared.price.Price.{Price}
use Rattle.gx_base.specs.declared.order.Side.{Side}
use Rattle.plain_book.specs.declared.entry.Entry.{Entry}
use Rattle.plain_book.specs.Orders.{Level, level_of, is_side, is_level, is_before, is_at, is_on, is_better, orders_at, price_of, last_price_or, last_price_of, best_of, worse_of, worst_of, better_of, shown_at, open_at, slot_of}
use Rattle.order_pool.specs.Queues.{first_slot}
use Rattle.plain_book.proofs.Levels.{is_level-same, is_before-irrefl}
use Rattle.plain_book.proofs.Pairs.{all-with, all-both}
use Rattle.plain_book.proofs.Lasts.{last_after}
use Rattle.price_level.specs.declared.row.LevelRow.{LevelRow}
use Rattle.price_level.specs.Rows.{Pairs, AreRowsApart, level_of_row, HasQueue, row_of, row_at, row_on, queue_at, queue_of_row, price_of_row, last_row_or, last_row, best_row, worse_row, worst_row, better_row}
use Rattle.book_side.specs.Inner.Flat.{flat, queues_of}
use Rattle.book_side.specs.Inner.Content.{Held, marked, resting_of}
use Rattle.book_side.specs.Inner.Linked.{IsSummed}
use Rattle.book_side.proofs.Flat.{AreAt, row_of-here, row_of-later, at-row, row_of-queue}

-- ---- a level

abbrev pub queue_or_none : (ℕ → List Entry) → Option ℕ → List Entry
queue_or_none E None = []
queue_or_none E (Some q) = E q

-- all pass, or none
pub passes : (p : Entry → Bool) (b : Bool) (es : List Entry) → AllByRecursion (λ (e : Entry). p e ≡ b) es → filter p es ≡ cond b es []
passes p true [] h = refl
passes p false [] h = refl
passes p true (e ∷ es) h = ap (λ (c : Bool). cond c (e ∷ filter p es) (filter p es)) h.0 ∙ ap (λ (l : List Entry). e ∷ l) (passes p true es h.1)
passes p false (e ∷ es) h = ap (λ (c : Bool). cond c (e ∷ filter p es) (filter p es)) h.0 ∙ passes p false es h.1

all-level : (k : Level) (r : LevelRow) (b : Bool) → row_at k r ≡ b → (es : List Entry) → AllByRecursion (λ (e : Entry). level_of e.order ≡ level_of_row r) es → AllByRecursion (λ (e : Entry). is_at k e ≡ b) es
all-level k r b h es a = all-with (λ (e : Entry). level_of e.order ≡ level_of_row r) (λ (e : Entry). is_at k e ≡ b) (λ e l. ap (λ (j : Level). is_level j k) l ∙ h) es a

-- a level after another one is another
not-level : (k : Level) (r x : LevelRow) → row_at k r ≡ true → is_before (level_of_row r) (level_of_row x) ≡ true → row_at k x ≡ false
not-level k r x h b =
    let go : (c : Bool) → row_at k x ≡ c → row_at k x ≡ false = elim [
      | true ↦ λ e.
          let same : level_of_row r ≡ level_of_row x = is_level-same _ _ h ∙ sym (is_level-same _ _ e) in
          absurd (true≢false (sym (subst (λ (j : Level). is_before j (level_of_row x) ≡ true) same b) ∙ is_before-irrefl (level_of_row x)))
      | false ↦ λ e. e
    ] in go (row_at k x) refl

none-at : (k : Level) (E : ℕ → List Entry) (r : LevelRow) → row_at k r ≡ true → (rs : List LevelRow) → AllByRecursion (AreRowsApart r) rs → AllByRecursion (AreAt E) rs → orders_at k (flat E (queues_of rs)) ≡ []
none-at k E r h [] a at = refl
none-at k E r h (x ∷ rs) a at =
    filter-append (is_at k) (E x.queue) (flat E (queues_of rs))
    ∙ ap (λ (l : List Entry). l ++ orders_at k (flat E (queues_of rs))) (passes (is_at k) false (E x.queue) (all-level k x false (not-level k r x h a.0.0) (E x.queue) at.0))
    ∙ none-at k E r h rs a.1 at.1

append-nil : (xs : List Entry) → xs ++ [] ≡ xs
append-nil [] = refl
append-nil (x ∷ xs) = ap (λ (l : List Entry). x ∷ l) (append-nil xs)

-- the orders at a level are those of its queue
pub flat-at : (k : Level) (E : ℕ → List Entry) (rs : List LevelRow) → Pairs AreRowsApart rs → AllByRecursion (AreAt E) rs → orders_at k (flat E (queues_of rs)) ≡ queue_or_none E (queue_at k rs)
flat-at k E [] a at = refl
flat-at k E (r ∷ rs) a at =
    let F = flat E (queues_of rs) in
    let go : (c : Bool) → row_at k r ≡ c → orders_at k (E r.queue ++ F) ≡ queue_or_none E (queue_of_row (cond c (r ∷ filter (row_at k) rs) (filter (row_at k) rs))) = elim [
      | true ↦ λ h.
          filter-append (is_at k) (E r.queue) F
          ∙ ap (λ (l : List Entry). l ++ orders_at k F) (passes (is_at k) true (E r.queue) (all-level k r true h (E r.queue) at.0))
          ∙ ap (λ (l : List Entry). E r.queue ++ l) (none-at k E r h rs a.0 at.1)
          ∙ append-nil (E r.queue)
      | false ↦ λ h.
          filter-append (is_at k) (E r.queue) F
          ∙ ap (λ (l : List Entry). l ++ orders_at k F) (passes (is_at k) false (E r.queue) (all-level k r false h (E r.queue) at.0))
          ∙ flat-at k E rs a.1 at.1
    ] in go (row_at k r) refl

-- the queue that is found is a level's
pub found-row : (k : Level) (q : ℕ) (rs : List LevelRow) → queue_at k rs ≡ Some q → HasQueue q rs
found-row k q [] e = let n : None ≡ Some q = e in absurd (let z : ⊥ = cc in z)
found-row k q (r ∷ rs) e =
    let go : (c : Bool) → queue_of_row (cond c (r ∷ filter (row_at k) rs) (filter (row_at k) rs)) ≡ Some q → HasQueue q (r ∷ rs) = elim [
      | true ↦ λ h. inl (let g : Some r.queue ≡ Some q = h in cc)
      | false ↦ λ h. inr (found-row k q rs h)
    ] in go (row_at k r) e

has-apart : (q : ℕ) (r : LevelRow) (rs : List LevelRow) → HasQueue q rs → AllByRecursion (AreRowsApart r) rs → r.queue ≢ q
has-apart q r [] h a = absurd h
has-apart q r (x ∷ rs) h a = elim h [ inl e ↦ λ i. a.0.1 (e ∙ sym i) | inr e ↦ has-apart q r rs e a.1 ]

pub found-level : (k : Level) (q : ℕ) (rs : List LevelRow) → Pairs AreRowsApart rs → queue_at k rs ≡ Some q → level_of_row (row_of q rs) ≡ k
found-level k q [] a e = let n : None ≡ Some q = e in absurd (let z : ⊥ = cc in z)
found-level k q (r ∷ rs) a e =
    let go : (c : Bool) → row_at k r ≡ c → queue_of_row (cond c (r ∷ filter (row_at k) rs) (filter (row_at k) rs)) ≡ Some q → level_of_row (row_of q (r ∷ rs)) ≡ k = elim [
      | true ↦ λ t h. ap level_of_row (row_of-here q r rs (let g : Some r.queue ≡ Some q = h in cc)) ∙ is_level-same _ _ t
      | false ↦ λ t h. ap level_of_row (row_of-later q r rs (has-apart q r rs (found-row k q rs h) a.0)) ∙ found-level k q rs a.1 h
    ] in go (row_at k r) refl e

-- ---- prices

-- whether an order passes is whether its level does
abbrev pub AreAlike : (Entry → Bool) → (LevelRow → Bool) → (ℕ → List Entry) → LevelRow → Type 0
AreAlike p P E r = AllByRecursion (λ (e : Entry). (e.order.price ≡ r.price) × (p e ≡ P r)) (E r.queue) × (1 ≤ length (E r.queue))

price-first : (es fs : List Entry) (p : Entry → Bool) (b : Bool) (x : Price) → 1 ≤ length es → AllByRecursion (λ (e : Entry). (e.order.price ≡ x) × (p e ≡ b)) es
    → price_of (filter p (es ++ fs)) ≡ cond b (Some x) (price_of (filter p fs))
price-first [] fs p b x l h = absurd (omega arith)
price-first (e ∷ es) fs p true x l h = ap (λ (c : Bool). price_of (cond c (e ∷ filter p (es ++ fs)) (filter p (es ++ fs)))) h.0.1 ∙ ap (λ (y : Price). Some y) h.0.0
price-first (e ∷ []) fs p false x l h = ap (λ (c : Bool). price_of (cond c (e ∷ filter p fs) (filter p fs))) h.0.1
price-first (e ∷ d ∷ es) fs p false x l h =
    ap (λ (c : Bool). price_of (cond c (e ∷ filter p (d ∷ es ++ fs)) (filter p (d ∷ es ++ fs)))) h.0.1
    ∙ price-first (d ∷ es) fs p false x (omega arith) h.1

pub flat-price : (p : Entry → Bool) (P : LevelRow → Bool) (E : ℕ → List Entry) (rs : List LevelRow) → AllByRecursion (AreAlike p P E) rs → price_of (filter p (flat E (queues_of rs))) ≡ price_of_row (filter P rs)
flat-price p P E [] h = refl
flat-price p P E (r ∷ rs) h =
    let go : (b : Bool) → P r ≡ b → price_of (filter p (E r.queue ++ flat E (queues_of rs))) ≡ price_of_row (cond b (r ∷ filter P rs) (filter P rs)) = elim [
      | true ↦ λ t. price-first (E r.queue) (flat E (queues_of rs)) p true r.price h.0.1 (all-with (λ (e : Entry). (e.order.price ≡ r.price) × (p e ≡ P r)) (λ (e : Entry). (e.order.price ≡ r.price) × (p e ≡ true)) (λ e k. (k.0, k.1 ∙ t)) (E r.queue) h.0.0)
      | false ↦ λ t. price-first (E r.queue) (flat E (queues_of rs)) p false r.price h.0.1 (all-with (λ (e : Entry). (e.order.price ≡ r.price) × (p e ≡ P r)) (λ (e : Entry). (e.order.price ≡ r.price) × (p e ≡ false)) (λ e k. (k.0, k.1 ∙ t)) (E r.queue) h.0.0) ∙ flat-price p P E rs h.1
    ] in go (P r) refl

-- ---- the last price

-- the price of the last of these rows, or what was found before
abbrev row_after : Option Price → List LevelRow → Option Price
row_after found [] = found
row_after found (r ∷ rs) = Some (last_row_or r.price rs)

row-more : (found : Option Price) (r : LevelRow) (rs : List LevelRow) → row_after (Some r.price) rs ≡ row_after found (r ∷ rs)
row-more found r [] = refl
row-more found r (x ∷ rs) = refl

last-or-behind : (x : Price) (es : List Entry) (f : Entry) (fs : List Entry) → last_price_or x (es ++ f ∷ fs) ≡ last_price_or f.order.price fs
last-or-behind x [] f fs = refl
last-or-behind x (e ∷ es) f fs = last-or-behind e.order.price es f fs

-- orders of one price, and those after them
last-level : (found : Option Price) (x : Price) (e : Entry) (es fs : List Entry) → AllByRecursion (λ (e : Entry). e.order.price ≡ x) (e ∷ es) → last_after found (e ∷ es ++ fs) ≡ last_after (Some x) fs
last-level found x e es (f ∷ fs) h = ap Some (last-or-behind e.order.price es f fs)
last-level found x e es [] h = ap (λ (l : List Entry). Some (last_price_or e.order.price l)) (append-nil es) ∙ ap Some (same e.order.price es h.0 h.1)
  where
    same : (y : Price) (es : List Entry) → y ≡ x → AllByRecursion (λ (e : Entry). e.order.price ≡ x) es → last_price_or y es ≡ x
    same y [] h k = h
    same y (e ∷ es) h k = same e.order.price es k.0 k.1

level-last : (found : Option Price) (es fs : List Entry) (p : Entry → Bool) (b : Bool) (x : Price) → 1 ≤ length es → AllByRecursion (λ (e : Entry). (e.order.price ≡ x) × (p e ≡ b)) es
    → last_after found (filter p (es ++ fs)) ≡ last_after (cond b (Some x) found) (filter p fs)
level-last found [] fs p b x l h = absurd (omega arith)
level-last found (e ∷ es) fs p true x l h =
    ap (λ (l : List Entry). last_after found l) (filter-append p (e ∷ es) fs)
    ∙ ap (λ (l : List Entry). last_after found (l ++ filter p fs)) (passes p true (e ∷ es) (all-with (λ (e : Entry). (e.order.price ≡ x) × (p e ≡ true)) (λ (e : Entry). p e ≡ true) (λ e k. k.1) (e ∷ es) h))
    ∙ last-level found x e es (filter p fs) (all-with (λ (e : Entry). (e.order.price ≡ x) × (p e ≡ true)) (λ (e : Entry). e.order.price ≡ x) (λ e k. k.0) (e ∷ es) h)
level-last found (e ∷ es) fs p false x l h =
    ap (λ (l : List Entry). last_after found l) (filter-append p (e ∷ es) fs)
    ∙ ap (λ (l : List Entry). last_after found (l ++ filter p fs)) (passes p false (e ∷ es) (all-with (λ (e : Entry). (e.order.price ≡ x) × (p e ≡ false)) (λ (e : Entry). p e ≡ false) (λ e k. k.1) (e ∷ es) h))

flat-last-from : (found : Option Price) (p : Entry → Bool) (P : LevelRow → Bool) (E : ℕ → List Entry) (rs : List LevelRow) → AllByRecursion (AreAlike p P E) rs → last_after found (filter p (flat E (queues_of rs))) ≡ row_after found (filter P rs)
flat-last-from found p P E [] h = refl
flat-last-from found p P E (r ∷ rs) h =
    let go : (b : Bool) → P r ≡ b → last_after found (filter p (E r.queue ++ flat E (queues_of rs))) ≡ row_after found (cond b (r ∷ filter P rs) (filter P rs)) = elim [
      | true ↦ λ t.
          level-last found (E r.queue) (flat E (queues_of rs)) p true r.price h.0.1 (all-with (λ (e : Entry). (e.order.price ≡ r.price) × (p e ≡ P r)) (λ (e : Entry). (e.order.price ≡ r.price) × (p e ≡ true)) (λ e k. (k.0, k.1 ∙ t)) (E r.queue) h.0.0)
          ∙ flat-last-from (Some r.price) p P E rs h.1
          ∙ row-more found r (filter P rs)
      | false ↦ λ t.
          level-last found (E r.queue) (flat E (queues_of rs)) p false r.price h.0.1 (all-with (λ (e : Entry). (e.order.price ≡ r.price) × (p e ≡ P r)) (λ (e : Entry). (e.order.price ≡ r.price) × (p e ≡ false)) (λ e k. (k.0, k.1 ∙ t)) (E r.queue) h.0.0)
          ∙ flat-last-from found p P E rs h.1
    ] in go (P r) refl

last-is : (es : List Entry) → last_price_of es ≡ last_after None es
last-is [] = refl
last-is (e ∷ es) = refl

row-is : (rs : List LevelRow) → row_after None rs ≡ last_row rs
row-is [] = refl
row-is (r ∷ rs) = refl

pub flat-last : (p : Entry → Bool) (P : LevelRow → Bool) (E : ℕ → List Entry) (rs : List LevelRow) → AllByRecursion (AreAlike p P E) rs → last_price_of (filter p (flat E (queues_of rs))) ≡ last_row (filter P rs)
flat-last p P E rs h = last-is (filter p (flat E (queues_of rs))) ∙ flat-last-from None p P E rs h ∙ row-is (filter P rs)

-- ---- the orders of a queue, as the book sees them

pub all-marked : (T : ℕ → Side → Option ℕ) (A : Held → Type 0) (B : Entry → Type 0) → ((h : Held) → A h → B (marked T h)) → (hs : List Held) → AllByRecursion A hs → AllByRecursion B (map (marked T) hs)
all-marked T A B f [] a = tt
all-marked T A B f (h ∷ hs) a = (f h a.0, all-marked T A B f hs a.1)

module _ (T : ℕ → Side → Option ℕ) (P : ℕ → List Held) where
  pub summed-at : (r : LevelRow) → IsSummed P r → AreAt (λ q. map (marked T) (P q)) r
  summed-at r s = all-marked T (λ (h : Held). level_of h.1 ≡ level_of_row r) (λ (e : Entry). level_of e.order ≡ level_of_row r) (λ h l. l) (P r.queue) s.at

  -- a test of the level
  pub summed-alike : (p : Entry → Bool) (G : Level → Bool) → ((e : Entry) → p e ≡ G (level_of e.order)) → (r : LevelRow) → IsSummed P r → 1 ≤ r.count → AreAlike p (λ x. G (level_of_row x)) (λ q. map (marked T) (P q)) r
  summed-alike p G f r s l = (
    all-marked T (λ (h : Held). level_of h.1 ≡ level_of_row r) (λ (e : Entry). (e.order.price ≡ r.price) × (p e ≡ G (level_of_row r)))
        (λ h e. (ap (λ (k : Level). let x : Price = record { 0 = k.price } in x) e, f (marked T h) ∙ ap G e)) (P r.queue) s.at,
    omega (arith, length-map (P r.queue) (marked T), s.count, l),
  )

-- ---- a test after another

pub filter-both : {X : Type 0} (p q : X → Bool) (xs : List X) → filter p (filter q xs) ≡ filter (λ x. q x && p x) xs
filter-both p q [] = refl
filter-both p q (x ∷ xs) =
    let go : (b : Bool) → filter p (cond b (x ∷ filter q xs) (filter q xs)) ≡ cond (b && p x) (x ∷ filter (λ y. q y && p y) xs) (filter (λ y. q y && p y) xs) = elim [
      | true ↦ ap (λ l. cond (p x) (x ∷ l) l) (filter-both p q xs)
      | false ↦ filter-both p q xs
    ] in go (q x)

module _ (T : ℕ → Side → Option ℕ) (P : ℕ → List Held) (rs : List LevelRow) (sums : AllByRecursion (IsSummed P) rs) (some : AllByRecursion (λ (r : LevelRow). 1 ≤ r.count) rs) where
  all-alike : (p : Entry → Bool) (G : Level → Bool) → ((e : Entry) → p e ≡ G (level_of e.order)) → AllByRecursion (AreAlike p (λ x. G (level_of_row x)) (λ q. map (marked T) (P q))) rs
  all-alike p G f =
      all-with (λ (r : LevelRow). IsSummed P r × (1 ≤ r.count)) (AreAlike p (λ x. G (level_of_row x)) (λ q. map (marked T) (P q)))
      (λ r h. summed-alike T P p G f r h.0 h.1) rs (all-both (IsSummed P) (λ (r : LevelRow). 1 ≤ r.count) rs sums some)

  pub best-looked : (i : ℕ) (s : Side) → best_of i s (resting_of T P rs) ≡ best_row i s rs
  best-looked i s =
      let G : Level → Bool = λ (k : Level). (k.instrument == i) && is_side k.side s in
      flat-price (is_on i s) (row_on i s) (λ q. map (marked T) (P q)) rs (all-alike (is_on i s) G (λ e. refl))

  pub worse-looked : (i : ℕ) (s : Side) (x : Price) → worse_of i s x.0 (resting_of T P rs) ≡ worse_row i s x rs
  worse-looked i s x =
      let p : Entry → Bool = λ (e : Entry). is_on i s e && is_better s x.0 e.order.price.0 in
      let Q : LevelRow → Bool = λ (r : LevelRow). row_on i s r && is_better s x.0 r.price.0 in
      let G : Level → Bool = λ (k : Level). ((k.instrument == i) && is_side k.side s) && is_better s x.0 k.price in
      ap price_of (filter-both (λ e. is_better s x.0 e.order.price.0) (is_on i s) (resting_of T P rs))
      ∙ flat-price p Q (λ q. map (marked T) (P q)) rs (all-alike p G (λ e. refl))
      ∙ ap price_of_row (sym (filter-both (λ r. is_better s x.0 r.price.0) (row_on i s) rs))

  pub worst-looked : (i : ℕ) (s : Side) → worst_of i s (resting_of T P rs) ≡ worst_row i s rs
  worst-looked i s =
      let G : Level → Bool = λ (k : Level). (k.instrument == i) && is_side k.side s in
      flat-last (is_on i s) (row_on i s) (λ q. map (marked T) (P q)) rs (all-alike (is_on i s) G (λ e. refl))

  pub better-looked : (i : ℕ) (s : Side) (x : Price) → better_of i s x.0 (resting_of T P rs) ≡ better_row i s x rs
  better-looked i s x =
      let p : Entry → Bool = λ (e : Entry). is_on i s e && is_better s e.order.price.0 x.0 in
      let Q : LevelRow → Bool = λ (r : LevelRow). row_on i s r && is_better s r.price.0 x.0 in
      let G : Level → Bool = λ (k : Level). ((k.instrument == i) && is_side k.side s) && is_better s k.price x.0 in
      ap last_price_of (filter-both (λ e. is_better s e.order.price.0 x.0) (is_on i s) (resting_of T P rs))
      ∙ flat-last p Q (λ q. map (marked T) (P q)) rs (all-alike p G (λ e. refl))
      ∙ ap last_row (sym (filter-both (λ r. is_better s r.price.0 x.0) (row_on i s) rs))

  pub at-looked : Pairs AreRowsApart rs → (k : Level) → orders_at k (resting_of T P rs) ≡ queue_or_none (λ q. map (marked T) (P q)) (queue_at k rs)
  at-looked a k = flat-at k (λ q. map (marked T) (P q)) rs a (all-with (IsSummed P) (AreAt (λ q. map (marked T) (P q))) (λ r h. summed-at T P r h) rs sums)

  pub found-looked : Pairs AreRowsApart rs → (k : Level) (q : ℕ) → queue_at k rs ≡ Some q → orders_at k (resting_of T P rs) ≡ map (marked T) (P q)
  found-looked a k q e = at-looked a k ∙ ap (queue_or_none (λ x. map (marked T) (P x))) e

  pub none-looked : Pairs AreRowsApart rs → (k : Level) → queue_at k rs ≡ None → orders_at k (resting_of T P rs) ≡ []
  none-looked a k e = at-looked a k ∙ ap (queue_or_none (λ x. map (marked T) (P x))) e

  -- the sums of a level are those of its orders
  pub count-looked : Pairs AreRowsApart rs → (k : Level) (q : ℕ) → queue_at k rs ≡ Some q → (row_of q rs).count ≡ length (orders_at k (resting_of T P rs))
  count-looked a k q e =
      let h = found-row k q rs e in
      (at-row (IsSummed P) q rs h sums).count ∙ ap (λ (x : ℕ). length (P x)) (row_of-queue q rs h) ∙ sym (length-map (P q) (marked T)) ∙ ap (λ (l : List Entry). length l) (sym (found-looked a k q e))

  pub shown-looked : Pairs AreRowsApart rs → (k : Level) (q : ℕ) → queue_at k rs ≡ Some q → (row_of q rs).shown ≡ shown_at k (resting_of T P rs)
  shown-looked a k q e =
      let h = found-row k q rs e in
      (at-row (IsSummed P) q rs h sums).shown ∙ ap (λ (x : ℕ). sum_by (λ (y : Held). y.1.shown) (P x)) (row_of-queue q rs h) ∙ sum-marked (P q) ∙ ap (λ (l : List Entry). sum_by (λ (e : Entry). e.order.shown) l) (sym (found-looked a k q e))
    where
      sum-marked : (hs : List Held) → sum_by (λ (y : Held). y.1.shown) hs ≡ sum_by (λ (e : Entry). e.order.shown) (map (marked T) hs)
      sum-marked [] = refl
      sum-marked (h ∷ hs) = omega (arith, sum_by-cons (λ (y : Held). y.1.shown) h hs, sum_by-cons (λ (e : Entry). e.order.shown) (marked T h) (map (marked T) hs), sum-marked hs)

module _ (T : ℕ → Side → Option ℕ) (P : ℕ → List Held) (rs : List LevelRow) (sums : AllByRecursion (IsSummed P) rs) (some : AllByRecursion (λ (r : LevelRow). 1 ≤ r.count) rs) where
  pub leaves-looked : Pairs AreRowsApart rs → (k : Level) (q : ℕ) → queue_at k rs ≡ Some q → (row_of q rs).leaves ≡ open_at k (resting_of T P rs)
  leaves-looked a k q e =
      let h = found-row k q rs e in
      (at-row (IsSummed P) q rs h sums).leaves ∙ ap (λ (x : ℕ). sum_by (λ (y : Held). y.1.leaves) (P x)) (row_of-queue q rs h) ∙ sum-marked (P q) ∙ ap (λ (l : List Entry). sum_by (λ (e : Entry). e.order.leaves) l) (sym (found-looked T P rs sums some a k q e))
    where
      sum-marked : (hs : List Held) → sum_by (λ (y : Held). y.1.leaves) hs ≡ sum_by (λ (e : Entry). e.order.leaves) (map (marked T) hs)
      sum-marked [] = refl
      sum-marked (h ∷ hs) = omega (arith, sum_by-cons (λ (y : Held). y.1.leaves) h hs, sum_by-cons (λ (e : Entry). e.order.leaves) (marked T h) (map (marked T) hs), sum-marked hs)

pub first-looked : (T : ℕ → Side → Option ℕ) (hs : List Held) → first_slot hs ≡ slot_of (map (marked T) hs)
first-looked T [] = refl
first-looked T (h ∷ hs) = refl
