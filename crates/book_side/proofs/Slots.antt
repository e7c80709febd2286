-- One order of the queues, by its slot.
use Rattle.std.proofs.Common.{◌≡◌, ◌≢◌, ℕ, ◌+◌, Bool, true, false, cond, not, List, [], ◌∷◌, map, length, refl, sym, ap, subst, ◌∙◌, arith, inl, inr}
use Rattle.std.proofs.lemmas.Bool.Decides.{eqb_tells}
use Rattle.std.proofs.lemmas.List.Sums.{sum_by-cons}
use Rattle.std.specs.Prelude.{◌==◌, Option, sum_by}
use Rattle.std.specs.List.{AllByRecursion}
use Rattle.gx_base.specs.declared.order.Order.{Order}
use Rattle.gx_base.specs.declared.order.Side.{Side}
use Rattle.plain_book.specs.declared.entry.Entry.{Entry}
use Rattle.plain_book.specs.Orders as orders
use Rattle.plain_book.specs.Book.{AllDiffer}
use Rattle.plain_book.proofs.Levels.{order_of-left, order_of-right, slots-apart, AllDiffer-back}
use Rattle.plain_book.proofs.Pairs.{all-front, all-back}
use Rattle.order_pool.specs.Queues.{Queues, HasSlot, IsIn, IsLive, NoRepeat, SlotsDiffer, entries_at, order_of, without_slot, with_entry}
use Rattle.price_level.specs.declared.row.LevelRow.{LevelRow}
use Rattle.price_level.specs.Rows.{HasQueue}
use Rattle.book_side.specs.Inner.Flat.{flat, queues_of}
use Rattle.book_side.specs.Inner.Content.{Held, marked, resting_of}
use Rattle.book_side.proofs.Flat.{flat-had, flat-has}
use Rattle.book_side.proofs.Pools.{held-marked, marked-held, has-below}

-- ---- in one queue

test-at : (s : ℕ) (h : Held) → s ≡ h.0 → (h.0 == s) ≡ true
test-at s h e = elim (eqb_tells h.0 s) [ inl t ↦ t.0 | inr t ↦ absurd (t.1 (sym e)) ]

test-off : (s : ℕ) (h : Held) (hs : List Held) → (HasSlot s (h ∷ hs) → ⊥) → (h.0 == s) ≡ false
test-off s h hs n = elim (eqb_tells h.0 s) [ inl t ↦ absurd (n (inl (sym t.1))) | inr t ↦ t.0 ]

pub with_entry-none : (s : ℕ) (o : Order) (hs : List Held) → (HasSlot s hs → ⊥) → with_entry s o hs ≡ hs
with_entry-none s o [] n = refl
with_entry-none s o (h ∷ hs) n =
    ap (λ (b : Bool). (let x : Held = (h.0, cond b o h.1) in x) ∷ with_entry s o hs) (test-off s h hs n) ∙ ap (λ (l : List Held). h ∷ l) (with_entry-none s o hs (λ k. n (inr k)))

pub without_slot-none : (s : ℕ) (hs : List Held) → (HasSlot s hs → ⊥) → without_slot s hs ≡ hs
without_slot-none s [] n = refl
without_slot-none s (h ∷ hs) n =
    ap (λ (b : Bool). cond (not b) (h ∷ without_slot s hs) (without_slot s hs)) (test-off s h hs n) ∙ ap (λ (l : List Held). h ∷ l) (without_slot-none s hs (λ k. n (inr k)))

first-is : (s : ℕ) (h : Held) (hs : List Held) → HasSlot s (h ∷ hs) → NoRepeat (h ∷ hs) → (b : Bool) → (h.0 == s) ≡ b → cond b (HasSlot s hs → ⊥) (HasSlot s hs)
first-is s h hs k d true e = elim (eqb_tells h.0 s) [ inl t ↦ (λ x. d.0 (subst (λ (y : ℕ). HasSlot y hs) (sym t.1) x)) | inr t ↦ absurd (let z : true ≡ false = sym e ∙ t.0 in cc) ]
first-is s h hs k d false e = elim k [ inl x ↦ absurd (let z : true ≡ false = sym (test-at s h x) ∙ e in cc) | inr x ↦ x ]

module _ (g : Order → ℕ) where
  abbrev f : Held → ℕ
  f h = g h.1

  -- a sum when an order changes
  pub sum-with_entry : (s : ℕ) (o : Order) (hs : List Held) → HasSlot s hs → NoRepeat hs → sum_by (λ (h : Held). g h.1) (with_entry s o hs) + g (order_of s hs) ≡ sum_by (λ (h : Held). g h.1) hs + g o
  sum-with_entry s o [] k d = absurd k
  sum-with_entry s o (h ∷ hs) k d =
      let go : (b : Bool) → (h.0 == s) ≡ b → sum_by f ((h.0, cond b o h.1) ∷ with_entry s o hs) + g (cond b h.1 (order_of s hs)) ≡ sum_by f (h ∷ hs) + g o = elim [
        | true ↦ λ e.
            let none : HasSlot s hs → ⊥ = first-is s h hs k d true e in
            omega (arith, sum_by-cons f (h.0, o) (with_entry s o hs), sum_by-cons f h hs, ap (λ (l : List Held). sum_by f l) (with_entry-none s o hs none))
        | false ↦ λ e.
            let later : HasSlot s hs = first-is s h hs k d false e in
            omega (arith, sum_by-cons f (h.0, h.1) (with_entry s o hs), sum_by-cons f h hs, sum-with_entry s o hs later d.1)
      ] in go (h.0 == s) refl

  -- a sum when an order goes
  pub sum-without_slot : (s : ℕ) (hs : List Held) → HasSlot s hs → NoRepeat hs → sum_by (λ (h : Held). g h.1) (without_slot s hs) + g (order_of s hs) ≡ sum_by (λ (h : Held). g h.1) hs
  sum-without_slot s [] k d = absurd k
  sum-without_slot s (h ∷ hs) k d =
      let go : (b : Bool) → (h.0 == s) ≡ b → sum_by f (cond (not b) (h ∷ without_slot s hs) (without_slot s hs)) + g (cond b h.1 (order_of s hs)) ≡ sum_by f (h ∷ hs) = elim [
        | true ↦ λ e.
            let none : HasSlot s hs → ⊥ = first-is s h hs k d true e in
            omega (arith, sum_by-cons f h hs, ap (λ (l : List Held). sum_by f l) (without_slot-none s hs none))
        | false ↦ λ e.
            let later : HasSlot s hs = first-is s h hs k d false e in
            omega (arith, sum_by-cons f h (without_slot s hs), sum_by-cons f h hs, sum-without_slot s hs later d.1)
      ] in go (h.0 == s) refl

pub length-without_slot : (s : ℕ) (hs : List Held) → HasSlot s hs → NoRepeat hs → length (without_slot s hs) + 1 ≡ length hs
length-without_slot s [] k d = absurd k
length-without_slot s (h ∷ hs) k d =
    let go : (b : Bool) → (h.0 == s) ≡ b → length (cond (not b) (h ∷ without_slot s hs) (without_slot s hs)) + 1 ≡ length (h ∷ hs) = elim [
      | true ↦ λ e. let none : HasSlot s hs → ⊥ = first-is s h hs k d true e in omega (arith, ap (λ (l : List Held). length l) (without_slot-none s hs none))
      | false ↦ λ e. let later : HasSlot s hs = first-is s h hs k d false e in omega (arith, length-without_slot s hs later d.1)
    ] in go (h.0 == s) refl

-- ---- in the queues of the levels

pub order-marked : (T : ℕ → Side → Option ℕ) (s : ℕ) (hs : List Held) → HasSlot s hs → orders.order_of s (map (marked T) hs) ≡ order_of s hs
order-marked T s [] k = absurd k
order-marked T s (h ∷ hs) k =
    let go : (b : Bool) → (h.0 == s) ≡ b → cond b h.1 (orders.order_of s (map (marked T) hs)) ≡ cond b h.1 (order_of s hs) = elim [
      | true ↦ λ e. refl
      | false ↦ λ e. order-marked T s hs (elim k [ inl x ↦ absurd (let z : true ≡ false = sym (test-at s h x) ∙ e in cc) | inr x ↦ x ])
    ] in go (h.0 == s) refl

flat-order : (s q : ℕ) (E : ℕ → List Entry) (rs : List LevelRow) → AllDiffer (flat E (queues_of rs)) → HasQueue q rs → orders.HasSlot s (E q) → orders.order_of s (flat E (queues_of rs)) ≡ orders.order_of s (E q)
flat-order s q E [] d h k = absurd h
flat-order s q E (r ∷ rs) d h k =
    let F = flat E (queues_of rs) in
    elim h [
      | inl e ↦ order_of-left s (E r.queue) F (subst (λ (p : ℕ). orders.HasSlot s (E p)) (sym e) k) ∙ ap (λ (p : ℕ). orders.order_of s (E p)) e
      | inr e ↦
          order_of-right s (E r.queue) F (λ l. slots-apart s (E r.queue) F d l (flat-has s q E rs e k))
          ∙ flat-order s q E rs (AllDiffer-back (E r.queue) F d) e k
    ]

-- where an order that rests is
pub record Rests (b : Queues) (rs : List LevelRow) (s q : ℕ) : Type 0 where
  pub is_row : HasQueue q rs
  pub has : HasSlot s (entries_at b.queues q)

module _ (b : Queues) (T : ℕ → Side → Option ℕ) (rs : List LevelRow) (s : ℕ) where
  pub rests-live : orders.HasSlot s (resting_of T (entries_at b.queues) rs) → IsLive b s
  rests-live h =
      let k = flat-had s (λ q. map (marked T) (entries_at b.queues q)) rs h in
      let held = held-marked T s (entries_at b.queues k.queue) k.has in
      (k.queue, (has-below s k.queue b.queues held, held))

  pub rests-in : SlotsDiffer b → orders.HasSlot s (resting_of T (entries_at b.queues) rs) → (q : ℕ) → IsIn b s q → Rests b rs s q
  rests-in d h q is =
      let k = flat-had s (λ p. map (marked T) (entries_at b.queues p)) rs h in
      let held = held-marked T s (entries_at b.queues k.queue) k.has in
      let same : k.queue ≡ q = d.across s k.queue q (has-below s k.queue b.queues held, held) is in
      record { is_row = subst (λ (p : ℕ). HasQueue p rs) same k.is_row; has = is.1 }

  pub rests-order : (q : ℕ) → Rests b rs s q → AllDiffer (resting_of T (entries_at b.queues) rs) → orders.order_of s (resting_of T (entries_at b.queues) rs) ≡ order_of s (entries_at b.queues q)
  rests-order q r d =
      flat-order s q (λ p. map (marked T) (entries_at b.queues p)) rs d r.is_row (marked-held T s (entries_at b.queues q) r.has)
      ∙ order-marked T s (entries_at b.queues q) r.has

  -- no other queue has its slot
  pub rests-alone : SlotsDiffer b → (q : ℕ) → IsIn b s q → (p : ℕ) → p ≢ q → HasSlot s (entries_at b.queues p) → ⊥
  rests-alone d q is p n h = n (d.across s p q (has-below s p b.queues h, h) is)

-- what holds of each order holds of those of each level
pub flat-each : (A : Entry → Type 0) (E : ℕ → List Entry) (rs : List LevelRow) → AllByRecursion A (flat E (queues_of rs)) → AllByRecursion (λ (r : LevelRow). AllByRecursion A (E r.queue)) rs
flat-each A E [] a = tt
flat-each A E (r ∷ rs) a = (all-front A (E r.queue) (flat E (queues_of rs)) a, flat-each A E rs (all-back A (E r.queue) (flat E (queues_of rs)) a))
