-- Queue by queue: what the calls of a pool make of it.
use Rattle.std.proofs.Common.{◌≡◌, ◌≢◌, ℕ, ◌+◌, ◌<◌, ◌≤◌, List, [], ◌∷◌, ◌++◌, map, length, refl, sym, ap, ◌∙◌, arith, inl, inr, get_or-set_other}
use Rattle.std.proofs.lemmas.Grind.{get_or-set_at}
use Prim.Native.Nat.{zero, suc}
use Rattle.std.specs.Prelude.{Option}
use Rattle.std.specs.List.{range_with_len}
use Rattle.gx_base.specs.declared.order.Order.{Order}
use Rattle.gx_base.specs.declared.order.Side.{Side}
use Rattle.plain_book.specs.declared.entry.Entry.{Entry}
use Rattle.plain_book.specs.Orders as orders
use Rattle.plain_book.proofs.Levels.{HasSlot-either}
use Rattle.order_pool.specs.Queues.{Queues, HasSlot, IsLive, entries_at, appended, removed, without_slot, with_entry}
use Rattle.price_level.specs.declared.row.LevelRow.{LevelRow}
use Rattle.book_side.specs.Inner.Flat.{flat, queues_of}
use Rattle.book_side.specs.Inner.Content.{Held, marked, unmarked, resting_of, waiting_of}

pub at-appended : (q : ℕ) (h : Held) (qs : List (List Held)) → q < length qs → entries_at (appended q h qs) q ≡ entries_at qs q ++ h ∷ []
at-appended q h qs lt = get_or-set_at qs q q (entries_at qs q ++ h ∷ []) [] refl lt

pub at-others : (q p : ℕ) (h : Held) (qs : List (List Held)) → p ≢ q → entries_at (appended q h qs) p ≡ entries_at qs p
at-others q p h qs n = get_or-set_other qs q p (entries_at qs q ++ h ∷ []) [] n

pub at-removed : (s : ℕ) (qs : List (List Held)) (q : ℕ) → entries_at (removed s qs) q ≡ without_slot s (entries_at qs q)
at-removed s [] q = refl
at-removed s (x ∷ qs) zero = refl
at-removed s (x ∷ qs) (suc q) = at-removed s qs q

pub at-with_entry : (s : ℕ) (o : Order) (qs : List (List Held)) (q : ℕ) → entries_at (map (with_entry s o) qs) q ≡ with_entry s o (entries_at qs q)
at-with_entry s o [] q = refl
at-with_entry s o (x ∷ qs) zero = refl
at-with_entry s o (x ∷ qs) (suc q) = at-with_entry s o qs q

pub has-below : (s q : ℕ) (qs : List (List Held)) → HasSlot s (entries_at qs q) → q < length qs
has-below s q [] h = absurd h
has-below s zero (x ∷ qs) h = omega arith
has-below s (suc q) (x ∷ qs) h = let lt : q < length qs = has-below s q qs h in omega arith

pub held-marked : (T : ℕ → Side → Option ℕ) (s : ℕ) (hs : List Held) → orders.HasSlot s (map (marked T) hs) → HasSlot s hs
held-marked T s [] h = h
held-marked T s (x ∷ hs) h = elim h [ inl e ↦ inl (sym e) | inr e ↦ inr (held-marked T s hs e) ]

pub marked-held : (T : ℕ → Side → Option ℕ) (s : ℕ) (hs : List Held) → HasSlot s hs → orders.HasSlot s (map (marked T) hs)
marked-held T s [] h = h
marked-held T s (x ∷ hs) h = elim h [ inl e ↦ inl (sym e) | inr e ↦ inr (marked-held T s hs e) ]

pub held-unmarked : (s : ℕ) (hs : List Held) → orders.HasSlot s (map unmarked hs) → HasSlot s hs
held-unmarked s [] h = h
held-unmarked s (x ∷ hs) h = elim h [ inl e ↦ inl (sym e) | inr e ↦ inr (held-unmarked s hs e) ]

-- an order of some of the queues is live
live-in : (b : Queues) (f : Held → Entry) → ((s : ℕ) (hs : List Held) → orders.HasSlot s (map f hs) → HasSlot s hs) → (s : ℕ) (qs : List ℕ) → orders.HasSlot s (flat (λ q. map f (entries_at b.queues q)) qs) → IsLive b s
live-in b f g s [] h = absurd h
live-in b f g s (q ∷ qs) h = elim (HasSlot-either s (map f (entries_at b.queues q)) (flat (λ q. map f (entries_at b.queues q)) qs) h) [
  | inl e ↦ let k = g s (entries_at b.queues q) e in (q, (has-below s q b.queues k, k))
  | inr e ↦ live-in b f g s qs e
]

pub live-held : (b : Queues) (T : ℕ → Side → Option ℕ) (rs : List LevelRow) (c n s : ℕ) → orders.HasSlot s (resting_of T (entries_at b.queues) rs ++ waiting_of (entries_at b.queues) c n) → IsLive b s
live-held b T rs c n s h = elim (HasSlot-either s (resting_of T (entries_at b.queues) rs) (waiting_of (entries_at b.queues) c n) h) [
  | inl e ↦ live-in b (marked T) (held-marked T) s (queues_of rs) e
  | inr e ↦ live-in b unmarked held-unmarked s (range_with_len c n) e
]

-- the queues of the stops are the same
pub flat-range : {X : Type 0} (Q R : ℕ → List X) (c n : ℕ) → ((q : ℕ) → c ≤ q → Q q ≡ R q) → flat Q (range_with_len c n) ≡ flat R (range_with_len c n)
flat-range Q R c zero h = refl
flat-range Q R c (suc n) h = ap (λ l. l ++ flat Q (range_with_len (c + 1) n)) (h c (omega arith)) ∙ ap (λ l. R c ++ l) (flat-range Q R (c + 1) n (λ q le. h q (omega arith)))

pub waiting-same : (P R : ℕ → List Held) (c n : ℕ) → ((q : ℕ) → c ≤ q → R q ≡ P q) → waiting_of R c n ≡ waiting_of P c n
waiting-same P R c n h = flat-range (λ q. map unmarked (R q)) (λ q. map unmarked (P q)) c n (λ q le. ap (λ (l : List Held). map unmarked l) (h q le))
