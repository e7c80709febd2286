-- A stop that comes.
use Rattle.std.proofs.Common.{◌≡◌, ◌≢◌, ℕ, ◌+◌, ◌<◌, false, cond, List, [], ◌∷◌, ◌++◌, map, length, refl, sym, ap, subst, ◌∙◌, arith, inl, inr}
use Rattle.std.proofs.lemmas.List.{length-set, map-append}
use Rattle.std.proofs.lemmas.Bool.Decides.{eqb_tells}
use Rattle.std.specs.Prelude.{Option, Some}
use Rattle.std.specs.List.{AllByRecursion}
use Rattle.gx_base.specs.declared.order.Order.{Order}
use Rattle.plain_book.specs.declared.entry.Entry.{Entry}
use Rattle.plain_book.specs.Orders.{HasSlot, is_live, is_named, slot_named, lined_up}
use Rattle.plain_book.specs.Book.{Book, live_orders, IsRight, IsFitToWait, book_waited}
use Rattle.plain_book.proofs.Pairs.{all-append, none-any}
use Rattle.plain_book.proofs.Right.{live-lined}
use Rattle.plain_book.proofs.Sorted.{IsInserted, inserted-length}
use Rattle.order_pool.specs.Queues as pool
use Rattle.id_table.specs.Ids.{Ids}
use Rattle.price_level.specs.Rows.{Rows, AreRows}
use Rattle.book_side.specs.declared.tops.SideTops.{SideTops}
use Rattle.book_side.specs.Inner.Content.{Held, unmarked, book_of, top_at, waiting_of}
use Rattle.book_side.specs.Inner.Linked.{IsLinked}
use Rattle.book_side.proofs.LevelOf.{held, same-lists}
use Rattle.book_side.proofs.Ids.{IsGiven, is_same_name}
use Rattle.book_side.proofs.Pools.{at-appended, at-others, live-held}
use Rattle.book_side.proofs.Names.{inserted-named}
use Rattle.book_side.proofs.Stops.{stops-lined}
use Rattle.book_side.proofs.Places.{stops-of}
use Rattle.book_side.proofs.Beside.{resting-same, summed-same, unused-same, top-same}
use Rattle.plain_book.proofs.Calls.{right-book_waited}

-- what the call makes
pub record IsWaited (c n : ℕ) (p p' : pool.Queues) (ids' : Ids) (lv : Rows) (tops : List SideTops) (s : ℕ) (o : Order) : Type 0 where
  pub fresh : HasSlot s (live_orders (book_of c n tops p.queues lv.rows)) → ⊥
  pub view : book_of c n tops p'.queues lv.rows ≡ book_waited s o (book_of c n tops p.queues lv.rows)
  pub linked : IsLinked c n p' ids' lv tops

module _ (c n : ℕ) (p p' : pool.Queues) (ids ids' : Ids) (lv : Rows) (tops : List SideTops) (k : IsLinked c n p ids lv tops) (rules : AreRows lv) (s : ℕ) (o : Order) where
  abbrev book : Book
  book = book_of c n tops p.queues lv.rows

  abbrev waits : Order
  waits = record o { shown = 0 }

  abbrev q : ℕ
  q = c + o.instrument

  module _ (fit : IsFitToWait n o) (unnamed : is_live o.firm o.id (live_orders book) ≡ false) (room : length (live_orders book) < c)
      (pushed : p' ≡ record p { queues = pool.appended q (s, waits) p.queues }) (dead : pool.IsLive p s → ⊥) (live : pool.live_of p' ≡ pool.live_of p + 1)
      (names : IsGiven o.firm o.id s ids ids') where
    here : held p' q ≡ held p q ++ (s, waits) ∷ []
    here = ap (λ (x : pool.Queues). pool.entries_at x.queues q) pushed ∙ at-appended q (s, waits) p.queues (omega (arith, fit.listed, k.many))

    there : (r : ℕ) → r ≢ q → held p' r ≡ held p r
    there r ne = ap (λ (x : pool.Queues). pool.entries_at x.queues r) pushed ∙ at-others q r (s, waits) p.queues ne

    below : (r : ℕ) → r < c → held p' r ≡ held p r
    below r lt = there r (λ e. absurd (omega arith))

    abbrev newcomer : Entry
    newcomer = record { slot = s; order = waits; is_top = false }

    waiting-is : waiting_of (held p') c n ≡ lined_up newcomer book.waiting
    waiting-is =
        let W : ℕ → List Entry = λ (r : ℕ). map unmarked (held p r) in
        let W' : ℕ → List Entry = λ (r : ℕ). map unmarked (held p' r) in
        let listed : o.instrument < n = fit.listed in
        sym (stops-lined W W' c o.instrument newcomer refl (ap (λ (l : List Held). map unmarked l) here ∙ map-append unmarked (held p q) ((s, waits) ∷ [])) (λ r ne. ap (λ (l : List Held). map unmarked l) (there r ne))
        c n (stops-of c n p ids lv tops k) (omega arith) (omega arith))

    view : book_of c n tops p'.queues lv.rows ≡ book_waited s o book
    view =
        same-lists c n (resting-same c n p p' ids lv tops k rules below) waiting-is

    fresh : HasSlot s (live_orders book) → ⊥
    fresh h = dead (live-held p (top_at tops) lv.rows c n s h)

    inserted : IsInserted newcomer (live_orders book) (live_orders (book_waited s o book))
    inserted = live-lined book newcomer k.right.lined

    more : length (live_orders (book_of c n tops p'.queues lv.rows)) ≡ length (live_orders book) + 1
    more = ap (λ (x : Book). length (live_orders x)) view ∙ (let l : length (live_orders (book_waited s o book)) ≡ length (live_orders book) + 1 = omega (arith, inserted-length inserted) in l)

    linked : IsLinked c n p' ids' lv tops
    linked = record {
      slots = ap (λ (x : pool.Queues). x.capacity) pushed ∙ k.slots;
      many = ap (λ (x : pool.Queues). length x.queues) pushed ∙ length-set p.queues q (held p q ++ (s, waits) ∷ []) ∙ k.many;
      level_room = k.level_room;
      listed = k.listed;
      id_room = names.capacity ∙ k.id_room;
      sides = k.sides;
      fits = k.fits;
      right = subst IsRight (sym view) (right-book_waited book s k.right room fresh o fit unnamed);
      summed = summed-same c n p p' ids lv tops k rules below;
      some = k.some;
      unused = unused-same c n p p' ids lv tops k rules below;
      stops = λ i lt. elim (eqb_tells i o.instrument) [
        | inl t ↦
            let B : ℕ → Held → Type 0 = λ (i : ℕ) (h : Held). h.1.instrument ≡ i in
            subst (λ (j : ℕ). AllByRecursion (B j) (held p' (c + j))) (sym t.1)
            (subst (AllByRecursion (B o.instrument)) (sym here) (all-append (B o.instrument) (held p q) ((s, waits) ∷ []) (k.stops o.instrument fit.listed) (refl, tt)))
        | inr t ↦ subst (AllByRecursion (λ (h : Held). h.1.instrument ≡ i)) (sym (there (c + i) (λ e. t.1 (omega arith)))) (k.stops i lt)
      ];
      top = top-same c n p p' ids lv tops k rules below;
      live = omega (arith, live, k.live, more);
      count = omega (arith, names.count, k.count, more);
      named = λ f i.
          names.names f i ∙ ap (λ (t : Option ℕ). cond (is_same_name o.firm o.id f i) (Some s) t) (k.named f i)
          ∙ sym (inserted-named newcomer (live_orders book) (live_orders (book_waited s o book)) inserted (none-any (is_named o.firm o.id) (live_orders book) unnamed) f i)
          ∙ ap (λ (x : Book). slot_named f i (live_orders x)) (sym view);
    }

    pub waited : IsWaited c n p p' ids' lv tops s o
    waited = record { fresh = fresh; view = view; linked = linked }
