-- What each call of a pool makes of it.
use Rattle.std.proofs.Common.{◌≡◌, ◌≢◌, ℕ, ◌+◌, ◌-◌, ◌<◌, ◌≤◌, ◌^◌, List, [], ◌∷◌, ◌++◌, length, map, refl, sym, ap, subst, ◌∙◌, arith, slice_set, get_or, inr, Some, None}
use Rattle.std.proofs.lemmas.List.{get_or-set_same}
use Rattle.gx_base.specs.declared.order.Order.{Order}
use Rattle.order_pool.specs.Inner.Block.{Cell, Cells, cell_at, no_cell, with_order, relinked, detached, attached, IsAmong}
use Rattle.order_pool.specs.Inner.Rings.{order_at, queue_at, prev_at, next_at, AreWholeRings, IsOut, IsPool, IsPoolWith, IsChain, AreFree, In, ring_at, rings_of, without, queues_with, queues_in, HasTaken, HasPut}
use Rattle.order_pool.specs.Queues.{Queues, IsIn, IsLive, entries_at, first_slot, next_slot, order_of, appended, removed, with_entry, live_of}
use Rattle.order_pool.proofs.CellsAt.{kept}
use Rattle.order_pool.proofs.Paths.{each-in, each-of, chain-same, prev-is, next-is}
use Rattle.order_pool.proofs.RingMoves.{detached_order, detached_next, attached_next}
use Rattle.order_pool.proofs.WholeRings.{rings_of-is, member, set_other, IsOut-detached, IsOut-set, AreWholeRings-freed, AreWholeRings-came}
use Rattle.order_pool.proofs.Views.{entries-out, entries-kept, entries-came}
use Rattle.order_pool.proofs.Pools.{Seen, seen, order_of-seen, pool-with, live_is, count_some, counts-out, counts-back, counts-came, count_fits}
use Rattle.order_pool.proofs.PoolCalls.{below, first_is_in, first_is_some, first_is_none, next_is_in, next_is_some, next_is_none}
use Rattle.order_pool.proofs.PoolFacts.{IsIn-appended}
use Rattle.order_pool.proofs.Shown.{IsPool-ordered, view-ordered}

module _ (b : Cells) (free : List ℕ) (pool : IsPool b free) (now : Queues) (shown : queues_in b ≡ now) where
  abbrev cs : List Cell
  cs = b.cells

  abbrev slots : ℕ
  slots = b.slots

  abbrev queues : ℕ
  queues = b.queues

  abbrev L : List (List ℕ)
  L = rings_of cs slots queues

  abbrev whole : AreWholeRings cs slots queues b.lent free L
  whole = pool.whole

  pub live : live_of now + length free ≡ b.lent
  live = let l = live_is cs slots queues L in let e = ap live_of shown in omega (arith, l, e, whole.total)

  pub capacity : slots ≡ now.capacity
  capacity = ap (λ (x : Queues). x.capacity) shown

  -- ---- what is read

  -- a slot in queue q, as the fields have it
  pub in_queue : (i q : ℕ) → IsIn now i q → Seen cs slots queues b.lent L i q
  in_queue i q h = seen cs slots queues L whole now i q shown h

  pub is_queue : (q : ℕ) → q < length now.queues → q < queues
  is_queue q h = below cs slots queues L whole now shown q h

  pub first_some : (q n : ℕ) → q < length now.queues → n ≡ next_at cs (slots + q) → n < slots → (Some n ≡ first_slot (entries_at now.queues q)) × IsIn now n q
  first_some q n h e lt =
      let at : next_at cs (slots + q) < slots = omega (arith, e) in
      subst (λ (k : ℕ). (Some k ≡ first_slot (entries_at now.queues q)) × IsIn now k q) (sym e)
      (sym (first_is_some cs slots queues L whole now shown q (is_queue q h) at), first_is_in cs slots queues L whole now shown q (is_queue q h) at)

  pub first_none : (q n : ℕ) → q < length now.queues → n ≡ next_at cs (slots + q) → slots ≤ n → None ≡ first_slot (entries_at now.queues q)
  first_none q n h e le = sym (first_is_none cs slots queues L whole now shown q (is_queue q h) (omega (arith, e)))

  pub next_some : (i q n : ℕ) → IsIn now i q → n ≡ next_at cs i → n < slots → (Some n ≡ next_slot i (entries_at now.queues q)) × IsIn now n q
  next_some i q n h e lt =
      let at : next_at cs i < slots = omega (arith, e) in
      subst (λ (k : ℕ). (Some k ≡ next_slot i (entries_at now.queues q)) × IsIn now k q) (sym e)
      (sym (next_is_some cs slots queues L whole now shown i q h at), next_is_in cs slots queues L whole now shown i q h at)

  pub next_none : (i q n : ℕ) → IsIn now i q → n ≡ next_at cs i → slots ≤ n → None ≡ next_slot i (entries_at now.queues q)
  next_none i q n h e le = sym (next_is_none cs slots queues L whole now shown i q h (omega (arith, e)))

  -- ---- an order comes

  -- the fields once slot i has come to queue q, with as many slots lent and heads in memory
  abbrev pub with_came : List Cell → ℕ → ℕ → ℕ → ℕ → ℕ → ℕ → Cells
  with_came ds lent used first many i q = record { slots = slots; queues = queues; lent = lent; used = used; cells = attached ds i (slots + q) q; counts = slice_set b.counts q (get_or b.counts q 0 + 1); free = first; freed = many }

  pub record Pushed (i q : ℕ) (o : Order) (new : Cells) (free' : List ℕ) : Type 0 where
    pub kept : IsPool new free'
    pub fresh : IsLive now i → ⊥
    pub is : queues_in new ≡ record now { queues = appended q (i, o) now.queues }
    pub more : live_of (queues_in new) ≡ live_of now + 1
    pub placed : IsIn (queues_in new) i q

  module _ (i : ℕ) (o : Order) (old : Cells) (free' : List ℕ) (taken : HasTaken b old free' i o) where
    out : IsOut old.cells slots queues old.lent free' L i
    out = taken.out

    pub fits_count : (q : ℕ) → q < queues → get_or b.counts q 0 + 1 < 2 ^ 32
    fits_count q lq = omega (arith, count_fits old.cells slots queues b.counts L i out pool.counted q lq, pool.fits)

    module _ (q used : ℕ) (h : q < length now.queues) where
      abbrev M : List (List ℕ)
      M = slice_set L q (ring_at L q ++ i ∷ [])

      abbrev target : Cells
      target = with_came old.cells old.lent used old.free old.freed i q

      lq : q < queues
      lq = is_queue q h

      whole' : AreWholeRings target.cells slots queues old.lent free' M
      whole' = AreWholeRings-came old.cells slots queues L i out q lq

      chained' : AreFree target free'
      chained' = record {
        chain = chain-same (next_at old.cells) (next_at target.cells) old.free free' (each-of (λ k. next_at target.cells k ≡ next_at old.cells k) free' (λ k m.
            attached_next old.cells slots queues L out.are q i lq (omega (arith, out.slot, out.room)) out.gone k (each-in (λ j. j ≢ i) k free' m out.others)
            (λ e. let t : queue_at old.cells k ≡ queues = each-in (λ j. queue_at old.cells j ≡ queues) k free' m out.tags in omega (arith, lq)))) taken.chained.chain;
        many = taken.chained.many;
      }

      kept' : IsPool target free'
      kept' = pool-with target free' chained' M (record { whole = whole'; fits = pool.fits; counted = counts-came old.cells slots queues b.counts L i out pool.counted q lq _ refl })

      is' : queues_in target ≡ record now { queues = appended q (i, o) now.queues }
      is' =
          subst (λ (x : Queues). queues_in target ≡ record x { queues = appended q (i, o) x.queues }) shown
          (ap (queues_with target.cells slots queues) (rings_of-is target.cells slots queues M whole')
          ∙ (λ j. record { capacity = slots; queues = entries-came old.cells slots queues L i out q lq j })
          ∙ (λ j. record { capacity = slots; queues = appended q (i, taken.order j) (entries-kept old.cells slots queues L i out cs taken.others j) }))

      pub pushed : (new : Cells) → new ≡ target → Pushed i q o new free'
      pushed new e =
          subst (λ (x : Cells). Pushed i q o x free') (sym e)
          (record {
            kept = kept';
            fresh = λ l. let s = in_queue i l.0 l.1 in each-in (λ k. k ≢ i) i (ring_at L l.0) s.ring (out.gone l.0 s.queue) refl;
            is = is';
            more = let a = live_is target.cells slots queues M in let r = ap (λ (X : List (List ℕ)). live_of (queues_with target.cells slots queues X)) (rings_of-is target.cells slots queues M whole') in omega (arith, a, r, whole'.total, out.total, live_is cs slots queues L, ap live_of shown);
            placed = subst (λ (x : Queues). IsIn x i q) (sym is') (IsIn-appended now q i o h);
          })

  pub put_pushed : (i q : ℕ) (o : Order) (new : Cells) (free' : List ℕ) → HasPut b new free' q o i → q < length now.queues → Pushed i q o new free'
  put_pushed i q o new free' put h =
      let mid = put.0 in
      let t = put.1 in
      pushed i o mid free' t q mid.used h new
      (put.2 ∙ (λ j. record {
        slots = t.slots j;
        queues = t.queues j;
        lent = mid.lent;
        used = mid.used;
        cells = attached mid.cells i (t.slots j + q) q;
        counts = slice_set (t.counts j) q (get_or (t.counts j) q 0 + 1);
        free = mid.free;
        freed = mid.freed;
      }))

  -- ---- an order leaves

  pub record Unlinked (i : ℕ) (new : Cells) : Type 0 where
    pub kept : IsPool new (i ∷ free)
    pub is : queues_in new ≡ record now { queues = removed i now.queues }
    pub fewer : live_of (queues_in new) + 1 ≡ live_of now
    pub room : live_of (queues_in new) < slots

  module _ (i q : ℕ) (h : IsIn now i q) where
    s : Seen cs slots queues b.lent L i q
    s = in_queue i q h

    abbrev r : ℕ
    r = queue_at cs i

    lr : r < queues
    lr = omega (arith, s.tag, s.queue)

    abbrev L₁ : List (List ℕ)
    L₁ = map (without i) L

    pub some_count : 0 < get_or b.counts r 0
    some_count = count_some cs slots queues b.counts L whole pool.counted i s.slot lr

    -- it is in a queue, as are its neighbours
    pub among : IsAmong b i
    among =
        let ring = whole.are.each q s.queue in
        let T : ℕ → Type 0 = λ y. queue_at cs y ≡ q in
        let head : T (slots + q) = whole.are.heads q s.queue in
        record {
          slot = s.slot;
          used = (lr, inr some_count);
          prev = prev-is (next_at cs) (prev_at cs) T i (slots + q) (ring_at L q) (slots + q) ring.path ring.tag head s.ring ∙ sym s.tag;
          next = next-is (next_at cs) (prev_at cs) T i (slots + q) (ring_at L q) (slots + q) ring.path ring.tag head s.ring ∙ sym s.tag;
        }

    abbrev gone : List Cell
    gone = detached cs i

    out₁ : IsOut gone slots queues b.lent free L₁ i
    out₁ = IsOut-detached cs slots queues L whole i s.slot lr

    pub some_live : b.freed < b.lent
    some_live = omega (arith, out₁.total, pool.chained.many)

    -- the free slots stay where they are
    gone_next : (k : ℕ) → In k free → next_at gone k ≡ next_at cs k
    gone_next k m = detached_next cs slots queues L whole.are r i lr (member cs slots queues L whole i s.slot lr) k (λ e. let t : queue_at cs k ≡ queues = each-in (λ j. queue_at cs j ≡ queues) k free m whole.tags in omega (arith, lr))

    -- what the link before a slot that left leads to does not matter
    module _ (before : ℕ) where
      abbrev left : List Cell
      left = relinked gone i before b.free queues

      abbrev c₁ : Cell
      c₁ = record (cell_at gone i) { prev = before; next = b.free; queue = queues }

      in_cells : i < length gone
      in_cells = let l = out₁.are.cells in let lo = s.slot in let rm = whole.room in omega arith

      left_tag : queue_at left i ≡ queues
      left_tag = ap (λ (c : Cell). c.queue) (get_or-set_same gone i c₁ no_cell in_cells)

      left_order : (k : ℕ) → order_at left k ≡ order_at gone k
      left_order = kept (λ c. c.order) gone i c₁ in_cells refl

      out₂ : IsOut left slots queues b.lent free L₁ i
      out₂ = IsOut-set gone slots queues L₁ i out₁ c₁

      abbrev pub fields_out : Cells
      fields_out = record b { cells = left; counts = slice_set b.counts r (get_or b.counts r 0 - 1); free = i; freed = b.freed + 1 }

      whole₂ : AreWholeRings left slots queues b.lent (i ∷ free) L₁
      whole₂ = AreWholeRings-freed left slots queues L₁ i out₂ left_tag

      chained₂ : AreFree fields_out (i ∷ free)
      chained₂ = record {
        chain = (
          refl,
          subst (λ (a : ℕ). IsChain (next_at left) a free) (sym (ap (λ (c : Cell). c.next) (get_or-set_same gone i c₁ no_cell in_cells)))
              (chain-same (next_at cs) (next_at left) b.free free (each-of (λ k. next_at left k ≡ next_at cs k) free (λ k m.
              ap (λ (c : Cell). c.next) (set_other gone slots queues L₁ i out₁ c₁ k (each-in (λ j. j ≢ i) k free m out₁.others)) ∙ gone_next k m)) pool.chained.chain),
        );
        many = let l : length (i ∷ free) ≡ length free + 1 = omega arith in l ∙ ap (λ (n : ℕ). n + 1) pool.chained.many;
      }

      is₂ : queues_in fields_out ≡ record now { queues = removed i now.queues }
      is₂ =
          subst (λ (x : Queues). queues_in fields_out ≡ record x { queues = removed i x.queues }) shown
          (ap (queues_with left slots queues) (rings_of-is left slots queues L₁ whole₂)
          ∙ (λ j. record { capacity = slots; queues = entries-kept left slots queues L₁ i out₂ gone (λ k ne. left_order k) j })
          ∙ (λ j. record { capacity = slots; queues = entries-out cs slots queues L whole i s.slot lr j }))

      pub unlinked : (new : Cells) → new ≡ fields_out → Unlinked i new
      unlinked new e =
          subst (Unlinked i) (sym e)
          (let a = live_is left slots queues L₁ in
          let x = ap (λ (X : List (List ℕ)). live_of (queues_with left slots queues X)) (rings_of-is left slots queues L₁ whole₂) in
          let l = ap live_of shown in
          record {
            kept = pool-with fields_out (i ∷ free) chained₂ L₁ (record {
              whole = whole₂;
              fits = pool.fits;
              counted = counts-out cs slots queues b.counts L whole pool.counted i s.slot lr _ (let p = some_count in omega arith);
            });
            is = is₂;
            fewer = omega (arith, a, x, l, live_is cs slots queues L, out₁.total, whole.total);
            room = omega (arith, a, x, out₁.total, whole.room);
          })

    -- ---- an order goes to the end of its queue

    pub record SentBack (new : Cells) : Type 0 where
      pub kept : IsPool new free
      pub is : (t : ℕ) → IsIn now i t → queues_in new ≡ record now { queues = appended t (i, order_of i (entries_at now.queues t)) (removed i now.queues) }
      pub same : live_of (queues_in new) ≡ live_of now

    abbrev pub fields_back : Cells
    fields_back = record b { cells = attached gone i (slots + r) r }

    abbrev M₁ : List (List ℕ)
    M₁ = slice_set L₁ r (ring_at L₁ r ++ i ∷ [])

    whole₃ : AreWholeRings fields_back.cells slots queues b.lent free M₁
    whole₃ = AreWholeRings-came gone slots queues L₁ i out₁ r lr

    gone_order : (k : ℕ) → order_at gone k ≡ order_at cs k
    gone_order = detached_order cs slots queues L whole.are r i lr (member cs slots queues L whole i s.slot lr)

    is₃ : (t : ℕ) → IsIn now i t → queues_in fields_back ≡ record now { queues = appended t (i, order_of i (entries_at now.queues t)) (removed i now.queues) }
    is₃ t ht =
        let s' = in_queue i t ht in
        let o : order_at gone i ≡ order_of i (entries_at now.queues t) = gone_order i ∙ sym (order_of-seen cs slots queues L whole now i t shown s') in
        ap (queues_with fields_back.cells slots queues) (rings_of-is fields_back.cells slots queues M₁ whole₃)
        ∙ (λ j. record { capacity = slots; queues = entries-came gone slots queues L₁ i out₁ r lr j })
        ∙ (λ j. record { capacity = slots; queues = appended (s'.tag j) (i, o j) (entries-out cs slots queues L whole i s.slot lr j) })
        ∙ (λ j. record { capacity = capacity j; queues = appended t (i, order_of i (entries_at now.queues t)) (removed i (shown j).queues) })

    chained₃ : AreFree fields_back free
    chained₃ = record {
      chain = chain-same (next_at cs) (next_at fields_back.cells) b.free free (each-of (λ k. next_at fields_back.cells k ≡ next_at cs k) free (λ k m.
          attached_next gone slots queues L₁ out₁.are r i lr (omega (arith, out₁.slot, out₁.room)) out₁.gone k (each-in (λ j. j ≢ i) k free m out₁.others)
          (λ e. let t : queue_at gone k ≡ queues = each-in (λ j. queue_at gone j ≡ queues) k free m out₁.tags in omega (arith, lr)) ∙ gone_next k m)) pool.chained.chain;
      many = pool.chained.many;
    }

    pub sent_back : (new : Cells) → new ≡ fields_back → SentBack new
    sent_back new e =
        subst SentBack (sym e)
        (let a = live_is fields_back.cells slots queues M₁ in
        let x = ap (λ (X : List (List ℕ)). live_of (queues_with fields_back.cells slots queues X)) (rings_of-is fields_back.cells slots queues M₁ whole₃) in
        record {
          kept = pool-with fields_back free chained₃ M₁ (record { whole = whole₃; fits = pool.fits; counted = counts-back cs slots queues b.counts L whole pool.counted i s.slot lr });
          is = is₃;
          same = omega (arith, a, x, whole₃.total, live);
        })

    -- ---- an order is set

    pub record Reset (o : Order) (new : Cells) : Type 0 where
      pub kept : IsPool new free
      pub is : queues_in new ≡ record now { queues = map (with_entry i o) now.queues }
      pub same : live_of (queues_in new) ≡ live_of now

    pub reset : (o : Order) (new : Cells) → new ≡ record b { cells = with_order cs i o } → Reset o new
    reset o new e =
        subst (Reset o) (sym e)
        (let plain : IsPoolWith cs slots queues b.lent free b.counts L = record { whole = pool.whole; fits = pool.fits; counted = pool.counted } in
        let after = IsPool-ordered cs slots queues b.counts L plain i o s.slot in
        let c : Cell = record (cell_at cs i) { order = o } in
        let ds = with_order cs i o in
        record {
          kept = pool-with (record b { cells = ds }) free
              (record {
                chain = chain-same (next_at cs) (next_at ds) b.free free (each-of (λ k. next_at ds k ≡ next_at cs k) free (λ k m. kept (λ d. d.next) cs i c s.cell refl k)) pool.chained.chain;
                many = pool.chained.many;
              }) (rings_of ds slots queues) after;
          is = view-ordered cs slots queues b.counts L plain i o s.slot now shown;
          same = let a = live_is ds slots queues (rings_of ds slots queues) in omega (arith, a, after.whole.total, live);
        })

    -- the order of the slot is changed where it is
    pub record Changed (f : Order → Order) (new : Cells) : Type 0 where
      pub kept : IsPool new free
      pub slots_stay : new.slots ≡ slots
      pub is : (t : ℕ) → IsIn now i t → queues_in new ≡ record now { queues = map (with_entry i (f (order_of i (entries_at now.queues t)))) now.queues }
      pub same : live_of (queues_in new) ≡ live_of now

    pub changed : (f : Order → Order) (new : Cells) → new ≡ record b { cells = with_order cs i (f (order_at cs i)) } → Changed f new
    changed f new e =
        let after = reset (f (order_at cs i)) new e in
        record {
          kept = after.kept;
          slots_stay = ap (λ (x : Cells). x.slots) e;
          is = λ t h. after.is ∙ ap (λ (x : Order). record now { queues = map (with_entry i (f x)) now.queues }) (sym (order_of-seen cs slots queues L whole now i t shown (in_queue i t h)));
          same = after.same;
        }
