-- A new pool, and a slot that is taken for a new order.
use Rattle.std.proofs.Common.{◌≡◌, ℕ, ◌+◌, ◌-◌, ◌<◌, ◌^◌, List, [], ◌∷◌, length, map, refl, sym, ap, subst, ◌∙◌, arith, replicate, slice_set}
use Prim.Native.Nat.{zero, suc}
use Rattle.std.proofs.lemmas.List.{length-replicate, get_or-set_same, get_or-set_other}
use Rattle.std.proofs.lemmas.List.Sums.{sum_by-cons}
use Rattle.std.specs.Prelude.{sum_by}
use Rattle.gx_base.specs.declared.order.Order.{Order}
use Rattle.order_pool.specs.Inner.Block.{Cell, Cells, cell_at, no_cell, past_all, no_ends, lead, head_cell, new_block, with_order, HasFree}
use Rattle.order_pool.specs.Inner.Rings.{order_at, next_at, queue_at, Each, IsChain, AreFree, IsRing, AreWholeRings, IsOut, IsPool, ring_at, rings_of, entry, queues_with, queues_in, HasTaken}
use Rattle.order_pool.specs.Queues.{Entry, empty_queues}
use Rattle.order_pool.proofs.Cells.{shown-length, counts-length, slot-shown, head-shown, count-shown}
use Rattle.order_pool.proofs.Nodes.{lead-out, index_of-place}
use Rattle.order_pool.proofs.CellsAt.{kept}
use Rattle.order_pool.proofs.Paths.{chain-same, each-of}
use denote.RawPtr.{Ptr, block_ptr}
use Rattle.order_pool.proofs.WholeRings.{rings_of-is, IsOut-lent, IsOut-popped, IsOut-set}
use Rattle.order_pool.proofs.Pools.{pool-with}

abbrev none : ℕ → List (List ℕ)
none n = replicate n []

none-at : (n q : ℕ) → ring_at (none n) q ≡ []
none-at zero q = refl
none-at (suc n) zero = refl
none-at (suc n) (suc q) = none-at n q

none-sum : (n : ℕ) → sum_by length (none n) ≡ 0
none-sum zero = refl
none-sum (suc n) = let e = sum_by-cons length [] (none n) in let r = none-sum n in let z : length {A = ℕ} [] ≡ 0 = refl in omega (arith, e, z, r)

empties : (cs : List Cell) (n : ℕ) → map (map (entry cs)) (none n) ≡ replicate n []
empties cs zero = refl
empties cs (suc n) = ap (λ (xs : List (List Entry)). [] ∷ xs) (empties cs n)

module _ (slots queues : ℕ) where
  abbrev b : Cells
  b = new_block slots queues

  abbrev base : Ptr
  base = block_ptr 0 0

  abbrev past : Ptr
  past = past_all base slots

  own : (q : ℕ) → lead base slots (slots + q) past ≡ slots + q
  own q = lead-out base slots (slots + q) past (omega (arith, index_of-place base slots tt))

  head : (q : ℕ) → q < queues → cell_at b.cells (slots + q) ≡ head_cell base slots q (no_ends past)
  head q lq = head-shown slots queues base [] [] q lq

  whole : AreWholeRings b.cells slots queues 0 [] (none queues)
  whole = record {
    are = record {
      cells = shown-length slots queues base [] [];
      count = length-replicate queues [];
      each = λ q lq.
          let c = head q lq in
          subst (λ (ks : List ℕ). IsRing b.cells slots q ks) (sym (none-at queues q))
          (record { path = (ap (λ (d : Cell). d.next) c ∙ own q, ap (λ (d : Cell). d.prev) c ∙ own q); slot = tt; tag = tt; differ = tt });
      heads = λ q lq. ap (λ (d : Cell). d.queue) (head q lq);
    };
    room = omega arith;
    covers = λ k lk. absurd (omega arith);
    unlent = λ k le lk. ap (λ (d : Cell). d.queue) (slot-shown slots queues base [] [] k lk);
    within = tt;
    tags = tt;
    differ = tt;
    total = let e = none-sum queues in let z : length {A = ℕ} [] ≡ 0 = refl in omega (arith, e, z);
  }

  pub IsPool-new : slots + queues < 2 ^ 32 → IsPool b []
  IsPool-new fits =
      pool-with b [] (record { chain = tt; many = refl }) (none queues)
      (record {
        whole = whole;
        fits = fits;
        counted = record {
          many = counts-length slots queues base [];
          each = λ q lq. count-shown slots queues base [] q 0 lq ∙ sym (ap {B = ℕ} length (none-at queues q));
        };
      })

  pub view-new : queues_in b ≡ empty_queues slots queues
  view-new =
      ap (queues_with b.cells slots queues) (rings_of-is b.cells slots queues (none queues) whole)
      ∙ (λ j. record { capacity = slots; queues = empties b.cells queues j })

-- ---- a slot is taken

module _ (old new : Cells) (free : List ℕ) (pool : IsPool old free) (i : ℕ) (o : Order) where
  abbrev cs : List Cell
  cs = old.cells

  abbrev L : List (List ℕ)
  L = rings_of cs old.slots old.queues

  -- the order of slot i, which is out, is set
  came-in : {rest : List ℕ} (lent first many : ℕ) → IsOut cs old.slots old.queues lent rest L i → IsChain (next_at cs) first rest → length rest ≡ many → new ≡ record old { lent = lent; cells = with_order cs i o; free = first; freed = many } → HasTaken old new rest i o
  came-in {rest = rest} lent first many out chain count e =
      let c : Cell = record (cell_at cs i) { order = o } in
      let cells : new.cells ≡ slice_set cs i c = ap (λ (x : Cells). x.cells) e in
      let now_used = ap {B = ℕ} (λ (x : Cells). x.used) e in
      let low : i < length cs = omega (arith, out.are.cells, out.slot, out.room) in
      record {
        slots = ap (λ (x : Cells). x.slots) e;
        queues = ap (λ (x : Cells). x.queues) e;
        more = omega arith;
        counts = ap (λ (x : Cells). x.counts) e;
        out = subst (λ (x : Cells). IsOut x.cells old.slots old.queues x.lent rest L i) (sym e) (IsOut-set cs old.slots old.queues L i out c);
        chained =
            subst (λ (x : Cells). AreFree x rest) (sym e)
            (record { chain = chain-same (next_at cs) (next_at (slice_set cs i c)) first rest (each-of (λ k. next_at (slice_set cs i c) k ≡ next_at cs k) rest (λ k m. kept (λ d. d.next) cs i c low refl k)) chain; many = count });
        order = ap (λ (xs : List Cell). order_at xs i) cells ∙ ap (λ (d : Cell). d.order) (get_or-set_same cs i c no_cell low);
        others = λ k ne. ap (λ (xs : List Cell). order_at xs k) cells ∙ ap (λ (d : Cell). d.order) (get_or-set_other cs i k c no_cell ne);
      }

  -- the first of the free ones
  pub has_free : 0 < old.freed → HasFree old
  has_free some = first free pool.whole.within pool.whole.tags pool.chained.chain pool.chained.many where
    first : (ks : List ℕ) → Each (λ k. k < old.lent) ks → Each (λ k. queue_at cs k ≡ old.queues) ks → IsChain (next_at cs) old.free ks → length ks ≡ old.freed → HasFree old
    first [] w t h m = let z : length {A = ℕ} [] ≡ 0 = refl in absurd (omega arith)
    first (k ∷ ks) w t h m = record { some = some; slot = subst (λ (j : ℕ). j < old.lent) (sym h.0) w.0; tag = ap (queue_at cs) h.0 ∙ t.0 }

  again : (ks : List ℕ) → free ≡ ks → 0 < old.freed → i ≡ old.free → new ≡ record old { cells = with_order cs old.free o; free = next_at cs old.free; freed = old.freed - 1 } → (rest : List ℕ) × HasTaken old new rest i o
  again [] is some at e = let z : length {A = ℕ} [] ≡ 0 = refl in let l : length free ≡ 0 = ap length is in absurd (omega (arith, pool.chained.many))
  again (k ∷ rest) is some at e =
      let h = subst (IsChain (next_at cs) old.free) is pool.chained.chain in
      let ik : i ≡ k = at ∙ h.0 in
      let l = ap length is in
      let o' : length (k ∷ rest) ≡ length rest + 1 = omega arith in (
        rest,
        came-in old.lent (next_at cs k) (old.freed - 1)
            (subst (IsOut cs old.slots old.queues old.lent rest L) (sym ik) (IsOut-popped cs old.slots old.queues L pool.whole rest k is))
            h.1 (omega (arith, pool.chained.many, l, o'))
            (e ∙ (λ j. record old { cells = with_order cs (sym at j) o; free = next_at cs (h.0 j); freed = old.freed - 1 })),
      )

  pub taken_again : 0 < old.freed → i ≡ old.free → new ≡ record old { cells = with_order cs old.free o; free = next_at cs old.free; freed = old.freed - 1 } → (rest : List ℕ) × HasTaken old new rest i o
  taken_again some at e = again free refl some at e

  pub taken_anew : old.lent < old.slots → i ≡ old.lent → new ≡ record old { lent = old.lent + 1; cells = with_order cs old.lent o } → HasTaken old new free i o
  taken_anew some is e =
      came-in (old.lent + 1) old.free old.freed (subst (IsOut cs old.slots old.queues (old.lent + 1) free L) (sym is) (IsOut-lent cs old.slots old.queues L pool.whole some)) pool.chained.chain pool.chained.many
      (e ∙ (λ j. record old { lent = old.lent + 1; cells = with_order cs (sym is j) o }))

-- the order of a slot that is taken is set once more
pub taken_changed : (old mid new : Cells) (free : List ℕ) (i : ℕ) (o p : Order) → HasTaken old mid free i o → new ≡ record mid { cells = with_order mid.cells i p } → HasTaken old new free i p
taken_changed old mid new free i o p h e =
    let L : List (List ℕ) = rings_of old.cells old.slots old.queues in
    let c : Cell = record (cell_at mid.cells i) { order = p } in
    let cells : new.cells ≡ slice_set mid.cells i c = ap (λ (x : Cells). x.cells) e in
    let used = ap {B = ℕ} (λ (x : Cells). x.used) e in
    let low : i < length mid.cells = omega (arith, h.out.are.cells, h.out.slot, h.out.room, h.slots, h.queues) in
    record {
      slots = ap (λ (x : Cells). x.slots) e ∙ h.slots;
      queues = ap (λ (x : Cells). x.queues) e ∙ h.queues;
      more = omega (arith, used, h.more);
      counts = ap (λ (x : Cells). x.counts) e ∙ h.counts;
      out = subst (λ (x : Cells). IsOut x.cells old.slots old.queues x.lent free L i) (sym e) (IsOut-set mid.cells old.slots old.queues L i h.out c);
      chained =
          subst (λ (x : Cells). AreFree x free) (sym e)
          (record { chain = chain-same (next_at mid.cells) (next_at (slice_set mid.cells i c)) mid.free free (each-of (λ k. next_at (slice_set mid.cells i c) k ≡ next_at mid.cells k) free (λ k m. kept (λ d. d.next) mid.cells i c low refl k)) h.chained.chain; many = h.chained.many });
      order = ap (λ (xs : List Cell). order_at xs i) cells ∙ ap (λ (d : Cell). d.order) (get_or-set_same mid.cells i c no_cell low);
      others = λ k ne. ap (λ (xs : List Cell). order_at xs k) cells ∙ ap (λ (d : Cell). d.order) (get_or-set_other mid.cells i k c no_cell ne) ∙ h.others k ne;
    }
