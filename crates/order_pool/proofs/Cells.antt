-- The cells that a block shows, while its nodes and ends change.
use Rattle.std.proofs.Common.{◌≡◌, ◌≢◌, ℕ, ◌+◌, ◌-◌, ◌*◌, ◌^◌, ◌<◌, ◌≤◌, Bool, true, false, cond, nat_lt, List, [], ◌∷◌, ◌++◌, get_or, length, length-append, map, refl, sym, ap, subst, ◌∙◌, arith, slice_set, inl, inr, Some, None}
use Rattle.std.specs.List.{range_with_len}
use Rattle.std.specs.Prelude.{slice_index, Option, MatchOption}
use Rattle.std.proofs.lemmas.List.{length-set, get_or-set_same, get_or-set_other, same_lists, get_or_append_left, get_or_push, get_or_past, set-get_or, get_or_read}
use Rattle.std.proofs.lemmas.List.FromFn.{get_or-map-range_with_len, length-map-range_with_len}
use Rattle.std.proofs.lemmas.Grind.{get_or-set_at}
use Rattle.std.proofs.lemmas.Bool.{cases_eq, cases_lt}
use Rattle.std.proofs.SliceLists.{any-default}
use Rattle.std.specs.declared.vec.Vec.{Vec}
use Rattle.std.specs.Vec.{with_item}
use denote.RawPtr.{Ptr, block_ptr, null_ptr}
use Rattle.gx_base.specs.declared.order.Order.{Order}
use Rattle.order_pool.specs.declared.node.Node.{Node}
use Rattle.order_pool.specs.declared.node.Ends.{Ends}
use Rattle.order_pool.specs.Queues.{no_order}
use Rattle.order_pool.specs.Inner.Places.{place, index_of, IsPlace}
use Rattle.order_pool.specs.Inner.Block.{Cell, Cells, cell_at, no_cell, node_size, past_all, blank_node, no_ends, node_or, node_in, ends_or, ends_in, ends_at, lead, slot_cell, head_cell, shown_at, shown, counts_of, cells_in, cells_with, new_block, IsPast, IsLink, AreLinked, IsUsed, IsBlock, IsLead, HasFree, leads_in, nodes_next, nodes_prev, ends_first, ends_last, with_order, with_next, with_prev, relinked, detached, attached, HasLeft, HasOpened, IsAmong}
use Rattle.order_pool.proofs.CellsAt.{kept}
use Rattle.order_pool.proofs.Nodes.{lt-true, lt-false, lead-in, lead-out, lead-past, index_of-place, IsLink-past, IsLink-place}

-- ---- lists by a function of the place

mapped-same : {X : Type 0} (f g : ℕ → X) (n : ℕ) → ((k : ℕ) → k < n → g k ≡ f k) → map g (range_with_len 0 n) ≡ map f (range_with_len 0 n)
mapped-same f g n same =
    let lf = length-map-range_with_len f 0 n in
    let lg = length-map-range_with_len g 0 n in
    same_lists (map g (range_with_len 0 n)) (map f (range_with_len 0 n)) (lg ∙ sym lf) (λ k d within.
    let low : k < n = omega arith in
    get_or-map-range_with_len g 0 n k k d low (omega arith) ∙ same k low ∙ sym (get_or-map-range_with_len f 0 n k k d low (omega arith)))

mapped-set : {X : Type 0} (f g : ℕ → X) (n i : ℕ) (x : X) → i < n → g i ≡ x → ((k : ℕ) → k < n → k ≢ i → g k ≡ f k) → map g (range_with_len 0 n) ≡ slice_set (map f (range_with_len 0 n)) i x
mapped-set f g n i x lt here same =
    let lf = length-map-range_with_len f 0 n in
    let lg = length-map-range_with_len g 0 n in
    let ls = length-set (map f (range_with_len 0 n)) i x in
    same_lists (map g (range_with_len 0 n)) (slice_set (map f (range_with_len 0 n)) i x) (lg ∙ sym lf ∙ sym ls) (λ k d within.
    let low : k < n = omega arith in
    get_or-map-range_with_len g 0 n k k d low (omega arith)
    ∙ elim (cases_eq k i) [
      | inl e ↦ ap g e ∙ here ∙ sym (get_or-set_at (map f (range_with_len 0 n)) i k x d e (omega arith))
      | inr ne ↦ same k low ne ∙ sym (get_or-set_other (map f (range_with_len 0 n)) i k x d ne ∙ get_or-map-range_with_len f 0 n k k d low (omega arith))
    ])

pushed-other : {X : Type 0} (xs : List X) (x d : X) (k : ℕ) → k ≢ length xs → get_or (xs ++ x ∷ []) k d ≡ get_or xs k d
pushed-other xs x d k ne =
    let len : length (xs ++ x ∷ []) ≡ length xs + 1 = length-append xs (x ∷ []) in
    elim (cases_lt k (length xs)) [
      | inl lt ↦ get_or_append_left xs (x ∷ []) d k lt
      | inr le ↦ get_or_past (xs ++ x ∷ []) k d (omega arith) ∙ sym (get_or_past xs k d le)
    ]

-- ---- one cell

module _ (slots queues : ℕ) (base : Ptr) where
  abbrev blank : Node
  blank = blank_node (past_all base slots) queues

  abbrev empty : Ends
  empty = no_ends (past_all base slots)

  pub shown-length : (ns : List Node) (es : List Ends) → length (shown slots queues base ns es) ≡ slots + queues
  unfolding shown
  shown-length ns es = length-map-range_with_len (shown_at slots queues base ns es) 0 (slots + queues)

  pub counts-length : (es : List Ends) → length (counts_of slots queues base es) ≡ queues
  unfolding counts_of
  counts-length es = length-map-range_with_len (λ q. (ends_at base slots es q).count) 0 queues

  abbrev slot_at : List Node → ℕ → Cell
  slot_at ns k = slot_cell base slots (node_or blank ns k)

  abbrev past_at : List Ends → ℕ → Cell
  past_at es k = head_cell base slots (k - slots) (ends_or empty es (k - slots))

  at-slot : (ns : List Node) (es : List Ends) (k : ℕ) → k < slots → shown_at slots queues base ns es k ≡ slot_at ns k
  at-slot ns es k lt = ap (λ (b : Bool). cond b (slot_at ns k) (past_at es k)) (lt-true k slots lt)

  at-past : (ns : List Node) (es : List Ends) (k : ℕ) → slots ≤ k → shown_at slots queues base ns es k ≡ past_at es k
  at-past ns es k le = ap (λ (b : Bool). cond b (slot_at ns k) (past_at es k)) (lt-false k slots le)

  at-head : (ns : List Node) (es : List Ends) (q : ℕ) → shown_at slots queues base ns es (slots + q) ≡ head_cell base slots q (ends_or empty es q)
  at-head ns es q =
      let e : slots + q - slots ≡ q = omega arith in
      at-past ns es (slots + q) (omega arith) ∙ ap (λ (k : ℕ). head_cell base slots k (ends_or empty es k)) e

  pub slot-shown : (ns : List Node) (es : List Ends) (k : ℕ) → k < slots → cell_at (shown slots queues base ns es) k ≡ slot_cell base slots (node_or blank ns k)
  unfolding shown
  slot-shown ns es k lt = get_or-map-range_with_len (shown_at slots queues base ns es) 0 (slots + queues) k k no_cell (omega arith) (omega arith) ∙ at-slot ns es k lt

  pub head-shown : (ns : List Node) (es : List Ends) (q : ℕ) → q < queues → cell_at (shown slots queues base ns es) (slots + q) ≡ head_cell base slots q (ends_or empty es q)
  unfolding shown
  head-shown ns es q lt = get_or-map-range_with_len (shown_at slots queues base ns es) 0 (slots + queues) (slots + q) (slots + q) no_cell (omega arith) (omega arith) ∙ at-head ns es q

  pub count-shown : (es : List Ends) (q d : ℕ) → q < queues → get_or (counts_of slots queues base es) q d ≡ (ends_or empty es q).count
  unfolding counts_of
  count-shown es q d lt = get_or-map-range_with_len (λ q. (ends_at base slots es q).count) 0 queues q q d lt (omega arith)

  -- ---- a node or the ends of a queue are written

  pub shown-node : (ns : List Node) (es : List Ends) (k : ℕ) (n : Node) → k < length ns → k < slots
      → shown slots queues base (slice_set ns k n) es ≡ slice_set (shown slots queues base ns es) k (slot_cell base slots n)
  unfolding shown
  shown-node ns es k n lt low =
      let new = slice_set ns k n in
      mapped-set (shown_at slots queues base ns es) (shown_at slots queues base new es) (slots + queues) k (slot_cell base slots n) (omega arith)
      (at-slot new es k low ∙ ap (slot_cell base slots) (get_or-set_same ns k n blank lt))
      (λ i within ne. ap (λ (m : Node). cond (nat_lt i slots) (slot_cell base slots m) (past_at es i)) (get_or-set_other ns k i n blank ne))

  pub shown-ends : (ns : List Node) (es : List Ends) (q : ℕ) (e : Ends) → q < length es → q < queues
      → shown slots queues base ns (slice_set es q e) ≡ slice_set (shown slots queues base ns es) (slots + q) (head_cell base slots q e)
  unfolding shown
  shown-ends ns es q e lt low =
      let new = slice_set es q e in
      mapped-set (shown_at slots queues base ns es) (shown_at slots queues base ns new) (slots + queues) (slots + q) (head_cell base slots q e) (omega arith)
      (at-head ns new q ∙ ap (head_cell base slots q) (get_or-set_same es q e empty lt))
      (λ i within ne.
      elim (cases_lt i slots) [
        | inl is ↦ at-slot ns new i is ∙ sym (at-slot ns es i is)
        | inr le ↦ at-past ns new i le ∙ ap (head_cell base slots (i - slots)) (get_or-set_other es q (i - slots) e empty (λ z. ne (omega arith))) ∙ sym (at-past ns es i le)
      ])

  pub counts-ends : (es : List Ends) (q : ℕ) (e : Ends) → q < length es → q < queues → counts_of slots queues base (slice_set es q e) ≡ slice_set (counts_of slots queues base es) q e.count
  unfolding counts_of
  counts-ends es q e lt low =
      mapped-set (λ k. (ends_at base slots es k).count) (λ k. (ends_at base slots (slice_set es q e) k).count) queues q e.count low
      (ap (λ (x : Ends). x.count) (get_or-set_same es q e empty lt))
      (λ k within ne. ap (λ (x : Ends). x.count) (get_or-set_other es q k e empty ne))

  -- one more node
  pub shown-pushed : (ns : List Node) (es : List Ends) (n : Node) → length ns < slots → shown slots queues base (ns ++ n ∷ []) es ≡ slice_set (shown slots queues base ns es) (length ns) (slot_cell base slots n)
  unfolding shown
  shown-pushed ns es n low =
      let new = ns ++ n ∷ [] in
      mapped-set (shown_at slots queues base ns es) (shown_at slots queues base new es) (slots + queues) (length ns) (slot_cell base slots n) (omega arith)
      (at-slot new es (length ns) low ∙ ap (slot_cell base slots) (get_or_push ns n blank (length ns) refl))
      (λ i within ne. ap (λ (m : Node). cond (nat_lt i slots) (slot_cell base slots m) (past_at es i)) (pushed-other ns n blank i ne))

  -- ends that were never written are written now
  pub shown-same : (ns : List Node) (es es' : List Ends) → ((q : ℕ) → ends_or empty es' q ≡ ends_or empty es q) → shown slots queues base ns es' ≡ shown slots queues base ns es
  unfolding shown
  shown-same ns es es' same =
      mapped-same (shown_at slots queues base ns es) (shown_at slots queues base ns es') (slots + queues)
      (λ k within. ap (λ (e : Ends). cond (nat_lt k slots) (slot_at ns k) (head_cell base slots (k - slots) e)) (same (k - slots)))

  pub counts-kept : (es es' : List Ends) → ((q : ℕ) → ends_or empty es' q ≡ ends_or empty es q) → counts_of slots queues base es' ≡ counts_of slots queues base es
  unfolding counts_of
  counts-kept es es' same = mapped-same (λ q. (ends_at base slots es q).count) (λ q. (ends_at base slots es' q).count) queues (λ q within. ap (λ (e : Ends). e.count) (same q))

  -- ---- links lead to nodes

  abbrev linked : List Node → List Ends → Type 0
  linked ns es = AreLinked base slots ns es

  abbrev link : ℕ → Ptr → Type 0
  link n p = IsLink base slots n p

  link-more : (n m : ℕ) (p : Ptr) → n ≤ m → link n p → link m p
  link-more n m p le l = record { is = l.is; within = elim l.within [ inl lt ↦ inl (omega arith) | inr e ↦ inr e ] }

  -- what holds of a node that is written and of those that are there holds of all
  node-all : (P : ℕ → Node → Type 0) (ns : List Node) (k : ℕ) (n : Node) → k < length ns → P k n → ((i : ℕ) → i < length ns → P i (node_in ns i)) → (i : ℕ) → i < length (slice_set ns k n) → P i (node_in (slice_set ns k n) i)
  node-all P ns k n lt one all i low =
      let len = length-set ns k n in
      elim (cases_eq i k) [
        | inl e ↦ subst (P i) (sym (get_or-set_at ns k i n (blank_node null_ptr 0) e lt)) (subst (λ (j : ℕ). P j n) (sym e) one)
        | inr ne ↦ subst (P i) (sym (get_or-set_other ns k i n (blank_node null_ptr 0) ne)) (all i (omega (arith, len)))
      ]

  ends-all : (P : Ends → Type 0) (es : List Ends) (q : ℕ) (e : Ends) → q < length es → P e → ((i : ℕ) → i < length es → P (ends_in es i)) → (i : ℕ) → i < length (slice_set es q e) → P (ends_in (slice_set es q e) i)
  ends-all P es q e lt one all i low =
      let len = length-set es q e in
      elim (cases_eq i q) [
        | inl z ↦ subst P (sym (get_or-set_at es q i e (no_ends null_ptr) z lt)) one
        | inr ne ↦ subst P (sym (get_or-set_other es q i e (no_ends null_ptr) ne)) (all i (omega (arith, len)))
      ]

  pub linked-node : (ns : List Node) (es : List Ends) (k : ℕ) (n : Node) → k < length ns → linked ns es → n.slot ≡ k → link (length ns) n.prev → link (length ns) n.next → linked (slice_set ns k n) es
  linked-node ns es k n lt all slot prev next =
      let len : length (slice_set ns k n) ≡ length ns = length-set ns k n in
      let to : (p : Ptr) → link (length ns) p → link (length (slice_set ns k n)) p = (λ p l. subst (λ (m : ℕ). link m p) (sym len) l) in
      record {
        numbered = node-all (λ i m. m.slot ≡ i) ns k n lt slot all.numbered;
        prev = node-all (λ i m. link (length (slice_set ns k n)) m.prev) ns k n lt (to n.prev prev) (λ i low. to _ (all.prev i low));
        next = node-all (λ i m. link (length (slice_set ns k n)) m.next) ns k n lt (to n.next next) (λ i low. to _ (all.next i low));
        first = λ q low. to _ (all.first q low);
        last = λ q low. to _ (all.last q low);
      }

  pub linked-ends : (ns : List Node) (es : List Ends) (q : ℕ) (e : Ends) → q < length es → linked ns es → link (length ns) e.first → link (length ns) e.last → linked ns (slice_set es q e)
  linked-ends ns es q e lt all first last = record {
    numbered = all.numbered;
    prev = all.prev;
    next = all.next;
    first = ends-all (λ x. link (length ns) x.first) es q e lt first all.first;
    last = ends-all (λ x. link (length ns) x.last) es q e lt last all.last;
  }

  push-all : (P : ℕ → Node → Type 0) (ns : List Node) (n : Node) → P (length ns) n → ((i : ℕ) → i < length ns → P i (node_in ns i)) → (i : ℕ) → i < length (ns ++ n ∷ []) → P i (node_in (ns ++ n ∷ []) i)
  push-all P ns n one all i low =
      let len : length (ns ++ n ∷ []) ≡ length ns + 1 = length-append ns (n ∷ []) in
      elim (cases_eq i (length ns)) [
        | inl e ↦ subst (P i) (sym (get_or_push ns n (blank_node null_ptr 0) i (sym e))) (subst (λ (j : ℕ). P j n) (sym e) one)
        | inr ne ↦ subst (P i) (sym (pushed-other ns n (blank_node null_ptr 0) i ne)) (all i (omega (arith, len)))
      ]

  pub linked-pushed : (ns : List Node) (es : List Ends) (n : Node) → linked ns es → n.slot ≡ length ns → link (length ns) n.prev → link (length ns) n.next → linked (ns ++ n ∷ []) es
  linked-pushed ns es n all slot prev next =
      let len : length (ns ++ n ∷ []) ≡ length ns + 1 = length-append ns (n ∷ []) in
      let to : (p : Ptr) → link (length ns) p → link (length (ns ++ n ∷ [])) p = (λ p l. link-more (length ns) (length (ns ++ n ∷ [])) p (omega arith) l) in
      record {
        numbered = push-all (λ i m. m.slot ≡ i) ns n slot all.numbered;
        prev = push-all (λ i m. link (length (ns ++ n ∷ [])) m.prev) ns n (to n.prev prev) (λ i low. to _ (all.prev i low));
        next = push-all (λ i m. link (length (ns ++ n ∷ [])) m.next) ns n (to n.next next) (λ i low. to _ (all.next i low));
        first = λ q low. to _ (all.first q low);
        last = λ q low. to _ (all.last q low);
      }

  -- ends that lead nowhere are written
  pub linked-opened : (ns : List Node) (es es' : List Ends) → linked ns es → link (length ns) (past_all base slots) → length es ≤ length es' → ((q : ℕ) → ends_or empty es' q ≡ ends_or empty es q) → linked ns es'
  linked-opened ns es es' all blank-link more same =
      let get : (P : Ends → Type 0) → P empty → ((i : ℕ) → i < length es → P (ends_in es i)) → (i : ℕ) → i < length es' → P (ends_in es' i) =
      (λ P one there i low. subst P (sym (any-default es' i (no_ends null_ptr) empty low ∙ same i)) (elim (cases_lt i (length es)) [
        | inl lt ↦ subst P (any-default es i (no_ends null_ptr) empty lt) (there i lt)
        | inr le ↦ subst P (sym (get_or_past es i empty le)) one
      ])) in
      record {
        numbered = all.numbered;
        prev = all.prev;
        next = all.next;
        first = get (λ e. link (length ns) e.first) blank-link all.first;
        last = get (λ e. link (length ns) e.last) blank-link all.last;
      }

-- ---- what the calls of a block see and change

module _ {Y Z : Type 0} (slots queues : ℕ) (past free : Ptr) (freed : ℕ) (v : Vec Node Y) (u : Vec Ends Z) (block : IsBlock slots queues past free v u) where
  abbrev b : Cells
  b = cells_in slots queues free freed v u

  abbrev base : Ptr
  base = v.ptr

  abbrev off : Node
  off = blank_node (past_all base slots) queues

  abbrev none : Ends
  none = no_ends (past_all base slots)

  pub few : length v.items ≤ slots
  few = omega (arith, v.ok.0, v.ok.1, block.nodes_room)

  node-is : (k : ℕ) (n : Node) → k < length v.items → n ≡ get_or v.items k n → n ≡ node_or off v.items k
  node-is k n lt read = get_or_read v.items k n lt read off

  node-same : (k : ℕ) → k < length v.items → node_in v.items k ≡ node_or off v.items k
  node-same k lt = any-default v.items k (blank_node null_ptr 0) off lt

  ends-is : (q : ℕ) (e : Ends) → q < length u.items → e ≡ get_or u.items q e → e ≡ ends_or none u.items q
  ends-is q e lt read = get_or_read u.items q e lt read none

  ends-same : (q : ℕ) → q < length u.items → ends_in u.items q ≡ ends_or none u.items q
  ends-same q lt = any-default u.items q (no_ends null_ptr) none lt

  pub past-here : past ≡ past_all base slots
  past-here = block.past_is.is

  -- what is shown of a node that is there, and of ends that are there
  cell-of : (k : ℕ) → k < length v.items → cell_at b.cells k ≡ slot_cell base slots (node_in v.items k)
  cell-of k lt = slot-shown slots queues base v.items u.items k (omega (arith, few)) ∙ ap (slot_cell base slots) (sym (node-same k lt))

  head-of : (q : ℕ) → q < length u.items → q < queues → cell_at b.cells (slots + q) ≡ head_cell base slots q (ends_in u.items q)
  head-of q lt low = head-shown slots queues base v.items u.items q low ∙ ap (head_cell base slots q) (sym (ends-same q lt))

  count-of : (q : ℕ) → q < length u.items → q < queues → get_or b.counts q 0 ≡ (ends_in u.items q).count
  count-of q lt low = count-shown slots queues base u.items q 0 low ∙ ap (λ (e : Ends). e.count) (sym (ends-same q lt))

  ends-low : (q : ℕ) → q < length u.items → q < queues
  ends-low q lt = omega (arith, u.ok.0, u.ok.1, block.ends_room)

  -- one node is written
  module _ (k : ℕ) (n : Node) (lt : k < length v.items) where
    pub node-written : cells_in slots queues free freed (with_item v k n) u ≡ record b { cells = slice_set b.cells k (slot_cell base slots n) }
    node-written = λ j. record b { lent = length-set v.items k n j; cells = shown-node slots queues base v.items u.items k n lt (omega (arith, few)) j }

    pub IsBlock-node : n.slot ≡ k → IsLink base slots (length v.items) n.prev → IsLink base slots (length v.items) n.next → IsBlock slots queues past free (with_item v k n) u
    IsBlock-node slot prev next = record {
      slots_fit = block.slots_fit;
      queues_fit = block.queues_fit;
      nodes_room = block.nodes_room;
      ends_room = block.ends_room;
      past_is = block.past_is;
      linked = linked-node slots queues base v.items u.items k n lt block.linked slot prev next;
      free_link = subst (λ (m : ℕ). IsLink base slots m free) (sym (length-set v.items k n)) block.free_link;
    }

  -- the ends of a queue are written
  module _ (q : ℕ) (e : Ends) (lt : q < length u.items) where
    pub ends-written : cells_in slots queues free freed v (with_item u q e) ≡ record b { cells = slice_set b.cells (slots + q) (head_cell base slots q e); counts = slice_set b.counts q e.count }
    ends-written = λ j. record b {
      used = length-set u.items q e j;
      cells = shown-ends slots queues base v.items u.items q e lt (ends-low q lt) j;
      counts = counts-ends slots queues base u.items q e lt (ends-low q lt) j;
    }

    pub IsBlock-ends : IsLink base slots (length v.items) e.first → IsLink base slots (length v.items) e.last → IsBlock slots queues past free v (with_item u q e)
    IsBlock-ends first last = record {
      slots_fit = block.slots_fit;
      queues_fit = block.queues_fit;
      nodes_room = block.nodes_room;
      ends_room = block.ends_room;
      past_is = block.past_is;
      linked = linked-ends slots queues base v.items u.items q e lt block.linked first last;
      free_link = block.free_link;
    }

  -- ---- a store through a link

  abbrev index : Ptr → ℕ
  index p = index_of node_size base p

  abbrev L : ℕ → Ptr → ℕ
  L home p = lead base slots home p

  leads-yes : (p : Ptr) → index p < length v.items → leads_in v p ≡ true
  leads-yes p lt = lt-true (index p) v.cap (omega (arith, few, block.nodes_room))

  leads-no : (p : Ptr) → index p ≡ slots → leads_in v p ≡ false
  leads-no p e = lt-false (index p) v.cap (omega (arith, block.nodes_room))

  -- what holds after a store holds whichever it was
  either : (P : Vec Node Y → Vec Ends Z → Type 0) (p : Ptr) (w : Vec Node Y) (x : Vec Ends Z) → IsLink base slots (length v.items) p → (index p < length v.items → P w u) → (index p ≡ slots → P v x) → P (cond (leads_in v p) w v) (cond (leads_in v p) u x)
  either P p w x good hit miss =
      elim good.within [
        | inl lt ↦ subst (λ (a : Bool). P (cond a w v) (cond a u x)) (sym (leads-yes p lt)) (hit lt)
        | inr e ↦ subst (λ (a : Bool). P (cond a w v) (cond a u x)) (sym (leads-no p e)) (miss e)
      ]

  module _ (at x : Ptr) (q : ℕ) (at-link : IsLink base slots (length v.items) at) (x-link : IsLink base slots (length v.items) x) (lq : q < length u.items) where
    abbrev i : ℕ
    i = index at

    abbrev n : Node
    n = node_in v.items i

    abbrev e : Ends
    e = ends_in u.items q

    pub IsBlock-next : IsBlock slots queues past free (nodes_next v at x) (ends_first v u at q x)
    IsBlock-next =
        either (λ w z. IsBlock slots queues past free w z) at (with_item v i (record n { next = x })) (with_item u q (record e { first = x })) at-link
        (λ lt. IsBlock-node i (record n { next = x }) lt (block.linked.numbered i lt) (block.linked.prev i lt) x-link)
        (λ z. IsBlock-ends q (record e { first = x }) lq x-link (block.linked.last q lq))

    pub IsBlock-prev : IsBlock slots queues past free (nodes_prev v at x) (ends_last v u at q x)
    IsBlock-prev =
        either (λ w z. IsBlock slots queues past free w z) at (with_item v i (record n { prev = x })) (with_item u q (record e { last = x })) at-link
        (λ lt. IsBlock-node i (record n { prev = x }) lt (block.linked.numbered i lt) x-link (block.linked.next i lt))
        (λ z. IsBlock-ends q (record e { last = x }) lq (block.linked.first q lq) x-link)

    -- a link that is good stays so, and the places stay
    pub link-next : (p : Ptr) → IsLink base slots (length v.items) p → IsLink (nodes_next v at x).ptr slots (length (nodes_next v at x).items) p
    link-next p l =
        either (λ w z. IsLink w.ptr slots (length w.items) p) at (with_item v i (record n { next = x })) (with_item u q (record e { first = x })) at-link
        (λ lt. subst (λ (m : ℕ). IsLink base slots m p) (sym (length-set v.items i (record n { next = x }))) l) (λ z. l)

    pub base-next : (nodes_next v at x).ptr ≡ base
    base-next = either (λ w z. w.ptr ≡ base) at (with_item v i (record n { next = x })) (with_item u q (record e { first = x })) at-link (λ lt. refl) (λ z. refl)

    pub long-next : length (nodes_next v at x).items ≡ length v.items
    long-next = either (λ w z. length w.items ≡ length v.items) at (with_item v i (record n { next = x })) (with_item u q (record e { first = x })) at-link (λ lt. length-set v.items i (record n { next = x })) (λ z. refl)

    pub ends-next : length (ends_first v u at q x).items ≡ length u.items
    ends-next = either (λ w z. length z.items ≡ length u.items) at (with_item v i (record n { next = x })) (with_item u q (record e { first = x })) at-link (λ lt. refl) (λ z. length-set u.items q (record e { first = x }))

    module _ (same : index at < length v.items → L (slots + n.queue) x ≡ L (slots + q) x) where
      pub next-written : cells_in slots queues free freed (nodes_next v at x) (ends_first v u at q x) ≡ record b { cells = with_next b.cells (L (slots + q) at) (L (slots + q) x) }
      next-written =
          either (λ w z. cells_in slots queues free freed w z ≡ record b { cells = with_next b.cells (L (slots + q) at) (L (slots + q) x) }) at (with_item v i (record n { next = x })) (with_item u q (record e { first = x })) at-link
          (λ lt.
          let is = cell-of i lt in
          let to = lead-in base slots (slots + q) at (omega (arith, few)) in
          node-written i (record n { next = x }) lt
          ∙ (λ j. record b { cells = slice_set b.cells i (record (sym is j) { next = same lt j }) })
          ∙ (λ j. record b { cells = slice_set b.cells (sym to j) (record (cell_at b.cells (sym to j)) { next = L (slots + q) x }) }))
          (λ z.
          let is = head-of q lq (ends-low q lq) in
          let to = lead-out base slots (slots + q) at (omega arith) in
          let count = ap (slice_set b.counts q) (sym (count-of q lq (ends-low q lq))) ∙ set-get_or b.counts q 0 in
          ends-written q (record e { first = x }) lq
          ∙ (λ j. record b { cells = slice_set b.cells (slots + q) (record (sym is j) { next = L (slots + q) x }); counts = count j })
          ∙ (λ j. record b { cells = slice_set b.cells (sym to j) (record (cell_at b.cells (sym to j)) { next = L (slots + q) x }) }))

      pub prev-written : cells_in slots queues free freed (nodes_prev v at x) (ends_last v u at q x) ≡ record b { cells = with_prev b.cells (L (slots + q) at) (L (slots + q) x) }
      prev-written =
          either (λ w z. cells_in slots queues free freed w z ≡ record b { cells = with_prev b.cells (L (slots + q) at) (L (slots + q) x) }) at (with_item v i (record n { prev = x })) (with_item u q (record e { last = x })) at-link
          (λ lt.
          let is = cell-of i lt in
          let to = lead-in base slots (slots + q) at (omega (arith, few)) in
          node-written i (record n { prev = x }) lt
          ∙ (λ j. record b { cells = slice_set b.cells i (record (sym is j) { prev = same lt j }) })
          ∙ (λ j. record b { cells = slice_set b.cells (sym to j) (record (cell_at b.cells (sym to j)) { prev = L (slots + q) x }) }))
          (λ z.
          let is = head-of q lq (ends-low q lq) in
          let to = lead-out base slots (slots + q) at (omega arith) in
          let count = ap (slice_set b.counts q) (sym (count-of q lq (ends-low q lq))) ∙ set-get_or b.counts q 0 in
          ends-written q (record e { last = x }) lq
          ∙ (λ j. record b { cells = slice_set b.cells (slots + q) (record (sym is j) { prev = L (slots + q) x }); counts = count j })
          ∙ (λ j. record b { cells = slice_set b.cells (sym to j) (record (cell_at b.cells (sym to j)) { prev = L (slots + q) x }) }))

    -- the tag of what a link leads to says the same
    pub same-tag : (cell_at b.cells (L (slots + q) at)).queue ≡ q → index at < length v.items → L (slots + n.queue) x ≡ L (slots + q) x
    same-tag tag lt =
        let to = lead-in base slots (slots + q) at (omega (arith, few)) in
        let t : n.queue ≡ q = sym (ap (λ (c : Cell). c.queue) (cell-of i lt)) ∙ ap (λ (k : ℕ). (cell_at b.cells k).queue) (sym to) ∙ tag in
        ap (λ (r : ℕ). L (slots + r) x) t

  -- ---- as a caller sees it

  module _ {now : Cells} (is : b ≡ now) where
    pub lent-in : (k : ℕ) → k < now.lent → k < length v.items
    lent-in k lt = let s = ap {B = ℕ} (λ (x : Cells). x.lent) is in omega arith

    pub queue-in : (q : ℕ) → q < now.queues → q < queues
    queue-in q lt = let s = ap {B = ℕ} (λ (x : Cells). x.queues) is in omega arith

    pub slots-now : slots ≡ now.slots
    slots-now = ap (λ (x : Cells). x.slots) is

    pub node-now : (k : ℕ) (n : Node) → k < now.lent → n ≡ get_or v.items k n → cell_at now.cells k ≡ slot_cell base slots n
    node-now k n lt read = ap (λ (x : Cells). cell_at x.cells k) (sym is) ∙ slot-shown slots queues base v.items u.items k (omega (arith, few, lent-in k lt)) ∙ ap (slot_cell base slots) (sym (node-is k n (lent-in k lt) read))

    pub ends-now : (q : ℕ) (e : Ends) → q < length u.items → e ≡ get_or u.items q e → cell_at now.cells (now.slots + q) ≡ head_cell base slots q e
    ends-now q e lt read = ap (λ (x : Cells). cell_at x.cells (x.slots + q)) (sym is) ∙ head-shown slots queues base v.items u.items q (ends-low q lt) ∙ ap (head_cell base slots q) (sym (ends-is q e lt read))

    pub count-now : (q : ℕ) (e : Ends) → q < length u.items → e ≡ get_or u.items q e → e.count ≡ slice_index now.counts q
    count-now q e lt read = ap (λ (x : Ends). x.count) (ends-is q e lt read) ∙ sym (ap (λ (x : Cells). slice_index x.counts q) (sym is) ∙ count-shown slots queues base u.items q 0 (ends-low q lt))

    -- a queue whose ends were never written
    pub unused-now : (q : ℕ) → q < queues → length u.items ≤ q → (cell_at now.cells (now.slots + q)).next ≡ slots + q
    unused-now q low le =
        ap (λ (x : Cells). (cell_at x.cells (x.slots + q)).next) (sym is) ∙ ap (λ (c : Cell). c.next) (head-shown slots queues base v.items u.items q low)
        ∙ ap (λ (e : Ends). L (slots + q) e.first) (get_or_past u.items q none le) ∙ ap (L (slots + q)) (sym past-here) ∙ lead-past base slots past block.past_is (slots + q)

    pub unused-count : (q : ℕ) → q < queues → length u.items ≤ q → 0 ≡ slice_index now.counts q
    unused-count q low le =
        sym (ap (λ (x : Cells). slice_index x.counts q) (sym is) ∙ count-shown slots queues base u.items q 0 low ∙ ap (λ (e : Ends). e.count) (get_or_past u.items q none le))

    -- a queue that has an order is written
    pub used-is : (q : ℕ) → IsUsed now q → q < length u.items
    used-is q h =
        let qs = ap {B = ℕ} (λ (x : Cells). x.queues) is in
        let us = ap {B = ℕ} (λ (x : Cells). x.used) is in
        elim h.1 [
          | inl lt ↦ omega arith
          | inr some ↦ elim (cases_lt q (length u.items)) [ inl lt ↦ lt | inr le ↦ let z = unused-count q (omega (arith, h.0)) le in absurd (omega arith) ]
        ]

    pub order-now : (k : ℕ) (n : Node) → k < now.lent → n ≡ get_or v.items k n → n.order ≡ (cell_at now.cells k).order
    order-now k n lt read = sym (ap (λ (c : Cell). c.order) (node-now k n lt read))

    -- the order of a node is written
    pub order-changed : (k : ℕ) (n : Node) (o : Order) → k < now.lent → n ≡ get_or v.items k n → cells_in slots queues free freed (with_item v k (record n { order = o })) u ≡ record now { cells = with_order now.cells k o }
    order-changed k n o lt read =
        subst (λ (x : Cells). cells_in slots queues free freed (with_item v k (record n { order = o })) u ≡ record x { cells = with_order x.cells k o }) is
        (let low = lent-in k lt in
        let s = slot-shown slots queues base v.items u.items k (omega (arith, few)) ∙ ap (slot_cell base slots) (sym (node-is k n low read)) in
        node-written k (record n { order = o }) low ∙ (λ j. record b { cells = slice_set b.cells k (record (sym s j) { order = o }) }))

    pub IsBlock-kept : (k : ℕ) (n m : Node) → k < now.lent → n ≡ get_or v.items k n → m.slot ≡ n.slot → m.prev ≡ n.prev → m.next ≡ n.next → IsBlock slots queues past free (with_item v k m) u
    IsBlock-kept k n m lt read slot prev next =
        let low = lent-in k lt in
        let s : node_in v.items k ≡ n = sym (get_or_read v.items k n low read (blank_node null_ptr 0)) in
        IsBlock-node k m low (slot ∙ sym (ap (λ (x : Node). x.slot) s) ∙ block.linked.numbered k low)
        (subst (IsLink base slots (length v.items)) (ap (λ (x : Node). x.prev) s ∙ sym prev) (block.linked.prev k low))
        (subst (IsLink base slots (length v.items)) (ap (λ (x : Node). x.next) s ∙ sym next) (block.linked.next k low))

    -- links that are read
    pub links-node : (k : ℕ) (n : Node) → k < now.lent → n ≡ get_or v.items k n → IsLink base slots (length v.items) n.prev × IsLink base slots (length v.items) n.next
    links-node k n lt read =
        let low = lent-in k lt in
        let s : node_in v.items k ≡ n = sym (get_or_read v.items k n low read (blank_node null_ptr 0)) in (
          subst (λ (x : Node). IsLink base slots (length v.items) x.prev) s (block.linked.prev k low),
          subst (λ (x : Node). IsLink base slots (length v.items) x.next) s (block.linked.next k low),
        )

    pub links-ends : (q : ℕ) (e : Ends) → q < length u.items → e ≡ get_or u.items q e → IsLink base slots (length v.items) e.first × IsLink base slots (length v.items) e.last
    links-ends q e lt read =
        let s : ends_in u.items q ≡ e = sym (get_or_read u.items q e lt read (no_ends null_ptr)) in (
          subst (λ (x : Ends). IsLink base slots (length v.items) x.first) s (block.linked.first q lt),
          subst (λ (x : Ends). IsLink base slots (length v.items) x.last) s (block.linked.last q lt),
        )

    -- a link that is read
    pub lead-is : (home : ℕ) (p : Ptr) (r : Option ℕ) → slots ≤ home → IsLink base slots (length v.items) p → MatchOption r (v.cap ≤ index p) (λ k. (k < v.len) × (k ≡ index p)) → IsLead slots r (L home p)
    lead-is home p (Some k) low good h =
        let lt : index p < slots = omega (arith, h.0, h.1, v.ok.0, few) in
        (h.1 ∙ sym (lead-in base slots home p lt), omega (arith, h.1))
    lead-is home p None low good h = subst (λ (m : ℕ). slots ≤ m) (sym (lead-out base slots home p (omega (arith, h, block.nodes_room)))) low

    -- the count of a queue
    pub count-changed : (q : ℕ) (e : Ends) (f : ℕ → ℕ) → q < length u.items → e ≡ get_or u.items q e
        → cells_in slots queues free freed v (with_item u q (record e { count = f e.count })) ≡ record now { counts = slice_set now.counts q (f (slice_index now.counts q)) }
    count-changed q e f lt read =
        subst (λ (x : Cells). cells_in slots queues free freed v (with_item u q (record e { count = f e.count })) ≡ record x { counts = slice_set x.counts q (f (slice_index x.counts q)) }) is
        (let r = ends-is q e lt read in
        let was : cell_at b.cells (slots + q) ≡ head_cell base slots q e = head-shown slots queues base v.items u.items q (ends-low q lt) ∙ ap (head_cell base slots q) (sym r) in
        let count : e.count ≡ slice_index b.counts q = ap (λ (x : Ends). x.count) r ∙ sym (count-shown slots queues base u.items q 0 (ends-low q lt)) in
        ends-written q (record e { count = f e.count }) lt
        ∙ (λ j. record b { cells = (ap (slice_set b.cells (slots + q)) (sym was) ∙ set-get_or b.cells (slots + q) no_cell) j; counts = slice_set b.counts q (f (count j)) }))

    -- a slot is lent
    module _ {W : Type 0} (w : Vec Node W) (n : Node) (came-to : w.items ≡ v.items ++ n ∷ []) (where-it-was : w.ptr ≡ v.ptr) (low : length v.items < slots) where
      long : length w.items ≡ length v.items + 1
      long = ap length came-to ∙ length-append v.items (n ∷ [])

      pub lent-is : n.prev ≡ past → n.next ≡ past → n.queue ≡ queues → cells_in slots queues free freed w u ≡ record now { lent = now.lent + 1; cells = with_order now.cells now.lent n.order }
      lent-is prev next tag =
          let s : cell_at b.cells (length v.items) ≡ slot_cell base slots off = slot-shown slots queues base v.items u.items (length v.items) low ∙ ap (slot_cell base slots) (get_or_past v.items (length v.items) off (omega arith)) in
          let c : slot_cell base slots n ≡ record (slot_cell base slots off) { order = n.order } =
          (λ j. record {
            order = n.order;
            prev = lead base slots (slots + tag j) ((prev ∙ past-here) j);
            next = lead base slots (slots + tag j) ((next ∙ past-here) j);
            queue = tag j;
          }) in
          subst (λ (x : Cells). cells_in slots queues free freed w u ≡ record x { lent = x.lent + 1; cells = with_order x.cells x.lent n.order }) is
          ((λ j. cells_with slots queues (where-it-was j) free freed (came-to j) u.items)
          ∙ (λ j. record b { lent = length-append v.items (n ∷ []) j; cells = shown-pushed slots queues base v.items u.items n low j })
          ∙ (λ j. record b { lent = length v.items + 1; cells = slice_set b.cells (length v.items) (c j) })
          ∙ (λ j. record b { lent = length v.items + 1; cells = slice_set b.cells (length v.items) (record (sym s j) { order = n.order }) }))

      pub IsBlock-lent : w.cap ≡ v.cap → n.slot ≡ length v.items → n.prev ≡ past → n.next ≡ past → IsBlock slots queues past free w u
      IsBlock-lent room slot prev next = record {
        slots_fit = block.slots_fit;
        queues_fit = block.queues_fit;
        nodes_room = room ∙ block.nodes_room;
        ends_room = block.ends_room;
        past_is = subst (λ (p : Ptr). IsPast p slots past) (sym where-it-was) block.past_is;
        linked =
            let p = IsLink-past base slots past block.past_is (length v.items) in
            subst (λ (ns : List Node). AreLinked w.ptr slots ns u.items) (sym came-to)
            (subst (λ (z : Ptr). AreLinked z slots (v.items ++ n ∷ []) u.items) (sym where-it-was)
            (linked-pushed slots queues base v.items u.items n block.linked slot (subst (IsLink base slots (length v.items)) (sym prev) p) (subst (IsLink base slots (length v.items)) (sym next) p)));
        free_link =
            subst (λ (z : Ptr). IsLink z slots (length w.items) free) (sym where-it-was) (link-more slots queues base (length v.items) (length w.items) free (omega (arith, long)) block.free_link);
      }

    -- ends are written
    module _ {W : Type 0} (w : Vec Ends W) (more : length u.items ≤ length w.items) (same : (q : ℕ) → ends_or (no_ends past) w.items q ≡ ends_or (no_ends past) u.items q) where
      same' : (q : ℕ) → ends_or none w.items q ≡ ends_or none u.items q
      same' = subst (λ (p : Ptr). (q : ℕ) → ends_or (no_ends p) w.items q ≡ ends_or (no_ends p) u.items q) past-here same

      pub opened : (queue : ℕ) → queue < length w.items → HasOpened now (cells_in slots queues free freed v w) queue
      opened queue lt =
          subst (λ (x : Cells). HasOpened x (cells_in slots queues free freed v w) queue) is
          (record {
            same = λ j. record b { used = length w.items; cells = shown-same slots queues base v.items u.items w.items same' j; counts = counts-kept slots queues base u.items w.items same' j };
            more = more;
            used = lt;
          })

      pub IsBlock-opened : w.cap ≡ u.cap → IsBlock slots queues past free v w
      IsBlock-opened room = record {
        slots_fit = block.slots_fit;
        queues_fit = block.queues_fit;
        nodes_room = block.nodes_room;
        ends_room = room ∙ block.ends_room;
        past_is = block.past_is;
        linked = linked-opened slots queues base v.items u.items w.items block.linked (subst (IsLink base slots (length v.items)) past-here (IsLink-past base slots past block.past_is (length v.items))) more same';
        free_link = block.free_link;
      }

-- the free slots begin elsewhere
with-free : {Y Z : Type 0} (slots queues : ℕ) (past free : Ptr) (v : Vec Node Y) (u : Vec Ends Z) (p : Ptr) → IsLink v.ptr slots (length v.items) p → IsBlock slots queues past free v u → IsBlock slots queues past p v u
with-free slots queues past free v u p l block = record {
  slots_fit = block.slots_fit;
  queues_fit = block.queues_fit;
  nodes_room = block.nodes_room;
  ends_room = block.ends_room;
  past_is = block.past_is;
  linked = block.linked;
  free_link = l;
}

-- ---- a slot leaves its queue, and one comes to a queue

module _ {Y Z : Type 0} (slots queues : ℕ) (past free : Ptr) (freed : ℕ) (v : Vec Node Y) (u : Vec Ends Z) (block : IsBlock slots queues past free v u) {now : Cells} (is : cells_in slots queues free freed v u ≡ now) where
  abbrev b₀ : Cells
  b₀ = cells_in slots queues free freed v u

  -- a link leads to a cell
  lead-low : (q : ℕ) (p : Ptr) → q < queues → IsLink v.ptr slots (length v.items) p → lead v.ptr slots (slots + q) p < length b₀.cells
  lead-low q p lq l =
      let len = shown-length slots queues v.ptr v.items u.items in
      elim l.within [
        | inl lt ↦ omega (arith, len, lead-in v.ptr slots (slots + q) p (omega (arith, few slots queues past free freed v u block)), few slots queues past free freed v u block)
        | inr e ↦ omega (arith, len, lead-out v.ptr slots (slots + q) p (omega arith))
      ]

  -- the store after the link of a slot keeps all tags
  module _ (k : ℕ) (n : Node) (lt : k < now.lent) (read : n ≡ get_or v.items k n) (among : IsAmong now k) where
    abbrev q : ℕ
    q = n.queue

    was : cell_at now.cells k ≡ slot_cell v.ptr slots n
    was = node-now slots queues past free freed v u block is k n lt read

    pub queue_in : q < length u.items
    queue_in = subst (λ (j : ℕ). j < length u.items) (ap (λ (c : Cell). c.queue) was) (used-is slots queues past free freed v u block is (cell_at now.cells k).queue among.used)

    good : IsLink v.ptr slots (length v.items) n.prev × IsLink v.ptr slots (length v.items) n.next
    good = links-node slots queues past free freed v u block is k n lt read

    abbrev v₁ : Vec Node Y
    v₁ = nodes_next v n.prev n.next

    abbrev u₁ : Vec Ends Z
    u₁ = ends_first v u n.prev q n.next

    abbrev b₁ : Cells
    b₁ = cells_in slots queues free freed v₁ u₁

    block₁ : IsBlock slots queues past free v₁ u₁
    block₁ = IsBlock-next slots queues past free freed v u block n.prev n.next q good.0 good.1 queue_in

    pub queue_in_still : q < length u₁.items
    queue_in_still = omega (arith, queue_in, ends-next slots queues past free freed v u block n.prev n.next q good.0 good.1 queue_in)

    prev₁ : IsLink v₁.ptr slots (length v₁.items) n.prev
    prev₁ = link-next slots queues past free freed v u block n.prev n.next q good.0 good.1 queue_in n.prev good.0

    next₁ : IsLink v₁.ptr slots (length v₁.items) n.next
    next₁ = link-next slots queues past free freed v u block n.prev n.next q good.0 good.1 queue_in n.next good.1

    abbrev P : ℕ
    P = lead v.ptr slots (slots + q) n.prev

    abbrev N : ℕ
    N = lead v.ptr slots (slots + q) n.next

    tag : (f : Cell → ℕ) → (cell_at now.cells (f (cell_at now.cells k))).queue ≡ (cell_at now.cells k).queue → (cell_at b₀.cells (f (slot_cell v.ptr slots n))).queue ≡ q
    tag f h = subst (λ (x : Cells). (cell_at x.cells (f (slot_cell v.ptr slots n))).queue ≡ q) (sym is) (subst (λ (c : Cell). (cell_at now.cells (f c)).queue ≡ c.queue) was h)

    step₁ : b₁ ≡ record b₀ { cells = with_next b₀.cells P N }
    step₁ =
        next-written slots queues past free freed v u block n.prev n.next q good.0 good.1 queue_in
        (same-tag slots queues past free freed v u block n.prev n.next q good.0 good.1 queue_in (tag (λ c. c.prev) among.prev))

    base₁ : v₁.ptr ≡ v.ptr
    base₁ = base-next slots queues past free freed v u block n.prev n.next q good.0 good.1 queue_in

    low : q < queues
    low = ends-low slots queues past free freed v u block q queue_in

    tag₁ : (cell_at b₁.cells (lead v₁.ptr slots (slots + q) n.next)).queue ≡ q
    tag₁ =
        ap (λ (x : Cells). (cell_at x.cells (lead v₁.ptr slots (slots + q) n.next)).queue) step₁
        ∙ kept (λ c. c.queue) b₀.cells P (record (cell_at b₀.cells P) { next = N }) (lead-low q n.prev low good.0) refl (lead v₁.ptr slots (slots + q) n.next)
        ∙ ap (λ (p : Ptr). (cell_at b₀.cells (lead p slots (slots + q) n.next)).queue) base₁ ∙ tag (λ c. c.next) among.next

    step₂ : cells_in slots queues free freed (nodes_prev v₁ n.next n.prev) (ends_last v₁ u₁ n.next q n.prev) ≡ record b₁ { cells = with_prev b₁.cells (lead v₁.ptr slots (slots + q) n.next) (lead v₁.ptr slots (slots + q) n.prev) }
    step₂ =
        prev-written slots queues past free freed v₁ u₁ block₁ n.next n.prev q next₁ prev₁ queue_in_still
        (same-tag slots queues past free freed v₁ u₁ block₁ n.next n.prev q next₁ prev₁ queue_in_still tag₁)

    module _ (w z : Vec Node Y) (x y : Vec Ends Z) (w-is : w ≡ v₁) (x-is : x ≡ u₁) (z-is : z ≡ nodes_prev w n.next n.prev) (y-is : y ≡ ends_last w x n.next q n.prev) where
      z-full : z ≡ nodes_prev v₁ n.next n.prev
      z-full = z-is ∙ ap (λ (a : Vec Node Y). nodes_prev a n.next n.prev) w-is

      y-full : y ≡ ends_last v₁ u₁ n.next q n.prev
      y-full = y-is ∙ (λ j. ends_last (w-is j) (x-is j) n.next q n.prev)

      pub IsBlock-detached : IsBlock slots queues past free z y
      IsBlock-detached =
          subst (λ (a : Vec Node Y). IsBlock slots queues past free a y) (sym z-full)
          (subst (IsBlock slots queues past free (nodes_prev v₁ n.next n.prev)) (sym y-full)
          (IsBlock-prev slots queues past free freed v₁ u₁ block₁ n.next n.prev q next₁ prev₁ queue_in_still))

      pub detached-is : cells_in slots queues free freed z y ≡ record now { cells = detached now.cells k }
      detached-is =
          (λ j. cells_in slots queues free freed (z-full j) (y-full j)) ∙ step₂
          ∙ (λ j. record (step₁ j) { cells = with_prev (step₁ j).cells (lead (base₁ j) slots (slots + q) n.next) (lead (base₁ j) slots (slots + q) n.prev) })
          ∙ (λ j. record (is j) { cells = with_prev (with_next (is j).cells (sym was j).prev (sym was j).next) (sym was j).next (sym was j).prev })

  -- a slot comes to the end of a queue
  module _ (k q : ℕ) (lt : k < now.lent) (used : IsUsed now q) (here : Ptr) (here-is : here ≡ place node_size v.ptr k) (e : Ends) (read : e ≡ get_or u.items q e) where
    pub queue_at : q < length u.items
    queue_at = used-is slots queues past free freed v u block is q used

    k-in : k < length v.items
    k-in = lent-in slots queues past free freed v u block is k lt

    last-link : IsLink v.ptr slots (length v.items) e.last
    last-link = (links-ends slots queues past free freed v u block is q e queue_at read).1

    pub last_is_link : IsLink v.ptr slots (length v.items) e.last
    last_is_link = last-link

    here-link : IsLink v.ptr slots (length v.items) here
    here-link = IsLink-place v.ptr slots past block.past_is (length v.items) k here here-is k-in

    here-at : (home : ℕ) → lead v.ptr slots home here ≡ k
    here-at home =
        let i : index_of node_size v.ptr here ≡ k = ap (index_of node_size v.ptr) here-is ∙ index_of-place v.ptr k block.past_is.in_block in
        lead-in v.ptr slots home here (omega (arith, i, k-in, few slots queues past free freed v u block)) ∙ i

    abbrev w₁ : Vec Node Y
    w₁ = nodes_next v e.last here

    abbrev x₁ : Vec Ends Z
    x₁ = ends_first v u e.last q here

    abbrev c₁ : Cells
    c₁ = cells_in slots queues free freed w₁ x₁

    come₁ : IsBlock slots queues past free w₁ x₁
    come₁ = IsBlock-next slots queues past free freed v u block e.last here q last-link here-link queue_at

    pub queue_at_still : q < length x₁.items
    queue_at_still = omega (arith, queue_at, ends-next slots queues past free freed v u block e.last here q last-link here-link queue_at)

    k-in₁ : k < length w₁.items
    k-in₁ = omega (arith, k-in, long-next slots queues past free freed v u block e.last here q last-link here-link queue_at)

    same-base : w₁.ptr ≡ v.ptr
    same-base = base-next slots queues past free freed v u block e.last here q last-link here-link queue_at

    abbrev Last : ℕ
    Last = lead v.ptr slots (slots + q) e.last

    write₁ : c₁ ≡ record b₀ { cells = with_next b₀.cells Last k }
    write₁ =
        next-written slots queues past free freed v u block e.last here q last-link here-link queue_at (λ _. here-at _ ∙ sym (here-at (slots + q)))
        ∙ ap (λ (j : ℕ). record b₀ { cells = with_next b₀.cells Last j }) (here-at (slots + q))

    abbrev m : Node
    m = record (node_in w₁.items k) { prev = e.last; next = past; queue = q }

    abbrev w₂ : Vec Node Y
    w₂ = with_item w₁ k m

    link₁ : (p : Ptr) → IsLink v.ptr slots (length v.items) p → IsLink w₁.ptr slots (length w₁.items) p
    link₁ p l = link-next slots queues past free freed v u block e.last here q last-link here-link queue_at p l

    come₂ : IsBlock slots queues past free w₂ x₁
    come₂ = IsBlock-node slots queues past free freed w₁ x₁ come₁ k m k-in₁ (come₁.linked.numbered k k-in₁) (link₁ e.last last-link) (IsLink-past w₁.ptr slots past come₁.past_is (length w₁.items))

    abbrev c₂ : Cells
    c₂ = cells_in slots queues free freed w₂ x₁

    write₂ : c₂ ≡ record c₁ { cells = relinked c₁.cells k Last (slots + q) q }
    write₂ =
        let was : cell_at c₁.cells k ≡ slot_cell w₁.ptr slots (node_in w₁.items k) = cell-of slots queues past free freed w₁ x₁ come₁ k k-in₁ in
        node-written slots queues past free freed w₁ x₁ come₁ k m k-in₁
        ∙ (λ j. record c₁ {
          cells = slice_set c₁.cells k (record (sym was j) {
            prev = lead (same-base j) slots (slots + q) e.last;
            next = lead-past w₁.ptr slots past come₁.past_is (slots + q) j;
            queue = q;
          });
        })

    here₂ : IsLink w₂.ptr slots (length w₂.items) here
    here₂ = subst (λ (j : ℕ). IsLink w₁.ptr slots j here) (sym (length-set w₁.items k m)) (link₁ here here-link)

    abbrev f : Ends
    f = record (ends_in x₁.items q) { last = here }

    write₃ : cells_in slots queues free freed w₂ (with_item x₁ q f) ≡ record c₂ { cells = with_prev c₂.cells (slots + q) k }
    write₃ =
        let was = head-of slots queues past free freed w₂ x₁ come₂ q queue_at_still (ends-low slots queues past free freed v u block q queue_at) in
        let count = ap (slice_set c₂.counts q) (sym (count-of slots queues past free freed w₂ x₁ come₂ q queue_at_still (ends-low slots queues past free freed v u block q queue_at))) ∙ set-get_or c₂.counts q 0 in
        let to : lead w₁.ptr slots (slots + q) here ≡ k = ap (λ (p : Ptr). lead p slots (slots + q) here) same-base ∙ here-at (slots + q) in
        ends-written slots queues past free freed w₂ x₁ come₂ q f queue_at_still
        ∙ (λ j. record c₂ { cells = slice_set c₂.cells (slots + q) (record (sym was j) { prev = to j }); counts = count j })

    module _ (w z : Vec Node Y) (x y : Vec Ends Z) (w-is : w ≡ w₁) (x-is : x ≡ x₁) (z-is : z ≡ with_item w k (record (node_in w.items k) { prev = e.last; next = past; queue = q })) (y-is : y ≡ with_item x q (record (ends_in x.items q) { last = here })) where
      to-z : z ≡ w₂
      to-z = z-is ∙ ap (λ (a : Vec Node Y). with_item a k (record (node_in a.items k) { prev = e.last; next = past; queue = q })) w-is

      to-y : y ≡ with_item x₁ q f
      to-y = y-is ∙ ap (λ (a : Vec Ends Z). with_item a q (record (ends_in a.items q) { last = here })) x-is

      pub IsBlock-attached : IsBlock slots queues past free z y
      IsBlock-attached =
          subst (λ (a : Vec Node Y). IsBlock slots queues past free a y) (sym to-z)
          (subst (IsBlock slots queues past free w₂) (sym to-y)
          (IsBlock-ends slots queues past free freed w₂ x₁ come₂ q f queue_at_still (come₂.linked.first q queue_at_still) here₂))

      pub attached-is : cells_in slots queues free freed z y ≡ record now { cells = attached now.cells k (now.slots + q) q }
      attached-is =
          let head = ends-now slots queues past free freed v u block is q e queue_at read in
          let s = slots-now slots queues past free freed v u block is in
          (λ j. cells_in slots queues free freed (to-z j) (to-y j)) ∙ write₃
          ∙ (λ j. record (write₂ j) { cells = with_prev (write₂ j).cells (slots + q) k })
          ∙ (λ j. record (write₁ j) { cells = with_prev (relinked (write₁ j).cells k Last (slots + q) q) (slots + q) k })
          ∙ (λ j. record (is j) { cells = with_prev (relinked (with_next (is j).cells (sym head j).prev k) k (sym head j).prev (s j + q) q) (s j + q) k })

  -- a slot is in no queue, and the first of the free ones
  module _ (k : ℕ) (n : Node) (lt : k < now.lent) (read : n ≡ get_or v.items k n) (here : Ptr) (here-is : here ≡ place node_size v.ptr k) where
    gone-in : k < length v.items
    gone-in = lent-in slots queues past free freed v u block is k lt

    pub left : HasLeft now (cells_in slots queues here (freed + 1) (with_item v k (record n { next = free; queue = queues })) u) k
    left = record {
      prev = lead v.ptr slots (slots + queues) n.prev;
      is =
          let was = node-now slots queues past free freed v u block is k n lt read in
          let m : Node = record n { next = free; queue = queues } in
          let i : index_of node_size v.ptr here ≡ k = ap (index_of node_size v.ptr) here-is ∙ index_of-place v.ptr k block.past_is.in_block in
          let to : lead v.ptr slots (slots + queues) here ≡ k = lead-in v.ptr slots (slots + queues) here (omega (arith, i, gone-in, few slots queues past free freed v u block)) ∙ i in
          (λ j. record (node-written slots queues past free freed v u block k m gone-in j) { free = to j; freed = freed + 1 })
          ∙ (λ j. record (is j) {
            cells = slice_set (is j).cells k (record (sym was j) { prev = lead v.ptr slots (slots + queues) n.prev; next = (is j).free; queue = (is j).queues });
            free = k;
            freed = (is j).freed + 1;
          });
    }

    pub IsBlock-left : IsBlock slots queues past here (with_item v k (record n { next = free; queue = queues })) u
    IsBlock-left =
        let m : Node = record n { next = free; queue = queues } in
        let s : node_in v.items k ≡ n = sym (get_or_read v.items k n gone-in read (blank_node null_ptr 0)) in
        let links = links-node slots queues past free freed v u block is k n lt read in
        let slot : n.slot ≡ k = sym (ap (λ (x : Node). x.slot) s) ∙ block.linked.numbered k gone-in in
        with-free slots queues past free (with_item v k m) u here
        (subst (λ (l : ℕ). IsLink v.ptr slots l here) (sym (length-set v.items k m)) (IsLink-place v.ptr slots past block.past_is (length v.items) k here here-is gone-in))
        (IsBlock-node slots queues past free freed v u block k m gone-in slot links.0 block.free_link)

  -- the first free slot is taken
  module _ (has : HasFree now) where
    pub free-now : lead v.ptr slots (slots + queues) free ≡ now.free
    free-now = ap (λ (x : Cells). x.free) is

    pub free-low : index_of node_size v.ptr free < length v.items
    free-low =
        elim block.free_link.within [
          | inl lt ↦ lt
          | inr e ↦
              let home = lead-out v.ptr slots (slots + queues) free (omega arith) in
              let l = ap {B = ℕ} (λ (x : Cells). x.lent) is in
              absurd (omega (arith, home, free-now, l, has.slot, few slots queues past free freed v u block))
        ]

    pub free-index : index_of node_size v.ptr free ≡ now.free
    free-index = sym (lead-in v.ptr slots (slots + queues) free (omega (arith, free-low, few slots queues past free freed v u block))) ∙ free-now

    pub free-place : IsPlace node_size v.ptr (length v.items) free
    free-place = record { within = free-low; is = block.free_link.is }

    module _ (n : Node) (read : n ≡ get_or v.items (index_of node_size v.ptr free) n) (o : Order) where
      abbrev at : ℕ
      at = index_of node_size v.ptr free

      at-lent : at < now.lent
      at-lent = omega (arith, free-index, has.slot)

      pub slot-taken : n.slot ≡ now.free
      slot-taken = ap (λ (x : Node). x.slot) (get_or_read v.items at n free-low read (blank_node null_ptr 0)) ∙ block.linked.numbered at free-low ∙ free-index

      read-now : n ≡ get_or v.items now.free n
      read-now = subst (λ (k : ℕ). n ≡ get_or v.items k n) free-index read

      was-free : cell_at now.cells now.free ≡ slot_cell v.ptr slots n
      was-free = node-now slots queues past free freed v u block is now.free n has.slot read-now

      pub taken-is : cells_in slots queues n.next (freed - 1) (with_item v at (record n { order = o })) u ≡ record now { cells = with_order now.cells now.free o; free = (cell_at now.cells now.free).next; freed = now.freed - 1 }
      taken-is =
          let tag : n.queue ≡ queues = sym (ap (λ (c : Cell). c.queue) was-free) ∙ has.tag ∙ sym (ap (λ (x : Cells). x.queues) is) in
          let to : lead v.ptr slots (slots + queues) n.next ≡ (cell_at now.cells now.free).next = ap (λ (q : ℕ). lead v.ptr slots (slots + q) n.next) (sym tag) ∙ sym (ap (λ (c : Cell). c.next) was-free) in
          (λ j. record (order-changed slots queues past free freed v u block is at n o at-lent read j) { free = to j; freed = (is j).freed - 1 })
          ∙ (λ j. record now { cells = with_order now.cells (free-index j) o; free = (cell_at now.cells now.free).next; freed = now.freed - 1 })

      pub IsBlock-taken : IsBlock slots queues past n.next (with_item v at (record n { order = o })) u
      IsBlock-taken =
          let m : Node = record n { order = o } in
          let links = links-node slots queues past free freed v u block is at n at-lent read in
          with-free slots queues past free (with_item v at m) u n.next
          (subst (λ (l : ℕ). IsLink v.ptr slots l n.next) (sym (length-set v.items at m)) links.1)
          (IsBlock-kept slots queues past free freed v u block is at n m at-lent read refl refl refl)

-- ---- a new block

pub fresh : (slots queues : ℕ) (base past : Ptr) → IsPast base slots past → cells_with slots queues base past 0 [] [] ≡ new_block slots queues
unfolding shown counts_of
fresh slots queues base past past_is =
    let zero₁ : IsPast base slots (past_all base slots) = record { in_block = past_is.in_block; is = refl; small = past_is.small } in
    let zero₂ : IsPast (block_ptr 0 0) slots (past_all (block_ptr 0 0) slots) = record { in_block = tt; is = refl; small = past_is.small } in
    let same : (home : ℕ) → lead base slots home (past_all base slots) ≡ lead (block_ptr 0 0) slots home (past_all (block_ptr 0 0) slots) =
    (λ home. lead-past base slots (past_all base slots) zero₁ home ∙ sym (lead-past (block_ptr 0 0) slots (past_all (block_ptr 0 0) slots) zero₂ home)) in
    (λ j. record {
      slots = slots;
      queues = queues;
      lent = 0;
      used = 0;
      cells = mapped-same (shown_at slots queues (block_ptr 0 0) [] []) (shown_at slots queues base [] []) (slots + queues)
          (λ k within j. cond (nat_lt k slots) (record { order = no_order; prev = same (slots + queues) j; next = same (slots + queues) j; queue = queues }) (record { order = no_order; prev = same (slots + (k - slots)) j; next = same (slots + (k - slots)) j; queue = k - slots })) j;
      counts = mapped-same (λ q. (ends_at (block_ptr 0 0) slots [] q).count) (λ q. (ends_at base slots [] q).count) queues (λ q within. refl) j;
      free = (lead-past base slots past past_is (slots + queues) ∙ sym (lead-past (block_ptr 0 0) slots (past_all (block_ptr 0 0) slots) zero₂ (slots + queues))) j;
      freed = 0;
    })

pub IsBlock-new : {Y Z : Type 0} (slots queues : ℕ) (past : Ptr) (v : Vec Node Y) (u : Vec Ends Z) → 2 * slots < 2 ^ 32 → 2 * queues < 2 ^ 32 → v.cap ≡ slots → u.cap ≡ queues → IsPast v.ptr slots past → v.items ≡ [] → u.items ≡ [] → IsBlock slots queues past past v u
IsBlock-new slots queues past v u few many nodes ends is no-nodes no-ends-yet =
    let zn : length {A = Node} [] ≡ 0 = refl in
    let ze : length {A = Ends} [] ≡ 0 = refl in
    record {
      slots_fit = few;
      queues_fit = many;
      nodes_room = nodes;
      ends_room = ends;
      past_is = is;
      linked =
          subst (λ (ns : List Node). AreLinked v.ptr slots ns u.items) (sym no-nodes)
          (subst (λ (es : List Ends). AreLinked v.ptr slots [] es) (sym no-ends-yet)
          (record {
            numbered = λ k lt. absurd (omega arith);
            prev = λ k lt. absurd (omega arith);
            next = λ k lt. absurd (omega arith);
            first = λ q lt. absurd (omega arith);
            last = λ q lt. absurd (omega arith);
          }));
      free_link = IsLink-past v.ptr slots past is (length v.items);
    }
