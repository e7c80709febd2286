-- The pool after a chunk has come to a side or has left it.
use Rattle.std.proofs.Common.{◌≡◌, ◌≢◌, inl, inr, replicate, length-append, ℕ, ◌+◌, ◌<◌, ◌≤◌, List, [], ◌∷◌, ◌++◌, length, get_or, take, drop, set, Vec, Global, vec_capacity, refl, sym, ap, subst, ◌∙◌, arith, add-one}
use Prim.Native.Nat.{zero, suc}
use Rattle.std.proofs.lemmas.Bool.{cases_lt}
use Rattle.std.specs.List.{AllByRecursion, insert, remove, sum_by}
use Rattle.std.proofs.lemmas.List.{get_or-map, get_or_read, length-map, length-set, map-set, map-append, set-get_or}
use Rattle.std.proofs.lemmas.List.Edits.{get_or-remove_below, length-remove}
use Rattle.std.proofs.lemmas.List.Sums.{sum_by-cons, sum_by-append, get_or-le-sum_by}
use Rattle.price_chunks.specs.declared.place.Step.{Step}
use Rattle.price_chunks.specs.Inner.Chunks.{half, chunk_at}
use Rattle.price_chunks.specs.Inner.Pool.{SideChunks, chunks_at, with_side, with_chunk, numbers_of, rooms_of, row_at, gather, gather_all, one_if, uses, uses_in, IsPool, IsTaken}
use Rattle.price_chunks.proofs.Apart.{one-other, one-below, same-all, other-push, kept, kept_more, seen_more, kept_less, seen_less, set-insert, other-set}
use Rattle.price_chunks.proofs.Held.{listed_in, row_is, long_row, within_in, in_chunks, chunk_set}
use Rattle.price_chunks.proofs.Sided.{halves, whole, side_of, rest_then}
use Rattle.price_chunks.proofs.Changes.{joined}

-- ---- how many there are

lengths : (chunks : List (List Step)) (all : List (List ℕ)) → sum_by length (gather_all chunks all) ≡ sum_by length all
lengths chunks [] = refl
lengths chunks (ns ∷ all) = omega (arith, lengths chunks all, sum_by-cons length ns all, sum_by-cons length (gather chunks ns) (gather_all chunks all), length-map ns (chunk_at chunks))

all-rooms : (sides : List (Vec ℕ Global)) (k : ℕ) (v : Vec ℕ Global) {room : ℕ} → k < length sides → AllByRecursion (λ (c : ℕ). c ≡ room) (rooms_of sides) → vec_capacity (get_or sides k v) ≡ room
all-rooms [] k v lt h = absurd (omega arith)
all-rooms (x ∷ sides) zero v lt h = h.0
all-rooms (x ∷ sides) (suc k) v lt h = all-rooms sides k v (omega arith) h.1

module _ (chunks : List (List Step)) (room : ℕ) (sides : List (Vec ℕ Global)) (free : List ℕ) (r : ℕ) (h : IsPool chunks room (numbers_of sides) (rooms_of sides) free r) (now : SideChunks) (view : record { room = room; sides = gather_all chunks (numbers_of sides) } ≡ now) where
  pub counted : sum_by length now.sides + length free ≡ length chunks
  counted = omega (arith, h.count, lengths chunks (numbers_of sides), ap {B = ℕ} (λ (x : SideChunks). sum_by length x.sides) view)

  pub room_is : room ≡ now.room
  room_is = ap {B = ℕ} (λ (x : SideChunks). x.room) view

  module _ (k : ℕ) (listed : k < length now.sides) (v : Vec ℕ Global) (v_is : v ≡ get_or sides k v) where
    in_sides : k < length sides
    in_sides = listed_in chunks room sides (rooms_of sides) free r h now view k listed

    in_numbers : k < length (numbers_of sides)
    in_numbers = omega (arith, in_sides, length-map sides (λ (x : Vec ℕ Global). x.items))

    pub row_items : v.items ≡ row_at (numbers_of sides) k
    row_items = row_is chunks room sides (rooms_of sides) free r h now view k listed v v_is

    pub row_long : length v.items ≡ length (chunks_at now.sides k)
    row_long = ap {B = ℕ} length row_items ∙ long_row chunks room sides (rooms_of sides) free r h now view k listed

    pub row_below : length v.items ≤ sum_by length now.sides
    row_below = omega (arith, row_long, get_or-le-sum_by length now.sides k [] listed)

    pub row_room : vec_capacity v ≡ room
    row_room = ap {B = ℕ} vec_capacity v_is ∙ all-rooms sides k v in_sides h.roomy

    module _ (w : Vec ℕ Global) where
      pub rooms_same : vec_capacity w ≡ vec_capacity v → rooms_of (set sides k w) ≡ rooms_of sides
      rooms_same e = map-set vec_capacity sides k w ∙ ap (set (rooms_of sides) k) (e ∙ ap {B = ℕ} vec_capacity v_is ∙ sym (get_or-map vec_capacity sides k v 0 in_sides)) ∙ set-get_or (rooms_of sides) k 0

      numbers_set : (row : List ℕ) → w.items ≡ row → numbers_of (set sides k w) ≡ set (numbers_of sides) k row
      numbers_set row e = map-set (λ (x : Vec ℕ Global). x.items) sides k w ∙ ap (set (numbers_of sides) k) e

      -- ---- the back half of a chunk has come

      module _ (i : ℕ) (within : i < length (chunks_at now.sides k)) (n : ℕ) (n_is : n ≡ get_or (row_at (numbers_of sides) k) i 0) (front back : List Step) (new : List (List Step)) (next : List ℕ) (m : ℕ) (t : IsTaken (set chunks n front) new free next m back) (w_is : w.items ≡ insert v.items (i + 1) m) where
        h1 : IsPool (set chunks n front) room (numbers_of sides) (rooms_of sides) free r
        h1 = kept chunks room (numbers_of sides) (rooms_of sides) free r h (set chunks n front) (length-set chunks n front)

        w_row : numbers_of (set sides k w) ≡ set (numbers_of sides) k (insert (row_at (numbers_of sides) k) (i + 1) m)
        w_row = numbers_set (insert (row_at (numbers_of sides) k) (i + 1) m) (w_is ∙ ap (λ (l : List ℕ). insert l (i + 1) m) row_items)

        fits : i + 1 ≤ length (row_at (numbers_of sides) k)
        fits = omega (arith, within_in chunks room sides (rooms_of sides) free r h now view k listed i within)

        pub split_pool : vec_capacity w ≡ vec_capacity v → (room2 r2 : ℕ) → room2 ≡ room → r2 ≡ r → IsPool new room2 (numbers_of (set sides k w)) (rooms_of (set sides k w)) next r2
        split_pool same room2 r2 e f =
            subst (λ (x : ℕ × List (List ℕ) × List ℕ × ℕ). IsPool new x.0 x.1 x.2 next x.3) (λ j. (sym e j, sym w_row j, sym (rooms_same same) j, sym f j))
            (kept_more (set chunks n front) room (numbers_of sides) (rooms_of sides) free r h1 new next m back t k (i + 1) in_numbers fits)

        pub split_view : (room2 : ℕ) → room2 ≡ room → front ≡ take half (chunk_at (chunks_at now.sides k) i) → back ≡ drop half (chunk_at (chunks_at now.sides k) i) → record { room = room2; sides = gather_all new (numbers_of (set sides k w)) } ≡ with_side now k (halves i (chunks_at now.sides k))
        split_view room2 e f b =
            let cs = chunks_at now.sides k in
            let front2 = take half (chunk_at cs i) in
            let p : SideChunks = record { room = room; sides = gather_all (set chunks n front) (numbers_of sides) } in
            let q : SideChunks = record { room = room; sides = gather_all new (set (numbers_of sides) k (insert (row_at (numbers_of sides) k) (i + 1) m)) } in
            let p_is : p ≡ with_side now k (set cs i front2) = chunk_set chunks room sides (rooms_of sides) free r h now view k listed i within n n_is front front2 f in
            let q_is : q ≡ with_side p k (insert (chunks_at p.sides k) (i + 1) back) = ap (λ (l : List (List (List Step))). record { room = room; sides = l }) (seen_more (set chunks n front) room (numbers_of sides) (rooms_of sides) free r h1 new next m back t k (i + 1) in_numbers) in
            let seen : insert (chunks_at p.sides k) (i + 1) back ≡ halves i cs =
            (λ j. insert (side_of now k listed p (set cs i front2) p_is j) (add-one i j) (b j)) ∙ set-insert cs i front2 (drop half (chunk_at cs i)) within in
            (λ j. record { room = e j; sides = gather_all new (w_row j) })
            ∙ rest_then now k listed p (set cs i front2) p_is q (insert (chunks_at p.sides k) (i + 1) back) q_is
            ∙ ap (with_side now k) seen

      -- ---- a chunk has left

      module _ (i : ℕ) (within : i + 1 < length (chunks_at now.sides k)) (m : ℕ) (m_is : m ≡ get_or v.items (i + 1) m) (w_is : w.items ≡ remove v.items (i + 1)) (same : vec_capacity w ≡ vec_capacity v) (gone : List Step) where
        inside : i + 1 < length (row_at (numbers_of sides) k)
        inside = within_in chunks room sides (rooms_of sides) free r h now view k listed (i + 1) within

        pub m_read : m ≡ get_or (row_at (numbers_of sides) k) (i + 1) 0
        m_read = get_or_read v.items (i + 1) m (omega (arith, row_long)) m_is 0 ∙ ap (λ (l : List ℕ). get_or l (i + 1) 0) row_items

        pub m_in : m < length chunks
        m_in = in_chunks chunks room sides (rooms_of sides) free r h now view k listed (i + 1) within m m_read

        pub less_row : numbers_of (set sides k w) ≡ set (numbers_of sides) k (remove (row_at (numbers_of sides) k) (i + 1))
        less_row = numbers_set (remove (row_at (numbers_of sides) k) (i + 1)) (w_is ∙ ap (λ (l : List ℕ). remove l (i + 1)) row_items)

        pub less_pool : (new : List (List Step)) → length new ≡ length chunks → IsPool new room (numbers_of (set sides k w)) (rooms_of (set sides k w)) (free ++ m ∷ []) r
        less_pool new e =
            subst (λ (x : List (List ℕ) × List ℕ). IsPool new room x.0 x.1 (free ++ m ∷ []) r) (λ j. (sym less_row j, sym (rooms_same same) j))
            (kept_less chunks room (numbers_of sides) (rooms_of sides) free r h k (i + 1) in_numbers inside m m_read new e)

        abbrev pub left : SideChunks
        left = record { room = room; sides = gather_all (set chunks m gone) (numbers_of (set sides k w)) }

        pub left_is : left ≡ with_side now k (remove (chunks_at now.sides k) (i + 1))
        left_is =
            (λ j. record { room = room; sides = gather_all (set chunks m gone) (less_row j) })
            ∙ ap (λ (l : List (List (List Step))). record { room = room; sides = l }) (seen_less chunks room (numbers_of sides) (rooms_of sides) free r h k (i + 1) in_numbers inside m m_read (set chunks m gone) gone (other-set chunks m gone m_in))
            ∙ ap (λ (x : SideChunks). with_side x k (remove (chunks_at x.sides k) (i + 1))) view

        pub left_seen : chunks_at left.sides k ≡ remove (chunks_at now.sides k) (i + 1)
        left_seen = side_of now k listed left (remove (chunks_at now.sides k) (i + 1)) left_is

        pub left_listed : k < length left.sides
        left_listed = omega (arith, ap {B = ℕ} (λ (x : SideChunks). length x.sides) left_is, length-set now.sides k (remove (chunks_at now.sides k) (i + 1)))

        pub left_within : i < length (chunks_at left.sides k)
        left_within = omega (arith, ap {B = ℕ} length left_seen, length-remove (chunks_at now.sides k) (i + 1) within)

        pub left_chunk : chunk_at (chunks_at left.sides k) i ≡ chunk_at (chunks_at now.sides k) i
        left_chunk = ap (λ (l : List (List Step)). chunk_at l i) left_seen ∙ get_or-remove_below (chunks_at now.sides k) (i + 1) [] i (omega arith) within

        pub join_view : (all : SideChunks) (x : List Step) → all ≡ with_chunk left k i x → x ≡ chunk_at (chunks_at now.sides k) i ++ chunk_at (chunks_at now.sides k) (i + 1) → all ≡ with_side now k (whole i (chunks_at now.sides k))
        join_view all x e f =
            let cs = chunks_at now.sides k in
            rest_then now k listed left (remove cs (i + 1)) left_is all (set (chunks_at left.sides k) i x) e
            ∙ ap (with_side now k) ((λ j. set (left_seen j) i (f j)) ∙ joined cs i (chunk_at cs i ++ chunk_at cs (i + 1)) within)

-- ---- at the start

pub no_pool : (room r : ℕ) → room < 4294967296 → r ≡ room → IsPool [] room [] [] [] r
no_pool room r fits e = record { fits = fits; apart = λ k. omega arith; above = λ k le. refl; count = refl; roomy = tt; spared = e }

replicate-push : {X : Type 0} (n : ℕ) (x : X) → replicate n x ++ x ∷ [] ≡ replicate (suc n) x
replicate-push zero x = refl
replicate-push {X} (suc n) x = ap (λ (l : List X). x ∷ l) (replicate-push n x)

all-push : (n : ℕ) (rooms : List ℕ) (c : ℕ) → AllByRecursion (λ (x : ℕ). x ≡ n) rooms → c ≡ n → AllByRecursion (λ (x : ℕ). x ≡ n) (rooms ++ c ∷ [])
all-push n [] c h e = (e, tt)
all-push n (x ∷ rooms) c h e = (h.0, all-push n rooms c h.1 e)

-- one more side, with a chunk that was never in use
module _ (chunks : List (List Step)) (room : ℕ) (sides : List (Vec ℕ Global)) (r : ℕ) (h : IsPool chunks room (numbers_of sides) (rooms_of sides) [] r) (v : Vec ℕ Global) (v_is : v.items ≡ length chunks ∷ []) where
  more_numbers : numbers_of (sides ++ v ∷ []) ≡ numbers_of sides ++ (length chunks ∷ []) ∷ []
  more_numbers = map-append (λ (x : Vec ℕ Global). x.items) sides (v ∷ []) ∙ ap (λ (l : List ℕ). numbers_of sides ++ l ∷ []) v_is

  pub more_pool : vec_capacity v ≡ room → IsPool (chunks ++ [] ∷ []) room (numbers_of (sides ++ v ∷ [])) (rooms_of (sides ++ v ∷ [])) [] r
  more_pool e =
      let n = length chunks in
      let long = length-append chunks ([] ∷ []) in
      let u : (k : ℕ) → uses_in k (numbers_of sides ++ (n ∷ []) ∷ []) ≡ uses_in k (numbers_of sides) + one_if k n =
      λ k. omega (arith, sum_by-append (uses k) (numbers_of sides) ((n ∷ []) ∷ []), sum_by-cons (uses k) (n ∷ []) [], sum_by-cons (one_if k) n []) in
      subst (λ (x : List (List ℕ) × List ℕ). IsPool (chunks ++ [] ∷ []) room x.0 x.1 [] r) (λ j. (sym more_numbers j, sym (map-append vec_capacity sides (v ∷ [])) j)) (record {
        fits = h.fits;
        apart = λ k. elim (cases_lt k n) [
          | inl lt ↦ let ne : n ≢ k = omega arith in omega (arith, u k, h.apart k, one-other k n ne)
          | inr le ↦ omega (arith, u k, h.above k le, one-below k n)
        ];
        above = λ k le. let ne : n ≢ k = omega arith in omega (arith, u k, one-other k n ne, h.above k (omega arith));
        count = omega (arith, h.count, long, sum_by-append length (numbers_of sides) ((n ∷ []) ∷ []), sum_by-cons {X = List ℕ} length (n ∷ []) []);
        roomy = all-push room (rooms_of sides) (vec_capacity v) h.roomy e;
        spared = h.spared;
      })

  pub more_seen : (i : ℕ) → gather_all chunks (numbers_of sides) ≡ replicate i ([] ∷ []) → gather_all (chunks ++ [] ∷ []) (numbers_of (sides ++ v ∷ [])) ≡ replicate (i + 1) ([] ∷ [])
  more_seen i e =
      let n = length chunks in
      let new = chunks ++ [] ∷ [] in
      let o = other-push chunks [] in
      ap (gather_all new) more_numbers
      ∙ map-append (gather new) (numbers_of sides) ((n ∷ []) ∷ [])
      ∙ (λ j. (same-all chunks new n [] o (numbers_of sides) (omega (arith, h.above n (omega arith))) ∙ e) j ++ (o.here j ∷ []) ∷ [])
      ∙ replicate-push i ([] ∷ [])
      ∙ ap (λ (k : ℕ). replicate k ([] ∷ [])) (sym (add-one i))
