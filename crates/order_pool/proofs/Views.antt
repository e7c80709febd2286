-- What a contract sees of a pool's rings when a slot leaves one, or comes.
use Rattle.std.proofs.Common.{◌≡◌, ◌≢◌, ℕ, ◌+◌, ◌<◌, Bool, not, cond, List, [], ◌∷◌, ◌++◌, length, map, refl, sym, ap, ◌∙◌, arith, inl, inr, slice_set}
use Rattle.std.proofs.lemmas.List.{length-map, map-set, get_or-map, same_lists, map-append}
use Rattle.std.proofs.lemmas.Bool.Decides.{eqb_tells}
use Rattle.order_pool.specs.Inner.Block.{Cell, detached, attached}
use Rattle.order_pool.specs.Inner.Rings.{order_at, queue_at, Each, In, AreWholeRings, IsOut, ring_at, without, entry}
use Rattle.order_pool.specs.Queues.{Entry, entries_at, without_slot, removed, appended, HasSlot}
use Rattle.order_pool.proofs.Paths.{without-same, without-other}
use Rattle.order_pool.proofs.RingMoves.{detached_order, attached_order}
use Rattle.order_pool.proofs.WholeRings.{member}

pub entry-same : (cs cs' : List Cell) → ((y : ℕ) → order_at cs' y ≡ order_at cs y) → entry cs' ≡ entry cs
entry-same cs cs' same = λ j y. (y, same y j)

module _ (cs : List Cell) (i : ℕ) where
  pub without_slot-entries : (ks : List ℕ) → without_slot i (map (entry cs) ks) ≡ map (entry cs) (without i ks)
  without_slot-entries [] = refl
  without_slot-entries (k ∷ ks) =
      let F = without_slot i (map (entry cs) ks) in
      elim (eqb_tells k i) [
        | inl t ↦ ap (λ (b : Bool). cond (not b) (entry cs k ∷ F) F) t.0 ∙ without_slot-entries ks ∙ ap (map (entry cs)) (sym (without-same i k ks (sym t.1)))
        | inr t ↦ ap (λ (b : Bool). cond (not b) (entry cs k ∷ F) F) t.0 ∙ ap (λ (es : List Entry). entry cs k ∷ es) (without_slot-entries ks) ∙ ap (map (entry cs)) (sym (without-other i k ks t.1))
      ]

  pub removed-entries : (X : List (List ℕ)) → removed i (map (map (entry cs)) X) ≡ map (map (entry cs)) (map (without i) X)
  removed-entries [] = refl
  removed-entries (ks ∷ X) = λ j. without_slot-entries ks j ∷ removed-entries X j

pub has_slot-entries : (cs : List Cell) (i : ℕ) (ks : List ℕ) → In i ks → HasSlot i (map (entry cs) ks)
has_slot-entries cs i [] h = absurd h
has_slot-entries cs i (k ∷ ks) (inl e) = inl e
has_slot-entries cs i (k ∷ ks) (inr h) = inr (has_slot-entries cs i ks h)

pub in-entries : (cs : List Cell) (i : ℕ) (ks : List ℕ) → HasSlot i (map (entry cs) ks) → In i ks
in-entries cs i [] h = absurd h
in-entries cs i (k ∷ ks) (inl e) = inl e
in-entries cs i (k ∷ ks) (inr h) = inr (in-entries cs i ks h)

module _ (cs : List Cell) (slots queues : ℕ) {lent : ℕ} {free : List ℕ} (L : List (List ℕ)) (whole : AreWholeRings cs slots queues lent free L) where
  abbrev qs : List (List Entry)
  qs = map (map (entry cs)) L

  pub entries_at-qs : (q : ℕ) → q < queues → entries_at qs q ≡ map (entry cs) (ring_at L q)
  entries_at-qs q lq = get_or-map (map (entry cs)) L q [] [] (omega (arith, whole.are.count))

  pub length-qs : length qs ≡ queues
  length-qs = length-map L (map (entry cs)) ∙ whole.are.count

  -- a slot leaves its ring
  pub entries-out : (i : ℕ) → i < lent → queue_at cs i < queues → map (map (entry (detached cs i))) (map (without i) L) ≡ removed i qs
  entries-out i li lq =
      ap (λ (f : ℕ → Entry). map (map f) (map (without i) L)) (entry-same cs (detached cs i) (detached_order cs slots queues L whole.are (queue_at cs i) i lq (member cs slots queues L whole i li lq)))
      ∙ sym (removed-entries cs i L)

module _ (cs : List Cell) (slots queues : ℕ) {lent : ℕ} {free : List ℕ} (L : List (List ℕ)) (i : ℕ) (out : IsOut cs slots queues lent free L i) where
  abbrev qs' : List (List Entry)
  qs' = map (map (entry cs)) L

  -- no ring shows it
  pub entries-kept : (was : List Cell) → ((k : ℕ) → k ≢ i → order_at cs k ≡ order_at was k) → qs' ≡ map (map (entry was)) L
  entries-kept was same =
      same_lists _ _ (length-map L (map (entry cs)) ∙ sym (length-map L (map (entry was)))) (λ q d lt.
      let lL : q < length L = omega (arith, length-map L (map (entry cs))) in
      get_or-map (map (entry cs)) L q [] d lL ∙ others (ring_at L q) (out.gone q (omega (arith, out.are.count))) ∙ sym (get_or-map (map (entry was)) L q [] d lL))
    where
      others : (ks : List ℕ) → Each (λ k. k ≢ i) ks → map (entry cs) ks ≡ map (entry was) ks
      others [] h = refl
      others (k ∷ ks) h = λ j. (k, same k h.0 j) ∷ others ks h.1 j

  -- it comes to the end of a ring
  pub entries-came : (r : ℕ) → r < queues → map (map (entry (attached cs i (slots + r) r))) (slice_set L r (ring_at L r ++ i ∷ [])) ≡ appended r (entry cs i) qs'
  entries-came r lr =
      let new = attached cs i (slots + r) r in
      let x = ring_at L r ++ i ∷ [] in
      let at : map (entry cs) (ring_at L r) ≡ entries_at qs' r = sym (get_or-map (map (entry cs)) L r [] [] (omega (arith, out.are.count))) in
      ap (λ (f : ℕ → Entry). map (map f) (slice_set L r x)) (entry-same cs new (attached_order cs slots queues L out.are r i lr (omega (arith, out.slot, out.room)) out.gone))
      ∙ map-set (map (entry cs)) L r x
      ∙ ap (slice_set qs' r) (map-append (entry cs) (ring_at L r) (i ∷ []) ∙ ap (λ (es : List Entry). es ++ entry cs i ∷ []) at)
