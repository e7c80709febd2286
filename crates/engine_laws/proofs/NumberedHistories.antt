-- The events of histories are counted.
use Rattle.std.proofs.Common.{◌≡◌, ℕ, ◌≤◌, List, [], ◌∷◌, ◌++◌, replicate, refl, sym, ap, subst, ◌∙◌, arith, slice_index, append_assoc}
use Prim.Native.Nat.{zero, suc}
use Rattle.std.proofs.lemmas.List.{append_cancel_left, append-nil, length-replicate}
use Rattle.std.specs.Prelude.{◌<◌}
use Rattle.std.specs.List.{AllByRecursion}
use Rattle.gx_base.specs.declared.limits.TheConstants.{ADDRESSEES}
use Rattle.gx_base.specs.declared.event.Event.{Event}
use Rattle.product_file.specs.Products.{ProductLists}
use Rattle.order_kinds.specs.State.{State, empty_state}
use Rattle.order_kinds.specs.Step.{state_after, events_from}
use Rattle.order_kinds.specs.Amendments.{amended_state}
use Rattle.order_kinds.specs.Histories.{History, of_product, amended, with_messages, last_product, state_kept, events_kept}
use Rattle.order_kinds.proofs.FurtherMessages.{state-further, events-further}
use Rattle.engine_laws.specs.Lines.{place_in, line_in, count_at, lines_to, numbers_between, AreAbove, AreUpTo, with_pairs}
use Rattle.engine_laws.proofs.Counted.{counted-append, counted-above, counted-up-to, counted-lines}
use Rattle.engine_laws.proofs.NumberedSteps.{StepCounts, frames-count, counts-never-fall, lines-above}

-- ---- a whole history

no-counts : (n place : ℕ) → slice_index (replicate n 0) place ≡ 0
no-counts zero place = refl
no-counts (suc n) zero = refl
no-counts (suc n) (suc place) = no-counts n place

module _ (place : ℕ) where
  abbrev Within : Type 0
  Within = place < ADDRESSEES

  from-empty : (product : ProductLists) → count_at place (empty_state product) ≡ 0
  from-empty product = no-counts ADDRESSEES place

  pub history-counts : (history : History) → StepCounts place ADDRESSEES 0 (state_kept history, events_kept history)
  history-counts (of_product product messages) =
      subst (λ (n : ℕ). StepCounts place ADDRESSEES n (state_after product (empty_state product) messages, events_from product (empty_state product) messages)) (from-empty product)
      (frames-count place ADDRESSEES product (empty_state product) messages (length-replicate {A = ℕ} ADDRESSEES 0))
  history-counts (amended before product messages) =
      let start = amended_state product (state_kept before) in
      let first = history-counts before in
      let others = frames-count place ADDRESSEES product start messages first.long_as in
      record {
        counted = counted-append Within place 0 (events_kept before) (count_at place start) (events_from product start messages) _ first.counted others.counted;
        long_as = others.long_as;
      }

  pub history-above : (history : History) → AreAbove place 0 (events_kept history)
  history-above history = counted-above Within place 0 (events_kept history) (count_at place (state_kept history)) (history-counts history).counted

  pub history-up-to : (history : History) → place < ADDRESSEES → AreUpTo place (count_at place (state_kept history)) (events_kept history)
  history-up-to history w = counted-up-to Within place w 0 (events_kept history) (count_at place (state_kept history)) (history-counts history).counted

  pub history-in-order : (history : History) → place < ADDRESSEES → lines_to place (events_kept history) ≡ numbers_between 0 (count_at place (state_kept history))
  history-in-order history w = counted-lines Within place w 0 (events_kept history) (count_at place (state_kept history)) (history-counts history).counted

-- where this is so of each place
pub above-each : (n : ℕ) (es : List Event) → ((place : ℕ) → AreAbove place n es) → AllByRecursion (λ (e : Event). n < line_in e) es
above-each n [] h = tt
above-each n (e ∷ es) h = ((h (place_in e)).0 refl, above-each n es (λ place. (h place).1))

pub history-from-one : (history : History) → AllByRecursion (λ (e : Event). 1 ≤ line_in e) (events_kept history)
history-from-one history = above-each 0 (events_kept history) (λ place. history-above place history)

-- ---- the rest of a history

-- lines above a greater number
above-less : (place low n : ℕ) (es : List Event) → low ≤ n → AreAbove place n es → AreAbove place low es
above-less place low n [] least h = tt
above-less place low n (e ∷ es) least h = (λ same. omega (arith, h.0 same, least), above-less place low n es least h.1)

above-append : (place n : ℕ) (es fs : List Event) → AreAbove place n es → AreAbove place n fs → AreAbove place n (es ++ fs)
above-append place n [] fs h k = k
above-append place n (e ∷ es) fs h k = (h.0, above-append place n es fs h.1 k)

-- From one history to a longer one no count falls, and each further event has a line above the count before.
pub record GoesOn (place : ℕ) (history longer : History) : Type 0 where
  pub more : List Event
  pub events : events_kept longer ≡ events_kept history ++ more
  pub rises : count_at place (state_kept history) ≤ count_at place (state_kept longer)
  pub above : AreAbove place (count_at place (state_kept history)) more

module _ (place : ℕ) where
  goes-both : (a b c : History) → GoesOn place a b → GoesOn place b c → GoesOn place a c
  goes-both a b c g h = record {
    more = g.more ++ h.more;
    events = h.events ∙ ap (λ (es : List Event). es ++ h.more) g.events ∙ append_assoc (events_kept a) g.more h.more;
    rises = omega (arith, g.rises, h.rises);
    above = above-append place (count_at place (state_kept a)) g.more h.more g.above (above-less place (count_at place (state_kept a)) (count_at place (state_kept b)) h.more g.rises h.above);
  }

  messages-go : (history : History) (messages : List (List ℕ)) → GoesOn place history (with_messages history messages)
  messages-go history messages =
      let product = last_product history in
      let state = state_kept history in
      record {
        more = events_from product state messages;
        events = events-further history messages;
        rises = subst (λ (after : State). count_at place state ≤ count_at place after) (sym (state-further history messages)) (counts-never-fall product state messages place);
        above = lines-above product state messages place;
      }

  amended-go : (history : History) (product : ProductLists) (messages : List (List ℕ)) → GoesOn place history (amended history product messages)
  amended-go history product messages =
      let start = amended_state product (state_kept history) in
      record {
        more = events_from product start messages;
        events = refl;
        rises = counts-never-fall product start messages place;
        above = lines-above product start messages place;
      }

  pairs-go : (history : History) (pairs : List (ProductLists × List (List ℕ))) → GoesOn place history (with_pairs history pairs)
  pairs-go history [] = record { more = []; events = sym (append-nil (events_kept history)); rises = omega arith; above = tt }
  pairs-go history (pair ∷ pairs) =
      let next = amended history pair.0 pair.1 in goes-both history next (with_pairs next pairs) (amended-go history pair.0 pair.1) (pairs-go next pairs)

  pub history-goes-on : (history : History) (messages : List (List ℕ)) (pairs : List (ProductLists × List (List ℕ))) → GoesOn place history (with_pairs (with_messages history messages) pairs)
  history-goes-on history messages pairs =
      let next = with_messages history messages in goes-both history next (with_pairs next pairs) (messages-go history messages) (pairs-go next pairs)

  -- the same of any list that has these events
  pub rest-above : (history : History) (messages : List (List ℕ)) (pairs : List (ProductLists × List (List ℕ))) (more : List Event)
      → events_kept (with_pairs (with_messages history messages) pairs) ≡ events_kept history ++ more → AreAbove place (count_at place (state_kept history)) more
  rest-above history messages pairs more is =
      let g = history-goes-on history messages pairs in
      subst (AreAbove place (count_at place (state_kept history))) (append_cancel_left (events_kept history) g.more more (sym g.events ∙ is)) g.above
