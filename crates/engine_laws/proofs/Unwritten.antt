-- Lines of a firm that were given already are not given again, so nothing more is written of them.
use Rattle.std.proofs.Common.{◌≡◌, ℕ, ◌≤◌, Bool, true, false, List, [], ◌∷◌, ◌++◌, flat_map, Option, Some, None, refl, sym, ap, subst, ◌∙◌, arith, inl, inr}
use Rattle.std.proofs.lemmas.Bool.{lt-leb}
use Rattle.std.proofs.lemmas.Bool.Decides.{eqb_tells}
use Rattle.std.proofs.lemmas.List.{append-nil}
use Rattle.std.specs.Prelude.{◌<◌, ◌&&◌, nat_le}
use Rattle.std.specs.List.{AllByRecursion}
use Rattle.gx_base.specs.NameLists.{NameLists}
use Rattle.gx_base.specs.declared.event.Event.{Event}
use Rattle.product_file.specs.Products.{ProductLists}
use Rattle.order_kinds.specs.State.{State}
use Rattle.order_kinds.specs.Reports.{line_place}
use Rattle.order_kinds.specs.Step.{events_from}
use Rattle.order_kinds.specs.Amendments.{amended_state}
use Rattle.order_kinds.specs.Histories.{History, amended, with_messages, last_product, state_kept, events_kept, lines_kept}
use Rattle.order_kinds.proofs.FurtherMessages.{state-further, lines-further}
use Rattle.engine_laws.specs.Heads.{head_in}
use Rattle.engine_laws.specs.Lines.{line_in, count_at, AreAbove, is_firm, goes_to_range, WritesOnly, with_pairs}
use Rattle.engine_laws.proofs.NumberedSteps.{counts-never-fall, lines-above}
use Rattle.engine_laws.proofs.NumberedHistories.{rest-above}

-- ---- one event

-- a line above the range is not in it
above-range : (low high line : ℕ) → high < line → nat_le low line && nat_le line high ≡ false
above-range low high line above =
    let past : nat_le line high ≡ false = lt-leb line high above in
    let go : (b : Bool) → b && nat_le line high ≡ false = elim [ true ↦ past | false ↦ refl ] in
    go (nat_le low line)

not-in-range : (firm low high line : ℕ) (who : Option ℕ) → (line_place who ≡ firm → high < line) → is_firm firm who && (nat_le low line && nat_le line high) ≡ false
not-in-range firm low high line None above = refl
not-in-range firm low high line (Some other) above =
    let rest = nat_le low line && nat_le line high in
    elim (eqb_tells other firm) [
      | inl t ↦ subst (λ (b : Bool). b && rest ≡ false) (sym t.0) (above-range low high line (above t.1))
      | inr t ↦ subst (λ (b : Bool). b && rest ≡ false) (sym t.0) refl
    ]

-- ---- some events

module _ (firm low high : ℕ) where
  abbrev pub GoesElsewhere : List Event → Type 0
  GoesElsewhere events = AllByRecursion (λ (e : Event). goes_to_range firm low high e ≡ false) events

  pub above-elsewhere : (n : ℕ) (es : List Event) → high ≤ n → AreAbove firm n es → GoesElsewhere es
  above-elsewhere n [] most h = tt
  above-elsewhere n (e ∷ es) most h = (not-in-range firm low high (line_in e) (head_in e).firm (λ same. omega (arith, h.0 same, most)), above-elsewhere n es most h.1)

  pub messages-elsewhere : (product : ProductLists) (state : State) (messages : List (List ℕ)) → high ≤ count_at firm state → GoesElsewhere (events_from product state messages)
  messages-elsewhere product state messages most = above-elsewhere (count_at firm state) (events_from product state messages) most (lines-above product state messages firm)

  pub rest-elsewhere : (history : History) (messages : List (List ℕ)) (pairs : List (ProductLists × List (List ℕ))) (more : List Event) → high ≤ count_at firm (state_kept history)
      → events_kept (with_pairs (with_messages history messages) pairs) ≡ events_kept history ++ more → GoesElsewhere more
  rest-elsewhere history messages pairs more most is = above-elsewhere (count_at firm (state_kept history)) more most (rest-above firm history messages pairs more is)

  -- ---- what is written of them

  pub none-written : (text : Event → List ℕ) → ((e : Event) → goes_to_range firm low high e ≡ false → text e ≡ []) → (es : List Event) → GoesElsewhere es → flat_map text es ≡ []
  none-written text only [] h = refl
  none-written text only (e ∷ es) h = ap (λ (l : List ℕ). l ++ flat_map text es) (only e h.0) ∙ none-written text only es h.1

  pub messages-silent : (text : Event → List ℕ) → ((e : Event) → goes_to_range firm low high e ≡ false → text e ≡ []) → (product : ProductLists) (state : State) (messages : List (List ℕ))
      → high ≤ count_at firm state → flat_map text (events_from product state messages) ≡ []
  messages-silent text only product state messages most = none-written text only (events_from product state messages) (messages-elsewhere product state messages most)

  module _ (line : NameLists → Event → List ℕ) (only : WritesOnly firm low high line) where
    from-written : (product : ProductLists) (state : State) (messages : List (List ℕ)) → high ≤ count_at firm state → flat_map (line product.names) (events_from product state messages) ≡ []
    from-written product state messages most = messages-silent (line product.names) (λ e is. only product.names e is) product state messages most

    -- further messages, in the last pair and in a new one
    pub messages-written : (history : History) (messages : List (List ℕ)) → high ≤ count_at firm (state_kept history) → lines_kept line (with_messages history messages) ≡ lines_kept line history
    messages-written history messages most =
        lines-further line history messages
        ∙ ap (λ (l : List ℕ). lines_kept line history ++ l) (from-written (last_product history) (state_kept history) messages most)
        ∙ append-nil (lines_kept line history)

    pub amended-written : (history : History) (product : ProductLists) (messages : List (List ℕ)) → high ≤ count_at firm (state_kept history)
        → lines_kept line (amended history product messages) ≡ lines_kept line history
    amended-written history product messages most =
        ap (λ (l : List ℕ). lines_kept line history ++ l) (from-written product (amended_state product (state_kept history)) messages most)
        ∙ append-nil (lines_kept line history)

    pairs-written : (history : History) (pairs : List (ProductLists × List (List ℕ))) → high ≤ count_at firm (state_kept history) → lines_kept line (with_pairs history pairs) ≡ lines_kept line history
    pairs-written history [] most = refl
    pairs-written history (pair ∷ pairs) most =
        let rises = counts-never-fall pair.0 (amended_state pair.0 (state_kept history)) pair.1 firm in
        pairs-written (amended history pair.0 pair.1) pairs (omega (arith, most, rises)) ∙ amended-written history pair.0 pair.1 most

    pub rest-written : (history : History) (messages : List (List ℕ)) (pairs : List (ProductLists × List (List ℕ))) → high ≤ count_at firm (state_kept history)
        → lines_kept line (with_pairs (with_messages history messages) pairs) ≡ lines_kept line history
    rest-written history messages pairs most =
        let rises = counts-never-fall (last_product history) (state_kept history) messages firm in
        let still : high ≤ count_at firm (state_kept (with_messages history messages)) =
        subst (λ (s : State). high ≤ count_at firm s) (sym (state-further history messages)) (omega (arith, most, rises)) in
        pairs-written (with_messages history messages) pairs still ∙ messages-written history messages most
