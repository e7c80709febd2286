-- A cascade of stops: it goes on while a waiting stop is reached, and ends once none is.
use Rattle.std.proofs.Common.{◌≡◌, ◌≢◌, ℕ, ◌+◌, ◌≤◌, ◌<◌, Bool, true, false, cond, not, List, [], ◌∷◌, filter, length, Option, Some, None, refl, sym, ap, subst, ◌∙◌, arith, inl, inr, ◌⊎◌}
use Prim.Native.Nat.{zero, suc}
use Rattle.std.specs.Prelude.{◌==◌}
use Rattle.std.proofs.lemmas.Bool.Decides.{eqb_tells}
use Rattle.gx_base.specs.declared.price.Price.{Price}
use Rattle.step_config.specs.declared.step.Step.{Step}
use Rattle.plain_book.specs.declared.entry.Entry.{Entry}
use Rattle.plain_book.specs.Orders.{HasSlot, is_of, slot_of, stops_of, without}
use Rattle.plain_book.specs.Book.{Book}
use Rattle.plain_book.specs.Match.{MatchState}
use Rattle.plain_book.proofs.Levels.{HasSlot-filter}
use Rattle.plain_book.proofs.Live.{first-has}
use Rattle.order_kinds.specs.Stops.{Naming, fill_range, is_reached_by, first_entry, first_reached, next_stop, stop_triggered, stop_entered, stop_rounds, stops_entered}
use Rattle.order_kinds.proofs.Cascade.{rest-entered}

-- ---- a stop leaves those that wait

without-most : (s : ℕ) (es : List Entry) → length (without s es) ≤ length es
without-most s [] = omega arith
without-most s (e ∷ es) =
    let k = without s es in
    let h = without-most s es in
    let go : (c : Bool) → length (cond (not c) (e ∷ k) k) ≤ suc (length es) = elim [ true ↦ omega (arith, h) | false ↦ omega (arith, h) ] in
    go (e.slot == s)

without-fewer : (s : ℕ) (es : List Entry) → HasSlot s es → length (without s es) < length es
without-fewer s [] h = absurd h
without-fewer s (e ∷ es) h =
    let k = without s es in
    elim (eqb_tells e.slot s) [
      | inl t ↦ subst (λ (c : Bool). length (cond (not c) (e ∷ k) k) < suc (length es)) (sym t.0) (omega (arith, without-most s es))
      | inr t ↦
          let more : HasSlot s es = elim h [ inl is ↦ absurd (t.1 is) | inr m ↦ m ] in
          subst (λ (c : Bool). length (cond (not c) (e ∷ k) k) < suc (length es)) (sym t.0) (omega (arith, without-fewer s es more))
    ]

first-slot : (es : List Entry) (e : Entry) → first_entry es ≡ Some e → slot_of es ≡ Some e.slot
first-slot [] e is = absurd (let k : None ≡ Some e = is in cc)
first-slot (x ∷ es) e is = let k : Some x ≡ Some e = is in let same : x ≡ e = cc in ap (λ (y : Entry). Some y.slot) same

marked-waits : (instrument : ℕ) (range : Option (Price × Price)) (waiting : List Entry) (e : Entry) → first_reached instrument range waiting ≡ Some e → HasSlot e.slot waiting
marked-waits instrument None waiting e is = absurd (let k : None ≡ Some e = is in cc)
marked-waits instrument (Some range) waiting e is =
    let stops = stops_of instrument waiting in
    let marked = filter (is_reached_by range) stops in
    HasSlot-filter (is_of instrument) e.slot waiting (HasSlot-filter (is_reached_by range) e.slot stops (first-has e.slot marked (first-slot marked e is)))

none-waits : (instrument : ℕ) (range : Option (Price × Price)) → first_reached instrument range [] ≡ None
none-waits instrument None = refl
none-waits instrument (Some range) = refl

abbrev waits : MatchState → ℕ
waits m = length m.book.waiting

module _ (steps : List Step) where
  -- a stop is entered, and a stop fewer waits
  stop-fewer : (e : Entry) (name : ℕ → ℕ) (m : MatchState) → next_stop m ≡ Some e → waits (stop_entered (Some e) name steps m) < waits m
  stop-fewer e name m is =
      let has = marked-waits m.taker.order.instrument (fill_range m.events) m.book.waiting e is in
      let left : (stop_entered (Some e) name steps m).book.waiting ≡ without e.slot m.book.waiting =
      ap (λ (b : Book). b.waiting) (rest-entered (name e.order.number) steps (stop_triggered e m)) in
      omega (arith, without-fewer e.slot m.book.waiting has, ap (λ (es : List Entry). length es) left)

  -- ---- rounds

  abbrev IsDone : MatchState → Type 0
  IsDone m = next_stop m ≡ None

  -- if no stop is reached, nothing is done
  rounds-stay : (n : ℕ) (naming : Naming) (m : MatchState) → IsDone m → stop_rounds n naming steps m ≡ m
  rounds-stay zero naming m done = refl
  rounds-stay (suc n) naming m done =
      ap (λ (x : MatchState). stop_entered (next_stop x) (naming n) steps x) (rounds-stay n naming m done)
      ∙ ap (λ (e : Option Entry). stop_entered e (naming n) steps m) done

  -- after some rounds no stop is reached, or as many stops fewer wait
  rounds-fewer : (n : ℕ) (naming : Naming) (m : MatchState) → IsDone (stop_rounds n naming steps m) ⊎ (waits (stop_rounds n naming steps m) + n ≤ waits m)
  rounds-fewer zero naming m = inr (omega arith)
  rounds-fewer (suc n) naming m =
      let x = stop_rounds n naming steps m in
      let After = λ (e : Option Entry). let y = stop_entered e (naming n) steps x in IsDone y ⊎ (waits y + suc n ≤ waits m) in
      let one : (e : Option Entry) → next_stop x ≡ e → waits x + n ≤ waits m → After e = elim [
        | None ↦ λ is few. inl is
        | Some e ↦ λ is few. inr (omega (arith, stop-fewer e (naming n) x is, few))
      ] in
      elim (rounds-fewer n naming m) [
        | inl done ↦ subst After (sym done) (inl done)
        | inr few ↦ one (next_stop x) refl few
      ]

  done-none : (m : MatchState) → m.book.waiting ≡ [] → IsDone m
  done-none m none = ap (first_reached m.taker.order.instrument (fill_range m.events)) none ∙ none-waits m.taker.order.instrument (fill_range m.events)

  empty : (es : List Entry) → length es ≤ 0 → es ≡ []
  empty [] h = refl
  empty (e ∷ es) h = absurd (omega (arith, h))

  -- as many rounds as stops wait are enough
  rounds-done : (naming : Naming) (m : MatchState) → IsDone (stop_rounds (waits m) naming steps m)
  rounds-done naming m =
      let end = stop_rounds (waits m) naming steps m in
      elim (rounds-fewer (waits m) naming m) [ inl done ↦ done | inr few ↦ done-none end (empty end.book.waiting (omega (arith, few))) ]

  -- more rounds than were needed
  rounds-more : (k n : ℕ) (naming : Naming) (m : MatchState) → k ≤ n → IsDone (stop_rounds k naming steps m) → stop_rounds n naming steps m ≡ stop_rounds k naming steps m
  rounds-more k zero naming m le done = let e : zero ≡ k = omega (arith, le) in ap (λ (n : ℕ). stop_rounds n naming steps m) e
  rounds-more k (suc n) naming m le done = elim (eqb_tells k (suc n)) [
    | inl t ↦ ap (λ (n : ℕ). stop_rounds n naming steps m) (sym t.1)
    | inr t ↦
        let other : k ≢ suc n = t.1 in
        let before : k ≤ n = omega (arith, other, le) in
        ap (λ (x : MatchState). stop_entered (next_stop x) (naming n) steps x) (rounds-more k n naming m before done)
        ∙ ap (λ (e : Option Entry). stop_entered e (naming n) steps (stop_rounds k naming steps m)) done
  ]

  -- the names of the orders that come in after the first
  abbrev later : Naming → Naming
  later naming = λ before. naming (before + 1)

  -- the first round comes first
  rounds-first : (n : ℕ) (naming : Naming) (m : MatchState) → stop_rounds (suc n) naming steps m ≡ stop_rounds n (later naming) steps (stop_entered (next_stop m) (naming 0) steps m)
  rounds-first zero naming m = refl
  rounds-first (suc n) naming m =
      let first = stop_rounds n (later naming) steps (stop_entered (next_stop m) (naming 0) steps m) in
      let one : suc n ≡ n + 1 = omega arith in
      ap (λ (x : MatchState). stop_entered (next_stop x) (naming (suc n)) steps x) (rounds-first n naming m)
      ∙ ap (λ (k : ℕ). stop_entered (next_stop first) (naming k) steps first) one

  -- ---- the cascade

  -- if no stop is reached, nothing is done
  pub stops-stay : (naming : Naming) (m : MatchState) → IsDone m → stops_entered naming steps m ≡ m
  stops-stay naming m done = rounds-stay (waits m) naming m done

  -- the next stop is entered, and the cascade goes on
  pub stops-go-on : (naming : Naming) (m : MatchState) (e : Entry) → next_stop m ≡ Some e → stops_entered naming steps m ≡ stops_entered (later naming) steps (stop_entered (Some e) (naming 0) steps m)
  stops-go-on naming m e is =
      let after = stop_entered (Some e) (naming 0) steps m in
      let fewer = stop-fewer e (naming 0) m is in
      let go : (n : ℕ) → waits m ≡ n → stop_rounds n naming steps m ≡ stops_entered (later naming) steps after = elim [
        | zero ↦ λ none. absurd (omega (arith, fewer, none))
        | suc n ↦ λ some.
            rounds-first n naming m
            ∙ ap (λ (next : Option Entry). stop_rounds n (later naming) steps (stop_entered next (naming 0) steps m)) is
            ∙ rounds-more (waits after) n (later naming) after (omega (arith, fewer, some)) (rounds-done (later naming) after)
      ] in go (waits m) refl

  -- in the end no stop is reached
  pub stops-end : (naming : Naming) (m : MatchState) → IsDone (stops_entered naming steps m)
  stops-end naming m = rounds-done naming m
