-- The fields once a level has other sums.
use Rattle.std.proofs.Common.{◌≡◌, ◌≢◌, ℕ, ◌+◌, ◌<◌, Bool, true, false, cond, List, [], ◌∷◌, length, map, set, refl, sym, ap, subst, ◌∙◌, arith, inl, inr}
use Prim.Native.Nat.{zero, suc}
use Rattle.std.specs.Prelude.{◌==◌, if◌then◌else◌}
use Rattle.std.specs.Ordering.{int_eq}
use Rattle.gx_base.specs.declared.price.Price.{Price}
use Rattle.price_chunks.specs.Steps.{is_step_at, with_open, list_at}
use Rattle.std.specs.List.{AllByRecursion}
use Rattle.std.proofs.lemmas.Bool.{cases_eq, eq-eqb, ne_eqb}
use Rattle.std.proofs.lemmas.List.{length-set, length-map, get_or-set_same, get_or-set_other}
use Rattle.price_level.specs.declared.row.LevelRow.{LevelRow}
use Rattle.price_chunks.specs.declared.place.Step.{Step}
use Rattle.price_level.specs.Rows.{Rows, no_row, level_of_row, row_at, HasQueue, resummed, with_sums}
use Rattle.price_level.specs.Inner.Kept.{rows_seen, IsKept}
use Rattle.price_level.specs.Inner.Sides.{row_in, side_number, row_number, rows_of, rows_of_side, AreSides, IsStep}
use Rattle.price_level.proofs.Lists.{all-front, all-back, all-with, all-map}
use Rattle.price_level.proofs.Order.{row_at_price, row_at_off}
use Rattle.price_level.proofs.SideRows.{steps-all}
use Rattle.price_level.proofs.Closed.{same-row, same-part, summed-apart, summed-queue}
use Rattle.price_level.proofs.Tables.{all-becomes}
use Rattle.price_level.proofs.Seen.{queue_in}
use Rattle.price_level.proofs.ByQueue.{held_here, held_is, held_in}
use Rattle.price_level.proofs.Kept.{IsBelow, kept_below, kept_from}

module _ {capacity instruments : ℕ} {table : List LevelRow} {all : List (List Step)} {side_capacity : ℕ} {unused : List ℕ} {free_capacity : ℕ} (kept : IsKept capacity instruments table all side_capacity unused free_capacity) (t : Rows) (view : rows_seen capacity instruments table all ≡ t) where
  abbrev rows : List LevelRow
  rows = rows_of table all

  module _ (q count shown leaves : ℕ) (has : HasQueue q t.rows) where
    abbrev pub summed : LevelRow → LevelRow
    summed r = record r { count = count; shown = shown; leaves = leaves }

    abbrev new_table : List LevelRow
    new_table = set table q (summed (row_in table q))

    sums_here : (x : ℕ) → (row_in table x).queue ≡ x → Unit {0} → row_in new_table x ≡ resummed q count shown leaves (row_in table x)
    sums_here x e u =
        let r = row_in table x in
        elim (cases_eq x q) [
          | inl same ↦
              ap (row_in new_table) same
              ∙ get_or-set_same table q (summed (row_in table q)) no_row (queue_in kept t view q has)
              ∙ ap (λ (y : ℕ). summed (row_in table y)) (sym same)
              ∙ sym (ap (λ (b : Bool). cond b (summed r) r) (eq-eqb r.queue q (e ∙ same)))
          | inr ne ↦ get_or-set_other table q x (summed (row_in table q)) no_row ne ∙ sym (ap (λ (b : Bool). cond b (summed r) r) (ne_eqb r.queue q (λ g. ne (sym e ∙ g))))
        ]

    any : (rs : List LevelRow) → AllByRecursion (λ (r : LevelRow). Unit {0}) rs
    any [] = tt
    any (r ∷ rs) = (tt, any rs)

    abbrev going : LevelRow
    going = row_in table q

    abbrev number : ℕ
    number = side_number going.instrument going.side

    -- of all levels the one with this queue has other lots open
    abbrev opens : Step → Step
    opens s = if s.queue == q then record s { leaves = leaves } else s

    abbrev new_all : List (List Step)
    new_all = set all number (with_open going.price leaves (list_at all number))

    keeps : (s : Step) → ((opens s).price ≡ s.price) × ((opens s).queue ≡ s.queue)
    keeps s = elim (s.queue == q) as (λ b. ((cond b (record s { leaves = leaves }) s).price ≡ s.price) × ((cond b (record s { leaves = leaves }) s).queue ≡ s.queue)) [ true ↦ (refl, refl) | false ↦ (refl, refl) ]

    agree : (r : LevelRow) (s : Step) → r.queue ≡ s.queue → r.leaves ≡ s.leaves → (resummed q count shown leaves r).leaves ≡ (opens s).leaves
    agree r s e l =
        ap (λ (x : ℕ). (cond (x == q) (summed r) r).leaves) e
        ∙ elim (s.queue == q) as (λ b. (cond b (summed r) r).leaves ≡ (cond b (record s { leaves = leaves }) s).leaves) [ true ↦ refl | false ↦ l ]

    -- the queue is that of the level at this place
    abbrev IsNamed : LevelRow → Type 0
    IsNamed r = (r.queue == q) ≡ row_at (level_of_row going) r

    named-rows : AllByRecursion IsNamed rows
    named-rows = subst (λ (x : LevelRow). AllByRecursion (λ (r : LevelRow). (r.queue == q) ≡ row_at (level_of_row x) r) rows) (sym (held_is kept t view q has)) (same-row q rows kept.rows.apart (held_here kept t view q has))

    side-here : (steps : List Step) → AllByRecursion (IsStep table number) steps → AllByRecursion (λ s. IsNamed (row_in table s.queue)) steps → map opens steps ≡ with_open going.price leaves steps
    side-here [] h a = refl
    side-here (s ∷ steps) h a =
        let r = row_in table s.queue in
        let e : (s.queue == q) ≡ is_step_at going.price s = ap (λ (x : ℕ). x == q) (sym h.0.queue) ∙ a.0 ∙ row_at_price going.instrument going.side r going.price h.0.side ∙ ap (λ (x : Price). int_eq x.0 going.price.0) h.0.price in
        λ i. (if e i then record s { leaves = leaves } else s) ∷ side-here steps h.1 a.1 i

    side-other : (m : ℕ) → m ≢ number → (steps : List Step) → AllByRecursion (IsStep table m) steps → AllByRecursion (λ s. IsNamed (row_in table s.queue)) steps → map opens steps ≡ steps
    side-other m ne [] h a = refl
    side-other m ne (s ∷ steps) h a =
        let r = row_in table s.queue in
        let e : (s.queue == q) ≡ false = ap (λ (x : ℕ). x == q) (sym h.0.queue) ∙ a.0 ∙ row_at_off going.instrument going.side r going.price (λ f. ne (sym h.0.side ∙ f)) in
        λ i. (if e i then record s { leaves = leaves } else s) ∷ side-other m ne steps h.1 a.1 i

    named-side : (l : List Step) (rest : List (List Step)) → AllByRecursion IsNamed (rows_of table (l ∷ rest)) → AllByRecursion (λ s. IsNamed (row_in table s.queue)) l × AllByRecursion IsNamed (rows_of table rest)
    named-side l rest a = (steps-all table IsNamed l (all-front IsNamed (rows_of_side table l) (rows_of table rest) a), all-back IsNamed (rows_of_side table l) (rows_of table rest) a)

    sides-after : (m : ℕ) (some : List (List Step)) → number < m → AreSides table m some → AllByRecursion IsNamed (rows_of table some) → map (map opens) some ≡ some
    sides-after m [] lt h a = refl
    sides-after m (l ∷ some) lt h a =
        let k = named-side l some a in
        let ne : m ≢ number = omega arith in
        λ i. side-other m ne l h.0 k.0 i ∷ sides-after (suc m) some (omega arith) h.1 k.1 i

    one-side : (m k : ℕ) (some : List (List Step)) → number ≡ m + k → k < length some → AreSides table m some → AllByRecursion IsNamed (rows_of table some) → map (map opens) some ≡ set some k (with_open going.price leaves (list_at some k))
    one-side m k [] e lt h a = absurd (omega arith)
    one-side m zero (l ∷ some) e lt h a =
        let k = named-side l some a in
        let is : m ≡ number = omega arith in
        λ i. side-here l (subst (λ (x : ℕ). AllByRecursion (IsStep table x) l) is h.0) k.0 i ∷ sides-after (suc m) some (omega arith) h.1 k.1 i
    one-side m (suc k) (l ∷ some) e lt h a =
        let b = named-side l some a in
        let ne : m ≢ number = omega arith in
        λ i. side-other m ne l h.0 b.0 i ∷ one-side (suc m) k some (omega arith) (omega arith) h.1 b.1 i

    sums_all : (rows_of new_table new_all ≡ with_sums q count shown leaves rows) × AreSides new_table 0 new_all
    sums_all =
        let r = all-becomes table new_table (resummed q count shown leaves) opens
        (λ r. (same-part q count shown leaves row_number (λ x. refl) r, (same-part q count shown leaves (λ (x : LevelRow). x.price) (λ x. refl) r, same-part q count shown leaves (λ (x : LevelRow). x.queue) (λ x. refl) r)))
        keeps (λ r. Unit {0}) sums_here agree 0 all kept.steps (any rows) in
        let is = one-side 0 number all (omega arith) (held_in kept t view q has) kept.steps named-rows in
        (ap (rows_of new_table) (sym is) ∙ r.0, subst (AreSides new_table 0) is r.1)

    same-mark : length table ≡ length new_table
    same-mark = sym (length-set table q (summed (row_in table q)))

    pub kept_summed : IsKept capacity instruments new_table new_all side_capacity unused free_capacity
    kept_summed =
        kept_from capacity instruments new_table new_all side_capacity unused free_capacity (with_sums q count shown leaves rows) sums_all.0
        (summed-apart q count shown leaves rows kept.rows.apart)
        (all-map (IsBelow (length table) instruments) (IsBelow (length new_table) instruments) (resummed q count shown leaves) (λ r h.
        (subst (λ (x : ℕ × ℕ). x.0 < x.1) (λ i. (sym (same-part q count shown leaves (λ (y : LevelRow). y.queue) (λ y. refl) r) i, same-mark i)) h.0, subst (λ (x : ℕ). x < instruments) (sym (same-part q count shown leaves (λ (y : LevelRow). y.instrument) (λ y. refl) r)) h.1)) rows (kept_below kept))
        (omega (arith, same-mark, kept.mark)) (length-set all number (with_open going.price leaves (list_at all number)) ∙ kept.sides) sums_all.1 kept.room
        (all-with (λ (x : ℕ). (x < length table) × (HasQueue x rows → ⊥)) (λ (x : ℕ). (x < length new_table) × (HasQueue x (with_sums q count shown leaves rows) → ⊥)) (λ x h. (subst (λ (n : ℕ). x < n) same-mark h.0, λ k. h.1 (summed-queue q count shown leaves x rows k))) unused kept.free)
        kept.free_apart kept.free_room (ap {B = ℕ} (λ (x : ℕ). x + length unused) (length-map rows (resummed q count shown leaves)) ∙ kept.count ∙ same-mark)

    pub seen_summed : rows_seen capacity instruments new_table new_all ≡ record t { rows = with_sums q count shown leaves t.rows }
    seen_summed =
        ap (λ (rs : List LevelRow). record (rows_seen capacity instruments table all) { rows = rs }) sums_all.0
        ∙ ap (λ (x : Rows). record x { rows = with_sums q count shown leaves x.rows }) view
