-- The fields once a level comes.
use Rattle.std.proofs.Common.{◌≡◌, ◌≢◌, ℕ, ◌+◌, ◌<◌, ◌≤◌, List, [], ◌∷◌, ◌++◌, length, set, None, refl, sym, ap, subst, ◌∙◌, arith, inl, inr}
use Rattle.std.specs.List.{AllByRecursion}
use Rattle.std.proofs.lemmas.List.{length-set, length_push, map-id}
use Rattle.gx_base.specs.declared.price.Price.{Price}
use Rattle.gx_base.specs.declared.order.Side.{Side}
use Rattle.book_order.specs.Levels.{level}
use Rattle.price_level.specs.declared.row.LevelRow.{LevelRow}
use Rattle.price_chunks.specs.declared.place.Step.{Step}
use Rattle.price_level.specs.Rows.{Rows, queue_at, HasQueue, row_of, new_row, placed_row, without_row}
use Rattle.price_level.specs.Inner.Kept.{rows_seen, AreApart, AreFree, IsKept}
use Rattle.price_chunks.specs.Steps.{with_step, list_at}
use Rattle.price_level.specs.Inner.Sides.{row_in, side_number, row_number, rows_of, AreSides, IsStep}
use Rattle.price_level.proofs.Lists.{all-append, all-front, all-back, all-filter, all-with, all-both, pairs-front, pairs-across}
use Rattle.price_level.specs.Inner.Table.{with_row, Takes}
use Rattle.price_level.proofs.RowLists.{lacks, each-row}
use Rattle.price_level.proofs.Table.{IsGiven, given_used, given_next, with_used, with_next}
use Rattle.price_level.proofs.Placed.{placed-apart, placed-all, placed-rest, placed-has, placed-row, placed-count, placed-queues}
use Rattle.price_level.proofs.Tables.{all-becomes, map-same}
use Rattle.price_level.proofs.Asked.{side-steps, sides-set, rows-placed}
use Rattle.price_level.proofs.Seen.{side_in_seen, has_queue}
use Rattle.price_level.proofs.Kept.{IsBelow, kept_below, kept_from}

module _ {capacity instruments : ℕ} {table : List LevelRow} {all : List (List Step)} {side_capacity : ℕ} {unused : List ℕ} {free_capacity : ℕ} (kept : IsKept capacity instruments table all side_capacity unused free_capacity) (t : Rows) (view : rows_seen capacity instruments table all ≡ t) where
  abbrev rows : List LevelRow
  rows = rows_of table all

  module _ (i : ℕ) (side : Side) (price : Price) (q : ℕ) (left : List ℕ) (listed : i < t.instruments) (absent : queue_at (level i side price) t.rows ≡ None) (room : length t.rows < t.capacity) (takes : Takes (length table) unused left q) where
    abbrev pub coming : LevelRow
    coming = new_row i side price q

    abbrev with_table : List LevelRow
    with_table = with_row table q coming

    abbrev number : ℕ
    number = side_number i side

    abbrev with_all : List (List Step)
    with_all = set all number (with_step side (record { price = price; leaves = 0; queue = q }) (list_at all number))

    -- the queue is taken, and the table has its row
    record IsTaken (new : List LevelRow) : Type 0 where
      pub given : IsGiven table new q coming
      pub grows : length table ≤ length new
      pub fits : length new ≤ capacity
      pub fresh : HasQueue q rows → ⊥
      pub free : AreFree (length table) rows left
      pub apart : AreApart left
      pub differ : AllByRecursion (λ (x : ℕ). q ≢ x) left
      pub count : length rows + length left + 1 ≡ length new

    taken_freed : unused ≡ left ++ q ∷ [] → IsTaken (set table q coming)
    taken_freed is =
        let IsOne : ℕ → Type 0 = λ x. (x < length table) × (HasQueue x rows → ⊥) in
        let was : AreFree (length table) rows (left ++ q ∷ []) = subst (AreFree (length table) rows) is kept.free in
        let one = (all-back IsOne left (q ∷ []) was).0 in
        let apart = subst AreApart is kept.free_apart in
        let many = ap {B = ℕ} length is in
        record {
          given = given_used table q coming one.0;
          grows = omega (arith, length-set table q coming);
          fits = omega (arith, length-set table q coming, kept.mark);
          fresh = one.1;
          free = all-front IsOne left (q ∷ []) was;
          apart = pairs-front (λ (a b : ℕ). b ≢ a) left (q ∷ []) apart;
          differ = all-with (λ (x : ℕ). AllByRecursion (λ (b : ℕ). b ≢ x) (q ∷ [])) (λ (x : ℕ). q ≢ x) (λ x h. h.0) left (pairs-across (λ (a b : ℕ). b ≢ a) left (q ∷ []) apart);
          count = omega (arith, length-set table q coming, length_push left q, kept.count);
        }

    taken_next : unused ≡ [] → left ≡ [] → q ≡ length table → IsTaken (table ++ coming ∷ [])
    taken_next none rest is =
        let here : length rows < capacity = subst (λ (x : Rows). length x.rows < x.capacity) (sym view) room in
        let n = ap {B = ℕ} length none in
        let l = ap {B = ℕ} length rest in
        record {
          given = given_next table q coming is;
          grows = omega (arith, length_push table coming);
          fits = omega (arith, length_push table coming, kept.count);
          fresh = λ h.
              let r = each-row (λ (r : LevelRow). r.queue < length table) q rows kept.below h in
              let lt : q < length table = subst (λ (x : ℕ). x < length table) r.1 r.0 in
              absurd (omega arith);
          free = subst (AreFree (length table) rows) (sym rest) tt;
          apart = subst AreApart (sym rest) tt;
          differ = subst (AllByRecursion (λ (x : ℕ). q ≢ x)) (sym rest) tt;
          count = omega (arith, length_push table coming, kept.count);
        }

    taken : IsTaken with_table
    taken = elim takes [
      | inl is ↦
          let t = taken_freed is in
          subst IsTaken (sym (with_used table q coming (omega (arith, t.given.within, length-set table q coming)))) t
      | inr n ↦ subst IsTaken (sym (with_next table q coming (let is = n.2 in omega arith))) (taken_next n.0 n.1 n.2)
    ]

    pub is_within : q ≤ length table
    is_within = elim takes [
      | inl is ↦ let lt = (taken_freed is).given.within in omega (arith, length-set table q coming)
      | inr n ↦ let is = n.2 in omega arith
    ]

    pub is_below : q < capacity
    is_below = omega (arith, taken.given.within, taken.fits)

    absent_here : queue_at (level i side price) rows ≡ None
    absent_here = ap (λ (x : Rows). queue_at (level i side price) x.rows) view ∙ absent

    in_table : row_in with_table q ≡ coming
    in_table = taken.given.here

    others : (rows_of with_table all ≡ rows) × AreSides with_table 0 all
    others =
        let r = all-becomes table with_table (λ r. r) (λ s. s) (λ r. (refl, (refl, refl))) (λ s. (refl, refl)) (λ (r : LevelRow). r.queue ≢ q) (λ x e ne. taken.given.others x (λ g. ne (e ∙ g))) (λ r s e l. l) 0 all kept.steps (lacks q rows taken.fresh) in
        let is = map-same all in
        (ap (rows_of with_table) (sym is) ∙ r.0 ∙ map-id rows, subst (AreSides with_table 0) is r.1)

    number_in : number < length all
    number_in = side_in_seen kept t view i side listed

    rows_new : rows_of with_table with_all ≡ placed_row coming rows
    rows_new = rows-placed with_table all others.1 i side number_in price q in_table ∙ ap (placed_row coming) others.0

    steps_new : AreSides with_table 0 with_all
    steps_new =
        let step : Step = record { price = price; leaves = 0; queue = q } in
        let here = side-steps with_table all others.1 i side number_in in
        let one : IsStep with_table number step = record { side = ap row_number in_table; price = ap (λ (r : LevelRow). r.price) in_table; queue = ap (λ (r : LevelRow). r.queue) in_table; leaves = ap (λ (r : LevelRow). r.leaves) in_table } in
        sides-set with_table all others.1 i side number_in (with_step side step (list_at all number))
        (all-append (IsStep with_table number) _ _ (all-filter (IsStep with_table number) _ (list_at all number) here) (one, all-filter (IsStep with_table number) _ (list_at all number) here))

    left_free : AreFree (length with_table) (placed_row coming rows) left
    left_free =
        all-with (λ (x : ℕ). ((x < length table) × (HasQueue x rows → ⊥)) × (q ≢ x)) (λ (x : ℕ). (x < length with_table) × (HasQueue x (placed_row coming rows) → ⊥))
        (λ x h. (let lt = h.0.0 in omega (arith, taken.grows), λ k. elim (placed-queues coming rows kept.rows.apart absent_here taken.fresh x k) [ inl e ↦ h.1 e | inr g ↦ h.0.1 g ])) left
        (all-both (λ (x : ℕ). (x < length table) × (HasQueue x rows → ⊥)) (λ (x : ℕ). q ≢ x) left taken.free taken.differ)

    all_below : AllByRecursion (IsBelow (length with_table) instruments) (placed_row coming rows)
    all_below =
        placed-all coming rows kept.rows.apart absent_here taken.fresh (IsBelow (length with_table) instruments) (taken.given.within, subst (λ (x : Rows). i < x.instruments) (sym view) listed)
        (all-with (IsBelow (length table) instruments) (IsBelow (length with_table) instruments) (λ r h. (let lt = h.0 in omega (arith, taken.grows), h.1)) rows (kept_below kept))

    pub kept_added : (free_capacity' : ℕ) → free_capacity' ≡ capacity → IsKept capacity instruments with_table with_all side_capacity left free_capacity'
    kept_added free_capacity' fits =
        kept_from capacity instruments with_table with_all side_capacity left free_capacity' (placed_row coming rows) rows_new
        (placed-apart coming rows kept.rows.apart absent_here taken.fresh) all_below taken.fits
        (length-set all number (with_step side (record { price = price; leaves = 0; queue = q }) (list_at all number)) ∙ kept.sides) steps_new kept.room left_free taken.apart fits
        (let a = placed-count coming rows kept.rows.apart absent_here taken.fresh in omega (arith, taken.count))

    -- what contracts see of it
    pub record IsAdded (after : Rows) : Type 0 where
      pub fresh : HasQueue q t.rows → ⊥
      pub below : q < t.capacity
      pub placed : after ≡ record t { rows = placed_row coming t.rows }
      pub rest : without_row q after.rows ≡ t.rows
      pub has : HasQueue q after.rows
      pub row : row_of q after.rows ≡ coming
      pub count : length after.rows ≡ length t.rows + 1

    pub is_added : IsAdded (rows_seen capacity instruments with_table with_all)
    is_added =
        let a = kept.rows.apart in
        let seen = sym rows_new in
        record {
          fresh = λ h. taken.fresh (has_queue kept t view q h);
          below = subst (λ (x : Rows). q < x.capacity) view is_below;
          placed =
              ap (λ (rs : List LevelRow). record (rows_seen capacity instruments table all) { rows = rs }) rows_new
              ∙ ap (λ (x : Rows). record x { rows = placed_row coming x.rows }) view;
          rest = ap (without_row q) rows_new ∙ placed-rest coming rows a absent_here taken.fresh ∙ ap (λ (x : Rows). x.rows) view;
          has = subst (HasQueue q) seen (placed-has coming rows a absent_here taken.fresh);
          row = ap (row_of q) rows_new ∙ placed-row coming rows a absent_here taken.fresh;
          count = ap {B = ℕ} length rows_new ∙ placed-count coming rows a absent_here taken.fresh ∙ ap {B = ℕ} (λ (x : Rows). length x.rows + 1) view;
        }
