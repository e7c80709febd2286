use Rattle.std.proofs.Common.{◌<◌, ℕ, List, length, set, vec_capacity, refl, sym, ap, subst, ◌∙◌, arith}
use Rattle.price_level.specs.declared.row.LevelRow.{LevelRow}
use Rattle.price_level.specs.declared.row.Held.{Held}
use Rattle.price_chunks.specs.Steps.{SideLists, AreWorstFirst, list_at, with_open}
use Rattle.price_level.specs.Inner.Sides.{row_in, side_number}
use Rattle.price_level.specs.Inner.Table.{rows_held}
use Rattle.price_level.specs.Inner.Kept.{rows_seen, IsKept}
use Rattle.price_level.proofs.Seen.{queue_in, ordered}
use Rattle.price_level.proofs.Table.{held-count, read_held, set_held}
use Rattle.price_level.proofs.ByQueue.{held_in, held_listed}
use Rattle.price_level.proofs.Summed.{kept_summed, seen_summed}
use Rattle.price_level.proofs.levels.Levels.set_sums.Goals as goal

pub index_mut-held-requires : goal.index_mut-held-requires
index_mut-held-requires c =
    let l = c.self.inside in
    omega (arith, queue_in c.self.invariant.0 c.args.self.now c.self.view_is c.args.queue c.requires, held-count l.held.items, l.held.ok.0)

pub set_lots-held-requires-clause-listed : goal.set_lots-held-requires-clause-listed
set_lots-held-requires-clause-listed c =
    let lt = queue_in c.self.invariant.0 c.args.self.now c.self.view_is c.args.queue c.requires in
    let is = read_held c.self.inside.held.items c.args.queue lt c.index_mut-held.result.now c.index_mut-held.ensures.value in
    let number = c.side_number-at.ensures ∙ ap (λ (r : LevelRow). side_number r.instrument r.side) is in
    subst (λ (n : ℕ). n < length c.self.inside.sides.lists) (sym number) (held_in c.self.invariant.0 c.args.self.now c.self.view_is c.args.queue c.requires)

pub set_lots-held-requires-clause-ordered : goal.set_lots-held-requires-clause-ordered
set_lots-held-requires-clause-ordered c =
    let l = c.self.inside in
    let table = rows_held l.held.items in
    let lt = queue_in c.self.invariant.0 c.args.self.now c.self.view_is c.args.queue c.requires in
    let is = read_held l.held.items c.args.queue lt c.index_mut-held.result.now c.index_mut-held.ensures.value in
    let number = c.side_number-at.ensures ∙ ap (λ (r : LevelRow). side_number r.instrument r.side) is in
    let row = row_in table c.args.queue in
    subst (λ (p : ℕ × LevelRow). AreWorstFirst p.1.side (list_at l.sides.lists p.0)) (λ i. (sym number i, sym is i))
    (ordered c.self.invariant.0 (rows_seen l.capacity l.instruments table l.sides.lists) refl row.instrument row.side (held_listed c.self.invariant.0 c.args.self.now c.self.view_is c.args.queue c.requires) (list_at l.sides.lists (side_number row.instrument row.side)) refl)

pub invariant_of-self : goal.invariant_of-self
invariant_of-self c =
    let l = c.self.inside in
    let table = rows_held l.held.items in
    let read = c.index_mut-held.result.now in
    let lt = queue_in c.self.invariant.0 c.args.self.now c.self.view_is c.args.queue c.requires in
    let is = read_held l.held.items c.args.queue lt read c.index_mut-held.ensures.value in
    let number = c.side_number-at.ensures ∙ ap (λ (r : LevelRow). side_number r.instrument r.side) is in
    let put = c.set_lots-held.ensures ∙ ap (λ (p : ℕ × LevelRow). record l.sides { lists = set l.sides.lists p.0 (with_open p.1.price c.args.leaves (list_at l.sides.lists p.0)) }) (λ i. (number i, is i)) in
    let now : Held = record { row = record (read.row) { count = c.args.count; shown = c.args.shown; leaves = c.args.leaves }; spot = c.set_lots-held.result } in (
      subst (λ (p : List LevelRow × SideLists). IsKept l.capacity l.instruments p.0 p.1.lists p.1.capacity l.free.items (vec_capacity l.free))
          (λ i. ((ap (λ (r : LevelRow). set table c.args.queue (record r { count = c.args.count; shown = c.args.shown; leaves = c.args.leaves })) (sym is) ∙ sym (set_held l.held.items c.args.queue now)) i, sym put i))
          (kept_summed c.self.invariant.0 c.args.self.now c.self.view_is c.args.queue c.args.count c.args.shown c.args.leaves c.requires),
      c.self.invariant.1,
    )

pub returns : goal.returns
returns c =
    let l = c.self.inside in
    let table = rows_held l.held.items in
    let read = c.index_mut-held.result.now in
    let lt = queue_in c.self.invariant.0 c.args.self.now c.self.view_is c.args.queue c.requires in
    let is = read_held l.held.items c.args.queue lt read c.index_mut-held.ensures.value in
    let number = c.side_number-at.ensures ∙ ap (λ (r : LevelRow). side_number r.instrument r.side) is in
    let put = c.set_lots-held.ensures ∙ ap (λ (p : ℕ × LevelRow). record l.sides { lists = set l.sides.lists p.0 (with_open p.1.price c.args.leaves (list_at l.sides.lists p.0)) }) (λ i. (number i, is i)) in
    let now : Held = record { row = record (read.row) { count = c.args.count; shown = c.args.shown; leaves = c.args.leaves }; spot = c.set_lots-held.result } in
    ap (λ (p : List LevelRow × SideLists). rows_seen l.capacity l.instruments p.0 p.1.lists)
    (λ i. ((set_held l.held.items c.args.queue now ∙ ap (λ (r : LevelRow). set table c.args.queue (record r { count = c.args.count; shown = c.args.shown; leaves = c.args.leaves })) is) i, put i))
    ∙ seen_summed c.self.invariant.0 c.args.self.now c.self.view_is c.args.queue c.args.count c.args.shown c.args.leaves c.requires
