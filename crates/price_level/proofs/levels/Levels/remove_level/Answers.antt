use Rattle.std.proofs.Common.{◌+◌, ◌<◌, ℕ, List, length, set, vec_capacity, refl, sym, ap, subst, ◌∙◌, arith}
use Rattle.price_level.specs.declared.row.LevelRow.{LevelRow}
use Rattle.price_chunks.specs.Steps.{SideLists, AreWorstFirst, list_at, without_step}
use Rattle.price_level.specs.Inner.Sides.{row_in, side_number, rows_of}
use Rattle.price_level.specs.Inner.Table.{rows_held}
use Rattle.price_level.specs.Inner.Kept.{rows_seen, IsKept}
use Rattle.price_level.proofs.Seen.{queue_in, ordered}
use Rattle.price_level.proofs.Table.{held-count, read_held}
use Rattle.price_level.proofs.ByQueue.{held_in, held_listed}
use Rattle.price_level.proofs.Gone.{free_below, kept_closed, seen_closed, count_closed}
use Rattle.price_level.proofs.levels.Levels.remove_level.Goals as goal

pub index-requires : goal.index-requires
index-requires c =
    let l = c.self.inside in
    omega (arith, queue_in c.self.invariant.0 c.args.self.now c.self.view_is c.args.queue c.requires, held-count l.held.items, l.held.ok.0)

pub take_out-requires-clause-listed : goal.take_out-requires-clause-listed
take_out-requires-clause-listed c =
    let lt = queue_in c.self.invariant.0 c.args.self.now c.self.view_is c.args.queue c.requires in
    let is = read_held c.self.inside.held.items c.args.queue lt c.index.result.now c.index.ensures in
    let number = c.side_number-at.ensures ∙ ap (λ (r : LevelRow). side_number r.instrument r.side) is in
    subst (λ (n : ℕ). n < length c.self.inside.sides.lists) (sym number) (held_in c.self.invariant.0 c.args.self.now c.self.view_is c.args.queue c.requires)

pub take_out-requires-clause-ordered : goal.take_out-requires-clause-ordered
take_out-requires-clause-ordered c =
    let l = c.self.inside in
    let table = rows_held l.held.items in
    let lt = queue_in c.self.invariant.0 c.args.self.now c.self.view_is c.args.queue c.requires in
    let is = read_held l.held.items c.args.queue lt c.index.result.now c.index.ensures in
    let number = c.side_number-at.ensures ∙ ap (λ (r : LevelRow). side_number r.instrument r.side) is in
    let row = row_in table c.args.queue in
    subst (λ (p : ℕ × LevelRow). AreWorstFirst p.1.side (list_at l.sides.lists p.0)) (λ i. (sym number i, sym is i))
    (ordered c.self.invariant.0 (rows_seen l.capacity l.instruments table l.sides.lists) refl row.instrument row.side (held_listed c.self.invariant.0 c.args.self.now c.self.view_is c.args.queue c.requires) (list_at l.sides.lists (side_number row.instrument row.side)) refl)

pub give_back-requires : goal.give_back-requires
give_back-requires c = omega (arith, free_below c.self.invariant.0 c.args.self.now c.self.view_is c.args.queue c.requires, c.self.invariant.0.free_room, c.self.inside.free.ok.0)

pub invariant_of-self : goal.invariant_of-self
invariant_of-self c =
    let l = c.self.inside in
    let lt = queue_in c.self.invariant.0 c.args.self.now c.self.view_is c.args.queue c.requires in
    let is = read_held l.held.items c.args.queue lt c.index.result.now c.index.ensures in
    let number = c.side_number-at.ensures ∙ ap (λ (r : LevelRow). side_number r.instrument r.side) is in
    let out = c.take_out.ensures ∙ ap (λ (p : ℕ × LevelRow). record l.sides { lists = set l.sides.lists p.0 (without_step p.1.price (list_at l.sides.lists p.0)) }) (λ i. (number i, is i)) in
    let free = c.give_back.ensures.items in (
      subst (λ (p : SideLists × List ℕ). IsKept l.capacity l.instruments (rows_held l.held.items) p.0.lists p.0.capacity p.1 (vec_capacity c.give_back.new.free)) (λ i. (sym out i, sym free i))
          (kept_closed c.self.invariant.0 c.args.self.now c.self.view_is c.args.queue c.requires (vec_capacity c.give_back.new.free) (c.give_back.ensures.capacity ∙ c.self.invariant.0.free_room)),
      c.self.invariant.1,
    )

pub returns : goal.returns
returns c =
    let l = c.self.inside in
    let table = rows_held l.held.items in
    let lt = queue_in c.self.invariant.0 c.args.self.now c.self.view_is c.args.queue c.requires in
    let is = read_held l.held.items c.args.queue lt c.index.result.now c.index.ensures in
    let number = c.side_number-at.ensures ∙ ap (λ (r : LevelRow). side_number r.instrument r.side) is in
    let out = c.take_out.ensures ∙ ap (λ (p : ℕ × LevelRow). record l.sides { lists = set l.sides.lists p.0 (without_step p.1.price (list_at l.sides.lists p.0)) }) (λ i. (number i, is i)) in
    record {
      rows = ap (λ (s : SideLists). rows_seen l.capacity l.instruments table s.lists) out ∙ seen_closed c.self.invariant.0 c.args.self.now c.self.view_is c.args.queue c.requires;
      count = ap {B = ℕ} (λ (s : SideLists). length (rows_of table s.lists) + 1) out ∙ count_closed c.self.invariant.0 c.args.self.now c.self.view_is c.args.queue c.requires;
    }
