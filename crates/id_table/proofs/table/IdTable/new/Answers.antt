use Rattle.std.proofs.Common.{sym, ap, ◌∙◌, ◌+◌, ◌*◌, ℕ, arith}
use Rattle.id_table.proofs.Kept.{kept_new}
use Rattle.id_table.proofs.table.IdTable.new.Goals as goal

pub invariant_of-result : goal.invariant_of-result
invariant_of-result c =
    let made = c.in_ok-new.ensures in (
      kept_new c.in_ok-new.field-0 c.in_ok-with_capacity.field-0.items made.forest made.nodes c.in_ok-with_capacity.ensures.items,
      record {
        buckets = made.buckets_room ∙ ap (λ (n : ℕ). 2 * n + 1) (sym made.capacity);
        nodes = made.nodes_room ∙ sym made.capacity;
        free = omega (arith, c.in_ok-with_capacity.ensures.exact, made.capacity);
      },
    )
