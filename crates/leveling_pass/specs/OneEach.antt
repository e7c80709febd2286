-- One lot for each order that had no share of the pro rata step.
use Rattle.std.specs.Prelude.{ℕ, ◌-◌, ◌==◌, min, if◌then◌else◌}
use Rattle.gx_base.specs.declared.order.Order.{Order}
use Rattle.plain_book.specs.Shares.{ShareMeanings}
use Rattle.leveling_pass.specs.declared.pass.OneEach.{OneEach}

-- what an order trades of the lots that are left: one, where it had no share, and else none
abbrev pub lot_for : ℕ → Order → ℕ
lot_for left o = if o.prorated == 0 then min left 1 else 0

-- each order that had no share trades one lot, as far as any are left
abbrev pub one_each : ShareMeanings OneEach
one_each = record {
  share = λ rule o. lot_for rule.left o;
  behind = λ rule o. record rule { left = rule.left - lot_for rule.left o };
}
