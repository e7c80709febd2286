-- Orders, where nothing more is known of them.
use Rattle.std.specs.Prelude.{ℕ, List, pos}
use Rattle.gx_base.specs.declared.order.Order.{Order}
use Rattle.gx_base.specs.declared.order.Side.TheVariants.{Buy}
use Rattle.gx_base.specs.declared.order.Kind.TheVariants.{Limit}
use Rattle.gx_base.specs.declared.order.Life.TheVariants.{Day}

-- an order of nothing, with this id
abbrev pub blank_order : List ℕ → Order
blank_order id = record {
  number = 0;
  firm = 0;
  instrument = 0;
  side = Buy;
  id = id;
  kind = Limit;
  price = record { 0 = pos 0 };
  trigger = record { 0 = pos 0 };
  quantity = 0;
  filled = 0;
  leaves = 0;
  show = 0;
  shown = 0;
  min = 0;
  life = Day;
  prorated = 0;
}
