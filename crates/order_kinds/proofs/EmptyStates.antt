-- What holds of the state before the first message.
use Rattle.std.proofs.Common.{length, refl}
use Rattle.std.specs.Prelude.{None}
use Rattle.std.proofs.lemmas.List.{length-replicate}
use Rattle.product_file.specs.Products.{ProductLists}
use Rattle.order_kinds.specs.State.{empty_state}
use Rattle.order_kinds.specs.Cores.{FitsProduct, AreNumbered}

pub fits-empty : (product : ProductLists) → FitsProduct product (empty_state product)
fits-empty product = record { capacity = refl; instruments = refl; prices = length-replicate (length product.names.instruments) None; orders = tt }

pub numbered-empty : (product : ProductLists) → AreNumbered (empty_state product)
numbered-empty product = record { differ = tt; given = tt }
