-- The price of the last order of a list, found by a walk.
use Rattle.std.proofs.Common.{List, [], ◌∷◌, Option, Some}
use Rattle.gx_base.specs.declared.price.Price.{Price}
use Rattle.plain_book.specs.declared.entry.Entry.{Entry}
use Rattle.plain_book.specs.Orders.{last_price_or}

-- the price of the last of these, or what was found before
abbrev pub last_after : Option Price → List Entry → Option Price
last_after found [] = found
last_after found (e ∷ es) = Some (last_price_or e.order.price es)
