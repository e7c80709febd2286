-- The words of printed lines (our own rule). Each line ends with a line feed. Names and prices are written as in reports, and
-- numbers are decimal without leading zeros.
use Rattle.std.specs.Prelude.{ℕ, List, [], ◌∷◌, ◌++◌, codes, decimal}
use Rattle.gx_base.specs.declared.order.Side.{Side}
use Rattle.gx_base.specs.declared.order.Side.TheVariants.{Buy, Sell}
use Rattle.gx_base.specs.declared.order.Order.{Order}
use Rattle.gx_base.specs.NameLists.{NameLists}
use Rattle.gx_base.specs.Line.{firm_name}

-- what ends a line
abbrev pub line_feed : List ℕ
line_feed = 10 ∷ []

abbrev pub side_letter : Side → List ℕ
side_letter Buy = codes "B"
side_letter Sell = codes "S"

-- which order: its number, its firm, and the id that the firm gave it
abbrev pub order_words : NameLists → Order → List ℕ
order_words names o = codes " #" ++ decimal o.number ++ codes " " ++ firm_name names o.firm ++ codes " " ++ o.id
