-- The reports of a history, each by itself.
use Rattle.std.specs.Prelude.{ℕ, List, ◌++◌, map}
use Rattle.gx_base.specs.Line.{line_of}
use Rattle.order_kinds.specs.State.{empty_state}
use Rattle.order_kinds.specs.Step.{events_from}
use Rattle.order_kinds.specs.Amendments.{amended_state}
use Rattle.order_kinds.specs.Histories.{History, of_product, amended, state_kept}
use Rattle.stream_laws.specs.Names.{AreNames}

-- each product has right names
abbrev pub HaveNames : History → Type 0
HaveNames (of_product product messages) = AreNames product.names
HaveNames (amended before product messages) = HaveNames before × AreNames product.names

-- the report of each event, with the names of the product that its message was taken under
abbrev pub each_report : History → List (List ℕ)
each_report (of_product product messages) = map (line_of product.names) (events_from product (empty_state product) messages)
each_report (amended before product messages) =
    each_report before ++ map (line_of product.names) (events_from product (amended_state product (state_kept before)) messages)
