-- That the bytes of a report tell what the balance speaks of, and that its line in the ledger tells the same.
use Rattle.std.specs.Prelude.{◌≡◌, ℕ, if◌then◌else◌, List, [], ◌++◌, Option, Some, None, IfSome, codes, decimal}
use Rattle.gx_base.specs.declared.event.Event.{Event}
use Rattle.gx_base.specs.declared.event.Event.TheVariants.{Fill}
use Rattle.order_kinds.specs.Balance.{Quantities, quantities_of}
use Rattle.line_parts.specs.Words.{line_feed}
use Rattle.stream_laws.specs.Reading.{value_in, text_in, is_execution}

-- ---- a report

-- the report writes these quantities: OrderQty (38), CumQty (14), LeavesQty (151), and the cancelled quantity (9003)
pub record WritesQuantities (report : List ℕ) (q : Quantities) : Type 0 where
  pub ordered : value_in 38 report ≡ Some (decimal q.ordered)
  pub filled : value_in 14 report ≡ Some (decimal q.filled)
  pub leaves : value_in 151 report ≡ Some (decimal q.leaves)
  pub cancelled : value_in 9003 report ≡ Some (decimal q.cancelled)

-- what an event tells of quantities, its report writes
abbrev pub WritesWhatIsTold : List ℕ → Event → Type 0
WritesWhatIsTold report event = IfSome (quantities_of event) (WritesQuantities report)

-- the text of 32 (LastShares) that an event asks for: the lots of a trade, and none where there is no trade
abbrev pub lots_text : Event → Option (List ℕ)
lots_text (Fill head o lots price step trade) = Some (decimal lots)
lots_text _ = None

-- nothing is filled or open, and all that was ordered ended without a trade
pub record EndsWhole (report : List ℕ) : Type 0 where
  pub filled : value_in 14 report ≡ Some (codes "0")
  pub leaves : value_in 151 report ≡ Some (codes "0")
  pub cancelled : value_in 9003 report ≡ value_in 38 report

-- nothing is open
abbrev pub LeavesNothing : List ℕ → Type 0
LeavesNothing report = value_in 151 report ≡ Some (codes "0")

-- ---- its line in the ledger

-- entered Q filled F open O cancelled C: the texts that the report has in 38, 14, 151 and 9003
abbrev pub quantities_read : List ℕ → List ℕ
quantities_read report =
    codes " entered " ++ text_in 38 report
    ++ codes " filled " ++ text_in 14 report
    ++ codes " open " ++ text_in 151 report
    ++ codes " cancelled " ++ text_in 9003 report
    ++ line_feed

-- #NUMBER, with that of 37, and these
abbrev pub line_read : List ℕ → List ℕ
line_read report = codes "#" ++ text_in 37 report ++ quantities_read report

-- the line of an execution report, and nothing for any other report
abbrev pub ledger_line_read : List ℕ → List ℕ
ledger_line_read report = if is_execution report then line_read report else []
