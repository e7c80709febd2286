-- The lines that are sent again, beside the reports that were sent.
use Rattle.std.specs.Prelude.{◌≡◌, ◌⊎◌, ℕ, List, [], ◌∷◌, ◌++◌, length, decimal}
use Rattle.gx_base.specs.Frames.{frame_of}
use Rattle.order_kinds.specs.Histories.{History, lines_kept}
use Rattle.stream_laws.specs.Histories.{each_report}
use Rattle.fix_session.specs.declared.again.ReportRange.{ReportRange}
use Rattle.fix_session.specs.Again.{IsAgain, again_text}

-- A report and a line: each is the frame of its body, and the line's body is the report's again, with 43=Y and this time in 52.
pub record IsLineAgain (time report line : List ℕ) : Type 0 where
  pub body : List ℕ
  pub again : List ℕ
  pub differ : IsAgain time body again
  pub report_is : report ≡ frame_of (decimal (length body)) body
  pub line_is : line ≡ frame_of (decimal (length again)) again

-- these bytes are lines again of some of these reports, in their order, each at most once
abbrev pub Repeats : List ℕ → List (List ℕ) → List ℕ → Type 0
Repeats time [] bytes = bytes ≡ []
Repeats time (report ∷ reports) bytes =
    Repeats time reports bytes
    ⊎ ((line : List ℕ) × (rest : List ℕ) × (bytes ≡ line ++ rest) × IsLineAgain time report line × Repeats time reports rest)

-- whatever range of lines is sent again, those are lines again of some of the history's reports
abbrev pub RepeatsReports : History → Type 0
RepeatsReports kept = (range : ReportRange) → Repeats range.time (each_report kept) (lines_kept (again_text range) kept)
