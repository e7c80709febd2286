-- What the bytes of a report say, read as those of a message are: its fields are those of the body of its frame, and the first
-- field with a tag counts. Nothing here knows how a report is written.
use Rattle.std.specs.Prelude.{◌≡◌, ℕ, ◌+◌, Bool, ◌&&◌, ◌||◌, ◌==◌, if◌then◌else◌, List, [], Option, unwrap_or, sum_by, fold, bytes_eq, codes, ◌≤◌, true, ◌∷◌, ◌++◌}
use Rattle.std.specs.Str.Parse.{digits_value}
use Rattle.fix_frame.specs.Grammar.{body_in}
use Rattle.fix_request.specs.Fields.{fields_of, value_of}

-- ---- one report

-- the value of a tag in a report, if it has the tag
abbrev pub value_in : ℕ → List ℕ → Option (List ℕ)
value_in tag report = value_of tag (fields_of (body_in report))

-- the same, and the empty text where it has none
abbrev pub text_in : ℕ → List ℕ → List ℕ
text_in tag report = unwrap_or (value_in tag report) []

-- the number that the value writes, and 0 where the report does not have the tag
abbrev pub number_in : ℕ → List ℕ → ℕ
number_in tag report = digits_value 10 (text_in tag report)

-- an execution report (35=8)
abbrev pub is_execution : List ℕ → Bool
is_execution report = bytes_eq (text_in 35 report) (codes "8")

-- an execution report of this kind (150)
abbrev pub is_told_as : List ℕ → List ℕ → Bool
is_told_as kind report = is_execution report && bytes_eq (text_in 150 report) kind

-- of an order that is cancelled (150=4), of an order that expires (150=C), or of a new order that is refused (150=8)
abbrev pub is_cancel : List ℕ → Bool
is_cancel report = is_told_as (codes "4") report

abbrev pub is_expiry : List ℕ → Bool
is_expiry report = is_told_as (codes "C") report

abbrev pub is_refusal : List ℕ → Bool
is_refusal report = is_told_as (codes "8") report

-- 38 = 14 + 151 + 9003
abbrev pub ReadsAsWhole : List ℕ → Type 0
ReadsAsWhole report = number_in 38 report ≡ number_in 14 report + (number_in 151 report + number_in 9003 report)

-- what is open of an order by its report (37, 151), where so much was open before; any other report changes nothing
abbrev pub open_by_report : ℕ → ℕ → List ℕ → ℕ
open_by_report number leaves report = if is_execution report && (number_in 37 report == number) then number_in 151 report else leaves

-- ---- the reports of a stream

-- what is open of an order by its last report, and 0 where it has none
abbrev pub last_open_read : ℕ → List (List ℕ) → ℕ
last_open_read number reports = fold (open_by_report number) 0 reports

-- the sum of all 32: a trade counts twice, once for each of its two reports
abbrev pub lots_read : List (List ℕ) → ℕ
lots_read reports = sum_by (number_in 32) reports

-- what a report says that was cancelled: that of an order that is cancelled or that expires its 9003, and any other nothing
abbrev pub cancelled_in_report : List ℕ → ℕ
cancelled_in_report report = if is_cancel report || is_expiry report then number_in 9003 report else 0

-- the sum of the 9003 of all orders that are cancelled, and of all that expire
abbrev pub cancelled_read : List (List ℕ) → ℕ
cancelled_read reports = sum_by cancelled_in_report reports

-- what a report says was traded of an order (37, 32)
abbrev pub lots_by_report : ℕ → List ℕ → ℕ
lots_by_report number report = if number_in 37 report == number then number_in 32 report else 0

abbrev pub lots_read_of : ℕ → List (List ℕ) → ℕ
lots_read_of number reports = sum_by (lots_by_report number) reports

-- In each report of an order, what is filled (14) is the sum of all 32 of its reports up to and with this one.
abbrev pub FillsReadUp : List (List ℕ) → Type 0
FillsReadUp reports =
    (before : List (List ℕ)) → (report : List ℕ) → (behind : List (List ℕ)) → reports ≡ before ++ report ∷ behind
    → is_execution report ≡ true → 1 ≤ number_in 37 report
    → number_in 14 report ≡ lots_read_of (number_in 37 report) (before ++ report ∷ [])
