-- A report line again (FIX 4.2: a possible duplicate; that 122 is left out is our own rule): the same body with 43=Y after 34 and
-- another time in 52, and so another length (9) and checksum (10).
use Rattle.std.specs.Prelude.{◌≡◌, ℕ, zero, suc, ◌^◌, ◌<◌, ◌&&◌, nat_le, if◌then◌else◌, List, [], ◌∷◌, ◌++◌, length, flat_map, codes, decimal, Bool, false, IsTrue, Option, Some, None, ◌==◌, refl}
use Rattle.std.specs.List.{before_first, after_first}
use Rattle.gx_base.specs.Frames.{soh, field, frame_of}
use Rattle.gx_base.specs.NameLists.{NameLists}
use Rattle.gx_base.specs.Texts.{is_name, is_stamp}
use Rattle.gx_base.specs.Line.{body_of}
use Rattle.gx_base.specs.declared.event.Head.{Head}
use Rattle.gx_base.specs.declared.event.Event.{Event}
use Rattle.gx_base.specs.declared.event.Event.TheVariants.{Accepted, Triggered, Fill, Cancelled, Expired, Replaced, RefusedNew, RefusedChange, RefusedSession}
use Rattle.fix_request.specs.Fields.{is_soh}
use Rattle.exec_report.specs.Forms.{FormMeanings, prints}
use Rattle.fix_session.specs.declared.again.ReportRange.{ReportRange}
use Rattle.fix_session.specs.declared.again.AgainForm.{AgainForm}

-- ---- a body again: its first fields are 35, 34, 49 and 52, in this order

-- what comes after the first fields
abbrev pub behind_fields : ℕ → List ℕ → List ℕ
behind_fields zero body = body
behind_fields (suc n) body = behind_fields n (after_first is_soh body)

-- the field after the first ones, with the SOH that ends it
abbrev pub field_behind : ℕ → List ℕ → List ℕ
field_behind n body = before_first is_soh (behind_fields n body) ++ soh ∷ []

abbrev pub again_body : List ℕ → List ℕ → List ℕ
again_body time body =
    field_behind 0 body
    ++ field_behind 1 body
    ++ field "43" (codes "Y")
    ++ field_behind 2 body
    ++ field "52" time
    ++ behind_fields 4 body

-- the line of an event again, at this time
abbrev pub again_line : NameLists → List ℕ → Event → List ℕ
again_line names time event = let body = again_body time (body_of names event) in frame_of (decimal (length body)) body

-- ---- a range of lines

-- where the line of an event goes, and its numbers
abbrev pub head_in : Event → Head
head_in (Accepted head order) = head
head_in (Triggered head order) = head
head_in (Fill head order lots price step trade) = head
head_in (Cancelled head order gone by cause) = head
head_in (Expired head order gone) = head
head_in (Replaced head order old old_quantity) = head
head_in (RefusedNew head order fault) = head
head_in (RefusedChange head id old number filled replace fault) = head
head_in (RefusedSession head seq tag reason rule) = head

-- whether a line goes to this firm
abbrev pub goes_to : ℕ → Option ℕ → Bool
goes_to firm None = false
goes_to firm (Some other) = other == firm

-- whether the line of an event is one of those asked for: it goes to the firm, and its number (34) is in the range
abbrev pub is_asked : ReportRange → Event → Bool
is_asked range event =
    let head = head_in event in
    goes_to range.firm head.firm && nat_le range.from head.line && nat_le head.line range.to

-- the line of an event again, if it is asked for
abbrev pub again_text : ReportRange → NameLists → Event → List ℕ
again_text range names event = if is_asked range event then again_line names range.time event else []

-- the report lines of a range again, out of all events
abbrev pub lines_again : ReportRange → NameLists → List Event → List ℕ
lines_again range names events = flat_map (again_text range names) events

-- lines again as a form: nothing is kept, and nothing comes after the lines
abbrev pub again_form : FormMeanings AgainForm
again_form = record {
  text = λ f. again_text f.range;
  after = λ f e. f;
  noted = λ f product frame. f;
  ending = λ f live. [];
  text_after = λ f e. refl;
  text_noted = λ f product frame. refl;
  apart = λ f e product frame. refl;
  is_silent = false;
  silent = prints;
}

-- ---- a line again beside the line

-- A body, and the body again: 43=Y comes after 34, and this time in 52. All else is the same, byte for byte.
pub record IsAgain (time body again : List ℕ) : Type 0 where
  pub type : List ℕ
  pub line : List ℕ
  pub exchange : List ℕ
  pub first_time : List ℕ
  pub rest : List ℕ
  pub body_is : body ≡ field "35" type ++ field "34" line ++ field "49" exchange ++ field "52" first_time ++ rest
  pub again_is : again ≡ field "35" type ++ field "34" line ++ field "43" (codes "Y") ++ field "49" exchange ++ field "52" time ++ rest

-- The bodies of an event's line and of the line again are two such: 34 has the number of the line, and the first time is the event's.
pub record AreLineAndAgain (names : NameLists) (time : List ℕ) (event : Event) : Type 0 where
  pub differ : IsAgain time (body_of names event) (again_body time (body_of names event))
  pub number : differ.line ≡ decimal (head_in event).line
  pub first_time : differ.first_time ≡ (head_in event).time

-- if the exchange has a name, and the line a time and a number, as each event that the engine makes has them
abbrev pub LinesAgainAreLines : Type 0
LinesAgainAreLines =
    (names : NameLists) (time : List ℕ) (event : Event) → IsTrue (is_name names.exchange) → IsTrue (is_stamp (head_in event).time)
    → (head_in event).line < 2 ^ 64 → AreLineAndAgain names time event
