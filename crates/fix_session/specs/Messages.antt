-- Session messages: what each type needs and says, and the first rule that refuses one (our own rules and order; the types, the
-- tags and the reasons are those of FIX 4.2).
use Rattle.std.specs.Prelude.{ℕ, Bool, not, ◌||◌, ◌==◌, nat_lt, nat_le, List, [], ◌∷◌, ◌++◌, map, find, bytes_eq, codes, Option, Some, None, option_and_then}
use Rattle.gx_base.specs.FirstFault.{fault_if, first_fault}
use Rattle.fix_request.specs.Fields.{Field, value_of}
use Rattle.fix_request.specs.Faults.{fault}
use Rattle.fix_request.specs.MessageTable.{Item, tag, Form, name, quantity, missing, ill_formed}
use Rattle.fix_request.specs.Asked.{text_of, quantity_in}
use Rattle.fix_request.specs.declared.fault.Fault.{Fault}
use Rattle.fix_session.specs.declared.asked.SessionMessage.{SessionMessage}
use Rattle.fix_session.specs.declared.asked.SessionMessage.TheVariants.{Heartbeat, TestRequest, ResendRequest, Reject, SequenceReset, Logout, Logon}

-- ---- the table

-- A row: the type (35); the tags that it needs, with the form of each; which of their values are in range, where the firm's next
-- number is this; and what the message says.
pub record Row : Type 0 where
  pub type : List ℕ
  pub needs : List (Item × Form)
  pub ranges : ℕ → List Field → List (ℕ × Bool)
  pub says : List Field → SessionMessage

-- every value is in range
abbrev pub any : ℕ → List Field → List (ℕ × Bool)
any next fields = []

-- 7 is at least 1, and 16 is 0 or at least 7
abbrev pub resend_ranges : ℕ → List Field → List (ℕ × Bool)
resend_ranges next fields =
    let from = quantity_in 7 fields in
    let to = quantity_in 16 fields in
    (7, nat_le 1 from) ∷ (16, to == 0 || nat_le from to) ∷ []

-- 36 is above the next number
abbrev pub reset_ranges : ℕ → List Field → List (ℕ × Bool)
reset_ranges next fields = (36, nat_lt next (quantity_in 36 fields)) ∷ []

-- what a resend request asks for
abbrev pub resend_said : List Field → SessionMessage
resend_said fields = ResendRequest (quantity_in 7 fields) (quantity_in 16 fields)

-- no other type is a session message
abbrev pub session_table : List Row
session_table =
    record { type = codes "0"; needs = []; ranges = any; says = λ fields. Heartbeat }
    ∷ record { type = codes "1"; needs = (tag 112, name) ∷ []; ranges = any; says = λ fields. TestRequest (text_of 112 fields) }
    ∷ record { type = codes "2"; needs = (tag 7, quantity) ∷ (tag 16, quantity) ∷ []; ranges = resend_ranges; says = resend_said }
    ∷ record { type = codes "3"; needs = []; ranges = any; says = λ fields. Reject }
    ∷ record { type = codes "4"; needs = (tag 36, quantity) ∷ []; ranges = reset_ranges; says = λ fields. SequenceReset (quantity_in 36 fields) }
    ∷ record { type = codes "5"; needs = []; ranges = any; says = λ fields. Logout }
    ∷ record { type = codes "A"; needs = (tag 108, quantity) ∷ []; ranges = any; says = λ fields. Logon (quantity_in 108 fields) }
    ∷ []

-- the row of a type
abbrev pub row_of_type : List ℕ → Option Row
row_of_type text = find (λ (row : Row). bytes_eq text row.type) session_table

-- the row of a message
abbrev pub row_of : List Field → Option Row
row_of fields = option_and_then row_of_type (value_of 35 fields)

-- ---- the rules

-- VALUE: this tag has a value that is not in range
abbrev pub out_of_range : ℕ × Bool → Option Fault
out_of_range entry = fault_if (not entry.1) (fault 10 5 entry.0)

-- the tag of a need
abbrev pub item_of : Item × Form → Item
item_of need = need.0

-- MSGTYPE: it is no session message; then MISSING, FORMAT and VALUE, each for all its tags before the next
abbrev pub content_faults : ℕ → List Field → Option Row → List (Option Fault)
content_faults next fields None = Some (fault 7 11 35) ∷ []
content_faults next fields (Some row) =
    map (missing fields) (map item_of row.needs) ++ map (ill_formed fields) row.needs ++ map out_of_range (row.ranges next fields)

-- the fault that refuses the content of a message, where the next number of its firm is this
abbrev pub content_fault : ℕ → List Field → Option Fault
content_fault next fields = first_fault (content_faults next fields (row_of fields))

-- what a row says of a message; where a rule has refused it, this says nothing
abbrev pub said_by : List Field → Option Row → SessionMessage
said_by fields None = Heartbeat
said_by fields (Some row) = row.says fields

abbrev pub said_in : List Field → SessionMessage
said_in fields = said_by fields (row_of fields)
