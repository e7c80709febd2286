-- Who sent a message, where each message has to come from a firm, whatever its type (our own rule, for messages of the session itself).
use Rattle.std.specs.Prelude.{ℕ, false, List, ◌∷◌, Option, Some, None, Result, Ok, Err}
use Rattle.gx_base.specs.NameLists.{NameLists}
use Rattle.gx_base.specs.FirstFault.{first_fault}
use Rattle.fix_request.specs.Fields.{Field, fields_of}
use Rattle.fix_request.specs.SessionRules.{first_tag_fault, bad_tag_fault, no_value_fault, header_faults}
use Rattle.fix_request.specs.Asked.{sender_of}
use Rattle.fix_request.specs.Requests.{refusal_of}
use Rattle.fix_request.specs.declared.fault.Fault.{Fault}
use Rattle.fix_request.specs.declared.request.Sender.{Sender}
use Rattle.fix_request.specs.declared.request.Refusal.{Refusal}

-- the fault that rules 1 to 6 find first: in the form of the fields, and then in the header
abbrev pub header_fault : NameLists → List ℕ → Option Fault
header_fault names body =
    let fields = fields_of body in
    first_fault (first_tag_fault body ∷ bad_tag_fault body ∷ no_value_fault fields ∷ header_faults false names fields)

-- the sender that a message with these fields names, or the refusal by its first fault
abbrev pub sender_by : NameLists → List Field → Option Fault → Result Sender Refusal
sender_by names fields None = Ok (sender_of names fields)
sender_by names fields (Some fault) = Err (refusal_of false (sender_of names fields) fault)

-- the firm that sent a message of this body, or its refusal by one of the rules 1 to 6
abbrev pub firm_sender : NameLists → List ℕ → Result Sender Refusal
firm_sender names body = sender_by names (fields_of body) (header_fault names body)
