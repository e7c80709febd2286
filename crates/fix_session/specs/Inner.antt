-- What the private functions promise each other. Nothing of this need be believed: the public calls speak only of the files beside
-- this one.
use Rattle.std.specs.Prelude.{ℕ, false, not, ◌||◌, ◌==◌, nat_le, nat_lt, if◌then◌else◌, List, bytes_eq, codes, Option, Some, None, Result, Ok, Err}
use Rattle.std.specs.Option.{ok_or}
use Rattle.gx_base.specs.Numbers.{quantity_of}
use Rattle.gx_base.specs.Texts.{is_name}
use Rattle.fix_request.specs.Fields.{Field, value_of}
use Rattle.fix_request.specs.Faults.{fault}
use Rattle.fix_request.specs.Requests.{refusal_of}
use Rattle.fix_request.specs.declared.fault.Fault.{Fault}
use Rattle.fix_request.specs.declared.request.Sender.{Sender}
use Rattle.fix_request.specs.declared.request.Refusal.{Refusal}
use Rattle.fix_session.specs.declared.asked.SessionType.{SessionType}
use Rattle.fix_session.specs.declared.asked.SessionType.TheVariants as type
use Rattle.fix_session.specs.declared.asked.SessionMessage.{SessionMessage}
use Rattle.fix_session.specs.declared.answer.SessionBody.{SessionBody}
use Rattle.fix_session.specs.declared.answer.SessionBody.TheVariants as body
use Rattle.fix_session.specs.declared.asked.SessionMessage.TheVariants.{Heartbeat, Reject, Logout, TestRequest, ResendRequest, SequenceReset, Logon}

-- the type of its text
abbrev pub message_type_of : List ℕ → Option SessionType
message_type_of text =
    if bytes_eq text (codes "0") then Some type.Heartbeat
    else if bytes_eq text (codes "1") then Some type.TestRequest
    else if bytes_eq text (codes "2") then Some type.ResendRequest
    else if bytes_eq text (codes "3") then Some type.Reject
    else if bytes_eq text (codes "4") then Some type.SequenceReset
    else if bytes_eq text (codes "5") then Some type.Logout
    else if bytes_eq text (codes "A") then Some type.Logon
    else None

-- one step after the other: the first one that refuses decides
infixl 10 ◌>>=◌
abbrev pub ◌>>=◌ : {A B E : Type 0} → Result A E → (A → Result B E) → Result B E
(Ok a) >>= next = next a
(Err e) >>= next = Err e

abbrev pub result_map : {A B E : Type 0} → (A → B) → Result A E → Result B E
result_map f (Ok a) = Ok (f a)
result_map f (Err e) = Err e

-- a value, or the refusal by a fault of a message of this sender
abbrev pub unless_refused : {A : Type 0} → Sender → Option Fault → A → Result A Refusal
unless_refused sender None a = Ok a
unless_refused sender (Some fault) a = Err (refusal_of false sender fault)

-- the text of a tag that is needed
abbrev pub needed : Sender → ℕ → Option (List ℕ) → Result (List ℕ) Refusal
needed sender tag value = ok_or value (refusal_of false sender (fault 8 1 tag))

-- the number of a quantity text
abbrev pub lots_of : Sender → ℕ → List ℕ → Result ℕ Refusal
lots_of sender tag text = ok_or (quantity_of text) (refusal_of false sender (fault 9 6 tag))

-- a text that is a name
abbrev pub name_of : Sender → ℕ → List ℕ → Result (List ℕ) Refusal
name_of sender tag text = ok_or (if is_name text then Some text else None) (refusal_of false sender (fault 9 6 tag))

-- a quantity that is needed
abbrev pub needed_lots : Sender → ℕ → List Field → Result ℕ Refusal
needed_lots sender tag fields = needed sender tag (value_of tag fields) >>= lots_of sender tag

abbrev pub test_request_of : Sender → List Field → Result SessionMessage Refusal
test_request_of sender fields = needed sender 112 (value_of 112 fields) >>= name_of sender 112 >>= (λ id. Ok (TestRequest id))

-- a range of lines that is in range
abbrev pub range_of : Sender → ℕ → ℕ → Result SessionMessage Refusal
range_of sender from to =
    if not (nat_le 1 from) then Err (refusal_of false sender (fault 10 5 7))
    else if not (to == 0 || nat_le from to) then Err (refusal_of false sender (fault 10 5 16))
    else Ok (ResendRequest from to)

abbrev pub resend_request_of : Sender → List Field → Result SessionMessage Refusal
resend_request_of sender fields =
    needed sender 7 (value_of 7 fields)
    >>= (λ from_text. needed sender 16 (value_of 16 fields)
    >>= (λ to_text. lots_of sender 7 from_text
    >>= (λ from. lots_of sender 16 to_text
    >>= range_of sender from)))

abbrev pub reset_above : Sender → ℕ → ℕ → Result SessionMessage Refusal
reset_above sender next number = if nat_lt next number then Ok (SequenceReset number) else Err (refusal_of false sender (fault 10 5 36))

abbrev pub reset_of : Sender → ℕ → List Field → Result SessionMessage Refusal
reset_of sender next fields = needed_lots sender 36 fields >>= reset_above sender next

abbrev pub logon_of : Sender → List Field → Result SessionMessage Refusal
logon_of sender fields = needed_lots sender 108 fields >>= (λ interval. Ok (Logon interval))

-- what a message of this type says, or its refusal
abbrev pub content_of : Sender → ℕ → List Field → Option SessionType → Result SessionMessage Refusal
content_of sender next fields None = Err (refusal_of false sender (fault 7 11 35))
content_of sender next fields (Some type.Heartbeat) = Ok Heartbeat
content_of sender next fields (Some type.TestRequest) = test_request_of sender fields
content_of sender next fields (Some type.ResendRequest) = resend_request_of sender fields
content_of sender next fields (Some type.Reject) = Ok Reject
content_of sender next fields (Some type.SequenceReset) = reset_of sender next fields
content_of sender next fields (Some type.Logout) = Ok Logout
content_of sender next fields (Some type.Logon) = logon_of sender fields

-- a line that is no reject
abbrev pub IsNoReject : SessionBody → Type 0
IsNoReject (body.Reject seq tag reason rule) = ⊥
IsNoReject (body.Logout text) = Unit {0}
IsNoReject (body.Resend next) = Unit {0}
IsNoReject (body.Logon interval) = Unit {0}
IsNoReject (body.Beat id) = Unit {0}
IsNoReject (body.Reset next) = Unit {0}
