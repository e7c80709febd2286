-- What a session message is answered, and what it does to the session of its firm (our own rules).
use Rattle.std.specs.Prelude.{ℕ, ◌+◌, Bool, true, false, not, ◌&&◌, ◌==◌, nat_lt, nat_le, if◌then◌else◌, min, max, List, bytes_eq, codes, slice_index, slice_index_or, slice_set, Option, Some, None, Result, Ok, Err}
use Rattle.gx_base.specs.NameLists.{NameLists}
use Rattle.gx_base.specs.declared.limits.TheConstants.{MOST_FIRMS}
use Rattle.fix_request.specs.Fields.{Field, fields_of}
use Rattle.fix_request.specs.Asked.{text_of}
use Rattle.fix_request.specs.Requests.{refusal_of}
use Rattle.fix_request.specs.Senders.{firm_sender}
use Rattle.fix_request.specs.declared.fault.Fault.{Fault}
use Rattle.fix_request.specs.declared.request.Sender.{Sender}
use Rattle.fix_request.specs.declared.request.Refusal.{Refusal}
use Rattle.fix_request.specs.declared.request.Request.{Request}
use Rattle.fix_request.specs.declared.request.Request.TheVariants as request
use Rattle.fix_session.specs.Messages.{content_fault, said_in}
use Rattle.fix_session.specs.declared.asked.SessionMessage.{SessionMessage}
use Rattle.fix_session.specs.declared.asked.SessionMessage.TheVariants as message
use Rattle.fix_session.specs.declared.sessions.FirmSession.{FirmSession}
use Rattle.fix_session.specs.declared.sessions.Sent.{Sent}
use Rattle.fix_session.specs.declared.answer.SessionRule.{SessionRule}
use Rattle.fix_session.specs.declared.answer.SessionRule.TheVariants.{FirstTag, BadTag, NoValue, Sender as SenderRule, Target, Header, MsgType, Missing, Format, Value}
use Rattle.fix_session.specs.declared.answer.LogoutText.TheVariants.{NotOn, TooLow, Bye}
use Rattle.fix_session.specs.declared.answer.SessionBody.{SessionBody}
use Rattle.fix_session.specs.declared.answer.SessionBody.TheVariants as body
use Rattle.fix_session.specs.declared.answer.SessionLine.{SessionLine}
use Rattle.fix_session.specs.declared.answer.SessionAnswer.{SessionAnswer}
use Rattle.fix_session.specs.declared.answer.SessionAnswer.TheVariants.{Nothing, One, Two, Resend}

-- ---- the session of a firm, by the kept messages

-- no firm is on, and the first number of each is 1
abbrev pub new_session : FirmSession
new_session = record { on = false; next = 1 }

-- the session of a firm
abbrev pub session_of : List FirmSession → ℕ → FirmSession
session_of sessions firm = slice_index_or sessions firm new_session

-- the firm that sent a message, where none of the session rules 1 to 6 refuses it
abbrev pub sender_of_refused : Refusal → Option ℕ → Option Sender
sender_of_refused refusal None = None
sender_of_refused refusal (Some firm) =
    if nat_le refusal.rule 6 then None else Some (record { firm = firm; seq = refusal.seq; time = refusal.time })

-- The same of a message that is kept, as it was read then. A change of the trading session comes from no firm.
abbrev pub sender_in : Request → Option Sender
sender_in (request.New order) = Some order.sender
sender_in (request.Cancel order) = Some order.sender
sender_in (request.Replace order) = Some order.sender
sender_in (request.Session change) = None
sender_in (request.Passed sender) = Some sender
sender_in (request.Refused refusal) = sender_of_refused refusal refusal.firm

-- the next number of a firm is above each of its numbers (34)
abbrev pub raised : FirmSession → ℕ → FirmSession
raised session seq = record session { next = max session.next (seq + 1) }

-- a kept message raises the next number of its firm
abbrev pub noted_of : List FirmSession → Option Sender → List FirmSession
noted_of sessions None = sessions
noted_of sessions (Some sender) = slice_set sessions sender.firm (raised (session_of sessions sender.firm) sender.seq)

abbrev pub noted : List FirmSession → Request → List FirmSession
noted sessions request = noted_of sessions (sender_in request)

-- ---- lines

-- the place of an addressee's count of lines; the last is that of `UNKNOWN`
abbrev pub line_place : Option ℕ → ℕ
line_place None = MOST_FIRMS
line_place (Some firm) = firm

-- the number of the next report line to an addressee
abbrev pub next_line : List ℕ → Option ℕ → ℕ
next_line lines firm = slice_index lines (line_place firm) + 1

-- the rule of this number
abbrev pub rule_of : ℕ → SessionRule
rule_of number =
    if number == 1 then FirstTag
    else if number == 2 then BadTag
    else if number == 3 then NoValue
    else if number == 4 then SenderRule
    else if number == 5 then Target
    else if number == 6 then Header
    else if number == 7 then MsgType
    else if number == 8 then Missing
    else if number == 9 then Format
    else Value

-- a refusal as a line
abbrev pub reject_of : List ℕ → Refusal → SessionLine
reject_of lines refusal =
    record {
      firm = refusal.firm;
      line = next_line lines refusal.firm;
      time = refusal.time;
      body = body.Reject refusal.seq refusal.tag refusal.reason (rule_of refusal.rule);
    }

-- ---- the rules of a message without fault

-- a line to its firm
abbrev pub line_to : Sent → SessionBody → SessionLine
line_to sent said = record { firm = Some sent.sender.firm; line = sent.lines + 1; time = sent.sender.time; body = said }

abbrev pub one : Sent → SessionBody → SessionAnswer
one sent said = One (line_to sent said)

abbrev pub is_logon : SessionMessage → Bool
is_logon (message.Logon interval) = true
is_logon other = false

-- The lines from one number to another, 0 for all that there are, again. Where the first is above those that there are, only that
-- the next line has the number after them.
abbrev pub resent : Sent → ℕ → ℕ → SessionAnswer
resent sent from to =
    if nat_lt sent.lines from then one sent (body.Reset (sent.lines + 1))
    else Resend sent.sender.firm from (if to == 0 then sent.lines else min to sent.lines) sent.sender.time

-- each of these rules gives the session after the message, and its answer

-- rule 8: it has the next number
abbrev pub in_turn : FirmSession → Sent → SessionMessage → FirmSession × SessionAnswer
in_turn session sent (message.Logon interval) = (record session { on = true }, one sent (body.Logon interval))
in_turn session sent (message.TestRequest id) = (session, one sent (body.Beat id))
in_turn session sent (message.ResendRequest from to) = (session, resent sent from to)
in_turn session sent message.Logout = (record session { on = false }, one sent (body.Logout Bye))
in_turn session sent other = (session, Nothing)

-- rule 7: its number is above the next one, and those between are asked for
abbrev pub ahead : FirmSession → Sent → SessionMessage → FirmSession × SessionAnswer
ahead session sent (message.Logon interval) =
    (record session { on = true }, Two (line_to sent (body.Logon interval)) (line_to sent (body.Resend session.next)))
ahead session sent other = (session, one sent (body.Resend session.next))

-- rule 6: its number is below the next one, which ends the session, unless it says that it is sent again
abbrev pub behind : FirmSession → Sent → FirmSession × SessionAnswer
behind session sent =
    if sent.is_copy then (session, Nothing) else (record session { on = false }, one sent (body.Logout TooLow))

abbrev pub by_number : FirmSession → Sent → FirmSession × SessionAnswer
by_number session sent =
    if nat_lt sent.sender.seq session.next then behind session sent
    else if nat_lt session.next sent.sender.seq then ahead session sent sent.says
    else in_turn (record session { next = session.next + 1 }) sent sent.says

-- rule 5: a reset gives the next number, whatever its own is
abbrev pub unless_reset : FirmSession → Sent → SessionMessage → FirmSession × SessionAnswer
unless_reset session sent (message.SequenceReset number) = (record session { next = number }, Nothing)
unless_reset session sent other = by_number session sent

-- rule 4: a firm that is not on logs on first
abbrev pub answered : FirmSession → Sent → FirmSession × SessionAnswer
answered session sent =
    if not session.on && not (is_logon sent.says) then (session, one sent (body.Logout NotOn))
    else unless_reset session sent sent.says

-- ---- all rules

-- the sessions after a message, and its answer
pub record Taken : Type 0 where
  pub sessions : List FirmSession
  pub answer : SessionAnswer

-- a message that is refused: no session changes
abbrev pub refused_as : List FirmSession → List ℕ → Refusal → Taken
refused_as sessions lines refusal = record { sessions = sessions; answer = One (reject_of lines refusal) }

-- a message with these fields of this sender
abbrev pub sent_by : List ℕ → List Field → Sender → Sent
sent_by lines fields sender =
    record {
      sender = sender;
      says = said_in fields;
      is_copy = bytes_eq (text_of 43 fields) (codes "Y");
      lines = slice_index lines sender.firm;
    }

-- such a message, where this is the first fault of its content
abbrev pub taken_by : List FirmSession → List ℕ → List Field → Sender → Option Fault → Taken
taken_by sessions lines fields sender (Some fault) = refused_as sessions lines (refusal_of false sender fault)
taken_by sessions lines fields sender None =
    let done = answered (session_of sessions sender.firm) (sent_by lines fields sender) in
    record { sessions = slice_set sessions sender.firm done.0; answer = done.1 }

-- a message with these fields: one of the session rules 1 to 6 refuses it, or this firm sent it
abbrev pub taken_from : List FirmSession → List ℕ → List Field → Result Sender Refusal → Taken
taken_from sessions lines fields (Err refusal) = refused_as sessions lines refusal
taken_from sessions lines fields (Ok sender) =
    taken_by sessions lines fields sender (content_fault (session_of sessions sender.firm).next fields)

-- a message of this body: the first rule that holds answers it
abbrev pub taken_in : NameLists → List FirmSession → List ℕ → List ℕ → Taken
taken_in names sessions lines body = taken_from sessions lines (fields_of body) (firm_sender names body)
