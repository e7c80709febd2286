-- The bytes of session messages (FIX 4.2; the words of 58 are our own).
use Rattle.std.specs.Prelude.{ℕ, List, ◌++◌, length, codes, decimal}
use Rattle.gx_base.specs.Frames.{field, frame_of}
use Rattle.gx_base.specs.NameLists.{NameLists}
use Rattle.gx_base.specs.Line.{line_head, session_fields}
use Rattle.gx_base.specs.declared.event.Head.{Head}
use Rattle.fix_session.specs.declared.answer.SessionRule.{SessionRule}
use Rattle.fix_session.specs.declared.answer.SessionRule.TheVariants.{FirstTag, BadTag, NoValue, Sender, Target, Header, MsgType, Missing, Format, Value}
use Rattle.fix_session.specs.declared.answer.LogoutText.{LogoutText}
use Rattle.fix_session.specs.declared.answer.LogoutText.TheVariants.{NotOn, TooLow, Bye}
use Rattle.fix_session.specs.declared.answer.SessionBody.{SessionBody}
use Rattle.fix_session.specs.declared.answer.SessionBody.TheVariants as body
use Rattle.fix_session.specs.declared.answer.SessionLine.{SessionLine}

-- the number of a rule, in the order in which they are tried
abbrev pub rule_number : SessionRule → ℕ
rule_number FirstTag = 1
rule_number BadTag = 2
rule_number NoValue = 3
rule_number Sender = 4
rule_number Target = 5
rule_number Header = 6
rule_number MsgType = 7
rule_number Missing = 8
rule_number Format = 9
rule_number Value = 10

-- our own words for why a firm is logged out (58)
abbrev pub logout_text : LogoutText → List ℕ
logout_text NotOn = codes "NOT LOGGED ON"
logout_text TooLow = codes "MSGSEQNUM TOO LOW"
logout_text Bye = codes "BYE"

-- the type (35) of a line
abbrev pub type_of : SessionBody → List ℕ
type_of (body.Reject seq tag reason rule) = codes "3"
type_of (body.Logout text) = codes "5"
type_of (body.Resend next) = codes "2"
type_of (body.Logon interval) = codes "A"
type_of (body.Beat id) = codes "0"
type_of (body.Reset next) = codes "4"

-- what it says, after its head; a reject says what a report of one says
abbrev pub said_fields : SessionBody → List ℕ
said_fields (body.Reject seq tag reason rule) = session_fields seq tag reason (rule_number rule)
said_fields (body.Logout text) = field "58" (logout_text text)
said_fields (body.Resend next) = field "7" (decimal next) ++ field "16" (codes "0")
said_fields (body.Logon interval) = field "98" (codes "0") ++ field "108" (decimal interval)
said_fields (body.Beat id) = field "112" id
said_fields (body.Reset next) = field "123" (codes "Y") ++ field "36" (decimal next)

-- the head of a line, as of a report that is no execution report
abbrev pub head_of : SessionLine → Head
head_of line = record { firm = line.firm; line = line.line; report = 0; time = line.time }

abbrev pub session_body : NameLists → SessionLine → List ℕ
session_body names line = line_head names (type_of line.body) (head_of line) ++ said_fields line.body

-- the line: the frame of its body
abbrev pub session_line : NameLists → SessionLine → List ℕ
session_line names line = let body = session_body names line in frame_of (decimal (length body)) body
