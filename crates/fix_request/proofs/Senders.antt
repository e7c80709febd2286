-- The steps at a message up to its header give its sender, or the refusal by the first fault of rules 1 to 6.
use Rattle.std.proofs.Common.{◌≡◌, ℕ, Bool, true, false, cond, List, Option, Some, None, Result, Ok, Err, refl, sym, ap, subst, ◌∙◌}
use Rattle.std.specs.Prelude.{IsTrue, OnOk, MatchResult}
use Rattle.std.specs.List.{list_all}
use Rattle.std.specs.Option.{option_or}
use Rattle.gx_base.specs.Texts.{is_time_text}
use Rattle.gx_base.specs.NameLists.{NameLists}
use Rattle.fix_request.specs.Fields.{texts_of, has_tag, Field, fields_of, value_of}
use Rattle.fix_request.specs.Faults.{fault}
use Rattle.fix_request.specs.MessageTable.{session_row}
use Rattle.fix_request.specs.SessionRules.{is_firm, is_exchange, is_sequence_number, header_faults}
use Rattle.fix_request.specs.Asked.{sender_of}
use Rattle.fix_request.specs.Requests.{no_time}
use Rattle.fix_request.specs.Senders.{header_fault, sender_by, firm_sender}
use Rattle.fix_request.specs.ValidRequests.{IsValidSender, IsValidRefusal}
use Rattle.fix_request.specs.Inner.Rules.{◌>>=◌}
use Rattle.fix_request.specs.Inner.Values.{Values, values_of}
use Rattle.fix_request.specs.Inner.Requests.{checked_values, firm_of, target_of, sequence_of, time_of, known, sender_in, or_refused}
use Rattle.fix_request.specs.declared.fault.Fault.{Fault}
use Rattle.fix_request.specs.declared.request.Sender.{Sender}
use Rattle.fix_request.specs.declared.request.Refusal.{Refusal}
use Rattle.fix_request.specs.declared.request.Request.{Request}
use Rattle.fix_request.specs.declared.request.Request.TheVariants as request
use Rattle.fix_request.proofs.AgreeHeaders.{form_faults, values_give, firm_gives, target_gives, sequence_gives, time_gives}
use Rattle.fix_request.proofs.Answering.{request_from, IsAnswer, IsKnown, part, inner_part, two_are}
use Rattle.fix_request.proofs.Agree.{form_are}
use Rattle.fix_request.proofs.ValidRequests.{sender_is_valid}

-- a sender as a request: the message is passed
abbrev passed : Sender → Result Request Refusal
passed sender = Ok (request.Passed sender)

header_answer : (names : NameLists) (fields : List Field) → IsAnswer false (Some session_row) names fields (or_refused (sender_in names (values_of fields) >>= passed)) (header_faults false names fields)
unfolding sender_in
header_answer names fields =
    let values = values_of fields in
    let sender = sender_of names fields in
    let firm = Some sender.firm in
    let P = IsKnown false names fields in
    inner_part _ (firm_of names values) sender.firm _ passed None 0 no_time (firm_gives names fields) (two_are (P None 0 no_time) (fault 4 1 49) (fault 4 9 49) (is_firm names) (value_of 49 fields) refl refl) (
    inner_part _ (target_of names values) tt _ passed firm 0 no_time (target_gives names fields) (two_are (P firm 0 no_time) (fault 5 1 56) (fault 5 9 56) (is_exchange names) (value_of 56 fields) refl refl) (
    inner_part _ (sequence_of values) sender.seq _ passed firm 0 no_time (sequence_gives names fields) (two_are (P firm 0 no_time) (fault 6 1 34) (fault 6 6 34) is_sequence_number (value_of 34 fields) refl refl) (
    inner_part _ (time_of values) sender.time _ passed firm sender.seq no_time (time_gives names fields) (two_are (P firm sender.seq no_time) (fault 6 1 52) (fault 6 6 52) is_time_text (value_of 52 fields) refl refl)
    (record { is = refl }))))

-- what the steps give for a body
abbrev pub sender_after : NameLists → Result Values Fault → Result Sender Refusal
sender_after names read = known None 0 no_time read >>= sender_in names

as_request : Result Sender Refusal → Request
as_request r = or_refused (r >>= passed)

body_answer : (names : NameLists) (body : List ℕ) → or_refused (known None 0 no_time (checked_values body) >>= (λ values. sender_in names values >>= passed)) ≡ request_from false (Some session_row) names (fields_of body) (header_fault names body)
body_answer names body =
    (part (form_faults body) (checked_values body) (values_of (fields_of body)) (λ values. sender_in names values >>= passed) None 0 no_time (values_give body) (form_are false names body) (header_answer names (fields_of body))).is

grouped : (names : NameLists) (s : Result Values Refusal) → or_refused (s >>= (λ values. sender_in names values >>= passed)) ≡ or_refused (s >>= sender_in names >>= passed)
grouped names (Ok values) = refl
grouped names (Err refusal) = refl

same_Passed : (a b : Sender) → request.Passed a ≡ request.Passed b → a ≡ b
same_Passed a b is = cc

same_Refused : (a b : Refusal) → request.Refused a ≡ request.Refused b → a ≡ b
same_Refused a b is = cc

by_request : (names : NameLists) (fields : List Field) (r : Result Sender Refusal) (o : Option Fault) → or_refused (r >>= passed) ≡ request_from false (Some session_row) names fields o → r ≡ sender_by names fields o
by_request names fields (Ok sender) None is = ap Ok (same_Passed sender (sender_of names fields) is)
by_request names fields (Err refusal) None is = cc
by_request names fields (Ok sender) (Some f) is = cc
by_request names fields (Err refusal) (Some f) is = ap Err (same_Refused refusal _ is)

pub sender_is : (names : NameLists) (body : List ℕ) → sender_after names (checked_values body) ≡ firm_sender names body
sender_is names body =
    by_request names (fields_of body) (sender_after names (checked_values body)) (header_fault names body)
    (sym (grouped names (known None 0 no_time (checked_values body))) ∙ body_answer names body)

-- ---- what holds of it

-- where no rule refuses a message, each field has a tag
neither : (a b : Option Fault) → option_or a b ≡ None → (a ≡ None) × (b ≡ None)
neither None b e = (refl, e)
neither (Some f) b e = cc

if_all : (b : Bool) → cond b None (Some (fault 2 0 0)) ≡ None → b ≡ true
if_all true e = refl
if_all false e = cc

by_fault : (names : NameLists) (fields : List Field) (o : Option Fault) (P : Type 0) → (o ≡ None → P) → OnOk (sender_by names fields o) P
by_fault names fields None P holds = holds refl
by_fault names fields (Some f) P holds = tt

pub sender_has_tags : (names : NameLists) (body : List ℕ) → OnOk (firm_sender names body) (IsTrue (list_all has_tag (texts_of body)))
sender_has_tags names body =
    by_fault names (fields_of body) (header_fault names body) (IsTrue (list_all has_tag (texts_of body)))
    (λ none. if_all (list_all has_tag (texts_of body)) (neither _ _ (neither _ _ none).1).0)

pub sender_is_listed : (names : NameLists) (body : List ℕ) → MatchResult (firm_sender names body) (IsValidSender names) (IsValidRefusal names)
sender_is_listed names body =
    subst (λ (r : Result Sender Refusal). MatchResult r (IsValidSender names) (IsValidRefusal names)) (sender_is names body) (sender_is_valid names body)
