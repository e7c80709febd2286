use Rattle.std.proofs.Common.{◌≡◌, ℕ, ◌<◌, false, List, length, ◌∙◌, ap, ap₂, sym, arith, bytes_eq, get_or, set}
use Rattle.std.specs.Prelude.{slice_set, codes}
use Rattle.std.proofs.lemmas.List.{get_or_default}
use Rattle.fix_frame.specs.Grammar.{body_in}
use Rattle.fix_request.specs.Fields.{fields_of}
use Rattle.fix_request.specs.Asked.{text_of}
use Rattle.fix_session.specs.Messages.{content_fault, said_in}
use Rattle.fix_session.specs.Answers.{Taken, refused_as, session_of, new_session, sent_by, answered}
use Rattle.fix_session.specs.Inner.{unless_refused}
use Rattle.fix_session.specs.declared.sessions.FirmSession.{FirmSession}
use Rattle.fix_session.specs.declared.sessions.Sent.{Sent}
use Rattle.fix_session.specs.declared.answer.SessionAnswer.{SessionAnswer}
use Rattle.fix_session.specs.declared.answer.SessionAnswer.TheVariants.{One}
use Rattle.fix_session.proofs.Taken.{by_header, by_content, by_session, sent_is}
use Rattle.fix_session.proofs.sessions.Sessions.take.Goals as goal

-- what an array has at a firm is the firm's session
session_is : (firms sessions : List FirmSession) (firm : ℕ) → length firms ≡ 64 → firm < 64 → firms ≡ sessions → get_or firms firm (record { on = false; next = 0 }) ≡ session_of sessions firm
session_is firms sessions firm long listed same =
    get_or_default firms firm (record { on = false; next = 0 }) new_session (omega (arith, long, listed)) ∙ ap (λ (l : List FirmSession). session_of l firm) same

pub returns-in-Err-clause-answer : goal.returns-in-Err-clause-answer
returns-in-Err-clause-answer c =
    ap (λ l. One l) c.reject_of.ensures ∙ sym (ap (λ (t : Taken). t.answer) (by_header c.args.product.now.names c.args.self.now c.args.desk.now.lines (body_in c.args.frame.now) c.in-Err.refusal (sym c.in-Err.is ∙ c.read_listed.ensures.sender)))

pub returns-in-Err-clause-sessions : goal.returns-in-Err-clause-sessions
returns-in-Err-clause-sessions c =
    sym (ap (λ (t : Taken). t.sessions) (by_header c.args.product.now.names c.args.self.now c.args.desk.now.lines (body_in c.args.frame.now) c.in-Err.refusal (sym c.in-Err.is ∙ c.read_listed.ensures.sender)))

refused : (c : goal.After-reject_of-in-Err-read_message) → Rattle.fix_session.specs.Answers.taken_in c.args.product.now.names c.args.self.now c.args.desk.now.lines (body_in c.args.frame.now) ≡ refused_as c.args.self.now c.args.desk.now.lines c.in-Err-read_message.refusal
refused c =
    let session = session_is c.self.inside.firms c.args.self.now c.in-Ok.sender.firm c.self.invariant (c.in-Ok.ensures.listed) c.self.view_is in
    let next : ℕ = (get_or c.self.inside.firms c.in-Ok.sender.firm (record { on = false; next = 0 })).next in
    by_content c.args.product.now.names c.args.self.now c.args.desk.now.lines (body_in c.args.frame.now) c.in-Ok.sender next c.in-Err-read_message.refusal
    (sym c.in-Ok.is ∙ c.read_listed.ensures.sender)
    (ap (λ (s : FirmSession). s.next) session)
    (sym c.in-Err-read_message.is ∙ c.read_message.ensures ∙ ap (λ (b : List ℕ). unless_refused c.in-Ok.sender (content_fault next (fields_of b)) (said_in (fields_of b))) c.frame_body-body.ensures)

pub returns-in-Err-read_message-clause-answer : goal.returns-in-Err-read_message-clause-answer
returns-in-Err-read_message-clause-answer c =
    ap (λ l. One l) c.reject_of-in-Err-read_message.ensures ∙ sym (ap (λ (t : Taken). t.answer) (refused c))

pub returns-in-Err-read_message-clause-sessions : goal.returns-in-Err-read_message-clause-sessions
returns-in-Err-read_message-clause-sessions c = sym (ap (λ (t : Taken). t.sessions) (refused c))

-- the session after it, and the answer
done : (c : goal.After-answer-answer) → (
    (Rattle.fix_session.specs.Answers.taken_in c.args.product.now.names c.args.self.now c.args.desk.now.lines (body_in c.args.frame.now)).answer ≡ c.answer-answer.result
    ) × (
    (Rattle.fix_session.specs.Answers.taken_in c.args.product.now.names c.args.self.now c.args.desk.now.lines (body_in c.args.frame.now)).sessions ≡ slice_set c.args.self.now c.in-Ok.sender.firm c.answer-answer.new.self
    )
done c =
    let session = session_is c.self.inside.firms c.args.self.now c.in-Ok.sender.firm c.self.invariant (c.in-Ok.ensures.listed) c.self.view_is in
    let next : ℕ = (get_or c.self.inside.firms c.in-Ok.sender.firm (record { on = false; next = 0 })).next in
    let fields = fields_of (body_in c.args.frame.now) in
    let both = by_session c.args.product.now.names c.args.self.now c.args.desk.now.lines (body_in c.args.frame.now) c.in-Ok.sender next c.in-Ok-read_message.says
    (sym c.in-Ok.is ∙ c.read_listed.ensures.sender)
    (ap (λ (s : FirmSession). s.next) session)
    (sym c.in-Ok-read_message.is ∙ c.read_message.ensures ∙ ap (λ (b : List ℕ). unless_refused c.in-Ok.sender (content_fault next (fields_of b)) (said_in (fields_of b))) c.frame_body-body.ensures) in
    let copy = c.is_copy.ensures ∙ ap (λ (b : List ℕ). bytes_eq (text_of 43 (fields_of b)) (codes "Y")) c.frame_body-body.ensures in
    let sent = sent_is c.args.desk.now.lines fields c.in-Ok.sender c.in-Ok-read_message.says c.is_copy.result both.1 copy in
    let all = c.answer-answer.ensures ∙ ap₂ (λ (s : FirmSession) (t : Sent). answered s t) session sent in (
      ap (λ (t : Taken). t.answer) both.0 ∙ sym (ap (λ (d : FirmSession × SessionAnswer). d.1) all),
      ap (λ (t : Taken). t.sessions) both.0 ∙ sym (ap (λ (d : FirmSession × SessionAnswer). slice_set c.args.self.now c.in-Ok.sender.firm d.0) all),
    )

pub returns-clause-answer : goal.returns-clause-answer
returns-clause-answer c = sym (done c).0

pub returns-clause-sessions : goal.returns-clause-sessions
returns-clause-sessions c =
    ap (λ (l : List FirmSession). set l c.in-Ok.sender.firm c.answer-answer.new.self) c.self.view_is ∙ sym (done c).1
