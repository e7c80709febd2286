-- A message by its steps: the header's fault, the content's, and then the rules of its session.
use Rattle.std.proofs.Common.{◌≡◌, ℕ, Bool, bytes_eq, List, Option, Some, None, Ok, Err, refl, sym, ap, ap₂, ◌∙◌}
use Rattle.std.specs.Prelude.{false, slice_set, slice_index, codes}
use Rattle.gx_base.specs.NameLists.{NameLists}
use Rattle.fix_request.specs.Fields.{Field, fields_of}
use Rattle.fix_request.specs.Asked.{text_of}
use Rattle.fix_request.specs.Requests.{refusal_of}
use Rattle.fix_request.specs.Senders.{firm_sender}
use Rattle.fix_request.specs.declared.fault.Fault.{Fault}
use Rattle.fix_request.specs.declared.request.Sender.{Sender}
use Rattle.fix_request.specs.declared.request.Refusal.{Refusal}
use Rattle.fix_session.specs.declared.answer.SessionAnswer.{SessionAnswer}
use Rattle.fix_session.specs.declared.asked.SessionMessage.{SessionMessage}
use Rattle.fix_session.specs.declared.sessions.FirmSession.{FirmSession}
use Rattle.fix_session.specs.declared.sessions.Sent.{Sent}
use Rattle.fix_session.specs.Messages.{content_fault, said_in}
use Rattle.fix_session.specs.Answers.{Taken, refused_as, taken_by, taken_from, taken_in, session_of, sent_by, answered}
use Rattle.fix_session.specs.Inner.{unless_refused}

abbrev pub answered_as : List FirmSession → ℕ → FirmSession × SessionAnswer → Taken
answered_as sessions firm done = record { sessions = slice_set sessions firm done.0; answer = done.1 }

err_is : {A : Type 0} (sender : Sender) (f : Fault) (a : A) (refusal : Refusal) → Err refusal ≡ unless_refused sender (Some f) a → refusal ≡ refusal_of false sender f
err_is sender f a refusal e = cc

module _ (sessions : List FirmSession) (lines : List ℕ) (fields : List Field) (sender : Sender) where
  refused_next : (p : Option Fault) (a : SessionMessage) (refusal : Refusal) → Err refusal ≡ unless_refused sender p a → taken_by sessions lines fields sender p ≡ refused_as sessions lines refusal
  refused_next None a refusal e = cc
  refused_next (Some f) a refusal e = ap (refused_as sessions lines) (sym (err_is sender f a refusal e))

  answered_next : (p : Option Fault) (a says : SessionMessage) → Ok says ≡ unless_refused sender p a → taken_by sessions lines fields sender p ≡ answered_as sessions sender.firm (answered (session_of sessions sender.firm) (sent_by lines fields sender))
  answered_next (Some f) a says e = cc
  answered_next None a says e = refl

same_says : (sender : Sender) (p : Option Fault) (a says : SessionMessage) → Ok says ≡ unless_refused sender p a → says ≡ a
same_says sender None a says e = cc
same_says sender (Some f) a says e = cc

module _ (names : NameLists) (sessions : List FirmSession) (lines body : List ℕ) where
  abbrev its_fields : List Field
  its_fields = fields_of body

  pub by_header : (refusal : Refusal) → Err refusal ≡ firm_sender names body → taken_in names sessions lines body ≡ refused_as sessions lines refusal
  by_header refusal e = ap (taken_from sessions lines (fields_of body)) (sym e)

  -- what the code knows of the sender's session is the session
  pub by_content : (known : Sender) (next : ℕ) (refusal : Refusal) → Ok known ≡ firm_sender names body
      → next ≡ (session_of sessions known.firm).next → Err refusal ≡ unless_refused known (content_fault next its_fields) (said_in its_fields) → taken_in names sessions lines body ≡ refused_as sessions lines refusal
  by_content known next refusal first next_is e =
      ap (taken_from sessions lines (fields_of body)) (sym first)
      ∙ refused_next sessions lines its_fields known (content_fault (session_of sessions known.firm).next its_fields) (said_in its_fields) refusal
      (e ∙ ap (λ (n : ℕ). unless_refused known (content_fault n its_fields) (said_in its_fields)) next_is)

  pub by_session : (known : Sender) (next : ℕ) (says : SessionMessage) → Ok known ≡ firm_sender names body
      → next ≡ (session_of sessions known.firm).next → Ok says ≡ unless_refused known (content_fault next its_fields) (said_in its_fields)
      → (taken_in names sessions lines body ≡ answered_as sessions known.firm (answered (session_of sessions known.firm) (sent_by lines its_fields known))) × (says ≡ said_in its_fields)
  by_session known next says first next_is e =
      let fault = content_fault (session_of sessions known.firm).next its_fields in
      let e' : Ok says ≡ unless_refused known fault (said_in its_fields) = e ∙ ap (λ (n : ℕ). unless_refused known (content_fault n its_fields) (said_in its_fields)) next_is in (
        ap (taken_from sessions lines (fields_of body)) (sym first) ∙ answered_next sessions lines its_fields known fault (said_in its_fields) says e',
        same_says known fault (said_in its_fields) says e',
      )

abbrev pub sent_with : List ℕ → Sender → SessionMessage → Bool → Sent
sent_with lines sender says copy = record { sender = sender; says = says; is_copy = copy; lines = slice_index lines sender.firm }

pub sent_is : (lines : List ℕ) (fields : List Field) (sender : Sender) (says : SessionMessage) (copy : Bool) → says ≡ said_in fields → copy ≡ bytes_eq (text_of 43 fields) (codes "Y") → sent_with lines sender says copy ≡ sent_by lines fields sender
sent_is lines fields sender says copy says_is copy_is = ap₂ (sent_with lines sender) says_is copy_is
