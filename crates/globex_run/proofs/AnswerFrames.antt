-- Answering one more of some messages.
use Rattle.std.proofs.Common.{◌≡◌, ℕ, ◌+◌, ◌<◌, List, [], ◌∷◌, ◌++◌, length, get_or, take, drop, refl, sym, ap, ◌∙◌, append-nil}
use Rattle.std.proofs.lemmas.List.{take_more, take-append-drop}
use Rattle.gx_base.specs.NameLists.{NameLists}
use Rattle.fix_frame.specs.Grammar.{body_in}
use Rattle.fix_session.specs.declared.again.ReportRange.{ReportRange}
use Rattle.fix_session.specs.declared.answer.SessionAnswer.{SessionAnswer}
use Rattle.fix_session.specs.declared.sessions.FirmSession.{FirmSession}
use Rattle.fix_session.specs.Answers.{taken_in}
use Rattle.fix_session.specs.SessionOut.{answer_bytes, session_out, sessions_after}
use Rattle.fix_session.proofs.SessionLaws.{out-append, after-append}

-- the bytes of an answer, as the definition has them
pub answer_is : (given names : NameLists) (again : ReportRange → List ℕ) (answer taken : SessionAnswer) → given ≡ names → answer ≡ taken → answer_bytes given again answer ≡ answer_bytes names again taken
answer_is given names again answer taken n a = rw (n, a) refl

module _ (names : NameLists) (lines : List ℕ) (start : List FirmSession) (frames : List (List ℕ)) (k : ℕ) (within : k < length frames) (frame : List ℕ) (is : frame ≡ get_or frames k []) where
  more : take (k + 1) frames ≡ take k frames ++ frame ∷ []
  more = take_more frames k [] within ∙ ap (λ (x : List ℕ). take k frames ++ x ∷ []) (sym is)

  module _ (sessions : List FirmSession) (sessions_are : sessions ≡ sessions_after names lines start (take k frames)) where
    pub out_more : (again : ReportRange → List ℕ) → session_out names lines again start (take k frames) ++ answer_bytes names again (taken_in names sessions lines (body_in frame)).answer ≡ session_out names lines again start (take (k + 1) frames)
    out_more again =
        ap (λ (s : List FirmSession). session_out names lines again start (take k frames) ++ answer_bytes names again (taken_in names s lines (body_in frame)).answer) sessions_are
        ∙ ap (λ (l : List ℕ). session_out names lines again start (take k frames) ++ l) (sym (append-nil (answer_bytes names again (taken_in names (sessions_after names lines start (take k frames)) lines (body_in frame)).answer)))
        ∙ sym (out-append names lines again start (take k frames) (frame ∷ []))
        ∙ ap (session_out names lines again start) (sym more)

    pub after_more : (taken_in names sessions lines (body_in frame)).sessions ≡ sessions_after names lines start (take (k + 1) frames)
    after_more =
        ap (λ (s : List FirmSession). (taken_in names s lines (body_in frame)).sessions) sessions_are
        ∙ sym (after-append names lines start (take k frames) (frame ∷ []))
        ∙ ap (sessions_after names lines start) (sym more)

  -- all answers are those so far and then others
  pub out_whole : (again : ReportRange → List ℕ) → session_out names lines again start (take (k + 1) frames) ++ session_out names lines again (sessions_after names lines start (take (k + 1) frames)) (drop (k + 1) frames) ≡ session_out names lines again start frames
  out_whole again =
      sym (out-append names lines again start (take (k + 1) frames) (drop (k + 1) frames))
      ∙ ap (session_out names lines again start) (take-append-drop (k + 1) frames)
