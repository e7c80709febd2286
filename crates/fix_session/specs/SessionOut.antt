-- What a session sends over a list of messages: the answers, one after the other.
use Rattle.std.specs.Prelude.{◌≡◌, ℕ, List, [], ◌∷◌, ◌++◌, fold, replicate}
use Rattle.gx_base.specs.NameLists.{NameLists}
use Rattle.gx_base.specs.declared.limits.TheConstants.{MOST_FIRMS}
use Rattle.fix_frame.specs.Grammar.{body_in}
use Rattle.product_file.specs.Products.{ProductLists}
use Rattle.fix_request.specs.Requests.{request_of}
use Rattle.fix_session.specs.declared.again.ReportRange.{ReportRange}
use Rattle.fix_session.specs.declared.sessions.FirmSession.{FirmSession}
use Rattle.fix_session.specs.declared.answer.SessionAnswer.{SessionAnswer}
use Rattle.fix_session.specs.declared.answer.SessionAnswer.TheVariants.{Nothing, One, Two, Resend}
use Rattle.fix_session.specs.Answers.{new_session, noted, taken_in}
use Rattle.fix_session.specs.SessionLines.{session_line}

-- ---- the sessions by the kept messages

-- no firm is on, and the first number of each is 1
abbrev pub first_sessions : List FirmSession
first_sessions = replicate MOST_FIRMS new_session

-- the sessions after a message that is kept, or some, by the product that they were kept under
abbrev pub noted_in : ProductLists → List FirmSession → List ℕ → List FirmSession
noted_in product sessions frame = noted sessions (request_of product frame)

abbrev pub noted_all : ProductLists → List FirmSession → List (List ℕ) → List FirmSession
noted_all product sessions frames = fold (noted_in product) sessions frames

-- ---- what is sent

-- an answer as bytes, where these are the report lines of each range again
abbrev pub answer_bytes : NameLists → (ReportRange → List ℕ) → SessionAnswer → List ℕ
answer_bytes names again Nothing = []
answer_bytes names again (One line) = session_line names line
answer_bytes names again (Two line other) = session_line names line ++ session_line names other
answer_bytes names again (Resend firm from to time) = again (record { firm = firm; from = from; to = to; time = time })

-- the sessions after these messages, where so many report lines went to each addressee
abbrev pub sessions_after : NameLists → List ℕ → List FirmSession → List (List ℕ) → List FirmSession
sessions_after names lines sessions [] = sessions
sessions_after names lines sessions (frame ∷ frames) =
    sessions_after names lines (taken_in names sessions lines (body_in frame)).sessions frames

-- what these messages are answered
abbrev pub session_out : NameLists → List ℕ → (ReportRange → List ℕ) → List FirmSession → List (List ℕ) → List ℕ
session_out names lines again sessions [] = []
session_out names lines again sessions (frame ∷ frames) =
    let taken = taken_in names sessions lines (body_in frame) in
    answer_bytes names again taken.answer ++ session_out names lines again taken.sessions frames

-- ---- laws

-- some messages and then some more are answered as the first, and then the others from the sessions after the first
abbrev pub OutGoesOn : Type 0
OutGoesOn =
    (names : NameLists) (lines : List ℕ) (again : ReportRange → List ℕ) (sessions : List FirmSession) (first others : List (List ℕ))
    → session_out names lines again sessions (first ++ others)
    ≡ session_out names lines again sessions first ++ session_out names lines again (sessions_after names lines sessions first) others

abbrev pub SessionsGoOn : Type 0
SessionsGoOn =
    (names : NameLists) (lines : List ℕ) (sessions : List FirmSession) (first others : List (List ℕ))
    → sessions_after names lines sessions (first ++ others) ≡ sessions_after names lines (sessions_after names lines sessions first) others
