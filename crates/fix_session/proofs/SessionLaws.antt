-- Offered to the crates above: what is sent over two lists of messages, and a line again beside the line.
use Rattle.std.proofs.Common.{◌≡◌, ℕ, ◌^◌, ◌<◌, true, List, [], ◌∷◌, ◌++◌, decimal, refl, sym, ◌∙◌, ap, append_assoc}
use Rattle.std.specs.Prelude.{codes, fold, IsTrue, Some, None}
use Rattle.std.proofs.lemmas.List.{append-nil}
use Rattle.std.specs.List.{before_first, after_first, list_all}
use Rattle.std.proofs.lemmas.Fmt.{decimal_is_IsNumeral}
use Rattle.gx_base.specs.Frames.{field}
use Rattle.gx_base.specs.NameLists.{NameLists}
use Rattle.gx_base.specs.Texts.{is_name, is_stamp}
use Rattle.gx_base.specs.Line.{line_head, addressee, body_of, decimals_of, step_text, fill_status, cause_text, field_if, id_fields, report_fields, order_fields, state_fields, trade_fields, cancel_id, cancelled_id, refused_fields, wanted_fields, nothing_fields, fault_fields, request_fields, change_fields, session_fields}
use Rattle.gx_base.specs.declared.event.Head.{Head}
use Rattle.gx_base.specs.declared.event.Event.{Event}
use Rattle.gx_base.specs.declared.event.Event.TheVariants.{Accepted, Triggered, Fill, Cancelled, Expired, Replaced, RefusedNew, RefusedChange, RefusedSession}
use Rattle.fix_frame.specs.Grammar.{body_in}
use Rattle.fix_request.specs.Fields.{is_soh}
use Rattle.fix_session.specs.declared.sessions.FirmSession.{FirmSession}
use Rattle.fix_session.specs.declared.again.ReportRange.{ReportRange}
use Rattle.fix_session.specs.Answers.{taken_in}
use Rattle.fix_session.specs.SessionOut.{answer_bytes, sessions_after, session_out}
use Rattle.fix_session.specs.Again.{again_body, head_in, AreLineAndAgain}
use Rattle.fix_session.proofs.Cuts.{is_other, before-text, after-text, digits_other}
use Rattle.fix_session.proofs.Whole.{name_whole, stamp_whole}

-- ---- what is sent

-- some messages and then some more
pub out-append : (names : NameLists) (lines : List ℕ) (again : ReportRange → List ℕ) (sessions : List FirmSession) (first others : List (List ℕ)) → session_out names lines again sessions (first ++ others) ≡ session_out names lines again sessions first ++ session_out names lines again (sessions_after names lines sessions first) others
out-append names lines again sessions [] others = refl
out-append names lines again sessions (frame ∷ first) others =
    let taken = taken_in names sessions lines (body_in frame) in
    ap (λ (l : List ℕ). answer_bytes names again taken.answer ++ l) (out-append names lines again taken.sessions first others)
    ∙ sym (append_assoc (answer_bytes names again taken.answer) (session_out names lines again taken.sessions first) _)

pub after-append : (names : NameLists) (lines : List ℕ) (sessions : List FirmSession) (first others : List (List ℕ)) → sessions_after names lines sessions (first ++ others) ≡ sessions_after names lines (sessions_after names lines sessions first) others
after-append names lines sessions [] others = refl
after-append names lines sessions (frame ∷ first) others =
    after-append names lines (taken_in names sessions lines (body_in frame)).sessions first others

-- ---- lines again

-- a text without SOH
abbrev pub IsWhole : List ℕ → Type 0
IsWhole text = list_all is_other text ≡ true

-- A body that begins with four fields: again it has 43=Y after the second, and this time in the fourth.
again_fields : (time type line exchange old rest : List ℕ) → IsWhole type → IsWhole line → IsWhole exchange → IsWhole old
    → again_body time ((type ++ 1 ∷ []) ++ (line ++ 1 ∷ []) ++ (exchange ++ 1 ∷ []) ++ (old ++ 1 ∷ []) ++ rest)
    ≡ (type ++ 1 ∷ []) ++ (line ++ 1 ∷ []) ++ field "43" (codes "Y") ++ (exchange ++ 1 ∷ []) ++ field "52" time ++ rest
again_fields time type line exchange old rest w1 w2 w3 w4 =
    let whole : List ℕ = (type ++ 1 ∷ []) ++ (line ++ 1 ∷ []) ++ (exchange ++ 1 ∷ []) ++ (old ++ 1 ∷ []) ++ rest in
    let b3 : List ℕ = (old ++ 1 ∷ []) ++ rest in
    let b2 : List ℕ = (exchange ++ 1 ∷ []) ++ ((old ++ 1 ∷ []) ++ rest) in
    let b1 : List ℕ = (line ++ 1 ∷ []) ++ ((exchange ++ 1 ∷ []) ++ ((old ++ 1 ∷ []) ++ rest)) in
    let b0 : List ℕ = (type ++ 1 ∷ []) ++ ((line ++ 1 ∷ []) ++ ((exchange ++ 1 ∷ []) ++ ((old ++ 1 ∷ []) ++ rest))) in
    let same : whole ≡ b0 = in_a_row (type ++ 1 ∷ []) (line ++ 1 ∷ []) (exchange ++ 1 ∷ []) (old ++ 1 ∷ []) rest in
    let e0 : b0 ≡ type ++ 1 ∷ b1 = append_assoc type (1 ∷ []) b1 in
    let e1 : b1 ≡ line ++ 1 ∷ b2 = append_assoc line (1 ∷ []) b2 in
    let e2 : b2 ≡ exchange ++ 1 ∷ b3 = append_assoc exchange (1 ∷ []) b3 in
    let e3 : b3 ≡ old ++ 1 ∷ rest = append_assoc old (1 ∷ []) rest in
    let a1 : after_first is_soh b0 ≡ b1 = ap (after_first is_soh) e0 ∙ after-text type b1 w1 in
    let a2 : after_first is_soh b1 ≡ b2 = ap (after_first is_soh) e1 ∙ after-text line b2 w2 in
    let a3 : after_first is_soh b2 ≡ b3 = ap (after_first is_soh) e2 ∙ after-text exchange b3 w3 in
    let a4 : after_first is_soh b3 ≡ rest = ap (after_first is_soh) e3 ∙ after-text old rest w4 in
    let c0 : before_first is_soh b0 ≡ type = ap (before_first is_soh) e0 ∙ before-text type b1 w1 in
    let c1 : before_first is_soh b1 ≡ line = ap (before_first is_soh) e1 ∙ before-text line b2 w2 in
    let c2 : before_first is_soh b2 ≡ exchange = ap (before_first is_soh) e2 ∙ before-text exchange b3 w3 in
    ap (again_body time) same ∙ rw (a1, a2, a3, a4, c0, c1, c2) refl
  where
    in_a_row : (a b c d e : List ℕ) → a ++ b ++ c ++ d ++ e ≡ a ++ (b ++ (c ++ (d ++ e)))
    in_a_row a b c d e = simp append_assoc

-- what comes after the fourth field
abbrev behind_four : NameLists → Head → List ℕ → List ℕ
behind_four names head rest = field "56" (addressee names head.firm) ++ rest

-- A report line's body again, whatever follows its head: 43=Y after 34, and this time in 52.
again_of_head : (names : NameLists) (type time rest : List ℕ) (head : Head) → IsWhole type → IsWhole (decimal head.line) → IsWhole names.exchange → IsWhole head.time
    → again_body time (line_head names type head ++ rest)
    ≡ field "35" type ++ field "34" (decimal head.line) ++ field "43" (codes "Y") ++ field "49" names.exchange ++ field "52" time ++ behind_four names head rest
again_of_head names type time rest head w1 w2 w3 w4 =
    let line = decimal head.line in
    ap (again_body time) (append_assoc (field "35" type ++ field "34" line ++ field "49" names.exchange ++ field "52" head.time) (field "56" (addressee names head.firm)) rest)
    ∙ again_fields time (51 ∷ 53 ∷ 61 ∷ type) (51 ∷ 52 ∷ 61 ∷ line) (52 ∷ 57 ∷ 61 ∷ names.exchange) (53 ∷ 50 ∷ 61 ∷ head.time) (behind_four names head rest) w1 w2 w3 w4

-- a text begins so
abbrev Begins : List ℕ → List ℕ → Type 0
Begins front text = (rest : List ℕ) × (text ≡ front ++ rest)

begins_more : (front text more : List ℕ) → Begins front text → Begins front (text ++ more)
begins_more front text more begins =
    (begins.0 ++ more, ap (λ (l : List ℕ). l ++ more) begins.1 ∙ append_assoc front begins.0 more)

-- a text, and some more after it, begin so
begins_all : (front text : List ℕ) (more : List (List ℕ)) → Begins front text → Begins front (fold (λ (l : List ℕ) (part : List ℕ). l ++ part) text more)
begins_all front text [] begins = begins
begins_all front text (part ∷ more) begins = begins_all front (text ++ part) more (begins_more front text part begins)

begins_with : (front : List ℕ) (more : List (List ℕ)) → Begins front (fold (λ (l : List ℕ) (part : List ℕ). l ++ part) front more)
begins_with front more = begins_all front front more ([], sym (append-nil front))

-- the body of an event's line begins with the head of a line of its type
pub record HasHead (names : NameLists) (event : Event) : Type 0 where
  pub type : List ℕ
  pub whole : IsWhole type
  pub begins : Begins (line_head names type (head_in event)) (body_of names event)

head_of_event : (names : NameLists) (event : Event) → HasHead names event
head_of_event names (Accepted head order) = record {
  type = codes "8";
  whole = refl;
  begins =
      begins_with (line_head names (codes "8") head)
      (id_fields order.number order.id None ∷ report_fields head (codes "0") ∷ order_fields names order ∷ state_fields head order ∷ field "9003" (codes "0") ∷ []);
}
head_of_event names (Triggered head order) = record {
  type = codes "8";
  whole = refl;
  begins =
      begins_with (line_head names (codes "8") head)
      (id_fields order.number order.id None ∷ report_fields head (codes "0") ∷ order_fields names order ∷ state_fields head order ∷ field "58" (codes "TRIGGERED") ∷ field "9003" (codes "0") ∷ []);
}
head_of_event names (Fill head order lots price step trade) = record {
  type = codes "8";
  whole = refl;
  begins =
      begins_with (line_head names (codes "8") head)
      (id_fields order.number order.id None ∷ report_fields head (fill_status order.leaves) ∷ order_fields names order ∷ trade_fields lots price (decimals_of names order.instrument) ∷ state_fields head order ∷ field "9001" (step_text step) ∷ field "9002" (decimal trade) ∷ field "9003" (codes "0") ∷ []);
}
head_of_event names (Cancelled head order gone by cause) = record {
  type = codes "8";
  whole = refl;
  begins =
      begins_with (line_head names (codes "8") head)
      (id_fields order.number (cancel_id order by) (cancelled_id order by) ∷ report_fields head (codes "4") ∷ order_fields names order ∷ state_fields head order ∷ field_if "58" (cause_text cause) ∷ field "9003" (decimal gone) ∷ []);
}
head_of_event names (Expired head order gone) = record {
  type = codes "8";
  whole = refl;
  begins =
      begins_with (line_head names (codes "8") head)
      (id_fields order.number order.id None ∷ report_fields head (codes "C") ∷ order_fields names order ∷ state_fields head order ∷ field "58" (codes "EXPIRED") ∷ field "9003" (decimal gone) ∷ []);
}
head_of_event names (Replaced head order old old_quantity) = record {
  type = codes "8";
  whole = refl;
  begins =
      begins_with (line_head names (codes "8") head)
      (id_fields order.number order.id (Some old) ∷ report_fields head (codes "5") ∷ order_fields names order ∷ state_fields head order ∷ field "9003" (codes "0") ∷ []);
}
head_of_event names (RefusedNew head order fault) = record {
  type = codes "8";
  whole = refl;
  begins =
      begins_with (line_head names (codes "8") head)
      (refused_fields head order fault ∷ wanted_fields order ∷ nothing_fields head ∷ fault_fields order fault ∷ []);
}
head_of_event names (RefusedChange head id old number filled replace fault) = record {
  type = codes "9";
  whole = refl;
  begins =
      begins_with (line_head names (codes "9") head)
      (request_fields number id old ∷ change_fields head filled replace fault ∷ []);
}
head_of_event names (RefusedSession head seq tag reason rule) = record {
  type = codes "3";
  whole = refl;
  begins =
      begins_with (line_head names (codes "3") head)
      (session_fields seq tag reason rule ∷ []);
}

-- the body of a line, and the same again, if the exchange has a name, and no SOH is in the number and the time
pub whole-again : (names : NameLists) (time : List ℕ) (event : Event) → IsTrue (is_name names.exchange) → IsWhole (decimal (head_in event).line)
    → IsWhole (head_in event).time → AreLineAndAgain names time event
whole-again names time event named numbered timed =
    let its = head_of_event names event in
    let head = head_in event in
    let rest = its.begins.0 in record {
      differ = record {
        type = its.type;
        line = decimal head.line;
        exchange = names.exchange;
        first_time = head.time;
        rest = behind_four names head rest;
        body_is = its.begins.1 ∙ append_assoc (field "35" its.type ++ field "34" (decimal head.line) ++ field "49" names.exchange ++ field "52" head.time) (field "56" (addressee names head.firm)) rest;
        again_is = ap (again_body time) its.begins.1 ∙ again_of_head names its.type time rest head its.whole numbered (name_whole names.exchange named) timed;
      };
      number = refl;
      first_time = refl;
    }

pub lines-again : (names : NameLists) (time : List ℕ) (event : Event) → IsTrue (is_name names.exchange) → IsTrue (is_stamp (head_in event).time)
    → (head_in event).line < 2 ^ 64 → AreLineAndAgain names time event
lines-again names time event named timed small =
    let head = head_in event in
    whole-again names time event named (digits_other (decimal head.line) (decimal_is_IsNumeral head.line small).0.1) (stamp_whole head.time timed).0
