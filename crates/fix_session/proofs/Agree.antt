-- What the inner steps give is what the table says: the first fault, or what the message says.
use Rattle.std.proofs.Common.{◌≡◌, ℕ, Bool, true, false, cond, not, ◌||◌, ◌==◌, nat_le, nat_lt, List, [], ◌∷◌, bytes_eq, Option, Some, None, Result, Ok, Err, refl, sym, ap, ◌∙◌}
use Rattle.std.specs.Prelude.{codes, option_map, option_and_then, unwrap_or}
use Rattle.std.specs.Option.{ok_or, option_or}
use Rattle.std.specs.Str.Parse.{digits_value}
use Rattle.std.specs.List.{before_first}
use Rattle.gx_base.specs.FirstFault.{first_fault}
use Rattle.gx_base.specs.Numbers.{quantity_of, is_quantity_text, is_point}
use Rattle.gx_base.specs.Texts.{is_name}
use Rattle.fix_request.specs.Fields.{Field, value_of}
use Rattle.fix_request.specs.Faults.{fault, if_missing, if_fails}
use Rattle.fix_request.specs.MessageTable.{tag, name, quantity}
use Rattle.fix_request.specs.Asked.{text_of, quantity_in}
use Rattle.fix_request.specs.Requests.{refusal_of}
use Rattle.fix_request.specs.declared.fault.Fault.{Fault}
use Rattle.fix_request.specs.declared.request.Sender.{Sender}
use Rattle.fix_request.specs.declared.request.Refusal.{Refusal}
use Rattle.fix_session.specs.declared.asked.SessionType.{SessionType}
use Rattle.fix_session.specs.declared.asked.SessionType.TheVariants as type
use Rattle.fix_session.specs.declared.asked.SessionMessage.{SessionMessage}
use Rattle.fix_session.specs.declared.asked.SessionMessage.TheVariants.{Heartbeat, TestRequest, ResendRequest, Reject, SequenceReset, Logout, Logon}
use Rattle.fix_session.specs.Messages.{Row, any, resend_ranges, reset_ranges, resend_said, row_of_type, content_faults, content_fault, said_by, said_in}
use Rattle.fix_session.specs.Inner.{◌>>=◌, unless_refused, needed, lots_of, name_of, range_of, reset_above, message_type_of, content_of}

-- ---- the row of a type

abbrev row_by : SessionType → Row
row_by type.Heartbeat = record { type = codes "0"; needs = []; ranges = any; says = λ fields. Heartbeat }
row_by type.TestRequest = record { type = codes "1"; needs = (tag 112, name) ∷ []; ranges = any; says = λ fields. TestRequest (text_of 112 fields) }
row_by type.ResendRequest = record { type = codes "2"; needs = (tag 7, quantity) ∷ (tag 16, quantity) ∷ []; ranges = resend_ranges; says = resend_said }
row_by type.Reject = record { type = codes "3"; needs = []; ranges = any; says = λ fields. Reject }
row_by type.SequenceReset = record { type = codes "4"; needs = (tag 36, quantity) ∷ []; ranges = reset_ranges; says = λ fields. SequenceReset (quantity_in 36 fields) }
row_by type.Logout = record { type = codes "5"; needs = []; ranges = any; says = λ fields. Logout }
row_by type.Logon = record { type = codes "A"; needs = (tag 108, quantity) ∷ []; ranges = any; says = λ fields. Logon (quantity_in 108 fields) }

by_tests : (a b c d e f g : Bool) → cond a (Some (row_by type.Heartbeat)) (cond b (Some (row_by type.TestRequest)) (cond c (Some (row_by type.ResendRequest)) (cond d (Some (row_by type.Reject)) (cond e (Some (row_by type.SequenceReset)) (cond f (Some (row_by type.Logout)) (cond g (Some (row_by type.Logon)) None))))))
    ≡ option_map row_by (cond a (Some type.Heartbeat) (cond b (Some type.TestRequest) (cond c (Some type.ResendRequest) (cond d (Some type.Reject) (cond e (Some type.SequenceReset) (cond f (Some type.Logout) (cond g (Some type.Logon) None)))))))
by_tests true b c d e f g = refl
by_tests false true c d e f g = refl
by_tests false false true d e f g = refl
by_tests false false false true e f g = refl
by_tests false false false false true f g = refl
by_tests false false false false false true g = refl
by_tests false false false false false false true = refl
by_tests false false false false false false false = refl

type_row : (text : List ℕ) → row_of_type text ≡ option_map row_by (message_type_of text)
type_row text =
    by_tests (bytes_eq text (codes "0")) (bytes_eq text (codes "1")) (bytes_eq text (codes "2")) (bytes_eq text (codes "3")) (bytes_eq text (codes "4")) (bytes_eq text (codes "5")) (bytes_eq text (codes "A"))

row_is : (value : Option (List ℕ)) → option_and_then row_of_type value ≡ option_map row_by (option_and_then message_type_of value)
row_is None = refl
row_is (Some text) = type_row text

-- ---- each row

abbrev number_in : Option (List ℕ) → ℕ
number_in value = unwrap_or (option_and_then quantity_of value) 0

-- a quantity that is needed, and what follows it
lots_then : (sender : Sender) (number : ℕ) (value : Option (List ℕ)) (A : Type 0) (next : ℕ → Result A Refusal) (rest : Option Fault) (says : ℕ → A)
    → ((n : ℕ) → n ≡ number_in value → next n ≡ unless_refused sender rest (says n))
    → (needed sender number value >>= lots_of sender number >>= next)
    ≡ unless_refused sender (option_or (if_missing (fault 8 1 number) value) (option_or (if_fails is_quantity_text (fault 9 6 number) value) rest)) (says (number_in value))
lots_then sender number None A next rest says same = refl
lots_then sender number (Some text) A next rest says same = by_form (is_quantity_text text) (digits_value 10 (before_first is_point text)) same
  where
    by_form : (b : Bool) (n : ℕ) → ((k : ℕ) → k ≡ unwrap_or (cond b (Some n) None) 0 → next k ≡ unless_refused sender rest (says k))
        → (ok_or (cond b (Some n) None) (refusal_of false sender (fault 9 6 number)) >>= next)
        ≡ unless_refused sender (option_or (cond b None (Some (fault 9 6 number))) rest) (says (unwrap_or (cond b (Some n) None) 0))
    by_form true n each = each n refl
    by_form false n each = refl

logon_agrees : (sender : Sender) (value : Option (List ℕ)) → (needed sender 108 value >>= lots_of sender 108 >>= (λ n. Ok (Logon n)))
    ≡ unless_refused sender (option_or (if_missing (fault 8 1 108) value) (option_or (if_fails is_quantity_text (fault 9 6 108) value) None)) (Logon (number_in value))
logon_agrees sender value = lots_then sender 108 value SessionMessage (λ n. Ok (Logon n)) None (λ n. Logon n) (λ n is. refl)

above_by : (sender : Sender) (n : ℕ) (b : Bool) → cond b (Ok (SequenceReset n)) (Err (refusal_of false sender (fault 10 5 36))) ≡ unless_refused sender (option_or (cond (not b) (Some (fault 10 5 36)) None) None) (SequenceReset n)
above_by sender n true = refl
above_by sender n false = refl

reset_agrees : (sender : Sender) (next : ℕ) (value : Option (List ℕ)) → (needed sender 36 value >>= lots_of sender 36 >>= reset_above sender next)
    ≡ unless_refused sender (option_or (if_missing (fault 8 1 36) value) (option_or (if_fails is_quantity_text (fault 9 6 36) value) (option_or (cond (not (nat_lt next (number_in value))) (Some (fault 10 5 36)) None) None))) (SequenceReset (number_in value))
reset_agrees sender next value =
    lots_then sender 36 value SessionMessage (reset_above sender next) _ (λ n. SequenceReset n)
    (λ n is. above_by sender n (nat_lt next n) ∙ ap (λ k. unless_refused sender (option_or (cond (not (nat_lt next k)) (Some (fault 10 5 36)) None) None) (SequenceReset n)) is)

name_by : (sender : Sender) (text : List ℕ) (b : Bool) → (ok_or (cond b (Some text) None) (refusal_of false sender (fault 9 6 112)) >>= (λ id. Ok (TestRequest id)))
    ≡ unless_refused sender (option_or (cond b None (Some (fault 9 6 112))) None) (TestRequest text)
name_by sender text true = refl
name_by sender text false = refl

test_agrees : (sender : Sender) (value : Option (List ℕ)) → (needed sender 112 value >>= name_of sender 112 >>= (λ id. Ok (TestRequest id)))
    ≡ unless_refused sender (option_or (if_missing (fault 8 1 112) value) (option_or (if_fails is_name (fault 9 6 112) value) None)) (TestRequest (unwrap_or value []))
test_agrees sender None = refl
test_agrees sender (Some text) = name_by sender text (is_name text)

range_by : (sender : Sender) (from to : ℕ) (a b : Bool) → cond (not a) (Err (refusal_of false sender (fault 10 5 7))) (cond (not b) (Err (refusal_of false sender (fault 10 5 16))) (Ok (ResendRequest from to)))
    ≡ unless_refused sender (option_or (cond (not a) (Some (fault 10 5 7)) None) (option_or (cond (not b) (Some (fault 10 5 16)) None) None)) (ResendRequest from to)
range_by sender from to true true = refl
range_by sender from to true false = refl
range_by sender from to false b = refl

resend_by : (sender : Sender) (m n : ℕ) (a b : Bool)
    → (ok_or (cond a (Some m) None) (refusal_of false sender (fault 9 6 7)) >>= (λ from. ok_or (cond b (Some n) None) (refusal_of false sender (fault 9 6 16)) >>= range_of sender from))
    ≡ (let from = unwrap_or (cond a (Some m) None) 0 in let to = unwrap_or (cond b (Some n) None) 0 in
    unless_refused sender (option_or (cond a None (Some (fault 9 6 7))) (option_or (cond b None (Some (fault 9 6 16))) (option_or (cond (not (nat_le 1 from)) (Some (fault 10 5 7)) None) (option_or (cond (not (to == 0 || nat_le from to)) (Some (fault 10 5 16)) None) None)))) (ResendRequest from to))
resend_by sender m n true true = range_by sender m n (nat_le 1 m) (n == 0 || nat_le m n)
resend_by sender m n true false = refl
resend_by sender m n false b = refl

resend_agrees : (sender : Sender) (v w : Option (List ℕ))
    → (needed sender 7 v >>= (λ from_text. needed sender 16 w >>= (λ to_text. lots_of sender 7 from_text >>= (λ from. lots_of sender 16 to_text >>= range_of sender from))))
    ≡ unless_refused sender (option_or (if_missing (fault 8 1 7) v) (option_or (if_missing (fault 8 1 16) w) (option_or (if_fails is_quantity_text (fault 9 6 7) v) (option_or (if_fails is_quantity_text (fault 9 6 16) w) (option_or (cond (not (nat_le 1 (number_in v))) (Some (fault 10 5 7)) None) (option_or (cond (not (number_in w == 0 || nat_le (number_in v) (number_in w))) (Some (fault 10 5 16)) None) None)))))) (ResendRequest (number_in v) (number_in w))
resend_agrees sender None w = refl
resend_agrees sender (Some from) None = refl
resend_agrees sender (Some from) (Some to) =
    resend_by sender (digits_value 10 (before_first is_point from)) (digits_value 10 (before_first is_point to)) (is_quantity_text from) (is_quantity_text to)

-- ---- all rows

agree_by : (sender : Sender) (next : ℕ) (fields : List Field) (asked : Option SessionType) → content_of sender next fields asked ≡ unless_refused sender (first_fault (content_faults next fields (option_map row_by asked))) (said_by fields (option_map row_by asked))
agree_by sender next fields None = refl
agree_by sender next fields (Some type.Heartbeat) = refl
agree_by sender next fields (Some type.TestRequest) = test_agrees sender (value_of 112 fields)
agree_by sender next fields (Some type.ResendRequest) = resend_agrees sender (value_of 7 fields) (value_of 16 fields)
agree_by sender next fields (Some type.Reject) = refl
agree_by sender next fields (Some type.SequenceReset) = reset_agrees sender next (value_of 36 fields)
agree_by sender next fields (Some type.Logout) = refl
agree_by sender next fields (Some type.Logon) = logon_agrees sender (value_of 108 fields)

pub agrees : (sender : Sender) (next : ℕ) (fields : List Field) → content_of sender next fields (option_and_then message_type_of (value_of 35 fields)) ≡ unless_refused sender (content_fault next fields) (said_in fields)
agrees sender next fields =
    agree_by sender next fields (option_and_then message_type_of (value_of 35 fields))
    ∙ ap (λ row. unless_refused sender (first_fault (content_faults next fields row)) (said_by fields row)) (sym (row_is (value_of 35 fields)))
