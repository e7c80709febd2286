-- The steps at a message that changes the trading session give its request by the row of such messages.
use Rattle.std.proofs.Common.{◌≡◌, ℕ, Bool, true, false, cond, ◌||◌, List, [], ◌∷◌, ◌++◌, Option, Some, None, refl, sym}
use Rattle.std.specs.Prelude.{◌==◌, unwrap_or, option_map}
use Rattle.std.specs.Str.Parse.{digits_value}
use Rattle.gx_base.specs.Texts.{is_time_text}
use Rattle.gx_base.specs.NameLists.{NameLists}
use Rattle.gx_base.specs.FirstFault.{unless_fault}
use Rattle.gx_base.specs.declared.trading.Trading.{Trading}
use Rattle.gx_base.specs.declared.trading.Trading.TheVariants.{Open, Closed}
use Rattle.fix_request.specs.Fields.{is_number, Field, value_of}
use Rattle.fix_request.specs.Faults.{fault, if_missing, if_fails}
use Rattle.fix_request.specs.MessageTable.{sessions, numbers_in, writes_one_of, trading_row}
use Rattle.fix_request.specs.SessionRules.{may_send, is_exchange, is_sequence_number, header_faults, content_faults}
use Rattle.fix_request.specs.Asked.{text_of, session_in, sender_of}
use Rattle.fix_request.specs.Requests.{no_time}
use Rattle.fix_request.specs.Inner.Values.{values_of}
use Rattle.fix_request.specs.Inner.Rules.{needed, formed, listed}
use Rattle.fix_request.specs.Inner.Requests.{exchange_of, target_of, sequence_of, time_of, session_of, status_of, change_of, or_refused}
use Rattle.fix_request.specs.declared.fault.Fault.{Fault}
use Rattle.fix_request.proofs.Giving.{Gives, step, last}
use Rattle.fix_request.proofs.AgreeHeaders.{by_test, exchange_gives, target_gives, sequence_gives, time_gives}
use Rattle.fix_request.proofs.AgreeOrders.{needed_gives}
use Rattle.fix_request.proofs.Answering.{IsAnswer, IsKnown, part, late_refusal, two_are, content_are}

-- ---- rules 8 to 10

number_gives : (f : Fault) (value : Option (List ℕ)) → if_missing f value ≡ None → formed 340 (cond (is_number (unwrap_or value [])) (Some (digits_value 10 (unwrap_or value []))) None) ≡ unless_fault (if_fails is_number (fault 9 6 340) value) (digits_value 10 (unwrap_or value []))
number_gives f None e = cc
number_gives f (Some text) e = by_test (is_number text) (fault 9 6 340) (digits_value 10 text)

by_session : (two three : Bool) → listed 340 (cond two (Some Open) (cond three (Some Closed) None)) ≡ unless_fault (cond (two || (three || false)) None (Some (fault 10 5 340))) (unwrap_or (option_map (λ (entry : ℕ × Trading). entry.1) (cond two (Some (2, Open)) (cond three (Some (3, Closed)) None))) Open)
by_session true three = refl
by_session false true = refl
by_session false false = refl

session_gives : (f : Fault) (fields : List Field) (value : Option (List ℕ)) → value ≡ value_of 340 fields → if_missing f value ≡ None → listed 340 (session_of (digits_value 10 (text_of 340 fields))) ≡ unless_fault (if_fails (writes_one_of (numbers_in sessions)) (fault 10 5 340) (value_of 340 fields)) (session_in fields)
session_gives f fields None is e = cc
session_gives f fields (Some text) is e =
    let number = digits_value 10 text in
    rw (sym is) (by_session (number == 2) (number == 3))

status_gives : (names : NameLists) (fields : List Field) → Gives (status_of (values_of fields)) (content_faults names fields (Some trading_row)) (session_in fields)
unfolding status_of values_of
status_gives names fields =
    let value = value_of 340 fields in
    let text = text_of 340 fields in
    step (needed 340 value) text _ (needed_gives 340 value) (λ there.
    step (formed 340 (cond (is_number text) (Some (digits_value 10 text)) None)) (digits_value 10 text) _ (number_gives (fault 8 1 340) value there) (λ _.
    last (listed 340 (session_of (digits_value 10 text))) (session_gives (fault 8 1 340) fields value refl there)))

-- ---- rules 4 to 10

sender_gives : (names : NameLists) (fields : List Field) → Gives (exchange_of names 4 49 (values_of fields).sender) (if_missing (fault 4 1 49) (value_of 49 fields) ∷ if_fails (may_send true names) (fault 4 9 49) (value_of 49 fields) ∷ []) tt
unfolding values_of
sender_gives names fields = exchange_gives names 4 49 (value_of 49 fields)

pub change_answer : (names : NameLists) (fields : List Field) → IsAnswer true (Some trading_row) names fields (or_refused (change_of names (values_of fields))) (header_faults true names fields ++ content_faults names fields (Some trading_row))
unfolding change_of
change_answer names fields =
    let values = values_of fields in
    let sender = sender_of names fields in
    let P = IsKnown true names fields in
    part _ (exchange_of names 4 49 values.sender) tt _ None 0 no_time (sender_gives names fields) (two_are (P None 0 no_time) (fault 4 1 49) (fault 4 9 49) (may_send true names) (value_of 49 fields) refl refl) (
    part _ (target_of names values) tt _ None 0 no_time (target_gives names fields) (two_are (P None 0 no_time) (fault 5 1 56) (fault 5 9 56) (is_exchange names) (value_of 56 fields) refl refl) (
    part _ (sequence_of values) sender.seq _ None 0 no_time (sequence_gives names fields) (two_are (P None 0 no_time) (fault 6 1 34) (fault 6 6 34) is_sequence_number (value_of 34 fields) refl refl) (
    part _ (time_of values) sender.time _ None sender.seq no_time (time_gives names fields) (two_are (P None sender.seq no_time) (fault 6 1 52) (fault 6 6 52) is_time_text (value_of 52 fields) refl refl) (
    part _ (status_of values) (session_in fields) _ None sender.seq sender.time (status_gives names fields) (content_are names fields (P None sender.seq sender.time) (late_refusal true sender) (Some trading_row)) (
    record { is = refl })))))
