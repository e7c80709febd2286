-- The steps at a message of a firm give its request by the rows of firms.
use Rattle.std.proofs.Common.{◌≡◌, ℕ, Bool, true, false, cond, ◌||◌, List, ◌++◌, Option, Some, None, bytes_eq, refl, sym, subst}
use Rattle.std.specs.Prelude.{option_and_then, codes}
use Rattle.gx_base.specs.Texts.{is_time_text}
use Rattle.gx_base.specs.NameLists.{NameLists}
use Rattle.fix_request.specs.Fields.{Field, value_of}
use Rattle.fix_request.specs.Faults.{fault}
use Rattle.fix_request.specs.MessageTable.{Row, session_row, new_row, cancel_row, replace_row, firm_table, row_of_type, row_of}
use Rattle.fix_request.specs.SessionRules.{is_firm, is_exchange, is_sequence_number, header_faults, content_faults}
use Rattle.fix_request.specs.Asked.{sender_of, asked_for}
use Rattle.fix_request.specs.Requests.{no_time}
use Rattle.fix_request.specs.Inner.Values.{values_of}
use Rattle.fix_request.specs.Inner.Requests.{firm_of, target_of, sequence_of, time_of, is_session_type, message_type_of, content_by, content_of, sender_in, content_or_refusal, or_refused, request_of_firm}
use Rattle.fix_request.specs.declared.message_type.MessageType.{MessageType}
use Rattle.fix_request.specs.declared.message_type.MessageType.TheVariants.{Session, New, Cancel, Replace, Trading}
use Rattle.fix_request.specs.declared.request.Request.TheVariants as request
use Rattle.fix_request.proofs.Giving.{Gives, mapped}
use Rattle.fix_request.proofs.AgreeHeaders.{firm_gives, target_gives, sequence_gives, time_gives}
use Rattle.fix_request.proofs.AgreeOrders.{new_gives, cancel_gives, replace_gives}
use Rattle.fix_request.proofs.Answering.{IsAnswer, IsKnown, inner_part, last_part, late_refusal, two_are, content_are}

-- ---- rules 7 to 10

-- the row of each type that a firm sends
abbrev row_by : MessageType → Option Row
row_by Session = Some session_row
row_by New = Some new_row
row_by Cancel = Some cancel_row
row_by Replace = Some replace_row
row_by Trading = None

or_false : (b : Bool) → b ≡ (b || false)
or_false true = refl
or_false false = refl

abbrev row_if : (s d f g : Bool) → Option Row
row_if s d f g = cond s (Some session_row) (cond d (Some new_row) (cond f (Some cancel_row) (cond g (Some replace_row) None)))

abbrev type_if : (s d f g h : Bool) → Option MessageType
type_if s d f g h = cond s (Some Session) (cond d (Some New) (cond f (Some Cancel) (cond g (Some Replace) (cond h (Some Trading) None))))

by_row : (s d f g h s' d' f' g' : Bool) → s ≡ s' → d ≡ d' → f ≡ f' → g ≡ g' → row_if s' d' f' g' ≡ option_and_then row_by (type_if s d f g h)
by_row s d f g h s' d' f' g' a b c e = sym (rw (a, b, c, e) (by_rows s' d' f' g' h))
  where
    by_rows : (s d f g h : Bool) → option_and_then row_by (type_if s d f g h) ≡ row_if s d f g
    by_rows true d f g h = refl
    by_rows false true f g h = refl
    by_rows false false true g h = refl
    by_rows false false false true h = refl
    by_rows false false false false true = refl
    by_rows false false false false false = refl

type_row : (text : List ℕ) → row_of_type firm_table text ≡ option_and_then row_by (message_type_of text)
type_row text =
    by_row (is_session_type text) (bytes_eq text (codes "D")) (bytes_eq text (codes "F")) (bytes_eq text (codes "G")) (bytes_eq text (codes "h")) _ _ _ _
    refl (or_false (bytes_eq text (codes "D"))) (or_false (bytes_eq text (codes "F"))) (or_false (bytes_eq text (codes "G")))

row_is : (type : Option (List ℕ)) → option_and_then (row_of_type firm_table) type ≡ option_and_then row_by (option_and_then message_type_of type)
row_is None = refl
row_is (Some text) = type_row text

by_type : (names : NameLists) (fields : List Field) (type : Option MessageType) → Gives (content_by names (sender_of names fields) (values_of fields) type) (content_faults names fields (option_and_then row_by type)) (asked_for names fields (option_and_then row_by type))
unfolding content_by
by_type names fields None = record { is = refl }
by_type names fields (Some Session) = record { is = refl }
by_type names fields (Some New) = mapped request.New _ (new_gives names fields)
by_type names fields (Some Cancel) = mapped request.Cancel _ (cancel_gives names fields)
by_type names fields (Some Replace) = mapped request.Replace _ (replace_gives names fields)
by_type names fields (Some Trading) = record { is = refl }

content_gives : (names : NameLists) (fields : List Field) → Gives (content_of names (sender_of names fields) (values_of fields)) (content_faults names fields (row_of firm_table fields)) (asked_for names fields (row_of firm_table fields))
unfolding content_of values_of
content_gives names fields =
    let r = content_of names (sender_of names fields) (values_of fields) in
    subst (λ (row : Option Row). Gives r (content_faults names fields row) (asked_for names fields row)) (sym (row_is (value_of 35 fields)))
    (by_type names fields (option_and_then message_type_of (value_of 35 fields)))

-- ---- rules 4 to 10

pub firm_answer : (names : NameLists) (fields : List Field) → IsAnswer false (row_of firm_table fields) names fields (or_refused (request_of_firm names (values_of fields))) (header_faults false names fields ++ content_faults names fields (row_of firm_table fields))
unfolding sender_in
firm_answer names fields =
    let values = values_of fields in
    let sender = sender_of names fields in
    let firm = Some sender.firm in
    let row = row_of firm_table fields in
    let P = IsKnown false names fields in
    let end = content_or_refusal names values in
    inner_part _ (firm_of names values) sender.firm _ end None 0 no_time (firm_gives names fields) (two_are (P None 0 no_time) (fault 4 1 49) (fault 4 9 49) (is_firm names) (value_of 49 fields) refl refl) (
    inner_part _ (target_of names values) tt _ end firm 0 no_time (target_gives names fields) (two_are (P firm 0 no_time) (fault 5 1 56) (fault 5 9 56) (is_exchange names) (value_of 56 fields) refl refl) (
    inner_part _ (sequence_of values) sender.seq _ end firm 0 no_time (sequence_gives names fields) (two_are (P firm 0 no_time) (fault 6 1 34) (fault 6 6 34) is_sequence_number (value_of 34 fields) refl refl) (
    inner_part _ (time_of values) sender.time _ end firm sender.seq no_time (time_gives names fields) (two_are (P firm sender.seq no_time) (fault 6 1 52) (fault 6 6 52) is_time_text (value_of 52 fields) refl refl) (
    last_part false row names fields (content_faults names fields row) (content_of names sender values) firm sender.seq sender.time (content_gives names fields) (content_are names fields (P firm sender.seq sender.time) (late_refusal false sender) row)))))
