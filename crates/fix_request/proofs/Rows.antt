-- The row of a message, by whether it changes the trading session.
use Rattle.std.proofs.Common.{◌≡◌, ℕ, Bool, true, false, cond, ◌||◌, List, Option, Some, None, bytes_eq, refl, ap}
use Rattle.std.specs.Prelude.{option_and_then, codes}
use Rattle.std.specs.Option.{option_map_or}
use Rattle.std.proofs.lemmas.Slice.Eq.{bytes_eq-Decides}
use Rattle.fix_request.specs.Fields.{Field, value_of}
use Rattle.fix_request.specs.MessageTable.{Row, session_row, new_row, cancel_row, replace_row, trading_row, firm_table, message_table, is_one_of, row_of_type, row_of}
use Rattle.fix_request.specs.SessionRules.{is_change}

abbrev is_change_type : Option (List ℕ) → Bool
is_change_type type = option_map_or (λ t. bytes_eq t (codes "h")) type false

by_change : (type : Option (List ℕ)) → is_change_type type ≡ true → option_and_then (row_of_type message_table) type ≡ Some trading_row
by_change None is = cc
by_change (Some text) is =
    let it : text ≡ codes "h" = (bytes_eq-Decides text (codes "h")).0 is in
    ap (row_of_type message_table) it

-- a message that changes the session has the row of such messages
pub row_of_change : (fields : List Field) → is_change fields ≡ true → row_of message_table fields ≡ Some trading_row
row_of_change fields is = by_change (value_of 35 fields) is

by_other : (type : Option (List ℕ)) → is_change_type type ≡ false → option_and_then (row_of_type message_table) type ≡ option_and_then (row_of_type firm_table) type
by_other None is = refl
by_other (Some text) is =
    let found : Bool → Option Row = λ h.
    cond (is_one_of session_row.types text) (Some session_row)
    (cond (is_one_of new_row.types text) (Some new_row)
    (cond (is_one_of cancel_row.types text) (Some cancel_row)
    (cond (is_one_of replace_row.types text) (Some replace_row) (cond (h || false) (Some trading_row) None)))) in
    ap found is

-- any other message has its row of the firms' table
pub row_of_other : (fields : List Field) → is_change fields ≡ false → row_of message_table fields ≡ row_of firm_table fields
row_of_other fields is = by_other (value_of 35 fields) is
