-- Fields and values as the code holds them: slices, which contracts see as their bytes.
use Rattle.std.specs.Prelude.{ℕ, Bool, ◌==◌, if◌then◌else◌, List, [], length, map, get_or, Option, Some, None}
use Rattle.std.specs.Borrow.{Bor}
use Rattle.std.specs.List.{before_first, after_first, list_any}
use Rattle.fix_request.specs.Fields.{is_equals_sign, Field}
use Rattle.fix_request.specs.Inner.Values.{Values}
use Rattle.fix_request.specs.Inner.Orders.{has_price, has_trigger, OrderTexts}
use Rattle.fix_request.specs.declared.fields.Field.{Field as FieldSlices}
use Rattle.fix_request.specs.declared.values.Values.{Values as ValueSlices}

abbrev pub field_view : FieldSlices → Field
field_view f = record { tag = f.tag; value = f.value.now }

-- what stands before the first `=` of a text and after it, where it has one
abbrev pub split_at_equals_sign : List ℕ → Option (List ℕ × List ℕ)
split_at_equals_sign text =
    if list_any is_equals_sign text then Some (before_first is_equals_sign text, after_first is_equals_sign text) else None

-- a text, where it is not empty: an empty one stands where there is none
abbrev pub if_not_empty : List ℕ → Option (List ℕ)
if_not_empty text = if length text == 0 then None else Some text

-- the texts at their places
abbrev pub texts_of_places : List (Bor (List ℕ)) → List (List ℕ)
texts_of_places places = map (λ (p : Bor (List ℕ)). p.now) places

abbrev pub text_in : ValueSlices → ℕ → List ℕ
text_in v place = get_or (texts_of_places v.texts) place []

abbrev pub values_view : ValueSlices → Values
values_view v =
    record {
      type = if_not_empty (text_in v 1);
      sender = if_not_empty (text_in v 2);
      target = if_not_empty (text_in v 3);
      sequence = if_not_empty (text_in v 4);
      time = if_not_empty (text_in v 5);
      id = if_not_empty (text_in v 6);
      old = if_not_empty (text_in v 7);
      symbol = if_not_empty (text_in v 8);
      description = if_not_empty (text_in v 9);
      side = if_not_empty (text_in v 10);
      quantity = if_not_empty (text_in v 11);
      kind = if_not_empty (text_in v 12);
      price = if_not_empty (text_in v 13);
      trigger = if_not_empty (text_in v 14);
      life = if_not_empty (text_in v 15);
      min = if_not_empty (text_in v 16);
      show = if_not_empty (text_in v 17);
      status = if_not_empty (text_in v 18);
    }

-- a text, where it is read
abbrev pub if_read : Bool → List ℕ → Option (List ℕ)
if_read is_read text = if is_read then Some text else None

-- the text of the symbol, which is empty where there is none
abbrev pub symbol_view : ValueSlices → List ℕ
symbol_view v = if length (text_in v 9) == 0 then text_in v 8 else text_in v 9

-- the texts of an order, where all that it needs are there
abbrev pub order_view : ValueSlices → OrderTexts
order_view v =
    record {
      symbol = symbol_view v;
      side = text_in v 10;
      quantity = text_in v 11;
      kind = text_in v 12;
      price = if_read (has_price (text_in v 12)) (text_in v 13);
      trigger = if_read (has_trigger (text_in v 12)) (text_in v 14);
    }
