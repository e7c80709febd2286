-- The places of values: one for each tag that rules name.
use Rattle.std.specs.Prelude.{◌≡◌, ◌<◌, ◌≤◌, ℕ, true, IfSome, drop, length, nat_lt, not, ◌&&◌, ◌==◌, ◌+◌, ◌-◌, ◌*◌, if◌then◌else◌, List, [], ◌∷◌, get_or, slice_set, Option, Some, None}
use Rattle.std.specs.Char.{is_ascii_digit}
use Rattle.std.specs.List.{position_or_len}
use Rattle.fix_request.specs.Fields.{has_tag, field_of}
use Rattle.fix_request.specs.Inner.Values.{Values}
use Rattle.fix_request.specs.Inner.Views.{if_not_empty}
use Rattle.fix_request.specs.declared.slots.TheConstants.{PLACES}

-- the tags that rules name, in the order of their places, of which the first is 1
abbrev pub named_tags : List ℕ
named_tags = 35 ∷ 49 ∷ 56 ∷ 34 ∷ 52 ∷ 11 ∷ 41 ∷ 55 ∷ 107 ∷ 54 ∷ 38 ∷ 40 ∷ 44 ∷ 99 ∷ 59 ∷ 110 ∷ 210 ∷ 340 ∷ []

-- a place, if it is that of one of them, else 0
abbrev pub place_or_zero : ℕ → ℕ
place_or_zero index = if nat_lt index (length named_tags) then index + 1 else 0

-- the place of a tag: 0 for all that no rule names
unfoldable pub slot_of : ℕ → ℕ
slot_of tag = place_or_zero (position_or_len (λ named. named == tag) named_tags)

-- the place of a tag of these two bytes, where they are two digits, the first not 0
abbrev pub slot_of_digits : ℕ → ℕ → Option ℕ
slot_of_digits first second =
    if is_ascii_digit first && not (first == 48) && is_ascii_digit second then Some (slot_of (first * 10 + second - 528)) else None

-- the texts once one more is noted: the first at a place counts
abbrev pub noted_at : ℕ → List ℕ → List (List ℕ) → List (List ℕ)
noted_at slot value texts = if length (get_or texts slot []) == 0 then slice_set texts slot value else texts

-- the value of a tag
abbrev pub text_at : List (List ℕ) → ℕ → Option (List ℕ)
text_at texts tag = if_not_empty (get_or texts (slot_of tag) [])

-- the values that they are
unfoldable pub places_view : List (List ℕ) → Values
places_view texts =
    record {
      type = text_at texts 35;
      sender = text_at texts 49;
      target = text_at texts 56;
      sequence = text_at texts 34;
      time = text_at texts 52;
      id = text_at texts 11;
      old = text_at texts 41;
      symbol = text_at texts 55;
      description = text_at texts 107;
      side = text_at texts 54;
      quantity = text_at texts 38;
      kind = text_at texts 40;
      price = text_at texts 44;
      trigger = text_at texts 99;
      life = text_at texts 59;
      min = text_at texts 110;
      show = text_at texts 210;
      status = text_at texts 340;
    }

-- a text has a tag with this place, where it is given one, and a value after three bytes
abbrev pub IsPlainAt : List ℕ → Option ℕ → Type 0
IsPlainAt text given =
    IfSome given (λ slot. (slot < PLACES) × (4 ≤ length text) × (has_tag text ≡ true) × (slot ≡ slot_of (field_of text).tag) × ((field_of text).value ≡ drop 3 text))
