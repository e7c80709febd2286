-- Texts of a fixed form: names and times.
use Rattle.std.specs.Prelude.{ℕ, Bool, ◌&&◌, ◌||◌, ◌==◌, nat_le, List, length, take, drop, slice_index, bytes_eq, codes}
use Rattle.std.specs.List.{list_all}
use Rattle.std.specs.Str.Parse.{digits_value}
use Rattle.gx_base.specs.Numbers.{are_digits}
use Rattle.gx_base.specs.declared.limits.TheConstants.{LONGEST_NAME}

-- ---- names: 1 to `LONGEST_NAME` bytes, each of them 32 to 126 (our own rule)

abbrev pub is_name_byte : ℕ → Bool
is_name_byte c = nat_le 32 c && nat_le c 126

abbrev pub is_name : List ℕ → Bool
is_name text = nat_le 1 (length text) && nat_le (length text) LONGEST_NAME && list_all is_name_byte text

-- ---- times: the UTC timestamp of FIX 4.2, without or with milliseconds

-- `width` bytes from `start` on
abbrev pub part_of : List ℕ → ℕ → ℕ → List ℕ
part_of text start width = take width (drop start text)

abbrev pub has_byte : List ℕ → ℕ → ℕ → Bool
has_byte text at c = slice_index text at == c

abbrev pub has_digits : List ℕ → ℕ → ℕ → Bool
has_digits text start width = are_digits (part_of text start width)

-- two digits of a value from `low` to `high`
abbrev pub has_two_digits : List ℕ → ℕ → ℕ → ℕ → Bool
has_two_digits text start low high =
    let value = digits_value 10 (part_of text start 2) in
    has_digits text start 2 && nat_le low value && nat_le value high

-- `YYYYMMDD-HH:MM:SS`
abbrev pub is_time_of_seconds : List ℕ → Bool
is_time_of_seconds text =
    has_digits text 0 4
    && has_two_digits text 4 1 12
    && has_two_digits text 6 1 31
    && has_byte text 8 45
    && has_two_digits text 9 0 23
    && has_byte text 11 58
    && has_two_digits text 12 0 59
    && has_byte text 14 58
    && has_two_digits text 15 0 60

-- the same, or the same and `.` and three digits
abbrev pub is_time_text : List ℕ → Bool
is_time_text text =
    (length text == 17 || (length text == 21 && has_byte text 17 46 && has_digits text 18 3))
    && is_time_of_seconds text

-- a time, or the text that stands where there is none
abbrev pub is_stamp : List ℕ → Bool
is_stamp text = is_time_text text || bytes_eq text (codes "00000000-00:00:00")
