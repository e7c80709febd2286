-- Numbers in text: quantities and prices, as messages write them and as reports do.
use Rattle.std.specs.Prelude.{ℕ, zero, suc, ◌+◌, ◌/◌, ◌%◌, ◌^◌, Bool, false, not, ◌&&◌, ◌==◌, nat_lt, nat_le, if◌then◌else◌, List, [], ◌∷◌, ◌++◌, length, take, drop, replicate, ℤ, pos, neg_ℤ, unsigned_abs, Option, Some, None, Result, Ok, Err, codes, decimal}
use Rattle.std.specs.Char.{is_ascii_digit}
use Rattle.std.specs.Int.{is_negative}
use Rattle.std.specs.List.{before_first, after_first, list_all}
use Rattle.std.specs.Str.Parse.{digits_value}
use Rattle.gx_base.specs.declared.digits.TheConstants.{MOST_DIGITS}
use Rattle.gx_base.specs.declared.limits.TheConstants.{MOST_PRICE_UNITS}
use Rattle.gx_base.specs.declared.price.TheConstants.{LONGEST_PRICE}
use Rattle.gx_base.specs.declared.price.Price.{Price}
use Rattle.gx_base.specs.declared.price.PriceFault.{PriceFault}
use Rattle.gx_base.specs.declared.price.PriceFault.TheVariants.{Format, Scale, Range}

abbrev pub are_digits : List ℕ → Bool
are_digits text = list_all is_ascii_digit text

abbrev pub are_zeros : List ℕ → Bool
are_zeros text = list_all (λ c. c == 48) text

abbrev pub is_point : ℕ → Bool
is_point c = c == 46

-- the last `width` digits of n
abbrev pub fixed_digits : ℕ → ℕ → List ℕ
fixed_digits zero n = []
fixed_digits (suc width) n = fixed_digits width (n / 10) ++ (48 + n % 10) ∷ []

-- ---- quantities: one to nine digits, and where there is a point, only zeros after it (our own rule)

abbrev pub is_quantity_text : List ℕ → Bool
is_quantity_text text =
    let digits = before_first is_point text in
    nat_le 1 (length digits) && nat_le (length digits) MOST_DIGITS && are_digits digits && are_zeros (after_first is_point text)

-- the number of a quantity text
abbrev pub quantity_of : List ℕ → Option ℕ
quantity_of text = if is_quantity_text text then Some (digits_value 10 (before_first is_point text)) else None

-- ---- prices: an optional minus sign, digits, and optionally a point and digits, with at least one digit in all and at
-- most `LONGEST_PRICE` bytes (our own rule, within the float format of FIX 4.2)

abbrev pub has_minus : List ℕ → Bool
has_minus [] = false
has_minus (c ∷ text) = c == 45

abbrev pub unsigned_text : List ℕ → List ℕ
unsigned_text text = if has_minus text then drop 1 text else text

-- the digits before the point, and those after it
abbrev pub whole_digits : List ℕ → List ℕ
whole_digits text = before_first is_point (unsigned_text text)

abbrev pub fraction_digits : List ℕ → List ℕ
fraction_digits text = after_first is_point (unsigned_text text)

abbrev pub is_price_text : List ℕ → Bool
is_price_text text =
    nat_le (length text) LONGEST_PRICE
    && nat_le 1 (length (whole_digits text) + length (fraction_digits text))
    && are_digits (whole_digits text)
    && are_digits (fraction_digits text)

-- the number whose digits are those before the point and `decimals` digits after it, filled up with zeros
abbrev pub units_of : List ℕ → ℕ → ℕ
units_of text decimals = digits_value 10 (whole_digits text ++ take decimals (fraction_digits text ++ replicate decimals 48))

abbrev pub signed_units : Bool → ℕ → ℤ
signed_units negative n = if negative then neg_ℤ (pos n) else pos n

-- the greatest price in units, either way
abbrev pub price_limit : ℕ
price_limit = MOST_PRICE_UNITS

-- the price of a text in units of 10 ^ -decimals, or the first of the three faults
abbrev pub price_of : List ℕ → ℕ → Result Price PriceFault
price_of text decimals =
    if not (is_price_text text) then Err Format
    else if not (are_zeros (drop decimals (fraction_digits text))) then Err Scale
    else if nat_lt price_limit (units_of text decimals) then Err Range
    else Ok (record { 0 = signed_units (has_minus text) (units_of text decimals) })

-- the digits after the point, with the point
abbrev pub fraction_text : ℕ → ℕ → List ℕ
fraction_text zero n = []
fraction_text (suc k) n = codes "." ++ fixed_digits (suc k) n

-- how a report writes a price: exactly `decimals` digits after the point, at least one before it
abbrev pub price_text : Price → ℕ → List ℕ
price_text price decimals =
    let n = unsigned_abs price.0 in
    (if is_negative price.0 then codes "-" else []) ++ decimal (n / 10 ^ decimals) ++ fraction_text decimals n
