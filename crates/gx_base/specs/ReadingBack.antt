-- What is printed is read back: prices as reports write them, and numbers.
use Rattle.std.specs.Prelude.{◌≡◌, ℕ, ◌^◌, ◌<◌, ◌≤◌, true, unsigned_abs, decimal, Ok}
use Rattle.std.specs.Str.Parse.{digits_value}
use Rattle.gx_base.specs.declared.limits.TheConstants.{MOST_PRICE_UNITS, MOST_DECIMALS}
use Rattle.gx_base.specs.declared.price.Price.{Price}
use Rattle.gx_base.specs.Numbers.{are_digits, price_of, price_text}

-- the text of a price that is in range is read as that price
abbrev pub ReadsPriceBack : Price → ℕ → Type 0
ReadsPriceBack price decimals =
    unsigned_abs price.0 ≤ MOST_PRICE_UNITS → decimals ≤ MOST_DECIMALS → price_of (price_text price decimals) decimals ≡ Ok price

-- the text of a number has digits alone, and their value is the number
abbrev pub ReadsNumberBack : ℕ → Type 0
ReadsNumberBack n = n < 2 ^ 64 → (are_digits (decimal n) ≡ true) × (digits_value 10 (decimal n) ≡ n)
