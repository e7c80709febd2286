-- Prices of few bytes.
use Rattle.std.specs.Prelude.{◌≡◌, ℕ, ◌≤◌, true, false, List, ◌++◌, length, take, replicate}
use Rattle.std.specs.List.{before_first, after_first}
use Rattle.std.specs.Str.Parse.{digits_value}
use Rattle.gx_base.specs.Numbers.{are_digits, is_point, has_minus}

-- a text is a price of so many units, which begins with a digit, and has no more decimals than these
pub record HasUnits (text : List ℕ) (decimals units : ℕ) : Type 0 where
  pub unsigned : has_minus text ≡ false
  pub short : length text ≤ 11
  pub some : 1 ≤ length (before_first is_point text)
  pub whole : are_digits (before_first is_point text) ≡ true
  pub fraction : are_digits (after_first is_point text) ≡ true
  pub few : length (after_first is_point text) ≤ decimals
  pub is : units ≡ digits_value 10 (before_first is_point text ++ take decimals (after_first is_point text ++ replicate decimals 48))
