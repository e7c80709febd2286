-- The rules of a product file, by number.
use Rattle.std.specs.Prelude.{ℕ}
use Rattle.product_file.specs.declared.faults.ProductFault.{ProductFault}
use Rattle.product_file.specs.declared.faults.ProductFault.TheVariants.{TooLong, Text, Missing, Kind, Range, Twice, UnknownFirm, UnknownLetter, Steps, NoMemory}

-- the number of the rule that a fault is of, and 0 for want of memory, which is of none
abbrev pub rule_number : ProductFault → ℕ
rule_number TooLong = 1
rule_number Text = 2
rule_number (Missing key) = 3
rule_number (Kind key) = 4
rule_number (Range key) = 5
rule_number (Twice name) = 6
rule_number (UnknownFirm key) = 7
rule_number UnknownLetter = 8
rule_number (Steps fault) = 9
rule_number NoMemory = 0
