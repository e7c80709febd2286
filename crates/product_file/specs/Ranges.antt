-- The ranges of values (our own limits), each over a value of its kind.
use Rattle.std.specs.Prelude.{ℕ, ℤ, pos, int_le, Bool, true, not, ◌&&◌, nat_le, List, length, codes, bytes_eq}
use Rattle.std.specs.List.{list_all}
use Rattle.gx_base.specs.Texts.{is_name}
use Rattle.toml.specs.Data.{Data}
use Rattle.gx_base.specs.declared.limits.TheConstants.{MOST_FIRMS}
use Rattle.product_file.specs.Values.{text_in, integer_in, entries_in, texts_in}

-- any value of its kind
abbrev pub any : Data → Bool
any value = true

-- from the one number to the other, both included
abbrev pub is_in_range : ℕ → ℕ → ℤ → Bool
is_in_range low high z = int_le (pos low) z && int_le z (pos high)

-- an integer from the one number to the other
abbrev pub from : ℕ → ℕ → Data → Bool
from low high value = is_in_range low high (integer_in value)

-- a text that is a name: 1 to 24 bytes, each from 32 to 126
abbrev pub a_name : Data → Bool
a_name value = is_name (text_in value)

-- an array with so many entries
abbrev pub has_entries : ℕ → ℕ → Data → Bool
has_entries low high value = nat_le low (length (entries_in value)) && nat_le (length (entries_in value)) high

-- an array with at most so many entries
abbrev pub at_most : ℕ → Data → Bool
at_most high value = nat_le (length (entries_in value)) high

-- a name that a firm may have: any but the one that reports give to whom they do not know
abbrev pub is_firm_name : List ℕ → Bool
is_firm_name text = is_name text && not (bytes_eq text (codes "UNKNOWN"))

-- an array of 1 to MOST_FIRMS names that firms may have
abbrev pub firm_names : Data → Bool
firm_names value = has_entries 1 MOST_FIRMS value && list_all is_firm_name (texts_in value)
