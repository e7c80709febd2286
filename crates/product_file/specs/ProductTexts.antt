-- The product of a text (our own format).
use Rattle.std.specs.Prelude.{ℕ, ◌≤◌, nat_lt, if◌then◌else◌, List, length, option_map, Option, Some, None, Result, Err, IsUtf8}
use Rattle.std.specs.Str.{is_utf8}
use Rattle.toml.specs.Data.{Data, table}
use Rattle.toml.specs.Parse.{parse_document}
use Rattle.toml.specs.Errors.{IsBlank}
use Rattle.product_file.specs.declared.limits.TheConstants.{LONGEST_TEXT}
use Rattle.product_file.specs.declared.faults.ProductFault.{ProductFault}
use Rattle.product_file.specs.declared.faults.ProductFault.TheVariants.{TooLong, Text}
use Rattle.gx_base.specs.FirstFault.{unless_fault}
use Rattle.product_file.specs.ProductRows.{document_fault}
use Rattle.product_file.specs.ProductValues.{product_in}
use Rattle.product_file.specs.Products.{ProductLists}

-- the TOML document of a text, which is UTF-8
unfoldable pub document_of : List ℕ → Option Data
document_of text = if is_utf8 text then option_map table (parse_document text) else None

-- the product of a document, or its first fault
abbrev pub product_of_data : Option Data → Result ProductLists ProductFault
product_of_data None = Err Text
product_of_data (Some document) = unless_fault (document_fault document) (product_in document)

-- the product of a text of at most LONGEST_TEXT bytes
unfoldable pub product_of : List ℕ → Result ProductLists ProductFault
product_of text =
    if nat_lt LONGEST_TEXT (length text) then Err TooLong
    else product_of_data (document_of text)

-- memory may be wanted for this text: one that is longer, that is not UTF-8, or that is white space and comments alone is
-- refused without any
pub record TakesMemory (text : List ℕ) : Type 0 where
  pub few : length text ≤ LONGEST_TEXT
  pub is_utf8 : IsUtf8 text
  pub some : ¬ IsBlank text
