-- The product of a text whose document was read, and texts that are refused before memory is taken.
use Rattle.std.proofs.Common.{◌≡◌, ◌≤◌, ℕ, Bool, true, false, if◌then◌else◌, List, length, Option, Some, None, option_map, Ok, Err, IsUtf8, refl, sym, subst}
use Rattle.std.specs.Str.{is_utf8}
use Rattle.std.proofs.lemmas.Bool.{le-ltb}
use Rattle.std.proofs.lemmas.Str.{IsUtf8-from_is_utf8}
use Rattle.toml.specs.Data.{Data, Members, no_members, table}
use Rattle.toml.specs.Parse.{parse_document, lines}
use Rattle.toml.specs.Errors.{IsBlank}
use Rattle.product_file.specs.declared.limits.TheConstants.{LONGEST_TEXT}
use Rattle.product_file.specs.declared.faults.ProductFault.TheVariants.{Missing}
use Rattle.product_file.specs.declared.faults.Key.TheVariants.{Exchange}
use Rattle.product_file.specs.ProductTexts.{product_of, document_of, TakesMemory}
use Rattle.product_file.specs.Inner.Keys.{needed_name}
use Rattle.product_file.specs.Inner.Documents.{product_of_document}
use Rattle.product_file.proofs.RowProduct.{by_rows}

pub read_document : (text : List ℕ) (document : Data) → length text ≤ LONGEST_TEXT → document_of text ≡ Some document → product_of text ≡ product_of_document document
unfolding product_of
read_document text document few found = rw (le-ltb LONGEST_TEXT (length text) few, found) (sym (by_rows document))

utf8_of : (text : List ℕ) (members : Option Members) (document : Data) (test : Bool) → is_utf8 text ≡ test → (if test then option_map table members else None) ≡ Some document → IsUtf8 text
utf8_of text members document true e found = IsUtf8-from_is_utf8 text e
utf8_of text members document false e found = cc

pub is_utf8_read : (text : List ℕ) (document : Data) → document_of text ≡ Some document → IsUtf8 text
unfolding document_of
is_utf8_read text document found = utf8_of text (parse_document text) document (is_utf8 text) refl found

-- ---- a text of white space and comments alone

no_lines : (text : List ℕ) → IsBlank text → parse_document text ≡ Some no_members
unfolding parse_document lines
no_lines text blank = rw blank refl

from_table : (test : Bool) (document : Data) → (if test then option_map table (Some no_members) else None) ≡ Some document → table no_members ≡ document
from_table true document e = cc
from_table false document e = cc

pub no_keys : (text : List ℕ) (document : Data) → IsBlank text → document_of text ≡ Some document → needed_name Exchange document ≡ Err (Missing Exchange)
unfolding document_of
no_keys text document blank found =
    let read : (if is_utf8 text then option_map table (Some no_members) else None) ≡ Some document = rw (no_lines text blank) at found in
    subst (λ (d : Data). needed_name Exchange d ≡ Err (Missing Exchange)) (from_table (is_utf8 text) document read) refl

-- where the first key was read, the text has lines
pub takes_memory : (text : List ℕ) (document : Data) (exchange : List ℕ) → length text ≤ LONGEST_TEXT → document_of text ≡ Some document → Ok exchange ≡ needed_name Exchange document → TakesMemory text
takes_memory text document exchange few found named = record {
  few = few;
  is_utf8 = is_utf8_read text document found;
  some = λ blank. let none = no_keys text document blank found in cc;
}
