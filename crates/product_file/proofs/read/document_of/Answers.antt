use Rattle.std.proofs.Common.{◌≡◌, ℕ, Bool, true, false, List, IsUtf8, refl}
use Rattle.std.specs.Str.{is_utf8}
use Rattle.std.proofs.lemmas.Str.{IsUtf8-from_is_utf8, is_utf8-from_IsUtf8}
use Rattle.product_file.specs.ProductTexts.{document_of}
use Rattle.product_file.proofs.read.document_of.Goals as goal

no_utf8 : (bytes : List ℕ) (b : Bool) → is_utf8 bytes ≡ b → (IsUtf8 bytes → ⊥) → is_utf8 bytes ≡ false
no_utf8 bytes true e h = absurd (h (IsUtf8-from_is_utf8 bytes e))
no_utf8 bytes false e h = e

pub returns-in-Ok-clause-read : goal.returns-in-Ok-clause-read
unfolding document_of
returns-in-Ok-clause-read c = rw (is_utf8-from_IsUtf8 c.args.text.now c.in-Ok.ensures.cases.1) (rw c.in-Ok.ensures.cases.0 at c.parsed.ensures.read)

pub returns-in-Err-clause-refused : goal.returns-in-Err-clause-refused
unfolding document_of
returns-in-Err-clause-refused c = λ _. (refl, rw (no_utf8 c.args.text.now (is_utf8 c.args.text.now) refl c.in-Err.ensures.cases.0) refl)
