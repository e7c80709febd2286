-- Fields in a row, and how they are read.
use Rattle.std.proofs.Common.{◌≡◌, ℕ, ◌+◌, ◌*◌, ◌≤◌, Bool, true, false, ◌||◌, List, [], ◌∷◌, ◌++◌, length, map, codes, refl, sym, ap, ◌∙◌, arith, append_assoc, length-append}
use Rattle.std.proofs.lemmas.Bool.{cond-false}
use Rattle.std.specs.List.{list_any, onto_first}
use Prim.Native.String.{String}
use Rattle.gx_base.specs.Frames.{field}
use Rattle.fix_request.specs.Fields.{is_soh, texts_of, Field, field_of, fields_of}
use Rattle.stream_laws.proofs.Values.{IsValue, any-append}

-- the field with this tag and this value
abbrev pub at : ℕ → List ℕ → Field
at tag value = record { tag = tag; value = value }

-- a tag of at most four digits, which is read as this number
pub record IsTag (tag : String) (n : ℕ) : Type 0 where
  pub few : length (codes tag) ≤ 4
  pub plain : list_any is_soh (codes tag) ≡ false
  pub reads : (value : List ℕ) → field_of (codes tag ++ 61 ∷ value) ≡ at n value

-- these bytes are these fields, whatever stands after them
pub record AreFields (bytes : List ℕ) (fields : List Field) : Type 0 where
  pub few : length bytes ≤ length fields * 80
  pub read : (rest : List ℕ) → fields_of (bytes ++ rest) ≡ fields ++ fields_of rest

pub no-fields : AreFields [] []
no-fields = record { few = omega arith; read = λ rest. refl }

pub more-fields : (a b : List ℕ) (fs gs : List Field) → AreFields a fs → AreFields b gs → AreFields (a ++ b) (fs ++ gs)
more-fields a b fs gs first behind = record {
  few = omega (arith, first.few, behind.few, length-append a b, length-append fs gs);
  read = λ rest. ap fields_of (append_assoc a b rest) ∙ (first.read (b ++ rest) ∙ (ap (λ (x : List Field). fs ++ x) (behind.read rest) ∙ sym (append_assoc fs gs (fields_of rest))));
}

-- ---- one field

first-or : (p q : Bool) → (p || q) ≡ false → (p ≡ false) × (q ≡ false)
first-or true q h = absurd (let e : true ≡ false = h in cc)
first-or false q h = (refl, h)

text-first : (text rest : List ℕ) → list_any is_soh text ≡ false → texts_of (text ++ 1 ∷ rest) ≡ text ∷ texts_of rest
text-first [] rest h = refl
text-first (c ∷ text) rest h =
    let apart = first-or (is_soh c) (list_any is_soh text) h in
    cond-false (is_soh c) ([] ∷ texts_of (text ++ 1 ∷ rest)) (onto_first c (texts_of (text ++ 1 ∷ rest))) apart.0 ∙ ap (onto_first c) (text-first text rest apart.1)

pub one-field : (tag : String) (n : ℕ) (value : List ℕ) → IsTag tag n → IsValue value → AreFields (field tag value) (at n value ∷ [])
one-field tag n value is value_is =
    let text = codes tag ++ 61 ∷ value in
    let plain : list_any is_soh text ≡ false = any-append (codes tag) (61 ∷ value) is.plain value_is.plain in
    let ends : field tag value ≡ text ++ 1 ∷ [] = refl in
    let long : length (61 ∷ value) ≡ 1 + length value = omega arith in
    record {
      few = omega (arith, is.few, value_is.few, ap length ends, length-append text (1 ∷ []), length-append (codes tag) (61 ∷ value), long);
      read = λ rest.
          let bytes : field tag value ++ rest ≡ text ++ 1 ∷ rest = ap (λ (x : List ℕ). x ++ rest) ends ∙ append_assoc text (1 ∷ []) rest in
          ap fields_of bytes ∙ (ap (λ (x : List (List ℕ)). map field_of x) (text-first text rest plain) ∙ ap (λ (f : Field). f ∷ fields_of rest) (is.reads value));
    }

-- some fields, and one more
pub then-field : (a : List ℕ) (fs : List Field) (tag : String) (n : ℕ) (value : List ℕ) → AreFields a fs → IsTag tag n → IsValue value → AreFields (a ++ field tag value) (fs ++ at n value ∷ [])
then-field a fs tag n value first is value_is = more-fields a (field tag value) fs (at n value ∷ []) first (one-field tag n value is value_is)

-- ---- the end

-- the last byte ends a field
pub record EndsAField (bytes : List ℕ) : Type 0 where
  pub front : List ℕ
  pub is : bytes ≡ front ++ 1 ∷ []

pub ends-field : (tag : String) (value : List ℕ) → EndsAField (field tag value)
ends-field tag value = record { front = codes tag ++ 61 ∷ value; is = refl }

pub ends-behind : (a b : List ℕ) → EndsAField b → EndsAField (a ++ b)
ends-behind a b end = record { front = a ++ end.front; is = ap (λ (x : List ℕ). a ++ x) end.is ∙ sym (append_assoc a end.front (1 ∷ [])) }
