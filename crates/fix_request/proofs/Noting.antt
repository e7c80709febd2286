-- The values of the fields so far, and the faults in their form.
use Rattle.std.proofs.Common.{◌≡◌, ℕ, ◌≤◌, Bool, true, false, not, cond, ◌&&◌, ◌==◌, List, [], ◌∷◌, length, map, Option, Some, None, Result, Ok, Err, refl, sym, ap, subst, ◌∙◌}
use Rattle.std.specs.Prelude.{MatchResult, find, is_some, option_map}
use Rattle.std.specs.List.{before_first, after_first, list_all}
use Rattle.std.specs.Option.{option_or}
use Rattle.std.proofs.lemmas.Bool.{cond-true}
use Rattle.fix_request.specs.Fields.{is_soh, texts_of, has_tag, Field, field_of, fields_of, value_of}
use Rattle.fix_request.specs.Inner.Values.{Values, values_of}
use Rattle.fix_request.specs.SessionRules.{first_empty}
use Rattle.fix_request.specs.Inner.Requests.{no_value_in, well_formed_values}
use Rattle.fix_request.specs.Faults.{fault}
use Rattle.fix_request.specs.Inner.Views.{field_view}
use Rattle.fix_request.specs.declared.fault.Fault.{Fault}
use Rattle.fix_request.specs.declared.fields.Field.{Field as FieldSlices}
use Rattle.fix_request.specs.Inner.Noting.{first_of, noted_value, noted, empty_fault, field_noted}
use Rattle.fix_request.proofs.Splits.{texts-first}

-- ---- the values

-- the values once some more fields are read
abbrev pub noted_all : Values → List Field → Values
noted_all values [] = values
noted_all values (field ∷ fields) = noted_all (noted values field) fields

-- the values that a choice by tag gives
abbrev pub by_tag : (ℕ → Option (List ℕ)) → Values
by_tag at =
    record {
      type = at 35;
      sender = at 49;
      target = at 56;
      sequence = at 34;
      time = at 52;
      id = at 11;
      old = at 41;
      symbol = at 55;
      description = at 107;
      side = at 54;
      quantity = at 38;
      kind = at 40;
      price = at 44;
      trigger = at 99;
      life = at 59;
      min = at 110;
      show = at 210;
      status = at 340;
    }

same_by_tag : (f g : ℕ → Option (List ℕ)) → ((tag : ℕ) → f tag ≡ g tag) → by_tag f ≡ by_tag g
same_by_tag f g same = λ i. by_tag (λ tag. same tag i)

or-None : {A : Type 0} (o : Option A) → o ≡ option_or o None
or-None None = refl
or-None (Some a) = refl

first_counts : (here : Bool) (value : Option (List ℕ)) (field : Field) (later : Option Field) → option_or (cond here (option_or value (Some field.value)) value) (option_map (λ (f : Field). f.value) later) ≡ option_or value (option_map (λ (f : Field). f.value) (cond here (Some field) later))
first_counts true None field later = refl
first_counts true (Some text) field later = refl
first_counts false value field later = refl

noted_all-by_tag : (at : ℕ → Option (List ℕ)) (fields : List Field) → noted_all (by_tag at) fields ≡ by_tag (λ tag. option_or (at tag) (value_of tag fields))
unfolding noted
noted_all-by_tag at [] = same_by_tag at (λ tag. option_or (at tag) None) (λ tag. or-None (at tag))
noted_all-by_tag at (field ∷ fields) =
    noted_all-by_tag (λ tag. noted_value tag (at tag) field) fields
    ∙ same_by_tag (λ tag. option_or (noted_value tag (at tag) field) (value_of tag fields)) (λ tag. option_or (at tag) (value_of tag (field ∷ fields)))
    (λ tag. first_counts (field.tag == tag) (at tag) field (find (λ (f : Field). f.tag == tag) fields))

pub all_noted : (fields : List Field) → noted_all (values_of []) fields ≡ values_of fields
unfolding values_of
all_noted fields = noted_all-by_tag (λ tag. None) fields

-- ---- the pass over the fields

-- what is known where this rest is still to be read, and no field before it is without a value
pub record IsNotedTo (bytes rest : List ℕ) (values : Values) : Type 0 where
  pub tags : list_all has_tag (texts_of bytes) ≡ list_all has_tag (texts_of rest)
  pub empty : first_empty (fields_of bytes) ≡ first_empty (fields_of rest)
  pub noting : noted_all values (fields_of rest) ≡ values_of (fields_of bytes)

pub none_read : (bytes : List ℕ) → IsNotedTo bytes bytes (values_of [])
none_read bytes = record { tags = refl; empty = refl; noting = all_noted (fields_of bytes) }

field_is : (text : List ℕ) (b : Bool) (field : Field) → Some field ≡ cond b (Some (field_of text)) None → (b ≡ true) × (field ≡ field_of text)
field_is text true field e = (refl, cc)
field_is text false field e = cc

no_field : (text : List ℕ) (b : Bool) → None ≡ cond b (Some (field_of text)) None → b ≡ false
no_field text true e = cc
no_field text false e = refl

-- some bytes begin with a field
record IsFirst (bytes : List ℕ) (field : Field) : Type 0 where
  tags : list_all has_tag (texts_of bytes) ≡ list_all has_tag (texts_of (after_first is_soh bytes))
  fields : fields_of bytes ≡ field ∷ fields_of (after_first is_soh bytes)

is_first : (bytes : List ℕ) (field : Field) → 1 ≤ length bytes → Some field ≡ first_of bytes → IsFirst bytes field
is_first bytes field some read =
    let text = before_first is_soh bytes in
    let behind = after_first is_soh bytes in
    let split : texts_of bytes ≡ text ∷ texts_of behind = texts-first bytes some in
    let is = field_is text (has_tag text) field read in
    record {
      tags = ap (list_all has_tag) split ∙ ap (λ (b : Bool). b && list_all has_tag (texts_of behind)) is.0;
      fields = ap (map field_of) split ∙ ap (λ (f : Field). f ∷ fields_of behind) (sym is.1);
    }

-- the first one without a value, by whether it is this one
empty_first : (empty : Bool) (field : Field) (later : List Field) → (length field.value == 0) ≡ empty → first_empty (field ∷ later) ≡ cond empty (Some field) (first_empty later)
empty_first empty field later is = ap (λ (b : Bool). cond b (Some field) (first_empty later)) is

-- one field more, which has a value
pub one_read : (bytes rest : List ℕ) (values : Values) (field : Field) → 1 ≤ length rest → Some field ≡ first_of rest → (length field.value == 0) ≡ false → IsNotedTo bytes rest values → IsNotedTo bytes (after_first is_soh rest) (noted values field)
one_read bytes rest values field some read valued so_far =
    let first = is_first rest field some read in
    let later = fields_of (after_first is_soh rest) in
    record {
      tags = so_far.tags ∙ first.tags;
      empty = so_far.empty ∙ ap first_empty first.fields ∙ empty_first false field later valued;
      noting = ap (noted_all values) (sym first.fields) ∙ so_far.noting;
    }

-- ---- how it ends

tags_first : (bytes : List ℕ) → 1 ≤ length bytes → None ≡ first_of bytes → list_all has_tag (texts_of bytes) ≡ false
tags_first bytes some read =
    let text = before_first is_soh bytes in
    let behind = after_first is_soh bytes in
    ap (list_all has_tag) (texts-first bytes some) ∙ ap (λ (b : Bool). b && list_all has_tag (texts_of behind)) (no_field text (has_tag text) read)

without_tags : (bytes : List ℕ) → list_all has_tag (texts_of bytes) ≡ false → Err (fault 2 0 0) ≡ well_formed_values bytes
without_tags bytes bad = sym (cond-true (not (list_all has_tag (texts_of bytes))) (Err (fault 2 0 0)) (no_value_in (first_empty (fields_of bytes)) (fields_of bytes)) (ap not bad))

-- a text with no tag
pub stops_there : (bytes rest : List ℕ) (values : Values) → 1 ≤ length rest → None ≡ first_of rest → IsNotedTo bytes rest values → Err (fault 2 0 0) ≡ well_formed_values bytes
stops_there bytes rest values some read so_far = without_tags bytes (so_far.tags ∙ tags_first rest some read)

-- a field with no value, which later ones with no tag come before
by_tags : (tags : Bool) (fields : List Field) (field : Field) → Err (cond tags (fault 3 4 field.tag) (fault 2 0 0)) ≡ cond (not tags) (Err (fault 2 0 0)) (no_value_in (Some field) fields)
by_tags true fields field = refl
by_tags false fields field = refl

pub empty_there : (bytes rest : List ℕ) (values : Values) (field : Field) → 1 ≤ length rest → Some field ≡ first_of rest → (length field.value == 0) ≡ true → IsNotedTo bytes rest values → Err (empty_fault field.tag (after_first is_soh rest)) ≡ well_formed_values bytes
empty_there bytes rest values field some read empty so_far =
    let first = is_first rest field some read in
    let later = fields_of (after_first is_soh rest) in
    let tags = so_far.tags ∙ first.tags in
    let it : first_empty (fields_of bytes) ≡ Some field = so_far.empty ∙ ap first_empty first.fields ∙ empty_first true field later empty in
    by_tags (list_all has_tag (texts_of (after_first is_soh rest))) (fields_of bytes) field
    ∙ sym (ap (λ (b : Bool). cond (not b) (Err (fault 2 0 0)) (no_value_in (Some field) (fields_of bytes))) tags)
    ∙ sym (ap (λ (o : Option Field). cond (not (list_all has_tag (texts_of bytes))) (Err (fault 2 0 0)) (no_value_in o (fields_of bytes))) it)

-- no field is left
none_left : (tags : Bool) (empty : Option Field) (fields : List Field) → tags ≡ true → empty ≡ None → Ok (values_of fields) ≡ cond (not tags) (Err (fault 2 0 0)) (no_value_in empty fields)
none_left true None fields a b = refl
none_left true (Some f) fields a b = cc
none_left false empty fields a b = cc

pub all_read : (bytes : List ℕ) (values : Values) → IsNotedTo bytes [] values → Ok values ≡ well_formed_values bytes
all_read bytes values so_far = ap Ok so_far.noting ∙ none_left (list_all has_tag (texts_of bytes)) (first_empty (fields_of bytes)) (fields_of bytes) so_far.tags so_far.empty

-- ---- any field

abbrev Read : Type 0
Read = Result (List ℕ × Values) Fault

-- what it gives is right, by whether it has a tag and whether it has a value
abbrev Goes : List ℕ → Read → Type 0
Goes bytes r = MatchResult r (λ on. IsNotedTo bytes on.0 on.1) (λ f. Err f ≡ well_formed_values bytes)

goes_on : (bytes rest : List ℕ) (values : Values) (tagged empty : Bool) → 1 ≤ length rest → has_tag (before_first is_soh rest) ≡ tagged → (length (field_of (before_first is_soh rest)).value == 0) ≡ empty → IsNotedTo bytes rest values → Goes bytes (cond (not tagged) (Err (fault 2 0 0)) (cond empty (Err (empty_fault (field_of (before_first is_soh rest)).tag (after_first is_soh rest))) (Ok (after_first is_soh rest, noted values (field_of (before_first is_soh rest))))))
goes_on bytes rest values false empty some has is so_far =
    let text = before_first is_soh rest in
    stops_there bytes rest values some (sym (ap (λ (b : Bool). cond b (Some (field_of text)) None) has)) so_far
goes_on bytes rest values true true some has is so_far =
    let text = before_first is_soh rest in
    empty_there bytes rest values (field_of text) some (sym (ap (λ (b : Bool). cond b (Some (field_of text)) None) has)) is so_far
goes_on bytes rest values true false some has is so_far =
    let text = before_first is_soh rest in
    one_read bytes rest values (field_of text) some (sym (ap (λ (b : Bool). cond b (Some (field_of text)) None) has)) is so_far

pub any_read : (bytes rest : List ℕ) (values : Values) (r : Read) → 1 ≤ length rest → r ≡ field_noted values rest → IsNotedTo bytes rest values → Goes bytes r
any_read bytes rest values r some read so_far =
    let text = before_first is_soh rest in
    subst (Goes bytes) (sym read) (goes_on bytes rest values (has_tag text) (length (field_of text).value == 0) some refl refl so_far)

-- ---- the tags alone

some_first : (text : List ℕ) (b : Bool) (o : Option Field) → o ≡ cond b (Some (field_of text)) None → is_some o ≡ b
some_first text true o e = ap is_some e
some_first text false o e = ap is_some e

tags_on : (bytes : List ℕ) (o : Option Field) → 1 ≤ length bytes → o ≡ first_of bytes → list_all has_tag (texts_of bytes) ≡ (is_some o && list_all has_tag (texts_of (after_first is_soh bytes)))
tags_on bytes o some read =
    let text = before_first is_soh bytes in
    let behind = after_first is_soh bytes in
    ap (list_all has_tag) (texts-first bytes some) ∙ ap (λ (b : Bool). b && list_all has_tag (texts_of behind)) (sym (some_first text (has_tag text) o read))

pub viewed : (o : Option FieldSlices) → is_some (option_map field_view o) ≡ is_some o
viewed None = refl
viewed (Some field) = refl

pub tagged_on : (bytes rest : List ℕ) (o : Option Field) → 1 ≤ length rest → o ≡ first_of rest → is_some o ≡ true → list_all has_tag (texts_of bytes) ≡ list_all has_tag (texts_of rest) → list_all has_tag (texts_of bytes) ≡ list_all has_tag (texts_of (after_first is_soh rest))
tagged_on bytes rest o some read is so_far =
    so_far ∙ tags_on rest o some read ∙ ap (λ (b : Bool). b && list_all has_tag (texts_of (after_first is_soh rest))) is

pub untagged_there : (bytes rest : List ℕ) (o : Option Field) → 1 ≤ length rest → o ≡ first_of rest → is_some o ≡ false → list_all has_tag (texts_of bytes) ≡ list_all has_tag (texts_of rest) → false ≡ list_all has_tag (texts_of bytes)
untagged_there bytes rest o some read is so_far =
    sym (so_far ∙ tags_on rest o some read ∙ ap (λ (b : Bool). b && list_all has_tag (texts_of (after_first is_soh rest))) is)
