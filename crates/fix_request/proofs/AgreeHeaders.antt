-- The steps at the fields of a message, and then at its header, give the first fault by rules 1 to 6, or what they say.
use Rattle.std.proofs.Common.{◌≡◌, ℕ, Bool, true, false, cond, not, List, [], ◌∷◌, position, Option, Some, None, Result, Ok, Err, bytes_eq, refl}
use Rattle.std.specs.Prelude.{is_some, unwrap_or, option_map, codes, nat_eq}
use Rattle.std.specs.List.{list_all, starts_with}
use Rattle.std.specs.Option.{ok_or}
use Rattle.std.specs.Str.Parse.{digits_value}
use Rattle.gx_base.specs.Texts.{is_time_text}
use Rattle.gx_base.specs.NameLists.{NameLists}
use Rattle.gx_base.specs.FirstFault.{first_fault, unless_fault}
use Rattle.fix_request.specs.Fields.{texts_of, has_tag, Field, fields_of, value_of}
use Rattle.fix_request.specs.Faults.{fault, if_missing, if_fails}
use Rattle.fix_request.specs.SessionRules.{first_empty, first_tag_fault, bad_tag_fault, no_value_fault, is_firm, is_exchange, is_sequence_number}
use Rattle.fix_request.specs.Asked.{sender_of}
use Rattle.fix_request.specs.Inner.Values.{values_of}
use Rattle.fix_request.specs.Inner.Rules.{◌>>=◌, where_passes}
use Rattle.fix_request.specs.Inner.Requests.{no_value_in, checked_values, firm_of, exchange_of, target_of, sequence_of, time_of}
use Rattle.fix_request.specs.declared.fault.Fault.{Fault}
use Rattle.fix_request.proofs.Giving.{Gives, step, last}
use Rattle.fix_request.proofs.Splits.{any_is_found}

-- ---- rules 1 to 3

abbrev pub form_faults : List ℕ → List (Option Fault)
form_faults body = first_tag_fault body ∷ bad_tag_fault body ∷ no_value_fault (fields_of body) ∷ []

by_form : (first tags : Bool) (empty : Option Field) (fields : List Field) → cond (not first) (Err (fault 1 11 35)) (cond (not tags) (Err (fault 2 0 0)) (no_value_in empty fields)) ≡ unless_fault (first_fault (cond first None (Some (fault 1 11 35)) ∷ cond tags None (Some (fault 2 0 0)) ∷ option_map (λ (f : Field). fault 3 4 f.tag) empty ∷ [])) (values_of fields)
by_form false tags empty fields = refl
by_form true false empty fields = refl
by_form true true None fields = refl
by_form true true (Some field) fields = refl

pub values_give : (body : List ℕ) → Gives (checked_values body) (form_faults body) (values_of (fields_of body))
values_give body =
    record { is = by_form (starts_with nat_eq body (codes "35=")) (list_all has_tag (texts_of body)) (first_empty (fields_of body)) (fields_of body) }

-- ---- rules 4 to 6

missing_gives : (f : Fault) (value : Option (List ℕ)) → ok_or value f ≡ unless_fault (if_missing f value) (unwrap_or value [])
missing_gives f None = refl
missing_gives f (Some text) = refl

fails_gives : {A : Type 0} (test : List ℕ → Bool) (f g : Fault) (value : Option (List ℕ)) (r : List ℕ → Result A Fault) (a : List ℕ → A) → ((text : List ℕ) → r text ≡ unless_fault (cond (test text) None (Some g)) (a text)) → if_missing f value ≡ None → r (unwrap_or value []) ≡ unless_fault (if_fails test g value) (a (unwrap_or value []))
fails_gives test f g None r a is e = cc
fails_gives test f g (Some text) r a is e = is text

-- a value of the header that has to be there, and then to pass a test
header_gives : {A : Type 0} (test : List ℕ → Bool) (f g : Fault) (value : Option (List ℕ)) (r : List ℕ → Result A Fault) (a : List ℕ → A) → ((text : List ℕ) → r text ≡ unless_fault (cond (test text) None (Some g)) (a text)) → Gives (ok_or value f >>= r) (if_missing f value ∷ if_fails test g value ∷ []) (a (unwrap_or value []))
header_gives test f g value r a is =
    step (ok_or value f) (unwrap_or value []) r (missing_gives f value) (λ here.
    last (r (unwrap_or value [])) (fails_gives test f g value r a is here))

by_found : (b : Bool) (o : Option ℕ) (f : Fault) → b ≡ is_some o → ok_or o f ≡ unless_fault (cond b None (Some f)) (unwrap_or o 0)
by_found true None f e = cc
by_found true (Some n) f e = refl
by_found false None f e = refl
by_found false (Some n) f e = cc

pub firm_gives : (names : NameLists) (fields : List Field) → Gives (firm_of names (values_of fields)) (if_missing (fault 4 1 49) (value_of 49 fields) ∷ if_fails (is_firm names) (fault 4 9 49) (value_of 49 fields) ∷ []) (sender_of names fields).firm
unfolding firm_of values_of
firm_gives names fields =
    let found : List ℕ → Option ℕ = λ text. position (λ firm. bytes_eq firm text) names.firms in
    header_gives (is_firm names) (fault 4 1 49) (fault 4 9 49) (value_of 49 fields) (λ text. ok_or (found text) (fault 4 9 49)) (λ text. unwrap_or (found text) 0)
    (λ text. by_found (is_firm names text) (found text) (fault 4 9 49) (any_is_found (λ firm. bytes_eq firm text) names.firms))

pub by_test : {A : Type 0} (b : Bool) (f : Fault) (a : A) → ok_or (cond b (Some a) None) f ≡ unless_fault (cond b None (Some f)) a
by_test true f a = refl
by_test false f a = refl

by_choice : {A : Type 0} (b : Bool) (f : Fault) (a : A) → cond b (Ok a) (Err f) ≡ unless_fault (cond b None (Some f)) a
by_choice true f a = refl
by_choice false f a = refl

pub exchange_gives : (names : NameLists) (rule tag : ℕ) (value : Option (List ℕ)) → Gives (exchange_of names rule tag value) (if_missing (fault rule 1 tag) value ∷ if_fails (is_exchange names) (fault rule 9 tag) value ∷ []) tt
unfolding exchange_of
exchange_gives names rule tag value =
    header_gives (is_exchange names) (fault rule 1 tag) (fault rule 9 tag) value (λ text. cond (is_exchange names text) (Ok tt) (Err (fault rule 9 tag))) (λ text. tt)
    (λ text. by_choice (is_exchange names text) (fault rule 9 tag) tt)

pub target_gives : (names : NameLists) (fields : List Field) → Gives (target_of names (values_of fields)) (if_missing (fault 5 1 56) (value_of 56 fields) ∷ if_fails (is_exchange names) (fault 5 9 56) (value_of 56 fields) ∷ []) tt
unfolding values_of
target_gives names fields = exchange_gives names 5 56 (value_of 56 fields)

pub sequence_gives : (names : NameLists) (fields : List Field) → Gives (sequence_of (values_of fields)) (if_missing (fault 6 1 34) (value_of 34 fields) ∷ if_fails is_sequence_number (fault 6 6 34) (value_of 34 fields) ∷ []) (sender_of names fields).seq
unfolding sequence_of values_of
sequence_gives names fields =
    header_gives is_sequence_number (fault 6 1 34) (fault 6 6 34) (value_of 34 fields) (λ text. ok_or (cond (is_sequence_number text) (Some (digits_value 10 text)) None) (fault 6 6 34)) (λ text. digits_value 10 text)
    (λ text. by_test (is_sequence_number text) (fault 6 6 34) (digits_value 10 text))

pub time_gives : (names : NameLists) (fields : List Field) → Gives (time_of (values_of fields)) (if_missing (fault 6 1 52) (value_of 52 fields) ∷ if_fails is_time_text (fault 6 6 52) (value_of 52 fields) ∷ []) (sender_of names fields).time
unfolding time_of values_of
time_gives names fields =
    header_gives is_time_text (fault 6 1 52) (fault 6 6 52) (value_of 52 fields) (λ text. ok_or (where_passes is_time_text text) (fault 6 6 52)) (λ text. text)
    (λ text. by_test (is_time_text text) (fault 6 6 52) text)
