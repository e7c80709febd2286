-- A message is answered by its first fault, or without one by what it asks for: one part of the rules after the other. A refusal
-- says what is known of the sender by then.
use Rattle.std.proofs.Common.{◌≡◌, ℕ, Bool, true, false, cond, ◌||◌, List, [], ◌∷◌, ◌++◌, map, Option, Some, None, Result, Ok, Err, refl, sym, ap, subst, ◌∙◌, ◌≤◌, ◌==◌, nat_le, arith, lit≤}
use Rattle.std.proofs.lemmas.Bool.Decides.{nat_tests}
use Rattle.std.proofs.lemmas.Option.{same_Some}
use Rattle.std.specs.Option.{option_or}
use Rattle.gx_base.specs.NameLists.{NameLists}
use Rattle.gx_base.specs.FirstFault.{first_fault, unless_fault}
use Rattle.fix_request.specs.Fields.{Field}
use Rattle.fix_request.specs.Faults.{fault, if_missing, if_fails}
use Rattle.fix_request.specs.MessageTable.{Item, Form, Allowed, Row, is_needed, value_in, missing, ill_formed, not_allowed}
use Rattle.fix_request.specs.SessionRules.{content_faults}
use Rattle.fix_request.specs.Asked.{sender_of, asked_for}
use Rattle.fix_request.specs.Requests.{refusal_of}
use Rattle.fix_request.specs.Inner.Rules.{◌>>=◌}
use Rattle.fix_request.specs.Inner.Requests.{refused, known, or_refused}
use Rattle.fix_request.specs.declared.fault.Fault.{Fault}
use Rattle.fix_request.specs.declared.request.Sender.{Sender}
use Rattle.fix_request.specs.declared.request.Refusal.{Refusal}
use Rattle.fix_request.specs.declared.request.Request.{Request}
use Rattle.fix_request.specs.declared.request.Request.TheVariants as request
use Rattle.fix_request.proofs.Giving.{Gives, first-append, EachFault, of_first}

-- the request of a message with these fields and this first fault: whether it is of the exchange, and the row of its type
abbrev pub request_from : Bool → Option Row → NameLists → List Field → Option Fault → Request
request_from of_exchange row names fields (Some fault) = request.Refused (refusal_of of_exchange (sender_of names fields) fault)
request_from of_exchange row names fields None = asked_for names fields row

-- the request of a message with these faults
pub record IsAnswer (of_exchange : Bool) (row : Option Row) (names : NameLists) (fields : List Field) (answer : Request) (faults : List (Option Fault)) : Type 0 where
  pub is : answer ≡ request_from of_exchange row names fields (first_fault faults)

-- a refusal that says what is known of the sender
abbrev pub IsKnown : Bool → NameLists → List Field → Option ℕ → ℕ → List ℕ → Fault → Type 0
IsKnown of_exchange names fields firm seq time f = refused firm seq time f ≡ refusal_of of_exchange (sender_of names fields) f

-- ---- part after part

-- one part of the rules, refused with what is known of the sender by then, and those that follow it
pub part : {A : Type 0} {of_exchange : Bool} {row : Option Row} {names : NameLists} {fields : List Field} {ps : List (Option Fault)} (os : List (Option Fault)) (r : Result A Fault) (a : A) (next : A → Result Request Refusal) (firm : Option ℕ) (seq : ℕ) (time : List ℕ) → Gives r os a → EachFault (IsKnown of_exchange names fields firm seq time) os → IsAnswer of_exchange row names fields (or_refused (next a)) ps → IsAnswer of_exchange row names fields (or_refused (known firm seq time r >>= next)) (os ++ ps)
part {of_exchange = of_exchange} {row = row} {names = names} {fields = fields} {ps = ps} os r a next firm seq time given each others =
    record {
      is =
          ap (λ s. or_refused (known firm seq time s >>= next)) given.is
          ∙ by_first (first_fault os) (first_fault ps) (of_first (IsKnown of_exchange names fields firm seq time) os each) others.is
          ∙ ap (request_from of_exchange row names fields) (first-append os ps);
    }
  where
    by_first : (o p : Option Fault) → ((f : Fault) → o ≡ Some f → IsKnown of_exchange names fields firm seq time f) → or_refused (next a) ≡ request_from of_exchange row names fields p → or_refused (known firm seq time (unless_fault o a) >>= next) ≡ request_from of_exchange row names fields (option_or o p)
    by_first None p same others = others
    by_first (Some f) p same others = ap (λ r. request.Refused r) (same f refl)

-- the same of a part that stands in a step of its own
pub inner_part : {A B : Type 0} {of_exchange : Bool} {row : Option Row} {names : NameLists} {fields : List Field} {ps : List (Option Fault)} (os : List (Option Fault)) (r : Result A Fault) (a : A) (next : A → Result B Refusal) (end : B → Result Request Refusal) (firm : Option ℕ) (seq : ℕ) (time : List ℕ) → Gives r os a → EachFault (IsKnown of_exchange names fields firm seq time) os → IsAnswer of_exchange row names fields (or_refused (next a >>= end)) ps → IsAnswer of_exchange row names fields (or_refused (known firm seq time r >>= next >>= end)) (os ++ ps)
inner_part {of_exchange = of_exchange} {row = row} {names = names} {fields = fields} {ps = ps} os r a next end firm seq time given each others =
    subst (λ (answer : Result Request Refusal). IsAnswer of_exchange row names fields (or_refused answer) (os ++ ps)) (grouped (known firm seq time r))
    (part os r a (λ b. next b >>= end) firm seq time given each others)
  where
    grouped : (s : Result _ Refusal) → (s >>= (λ b. next b >>= end)) ≡ (s >>= next >>= end)
    grouped (Ok b) = refl
    grouped (Err refusal) = refl

-- the part that is the last
pub last_part : (of_exchange : Bool) (row : Option Row) (names : NameLists) (fields : List Field) (os : List (Option Fault)) (r : Result Request Fault) (firm : Option ℕ) (seq : ℕ) (time : List ℕ) → Gives r os (asked_for names fields row) → EachFault (IsKnown of_exchange names fields firm seq time) os → IsAnswer of_exchange row names fields (or_refused (known firm seq time r)) os
last_part of_exchange row names fields os r firm seq time given each =
    record {
      is =
          ap (λ s. or_refused (known firm seq time s)) given.is
          ∙ by_first (first_fault os) (of_first (IsKnown of_exchange names fields firm seq time) os each);
    }
  where
    by_first : (o : Option Fault) → ((f : Fault) → o ≡ Some f → IsKnown of_exchange names fields firm seq time f) → or_refused (known firm seq time (unless_fault o (asked_for names fields row))) ≡ request_from of_exchange row names fields o
    by_first None same = refl
    by_first (Some f) same = ap (λ r. request.Refused r) (same f refl)

-- ---- what is known of the sender

-- the firm of a message, which a message of the exchange does not have
abbrev pub firm_unless : Bool → Sender → Option ℕ
firm_unless of_exchange sender = cond of_exchange None (Some sender.firm)

-- a fault of rules 7 to 10 knows all of the sender
pub late_refusal : (of_exchange : Bool) (sender : Sender) (rule reason tag : ℕ) → 7 ≤ rule → refused (firm_unless of_exchange sender) sender.seq sender.time (fault rule reason tag) ≡ refusal_of of_exchange sender (fault rule reason tag)
late_refusal of_exchange sender rule reason tag late =
    let a : nat_le rule 4 ≡ false = grind (arith, nat_tests, late) in
    let b : nat_le rule 5 ≡ false = grind (arith, nat_tests, late) in
    let c : (rule == 6) ≡ false = grind (arith, nat_tests, late) in
    let d : nat_le rule 6 ≡ false = grind (arith, nat_tests, late) in
    sym (rw (a, b, c, d, or-false of_exchange) refl)
  where
    or-false : (b : Bool) → (b || false) ≡ b
    or-false true = refl
    or-false false = refl

-- one value's faults
if_missing_is : (P : Fault → Type 0) (f : Fault) (value : Option (List ℕ)) → P f → (g : Fault) → if_missing f value ≡ Some g → P g
if_missing_is P f None p g e = subst P (same_Some f g e) p
if_missing_is P f (Some text) p g e = cc

pub by_failed : (P : Fault → Type 0) (f : Fault) (b : Bool) → P f → (g : Fault) → cond b None (Some f) ≡ Some g → P g
by_failed P f true p g e = cc
by_failed P f false p g e = subst P (same_Some f g e) p

if_fails_is : (P : Fault → Type 0) (f : Fault) (test : List ℕ → Bool) (value : Option (List ℕ)) → P f → (g : Fault) → if_fails test f value ≡ Some g → P g
if_fails_is P f test None p g e = cc
if_fails_is P f test (Some text) p g e = by_failed P f (test text) p g e

pub two_are : (P : Fault → Type 0) (f g : Fault) (test : List ℕ → Bool) (value : Option (List ℕ)) → P f → P g → EachFault P (if_missing f value ∷ if_fails test g value ∷ [])
two_are P f g test value p q = (if_missing_is P f value p, (if_fails_is P g test value q, tt))

-- the faults of rules 7 to 10
if_needed_is : (P : Fault → Type 0) (b : Bool) (o : Option Fault) → ((g : Fault) → o ≡ Some g → P g) → (g : Fault) → cond b o None ≡ Some g → P g
if_needed_is P true o each g e = each g e
if_needed_is P false o each g e = cc

each-append : (P : Fault → Type 0) (os ps : List (Option Fault)) → EachFault P os → EachFault P ps → EachFault P (os ++ ps)
each-append P [] ps first others = others
each-append P (o ∷ os) ps first others = (first.0, each-append P os ps first.1 others)

module _ (names : NameLists) (fields : List Field) (P : Fault → Type 0) (late : (rule reason tag : ℕ) → 7 ≤ rule → P (fault rule reason tag)) where
  needed_are : (items : List Item) → EachFault P (map (missing fields) items)
  needed_are [] = tt
  needed_are (item ∷ items) =
      (if_needed_is P (is_needed fields item) _ (if_missing_is P _ (value_in fields item) (late 8 1 _ (lit≤ tt))), needed_are items)

  forms_are : (entries : List (Item × Form)) → EachFault P (map (ill_formed fields) entries)
  forms_are [] = tt
  forms_are (entry ∷ entries) = (if_fails_is P _ _ (value_in fields entry.0) (late 9 6 _ (lit≤ tt)), forms_are entries)

  values_are : (entries : List (Item × Allowed)) → EachFault P (map (not_allowed names fields) entries)
  values_are [] = tt
  values_are (entry ∷ entries) = (if_fails_is P _ _ (value_in fields entry.0) (late 10 5 _ (lit≤ tt)), values_are entries)

  pub content_are : (row : Option Row) → EachFault P (content_faults names fields row)
  content_are None = ((λ g e. subst P (same_Some (fault 7 11 35) g e) (late 7 11 35 (lit≤ tt))), tt)
  content_are (Some row) =
      each-append P (map (missing fields) row.needed ++ map (ill_formed fields) row.forms) (map (not_allowed names fields) row.values)
      (each-append P (map (missing fields) row.needed) (map (ill_formed fields) row.forms) (needed_are row.needed) (forms_are row.forms)) (values_are row.values)
