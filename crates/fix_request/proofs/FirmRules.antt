-- A body that does not begin with `35=h` and SOH is read as without trading sessions: each message comes from a firm, and no row
-- of the table is for a change of the session.
use Rattle.std.proofs.Common.{◌≡◌, ℕ, Bool, true, false, cond, ◌∷◌, ◌++◌, List, [], drop, map, subst, Option, Some, None, refl, sym, ap, ◌∙◌}
use Rattle.std.proofs.lemmas.Bool.Decides.{Decides-eqb}
use Rattle.std.proofs.lemmas.Slice.Eq.{bytes_eq-Decides, starts_is}
use Rattle.std.specs.Prelude.{codes, nat_eq, option_and_then}
use Rattle.std.specs.List.{starts_with, onto_first}
use Rattle.gx_base.specs.Frames.{soh}
use Rattle.gx_base.specs.NameLists.{NameLists}
use Rattle.gx_base.specs.FirstFault.{first_fault}
use Rattle.fix_request.specs.Fields.{is_soh, texts_of, Field, field_of, fields_of, value_of}
use Rattle.fix_request.specs.Faults.{fault}
use Rattle.fix_request.specs.MessageTable.{Row, session_row, new_row, cancel_row, replace_row, firm_table, message_table, is_one_of, row_of_type, row_of}
use Rattle.fix_request.specs.SessionRules.{Rules, session_rules, firm_rules, is_change, bad_tag_fault, no_value_fault, header_faults, content_faults, session_fault_of}
use Rattle.fix_request.specs.Asked.{asked_for}
use Rattle.fix_request.specs.Requests.{no_time, request_by, request_under}
use Rattle.fix_request.specs.Inner.Requests.{refused}
use Rattle.fix_request.specs.declared.fault.Fault.{Fault}
use Rattle.fix_request.specs.declared.request.Request.{Request}
use Rattle.fix_request.specs.declared.request.Request.TheVariants as request
use Rattle.fix_request.proofs.AgreeHeaders.{form_faults}
use Rattle.fix_request.proofs.Agree.{by_rules}
use Rattle.fix_request.proofs.Answering.{request_from}
use Rattle.fix_request.proofs.Rows.{row_of_other}

-- the request of a body: whether it is of the exchange, and the row of its type
abbrev request_at : NameLists → List ℕ → Bool → Option Row → Request
request_at names body of_exchange row =
    let fields = fields_of body in
    request_from of_exchange row names fields (first_fault (form_faults body ++ header_faults of_exchange names fields ++ content_faults names fields row))

by_row : (rules : Rules) (names : NameLists) (body : List ℕ) → request_at names body (rules.is_of_exchange (fields_of body)) (row_of rules.table (fields_of body)) ≡ request_under rules names body
by_row rules names body = by_rules rules names (fields_of body) (session_fault_of rules names body)

-- a message that does not change the session
of_other : (names : NameLists) (body : List ℕ) → is_change (fields_of body) ≡ false → request_under session_rules names body ≡ request_under firm_rules names body
of_other names body is =
    sym (by_row session_rules names body)
    ∙ ap (λ b. request_at names body b (row_of message_table (fields_of body))) is
    ∙ ap (request_at names body false) (row_of_other (fields_of body) is)
    ∙ by_row firm_rules names body

-- a body that does not begin with `35=` is refused by rule 1, and nothing is known of its sender
refused_first : (names : NameLists) (body : List ℕ) (of_exchange : Bool) (row : Option Row) → starts_with nat_eq body (codes "35=") ≡ false → request_at names body of_exchange row ≡ request.Refused (refused None 0 no_time (fault 1 11 35))
refused_first names body of_exchange row not_there =
    let fields = fields_of body in
    let found : Bool → Request = λ b.
    request_from of_exchange row names fields (first_fault (cond b None (Some (fault 1 11 35)) ∷ bad_tag_fault body ∷ no_value_fault fields ∷ header_faults of_exchange names fields ++ content_faults names fields row)) in
    ap found not_there ∙ without_firm of_exchange
  where
    without_firm : (b : Bool) → request_from b row names (fields_of body) (Some (fault 1 11 35)) ≡ request.Refused (refused None 0 no_time (fault 1 11 35))
    without_firm true = refl
    without_firm false = refl

of_neither : (names : NameLists) (body : List ℕ) → starts_with nat_eq body (codes "35=") ≡ false → request_under session_rules names body ≡ request_under firm_rules names body
of_neither names body not_there =
    sym (by_row session_rules names body)
    ∙ refused_first names body (is_change (fields_of body)) (row_of message_table (fields_of body)) not_there
    ∙ sym (refused_first names body false (row_of firm_table (fields_of body)) not_there)
    ∙ by_row firm_rules names body

-- ---- bodies that begin with `35=`

-- whether the first of these texts, after `35=`, is the type of a change
abbrev is_change_of : List (List ℕ) → Bool
is_change_of texts = is_change (map field_of (onto_first 51 (onto_first 53 (onto_first 61 texts))))

type_is : (text : List ℕ) (texts : List (List ℕ)) → is_change_of (text ∷ texts) ≡ true → text ≡ codes "h"
type_is text texts is = (bytes_eq-Decides text (codes "h")).0 is

-- `35=h` and SOH
abbrev pub change_start : List ℕ
change_start = codes "35=h" ++ soh ∷ []

longer : (c d : ℕ) (texts : List (List ℕ)) → is_change_of (onto_first c (onto_first d texts)) ≡ true → ⊥
longer c d [] is = let it : c ∷ d ∷ [] ≡ codes "h" = type_is (c ∷ d ∷ []) [] is in cc
longer c d (text ∷ texts) is = let it : c ∷ d ∷ text ≡ codes "h" = type_is (c ∷ d ∷ text) texts is in cc

-- where a second byte follows, it is no SOH
two_bytes : (c d : ℕ) (more : List ℕ) (b e : Bool) → is_soh d ≡ e → is_change_of (cond b ([] ∷ texts_of (d ∷ more)) (onto_first c (cond e ([] ∷ texts_of more) (onto_first d (texts_of more))))) ≡ true → starts_with nat_eq (codes "35=" ++ c ∷ d ∷ more) change_start ≡ false → ⊥
two_bytes c d more true e is_d is unlike = let e : false ≡ true = is in cc
two_bytes c d more false true is_d is unlike =
    let it : c ∷ [] ≡ codes "h" = type_is (c ∷ []) (texts_of more) is in
    let is_h : c ≡ 104 = cc in
    let ends : d ≡ soh = (Decides-eqb d soh).0 is_d in
    let there : starts_with nat_eq (codes "35=" ++ 104 ∷ soh ∷ more) change_start ≡ true = refl in
    let here : starts_with nat_eq (codes "35=" ++ c ∷ d ∷ more) change_start ≡ true = rw (is_h, ends) there in
    let e : false ≡ true = sym unlike ∙ here in cc
two_bytes c d more false false is_d is unlike = longer c d (texts_of more) is

one_byte : (c : ℕ) (b : Bool) → is_change_of (cond b ([] ∷ []) ((c ∷ []) ∷ [])) ≡ true → c ∷ [] ≡ codes "h"
one_byte c true is = let e : false ≡ true = is in cc
one_byte c false is = type_is (c ∷ []) [] is

-- a change that does not begin so is `35=h` alone
alone : (rest : List ℕ) → is_change_of (texts_of rest) ≡ true → starts_with nat_eq (codes "35=" ++ rest) change_start ≡ false → rest ≡ codes "h"
alone [] is unlike = let e : false ≡ true = is in cc
alone (c ∷ []) is unlike = one_byte c (is_soh c) is
alone (c ∷ d ∷ more) is unlike = absurd (two_bytes c d more (is_soh c) (is_soh d) refl is unlike)

of_change : (names : NameLists) (body : List ℕ) → starts_with nat_eq body (codes "35=") ≡ true → is_change (fields_of body) ≡ true → starts_with nat_eq body change_start ≡ false → request_under session_rules names body ≡ request_under firm_rules names body
of_change names body there is unlike =
    let rest = drop 3 body in
    let whole : body ≡ codes "35=" ++ rest = (starts_is Decides-eqb body (codes "35=") (starts_with nat_eq body (codes "35=")) refl).0 there in
    let h : rest ≡ codes "h" = alone rest (subst (λ (b : List ℕ). is_change (fields_of b) ≡ true) whole is) (subst (λ (b : List ℕ). starts_with nat_eq b change_start ≡ false) whole unlike) in
    -- such a message has no sender, so rule 4 refuses it, which names no firm
    let it : request_under session_rules names (codes "35=h") ≡ request_under firm_rules names (codes "35=h") = refl in
    let same : body ≡ codes "35=h" = whole ∙ ap (λ r. codes "35=" ++ r) h in
    rw same it

-- ---- any body

by_start : (names : NameLists) (body : List ℕ) (there is : Bool) → starts_with nat_eq body (codes "35=") ≡ there → is_change (fields_of body) ≡ is → starts_with nat_eq body change_start ≡ false → request_under session_rules names body ≡ request_under firm_rules names body
by_start names body false is e f unlike = of_neither names body e
by_start names body true false e f unlike = of_other names body f
by_start names body true true e f unlike = of_change names body e f unlike

pub read_as_firms : (names : NameLists) (body : List ℕ) → starts_with nat_eq body change_start ≡ false → request_under session_rules names body ≡ request_under firm_rules names body
read_as_firms names body unlike = by_start names body (starts_with nat_eq body (codes "35=")) (is_change (fields_of body)) refl refl unlike

-- ---- the requests of firms

-- a request that changes no session
abbrev pub IsNoChange : Request → Type 0
IsNoChange (request.Session change) = ⊥
IsNoChange (request.New order) = Unit {0}
IsNoChange (request.Cancel order) = Unit {0}
IsNoChange (request.Replace order) = Unit {0}
IsNoChange (request.Passed sender) = Unit {0}
IsNoChange (request.Refused refusal) = Unit {0}

by_types : (names : NameLists) (fields : List Field) (s d f g : Bool) → IsNoChange (asked_for names fields (cond s (Some session_row) (cond d (Some new_row) (cond f (Some cancel_row) (cond g (Some replace_row) None)))))
by_types names fields true d f g = tt
by_types names fields false true f g = tt
by_types names fields false false true g = tt
by_types names fields false false false true = tt
by_types names fields false false false false = tt

by_type : (names : NameLists) (fields : List Field) (type : Option (List ℕ)) → IsNoChange (asked_for names fields (option_and_then (row_of_type firm_table) type))
by_type names fields None = tt
by_type names fields (Some text) = by_types names fields (is_one_of session_row.types text) (is_one_of new_row.types text) (is_one_of cancel_row.types text) (is_one_of replace_row.types text)

by_fault : (names : NameLists) (fields : List Field) (o : Option Fault) → IsNoChange (request_by firm_rules names fields o)
by_fault names fields None = by_type names fields (value_of 35 fields)
by_fault names fields (Some f) = tt

-- by the rules of firms none does
pub no_change : (names : NameLists) (body : List ℕ) → IsNoChange (request_under firm_rules names body)
no_change names body = by_fault names (fields_of body) (session_fault_of firm_rules names body)
