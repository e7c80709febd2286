-- The texts of each request are short and end no field: ids and symbols are names, and the time is a value of a field.
use Rattle.std.proofs.Common.{◌≡◌, ℕ, ◌+◌, Bool, true, false, cond, ◌||◌, nat_le, List, [], ◌∷◌, drop, map, find, Option, Some, None, option_map, refl, ap, subst, ◌∙◌}
use Prim.Native.Nat.{zero, suc}
use Rattle.std.specs.Prelude.{◌==◌, unwrap_or}
use Rattle.std.specs.List.{list_any, AllByRecursion, onto_first, position_or_len}
use Rattle.std.specs.Option.{option_map_or}
use Rattle.gx_base.specs.NameLists.{NameLists}
use Rattle.fix_frame.specs.Grammar.{body_in}
use Rattle.product_file.specs.Products.{ProductLists}
use Rattle.fix_request.specs.Fields.{is_soh, is_equals_sign, texts_of, Field, field_of, fields_of}
use Rattle.fix_request.specs.Asked.{text_of, asked_by}
use Rattle.fix_request.specs.MessageTable.{Row, row_of}
use Rattle.fix_request.specs.SessionRules.{session_rules, session_fault_of}
use Rattle.fix_request.specs.Requests.{no_time, request_by, request_in, request_of}
use Rattle.fix_request.specs.ValidRequests.{IsValidIn}
use Rattle.fix_request.specs.declared.fault.Fault.{Fault}
use Rattle.fix_request.specs.declared.message_type.MessageType.{MessageType}
use Rattle.fix_request.specs.declared.message_type.MessageType.TheVariants.{Session, New, Cancel, Replace, Trading}
use Rattle.fix_request.specs.declared.request.Request.{Request}
use Rattle.fix_request.specs.declared.request.Request.TheVariants as request
use Rattle.fix_request.proofs.Agree.{body_is}
use Rattle.fix_request.proofs.ValidRequests.{body_holds}
use Rattle.fix_request.proofs.ShortRequests.{HasShort, in-short}
use Rattle.stream_laws.proofs.Values.{text-name}
use Rattle.stream_laws.proofs.Engine.{IsTextRequest}

-- ---- the value of a field has no byte that ends one

abbrev IsPlain : List ℕ → Type 0
IsPlain text = list_any is_soh text ≡ false

onto-plain : (c : ℕ) (texts : List (List ℕ)) → is_soh c ≡ false → AllByRecursion IsPlain texts → AllByRecursion IsPlain (onto_first c texts)
onto-plain c [] is h = (ap (λ (b : Bool). b || false) is, tt)
onto-plain c (text ∷ texts) is h = (ap (λ (b : Bool). b || list_any is_soh text) is ∙ h.0, h.1)

texts-plain : (body : List ℕ) → AllByRecursion IsPlain (texts_of body)
texts-plain [] = tt
texts-plain (c ∷ body) =
    let go : (b : Bool) → is_soh c ≡ b → AllByRecursion IsPlain (cond b ([] ∷ texts_of body) (onto_first c (texts_of body))) = elim [
      | true ↦ λ is. (refl, texts-plain body)
      | false ↦ λ is. onto-plain c (texts_of body) is (texts-plain body)
    ] in go (is_soh c) refl

or-right : (a b : Bool) → (a || b) ≡ false → b ≡ false
or-right true b h = absurd (let e : true ≡ false = h in cc)
or-right false b h = h

drop-plain : (n : ℕ) (text : List ℕ) → IsPlain text → IsPlain (drop n text)
drop-plain zero text h = h
drop-plain (suc n) [] h = refl
drop-plain (suc n) (c ∷ text) h = drop-plain n text (or-right (is_soh c) (list_any is_soh text) h)

abbrev HasPlain : Field → Type 0
HasPlain f = IsPlain f.value

fields-plain : (texts : List (List ℕ)) → AllByRecursion IsPlain texts → AllByRecursion HasPlain (map field_of texts)
fields-plain [] h = tt
fields-plain (text ∷ texts) h = (drop-plain (position_or_len is_equals_sign text + 1) text h.0, fields-plain texts h.1)

value-plain : (tag : ℕ) (fields : List Field) → AllByRecursion HasPlain fields → IsPlain (text_of tag fields)
value-plain tag [] h = refl
value-plain tag (f ∷ fields) h =
    let go : (b : Bool) → IsPlain (unwrap_or (option_map (λ (g : Field). g.value) (cond b (Some f) (find (λ (g : Field). g.tag == tag) fields))) []) = elim [ true ↦ h.0 | false ↦ value-plain tag fields h.1 ] in
    go (f.tag == tag)

-- the time of a request
abbrev time_in : Request → List ℕ
time_in (request.New order) = order.sender.time
time_in (request.Cancel order) = order.sender.time
time_in (request.Replace order) = order.sender.time
time_in (request.Session change) = change.time
time_in (request.Passed sender) = sender.time
time_in (request.Refused refusal) = refusal.time

asked-plain : (names : NameLists) (fields : List Field) (type : MessageType) → IsPlain (text_of 52 fields) → IsPlain (time_in (asked_by names fields type))
asked-plain names fields Session h = h
asked-plain names fields New h = h
asked-plain names fields Cancel h = h
asked-plain names fields Replace h = h
asked-plain names fields Trading h = h

by-plain : (names : NameLists) (fields : List Field) (fault : Option Fault) → IsPlain (text_of 52 fields) → IsPlain (time_in (request_by session_rules names fields fault))
by-plain names fields (Some fault) h =
    let go : (b : Bool) → IsPlain (cond b no_time (text_of 52 fields)) = elim [ true ↦ refl | false ↦ h ] in go (nat_le fault.rule 6)
by-plain names fields None h = asked-plain names fields (option_map_or (λ (r : Row). r.asks) (row_of session_rules.table fields) Session) h

in-plain : (names : NameLists) (body : List ℕ) → IsPlain (time_in (request_in names body))
in-plain names body = by-plain names (fields_of body) (session_fault_of session_rules names body) (value-plain 52 (fields_of body) (fields-plain (texts_of body) (texts-plain body)))

-- ---- all of a request

all-text : (names : NameLists) (asked : Request) → IsPlain (time_in asked) → HasShort asked → IsValidIn names asked → IsTextRequest asked
all-text names (request.New order) plain short valid = (record { short = short.0; plain = plain }, (text-name order.id short.1.0, (text-name order.symbol short.1.1, valid.quantity)))
all-text names (request.Cancel order) plain short valid = (record { short = short.0; plain = plain }, (text-name order.id short.1.0, text-name order.old short.1.1))
all-text names (request.Replace order) plain short valid = (record { short = short.0; plain = plain }, (text-name order.id short.1.0, (text-name order.old short.1.1, valid.quantity)))
all-text names (request.Session change) plain short valid = record { short = short; plain = plain }
all-text names (request.Passed sender) plain short valid = tt
all-text names (request.Refused refusal) plain short valid = record { short = short; plain = plain }

in-text : (names : NameLists) (body : List ℕ) → IsTextRequest (request_in names body)
in-text names body =
    all-text names (request_in names body) (in-plain names body) (in-short names body) (subst (IsValidIn names) (body_is names body) (body_holds names body))

pub request-is-text : (product : ProductLists) (frame : List ℕ) → IsTextRequest (request_of product frame)
unfolding request_of
request-is-text product frame = in-text product.names (body_in frame)
