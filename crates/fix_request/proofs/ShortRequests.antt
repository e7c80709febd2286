-- The texts of each request are short: ids and symbols are names, and the time has at most 24 bytes.
use Rattle.std.proofs.Common.{◌≡◌, ℕ, ◌≤◌, Bool, true, false, cond, ◌||◌, ◌&&◌, List, length, Option, Some, None, Result, Ok, Err, refl, subst, arith, eqb-true}
use Rattle.std.proofs.lemmas.Bool.{and_parts}
use Rattle.std.specs.Prelude.{◌==◌, IfOk, MatchResult}
use Rattle.std.specs.Option.{ok_or}
use Rattle.gx_base.specs.NameLists.{NameLists}
use Rattle.gx_base.specs.Texts.{is_name, is_time_text, is_time_of_seconds, has_byte, has_digits}
use Rattle.fix_request.specs.Requests.{no_time, request_in, request_of}
use Rattle.fix_request.specs.Inner.Values.{Values}
use Rattle.fix_request.specs.Inner.Rules.{◌>>=◌, result_map, where_passes, needed, formed, listed}
use Rattle.fix_request.specs.Inner.Orders.{side_of, kind_of, life_of, symbol_tag, quantity_or_zero, price_if_read, OrderForms, OrderTexts, order_texts, order_forms, new_of, cancel_of, replace_of}
use Rattle.gx_base.specs.Numbers.{quantity_of}
use Rattle.fix_frame.specs.Grammar.{body_in}
use Rattle.product_file.specs.Products.{ProductLists}
use Rattle.fix_request.proofs.Agree.{body_is}
use Rattle.fix_request.specs.MessageTable.{named_of}
use Rattle.fix_request.specs.Inner.Requests.{checked_values, firm_of, exchange_of, target_of, sequence_of, time_of, type_of, content_by, content_of, known, sender_in, content_or_refusal, or_refused, request_of_firm, status_of, change_of, is_change, request_of_values, request_of_body}
use Rattle.fix_request.specs.declared.fault.Fault.{Fault}
use Rattle.fix_request.specs.declared.message_type.MessageType.{MessageType}
use Rattle.fix_request.specs.declared.message_type.MessageType.TheVariants.{Session, New, Cancel, Replace, Trading}
use Rattle.fix_request.specs.declared.request.Sender.{Sender}
use Rattle.fix_request.specs.declared.request.NewOrder.{NewOrder}
use Rattle.fix_request.specs.declared.request.CancelOrder.{CancelOrder}
use Rattle.fix_request.specs.declared.request.ReplaceOrder.{ReplaceOrder}
use Rattle.fix_request.specs.declared.request.Refusal.{Refusal}
use Rattle.fix_request.specs.declared.request.Request.{Request}
use Rattle.fix_request.specs.declared.request.Request.TheVariants as request

abbrev pub HasShort : Request → Type 0
HasShort (request.New order) = (length order.sender.time ≤ 24) × ((is_name order.id ≡ true) × (is_name order.symbol ≡ true))
HasShort (request.Cancel order) = (length order.sender.time ≤ 24) × ((is_name order.id ≡ true) × (is_name order.old ≡ true))
HasShort (request.Replace order) = (length order.sender.time ≤ 24) × ((is_name order.id ≡ true) × (is_name order.old ≡ true))
HasShort (request.Session change) = length change.time ≤ 24
HasShort (request.Passed sender) = Unit {0}
HasShort (request.Refused refusal) = length refusal.time ≤ 24

ok-then : {A B E : Type 0} (P : B → Type 0) (r : Result A E) (next : A → Result B E) → ((a : A) → r ≡ Ok a → IfOk (next a) P) → IfOk (r >>= next) P
ok-then P (Ok a) next h = h a refl
ok-then P (Err e) next h = tt

ok-mapped : {A B E : Type 0} (P : B → Type 0) (f : A → B) (r : Result A E) → IfOk r (λ a. P (f a)) → IfOk (result_map f r) P
ok-mapped P f (Ok a) h = h
ok-mapped P f (Err e) h = tt

of-ok : {A E : Type 0} (P : A → Type 0) (r : Result A E) (a : A) → IfOk r P → r ≡ Ok a → P a
of-ok P r a h is = subst (λ (x : Result _ _). IfOk x P) is h

name-formed : (text id : List ℕ) (tag : ℕ) → formed tag (where_passes is_name text) ≡ Ok id → is_name id ≡ true
name-formed text id tag h =
    let go : (b : Bool) → is_name text ≡ b → formed tag (cond b (Some text) None) ≡ Ok id → is_name id ≡ true = elim [
      | true ↦ λ is k.
          let e : Ok text ≡ Ok id = k in
          let same : text ≡ id = cc in
          subst (λ (t : List ℕ). is_name t ≡ true) same is
      | false ↦ λ is k. absurd (let e : Err _ ≡ Ok id = k in cc)
    ] in go (is_name text) refl h

abbrev HasNamed : OrderForms → Type 0
HasNamed forms = is_name forms.symbol ≡ true

forms-named : (names : NameLists) (tag : ℕ) (texts : OrderTexts) → IfOk (order_forms names tag texts) HasNamed
unfolding order_forms
forms-named names tag texts =
    ok-then HasNamed (formed tag (where_passes is_name texts.symbol)) _ (λ symbol is.
    ok-then HasNamed (formed 38 (quantity_of texts.quantity)) _ (λ quantity _.
    ok-then HasNamed (price_if_read names (named_of names texts.symbol) 44 texts.price) _ (λ price _.
    ok-then HasNamed (price_if_read names (named_of names texts.symbol) 99 texts.trigger) _ (λ trigger _. name-formed texts.symbol symbol tag is))))

new-short : (names : NameLists) (sender : Sender) (values : Values) → length sender.time ≤ 24 → IfOk (new_of names sender values) (λ order. HasShort (request.New order))
unfolding new_of
new-short names sender values few =
    let P : NewOrder → Type 0 = λ order. HasShort (request.New order) in
    ok-then P (needed 11 values.id) _ (λ id_text _.
    ok-then P (order_texts values) _ (λ texts _.
    ok-then P (formed 11 (where_passes is_name id_text)) _ (λ id is.
    ok-then P (order_forms names (symbol_tag values) texts) _ (λ forms forms_are.
    ok-then P (quantity_or_zero 110 values.min) _ (λ min _.
    ok-then P (quantity_or_zero 210 values.show) _ (λ show _.
    ok-then P (listed 54 (side_of texts.side)) _ (λ side _.
    ok-then P (listed 40 (kind_of texts.kind)) _ (λ kind _.
    ok-then P (listed 59 (life_of values.life)) _ (λ life _.
    ok-then P (listed 44 forms.price) _ (λ price _.
    ok-then P (listed 99 forms.trigger) _ (λ trigger _.
    (few, (name-formed id_text id 11 is, of-ok HasNamed (order_forms names (symbol_tag values) texts) forms (forms-named names (symbol_tag values) texts) forms_are)))))))))))))

cancel-short : (sender : Sender) (values : Values) → length sender.time ≤ 24 → IfOk (cancel_of sender values) (λ order. HasShort (request.Cancel order))
unfolding cancel_of
cancel-short sender values few =
    let P : CancelOrder → Type 0 = λ order. HasShort (request.Cancel order) in
    ok-then P (needed 11 values.id) _ (λ id_text _.
    ok-then P (needed 41 values.old) _ (λ old_text _.
    ok-then P (formed 11 (where_passes is_name id_text)) _ (λ id is.
    ok-then P (formed 41 (where_passes is_name old_text)) _ (λ old old_is. (few, (name-formed id_text id 11 is, name-formed old_text old 41 old_is))))))

replace-short : (names : NameLists) (sender : Sender) (values : Values) → length sender.time ≤ 24 → IfOk (replace_of names sender values) (λ order. HasShort (request.Replace order))
unfolding replace_of
replace-short names sender values few =
    let P : ReplaceOrder → Type 0 = λ order. HasShort (request.Replace order) in
    ok-then P (needed 11 values.id) _ (λ id_text _.
    ok-then P (needed 41 values.old) _ (λ old_text _.
    ok-then P (order_texts values) _ (λ texts _.
    ok-then P (formed 11 (where_passes is_name id_text)) _ (λ id is.
    ok-then P (formed 41 (where_passes is_name old_text)) _ (λ old old_is.
    ok-then P (order_forms names (symbol_tag values) texts) _ (λ forms _.
    ok-then P (listed 54 (side_of texts.side)) _ (λ side _.
    ok-then P (listed 40 (kind_of texts.kind)) _ (λ kind _.
    ok-then P (listed 44 forms.price) _ (λ price _.
    ok-then P (listed 99 forms.trigger) _ (λ trigger _. (few, (name-formed id_text id 11 is, name-formed old_text old 41 old_is))))))))))))

content-by-short : (names : NameLists) (sender : Sender) (values : Values) (type : Option MessageType) → length sender.time ≤ 24 → IfOk (content_by names sender values type) HasShort
unfolding content_by
content-by-short names sender values (Some Session) few = tt
content-by-short names sender values (Some New) few = ok-mapped HasShort request.New (new_of names sender values) (new-short names sender values few)
content-by-short names sender values (Some Cancel) few = ok-mapped HasShort request.Cancel (cancel_of sender values) (cancel-short sender values few)
content-by-short names sender values (Some Replace) few = ok-mapped HasShort request.Replace (replace_of names sender values) (replace-short names sender values few)
content-by-short names sender values (Some Trading) few = tt
content-by-short names sender values None few = tt

content-short : (names : NameLists) (sender : Sender) (values : Values) → length sender.time ≤ 24 → IfOk (content_of names sender values) HasShort
unfolding content_of
content-short names sender values few = content-by-short names sender values (type_of values) few

-- ---- the sender's time

time-short : (text : List ℕ) → is_time_text text ≡ true → length text ≤ 24
time-short text is =
    let form = (and_parts (length text == 17 || (length text == 21 && has_byte text 17 46 && has_digits text 18 3)) (is_time_of_seconds text) is).0 in
    let go : (b c : Bool) → length text == 17 ≡ b → length text == 21 ≡ c → (b || (c && has_byte text 17 46 && has_digits text 18 3)) ≡ true → length text ≤ 24 = elim [
      | true ↦ λ c is_17 is_21 h. omega (arith, eqb-true (length text) 17 is_17)
      | false ↦ elim [ true ↦ λ is_17 is_21 h. omega (arith, eqb-true (length text) 21 is_21) | false ↦ λ is_17 is_21 h. absurd (let e : false ≡ true = h in cc) ]
    ] in go (length text == 17) (length text == 21) refl refl form

passed-short : (text time : List ℕ) (fault : Fault) → ok_or (where_passes is_time_text text) fault ≡ Ok time → length time ≤ 24
passed-short text time fault h =
    let go : (b : Bool) → is_time_text text ≡ b → ok_or (cond b (Some text) None) fault ≡ Ok time → length time ≤ 24 = elim [
      | true ↦ λ is k.
          let e : Ok text ≡ Ok time = k in
          let same : text ≡ time = cc in
          subst (λ (t : List ℕ). length t ≤ 24) same (time-short text is)
      | false ↦ λ is k. absurd (let e : Err _ ≡ Ok time = k in cc)
    ] in go (is_time_text text) refl h

ok-last : {A E : Type 0} (P : A → Type 0) (r : Result A E) → ((a : A) → r ≡ Ok a → P a) → IfOk r P
ok-last P (Ok a) h = h a refl
ok-last P (Err e) h = tt

abbrev IsShort : List ℕ → Type 0
IsShort text = length text ≤ 24

time_of-short : (values : Values) → IfOk (time_of values) IsShort
unfolding time_of
time_of-short values = ok-then IsShort (ok_or values.time _) _ (λ text _. ok-last IsShort (ok_or (where_passes is_time_text text) _) (λ time is. passed-short text time _ is))

-- an answer of which this holds, or a refusal whose time is short
abbrev IsGood : {A : Type 0} → (A → Type 0) → Result A Refusal → Type 0
IsGood P r = MatchResult r P (λ refusal. length refusal.time ≤ 24)

known-then : {A B : Type 0} (P : B → Type 0) (firm : Option ℕ) (seq : ℕ) (time : List ℕ) (r : Result A Fault) (next : A → Result B Refusal) → length time ≤ 24 → ((a : A) → r ≡ Ok a → IsGood P (next a)) → IsGood P (known firm seq time r >>= next)
known-then P firm seq time (Ok a) next few h = h a refl
known-then P firm seq time (Err f) next few h = few

known-last : {A : Type 0} (P : A → Type 0) (firm : Option ℕ) (seq : ℕ) (time : List ℕ) (r : Result A Fault) → length time ≤ 24 → IfOk r P → IsGood P (known firm seq time r)
known-last P firm seq time (Ok a) few h = h
known-last P firm seq time (Err f) few h = few

good-then : {A B : Type 0} (P : A → Type 0) (Q : B → Type 0) (r : Result A Refusal) (next : A → Result B Refusal) → IsGood P r → ((a : A) → P a → IsGood Q (next a)) → IsGood Q (r >>= next)
good-then P Q (Ok a) next h k = k a h
good-then P Q (Err refusal) next h k = h

abbrev HasShortTime : Sender → Type 0
HasShortTime sender = length sender.time ≤ 24

no_time-short : length no_time ≤ 24
no_time-short = omega arith

sender-short : (names : NameLists) (values : Values) → IsGood HasShortTime (sender_in names values)
unfolding sender_in
sender-short names values =
    known-then HasShortTime None 0 no_time (firm_of names values) _ no_time-short (λ firm _.
    known-then HasShortTime (Some firm) 0 no_time (target_of names values) _ no_time-short (λ target _.
    known-then HasShortTime (Some firm) 0 no_time (sequence_of values) _ no_time-short (λ seq _.
    known-then HasShortTime (Some firm) seq no_time (time_of values) _ no_time-short (λ time is. of-ok IsShort (time_of values) time (time_of-short values) is))))

firm-short : (names : NameLists) (values : Values) → IsGood HasShort (request_of_firm names values)
firm-short names values =
    good-then HasShortTime HasShort (sender_in names values) (content_or_refusal names values) (sender-short names values) (λ sender few.
    known-last HasShort (Some sender.firm) sender.seq sender.time (content_of names sender values) few (content-short names sender values few))

change-short : (names : NameLists) (values : Values) → IsGood HasShort (change_of names values)
unfolding change_of
change-short names values =
    known-then HasShort None 0 no_time (exchange_of names 4 49 values.sender) _ no_time-short (λ sender _.
    known-then HasShort None 0 no_time (target_of names values) _ no_time-short (λ target _.
    known-then HasShort None 0 no_time (sequence_of values) _ no_time-short (λ seq _.
    known-then HasShort None seq no_time (time_of values) _ no_time-short (λ time is.
    let few = of-ok IsShort (time_of values) time (time_of-short values) is in
    known-then HasShort None seq time (status_of values) _ few (λ to _. few)))))

-- by whether the message changes the trading session
by_change : (names : NameLists) (values : Values) (b : Bool) → IsGood HasShort (cond b (change_of names values) (request_of_firm names values))
by_change names values true = change-short names values
by_change names values false = firm-short names values

or-short : (r : Result Request Refusal) → IsGood HasShort r → HasShort (or_refused r)
or-short (Ok asked) h = h
or-short (Err refusal) h = h

body-short : (names : NameLists) (body : List ℕ) → HasShort (request_of_body names body)
body-short names body =
    or-short _ (known-then HasShort None 0 no_time (checked_values body) (request_of_values names) no_time-short (λ values _. by_change names values (is_change values)))

pub in-short : (names : NameLists) (body : List ℕ) → HasShort (request_in names body)
in-short names body = subst HasShort (body_is names body) (body-short names body)

pub request-short : (product : ProductLists) (frame : List ℕ) → HasShort (request_of product frame)
unfolding request_of
request-short product frame = in-short product.names (body_in frame)
