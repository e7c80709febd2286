-- What the bytes of one report say is what its event tells.
use Rattle.std.proofs.Common.{◌≡◌, ℕ, ◌+◌, ◌^◌, ◌<◌, ◌≤◌, Bool, true, false, cond, ◌&&◌, ◌||◌, List, [], ◌++◌, Option, Some, None, bytes_eq, codes, decimal, refl, sym, ap, ap₂, subst, ◌∙◌, inl, inr, arith}
use Rattle.std.proofs.lemmas.Bool.{cond-true, cond-false}
use Rattle.std.proofs.lemmas.Bool.Decides.{eqb_tells}
use Rattle.std.proofs.lemmas.Fmt.{decimal_is_IsNumeral}
use Rattle.std.specs.Prelude.{◌==◌, IfSome, is_some, unwrap_or}
use Rattle.std.specs.Str.Parse.{digits_value}
use Rattle.gx_base.specs.NameLists.{NameLists}
use Rattle.gx_base.specs.Line.{line_of}
use Rattle.gx_base.specs.declared.digits.TheConstants.{MOST_DIGITS}
use Rattle.gx_base.specs.declared.order.Order.{Order}
use Rattle.gx_base.specs.declared.event.Head.{Head}
use Rattle.gx_base.specs.declared.event.Cause.{Cause}
use Rattle.gx_base.specs.declared.event.NewFault.{NewFault}
use Rattle.gx_base.specs.declared.event.NewRefused.{NewRefused}
use Rattle.gx_base.specs.declared.event.Event.{Event}
use Rattle.gx_base.specs.declared.event.Event.TheVariants.{Accepted, Triggered, Fill, Cancelled, Expired, Replaced, RefusedNew, RefusedChange, RefusedSession}
use Rattle.fix_frame.specs.Grammar.{body_in}
use Rattle.fix_request.specs.Fields.{Field, fields_of}
use Rattle.order_kinds.specs.Balance.{Quantities, quantities_of, AddsUp, IsSpent, filled_in, cancelled_in, order_in, open_by, lots_in}
use Rattle.book_print.specs.LedgerText.{report_line, ledger_line}
use Rattle.line_parts.specs.Words.{line_feed}
use Rattle.stream_laws.specs.Names.{AreNames}
use Rattle.stream_laws.specs.Reading.{open_by_report, lots_by_report, value_in, text_in, number_in, is_execution, is_cancel, is_refusal, is_expiry, ReadsAsWhole, cancelled_in_report}
use Rattle.stream_laws.specs.Texts.{HasTexts}
use Rattle.stream_laws.specs.Told.{WritesQuantities, WritesWhatIsTold, lots_text, EndsWhole, LeavesNothing, line_read, ledger_line_read}
use Rattle.stream_laws.specs.Sums.{IsReadRight}
use Rattle.stream_laws.proofs.Said.{Says, IsOther, number_of, status_of, SaysWhatIsTold, said, said-refused, decimal-0}
use Rattle.stream_laws.proofs.Frames.{line-fields}

if-some : {A : Type 0} (P Q : A → Type 0) (o : Option A) → ((a : A) → P a → Q a) → IfSome o P → IfSome o Q
if-some P Q None f h = tt
if-some P Q (Some a) f h = f a h

-- ---- events that are no execution reports

no-lots : (event : Event) → quantities_of event ≡ None → lots_text event ≡ None
no-lots (Fill head o lots price step trade) h = absurd (let e : Some _ ≡ None = h in cc)
no-lots (Accepted head o) h = refl
no-lots (Triggered head o) h = refl
no-lots (Cancelled head o gone by cause) h = refl
no-lots (Expired head o gone) h = refl
no-lots (Replaced head o old before) h = refl
no-lots (RefusedNew head new fault) h = refl
no-lots (RefusedChange head id old number filled replace fault) h = refl
no-lots (RefusedSession head seq tag reason rule) h = refl

-- what no order has that is cancelled or that expires, an event has that cancels nothing
cancels-not : (P : Event → Type 0)
    → ((head : Head) (o : Order) (gone : ℕ) (by : Option (List ℕ)) (cause : Cause) → P (Cancelled head o gone by cause) → ⊥)
    → ((head : Head) (o : Order) (gone : ℕ) → P (Expired head o gone) → ⊥)
    → (event : Event) → P event → cancelled_in event ≡ 0
cancels-not P none kept (Cancelled head o gone by cause) h = absurd (none head o gone by cause h)
cancels-not P none kept (Expired head o gone) h = absurd (kept head o gone h)
cancels-not P none kept (Accepted head o) h = refl
cancels-not P none kept (Triggered head o) h = refl
cancels-not P none kept (Fill head o lots price step trade) h = refl
cancels-not P none kept (Replaced head o old before) h = refl
cancels-not P none kept (RefusedNew head new fault) h = refl
cancels-not P none kept (RefusedChange head id old number filled replace fault) h = refl
cancels-not P none kept (RefusedSession head seq tag reason rule) h = refl

no-cancel : (event : Event) → quantities_of event ≡ None → cancelled_in event ≡ 0
no-cancel event h = cancels-not (λ (e : Event). quantities_of e ≡ None) (λ head o gone by cause k. let e : Some _ ≡ None = k in cc) (λ head o gone k. let e : Some _ ≡ None = k in cc) event h

no-line : (event : Event) → quantities_of event ≡ None → ledger_line event ≡ []
no-line (Accepted head o) h = absurd (let e : Some _ ≡ None = h in cc)
no-line (Triggered head o) h = absurd (let e : Some _ ≡ None = h in cc)
no-line (Fill head o lots price step trade) h = absurd (let e : Some _ ≡ None = h in cc)
no-line (Cancelled head o gone by cause) h = absurd (let e : Some _ ≡ None = h in cc)
no-line (Expired head o gone) h = absurd (let e : Some _ ≡ None = h in cc)
no-line (Replaced head o old before) h = absurd (let e : Some _ ≡ None = h in cc)
no-line (RefusedNew head new fault) h = absurd (let e : Some _ ≡ None = h in cc)
no-line (RefusedChange head id old number filled replace fault) h = refl
no-line (RefusedSession head seq tag reason rule) h = refl

-- ---- the ledger's line of an event, by what it tells

told-line : (event : Event) → IfSome (quantities_of event) (λ q. ledger_line event ≡ report_line (number_of event) q)
told-line (Accepted head o) = refl
told-line (Triggered head o) = refl
told-line (Fill head o lots price step trade) = refl
told-line (Cancelled head o gone by cause) = refl
told-line (Expired head o gone) = refl
told-line (Replaced head o old before) = refl
told-line (RefusedNew head new fault) = refl
told-line (RefusedChange head id old number filled replace fault) = tt
told-line (RefusedSession head seq tag reason rule) = tt

abbrev words : List ℕ → List ℕ → List ℕ → List ℕ → List ℕ → List ℕ
words number ordered filled leaves gone =
    codes "#" ++ number
    ++ (codes " entered " ++ ordered
    ++ codes " filled " ++ filled
    ++ codes " open " ++ leaves
    ++ codes " cancelled " ++ gone
    ++ line_feed)

same-words : (n o f l g n' o' f' l' g' : List ℕ) → n ≡ n' → o ≡ o' → f ≡ f' → l ≡ l' → g ≡ g' → words n o f l g ≡ words n' o' f' l' g'
same-words n o f l g n' o' f' l' g' a b c d e =
    ap (λ (x : List ℕ). words x o f l g) a
    ∙ (ap (λ (x : List ℕ). words n' x f l g) b
    ∙ (ap (λ (x : List ℕ). words n' o' x l g) c
    ∙ (ap (λ (x : List ℕ). words n' o' f' x g) d ∙ ap (λ (x : List ℕ). words n' o' f' l' x) e)))

-- ---- numbers

read-number : (n : ℕ) (value : Option (List ℕ)) → n < 2 ^ 64 → value ≡ Some (decimal n) → digits_value 10 (unwrap_or value []) ≡ n
read-number n value small h = ap (λ (v : Option (List ℕ)). digits_value 10 (unwrap_or v [])) h ∙ (decimal_is_IsNumeral n small).1

-- ---- kinds

-- the kinds of an order that is cancelled and of one that expires
abbrev is_end : List ℕ → Bool
is_end kind = bytes_eq kind (codes "4") || bytes_eq kind (codes "C")

status-cancel : (event : Event) → is_end (status_of event) ≡ true → (gone : ℕ) → IfSome (quantities_of event) (λ q. q.cancelled ≡ gone) → IfSome (quantities_of event) (λ q. cancelled_in event ≡ gone)
status-cancel (Accepted head o) h gone is = absurd (let e : false ≡ true = h in cc)
status-cancel (Triggered head o) h gone is = absurd (let e : false ≡ true = h in cc)
status-cancel (Fill head o lots price step trade) h gone is =
    let go : (b : Bool) → is_end (cond b (codes "2") (codes "1")) ≡ true → 0 ≡ gone = elim [ true ↦ λ k. absurd (let e : false ≡ true = k in cc) | false ↦ λ k. absurd (let e : false ≡ true = k in cc) ] in
    go (o.leaves == 0) h
status-cancel (Cancelled head o lots by cause) h gone is = is
status-cancel (Expired head o lots) h gone is = is
status-cancel (Replaced head o old before) h gone is = absurd (let e : false ≡ true = h in cc)
status-cancel (RefusedNew head new fault) h gone is = absurd (let e : false ≡ true = h in cc)
status-cancel (RefusedChange head id old number filled replace fault) h gone is = tt
status-cancel (RefusedSession head seq tag reason rule) h gone is = tt

-- any other kind cancels nothing
status-other : (event : Event) → is_end (status_of event) ≡ false → cancelled_in event ≡ 0
status-other event h =
    cancels-not (λ (e : Event). is_end (status_of e) ≡ false) (λ head o gone by cause k. let e : true ≡ false = k in cc) (λ head o gone k. let e : true ≡ false = k in cc) event h

-- the kind 8 is of an order of which nothing is filled or open, and all of it ended
record EndsAll (q : Quantities) : Type 0 where
  filled : q.filled ≡ 0
  leaves : q.leaves ≡ 0
  gone : q.cancelled ≡ q.ordered

status-refused : (event : Event) → bytes_eq (status_of event) (codes "8") ≡ true → IfSome (quantities_of event) EndsAll
status-refused (Accepted head o) h = absurd (let e : false ≡ true = h in cc)
status-refused (Triggered head o) h = absurd (let e : false ≡ true = h in cc)
status-refused (Fill head o lots price step trade) h =
    let go : (b : Bool) → bytes_eq (cond b (codes "2") (codes "1")) (codes "8") ≡ true → ⊥ = elim [ true ↦ λ k. let e : false ≡ true = k in cc | false ↦ λ k. let e : false ≡ true = k in cc ] in
    absurd (go (o.leaves == 0) h)
status-refused (Cancelled head o gone by cause) h = absurd (let e : false ≡ true = h in cc)
status-refused (Expired head o gone) h = absurd (let e : false ≡ true = h in cc)
status-refused (Replaced head o old before) h = absurd (let e : false ≡ true = h in cc)
status-refused (RefusedNew head new fault) h = record { filled = refl; leaves = refl; gone = refl }
status-refused (RefusedChange head id old number filled replace fault) h = tt
status-refused (RefusedSession head seq tag reason rule) h = tt

-- the kind C is of an order of which nothing is open any more
status-expired : (event : Event) → bytes_eq (status_of event) (codes "C") ≡ true → IsSpent event → IfSome (quantities_of event) (λ q. q.leaves ≡ 0)
status-expired (Accepted head o) h spent = absurd (let e : false ≡ true = h in cc)
status-expired (Triggered head o) h spent = absurd (let e : false ≡ true = h in cc)
status-expired (Fill head o lots price step trade) h spent =
    let go : (b : Bool) → bytes_eq (cond b (codes "2") (codes "1")) (codes "C") ≡ true → ⊥ = elim [ true ↦ λ k. let e : false ≡ true = k in cc | false ↦ λ k. let e : false ≡ true = k in cc ] in
    absurd (go (o.leaves == 0) h)
status-expired (Cancelled head o gone by cause) h spent = absurd (let e : false ≡ true = h in cc)
status-expired (Expired head o gone) h spent = spent
status-expired (Replaced head o old before) h spent = absurd (let e : false ≡ true = h in cc)
status-expired (RefusedNew head new fault) h spent = absurd (let e : false ≡ true = h in cc)
status-expired (RefusedChange head id old number filled replace fault) h spent = tt
status-expired (RefusedSession head seq tag reason rule) h spent = tt

-- ---- orders

no-order : (event : Event) → quantities_of event ≡ None → order_in event ≡ None
no-order (Accepted head o) h = absurd (let e : Some _ ≡ None = h in cc)
no-order (Triggered head o) h = absurd (let e : Some _ ≡ None = h in cc)
no-order (Fill head o lots price step trade) h = absurd (let e : Some _ ≡ None = h in cc)
no-order (Cancelled head o gone by cause) h = absurd (let e : Some _ ≡ None = h in cc)
no-order (Expired head o gone) h = absurd (let e : Some _ ≡ None = h in cc)
no-order (Replaced head o old before) h = absurd (let e : Some _ ≡ None = h in cc)
no-order (RefusedNew head new fault) h = refl
no-order (RefusedChange head id old number filled replace fault) h = refl
no-order (RefusedSession head seq tag reason rule) h = refl

number-below : (event : Event) → IfSome (order_in event) (λ o. o.number < 2 ^ 64) → number_of event < 2 ^ 64
number-below (Accepted head o) h = h
number-below (Triggered head o) h = h
number-below (Fill head o lots price step trade) h = h
number-below (Cancelled head o gone by cause) h = h
number-below (Expired head o gone) h = h
number-below (Replaced head o old before) h = h
number-below (RefusedNew head new fault) h = omega arith
number-below (RefusedChange head id old number filled replace fault) h = omega arith
number-below (RefusedSession head seq tag reason rule) h = omega arith

told-open : (event : Event) (number leaves : ℕ) → 1 ≤ number → IfSome (quantities_of event) (λ q. cond (number_of event == number) q.leaves leaves ≡ open_by number (order_in event) leaves)
told-open (Accepted head o) number leaves some = refl
told-open (Triggered head o) number leaves some = refl
told-open (Fill head o lots price step trade) number leaves some = refl
told-open (Cancelled head o gone by cause) number leaves some = refl
told-open (Expired head o gone) number leaves some = refl
told-open (Replaced head o old before) number leaves some = refl
told-open (RefusedNew head new fault) number leaves some =
    elim (eqb_tells 0 number) [ inl t ↦ absurd (omega (arith, some, t.1)) | inr t ↦ cond-false (0 == number) 0 leaves t.0 ]
told-open (RefusedChange head id old own filled replace fault) number leaves some = tt
told-open (RefusedSession head seq tag reason rule) number leaves some = tt

either : (b : Bool) (n : ℕ) → cond b n n ≡ n
either true n = refl
either false n = refl

-- the lots that an event tells of an order, where this says whether it is that order
told-lots : (event : Event) (number : ℕ) (b : Bool) → IfSome (order_in event) (λ o. b ≡ (o.number == number)) → cond b (filled_in event) 0 ≡ lots_in number event
told-lots (Fill head o lots price step trade) number b is = ap (λ (x : Bool). cond x lots 0) is
told-lots (Accepted head o) number b is = either b 0
told-lots (Triggered head o) number b is = either b 0
told-lots (Cancelled head o gone by cause) number b is = either b 0
told-lots (Expired head o gone) number b is = either b 0
told-lots (Replaced head o old before) number b is = either b 0
told-lots (RefusedNew head new fault) number b is = either b 0
told-lots (RefusedChange head id old own filled replace fault) number b is = either b 0
told-lots (RefusedSession head seq tag reason rule) number b is = either b 0

own-number : (event : Event) (number n : ℕ) → n ≡ number_of event → IfSome (order_in event) (λ o. (n == number) ≡ (o.number == number))
own-number (Accepted head o) number n h = ap (λ (x : ℕ). x == number) h
own-number (Triggered head o) number n h = ap (λ (x : ℕ). x == number) h
own-number (Fill head o lots price step trade) number n h = ap (λ (x : ℕ). x == number) h
own-number (Cancelled head o gone by cause) number n h = ap (λ (x : ℕ). x == number) h
own-number (Expired head o gone) number n h = ap (λ (x : ℕ). x == number) h
own-number (Replaced head o old before) number n h = ap (λ (x : ℕ). x == number) h
own-number (RefusedNew head new fault) number n h = tt
own-number (RefusedChange head id old own filled replace fault) number n h = tt
own-number (RefusedSession head seq tag reason rule) number n h = tt

told-filled : (event : Event) (lots : ℕ → ℕ) → 1 ≤ number_of event → IfSome (order_in event) (λ o. o.filled ≡ lots o.number) → IfSome (quantities_of event) (λ q. q.filled ≡ lots (number_of event))
told-filled (Accepted head o) lots some h = h
told-filled (Triggered head o) lots some h = h
told-filled (Fill head o traded price step trade) lots some h = h
told-filled (Cancelled head o gone by cause) lots some h = h
told-filled (Expired head o gone) lots some h = h
told-filled (Replaced head o old before) lots some h = h
told-filled (RefusedNew head new fault) lots some h = absurd (let none : 1 ≤ 0 = some in omega (arith, none))
told-filled (RefusedChange head id old number filled replace fault) lots some h = tt
told-filled (RefusedSession head seq tag reason rule) lots some h = tt

-- ---- one report

module _ (names : NameLists) (are : AreNames names) (event : Event) (texts : HasTexts event) where
  abbrev line : List ℕ
  line = line_of names event

  abbrev SaysOf : Quantities → Type 0
  SaysOf q = Says (fields_of (body_in line)) (decimal (number_of event)) (decimal q.ordered) (decimal q.filled) (decimal q.leaves) (decimal q.cancelled) (status_of event) (lots_text event)

  says : SaysWhatIsTold (fields_of (body_in line)) event
  says = subst (λ (fs : List Field). SaysWhatIsTold fs event) (sym (line-fields names are event texts)) (said names event)

  other : quantities_of event ≡ None → IsOther (fields_of (body_in line))
  other h = subst IsOther (sym (line-fields names are event texts)) (said-refused names event h)

  -- it is one of the two
  by-kind : (P : Type 0) → ((q : Quantities) → quantities_of event ≡ Some q → SaysOf q → P) → (quantities_of event ≡ None → IsOther (fields_of (body_in line)) → P) → P
  by-kind P some none =
      let go : (o : Option Quantities) → quantities_of event ≡ o → IfSome o SaysOf → P = elim [ None ↦ λ is h. none is (other is) | Some q ↦ λ is h. some q is h ] in
      go (quantities_of event) refl says

  of-quantities : (P : Quantities → Type 0) (q : Quantities) → quantities_of event ≡ Some q → IfSome (quantities_of event) P → P q
  of-quantities P q is h = subst (λ (o : Option Quantities). IfSome o P) is h

  execution : (q : Quantities) → SaysOf q → is_execution line ≡ true
  execution q s = ap (λ (v : Option (List ℕ)). bytes_eq (unwrap_or v []) (codes "8")) s.type

  pub writes-told : WritesWhatIsTold line event
  writes-told =
      if-some SaysOf (WritesQuantities line) (quantities_of event)
      (λ q s. record { ordered = s.says_ordered; filled = s.says_filled; leaves = s.says_leaves; cancelled = s.says_gone }) says

  pub writes-kind : is_execution line ≡ is_some (quantities_of event)
  writes-kind =
      by-kind (is_execution line ≡ is_some (quantities_of event))
      (λ q is s. execution q s ∙ sym (ap is_some is))
      (λ is o. o.type ∙ sym (ap is_some is))

  pub writes-lots : value_in 32 line ≡ lots_text event
  writes-lots = by-kind (value_in 32 line ≡ lots_text event) (λ q is s. s.says_lots) (λ is o. o.lots ∙ sym (no-lots event is))

  pub writes-line : ledger_line event ≡ ledger_line_read line
  writes-line =
      by-kind (ledger_line event ≡ ledger_line_read line)
      (λ q is s.
      let text = λ (v : Option (List ℕ)). unwrap_or v [] in
      let read : line_read line ≡ report_line (number_of event) q =
      same-words (text_in 37 line) (text_in 38 line) (text_in 14 line) (text_in 151 line) (text_in 9003 line) _ _ _ _ _
      (ap text s.says_number) (ap text s.says_ordered) (ap text s.says_filled) (ap text s.says_leaves) (ap text s.says_gone) in
      of-quantities (λ (p : Quantities). ledger_line event ≡ report_line (number_of event) p) q is (told-line event)
      ∙ (sym read ∙ sym (cond-true (is_execution line) (line_read line) [] (execution q s))))
      (λ is o. no-line event is ∙ sym (cond-false (is_execution line) (line_read line) [] o.type))

  ends-all : (q : Quantities) → SaysOf q → EndsAll q → EndsWhole line
  ends-all q s e =
      let zero_is = ap Some decimal-0 in
      record {
        filled = s.says_filled ∙ (ap (λ (n : ℕ). Some (decimal n)) e.filled ∙ zero_is);
        leaves = s.says_leaves ∙ (ap (λ (n : ℕ). Some (decimal n)) e.leaves ∙ zero_is);
        cancelled = s.says_gone ∙ (ap (λ (n : ℕ). Some (decimal n)) e.gone ∙ sym s.says_ordered);
      }

  status-read : (q : Quantities) (kind : List ℕ) → SaysOf q → (is_execution line && bytes_eq (text_in 150 line) kind) ≡ bytes_eq (status_of event) kind
  status-read q kind s =
      ap (λ (b : Bool). b && bytes_eq (text_in 150 line) kind) (execution q s) ∙ ap (λ (v : Option (List ℕ)). bytes_eq (unwrap_or v []) kind) s.says_status

  no-status : (kind : List ℕ) → IsOther (fields_of (body_in line)) → (is_execution line && bytes_eq (text_in 150 line) kind) ≡ false
  no-status kind o = ap (λ (b : Bool). b && bytes_eq (text_in 150 line) kind) o.type

  false-true : (b : Bool) → b ≡ false → b ≡ true → ⊥
  false-true b f t = let e : false ≡ true = sym f ∙ t in cc

  refused-whole : is_refusal line ≡ true → EndsWhole line
  refused-whole h =
      by-kind (EndsWhole line)
      (λ q is s. ends-all q s (of-quantities EndsAll q is (status-refused event (sym (status-read q (codes "8") s) ∙ h))))
      (λ is o. absurd (false-true (is_refusal line) (no-status (codes "8") o) h))

  expired-leaves : IsSpent event → is_expiry line ≡ true → LeavesNothing line
  expired-leaves spent h =
      by-kind (LeavesNothing line)
      (λ q is s.
      let none = of-quantities (λ (p : Quantities). p.leaves ≡ 0) q is (status-expired event (sym (status-read q (codes "C") s) ∙ h) spent) in
      s.says_leaves ∙ (ap (λ (n : ℕ). Some (decimal n)) none ∙ ap Some decimal-0))
      (λ is o. absurd (false-true (is_expiry line) (no-status (codes "C") o) h))

  -- ---- read as numbers, where they are small

  module _ (small : IfSome (quantities_of event) (λ q. q.ordered < 10 ^ MOST_DIGITS)) (adds : AddsUp event) (few : filled_in event < 10 ^ MOST_DIGITS) where
    whole : is_execution line ≡ true → ReadsAsWhole line
    whole h =
        by-kind (ReadsAsWhole line)
        (λ q is s.
        let below = of-quantities (λ (p : Quantities). p.ordered < 10 ^ MOST_DIGITS) q is small in
        let sum = of-quantities (λ (p : Quantities). p.ordered ≡ p.filled + (p.leaves + p.cancelled)) q is adds in
        let one = read-number q.ordered _ (omega (arith, below)) s.says_ordered in
        let two = read-number q.filled _ (omega (arith, below, sum)) s.says_filled in
        let three = read-number q.leaves _ (omega (arith, below, sum)) s.says_leaves in
        let four = read-number q.cancelled _ (omega (arith, below, sum)) s.says_gone in
        omega (arith, sum, one, two, three, four))
        (λ is o. absurd (false-true (is_execution line) o.type h))

    pub read-right : IsSpent event → IsReadRight line
    read-right spent = record { whole = whole; refused = refused-whole; expired = expired-leaves spent }

    pub read-lots : number_in 32 line ≡ filled_in event
    read-lots = lots-as event few writes-lots
      where
        lots-as : (e : Event) → filled_in e < 10 ^ MOST_DIGITS → value_in 32 line ≡ lots_text e → number_in 32 line ≡ filled_in e
        lots-as (Fill head o lots price step trade) below h = read-number lots _ (omega (arith, below)) h
        lots-as (Accepted head o) below h = ap (λ (v : Option (List ℕ)). digits_value 10 (unwrap_or v [])) h
        lots-as (Triggered head o) below h = ap (λ (v : Option (List ℕ)). digits_value 10 (unwrap_or v [])) h
        lots-as (Cancelled head o gone by cause) below h = ap (λ (v : Option (List ℕ)). digits_value 10 (unwrap_or v [])) h
        lots-as (Expired head o gone) below h = ap (λ (v : Option (List ℕ)). digits_value 10 (unwrap_or v [])) h
        lots-as (Replaced head o old before) below h = ap (λ (v : Option (List ℕ)). digits_value 10 (unwrap_or v [])) h
        lots-as (RefusedNew head new fault) below h = ap (λ (v : Option (List ℕ)). digits_value 10 (unwrap_or v [])) h
        lots-as (RefusedChange head id old number filled replace fault) below h = ap (λ (v : Option (List ℕ)). digits_value 10 (unwrap_or v [])) h
        lots-as (RefusedSession head seq tag reason rule) below h = ap (λ (v : Option (List ℕ)). digits_value 10 (unwrap_or v [])) h

    pub read-cancelled : cancelled_in_report line ≡ cancelled_in event
    read-cancelled =
        by-kind (cancelled_in_report line ≡ cancelled_in event)
        (λ q is s.
        let below = of-quantities (λ (p : Quantities). p.ordered < 10 ^ MOST_DIGITS) q is small in
        let sum = of-quantities (λ (p : Quantities). p.ordered ≡ p.filled + (p.leaves + p.cancelled)) q is adds in
        let gone = read-number q.cancelled _ (omega (arith, below, sum)) s.says_gone in
        let same = ap₂ (λ (a b : Bool). a || b) (status-read q (codes "4") s) (status-read q (codes "C") s) in
        let go : (b : Bool) → is_end (status_of event) ≡ b → cancelled_in_report line ≡ cancelled_in event = elim [
          | true ↦ λ k.
              let here = of-quantities (λ (p : Quantities). cancelled_in event ≡ q.cancelled) q is (status-cancel event k q.cancelled (subst (λ (o : Option Quantities). IfSome o (λ p. p.cancelled ≡ q.cancelled)) (sym is) refl)) in
              cond-true (is_cancel line || is_expiry line) (number_in 9003 line) 0 (same ∙ k) ∙ (gone ∙ sym here)
          | false ↦ λ k. cond-false (is_cancel line || is_expiry line) (number_in 9003 line) 0 (same ∙ k) ∙ sym (status-other event k)
        ] in go (is_end (status_of event)) refl)
        (λ is o.
        let neither = ap₂ (λ (a b : Bool). a || b) (no-status (codes "4") o) (no-status (codes "C") o) in
        cond-false (is_cancel line || is_expiry line) (number_in 9003 line) 0 neither ∙ sym (no-cancel event is))

    -- what it says is open of an order
    pub read-open : IfSome (order_in event) (λ o. o.number < 2 ^ 64) → (number leaves : ℕ) → 1 ≤ number → open_by_report number leaves line ≡ open_by number (order_in event) leaves
    read-open given number leaves some =
        by-kind (open_by_report number leaves line ≡ open_by number (order_in event) leaves)
        (λ q is s.
        let below = of-quantities (λ (p : Quantities). p.ordered < 10 ^ MOST_DIGITS) q is small in
        let sum = of-quantities (λ (p : Quantities). p.ordered ≡ p.filled + (p.leaves + p.cancelled)) q is adds in
        let open_ = read-number q.leaves _ (omega (arith, below, sum)) s.says_leaves in
        let known = number-below event given in
        let own : number_in 37 line ≡ number_of event = read-number (number_of event) _ known s.says_number in
        let as_read : open_by_report number leaves line ≡ cond (number_of event == number) q.leaves leaves =
        ap (λ (b : Bool). cond (b && (number_in 37 line == number)) (number_in 151 line) leaves) (execution q s)
        ∙ (ap (λ (n : ℕ). cond (n == number) (number_in 151 line) leaves) own ∙ ap (λ (n : ℕ). cond (number_of event == number) n leaves) open_) in
        as_read ∙ of-quantities (λ (p : Quantities). cond (number_of event == number) p.leaves leaves ≡ open_by number (order_in event) leaves) q is (told-open event number leaves some))
        (λ is o. ap (λ (b : Bool). cond (b && (number_in 37 line == number)) (number_in 151 line) leaves) o.type ∙ sym (ap (λ (x : Option Order). open_by number x leaves) (no-order event is)))

    -- what it says was traded of an order
    pub read-lots-of : IfSome (order_in event) (λ o. o.number < 2 ^ 64) → (number : ℕ) → lots_by_report number line ≡ lots_in number event
    read-lots-of given number =
        let b = number_in 37 line == number in
        let lots : lots_by_report number line ≡ cond b (filled_in event) 0 = ap (λ (n : ℕ). cond b n 0) read-lots in
        by-kind (lots_by_report number line ≡ lots_in number event)
        (λ q is s.
        let own : number_in 37 line ≡ number_of event = read-number (number_of event) _ (number-below event given) s.says_number in
        lots ∙ told-lots event number b (own-number event number (number_in 37 line) own))
        (λ is o. lots ∙ told-lots event number b (subst (λ (x : Option Order). IfSome x (λ o. b ≡ (o.number == number))) (sym (no-order event is)) tt))

    -- what it says is filled, where that is what the order was told of
    pub read-filled : IfSome (order_in event) (λ o. o.number < 2 ^ 64) → (lots : ℕ → ℕ) → IfSome (order_in event) (λ o. o.filled ≡ lots o.number) → is_execution line ≡ true → 1 ≤ number_in 37 line → number_in 14 line ≡ lots (number_in 37 line)
    read-filled given lots told h some =
        by-kind (number_in 14 line ≡ lots (number_in 37 line))
        (λ q is s.
        let below = of-quantities (λ (p : Quantities). p.ordered < 10 ^ MOST_DIGITS) q is small in
        let sum = of-quantities (λ (p : Quantities). p.ordered ≡ p.filled + (p.leaves + p.cancelled)) q is adds in
        let filled = read-number q.filled _ (omega (arith, below, sum)) s.says_filled in
        let own : number_in 37 line ≡ number_of event = read-number (number_of event) _ (number-below event given) s.says_number in
        filled
        ∙ (of-quantities (λ (p : Quantities). p.filled ≡ lots (number_of event)) q is (told-filled event lots (omega (arith, some, own)) told)
        ∙ ap lots (sym own)))
        (λ is o. absurd (false-true (is_execution line) o.type h))

-- the report of a refused order
pub refused-ends : (names : NameLists) (head : Head) (new : NewRefused) (fault : NewFault) → AreNames names → HasTexts (RefusedNew head new fault) → EndsWhole (line_of names (RefusedNew head new fault))
refused-ends names head new fault are texts =
    let event = RefusedNew head new fault in
    ends-all names are event texts (record { ordered = new.quantity; filled = 0; leaves = 0; cancelled = new.quantity }) (says names are event texts) (record { filled = refl; leaves = refl; gone = refl })
