-- The fields of each report.
use Rattle.std.proofs.Common.{◌≡◌, ℕ, ◌≤◌, Bool, true, false, cond, List, [], ◌∷◌, ◌++◌, Option, Some, None, codes, decimal, refl, subst, lit≤}
use Rattle.std.specs.Prelude.{◌==◌}
use Prim.Native.String.{String}
use Rattle.gx_base.specs.Frames.{field}
use Rattle.gx_base.specs.NameLists.{NameLists}
use Rattle.gx_base.specs.Line.{addressee, instrument_name, decimals_of, side_text, kind_text, life_text, step_text, fill_status, fault_text, reject_reason, cause_text, change_text, change_reason, change_status, response_text, number_text, rule_text, line_head, field_if, id_fields, report_fields, price_fields, order_fields, order_front, state_fields, trade_fields, cancel_id, cancelled_id, refused_fields, wanted_fields, nothing_fields, request_fields, body_of}
use Rattle.gx_base.specs.Numbers.{price_text}
use Rattle.gx_base.specs.declared.price.Price.{Price}
use Rattle.gx_base.specs.declared.order.Order.{Order}
use Rattle.gx_base.specs.declared.order.Side.{Side}
use Rattle.gx_base.specs.declared.order.Side.TheVariants.{Buy, Sell}
use Rattle.gx_base.specs.declared.order.Kind.{Kind}
use Rattle.gx_base.specs.declared.order.Kind.TheVariants.{Limit, Market, StopLimit}
use Rattle.gx_base.specs.declared.order.Life.{Life}
use Rattle.gx_base.specs.declared.order.Life.TheVariants.{Day, Gtc, Fak, Fok}
use Rattle.gx_base.specs.declared.event.StepName.{StepName}
use Rattle.gx_base.specs.declared.event.StepName.TheVariants.{Top, Lmm, Split, ProRata, Leveling, Fifo}
use Rattle.gx_base.specs.declared.event.NewFault.{NewFault}
use Rattle.gx_base.specs.declared.event.NewFault.TheVariants as faults
use Rattle.gx_base.specs.declared.event.NewRefused.{NewRefused}
use Rattle.gx_base.specs.declared.event.Cause.{Cause}
use Rattle.gx_base.specs.declared.event.Cause.TheVariants as causes
use Rattle.gx_base.specs.declared.event.ChangeFault.{ChangeFault}
use Rattle.gx_base.specs.declared.event.ChangeFault.TheVariants as changes
use Rattle.gx_base.specs.declared.event.Head.{Head}
use Rattle.gx_base.specs.declared.event.Event.{Event}
use Rattle.gx_base.specs.declared.event.Event.TheVariants.{Accepted, Triggered, Fill, Cancelled, Expired, Replaced, RefusedNew, RefusedChange, RefusedSession}
use Rattle.fix_request.specs.Fields.{Field}
use Rattle.stream_laws.specs.Names.{AreNames}
use Rattle.stream_laws.specs.Texts.{HasTexts}
use Rattle.stream_laws.proofs.Values.{IsValue, value-text, value-decimal, value-price, text-name, text-addressee, text-instrument_name, few-decimals, short}
use Rattle.stream_laws.proofs.Fields.{at, IsTag, AreFields, no-fields, more-fields, one-field, then-field, EndsAField, ends-field, ends-behind}

-- ---- tags

tag6 : IsTag "6" 6
tag6 = record { few = lit≤ tt; plain = refl; reads = λ v. refl }

tag11 : IsTag "11" 11
tag11 = record { few = lit≤ tt; plain = refl; reads = λ v. refl }

tag14 : IsTag "14" 14
tag14 = record { few = lit≤ tt; plain = refl; reads = λ v. refl }

tag17 : IsTag "17" 17
tag17 = record { few = lit≤ tt; plain = refl; reads = λ v. refl }

tag20 : IsTag "20" 20
tag20 = record { few = lit≤ tt; plain = refl; reads = λ v. refl }

tag31 : IsTag "31" 31
tag31 = record { few = lit≤ tt; plain = refl; reads = λ v. refl }

tag32 : IsTag "32" 32
tag32 = record { few = lit≤ tt; plain = refl; reads = λ v. refl }

tag34 : IsTag "34" 34
tag34 = record { few = lit≤ tt; plain = refl; reads = λ v. refl }

tag35 : IsTag "35" 35
tag35 = record { few = lit≤ tt; plain = refl; reads = λ v. refl }

tag37 : IsTag "37" 37
tag37 = record { few = lit≤ tt; plain = refl; reads = λ v. refl }

tag38 : IsTag "38" 38
tag38 = record { few = lit≤ tt; plain = refl; reads = λ v. refl }

tag39 : IsTag "39" 39
tag39 = record { few = lit≤ tt; plain = refl; reads = λ v. refl }

tag40 : IsTag "40" 40
tag40 = record { few = lit≤ tt; plain = refl; reads = λ v. refl }

tag41 : IsTag "41" 41
tag41 = record { few = lit≤ tt; plain = refl; reads = λ v. refl }

tag44 : IsTag "44" 44
tag44 = record { few = lit≤ tt; plain = refl; reads = λ v. refl }

tag45 : IsTag "45" 45
tag45 = record { few = lit≤ tt; plain = refl; reads = λ v. refl }

tag49 : IsTag "49" 49
tag49 = record { few = lit≤ tt; plain = refl; reads = λ v. refl }

tag52 : IsTag "52" 52
tag52 = record { few = lit≤ tt; plain = refl; reads = λ v. refl }

tag54 : IsTag "54" 54
tag54 = record { few = lit≤ tt; plain = refl; reads = λ v. refl }

tag55 : IsTag "55" 55
tag55 = record { few = lit≤ tt; plain = refl; reads = λ v. refl }

tag56 : IsTag "56" 56
tag56 = record { few = lit≤ tt; plain = refl; reads = λ v. refl }

tag58 : IsTag "58" 58
tag58 = record { few = lit≤ tt; plain = refl; reads = λ v. refl }

tag59 : IsTag "59" 59
tag59 = record { few = lit≤ tt; plain = refl; reads = λ v. refl }

tag60 : IsTag "60" 60
tag60 = record { few = lit≤ tt; plain = refl; reads = λ v. refl }

tag99 : IsTag "99" 99
tag99 = record { few = lit≤ tt; plain = refl; reads = λ v. refl }

tag102 : IsTag "102" 102
tag102 = record { few = lit≤ tt; plain = refl; reads = λ v. refl }

tag103 : IsTag "103" 103
tag103 = record { few = lit≤ tt; plain = refl; reads = λ v. refl }

tag150 : IsTag "150" 150
tag150 = record { few = lit≤ tt; plain = refl; reads = λ v. refl }

tag151 : IsTag "151" 151
tag151 = record { few = lit≤ tt; plain = refl; reads = λ v. refl }

tag371 : IsTag "371" 371
tag371 = record { few = lit≤ tt; plain = refl; reads = λ v. refl }

tag373 : IsTag "373" 373
tag373 = record { few = lit≤ tt; plain = refl; reads = λ v. refl }

tag434 : IsTag "434" 434
tag434 = record { few = lit≤ tt; plain = refl; reads = λ v. refl }

tag9001 : IsTag "9001" 9001
tag9001 = record { few = lit≤ tt; plain = refl; reads = λ v. refl }

tag9002 : IsTag "9002" 9002
tag9002 = record { few = lit≤ tt; plain = refl; reads = λ v. refl }

tag9003 : IsTag "9003" 9003
tag9003 = record { few = lit≤ tt; plain = refl; reads = λ v. refl }

-- ---- codes and words

value-side : (side : Side) → IsValue (side_text side)
value-side Buy = short _ refl refl
value-side Sell = short _ refl refl

value-kind : (kind : Kind) → IsValue (kind_text kind)
value-kind Limit = short _ refl refl
value-kind Market = short _ refl refl
value-kind StopLimit = short _ refl refl

value-life : (life : Life) → IsValue (life_text life)
value-life Day = short _ refl refl
value-life Gtc = short _ refl refl
value-life Fak = short _ refl refl
value-life Fok = short _ refl refl

value-step : (step : StepName) → IsValue (step_text step)
value-step Top = short _ refl refl
value-step Lmm = short _ refl refl
value-step Split = short _ refl refl
value-step ProRata = short _ refl refl
value-step Leveling = short _ refl refl
value-step Fifo = short _ refl refl

value-cond : (b : Bool) (x y : List ℕ) → IsValue x → IsValue y → IsValue (cond b x y)
value-cond true x y p q = p
value-cond false x y p q = q

value-status : (leaves : ℕ) → IsValue (fill_status leaves)
value-status leaves = value-cond (leaves == 0) _ _ (short _ refl refl) (short _ refl refl)

value-fault : (fault : NewFault) → IsValue (fault_text fault)
value-fault faults.Closed = short _ refl refl
value-fault faults.Symbol = short _ refl refl
value-fault faults.Duplicate = short _ refl refl
value-fault faults.Quantity = short _ refl refl
value-fault faults.Tick = short _ refl refl
value-fault faults.StopLimit = short _ refl refl
value-fault faults.StopReached = short _ refl refl
value-fault faults.MinQty = short _ refl refl
value-fault faults.Show = short _ refl refl
value-fault faults.BookFull = short _ refl refl
value-fault faults.NoMarket = short _ refl refl

value-reason : (fault : NewFault) → IsValue (reject_reason fault)
value-reason faults.Closed = short _ refl refl
value-reason faults.Symbol = short _ refl refl
value-reason faults.Duplicate = short _ refl refl
value-reason faults.Quantity = short _ refl refl
value-reason faults.Tick = short _ refl refl
value-reason faults.StopLimit = short _ refl refl
value-reason faults.StopReached = short _ refl refl
value-reason faults.MinQty = short _ refl refl
value-reason faults.Show = short _ refl refl
value-reason faults.BookFull = short _ refl refl
value-reason faults.NoMarket = short _ refl refl

value-change : (fault : ChangeFault) → IsValue (change_text fault)
value-change changes.Closed = short _ refl refl
value-change changes.Unknown = short _ refl refl
value-change changes.Mismatch = short _ refl refl
value-change changes.Duplicate = short _ refl refl
value-change changes.Quantity = short _ refl refl
value-change changes.Filled = short _ refl refl
value-change changes.Tick = short _ refl refl
value-change changes.StopLimit = short _ refl refl
value-change changes.StopReached = short _ refl refl
value-change changes.Show = short _ refl refl

value-change_reason : (fault : ChangeFault) → IsValue (change_reason fault)
value-change_reason changes.Closed = short _ refl refl
value-change_reason changes.Unknown = short _ refl refl
value-change_reason changes.Mismatch = short _ refl refl
value-change_reason changes.Duplicate = short _ refl refl
value-change_reason changes.Quantity = short _ refl refl
value-change_reason changes.Filled = short _ refl refl
value-change_reason changes.Tick = short _ refl refl
value-change_reason changes.StopLimit = short _ refl refl
value-change_reason changes.StopReached = short _ refl refl
value-change_reason changes.Show = short _ refl refl

value-open : (filled : ℕ) → IsValue (cond (filled == 0) (codes "0") (codes "1"))
value-open filled = value-cond (filled == 0) _ _ (short _ refl refl) (short _ refl refl)

value-change_status : (fault : ChangeFault) (filled : ℕ) → IsValue (change_status fault filled)
value-change_status changes.Closed filled = short _ refl refl
value-change_status changes.Unknown filled = short _ refl refl
value-change_status changes.Mismatch filled = value-open filled
value-change_status changes.Duplicate filled = value-open filled
value-change_status changes.Quantity filled = value-open filled
value-change_status changes.Filled filled = value-open filled
value-change_status changes.Tick filled = value-open filled
value-change_status changes.StopLimit filled = value-open filled
value-change_status changes.StopReached filled = value-open filled
value-change_status changes.Show filled = value-open filled

value-response : (replace : Bool) → IsValue (response_text replace)
value-response replace = value-cond replace _ _ (short _ refl refl) (short _ refl refl)

value-number : (number : ℕ) → IsValue (number_text number)
value-number number = value-cond (number == 0) _ _ (short _ refl refl) (value-decimal number)

value-rule : (rule : ℕ) → IsValue (rule_text rule)
value-rule rule =
    value-cond (rule == 1) _ _ (short _ refl refl)
    (value-cond (rule == 2) _ _ (short _ refl refl)
    (value-cond (rule == 3) _ _ (short _ refl refl)
    (value-cond (rule == 4) _ _ (short _ refl refl)
    (value-cond (rule == 5) _ _ (short _ refl refl)
    (value-cond (rule == 6) _ _ (short _ refl refl)
    (value-cond (rule == 7) _ _ (short _ refl refl)
    (value-cond (rule == 8) _ _ (short _ refl refl)
    (value-cond (rule == 9) _ _ (short _ refl refl)
    (value-cond (rule == 10) _ _ (short _ refl refl) (short _ refl refl))))))))))

-- ---- the fields of each part

abbrev pub head_told : NameLists → List ℕ → Head → List Field
head_told names type head = at 35 type ∷ (at 34 (decimal head.line) ∷ (at 49 names.exchange ∷ (at 52 head.time ∷ (at 56 (addressee names head.firm) ∷ []))))

abbrev pub if_told : ℕ → Option (List ℕ) → List Field
if_told tag None = []
if_told tag (Some value) = at tag value ∷ []

abbrev pub id_told : ℕ → List ℕ → Option (List ℕ) → List Field
id_told number id old = (at 37 (decimal number) ∷ (at 11 id ∷ [])) ++ if_told 41 old

abbrev pub report_told : Head → List ℕ → List Field
report_told head status = at 17 (decimal head.report) ∷ (at 20 (codes "0") ∷ (at 150 status ∷ (at 39 status ∷ [])))

abbrev pub price_told : Kind → Price → Price → ℕ → List Field
price_told Market price trigger decimals = []
price_told Limit price trigger decimals = at 44 (price_text price decimals) ∷ []
price_told StopLimit price trigger decimals = at 44 (price_text price decimals) ∷ (at 99 (price_text trigger decimals) ∷ [])

abbrev pub order_told : NameLists → Order → Kind → List Field
order_told names o kind =
    ((at 55 (instrument_name names o.instrument) ∷ (at 54 (side_text o.side) ∷ (at 38 (decimal o.quantity) ∷ (at 40 (kind_text o.kind) ∷ []))))
    ++ price_told kind o.price o.trigger (decimals_of names o.instrument))
    ++ at 59 (life_text o.life) ∷ []

abbrev pub front_told : NameLists → Head → Order → Kind → List ℕ → Option (List ℕ) → List ℕ → List Field
front_told names head o kind id old status = ((head_told names (codes "8") head ++ id_told o.number id old) ++ report_told head status) ++ order_told names o kind

abbrev pub state_told : Head → Order → List Field
state_told head o = at 151 (decimal o.leaves) ∷ (at 14 (decimal o.filled) ∷ (at 6 (codes "0") ∷ (at 60 head.time ∷ [])))

abbrev pub trade_told : ℕ → Price → ℕ → List Field
trade_told lots price decimals = at 32 (decimal lots) ∷ (at 31 (price_text price decimals) ∷ [])

abbrev pub refused_told : NameLists → Head → NewRefused → NewFault → List Field
refused_told names head new fault =
    (((head_told names (codes "8") head
    ++ ((at 37 (decimal 0) ∷ (at 11 new.id ∷ [])) ++ report_told head (codes "8") ++ at 103 (reject_reason fault) ∷ []))
    ++ (at 55 new.symbol ∷ (at 54 (side_text new.side) ∷ (at 38 (decimal new.quantity) ∷ (at 40 (kind_text new.kind) ∷ (at 59 (life_text new.life) ∷ []))))))
    ++ (at 151 (codes "0") ∷ (at 14 (codes "0") ∷ (at 6 (codes "0") ∷ (at 60 head.time ∷ [])))))
    ++ (at 58 (fault_text fault) ∷ (at 9003 (decimal new.quantity) ∷ []))

abbrev pub change_told : NameLists → Head → List ℕ → List ℕ → ℕ → ℕ → Bool → ChangeFault → List Field
change_told names head id old number filled replace fault =
    (head_told names (codes "9") head
    ++ (at 37 (number_text number) ∷ (at 11 id ∷ (at 41 old ∷ []))))
    ++ (at 39 (change_status fault filled) ∷ (at 434 (response_text replace) ∷ (at 102 (change_reason fault) ∷ (at 58 (change_text fault) ∷ (at 60 head.time ∷ [])))))

-- the tag of a reject, where it is one
abbrev pub ref_tag : ℕ → Option (List ℕ)
ref_tag tag = cond (tag == 0) None (Some (decimal tag))

abbrev pub session_told : NameLists → Head → ℕ → Option (List ℕ) → ℕ → ℕ → List Field
session_told names head seq tag reason rule =
    head_told names (codes "3") head
    ++ ((at 45 (decimal seq) ∷ [] ++ if_told 371 tag) ++ at 373 (decimal reason) ∷ [] ++ at 58 (rule_text rule) ∷ [])

-- the fields of each report
abbrev pub told_of : NameLists → Event → List Field
told_of names (Accepted head o) = (front_told names head o o.kind o.id None (codes "0") ++ state_told head o) ++ at 9003 (codes "0") ∷ []
told_of names (Triggered head o) = ((front_told names head o o.kind o.id None (codes "0") ++ state_told head o) ++ at 58 (codes "TRIGGERED") ∷ []) ++ at 9003 (codes "0") ∷ []
told_of names (Fill head o lots price step trade) =
    ((((front_told names head o o.kind o.id None (fill_status o.leaves) ++ trade_told lots price (decimals_of names o.instrument)) ++ state_told head o)
    ++ at 9001 (step_text step) ∷ []) ++ at 9002 (decimal trade) ∷ []) ++ at 9003 (codes "0") ∷ []
told_of names (Cancelled head o gone by cause) =
    ((front_told names head o o.kind (cancel_id o by) (cancelled_id o by) (codes "4") ++ state_told head o) ++ if_told 58 (cause_text cause)) ++ at 9003 (decimal gone) ∷ []
told_of names (Expired head o gone) = ((front_told names head o o.kind o.id None (codes "C") ++ state_told head o) ++ at 58 (codes "EXPIRED") ∷ []) ++ at 9003 (decimal gone) ∷ []
told_of names (Replaced head o old before) = (front_told names head o o.kind o.id (Some old) (codes "5") ++ state_told head o) ++ at 9003 (codes "0") ∷ []
told_of names (RefusedNew head new fault) = refused_told names head new fault
told_of names (RefusedChange head id old number filled replace fault) = change_told names head id old number filled replace fault
told_of names (RefusedSession head seq tag reason rule) = session_told names head seq (ref_tag tag) reason rule

-- ---- that they are

if-fields : (tag : String) (n : ℕ) → IsTag tag n → (value : Option (List ℕ)) → ((text : List ℕ) → value ≡ Some text → IsValue text) → AreFields (field_if tag value) (if_told n value)
if-fields tag n is None each = no-fields
if-fields tag n is (Some text) each = one-field tag n text is (each text refl)

the-text : (a b : List ℕ) → Some a ≡ Some b → IsValue a → IsValue b
the-text a b h is = let e : Some a ≡ Some b = h in let same : a ≡ b = cc in subst IsValue same is

zero-text : IsValue (codes "0")
zero-text = short _ refl refl

module _ (names : NameLists) (are : AreNames names) where
  head-fields : (type : List ℕ) (head : Head) → IsValue type → IsValue head.time → AreFields (line_head names type head) (head_told names type head)
  head-fields type head type_is time =
      then-field _ _ "56" 56 _
      (then-field _ _ "52" 52 _
      (then-field _ _ "49" 49 _
      (then-field _ _ "34" 34 _
      (one-field "35" 35 type tag35 type_is)
      tag34 (value-decimal head.line))
      tag49 (value-text names.exchange (text-name names.exchange are.exchange)))
      tag52 time)
      tag56 (value-text _ (text-addressee names are head.firm))

  id-fields : (number : ℕ) (id : List ℕ) (old : Option (List ℕ)) → IsValue id → ((text : List ℕ) → old ≡ Some text → IsValue text) → AreFields (id_fields number id old) (id_told number id old)
  id-fields number id old id_is old_is =
      more-fields _ _ _ _ (then-field _ _ "11" 11 id (one-field "37" 37 (decimal number) tag37 (value-decimal number)) tag11 id_is) (if-fields "41" 41 tag41 old old_is)

  report-fields : (head : Head) (status : List ℕ) → IsValue status → AreFields (report_fields head status) (report_told head status)
  report-fields head status is =
      then-field _ _ "39" 39 status
      (then-field _ _ "150" 150 status
      (then-field _ _ "20" 20 (codes "0") (one-field "17" 17 (decimal head.report) tag17 (value-decimal head.report)) tag20 zero-text)
      tag150 is)
      tag39 is

  price-fields : (kind : Kind) (price trigger : Price) (decimals : ℕ) → decimals ≤ 8 → AreFields (price_fields kind price trigger decimals) (price_told kind price trigger decimals)
  price-fields Market price trigger decimals few = no-fields
  price-fields Limit price trigger decimals few = one-field "44" 44 _ tag44 (value-price price decimals few)
  price-fields StopLimit price trigger decimals few = then-field _ _ "99" 99 _ (one-field "44" 44 _ tag44 (value-price price decimals few)) tag99 (value-price trigger decimals few)

  order-fields : (o : Order) → AreFields (order_fields names o) (order_told names o o.kind)
  order-fields o =
      then-field _ _ "59" 59 _
      (more-fields _ _ _ _
      (then-field _ _ "40" 40 _
      (then-field _ _ "38" 38 _
      (then-field _ _ "54" 54 _
      (one-field "55" 55 _ tag55 (value-text _ (text-instrument_name names are o.instrument)))
      tag54 (value-side o.side))
      tag38 (value-decimal o.quantity))
      tag40 (value-kind o.kind))
      (price-fields o.kind o.price o.trigger (decimals_of names o.instrument) (few-decimals names are o.instrument)))
      tag59 (value-life o.life)

  front-fields : (head : Head) (o : Order) (id : List ℕ) (old : Option (List ℕ)) (status : List ℕ) → IsValue head.time → IsValue id → ((text : List ℕ) → old ≡ Some text → IsValue text) → IsValue status
      → AreFields (order_front names head o id old status) (front_told names head o o.kind id old status)
  front-fields head o id old status time id_is old_is status_is =
      more-fields _ _ _ _
      (more-fields _ _ _ _
      (more-fields _ _ _ _ (head-fields (codes "8") head (short _ refl refl) time) (id-fields o.number id old id_is old_is))
      (report-fields head status status_is))
      (order-fields o)

  state-fields : (head : Head) (o : Order) → IsValue head.time → AreFields (state_fields head o) (state_told head o)
  state-fields head o time =
      then-field _ _ "60" 60 _
      (then-field _ _ "6" 6 (codes "0")
      (then-field _ _ "14" 14 (decimal o.filled) (one-field "151" 151 (decimal o.leaves) tag151 (value-decimal o.leaves)) tag14 (value-decimal o.filled))
      tag6 zero-text)
      tag60 time

  trade-fields : (lots : ℕ) (price : Price) (decimals : ℕ) → decimals ≤ 8 → AreFields (trade_fields lots price decimals) (trade_told lots price decimals)
  trade-fields lots price decimals few = then-field _ _ "31" 31 _ (one-field "32" 32 (decimal lots) tag32 (value-decimal lots)) tag31 (value-price price decimals few)

  no-text : (text : List ℕ) → None ≡ Some text → IsValue text
  no-text text h = absurd (let e : None ≡ Some text = h in cc)

  cause-value : (cause : Cause) (text : List ℕ) → cause_text cause ≡ Some text → IsValue text
  cause-value causes.Asked text h = no-text text h
  cause-value causes.Fak text h = the-text (codes "FAK") text h (short _ refl refl)
  cause-value causes.MinQty text h = the-text (codes "MINQTY NOT MET") text h (short _ refl refl)

  tag-value : (b : Bool) (tag : ℕ) (text : List ℕ) → cond b None (Some (decimal tag)) ≡ Some text → IsValue text
  tag-value true tag text h = no-text text h
  tag-value false tag text h = the-text (decimal tag) text h (value-decimal tag)

  -- the body of each event
  pub body-fields : (event : Event) → HasTexts event → AreFields (body_of names event) (told_of names event)
  body-fields (Accepted head o) texts =
      then-field _ _ "9003" 9003 (codes "0")
      (more-fields _ _ _ _ (front-fields head o o.id None (codes "0") (value-text _ texts.0) (value-text _ texts.1.0) no-text zero-text) (state-fields head o (value-text _ texts.0)))
      tag9003 zero-text
  body-fields (Triggered head o) texts =
      then-field _ _ "9003" 9003 (codes "0")
      (then-field _ _ "58" 58 (codes "TRIGGERED")
      (more-fields _ _ _ _ (front-fields head o o.id None (codes "0") (value-text _ texts.0) (value-text _ texts.1.0) no-text zero-text) (state-fields head o (value-text _ texts.0)))
      tag58 (short _ refl refl))
      tag9003 zero-text
  body-fields (Fill head o lots price step trade) texts =
      then-field _ _ "9003" 9003 (codes "0")
      (then-field _ _ "9002" 9002 (decimal trade)
      (then-field _ _ "9001" 9001 (step_text step)
      (more-fields _ _ _ _
      (more-fields _ _ _ _
      (front-fields head o o.id None (fill_status o.leaves) (value-text _ texts.0) (value-text _ texts.1.0) no-text (value-status o.leaves))
      (trade-fields lots price (decimals_of names o.instrument) (few-decimals names are o.instrument)))
      (state-fields head o (value-text _ texts.0)))
      tag9001 (value-step step))
      tag9002 (value-decimal trade))
      tag9003 zero-text
  body-fields (Cancelled head o gone None cause) texts =
      then-field _ _ "9003" 9003 (decimal gone)
      (more-fields _ _ _ _
      (more-fields _ _ _ _ (front-fields head o o.id None (codes "4") (value-text _ texts.0) (value-text _ texts.1.0) no-text (short _ refl refl)) (state-fields head o (value-text _ texts.0)))
      (if-fields "58" 58 tag58 (cause_text cause) (cause-value cause)))
      tag9003 (value-decimal gone)
  body-fields (Cancelled head o gone (Some by) cause) texts =
      then-field _ _ "9003" 9003 (decimal gone)
      (more-fields _ _ _ _
      (more-fields _ _ _ _
      (front-fields head o by (Some o.id) (codes "4") (value-text _ texts.0) (value-text _ texts.1.1.0) (λ text h. the-text o.id text h (value-text _ texts.1.0)) (short _ refl refl))
      (state-fields head o (value-text _ texts.0)))
      (if-fields "58" 58 tag58 (cause_text cause) (cause-value cause)))
      tag9003 (value-decimal gone)
  body-fields (Expired head o gone) texts =
      then-field _ _ "9003" 9003 (decimal gone)
      (then-field _ _ "58" 58 (codes "EXPIRED")
      (more-fields _ _ _ _ (front-fields head o o.id None (codes "C") (value-text _ texts.0) (value-text _ texts.1.0) no-text (short _ refl refl)) (state-fields head o (value-text _ texts.0)))
      tag58 (short _ refl refl))
      tag9003 (value-decimal gone)
  body-fields (Replaced head o old before) texts =
      then-field _ _ "9003" 9003 (codes "0")
      (more-fields _ _ _ _
      (front-fields head o o.id (Some old) (codes "5") (value-text _ texts.0) (value-text _ texts.1.0) (λ text h. the-text old text h (value-text _ texts.1.1.0)) (short _ refl refl))
      (state-fields head o (value-text _ texts.0)))
      tag9003 zero-text
  body-fields (RefusedNew head new fault) texts =
      more-fields _ _ _ _
      (more-fields _ _ _ _
      (more-fields _ _ _ _
      (more-fields _ _ _ _ (head-fields (codes "8") head (short _ refl refl) (value-text _ texts.0))
      (then-field _ _ "103" 103 (reject_reason fault) (more-fields _ _ _ _ (id-fields 0 new.id None (value-text _ texts.1.0) no-text) (report-fields head (codes "8") (short _ refl refl))) tag103 (value-reason fault)))
      (then-field _ _ "59" 59 _
      (then-field _ _ "40" 40 _
      (then-field _ _ "38" 38 _
      (then-field _ _ "54" 54 _ (one-field "55" 55 new.symbol tag55 (value-text _ texts.1.1.0)) tag54 (value-side new.side))
      tag38 (value-decimal new.quantity))
      tag40 (value-kind new.kind))
      tag59 (value-life new.life)))
      (then-field _ _ "60" 60 _
      (then-field _ _ "6" 6 (codes "0") (then-field _ _ "14" 14 (codes "0") (one-field "151" 151 (codes "0") tag151 zero-text) tag14 zero-text) tag6 zero-text)
      tag60 (value-text _ texts.0)))
      (then-field _ _ "9003" 9003 (decimal new.quantity) (one-field "58" 58 (fault_text fault) tag58 (value-fault fault)) tag9003 (value-decimal new.quantity))
  body-fields (RefusedChange head id old number filled replace fault) texts =
      more-fields _ _ _ _
      (more-fields _ _ _ _ (head-fields (codes "9") head (short _ refl refl) (value-text _ texts.0))
      (then-field _ _ "41" 41 old (then-field _ _ "11" 11 id (one-field "37" 37 (number_text number) tag37 (value-number number)) tag11 (value-text _ texts.1.0)) tag41 (value-text _ texts.1.1.0)))
      (then-field _ _ "60" 60 _
      (then-field _ _ "58" 58 _
      (then-field _ _ "102" 102 _
      (then-field _ _ "434" 434 _ (one-field "39" 39 (change_status fault filled) tag39 (value-change_status fault filled)) tag434 (value-response replace))
      tag102 (value-change_reason fault))
      tag58 (value-change fault))
      tag60 (value-text _ texts.0))
  body-fields (RefusedSession head seq tag reason rule) texts =
      more-fields _ _ _ _ (head-fields (codes "3") head (short _ refl refl) (value-text _ texts.0))
      (then-field _ _ "58" 58 _
      (then-field _ _ "373" 373 _
      (more-fields _ _ _ _ (one-field "45" 45 (decimal seq) tag45 (value-decimal seq)) (if-fields "371" 371 tag371 (ref_tag tag) (tag-value (tag == 0) tag)))
      tag373 (value-decimal reason))
      tag58 (value-rule rule))

  -- its last byte ends a field
  pub body-ends : (event : Event) → EndsAField (body_of names event)
  body-ends (Accepted head o) = ends-behind (order_front names head o o.id None (codes "0") ++ state_fields head o) _ (ends-field "9003" (codes "0"))
  body-ends (Triggered head o) =
      ends-behind (order_front names head o o.id None (codes "0") ++ state_fields head o ++ field "58" (codes "TRIGGERED")) _ (ends-field "9003" (codes "0"))
  body-ends (Fill head o lots price step trade) =
      ends-behind
      (order_front names head o o.id None (fill_status o.leaves)
      ++ trade_fields lots price (decimals_of names o.instrument)
      ++ state_fields head o
      ++ field "9001" (step_text step)
      ++ field "9002" (decimal trade))
      _
      (ends-field "9003" (codes "0"))
  body-ends (Cancelled head o gone by cause) =
      ends-behind
      (order_front names head o (cancel_id o by) (cancelled_id o by) (codes "4")
      ++ state_fields head o
      ++ field_if "58" (cause_text cause))
      _
      (ends-field "9003" (decimal gone))
  body-ends (Expired head o gone) =
      ends-behind (order_front names head o o.id None (codes "C") ++ state_fields head o ++ field "58" (codes "EXPIRED")) _ (ends-field "9003" (decimal gone))
  body-ends (Replaced head o old before) =
      ends-behind (order_front names head o o.id (Some old) (codes "5") ++ state_fields head o) _ (ends-field "9003" (codes "0"))
  body-ends (RefusedNew head new fault) =
      ends-behind
      (line_head names (codes "8") head
      ++ refused_fields head new fault
      ++ wanted_fields new
      ++ nothing_fields head)
      _
      (ends-behind (field "58" (fault_text fault)) _ (ends-field "9003" (decimal new.quantity)))
  body-ends (RefusedChange head id old number filled replace fault) =
      ends-behind (line_head names (codes "9") head ++ request_fields number id old) _
      (ends-behind
      (field "39" (change_status fault filled)
      ++ field "434" (response_text replace)
      ++ field "102" (change_reason fault)
      ++ field "58" (change_text fault))
      _
      (ends-field "60" head.time))
  body-ends (RefusedSession head seq tag reason rule) =
      ends-behind (line_head names (codes "3") head) _
      (ends-behind
      (field "45" (decimal seq)
      ++ field_if "371" (ref_tag tag)
      ++ field "373" (decimal reason))
      _
      (ends-field "58" (rule_text rule)))
