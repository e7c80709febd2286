-- What the fields of each report say.
use Rattle.std.proofs.Common.{◌≡◌, ℕ, ◌≤◌, false, List, [], ◌∷◌, ◌++◌, length, Option, Some, None, unwrap_or, bytes_eq, codes, decimal, refl, subst, sym, lit≤, arith}
use Rattle.std.specs.Prelude.{IfSome}
use Rattle.std.proofs.lemmas.Fmt.{decimal_digit}
use Rattle.gx_base.specs.NameLists.{NameLists}
use Rattle.gx_base.specs.Line.{decimals_of, step_text, fill_status, cause_text, cancel_id, cancelled_id}
use Rattle.gx_base.specs.declared.price.Price.{Price}
use Rattle.gx_base.specs.declared.order.Order.{Order}
use Rattle.gx_base.specs.declared.order.Kind.{Kind}
use Rattle.gx_base.specs.declared.order.Kind.TheVariants.{Limit, Market, StopLimit}
use Rattle.gx_base.specs.declared.event.StepName.{StepName}
use Rattle.gx_base.specs.declared.event.Head.{Head}
use Rattle.gx_base.specs.declared.event.Event.{Event}
use Rattle.gx_base.specs.declared.event.Event.TheVariants.{Accepted, Triggered, Fill, Cancelled, Expired, Replaced, RefusedNew, RefusedChange, RefusedSession}
use Rattle.fix_request.specs.Fields.{Field, value_of}
use Rattle.order_kinds.specs.Balance.{quantities_of}
use Rattle.stream_laws.specs.Told.{lots_text}
use Rattle.stream_laws.proofs.Fields.{at}
use Rattle.stream_laws.proofs.Bodies.{front_told, state_told, trade_told, if_told, session_told, ref_tag, told_of}

-- the fields of an execution report, and what they say
pub record Says (fields : List Field) (number ordered filled leaves gone status : List ℕ) (lots : Option (List ℕ)) : Type 0 where
  pub few : length fields ≤ 28
  pub type : value_of 35 fields ≡ Some (codes "8")
  pub says_number : value_of 37 fields ≡ Some number
  pub says_status : value_of 150 fields ≡ Some status
  pub says_ordered : value_of 38 fields ≡ Some ordered
  pub says_filled : value_of 14 fields ≡ Some filled
  pub says_leaves : value_of 151 fields ≡ Some leaves
  pub says_gone : value_of 9003 fields ≡ Some gone
  pub says_lots : value_of 32 fields ≡ lots

-- those of any other report
pub record IsOther (fields : List Field) : Type 0 where
  pub few : length fields ≤ 28
  pub type : bytes_eq (unwrap_or (value_of 35 fields) []) (codes "8") ≡ false
  pub lots : value_of 32 fields ≡ None

-- ---- an order that is told, without a trade

module _ (names : NameLists) (head : Head) (o : Order) (id status gone : List ℕ) where
  abbrev SaysOf : List Field → Option (List ℕ) → Type 0
  SaysOf fields lots = Says fields (decimal o.number) (decimal o.quantity) (decimal o.filled) (decimal o.leaves) gone status lots

  abbrev plain_told : Kind → Option (List ℕ) → List Field
  plain_told kind old = (front_told names head o kind id old status ++ state_told head o) ++ at 9003 gone ∷ []

  said-plain : (kind : Kind) (old : Option (List ℕ)) → SaysOf (plain_told kind old) None
  said-plain Market None = record { few = lit≤ tt; type = refl; says_number = refl; says_status = refl; says_ordered = refl; says_filled = refl; says_leaves = refl; says_gone = refl; says_lots = refl }
  said-plain Market (Some old) = record { few = lit≤ tt; type = refl; says_number = refl; says_status = refl; says_ordered = refl; says_filled = refl; says_leaves = refl; says_gone = refl; says_lots = refl }
  said-plain Limit None = record { few = lit≤ tt; type = refl; says_number = refl; says_status = refl; says_ordered = refl; says_filled = refl; says_leaves = refl; says_gone = refl; says_lots = refl }
  said-plain Limit (Some old) = record { few = lit≤ tt; type = refl; says_number = refl; says_status = refl; says_ordered = refl; says_filled = refl; says_leaves = refl; says_gone = refl; says_lots = refl }
  said-plain StopLimit None = record { few = lit≤ tt; type = refl; says_number = refl; says_status = refl; says_ordered = refl; says_filled = refl; says_leaves = refl; says_gone = refl; says_lots = refl }
  said-plain StopLimit (Some old) = record { few = lit≤ tt; type = refl; says_number = refl; says_status = refl; says_ordered = refl; says_filled = refl; says_leaves = refl; says_gone = refl; says_lots = refl }

  -- with a word (58)
  abbrev worded_told : Kind → Option (List ℕ) → List ℕ → List Field
  worded_told kind old word = ((front_told names head o kind id old status ++ state_told head o) ++ at 58 word ∷ []) ++ at 9003 gone ∷ []

  said-worded : (kind : Kind) (old : Option (List ℕ)) (word : List ℕ) → SaysOf (worded_told kind old word) None
  said-worded Market None word = record { few = lit≤ tt; type = refl; says_number = refl; says_status = refl; says_ordered = refl; says_filled = refl; says_leaves = refl; says_gone = refl; says_lots = refl }
  said-worded Market (Some old) word = record { few = lit≤ tt; type = refl; says_number = refl; says_status = refl; says_ordered = refl; says_filled = refl; says_leaves = refl; says_gone = refl; says_lots = refl }
  said-worded Limit None word = record { few = lit≤ tt; type = refl; says_number = refl; says_status = refl; says_ordered = refl; says_filled = refl; says_leaves = refl; says_gone = refl; says_lots = refl }
  said-worded Limit (Some old) word = record { few = lit≤ tt; type = refl; says_number = refl; says_status = refl; says_ordered = refl; says_filled = refl; says_leaves = refl; says_gone = refl; says_lots = refl }
  said-worded StopLimit None word = record { few = lit≤ tt; type = refl; says_number = refl; says_status = refl; says_ordered = refl; says_filled = refl; says_leaves = refl; says_gone = refl; says_lots = refl }
  said-worded StopLimit (Some old) word = record { few = lit≤ tt; type = refl; says_number = refl; says_status = refl; says_ordered = refl; says_filled = refl; says_leaves = refl; says_gone = refl; says_lots = refl }

  -- with a word where there is one
  said-where : (kind : Kind) (old word : Option (List ℕ)) → SaysOf (((front_told names head o kind id old status ++ state_told head o) ++ if_told 58 word) ++ at 9003 gone ∷ []) None
  said-where Market None None = said-plain Market None
  said-where Market (Some old) None = said-plain Market (Some old)
  said-where Limit None None = said-plain Limit None
  said-where Limit (Some old) None = said-plain Limit (Some old)
  said-where StopLimit None None = said-plain StopLimit None
  said-where StopLimit (Some old) None = said-plain StopLimit (Some old)
  said-where kind old (Some word) = said-worded kind old word

  -- a trade
  said-fill : (kind : Kind) (lots : ℕ) (price : Price) (step : StepName) (trade : ℕ) → SaysOf (((((front_told names head o kind id None status ++ trade_told lots price (decimals_of names o.instrument)) ++ state_told head o) ++ at 9001 (step_text step) ∷ []) ++ at 9002 (decimal trade) ∷ []) ++ at 9003 gone ∷ []) (Some (decimal lots))
  said-fill Market lots price step trade = record { few = lit≤ tt; type = refl; says_number = refl; says_status = refl; says_ordered = refl; says_filled = refl; says_leaves = refl; says_gone = refl; says_lots = refl }
  said-fill Limit lots price step trade = record { few = lit≤ tt; type = refl; says_number = refl; says_status = refl; says_ordered = refl; says_filled = refl; says_leaves = refl; says_gone = refl; says_lots = refl }
  said-fill StopLimit lots price step trade = record { few = lit≤ tt; type = refl; says_number = refl; says_status = refl; says_ordered = refl; says_filled = refl; says_leaves = refl; says_gone = refl; says_lots = refl }

-- ---- each event

-- the number (37) in an execution report, and its kind (150)
abbrev pub number_of : Event → ℕ
number_of (Accepted head o) = o.number
number_of (Triggered head o) = o.number
number_of (Fill head o lots price step trade) = o.number
number_of (Cancelled head o gone by cause) = o.number
number_of (Expired head o gone) = o.number
number_of (Replaced head o old before) = o.number
number_of _ = 0

abbrev pub status_of : Event → List ℕ
status_of (Fill head o lots price step trade) = fill_status o.leaves
status_of (Cancelled head o gone by cause) = codes "4"
status_of (Expired head o gone) = codes "C"
status_of (Replaced head o old before) = codes "5"
status_of (RefusedNew head new fault) = codes "8"
status_of _ = codes "0"

-- these fields say what an event tells
abbrev pub SaysWhatIsTold : List Field → Event → Type 0
SaysWhatIsTold fields event =
    IfSome (quantities_of event) (λ q. Says fields (decimal (number_of event)) (decimal q.ordered) (decimal q.filled) (decimal q.leaves) (decimal q.cancelled) (status_of event) (lots_text event))

pub decimal-0 : decimal 0 ≡ codes "0"
decimal-0 = decimal_digit 0 (omega arith)

-- what is written as 0 is the number 0
as-zero : (fields : List Field) (number ordered filled leaves status : List ℕ) (lots : Option (List ℕ)) → Says fields number ordered filled leaves (codes "0") status lots → Says fields number ordered filled leaves (decimal 0) status lots
as-zero fields number ordered filled leaves status lots h = subst (λ (x : List ℕ). Says fields number ordered filled leaves x status lots) (sym decimal-0) h

pub said-refused : (names : NameLists) (event : Event) → quantities_of event ≡ None → IsOther (told_of names event)
said-refused names (Accepted head o) h = absurd (let e : Some _ ≡ None = h in cc)
said-refused names (Triggered head o) h = absurd (let e : Some _ ≡ None = h in cc)
said-refused names (Fill head o lots price step trade) h = absurd (let e : Some _ ≡ None = h in cc)
said-refused names (Cancelled head o gone by cause) h = absurd (let e : Some _ ≡ None = h in cc)
said-refused names (Expired head o gone) h = absurd (let e : Some _ ≡ None = h in cc)
said-refused names (Replaced head o old before) h = absurd (let e : Some _ ≡ None = h in cc)
said-refused names (RefusedNew head new fault) h = absurd (let e : Some _ ≡ None = h in cc)
said-refused names (RefusedChange head id old number filled replace fault) h = record { few = lit≤ tt; type = refl; lots = refl }
said-refused names (RefusedSession head seq tag reason rule) h = by_tag (ref_tag tag)
  where
    by_tag : (t : Option (List ℕ)) → IsOther (session_told names head seq t reason rule)
    by_tag None = record { few = lit≤ tt; type = refl; lots = refl }
    by_tag (Some t) = record { few = lit≤ tt; type = refl; lots = refl }

pub said : (names : NameLists) (event : Event) → SaysWhatIsTold (told_of names event) event
said names (Accepted head o) = as-zero _ _ _ _ _ _ _ (said-plain names head o o.id (codes "0") (codes "0") o.kind None)
said names (Triggered head o) = as-zero _ _ _ _ _ _ _ (said-worded names head o o.id (codes "0") (codes "0") o.kind None (codes "TRIGGERED"))
said names (Fill head o lots price step trade) = as-zero _ _ _ _ _ _ _ (said-fill names head o o.id (fill_status o.leaves) (codes "0") o.kind lots price step trade)
said names (Cancelled head o gone by cause) = said-where names head o (cancel_id o by) (codes "4") (decimal gone) o.kind (cancelled_id o by) (cause_text cause)
said names (Expired head o gone) = said-worded names head o o.id (codes "C") (decimal gone) o.kind None (codes "EXPIRED")
said names (Replaced head o old before) = as-zero _ _ _ _ _ _ _ (said-plain names head o o.id (codes "5") (codes "0") o.kind (Some old))
said names (RefusedNew head new fault) = record {
  few = lit≤ tt;
  type = refl;
  says_number = refl;
  says_status = refl;
  says_ordered = refl;
  says_filled = zero_is;
  says_leaves = zero_is;
  says_gone = refl;
  says_lots = refl;
}
  where
    zero_is : Some (codes "0") ≡ Some (decimal 0)
    zero_is = subst (λ (x : List ℕ). Some (codes "0") ≡ Some x) (sym decimal-0) refl
said names (RefusedChange head id old number filled replace fault) = tt
said names (RefusedSession head seq tag reason rule) = tt

-- there are few of them
pub few-fields : (names : NameLists) (event : Event) → length (told_of names event) ≤ 28
few-fields names (Accepted head o) = (said names (Accepted head o)).few
few-fields names (Triggered head o) = (said names (Triggered head o)).few
few-fields names (Fill head o lots price step trade) = (said names (Fill head o lots price step trade)).few
few-fields names (Cancelled head o gone by cause) = (said names (Cancelled head o gone by cause)).few
few-fields names (Expired head o gone) = (said names (Expired head o gone)).few
few-fields names (Replaced head o old before) = (said names (Replaced head o old before)).few
few-fields names (RefusedNew head new fault) = (said names (RefusedNew head new fault)).few
few-fields names (RefusedChange head id old number filled replace fault) = (said-refused names (RefusedChange head id old number filled replace fault) refl).few
few-fields names (RefusedSession head seq tag reason rule) = (said-refused names (RefusedSession head seq tag reason rule) refl).few
