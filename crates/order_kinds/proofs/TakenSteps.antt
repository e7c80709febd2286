-- What a function did to its state is a step that was taken.
use Rattle.std.proofs.Common.{◌≡◌, ℕ, Bool, true, List, [], ◌∷◌, Some, refl, sym, ap, subst, ◌∙◌}
use Rattle.gx_base.specs.declared.order.Desk.{Desk}
use Rattle.gx_base.specs.declared.event.Event.{Event}
use Rattle.gx_base.specs.declared.event.ChangeFault.{ChangeFault}
use Rattle.gx_base.specs.declared.event.ChangeFault.TheVariants as change_fault
use Rattle.gx_base.specs.declared.event.NewFault.TheVariants as new_fault
use Rattle.gx_base.specs.Emits.{EmitMeanings, Emits}
use Rattle.gx_base.specs.EmitLaws.{emits_as}
use Rattle.product_file.specs.Products.{ProductLists}
use Rattle.fix_request.specs.declared.request.Sender.{Sender}
use Rattle.fix_request.specs.declared.request.NewOrder.{NewOrder}
use Rattle.fix_request.specs.declared.request.ReplaceOrder.{ReplaceOrder}
use Rattle.fix_request.specs.declared.request.Refusal.{Refusal}
use Rattle.fix_request.specs.declared.request.Request.{Request}
use Rattle.fix_request.specs.declared.request.Request.TheVariants.{New, Cancel, Replace, Session, Passed, Refused}
use Rattle.plain_book.specs.Match.{report_counted}
use Rattle.order_kinds.specs.declared.reports.RefusedChange.{RefusedChange}
use Rattle.order_kinds.specs.State.{State}
use Rattle.order_kinds.specs.Reports.{line_counted, change_refused, unchanged}
use Rattle.order_kinds.specs.Stops.{Naming, by_number}
use Rattle.order_kinds.specs.Cancels.{rejected, message_refused}
use Rattle.order_kinds.specs.Accepting.{refusal, refused}
use Rattle.order_kinds.specs.Replaces.{replace_refused}
use Rattle.order_kinds.specs.Step.{open_step_as, closed_step_as}
use Rattle.order_kinds.specs.Inner.Apart.{OpenApart}
use Rattle.order_kinds.specs.Inner.Taking.{Takes}

module _ {E : Type 0} (m : EmitMeanings E) (Apart : State → Naming → Type 0) (step : Naming → State → State × List Event) (old : State) (before after : E) where
  -- what it comes to is known
  pub takes-known : (naming : Naming) (made : State × List Event) (new : State) → Apart old naming → step naming old ≡ made → new ≡ made.0 → Emits m before after made.1 → Takes m Apart step old new before after
  takes-known naming made new apart is same emits = record {
    naming = naming;
    apart = apart;
    state = same ∙ sym (ap (λ (r : State × List Event). r.0) is);
    emits = emits_as m before after made.1 (step naming old).1 (sym (ap (λ (r : State × List Event). r.1) is)) emits;
  }

  -- a change was refused
  pub takes-refused : (change : RefusedChange) (sender : Sender) (id prior : List ℕ) (number filled : ℕ) (replace : Bool) (fault : ChangeFault) (desk : Desk)
      → change ≡ record { sender = change.sender; id = id; old = prior; number = number; filled = filled; replace = replace }
      → change.sender.now ≡ sender
      → desk ≡ line_counted old.desk (Some change.sender.now.firm)
      → Emits m before after (change_refused change.sender.now change.id change.old change.number change.filled change.replace fault old.desk ∷ [])
      → Apart old by_number → step by_number old ≡ unchanged sender id prior number filled replace fault old
      → Takes m Apart step old (record old { desk = desk }) before after
  takes-refused change sender id prior number filled replace fault desk is from counted emits apart same =
      takes-known by_number (unchanged sender id prior number filled replace fault old) (record old { desk = desk }) apart same
      (ap (λ (d : Desk). record old { desk = d }) (counted ∙ ap (λ (s : Sender). line_counted old.desk (Some s.firm)) from))
      (emits_as m before after _ _
      (ap (λ (c : RefusedChange). change_refused change.sender.now c.id c.old c.number c.filled c.replace fault old.desk ∷ []) is
      ∙ ap (λ (s : Sender). change_refused s id prior number filled replace fault old.desk ∷ []) from) emits)

-- a message that a session rule refuses is reported, and changes nothing
pub takes-rejected : {E : Type 0} (m : EmitMeanings E) (product : ProductLists) (request : Request) (refusal : Refusal) {old seen : State} → old ≡ seen → (desk : Desk) (before after : E) → request ≡ Refused refusal
    → desk ≡ line_counted old.desk refusal.firm → Emits m before after (rejected refusal old.desk ∷ [])
    → Takes m (OpenApart product request) (λ naming. open_step_as naming product request) seen (record old { desk = desk }) before after
takes-rejected m product request refusal {old} at desk before after is counted emits =
    let new : State = record old { desk = desk } in
    subst (λ (s : State). Takes m (OpenApart product request) (λ naming. open_step_as naming product request) s new before after) at
    (subst (λ (r : Request). Takes m (OpenApart product r) (λ naming. open_step_as naming product r) old new before after) (sym is)
    (takes-known m (OpenApart product (Refused refusal)) (λ naming. open_step_as naming product (Refused refusal)) old before after by_number (message_refused refusal old) new tt refl
    (ap (λ (d : Desk). record old { desk = d }) counted) emits))

-- ---- in a closed market

-- what is no new order and no replace does what it does in an open one
still-open : (naming : Naming) (product : ProductLists) (request : Request) (state : State) → ((new : NewOrder) → request ≡ New new → ⊥) → ((replace : ReplaceOrder) → request ≡ Replace replace → ⊥)
    → closed_step_as naming product request state ≡ open_step_as naming product request state
still-open naming product (New new) state no_new no_replace = absurd (no_new new refl)
still-open naming product (Cancel cancel) state no_new no_replace = refl
still-open naming product (Replace replace) state no_new no_replace = absurd (no_replace replace refl)
still-open naming product (Session change) state no_new no_replace = refl
still-open naming product (Passed sender) state no_new no_replace = refl
still-open naming product (Refused rejected) state no_new no_replace = refl

module _ {E : Type 0} (m : EmitMeanings E) (product : ProductLists) where
  abbrev TakesClosed : Request → State → State → E → E → Type 0
  TakesClosed request old new before after = Takes m (λ state naming. Unit {0}) (λ naming. closed_step_as naming product request) old new before after

  pub takes-still : (request : Request) (old new : State) (before after : E) → ((new : NewOrder) → request ≡ New new → ⊥) → ((replace : ReplaceOrder) → request ≡ Replace replace → ⊥)
      → Takes m (OpenApart product request) (λ naming. open_step_as naming product request) old new before after → TakesClosed request old new before after
  takes-still request old new before after no_new no_replace takes =
      takes-known m (λ state naming. Unit {0}) (λ naming. closed_step_as naming product request) old before after takes.naming (open_step_as takes.naming product request old) new tt
      (still-open takes.naming product request old no_new no_replace) takes.state takes.emits

  -- a request that only counters show was refused
  closed_refused : (request asked : Request) (made : State × List Event) {old seen : State} → old ≡ seen → (desk : Desk) (before after : E) → request ≡ asked
      → closed_step_as by_number product asked old ≡ made → record old { desk = desk } ≡ made.0 → Emits m before after made.1 → TakesClosed request seen (record old { desk = desk }) before after
  closed_refused request asked made {old} at desk before after is step same emits =
      let new : State = record old { desk = desk } in
      subst (λ (s : State). TakesClosed request s new before after) at
      (subst (λ (r : Request). TakesClosed r old new before after) (sym is)
      (takes-known m (λ state naming. Unit {0}) (λ naming. closed_step_as naming product asked) old before after by_number made new tt step same emits))

  pub takes-closed_new : (request : Request) (order : NewOrder) {old seen : State} → old ≡ seen → (desk : Desk) (before after : E) → request ≡ New order
      → desk ≡ report_counted old.desk order.sender.firm → Emits m before after (refusal new_fault.Closed order old.desk ∷ []) → TakesClosed request seen (record old { desk = desk }) before after
  takes-closed_new request order {old} at desk before after is counted emits =
      closed_refused request (New order) (refused new_fault.Closed order old) at desk before after is refl (ap (λ (d : Desk). record old { desk = d }) counted) emits

  pub takes-closed_replace : (request : Request) (replace : ReplaceOrder) {old seen : State} → old ≡ seen → (desk : Desk) (before after : E) → request ≡ Replace replace
      → desk ≡ line_counted old.desk (Some replace.sender.firm) → Emits m before after (change_refused replace.sender replace.id replace.old 0 0 true change_fault.Closed old.desk ∷ [])
      → TakesClosed request seen (record old { desk = desk }) before after
  takes-closed_replace request replace {old} at desk before after is counted emits =
      closed_refused request (Replace replace) (replace_refused change_fault.Closed replace 0 0 old) at desk before after is refl (ap (λ (d : Desk). record old { desk = d }) counted) emits
