-- What a core's private functions do by slots is the step of the engine by numbers.
use Rattle.std.proofs.Common.{◌≡◌, refl, sym, ap, subst, ◌∙◌, List}
use Rattle.gx_base.specs.Emits.{EmitMeanings}
use Rattle.gx_base.specs.EmitLaws.{emits_as, emits_none}
use Rattle.gx_base.specs.declared.event.Event.{Event}
use Rattle.gx_base.specs.declared.trading.Trading.{Trading}
use Rattle.product_file.specs.Products.{ProductLists}
use Rattle.fix_request.specs.declared.request.Sender.{Sender}
use Rattle.fix_request.specs.declared.request.Request.{Request}
use Rattle.fix_request.specs.declared.request.Request.TheVariants.{Passed}
use Rattle.fix_request.specs.ValidRequests.{IsValidRequest}
use Rattle.plain_book.specs.Book.{AllDiffer, live_orders}
use Rattle.order_kinds.specs.State.{State, state_numbered}
use Rattle.order_kinds.specs.Step.{with_message, open_step_as, step_in, request_step_as, request_step}
use Rattle.order_kinds.specs.Cores.{FitsProduct, AreNumbered, TakesStep, PutsStep}
use Rattle.order_kinds.specs.Stops.{by_number}
use Rattle.order_kinds.specs.Inner.Apart.{OpenApart, ApartIn, StayApart}
use Rattle.order_kinds.specs.Inner.Taking.{Takes}
use Rattle.order_kinds.proofs.NumberingSteps.{step-same, step-numbered}
use Rattle.order_kinds.proofs.Listed.{step-fits}

module _ {E : Type 0} (m : EmitMeanings E) (product : ProductLists) (request : Request) where
  abbrev TakesIt : State → State → E → E → Type 0
  TakesIt old new before after = Takes m (StayApart product request) (λ naming. request_step_as naming product request) old new before after

  abbrev TakesOpen : State → State → E → E → Type 0
  TakesOpen old new before after = Takes m (OpenApart product request) (λ naming. open_step_as naming product request) old new before after

  -- a session message does nothing
  pub takes-passed : (sender : Sender) (state : State) (out : E) → request ≡ Passed sender → TakesOpen state state out out
  takes-passed sender state out is =
      subst (λ (r : Request). Takes m (OpenApart product r) (λ naming. open_step_as naming product r) state state out out) (sym is)
      (record { naming = by_number; apart = tt; state = refl; emits = emits_none m out })

  -- the step of the session that the state is in
  pub takes-in : (trading : Trading) (old new : State) (before after : E) → old.trading ≡ trading
      → Takes m (ApartIn trading product request) (λ naming. step_in trading naming product request) old new before after → TakesIt old new before after
  takes-in trading old new before after is takes =
      let t = subst (λ (s : Trading). Takes m (ApartIn s product request) (λ naming. step_in s naming product request) old new before after) (sym is) takes in
      record { naming = t.naming; apart = t.apart; state = t.state; emits = t.emits }

  module _ (old now new : State) (before after : E) (takes : TakesIt (with_message now) new before after) (same : now ≡ old) where
    abbrev counted : State
    counted = with_message old

    taken : TakesIt counted new before after
    taken = subst (λ (s : State). TakesIt (with_message s) new before after) same takes

    -- where order numbers differ, it is the step of the engine
    pub step-taken : AllDiffer (live_orders now.book) → AreNumbered old → TakesStep m product request old new before after
    step-taken differ are =
        let naming = taken.naming in
        let made = request_step_as naming product request counted in
        let slots : AllDiffer (live_orders old.book) = subst (λ (s : State). AllDiffer (live_orders s.book)) same differ in
        let numbers : AreNumbered counted = record { differ = are.differ; given = are.given } in
        let step : request_step product request (state_numbered counted) ≡ (state_numbered made.0, made.1) = step-same counted slots numbers naming product request taken.apart in
        record {
          state = ap state_numbered taken.state ∙ sym (ap (λ (r : State × List Event). r.0) step);
          emits = emits_as m before after made.1 (request_step product request (state_numbered counted)).1 (sym (ap (λ (r : State × List Event). r.1) step)) taken.emits;
          numbered = subst AreNumbered (sym taken.state) (step-numbered counted slots numbers naming product request taken.apart);
        }

    -- the events of the step were put
    pub puts-taken : PutsStep m product request old new before after
    puts-taken = record { naming = taken.naming; state = taken.state; events = (request_step_as taken.naming product request counted).1; of_step = refl; emits = taken.emits }

    -- the core still fits the product
    pub fits-taken : FitsProduct product old → IsValidRequest product request → FitsProduct product new
    fits-taken fits valid =
        let fits_then : FitsProduct product counted = record { capacity = fits.capacity; instruments = fits.instruments; prices = fits.prices; orders = fits.orders } in
        subst (FitsProduct product) (sym taken.state) (step-fits taken.naming product counted fits_then request valid)
