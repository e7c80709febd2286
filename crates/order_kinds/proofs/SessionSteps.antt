-- What a request does is what it does in the trading session that the state is in.
use Rattle.std.proofs.Common.{◌≡◌, List, refl}
use Rattle.gx_base.specs.declared.event.Event.{Event}
use Rattle.gx_base.specs.declared.trading.Trading.{Trading}
use Rattle.gx_base.specs.declared.trading.Trading.TheVariants.{Open, Closed}
use Rattle.product_file.specs.Products.{ProductLists}
use Rattle.fix_request.specs.declared.request.Request.{Request}
use Rattle.order_kinds.specs.State.{State}
use Rattle.order_kinds.specs.Stops.{Naming}
use Rattle.order_kinds.specs.Step.{open_step_as, closed_step_as, step_in, request_step_as}

-- a fact of both sessions' steps
pub by-session : (P : State × List Event → Type 0) (naming : Naming) (product : ProductLists) (request : Request) (state : State) → (state.trading ≡ Open → P (open_step_as naming product request state)) → (state.trading ≡ Closed → P (closed_step_as naming product request state)) → P (request_step_as naming product request state)
by-session P naming product request state when_open when_closed =
    let go : (trading : Trading) → state.trading ≡ trading → P (step_in trading naming product request state) = elim [
      | Open ↦ when_open
      | Closed ↦ when_closed
    ] in go state.trading refl
