-- A message changes the displayed levels only where its events tell, and where a replace moves an order away.
use Rattle.std.proofs.Common.{◌≡◌, ℕ, false, refl, ◌∙◌}
use Rattle.gx_base.specs.declared.order.Order.{Order}
use Rattle.product_file.specs.Products.{ProductLists}
use Rattle.fix_request.specs.declared.request.Request.{Request}
use Rattle.fix_request.specs.declared.request.Request.TheVariants.{New, Cancel, Replace, Session, Passed, Refused}
use Rattle.plain_book.specs.Orders.{Level}
use Rattle.order_kinds.specs.State.{State, state_numbered}
use Rattle.order_kinds.specs.Cores.{AreNumbered}
use Rattle.order_kinds.specs.Stops.{by_number}
use Rattle.order_kinds.specs.Step.{with_message, open_step_as, closed_step_as, request_step}
use Rattle.order_kinds.proofs.SessionSteps.{by-session}
use Rattle.engine_laws.specs.LevelsTold.{is_told, asks_at, IsSameLevel}
use Rattle.engine_laws.proofs.LevelSums.{WeighsLevel, weights, weights-numbered, shown_in, one_in, shown-weighs, one-weighs, level-same}
use Rattle.engine_laws.proofs.States.{AreByNumber, numbered-state}
use Rattle.engine_laws.proofs.LevelRequests.{Stays, new-stays, cancel-stays, replace-stays}
use Rattle.engine_laws.proofs.LevelClosings.{session-stays}

module _ (k : Level) (weight : Order → ℕ) (of : WeighsLevel k weight) (product : ProductLists) (state : State) (are : AreByNumber state.desk.orders state.book) where
  open-stays : (request : Request) → asks_at k request state ≡ false → Stays k weight of state.book.resting (open_step_as by_number product request state)
  open-stays (New order) asks = new-stays k weight of state are product order
  open-stays (Cancel order) asks = cancel-stays k weight of state are order
  open-stays (Replace order) asks = replace-stays k weight of state are product order asks
  open-stays (Session change) asks = session-stays k weight of state change
  open-stays (Passed sender) asks = λ none. refl
  open-stays (Refused refusal) asks = λ none. refl

  closed-stays : (request : Request) → asks_at k request state ≡ false → Stays k weight of state.book.resting (closed_step_as by_number product request state)
  closed-stays (New order) asks = λ none. refl
  closed-stays (Replace order) asks = λ none. refl
  closed-stays (Cancel order) asks = cancel-stays k weight of state are order
  closed-stays (Session change) asks = session-stays k weight of state change
  closed-stays (Passed sender) asks = λ none. refl
  closed-stays (Refused refusal) asks = λ none. refl

  request-stays : (request : Request) → asks_at k request state ≡ false → Stays k weight of state.book.resting (request_step product request state)
  request-stays request asks =
      by-session (Stays k weight of state.book.resting) by_number product request state (λ is_open. open-stays request asks) (λ is_closed. closed-stays request asks)

-- the law
pub levels-stay : (product : ProductLists) (request : Request) (state : State) (k : Level) → AreNumbered state
    → let start = with_message (state_numbered state) in let step = request_step product request start in
    asks_at k request start ≡ false → is_told k step.1 ≡ false → IsSameLevel k state.book.resting step.0.book.resting
levels-stay product request state k are asks told =
    let start = with_message (state_numbered state) in
    let step = request_step product request start in
    let es = state.book.resting in
    let by : AreByNumber start.desk.orders start.book = numbered-state state are in
    let same : (weight : Order → ℕ) → WeighsLevel k weight → weights weight step.0.book.resting ≡ weights weight es = λ weight of.
    request-stays k weight of product start by request asks told ∙ weights-numbered weight es in
    level-same k es step.0.book.resting (same (shown_in k) (shown-weighs k)) (same (one_in k) (one-weighs k))
