-- The law of displayed levels: our own rule.
use Rattle.std.specs.Prelude.{◌≡◌, false}
use Rattle.product_file.specs.Products.{ProductLists}
use Rattle.fix_request.specs.declared.request.Request.{Request}
use Rattle.plain_book.specs.Orders.{Level}
use Rattle.order_kinds.specs.State.{State, state_numbered}
use Rattle.order_kinds.specs.Cores.{AreNumbered}
use Rattle.order_kinds.specs.Step.{with_message, request_step}
use Rattle.engine_laws.specs.LevelsTold.{is_told, asks_at, IsSameLevel}

-- A message leaves a level as it was, if none of its events tells of it and no replace asks for an order of it.
abbrev pub LevelsStay : Type 0
LevelsStay =
    (product : ProductLists) → (request : Request) → (state : State) → (k : Level) → AreNumbered state
    → let start = with_message (state_numbered state) in let step = request_step product request start in
    asks_at k request start ≡ false → is_told k step.1 ≡ false → IsSameLevel k state.book.resting step.0.book.resting
