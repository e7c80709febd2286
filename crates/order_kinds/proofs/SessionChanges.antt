-- What a change of the trading session comes to.
use Rattle.std.proofs.Common.{◌≡◌, ℕ, List, [], refl, ap, ap₂, ◌∙◌}
use Rattle.gx_base.specs.declared.trading.Trading.{Trading}
use Rattle.gx_base.specs.declared.trading.Trading.TheVariants.{Open, Closed}
use Rattle.fix_request.specs.declared.request.SessionChange.{SessionChange}
use Rattle.order_kinds.specs.State.{State}
use Rattle.order_kinds.specs.TradingSessions.{market_closed, session_changed, session_step}

-- an open market stays open
opened : (time : List ℕ) (state : State) (from : Trading) → state.trading ≡ from → session_changed Open from time state ≡ (record state { trading = Open }, [])
opened time state Open is = ap (λ (t : Trading). (record state { trading = t }, [])) is
opened time state Closed is = refl

pub change-opens : (change : SessionChange) (state : State) → change.to ≡ Open → session_step change state ≡ (record state { trading = Open }, [])
change-opens change state is = ap (λ (to : Trading). session_changed to state.trading change.time state) is ∙ opened change.time state state.trading refl

pub change-closes : (change : SessionChange) (state : State) → change.to ≡ Closed → state.trading ≡ Open → session_step change state ≡ market_closed change.time state
change-closes change state is from = ap₂ (λ (to was : Trading). session_changed to was change.time state) is from

pub stays-closed : (change : SessionChange) (state : State) → change.to ≡ Closed → state.trading ≡ Closed → session_step change state ≡ (state, [])
stays-closed change state is from = ap₂ (λ (to was : Trading). session_changed to was change.time state) is from
