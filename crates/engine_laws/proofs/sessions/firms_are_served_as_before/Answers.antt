use Rattle.std.proofs.Common.{refl}
use Rattle.order_kinds.specs.State.{empty_state}
use Rattle.engine_laws.proofs.FirmSteps.{same-events, same-state, still-open}
use Rattle.engine_laws.proofs.sessions.firms_are_served_as_before.Goals as goal

pub returns-clause-from_start : goal.returns-clause-from_start
returns-clause-from_start c = λ product frames of_firms. same-events product frames (empty_state product) refl of_firms

pub returns-clause-state_from_start : goal.returns-clause-state_from_start
returns-clause-state_from_start c = λ product frames of_firms. same-state product frames (empty_state product) refl of_firms

pub returns-clause-events : goal.returns-clause-events
returns-clause-events c = λ product state frames is_open of_firms. same-events product frames state is_open of_firms

pub returns-clause-state : goal.returns-clause-state
returns-clause-state c = λ product state frames is_open of_firms. same-state product frames state is_open of_firms

pub returns-clause-stays_open : goal.returns-clause-stays_open
returns-clause-stays_open c = λ product state frames is_open of_firms. still-open product frames state is_open of_firms
