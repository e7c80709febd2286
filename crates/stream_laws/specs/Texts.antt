-- What the laws of one report ask of the texts that stand in it. Each text of an event in the engine is a name or a time, and each
-- name of a product is one, so this always holds there.
use Rattle.std.specs.Prelude.{◌≡◌, ℕ, ◌≤◌, false, List, [], ◌∷◌, length, Some, None}
use Rattle.std.specs.List.{list_any, AllByRecursion}
use Rattle.gx_base.specs.declared.limits.TheConstants.{LONGEST_VALUE}
use Rattle.gx_base.specs.declared.event.Event.{Event}
use Rattle.gx_base.specs.declared.event.Event.TheVariants.{Accepted, Triggered, Fill, Cancelled, Expired, Replaced, RefusedNew, RefusedChange, RefusedSession}
use Rattle.fix_request.specs.Fields.{is_soh}

-- a short text, of which no byte ends a field
pub record IsText (text : List ℕ) : Type 0 where
  pub short : length text ≤ LONGEST_VALUE
  pub plain : list_any is_soh text ≡ false

-- the texts of an event: the time, and the ids and symbols that a client wrote
abbrev pub texts_in : Event → List (List ℕ)
texts_in (Accepted head o) = head.time ∷ (o.id ∷ [])
texts_in (Triggered head o) = head.time ∷ (o.id ∷ [])
texts_in (Fill head o lots price step trade) = head.time ∷ (o.id ∷ [])
texts_in (Cancelled head o gone None cause) = head.time ∷ (o.id ∷ [])
texts_in (Cancelled head o gone (Some by) cause) = head.time ∷ (o.id ∷ (by ∷ []))
texts_in (Expired head o gone) = head.time ∷ (o.id ∷ [])
texts_in (Replaced head o old before) = head.time ∷ (o.id ∷ (old ∷ []))
texts_in (RefusedNew head new fault) = head.time ∷ (new.id ∷ (new.symbol ∷ []))
texts_in (RefusedChange head id old number filled replace fault) = head.time ∷ (id ∷ (old ∷ []))
texts_in (RefusedSession head seq tag reason rule) = head.time ∷ []

abbrev pub HasTexts : Event → Type 0
HasTexts event = AllByRecursion IsText (texts_in event)
