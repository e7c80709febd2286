-- What kind a request is of.
use Rattle.std.specs.Prelude.{◌≡◌}
use Rattle.fix_request.specs.declared.request.NewOrder.{NewOrder}
use Rattle.fix_request.specs.declared.request.CancelOrder.{CancelOrder}
use Rattle.fix_request.specs.declared.request.ReplaceOrder.{ReplaceOrder}
use Rattle.fix_request.specs.declared.request.Request.{Request}
use Rattle.fix_request.specs.declared.request.Request.TheVariants.{New, Cancel, Replace}

-- a new order
abbrev pub IsNew : Request → Type 0
IsNew request = (order : NewOrder) × (request ≡ New order)

-- a cancel
abbrev pub IsCancel : Request → Type 0
IsCancel request = (order : CancelOrder) × (request ≡ Cancel order)

-- a replace
abbrev pub IsReplace : Request → Type 0
IsReplace request = (order : ReplaceOrder) × (request ≡ Replace order)
