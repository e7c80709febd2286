-- Offered to the crates above: who sent a message that was read is a listed firm, so it can be noted.
use Rattle.std.proofs.Common.{ℕ, ◌<◌, ◌≤◌, Bool, true, false, cond, nat_le, length, Option, Some, None, arith}
use Rattle.std.specs.Prelude.{IfSome}
use Rattle.gx_base.specs.NameLists.{NameLists}
use Rattle.gx_base.specs.declared.limits.TheConstants.{MOST_FIRMS}
use Rattle.fix_request.specs.ValidRequests.{IsValidIn}
use Rattle.fix_request.specs.declared.request.Sender.{Sender}
use Rattle.fix_request.specs.declared.request.Refusal.{Refusal}
use Rattle.fix_request.specs.declared.request.Request.{Request}
use Rattle.fix_request.specs.declared.request.Request.TheVariants as request
use Rattle.fix_session.specs.Answers.{sender_in, sender_of_refused}

below : (firm count : ℕ) → firm < count → count ≤ MOST_FIRMS → firm < MOST_FIRMS
below firm count listed few = omega (arith, listed, few)

abbrev IsBelow : Option Sender → Type 0
IsBelow sender = IfSome sender (λ (s : Sender). s.firm < MOST_FIRMS)

by_rule : (b : Bool) (sender : Sender) → sender.firm < MOST_FIRMS → IsBelow (cond b None (Some sender))
by_rule true sender listed = tt
by_rule false sender listed = listed

refused : (refusal : Refusal) (firm : Option ℕ) (count : ℕ) → IfSome firm (λ (f : ℕ). f < count) → count ≤ MOST_FIRMS → IsBelow (sender_of_refused refusal firm)
refused refusal None count listed few = tt
refused refusal (Some firm) count listed few =
    by_rule (nat_le refusal.rule 6) (record { firm = firm; seq = refusal.seq; time = refusal.time }) (below firm count listed few)

pub sender_is_listed : (names : NameLists) (asked : Request) → length names.firms ≤ MOST_FIRMS → IsValidIn names asked → IfSome (sender_in asked) (λ (s : Sender). s.firm < MOST_FIRMS)
sender_is_listed names (request.New order) few valid = below order.sender.firm (length names.firms) valid.sender.firm few
sender_is_listed names (request.Cancel order) few valid = below order.sender.firm (length names.firms) valid.firm few
sender_is_listed names (request.Replace order) few valid = below order.sender.firm (length names.firms) valid.sender.firm few
sender_is_listed names (request.Session change) few valid = tt
sender_is_listed names (request.Passed sender) few valid = below sender.firm (length names.firms) valid.firm few
sender_is_listed names (request.Refused refusal) few valid = refused refusal refusal.firm (length names.firms) valid.firm few
