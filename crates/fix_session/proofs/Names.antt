-- A text that is no name.
use Rattle.std.proofs.Common.{◌≡◌, ℕ, Bool, true, false, cond, List, Some, None, Err, refl, ap, ◌∙◌}
use Rattle.std.specs.Prelude.{IsTrue}
use Rattle.std.specs.Option.{ok_or}
use Rattle.gx_base.specs.Texts.{is_name}
use Rattle.fix_request.specs.Faults.{fault}
use Rattle.fix_request.specs.Requests.{refusal_of}
use Rattle.fix_request.specs.declared.request.Sender.{Sender}
use Rattle.fix_request.specs.declared.request.Refusal.{Refusal}
use Rattle.fix_session.specs.Inner.{name_of}

by_name : (text : List ℕ) (e : Refusal) (b : Bool) → (b ≡ true → ⊥) → Err e ≡ ok_or (cond b (Some text) None) e
by_name text e true never = absurd (never refl)
by_name text e false never = refl

pub refused_name : (sender : Sender) (tag : ℕ) (text : List ℕ) (refusal : Refusal) → (IsTrue (is_name text) → ⊥) → refusal ≡ refusal_of false sender (fault 9 6 tag) → Err refusal ≡ name_of sender tag text
refused_name sender tag text refusal never is = ap Err is ∙ by_name text (refusal_of false sender (fault 9 6 tag)) (is_name text) never
