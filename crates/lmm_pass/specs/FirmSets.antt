-- Sets of firms, and which firms are looked for at a level. These are definitions of private functions: a reader of the
-- contract of the step need not believe any of them.
use Rattle.std.specs.Prelude.{ℕ, ◌*◌, ◌/◌, ◌==◌, ◌&&◌, Bool, nat_lt, List}
use Rattle.std.specs.Int.{bit_at}
use Rattle.std.specs.List.{list_any}
use Rattle.gx_base.specs.declared.limits.TheConstants.{MOST_FIRMS}
use Rattle.gx_base.specs.declared.order.LmmShare.{LmmShare}
use Rattle.plain_book.specs.declared.entry.Entry.{Entry}
use Rattle.lmm_pass.specs.declared.firms.FirmSet.{FirmSet}

-- the firm is in the set: its bit is 1
unfoldable pub has_firm : FirmSet → ℕ → Bool
has_firm set firm = nat_lt firm MOST_FIRMS && bit_at set.bits firm == 1

-- one of the orders is the firm's
abbrev pub has_order : ℕ → List Entry → Bool
has_order firm orders = list_any (λ (e : Entry). e.order.firm == firm) orders

-- the firm's share is at least one lot
abbrev pub is_due : ℕ → List LmmShare → ℕ → Bool
is_due wanted shares firm = nat_lt firm MOST_FIRMS && list_any (λ (s : LmmShare). (s.firm == firm) && nat_lt 0 (wanted * s.percent / 100)) shares
