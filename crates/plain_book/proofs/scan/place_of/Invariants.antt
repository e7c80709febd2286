use Rattle.std.proofs.Common.{◌≡◌, ◌<◌, ℕ, false}
use Rattle.plain_book.specs.Orders.{is_at_earlier_level, entry_at}
use Rattle.plain_book.proofs.scan.place_of.Given as goal

abbrev pub invariant-loop-i : goal.invariant-loop-i
invariant-loop-i l = (k : ℕ) → k < l.i → is_at_earlier_level l.entry (entry_at l.entries k) ≡ false
