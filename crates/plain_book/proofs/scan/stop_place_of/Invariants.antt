use Rattle.std.proofs.Common.{◌≡◌, ◌<◌, ℕ, false}
use Rattle.plain_book.specs.Orders.{is_of_earlier_instrument, entry_at}
use Rattle.plain_book.proofs.scan.stop_place_of.Given as goal

abbrev pub invariant-loop-i : goal.invariant-loop-i
invariant-loop-i l = (k : ℕ) → k < l.i → is_of_earlier_instrument l.entry (entry_at l.entries k) ≡ false
