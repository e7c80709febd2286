use Rattle.std.proofs.Common.{◌≡◌, drop, filter}
use Rattle.plain_book.specs.declared.entry.Entry.{Entry}
use Rattle.plain_book.specs.Orders.{side_of, is_better, better_of}
use Rattle.plain_book.proofs.Lasts.{last_after}
use Rattle.plain_book.proofs.scan.better_price.Given as goal

abbrev pub invariant-loop-entry : goal.invariant-loop-entry
invariant-loop-entry l =
    last_after l.worst (filter (λ (e : Entry). is_better l.side e.order.price.0 l.price.0) (side_of l.instrument l.side (drop l.entry-index l.entries))) ≡ better_of l.instrument l.side l.price.0 l.entries
