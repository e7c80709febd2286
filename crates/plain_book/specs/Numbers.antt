-- The same orders, each named by its number in place of its slot: what a state has that knows no slots.
use Rattle.std.specs.Prelude.{List, map}
use Rattle.plain_book.specs.declared.entry.Entry.{Entry}
use Rattle.plain_book.specs.Book.{Book}
use Rattle.plain_book.specs.Match.{MatchState}

abbrev pub entry_numbered : Entry → Entry
entry_numbered e = record e { slot = e.order.number }

abbrev pub numbered : List Entry → List Entry
numbered es = map entry_numbered es

abbrev pub book_numbered : Book → Book
book_numbered b = record b { resting = numbered b.resting; waiting = numbered b.waiting }

abbrev pub match_numbered : MatchState → MatchState
match_numbered m = record m { book = book_numbered m.book }
