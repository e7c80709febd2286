-- Rows whose lines are put out one by one.
use Rattle.std.proofs.Common.{◌≡◌, ℕ, ◌+◌, ◌<◌, ◌≤◌, List, [], ◌∷◌, ◌++◌, length, drop, map, get_or, ap}
use Rattle.std.proofs.lemmas.List.{drop_all, drop_more}
use Rattle.level_feed.specs.declared.row.Row.{Row}
use Rattle.line_parts.specs.Words.{line_feed}
use Rattle.level_feed.specs.FeedText.{text_of_lines}
use Rattle.level_feed.proofs.Compared.{no_row}

abbrev pub lines_of : (Row → List ℕ) → List Row → List ℕ
lines_of line rows = text_of_lines (map line rows)

pub rows-next : (line : Row → List ℕ) (rows : List Row) (i : ℕ) → i < length rows → lines_of line (drop i rows) ≡ (line (get_or rows i no_row) ++ line_feed) ++ lines_of line (drop (i + 1) rows)
rows-next line rows i lt = ap (lines_of line) (drop_more rows i no_row lt)

pub rows-end : (line : Row → List ℕ) (rows : List Row) (i : ℕ) → length rows ≤ i → lines_of line (drop i rows) ≡ []
rows-end line rows i le = ap (lines_of line) (drop_all i rows le)

pub lines-one : (line : Row → List ℕ) (rows rest : List Row) (r : Row) → rows ≡ r ∷ rest → lines_of line rows ≡ (line r ++ line_feed) ++ lines_of line rest
lines-one line rows rest r e = ap (lines_of line) e

pub lines-same : (line : Row → List ℕ) (rows rest : List Row) → rows ≡ rest → lines_of line rows ≡ lines_of line rest
lines-same line rows rest e = ap (lines_of line) e
