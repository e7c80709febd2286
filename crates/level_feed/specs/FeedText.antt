-- The level feed as text (our own rule). Each line ends with a line feed.
use Rattle.std.specs.Prelude.{ℕ, List, ◌∷◌, ◌++◌, length, map, flat_map, option_map, unwrap_or, slice_get, codes, decimal}
use Rattle.gx_base.specs.Numbers.{price_text}
use Rattle.gx_base.specs.declared.names.Listed.{Listed}
use Rattle.line_parts.specs.Words.{line_feed, side_letter}
use Rattle.level_feed.specs.declared.row.Row.{Row}
use Rattle.level_feed.specs.Blocks.{Block, Snapshot, Increment}

-- the name and the decimals of an instrument of a list
abbrev pub name_of : List Listed → ℕ → List ℕ
name_of listed i = unwrap_or (option_map (λ (l : Listed). l.name) (slice_get listed i)) (codes "UNKNOWN")

abbrev pub decimals_in : List Listed → ℕ → ℕ
decimals_in listed i = unwrap_or (option_map (λ (l : Listed). l.decimals) (slice_get listed i)) 0

-- NAME SIDE PRICE SHOWN COUNT
abbrev pub row_words : List Listed → Row → List ℕ
row_words listed r =
    name_of listed r.instrument
    ++ codes " " ++ side_letter r.side
    ++ codes " " ++ price_text r.price (decimals_in listed r.instrument)
    ++ codes " " ++ decimal r.shown
    ++ codes " " ++ decimal r.orders

abbrev pub row_line : List Listed → Row → List ℕ
row_line listed r = codes "R " ++ row_words listed r

-- S K R, and R rows; or I K J C, and C rows
abbrev pub block_lines : List Listed → Block → List (List ℕ)
block_lines listed (Snapshot number rows) =
    (codes "S " ++ decimal number ++ codes " " ++ decimal (length rows)) ∷ map (row_line listed) rows
block_lines listed (Increment number last rows) =
    (codes "I " ++ decimal number ++ codes " " ++ decimal last ++ codes " " ++ decimal (length rows)) ∷ map (row_line listed) rows

abbrev pub text_of_lines : List (List ℕ) → List ℕ
text_of_lines lines = flat_map (λ line. line ++ line_feed) lines

abbrev pub text_of_blocks : List Listed → List Block → List ℕ
text_of_blocks listed blocks = text_of_lines (flat_map (block_lines listed) blocks)

-- the rows of a table, a line each
abbrev pub table_text : List Listed → List Row → List ℕ
table_text listed rows = text_of_lines (map (row_words listed) rows)
