-- The text of one block, part by part.
use Rattle.std.proofs.Common.{◌≡◌, ℕ, ◌+◌, ◌≤◌, true, not, List, [], ◌∷◌, ◌++◌, length, length-append, map, decimal, refl, sym, ap, ap₂, ◌∙◌, arith}
use Rattle.std.specs.Prelude.{codes}
use Rattle.std.proofs.lemmas.List.{append-nil, map-append}
use Rattle.std.proofs.lemmas.List.Concat.{flat_map-append}
use Rattle.gx_base.specs.declared.names.Listed.{Listed}
use Rattle.level_feed.specs.declared.row.Row.{Row}
use Rattle.level_feed.specs.Rows.{is_none}
use Rattle.level_feed.specs.Blocks.{Snapshot, Increment, increment}
use Rattle.line_parts.specs.Words.{line_feed}
use Rattle.level_feed.specs.FeedText.{row_line, block_lines, text_of_lines, text_of_blocks}

abbrev pub rows_text : List Listed → List Row → List ℕ
rows_text listed rows = text_of_lines (map (row_line listed) rows)

abbrev pub increment_text : ℕ → ℕ → ℕ → List ℕ
increment_text number last rows = codes "I " ++ decimal number ++ codes " " ++ decimal last ++ codes " " ++ decimal rows ++ line_feed

abbrev pub snapshot_text : ℕ → ℕ → List ℕ
snapshot_text number rows = codes "S " ++ decimal number ++ codes " " ++ decimal rows ++ line_feed

pub rows-two : (listed : List Listed) (gs cs : List Row) → rows_text listed (gs ++ cs) ≡ rows_text listed gs ++ rows_text listed cs
rows-two listed gs cs = ap text_of_lines (map-append (row_line listed) gs cs) ∙ flat_map-append (λ (line : List ℕ). line ++ line_feed) (map (row_line listed) gs) (map (row_line listed) cs)

one-snapshot : (listed : List Listed) (number : ℕ) (rows : List Row) → block_lines listed (Snapshot number rows) ++ [] ≡ block_lines listed (Snapshot number rows)
one-snapshot listed number rows = append-nil (block_lines listed (Snapshot number rows))

pub snapshot-parts : (listed : List Listed) (number : ℕ) (rows : List Row) → text_of_blocks listed (Snapshot number rows ∷ []) ≡ snapshot_text number (length rows) ++ rows_text listed rows
snapshot-parts listed number rows = ap text_of_lines (one-snapshot listed number rows)

increment-some : (number last : ℕ) (rows : List Row) → 1 ≤ length rows → increment number last rows ≡ Increment number last rows ∷ []
increment-some number last [] some = absurd (omega arith)
increment-some number last (r ∷ rows) some = refl

pub increment-parts : (listed : List Listed) (number last n : ℕ) (gs cs : List Row) → n ≡ length gs + length cs → 1 ≤ n → text_of_blocks listed (increment number last (gs ++ cs)) ≡ increment_text number last n ++ (rows_text listed gs ++ rows_text listed cs)
increment-parts listed number last n gs cs e some =
    let size : length (gs ++ cs) ≡ n = length-append gs cs ∙ sym e in
    ap (text_of_blocks listed) (increment-some number last (gs ++ cs) (omega arith))
    ∙ ap text_of_lines (append-nil (block_lines listed (Increment number last (gs ++ cs))))
    ∙ ap₂ (λ (k : ℕ) (t : List ℕ). increment_text number last k ++ t) size (rows-two listed gs cs)

pub increment-none : (listed : List Listed) (number last : ℕ) (gs cs : List Row) → length gs + length cs ≡ 0 → text_of_blocks listed (increment number last (gs ++ cs)) ≡ []
increment-none listed number last [] [] e = refl
increment-none listed number last [] (r ∷ cs) e = absurd (omega arith)
increment-none listed number last (r ∷ gs) cs e = absurd (omega arith)

pub told-some : (gs cs : List Row) → 1 ≤ length gs + length cs → true ≡ not (is_none (gs ++ cs))
told-some [] [] e = absurd (omega arith)
told-some [] (r ∷ cs) e = refl
told-some (r ∷ gs) cs e = refl
