-- The feed of one message more.
use Rattle.std.proofs.Common.{◌≡◌, ℕ, ◌+◌, List, [], ◌∷◌, ◌++◌, length, refl, sym, ap, ap₂, ◌∙◌, arith, append_assoc}
use Prim.Native.Nat.{suc}
use Rattle.std.specs.Prelude.{flat_map, slice_index_or}
use Rattle.std.proofs.lemmas.List.{append-nil}
use Rattle.std.proofs.lemmas.List.Concat.{flat_map-append}
use Rattle.gx_base.specs.declared.names.Listed.{Listed}
use Rattle.level_feed.specs.declared.row.Row.{Row}
use Rattle.level_feed.specs.Blocks.{Block, Snapshot, Increment, last_number, blocks_of, blocks_from, feed_blocks}
use Rattle.line_parts.specs.Words.{line_feed}
use Rattle.level_feed.specs.FeedText.{block_lines, text_of_lines, text_of_blocks}
use Rattle.level_feed.specs.Laws.{levels_at, SendsOn}

last-append : (last : ℕ) (blocks more : List Block) → last_number last (blocks ++ more) ≡ last_number (last_number last blocks) more
last-append last [] more = refl
last-append last (Snapshot number rows ∷ blocks) more = last-append number blocks more
last-append last (Increment number before rows ∷ blocks) more = last-append number blocks more

-- the levels at the end, where these were there before
abbrev at_end : List Row → List (List Row) → List Row
at_end old levels = slice_index_or (old ∷ levels) (length levels) []

blocks-more : (number last : ℕ) (old : List Row) (levels : List (List Row)) (new : List Row) → blocks_from number last old (levels ++ new ∷ []) ≡ blocks_from number last old levels ++ blocks_of (number + length levels) (last_number last (blocks_from number last old levels)) (at_end old levels) new
blocks-more number last old [] new =
    let same : number ≡ number + 0 = omega arith in
    append-nil (blocks_of number last old new) ∙ ap (λ (n : ℕ). blocks_of n last old new) same
blocks-more number last old (next ∷ levels) new =
    let first = blocks_of number last old next in
    let then = last_number last first in
    let rest = blocks_from (number + 1) then next levels in
    let count : number + 1 + length levels ≡ number + suc (length levels) = omega arith in
    ap (λ (q : List Block). first ++ q) (blocks-more (number + 1) then next levels new)
    ∙ sym (append_assoc first rest (blocks_of (number + 1 + length levels) (last_number then rest) (at_end next levels) new))
    ∙ ap₂ (λ (n : ℕ) (l : ℕ). (first ++ rest) ++ blocks_of n l (at_end next levels) new) count (sym (last-append last first rest))

pub text-append : (listed : List Listed) (blocks more : List Block) → text_of_blocks listed (blocks ++ more) ≡ text_of_blocks listed blocks ++ text_of_blocks listed more
text-append listed blocks more =
    ap text_of_lines (flat_map-append (block_lines listed) blocks more)
    ∙ flat_map-append (λ (line : List ℕ). line ++ line_feed) (flat_map (block_lines listed) blocks) (flat_map (block_lines listed) more)

feed-more : (levels : List (List Row)) (new : List Row) → feed_blocks (levels ++ new ∷ []) ≡ feed_blocks levels ++ blocks_of (length levels + 1) (last_number 0 (feed_blocks levels)) (levels_at levels (length levels)) new
feed-more levels new =
    let count : 1 + length levels ≡ length levels + 1 = omega arith in
    ap (λ (q : List Block). Snapshot 0 [] ∷ q) (blocks-more 1 0 [] levels new)
    ∙ ap (λ (n : ℕ). feed_blocks levels ++ blocks_of n (last_number 0 (feed_blocks levels)) (levels_at levels (length levels)) new) count

pub sends-on : SendsOn
sends-on listed levels new =
    let blocks = blocks_of (length levels + 1) (last_number 0 (feed_blocks levels)) (levels_at levels (length levels)) new in (
      ap (text_of_blocks listed) (feed-more levels new) ∙ text-append listed (feed_blocks levels) blocks,
      ap (last_number 0) (feed-more levels new) ∙ last-append 0 (feed_blocks levels) blocks,
    )
