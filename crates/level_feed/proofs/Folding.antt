-- The fold of a text whose lines can be read.
use Rattle.std.proofs.Common.{◌≡◌, ℕ, ◌+◌, ◌≤◌, Bool, true, false, cond, not, nat_lt, List, [], ◌∷◌, ◌++◌, length, map, filter, Some, Result, Ok, Err, refl, sym, ap, subst, ◌∙◌, arith, length-append, append_assoc}
use Prim.Native.Nat.{suc}
use Rattle.std.specs.Prelude.{◌==◌, flat_map}
use Rattle.std.specs.List.{AllByRecursion, list_any}
use Rattle.std.proofs.lemmas.Bool.{cond-false, le-ltb}
use Rattle.std.proofs.lemmas.List.Elements.{All-from_recursion}
use Rattle.std.proofs.lemmas.List.Splits.{slice_split_at}
use Rattle.book_order.proofs.Each.{all-filter, all-append}
use Rattle.level_feed.specs.declared.row.Row.{Row}
use Rattle.level_feed.specs.declared.fault.FeedFault.{FeedFault}
use Rattle.level_feed.specs.declared.fault.FeedFault.TheVariants.{Form}
use Rattle.level_feed.specs.Rows.{difference, gone, changed, gone_row, is_at_level, is_same_row}
use Rattle.level_feed.specs.Blocks.{Block, Snapshot, Increment, last_number}
use Rattle.level_feed.specs.FeedText.{row_line, block_lines, text_of_lines}
use Rattle.level_feed.specs.Lines.{Listing, line_of, greatest_number}
use Rattle.level_feed.specs.declared.line.Line.{Line}
use Rattle.level_feed.specs.declared.line.Line.TheVariants as kind
use Rattle.level_feed.specs.Tables.{Table, empty_table, is_inside, longest_line, line_taken, read_by, text_taken}
use Rattle.level_feed.specs.Folds.{FoldFault, Cut, pieces_of, table_in, ended, where_taken, fold_from, rows_of}
use Rattle.level_feed.specs.Laws.{IsRightListing, IsPriced, IsShown, AreLevels, levels_at, FoldsAtBlocks, FoldsBetweenBlocks}
use Rattle.level_feed.proofs.Taking.{then_lines, lines_taken, block_lines_of}
use Rattle.level_feed.proofs.Chains.{Chain, part-chain, part-takes, part-still, all-are-levels}
use Rattle.gx_base.proofs.NumberTexts.{Lacks}
use Rattle.level_feed.proofs.Written.{IsWritten, IsLine, row-read, row-is-line, snapshot-read, snapshot-is-line, increment-read, increment-is-line}

-- ---- lines of a text

pieces-of-lines : (texts : List (List ℕ)) → AllByRecursion (Lacks 10) texts → pieces_of (text_of_lines texts) ≡ texts ++ [] ∷ []
pieces-of-lines [] h = refl
pieces-of-lines (text ∷ texts) h =
    ap pieces_of (append_assoc text (10 ∷ []) (text_of_lines texts))
    ∙ slice_split_at (λ c. c == 10) text 10 (text_of_lines texts) (All-from_recursion (λ (c : ℕ). (c == 10) ≡ false) text h.0) refl
    ∙ ap (λ (q : List (List ℕ)). text ∷ q) (pieces-of-lines texts h.1)

module _ (listing : Listing) (right : IsRightListing listing) where
  pub record IsReadAs (text : List ℕ) (line : Line) : Type 0 where
    pub read : line_of listing text ≡ Some line
    pub is_line : IsLine listing right text

  abbrev pub AreRead : List (List ℕ) → List Line → Type 0
  AreRead [] [] = Unit {0}
  AreRead [] (line ∷ lines) = ⊥
  AreRead (text ∷ texts) [] = ⊥
  AreRead (text ∷ texts) (line ∷ lines) = IsReadAs text line × AreRead texts lines

  all-lack : (texts : List (List ℕ)) (lines : List Line) → AreRead texts lines → AllByRecursion (Lacks 10) texts
  all-lack [] [] r = tt
  all-lack [] (line ∷ lines) r = absurd r
  all-lack (text ∷ texts) [] r = absurd r
  all-lack (text ∷ texts) (line ∷ lines) r = (r.0.is_line.lacks, all-lack texts lines r.1)

  read-append : (texts more : List (List ℕ)) (lines others : List Line) → AreRead texts lines → AreRead more others → AreRead (texts ++ more) (lines ++ others)
  read-append [] more [] others r s = s
  read-append [] more (line ∷ lines) others r s = absurd r
  read-append (text ∷ texts) more [] others r s = absurd r
  read-append (text ∷ texts) more (line ∷ lines) others r s = (r.0, read-append texts more lines others r.1 s)

  text-taken : (t : Table) (text : List ℕ) (line : Line) → IsReadAs text line → text_taken listing t text ≡ line_taken listing.max_orders t line
  text-taken t text line r =
      cond-false (nat_lt longest_line (length text)) (Err Form) (read_by listing t (line_of listing text)) (le-ltb longest_line (length text) r.is_line.short)
      ∙ ap (read_by listing t) r.read

  abbrev next_block : Table → ℕ → ℕ → ℕ
  next_block t at block = cond (is_inside t) block at

  -- a line with more after it
  one-line : (t : Table) (at block : ℕ) (text : List ℕ) (texts : List (List ℕ)) → fold_from listing t at block (text ∷ (texts ++ [] ∷ [])) ≡ where_taken at (text_taken listing t text) (λ u. fold_from listing u (at + length text + 1) (next_block t at block) (texts ++ [] ∷ []))
  one-line t at block text [] = refl
  one-line t at block text (next ∷ texts) = refl

  at-end : (t : Table) (at block number : ℕ) → t.due ≡ 0 → t.number ≡ Some number → ended t at block [] ≡ Ok t
  at-end t at block number d n =
      cond-false (is_inside t) (Err (Cut block)) (table_in t t.number) (le-ltb 0 t.due (omega arith)) ∙ ap (table_in t) n

  then-fold : (at : ℕ) (r : Result Table FeedFault) (u : Table) (lines : List Line) (more : Table → Result Table FoldFault) → ((v : Table) → lines_taken listing v lines ≡ Ok u → more v ≡ Ok u) → then_lines r (λ v. lines_taken listing v lines) ≡ Ok u → where_taken at r more ≡ Ok u
  then-fold at (Ok v) u lines more all e = all v e
  then-fold at (Err fault) u lines more all e = cc

  same-table : (listing : Listing) (t u : Table) → lines_taken listing t [] ≡ Ok u → t ≡ u
  same-table l t u e = cc

  pub fold-lines : (t u : Table) (at block number : ℕ) (texts : List (List ℕ)) (lines : List Line) → AreRead texts lines → lines_taken listing t lines ≡ Ok u → u.due ≡ 0 → u.number ≡ Some number → fold_from listing t at block (texts ++ [] ∷ []) ≡ Ok u
  fold-lines t u at block number [] [] r e d n =
      let same = same-table listing t u e in
      ap (λ (v : Table). ended v at block []) same ∙ at-end u at block number d n
  fold-lines t u at block number [] (line ∷ lines) r e d n = absurd r
  fold-lines t u at block number (text ∷ texts) [] r e d n = absurd r
  fold-lines t u at block number (text ∷ texts) (line ∷ lines) r e d n =
      let more : Table → Result Table FoldFault = λ v. fold_from listing v (at + length text + 1) (next_block t at block) (texts ++ [] ∷ []) in
      one-line t at block text texts
      ∙ ap (λ (q : Result Table FeedFault). where_taken at q more) (text-taken t text line r.0)
      ∙ then-fold at (line_taken listing.max_orders t line) u lines more (λ v f. fold-lines v u (at + length text + 1) (next_block t at block) number texts lines r.1 f d n) e

  -- ---- blocks that can be read

  abbrev pub AllWritten : List Row → Type 0
  AllWritten rows = AllByRecursion (IsWritten listing) rows

  pub record IsReadable (numbers : ℕ) (rows : List Row) : Type 0 where
    pub low : numbers ≤ greatest_number
    pub few : length rows ≤ greatest_number
    pub written : AllWritten rows

  abbrev pub AreReadable : List Block → Type 0
  AreReadable [] = Unit {0}
  AreReadable (Snapshot number rows ∷ blocks) = IsReadable number rows × AreReadable blocks
  AreReadable (Increment number last rows ∷ blocks) = (last ≤ greatest_number) × IsReadable number rows × AreReadable blocks

  rows-read : (rows : List Row) → AllWritten rows → AreRead (map (row_line listing.instruments) rows) (map kind.Row rows)
  rows-read [] h = tt
  rows-read (r ∷ rows) h = (record { read = row-read listing right r h.0; is_line = row-is-line listing right r h.0 }, rows-read rows h.1)

  pub blocks-read : (blocks : List Block) → AreReadable blocks → AreRead (flat_map (block_lines listing.instruments) blocks) (flat_map block_lines_of blocks)
  blocks-read [] h = tt
  blocks-read (Snapshot number rows ∷ blocks) h =
      let b = h.0 in (
        record { read = snapshot-read listing right number (length rows) b.low b.few; is_line = snapshot-is-line listing right number (length rows) b.low b.few },
        read-append (map (row_line listing.instruments) rows) (flat_map (block_lines listing.instruments) blocks) (map kind.Row rows) (flat_map block_lines_of blocks) (rows-read rows b.written) (blocks-read blocks h.1),
      )
  blocks-read (Increment number last rows ∷ blocks) h =
      let b = h.1 in (
        record { read = increment-read listing right number last (length rows) b.low h.0 b.few; is_line = increment-is-line listing right number last (length rows) b.low h.0 b.few },
        read-append (map (row_line listing.instruments) rows) (flat_map (block_lines listing.instruments) blocks) (map kind.Row rows) (flat_map block_lines_of blocks) (rows-read rows b.written) (blocks-read blocks h.2),
      )

  -- ---- the blocks of a feed can be read

  written : (rows : List Row) → AllByRecursion (IsPriced listing) rows → AllByRecursion IsShown rows → AllWritten rows
  written [] p s = tt
  written (r ∷ rows) p s = (record { priced = p.0; few_lots = s.0.few_lots; few_orders = s.0.few_orders }, written rows p.1 s.1)

  gone-written : (rows : List Row) → AllByRecursion (IsPriced listing) rows → AllWritten (map gone_row rows)
  gone-written [] p = tt
  gone-written (r ∷ rows) p =
      let q = p.0 in
      (record { priced = record { listed = q.listed; in_range = q.in_range; on_tick = q.on_tick }; few_lots = omega arith; few_orders = omega arith }, gone-written rows p.1)

  length-filter : (p : Row → Bool) (rows : List Row) → length (filter p rows) ≤ length rows
  length-filter p [] = omega arith
  length-filter p (r ∷ rows) =
      let more = length-filter p rows in
      elim (p r) as (λ (b : Bool). length (cond b (r ∷ filter p rows) (filter p rows)) ≤ suc (length rows)) [ true ↦ omega arith | false ↦ omega arith ]

  length-gone : (rows : List Row) → length (map gone_row rows) ≡ length rows
  length-gone [] = refl
  length-gone (r ∷ rows) = ap suc (length-gone rows)

  levels-readable : (number : ℕ) (rows : List Row) → number ≤ greatest_number → AreLevels listing rows → IsReadable number rows
  levels-readable number rows low are =
      let few = are.few in
      let most = right.few in
      record { low = low; few = omega arith; written = written rows are.priced are.shown }

  difference-readable : (number : ℕ) (old new : List Row) → number ≤ greatest_number → AreLevels listing old → AreLevels listing new → IsReadable number (difference old new)
  difference-readable number old new low o n =
      let p = λ (r : Row). not (list_any (is_at_level r) new) in
      let q = λ (r : Row). not (list_any (is_same_row r) old) in
      let most = right.few in
      let few-old = o.few in
      let few-new = n.few in
      record {
        low = low;
        few = omega (arith, length-append (gone old new) (changed old new), length-gone (filter p old), length-filter p old, length-filter q new);
        written = all-append (IsWritten listing) (gone old new) (changed old new) (gone-written (filter p old) (all-filter (IsPriced listing) p old o.priced)) (all-filter (IsWritten listing) q new (written new n.priced n.shown));
      }

  module _ (total : ℕ) (at : ℕ → List Row) (levels : (m : ℕ) → AreLevels listing (at m)) (low : total ≤ greatest_number) where
    pub chain-readable : (last : ℕ) (blocks back : List Block) → Chain listing total at levels last (blocks ++ back) → AreReadable blocks
    chain-readable last [] back h = tt
    chain-readable last (Snapshot number rows ∷ blocks) back h =
        let s = h.0 in
        let within = s.within in
        (subst (IsReadable number) (sym s.is) (levels-readable number (at number) (omega arith) (levels number)), chain-readable number blocks back h.1)
    chain-readable last (Increment number before rows ∷ blocks) back h =
        let s = h.0 in
        let within = s.within in
        let behind = s.behind in
        let names = s.names in (
          omega arith,
          subst (IsReadable number) (sym s.is) (difference-readable number (at last) (at number) (omega arith) (levels last) (levels number)),
          chain-readable number blocks back h.1,
        )

-- ---- the law

pub folds-at-blocks : FoldsAtBlocks
folds-at-blocks listing levels part back number right are few p =
    let all = all-are-levels listing levels are in
    let taken = part-takes listing levels are part back number p in
    let readable = chain-readable listing right (length levels) (levels_at levels) all (omega arith) (last_number 0 p.front) part back (part-chain listing levels are part back number p) in
    let texts = flat_map (block_lines listing.instruments) part in
    let lines = flat_map block_lines_of part in
    let read = blocks-read listing right part readable in
    ap rows_of (
    ap (fold_from listing empty_table 0 0) (pieces-of-lines texts (all-lack listing right texts lines read))
    ∙ fold-lines listing right empty_table taken.table 0 0 number texts lines read taken.takes taken.is_done taken.is_number)
    ∙ ap Ok taken.is_rows

pub folds-between-blocks : FoldsBetweenBlocks
folds-between-blocks listing levels part back number m right are few p low high later =
    folds-at-blocks listing levels part back number right are few p
    ∙ ap Ok (sym (part-still listing levels are part back number p m low high later))
