-- The number of some rows, written into the gap in front of them.
use Rattle.std.proofs.Common.{◌≡◌, ℕ, ◌+◌, ◌*◌, ◌≤◌, List, ◌++◌, length, take, drop, refl, sym, ap, ◌∙◌, append_assoc, length-append, arith}
use Rattle.std.specs.Int.{w32, to_be_bytes}
use Rattle.std.specs.List.{flat_map}
use Rattle.std.proofs.lemmas.List.{take-append-drop, take_at, drop_at, length-take-le}
use Rattle.std.proofs.Math.Seq.{take-add}
use Rattle.plain_book.specs.declared.entry.Entry.{Entry}
use Rattle.book_image.specs.declared.format.TheConstants.{ROW_BYTES, COUNT_BYTES}
use Rattle.book_image.specs.Rows.{count_bytes}
use Rattle.book_image.specs.Image.{entry_row, rows_bytes}
use Rattle.book_image.specs.Inner.Writing.{Appends, AppendsRows}

length-count : (n : ℕ) → length (to_be_bytes w32 n) ≡ 4
length-count n = refl

-- what stands up to the end of the text once the gap is filled
module _ (front gap text behind count mid new : List ℕ) (at between end : ℕ) where
  filled-text : mid ≡ ((front ++ gap) ++ text) ++ behind → length front ≡ at → length (front ++ gap) ≡ between → length count ≡ length gap → end ≡ between + length text
      → new ≡ take at mid ++ (count ++ drop between mid) → take end new ≡ front ++ (count ++ text)
  filled-text is front_is gap_is count_is end_is new_is =
      let before : take at mid ≡ front =
      ap (take at) (is ∙ append_assoc (front ++ gap) text behind ∙ append_assoc front gap (text ++ behind)) ∙ take_at front (gap ++ (text ++ behind)) at front_is in
      let after : drop between mid ≡ text ++ behind = ap (drop between) (is ∙ append_assoc (front ++ gap) text behind) ∙ drop_at (front ++ gap) (text ++ behind) between gap_is in
      let all : new ≡ (front ++ (count ++ text)) ++ behind =
      new_is
      ∙ ap (λ (l : List ℕ). l ++ (count ++ drop between mid)) before
      ∙ ap (λ (l : List ℕ). front ++ (count ++ l)) after
      ∙ ap (λ (l : List ℕ). front ++ l) (sym (append_assoc count text behind))
      ∙ sym (append_assoc front (count ++ text) behind) in
      let long : length (front ++ (count ++ text)) ≡ end =
      omega (arith, length-append front (count ++ text), length-append count text, length-append front gap, front_is, gap_is, count_is, end_is) in
      ap (take end) all ∙ take_at (front ++ (count ++ text)) behind end long

-- rows after a gap, and then their number in it
pub filled-rows : (old mid new : List ℕ) (at end n : ℕ) (es : List Entry)
    → at + COUNT_BYTES + ROW_BYTES * length es ≤ length old → AppendsRows old mid (at + COUNT_BYTES) end es → n ≡ length es
    → new ≡ (take at mid ++ count_bytes n) ++ drop (at + COUNT_BYTES) mid → length new ≡ length mid
    → Appends old new at end (COUNT_BYTES + ROW_BYTES * length es) (rows_bytes es)
filled-rows old mid new at end n es room rows n_is is size =
    let text = flat_map entry_row es in
    let front = take at old in
    let gap = take COUNT_BYTES (drop at old) in
    let count = count_bytes (length es) in
    let two : take (at + COUNT_BYTES) old ≡ front ++ gap = take-add at COUNT_BYTES old in
    let part : take end mid ≡ (front ++ gap) ++ text = rows.written ∙ ap (λ (l : List ℕ). l ++ text) two in
    let here : length (take at old) ≡ at = length-take-le at old (omega (arith, room)) in
    let gap_is : length (front ++ gap) ≡ at + COUNT_BYTES = ap (λ (l : List ℕ). length l) (sym two) ∙ length-take-le (at + COUNT_BYTES) old (omega (arith, room)) in
    let upto : length (take end mid) ≡ end = length-take-le end mid (omega (arith, room, rows.ends, rows.size)) in
    let numbered : new ≡ take at mid ++ (count ++ drop (at + COUNT_BYTES) mid) =
    is ∙ append_assoc (take at mid) (count_bytes n) (drop (at + COUNT_BYTES) mid) ∙ ap (λ (k : ℕ). take at mid ++ (count_bytes k ++ drop (at + COUNT_BYTES) mid)) n_is in
    let four : length count ≡ 4 = length-count (length es) in
    let short : length gap ≡ 4 = omega (arith, length-append front gap, here, gap_is) in
    let ends : end ≡ (at + COUNT_BYTES) + length text = omega (arith, upto, ap (λ (l : List ℕ). length l) part, length-append (front ++ gap) text, gap_is) in
    let mid_is : mid ≡ ((front ++ gap) ++ text) ++ drop end mid = sym (take-append-drop end mid) ∙ ap (λ (l : List ℕ). l ++ drop end mid) part in
    record {
      written = filled-text front gap text (drop end mid) count mid new at (at + COUNT_BYTES) end mid_is here gap_is (four ∙ sym short) ends numbered;
      ends = omega (arith, rows.ends);
      size = size ∙ rows.size;
    }
