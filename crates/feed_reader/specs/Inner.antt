-- What the private functions of this crate promise each other. A reader need not believe any of it.
use Rattle.std.specs.Prelude.{◌≡◌, ◌≤◌, ℕ, ◌+◌, ◌==◌, false, List, ◌++◌, length, Result, Err}
use Rattle.std.specs.List.{AllByRecursion}
use Rattle.level_feed.specs.Lines.{Listing}
use Rattle.level_feed.specs.Tables.{Table, longest_line}
use Rattle.level_feed.specs.Folds.{FoldFault, Broken, pieces_of, fold_from}
use Rattle.feed_reader.specs.declared.reading.BrokenLine.{BrokenLine}

-- how far a feed is read
pub record Place : Type 0 where
  -- the offset of the last block
  pub block : ℕ
  -- the offset of the line that is not whole, and what was read of it
  pub at : ℕ
  pub kept : List ℕ

-- how many bytes were read
abbrev pub end_of : Place → ℕ
end_of p = p.at + length p.kept

-- there is no line feed
abbrev pub HasNoEnd : List ℕ → Type 0
HasNoEnd text = AllByRecursion (λ c. (c == 10) ≡ false) text

-- the front of a line
pub record IsFront (kept : List ℕ) : Type 0 where
  pub no_end : HasNoEnd kept
  pub short : length kept ≤ longest_line

-- the fold from here on, if these bytes come next
abbrev pub fold_on : Listing → Table → Place → List ℕ → Result Table FoldFault
fold_on listing t p bytes = fold_from listing t p.at p.block (pieces_of (p.kept ++ bytes))

-- these bytes were taken, and whatever comes next, the fold goes on from there
pub record GoesOn (listing : Listing) (t : Table) (p : Place) (bytes : List ℕ) (u : Table) (q : Place) : Type 0 where
  pub folds : (more : List ℕ) → fold_on listing t p (bytes ++ more) ≡ fold_on listing u q more
  pub place : end_of q ≡ end_of p + length bytes
  pub front : IsFront q.kept

-- among these bytes is the first line with a fault, whatever comes next
abbrev pub IsBrokenAt : Listing → Table → Place → List ℕ → BrokenLine → Type 0
IsBrokenAt listing t p bytes broken = (more : List ℕ) → fold_on listing t p (bytes ++ more) ≡ Err (Broken broken.at broken.fault)
